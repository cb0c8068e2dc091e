-- How an expression that was read is answered.
use Rattle.std.proofs.Common.{ℕ, inl, inr, List, ◌∷◌, [], Option, Some, None, Ok}
use Rattle.esc_options.specs.declared.options.Limits.{Limits}
use Rattle.esc_sexp.specs.declared.sexp.Sexp.{Sexp}
use Rattle.esc_term.specs.declared.formula.Formula.{Formula}
use Rattle.esc_term.specs.declared.term.Sym.{Sym}
use Rattle.esc_read.specs.declared.fault.FormKind.{FormKind}
use Rattle.esc_names.specs.Rows.{HasDistinctRows}
use Rattle.esc_form.specs.Laws.{CommandsAreClosed, IsClosedKind, TablesAreNumbered}
use Rattle.esc_form.specs.declared.command.Command.{Command}
use Rattle.esc_form.specs.declared.command.Kind.{Kind}
use Rattle.esc_form.specs.declared.command.Kind.TheVariants as kind
use Rattle.esc_report.specs.declared.report.Refusal.TheVariants.{Form, NothingToPop, Redefined}
use Rattle.esc_report.specs.declared.report.Report.{Report}
use Rattle.esc_report.specs.declared.report.Report.TheVariants as report
use Rattle.esc_answers.specs.Answers.{AnswersKind, Assumes}
use Rattle.esc_answers.specs.State.{State}
use Rattle.esc_top.specs.Answers.{AnswersExpression, ReadsAs}

-- ---- no command is refused for its form

module _ (limits : Limits) (s t : State) (place at : ℕ) (what : FormKind) where
  none_assumes : (predicate : Option (Sym × ℕ)) (fs : List Formula)
      → Assumes s place predicate fs (report.Refused at (Form what)) t → ⊥
  none_assumes predicate fs (inl h) = let clash = h.0 in cc
  none_assumes predicate fs (inr h) = let clash = h.0 in cc

  well_formed : (k : Kind) → AnswersKind limits s place k (report.Refused at (Form what)) t → ⊥
  well_formed (kind.Goal f) h = h.0
  well_formed (kind.Push fs) h = none_assumes None fs h
  well_formed kind.Pop (inl h) = let clash = h.0 in cc
  well_formed kind.Pop (inr h) = let clash = h.0 in cc
  well_formed (kind.Define name count name_place (Some rule)) (inl h) =
      none_assumes (Some (name, count)) (rule ∷ []) h.0
  well_formed (kind.Define name count name_place (Some rule)) (inr h) = let clash = h.0 in cc
  well_formed (kind.Define name count name_place None) h = let clash = h.0 in cc
  well_formed kind.Prompt h = let clash = h.0 in cc

module _ (limits : Limits) (names : List (List ℕ)) (s t : State) (e : Sexp) (c : Command) where
  pub expression_answered : (r : Report) → ReadsAs names e (Ok c)
      → AnswersKind limits s c.place c.kind r t → AnswersExpression limits names s e r t
  expression_answered (report.Refused at (Form what)) reads h =
      absurd (well_formed limits s t c.place at what c.kind h)
  expression_answered (report.Refused at NothingToPop) reads h = inl (c, reads, h)
  expression_answered (report.Refused at Redefined) reads h = inl (c, reads, h)
  expression_answered (report.Valid n log formulas) reads h = inl (c, reads, h)
  expression_answered (report.Invalid n found) reads h = inl (c, reads, h)
  expression_answered (report.Unknown n cause) reads h = inl (c, reads, h)
  expression_answered (report.Memory n at) reads h = inl (c, reads, h)
  expression_answered report.Done reads h = inl (c, reads, h)

-- what is read by the names of a table is closed
pub read_closed : CommandsAreClosed → TablesAreNumbered → (names : List (List ℕ)) (e : Sexp)
    (c : Command) → HasDistinctRows names → ReadsAs names e (Ok c) → IsClosedKind c.kind
read_closed closed tables names e c distinct reads =
    let numbering = tables names distinct in
    closed e numbering.0 c (reads numbering.0 numbering.1)
