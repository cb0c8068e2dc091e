-- Replies answer commands.
use Rattle.std.proofs.Common.{ℕ, inl, inr, List, Option, None, refl}
use Rattle.esc_term.specs.declared.formula.Formula.{Formula}
use Rattle.esc_term.specs.declared.term.Sym.{Sym}
use Rattle.esc_form.specs.declared.command.Kind.TheVariants as kind
use Rattle.esc_report.specs.declared.report.Report.{Report}
use Rattle.esc_report.specs.declared.report.Report.TheVariants as report
use Rattle.esc_answers.specs.Answers.{Assumes}
use Rattle.esc_session.specs.Acts.{Acts, Joins, Rests}
use Rattle.esc_session.specs.SessionInside.{LeavesRest}
use Rattle.esc_session.specs.View.{state_of}
use Rattle.esc_session.specs.declared.session.Session.{Session}
use Rattle.esc_session.proofs.Again.{again_here}
use Rattle.esc_session.proofs.Answering.{state_joins, state_rests}

pub rests_here : (s : Session) → Rests s s
rests_here s = record { base = refl; batches = refl; search = again_here s.search }

-- ---- what is assumed

module _ (s t : Session) (place : ℕ) (predicate : Option (Sym × ℕ)) (fs : List Formula)
    (leaves : LeavesRest s t) where
  pub assumed_done : Joins s t predicate fs
      → Assumes (state_of s) place predicate fs report.Done (state_of t)
  assumed_done joins = inl (refl, state_joins s t predicate fs joins leaves.goals)

  pub lacking_memory : Rests s t
      → Assumes (state_of s) place predicate fs (report.Memory None place) (state_of t)
  lacking_memory rests = inr (refl, state_rests s t rests leaves.goals)

-- ---- goals

pub goal_rests : (f : Formula) (r : Report) (s t : Session) → Rests s t → Acts (kind.Goal f) r s t
goal_rests f (report.Valid goal log formulas) s t h = h
goal_rests f (report.Invalid goal found) s t h = h
goal_rests f (report.Unknown goal cause) s t h = h
goal_rests f (report.Memory goal place) s t h = h
goal_rests f (report.Refused place why) s t h = h
goal_rests f report.Done s t h = h
