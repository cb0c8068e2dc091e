-- What a command does to the search and to what is in force.
use Rattle.std.specs.Prelude.{◌≡◌, ℕ, List, [], ◌∷◌, ◌++◌, Option, Some, None, length, reverse, take}
use Rattle.std.specs.List.{All}
use Rattle.std.specs.Option.{IsSome}
use Rattle.esc_term.specs.declared.formula.Formula.{Formula}
use Rattle.esc_term.specs.declared.term.Sym.{Sym}
use Rattle.esc_form.specs.declared.command.Kind.{Kind}
use Rattle.esc_form.specs.declared.command.Kind.TheVariants as kind
use Rattle.esc_report.specs.declared.report.Report.{Report}
use Rattle.esc_report.specs.declared.report.Report.TheVariants as report
use Rattle.esc_search.specs.declared.search.Search.{Search}
use Rattle.esc_session.specs.Back.{IsAgain, LeadsBack}
use Rattle.esc_session.specs.declared.batch.Batch.{Batch}
use Rattle.esc_session.specs.declared.session.Session.{Session}

-- all that is in force is as it was, and the search is as it was
pub record Rests (s t : Session) : Type 0 where
  pub base : t.base ≡ s.base
  pub batches : t.batches ≡ s.batches
  pub search : IsAgain s.search t.search

-- a batch of these formulas came, and ending it leads back to the search as it was
pub record Joins (s t : Session) (predicate : Option (Sym × ℕ)) (fs : List Formula) : Type 0 where
  pub batch : Batch
  pub batches : t.batches ≡ s.batches ++ batch ∷ []
  pub first : batch.first ≡ length s.base.background
  pub predicate_is : batch.predicate ≡ predicate
  pub base : t.base ≡ record s.base { background = s.base.background ++ fs }
  pub search : LeadsBack t.search (batch ∷ []) s.search

-- the newest push went, with the rules behind it: the search is as it was before that push
pub record Drops (s t : Session) : Type 0 where
  pub push : Batch
  pub rules : List Batch
  pub batches : s.batches ≡ t.batches ++ push ∷ rules
  pub is_push : push.predicate ≡ None
  pub are_rules : All (λ b. IsSome b.predicate) rules
  pub base : t.base ≡ record s.base { background = take push.first s.base.background }
  pub search : (older : List Batch) (u : Search)
      → LeadsBack s.search (reverse rules ++ push ∷ older) u → LeadsBack t.search older u

-- where the command is done
abbrev pub Does : Kind → Session → Session → Type 0
Does (kind.Goal f) s t = Rests s t
Does (kind.Push fs) s t = Joins s t None fs
Does kind.Pop s t = Drops s t
Does (kind.Define name count place (Some rule)) s t = Joins s t (Some (name, count)) (rule ∷ [])
Does (kind.Define name count place None) s t = Rests s t
Does kind.Prompt s t = Rests s t

abbrev pub Acts : Kind → Report → Session → Session → Type 0
Acts k report.Done s t = Does k s t
Acts k r s t = Rests s t
