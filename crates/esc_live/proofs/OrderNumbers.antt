-- The sides of an order in a live fact are arithmetic.
use Rattle.std.proofs.Common.{◌≡◌, true, List, [], ◌∷◌, Some, ap, sym, subst}
use Rattle.std.specs.List.{Contains, flat_map}
use Rattle.esc_term.specs.declared.term.Term.{Term}
use Rattle.esc_term.specs.declared.formula.Formula.{Formula, out-Formula}
use Rattle.esc_term.specs.declared.formula.Formula.TheVariants.{Less}
use Rattle.esc_term.proofs.Members.{Contains-here, Contains-in_flat_map, Contains-later}
use Rattle.esc_cover.specs.Arithmetic.{is_arithmetic, is_arithmetic_in, order_sides}
use Rattle.esc_cover.specs.Arithmetic.{order_sides_form, play_of}
use Rattle.esc_cover.specs.Atoms.{atoms_of}
use Rattle.esc_cover.specs.Classes.{active_terms, has}
use Rattle.esc_cover.specs.Counterexample.{is_literal_form}
use Rattle.esc_cover.proofs.TestLemmas.{has-at, kept, or_right}
use Rattle.esc_clause.specs.Occurrences.{formula_at}
use Rattle.esc_clause.specs.declared.occurrence.Occurrence.{Occurrence}
use Rattle.esc_book.specs.Book.{IsLiveOccurrence}
use Rattle.esc_simplex.specs.View.{numbers_in}
use Rattle.esc_sharing.specs.Nodes.{terms_in}
use Rattle.esc_sharing.specs.Numbers.{number_terms}
use Rattle.esc_live.specs.Promises.{IsSharedOn}
use Rattle.esc_live.specs.StandingInside.{HasNumbers}
use Rattle.esc_live.specs.View.{live_on, logged}
use Rattle.esc_live.specs.declared.branch.LiveBranch.{LiveBranch}
use Rattle.esc_live.proofs.LiteralOn.{out-Less}
use Rattle.esc_live.proofs.LiveAtoms.{atom_of_live}

module _ (v : LiveBranch) (shared : IsSharedOn v) (at : Occurrence)
    (live : IsLiveOccurrence v.book at) (s t : Term)
    (there : formula_at (logged v) at ≡ Some (Less s t)) where
  side_is : (x : Term) → Contains (s ∷ t ∷ []) x → Contains (terms_in v.sharing.graph) x
      → Contains (number_terms (numbers_in v.sharing.theory)) x
  side_is x side inside =
      let fs = live_on v in
      (shared.play.numbers x).1
      (kept (is_arithmetic fs) (active_terms fs) x
      (subst (λ ts. Contains ts x) shared.play.terms inside)
      (or_right (is_arithmetic_in (active_terms fs) x) (has (order_sides fs) x)
      (has-at (order_sides fs) x
      (Contains-in_flat_map (λ (a : Formula). order_sides_form (out-Formula a))
      (flat_map atoms_of fs) (Less s t) x
      (atom_of_live v at live (Less s t) true there
      (ap (λ form. is_literal_form form true) (out-Less s t)))
      (subst (λ form. Contains (order_sides_form form) x) (sym (out-Less s t)) side)))))

pub has_numbers : (v : LiveBranch) → IsSharedOn v → (at : Occurrence)
    → IsLiveOccurrence v.book at → HasNumbers v at
has_numbers v shared at live s t there hs ht = (
  side_is v shared at live s t there s (Contains-here s (t ∷ [])) hs,
  side_is v shared at live s t there t (Contains-later s (t ∷ []) t (Contains-here t [])) ht,
)
