-- What is known of a branch that was left open, and what is told of it.
use Rattle.std.specs.Prelude.{◌≡◌, true, false, List}
use Rattle.std.specs.List.{All, Contains}
use Rattle.esc_term.specs.declared.formula.Formula.{Formula}
use Rattle.esc_term.specs.declared.formula.Item.{Item}
use Rattle.esc_cover.specs.Arithmetic.{play_of}
use Rattle.esc_cover.specs.Counterexample.{AllCovered, AreLiteralsOf}
use Rattle.esc_cover.specs.Counterexample.{Counterexample as IsCounterexample}
use Rattle.esc_fact.specs.Fact.{IsFact, formulas_of}
use Rattle.esc_fact.specs.Legal.{IsClosedBase}
use Rattle.esc_fact.specs.declared.base.Base.{Base}
use Rattle.esc_fact.specs.declared.fact.Fact.{Fact}
use Rattle.esc_simplex.specs.View.{Allows, IsSimplex, numbers_in}
use Rattle.esc_simplex.specs.declared.simplex.Simplex.{Simplex}
use Rattle.esc_sharing.specs.Nodes.{classes_in}
use Rattle.esc_sharing.specs.Shared.{IsShared, Shared, literals_in, play_in, seen}
use Rattle.esc_sharing.specs.Unquantified.{HaveSameUnquantified, IsSamePlay}
use Rattle.esc_sharing.specs.declared.sharing.Sharing.{Sharing}
use Rattle.esc_outcome.specs.Found.{members_of, values_of}
use Rattle.esc_outcome.specs.Labels.{labels_of}
use Rattle.esc_outcome.specs.declared.counterexample.Counterexample.{Counterexample}

abbrev pub shared_of : Sharing Simplex → Shared
shared_of = seen IsSimplex Allows numbers_in

-- no formula is a literal with both signs
abbrev pub HaveOneSign : List Item → Type 0
HaveOneSign literals = (f : Formula) → Contains literals (record { formula = f; positive = true })
    → Contains literals (record { formula = f; positive = false }) → ⊥

-- the literals are those of a branch on which each live fact is covered, and the sharing has them
-- but for quantified formulas
pub record IsLeft (base : Base) (s : Sharing Simplex) (live : List Fact) (literals : List Item) :
    Type 0 where
  pub closed : IsClosedBase base
  pub are_facts : All (IsFact base) live
  pub shared : IsShared (shared_of s)
  pub play : IsSamePlay (play_in (shared_of s)) (play_of (formulas_of base live))
  pub asserted : HaveSameUnquantified (literals_in (shared_of s)) literals
  pub one_sign : HaveOneSign literals
  pub covered : AllCovered literals (classes_in s.graph) (formulas_of base live)
  pub are_literals : AreLiteralsOf (formulas_of base live) literals

-- the facts and the literals of the branch, its classes with their values, and its labels
pub record Tells (base : Base) (s : Sharing Simplex) (live : List Fact) (literals : List Item)
    (found : Counterexample) : Type 0 where
  pub facts : found.facts ≡ live
  pub literals_are : found.literals ≡ literals
  pub classes : members_of found.classes ≡ classes_in s.graph
  pub counterexample : IsCounterexample found.literals (members_of found.classes)
      (values_of found.classes) (formulas_of base found.facts)
  pub labels : found.labels ≡ labels_of found.literals (members_of found.classes)
      (formulas_of base found.facts)
