-- What holds of formulas and what they expand to.
use Rattle.std.specs.Prelude.{◌≡◌, ◌⊎◌, Bool, IsTrue, Any, List, if◌then◌else◌}
use Rattle.std.specs.List.{All}
use Rattle.std.specs.Option.{IsSome, IsSomeAnd}
use Rattle.esc_term.specs.declared.term.Term.{Term}
use Rattle.esc_term.specs.declared.formula.Formula.{Formula}
use Rattle.esc_term.specs.declared.formula.Item.{Item}
use Rattle.esc_term.specs.Model.{Model}
use Rattle.esc_cover.specs.Counterexample.{IsConsistent}
use Rattle.esc_cover.specs.Cover.{cover}
use Rattle.esc_cover.specs.Laws.{HoldsIn}
use Rattle.esc_clause.specs.Expansion.{Expansion, AllOf, OneOfEach, Never, Literal, expanded}
use Rattle.esc_clause.specs.Occurrences.{item_at}
use Rattle.esc_clause.specs.declared.occurrence.Occurrence.{Occurrence}

-- there is a formula there, and with its sign it is so
abbrev pub IsSo : (Item → Type 0) → List Formula → Occurrence → Type 0
IsSo says fs at = IsSomeAnd (item_at fs at) says

-- an expansion is so: all of it, or one of each list; of a literal there is nothing to say
abbrev pub ExpansionIsSo : (Item → Type 0) → List Formula → Expansion → Type 0
ExpansionIsSo says fs (AllOf parts) = All (IsSo says fs) parts
ExpansionIsSo says fs (OneOfEach clauses) = All (Any (IsSo says fs)) clauses
ExpansionIsSo says fs Never = ⊥
ExpansionIsSo says fs Literal = Unit {0}

-- what a formula that has its sign in a model expands to is so in the model
abbrev pub ExpansionIsSound : Type 0
ExpansionIsSound =
    (M : Model) (fs : List Formula) (at : Occurrence) → IsSo (HoldsIn M) fs at
    → ExpansionIsSo (HoldsIn M) fs (expanded fs at)

-- literals and classes say that the formula has its sign
abbrev pub is_covered : List Item → List (List Term) → Item → Bool
is_covered literals classes item =
    if item.positive then (cover literals classes item.formula).holds
    else (cover literals classes item.formula).fails

abbrev pub IsCovered : List Item → List (List Term) → Item → Type 0
IsCovered literals classes item = IsTrue (is_covered literals classes item)

-- no formula is said both to hold and to fail
abbrev pub SaysNothingTwice : List Item → List (List Term) → Type 0
SaysNothingTwice literals classes =
    (f : Formula) → IsTrue (cover literals classes f).holds
    → IsTrue (cover literals classes f).fails → ⊥

-- consistent literals and classes say nothing twice
abbrev pub ConsistentSaysNothingTwice : Type 0
ConsistentSaysNothingTwice = (literals : List Item) (classes : List (List Term))
    → IsConsistent literals classes → SaysNothingTwice literals classes

-- where literals and classes cover what a formula that is there expands to, they cover the formula,
-- unless it is a literal
abbrev pub ExpansionIsComplete : Type 0
ExpansionIsComplete =
    (literals : List Item) (classes : List (List Term)) → SaysNothingTwice literals classes
    → (fs : List Formula) (at : Occurrence) → IsSome (item_at fs at)
    → ExpansionIsSo (IsCovered literals classes) fs (expanded fs at)
    → IsSo (IsCovered literals classes) fs at ⊎ (expanded fs at ≡ Literal)
