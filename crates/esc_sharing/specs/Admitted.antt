-- What the calls of a theory do to the assignments that it admits.
use Rattle.std.specs.Prelude.{◌≡◌, ◌≢◌, ◌↔◌, ℕ, false, List, [], ◌∷◌, take}
use Rattle.std.specs.Prelude.{Option, Some, None, Result, Ok, Err}
use Rattle.esc_term.specs.declared.term.Term.{Term}
use Rattle.esc_cover.specs.Assignment.{Assignment, Gap, NoneNegative, gap, value}
use Rattle.esc_union.specs.Merges.{SameClass}
use Rattle.esc_egraph.specs.Graph.{Graph, number_of}
use Rattle.esc_egraph.specs.declared.state.State.{State}
use Rattle.esc_egraph.specs.declared.state.State.TheVariants.{Open, Closed}
use Rattle.esc_simplex.specs.declared.stop.Stop.{Stop}
use Rattle.esc_sharing.specs.Nodes.{node_term}
use Rattle.esc_sharing.specs.Numbers.{IsNumber}

-- the gaps of two terms, neither of which is negative where the terms are equal
abbrev pub both_gaps : Term × Term → List Gap
both_gaps pair = gap pair.0 pair.1 false ∷ gap pair.1 pair.0 false ∷ []

-- those are admitted that were before and make none of these gaps negative
abbrev pub AdmitsWith : (Assignment → Type 0) → (Assignment → Type 0) → List Gap → Type 0
AdmitsWith Old New gaps = (x : Assignment) → New x ↔ (Old x × NoneNegative x gaps)

-- those that were before and make none of some of these gaps, from the front, negative
abbrev pub AdmitsWithSome : (Assignment → Type 0) → (Assignment → Type 0) → List Gap → Type 0
AdmitsWithSome Old New gaps = (n : ℕ) × AdmitsWith Old New (take n gaps)

-- Open where some admitted assignment makes none of the gaps negative, which then is asked of all,
-- and Closed where no assignment does
abbrev pub RestrictEnds : (Assignment → Type 0) → (Assignment → Type 0) → List Gap
    → Result State Stop → Type 0
RestrictEnds Old New gaps (Ok Open) = AdmitsWith Old New gaps
    × ((x : Assignment) × Old x × NoneNegative x gaps)
RestrictEnds Old New gaps (Ok Closed) = AdmitsWithSome Old New gaps
    × ((x : Assignment) → Old x → NoneNegative x gaps → ⊥)
RestrictEnds Old New gaps (Err stop) = AdmitsWithSome Old New gaps

-- ---- equalities

-- arithmetic nodes of one class have one value
abbrev pub AgreesOn : Graph → List (ℕ × Term) → Assignment → Type 0
AgreesOn g numbers x = (a b : ℕ) → IsNumber numbers a → IsNumber numbers b
    → SameClass (number_of g) a b → value x (node_term g a) ≡ value x (node_term g b)

-- two arithmetic nodes of different classes
pub record AreTwoNumbers (g : Graph) (numbers : List (ℕ × Term)) (a b : ℕ) : Type 0 where
  pub first : IsNumber numbers a
  pub second : IsNumber numbers b
  pub different : SameClass (number_of g) a b → ⊥

-- an admitted assignment gives them different values
abbrev pub ArePartedBy : (Assignment → Type 0) → Term → Term → Type 0
ArePartedBy Admits s t = (x : Assignment) × Admits x × (value x s ≢ value x t)

-- each admitted assignment gives them one value
abbrev pub AreEqualBy : (Assignment → Type 0) → Term → Term → Type 0
AreEqualBy Admits s t = (x : Assignment) → Admits x → value x s ≡ value x t

abbrev pub NextEnds : Graph → List (ℕ × Term) → (Assignment → Type 0)
    → Result (Option (ℕ × ℕ)) Stop → Type 0
NextEnds g numbers Admits (Ok None) = (a b : ℕ) → AreTwoNumbers g numbers a b
    → ArePartedBy Admits (node_term g a) (node_term g b)
NextEnds g numbers Admits (Ok (Some pair)) = AreTwoNumbers g numbers pair.0 pair.1
    × AreEqualBy Admits (node_term g pair.0) (node_term g pair.1)
NextEnds g numbers Admits (Err stop) = Unit {0}
