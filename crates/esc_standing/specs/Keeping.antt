-- What is kept of the quantified formulas that are met in order.
use Rattle.std.specs.Prelude.{◌≡◌, ◌⊎◌, ℕ, Bool, List, [], ◌∷◌, ◌++◌, Some, map, slice_get}
use Rattle.std.specs.List.{All, enumerate_from, filter}
use Rattle.esc_term.specs.declared.term.Term.{Term}
use Rattle.esc_term.specs.declared.formula.Formula.{Formula}
use Rattle.esc_term.specs.declared.formula.Formula.TheViews.{out-Formula}
use Rattle.esc_term.specs.declared.formula.Quant.{Quant}
use Rattle.esc_cover.specs.Atoms.{atoms_of}
use Rattle.esc_trigger.specs.Triggers.{triggers}
use Rattle.esc_fact.specs.Base.{Quantified, whole}
use Rattle.esc_fact.specs.Depth.{deep, depth_behind}
use Rattle.esc_fact.specs.Fact.{IsFact, body_at, brings, closed_at}
use Rattle.esc_fact.specs.declared.base.Base.{Base}
use Rattle.esc_fact.specs.declared.fact.Fact.{Fact}
use Rattle.esc_rounds.specs.Branch.{is_quantified_form}
use Rattle.esc_rounds.specs.Origins.{Origin, origins_inside}
use Rattle.esc_rounds.specs.declared.kept.Kept.{Kept}
use Rattle.esc_standing.specs.Formulas.{AreBeside}
use Rattle.esc_standing.specs.Surveyed.{AreKept}
use Rattle.esc_standing.specs.declared.formulas.KeptFormulas.{KeptFormulas}

abbrev pub is_quantified_formula : Formula → Bool
is_quantified_formula f = is_quantified_form (out-Formula f)

-- the quantified atoms of a formula, in order
abbrev pub quantified_atoms : Formula → List Formula
quantified_atoms f = filter is_quantified_formula (atoms_of f)

-- the same, one form at a time
unfoldable pub outer_atoms : Formula → List Formula
outer_atoms f = quantified_atoms f

-- the origins at the places that are marked, the first of which has the number
abbrev pub marked : ℕ → List Term → List Bool → List Origin
marked start outer marks =
    map (λ place. record { number = place.0; outer = outer })
    (filter (λ place. place.1) (enumerate_from start marks))

abbrev pub IsClosedKept : KeptFormulas → Formula → Type 0
IsClosedKept formulas f = (place : ℕ) × (slice_get formulas.closed place ≡ Some f)

-- what is kept of a quantified formula where it is met first
abbrev pub kept_from : Origin → Bool → Quant → ℕ → Kept
kept_from o universal quant depth = record {
  number = o.number;
  outer = o.outer;
  universal = universal;
  count = quant.count;
  triggers = triggers quant;
  depth = depth;
}

-- the formula was not kept, and now is
pub record KeepsNew (depth : ℕ) (o : Origin) (f : Formula) (old new : KeptFormulas) : Type 0 where
  pub universal : Bool
  pub quant : Quant
  pub absent : IsClosedKept old f → ⊥
  pub is : whole (record { universal = universal; quant = quant; outer = 0 }) ≡ f
  pub kept : new.kept ≡ old.kept ++ kept_from o universal quant depth ∷ []
  pub closed : new.closed ≡ old.closed ++ f ∷ []

-- the formula is kept that was met at the origin
abbrev pub KeepsOne : ℕ → Origin → Formula → KeptFormulas → KeptFormulas → Type 0
KeepsOne depth o f old new = (IsClosedKept old f × (new ≡ old)) ⊎ KeepsNew depth o f old new

-- the formulas are kept that were met in order at the origins
abbrev pub Keeps : ℕ → List Origin → List Formula → KeptFormulas → KeptFormulas → Type 0
Keeps depth [] [] old new = new ≡ old
Keeps depth [] (f ∷ fs) old new = ⊥
Keeps depth (o ∷ os) [] old new = ⊥
Keeps depth (o ∷ os) (f ∷ fs) old new =
    (mid : KeptFormulas) × KeepsOne depth o f old mid × Keeps depth os fs mid new

-- the formula is what a quantified formula brings at the outer terms, where these terms stand for
-- all variables of its body
pub record IsBrought (outer inside : List Term) (formula : Formula) : Type 0 where
  pub q : Quantified
  pub terms : List Term
  pub holds : Bool
  pub joined : inside ≡ outer ++ terms
  pub is : formula ≡ brings holds (closed_at q outer) (body_at q outer terms)

-- the formulas are kept that are met in what a quantified formula brings
abbrev pub KeepsBrought : ℕ → ℕ → List Term → List Term → Formula → KeptFormulas → KeptFormulas
    → Type 0
KeepsBrought depth number outer inside formula old new =
    (b : IsBrought outer inside formula)
    → Keeps depth (origins_inside number outer b.terms b.q) (outer_atoms formula) old new

-- Where the quantified formulas of some facts are kept, those of one more are kept too.
pub record KeepsFormulas (base : Base) (fact : Fact) (depth : ℕ) (old new : KeptFormulas)
    : Type 0 where
  pub more : List Kept
  pub grown : new.kept ≡ old.kept ++ more
  pub all : (facts : List Fact) → All (IsFact base) facts → AreKept base facts old.kept
      → AreBeside base old.kept old.closed → depth ≡ depth_behind base (deep base facts) fact
      → AreKept base (facts ++ fact ∷ []) new.kept × AreBeside base new.kept new.closed
