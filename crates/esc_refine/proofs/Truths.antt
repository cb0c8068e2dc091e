-- What decisions and literals say of an occurrence.
use Rattle.std.proofs.Common.{◌≡◌, ◌==◌, ◌⊎◌, inl, inr, ℕ, Bool, true, false, List, []}
use Rattle.std.proofs.Common.{◌∷◌, if◌then◌else◌, Option, Some, None, refl, ap, ap₂, sym, subst, ◌∙◌}
use Rattle.std.specs.List.{All, Contains, slice_get}
use Rattle.std.specs.Option.{IsSome, IsSomeAnd, option_and_then, option_map}
use Rattle.std.proofs.lemmas.Bool.Decides.{Decides-eqb}
use Rattle.std.proofs.lemmas.List.Elements.{All-cons, All-nil}
use Rattle.esc_term.proofs.Members.{Contains-here, Contains-later}
use Rattle.esc_term.specs.declared.formula.Formula.{Formula}
use Rattle.esc_term.specs.declared.formula.Item.{Item}
use Rattle.esc_cover.proofs.TestLemmas.{and_left, and_right}
use Rattle.esc_clause.specs.Laws.{IsSo}
use Rattle.esc_clause.specs.Occurrences.{formula_at, occurrences_of, signed}
use Rattle.esc_clause.specs.Refinement.{are_alike, by_decision, is_same_place, judged_by, truth_of}
use Rattle.esc_clause.specs.declared.decision.Decision.{Decision}
use Rattle.esc_clause.specs.declared.occurrence.Occurrence.{Occurrence}
use Rattle.esc_clause.specs.declared.truth.Truth.{Truth}
use Rattle.esc_clause.specs.declared.truth.Truth.TheVariants.{Yes, No, Open}
use Rattle.esc_live.specs.Promises.{decided_as}

-- ---- places

pub same_fact : (a b : Occurrence) → is_same_place a b ≡ true → a.fact ≡ b.fact
same_fact a b e =
    (Decides-eqb a.fact b.fact).0 (and_left (a.fact == b.fact) (a.place == b.place) e)

pub same_place : (a b : Occurrence) → is_same_place a b ≡ true → a.place ≡ b.place
same_place a b e =
    (Decides-eqb a.place b.place).0 (and_right (a.fact == b.fact) (a.place == b.place) e)

pub same_formula : (fs : List Formula) (a b : Occurrence) → is_same_place a b ≡ true
    → formula_at fs a ≡ formula_at fs b
same_formula fs a b e =
    ap₂ (λ fact place. option_and_then (λ f. slice_get (occurrences_of f) place)
    (slice_get fs fact)) (same_fact a b e) (same_place a b e)

-- ---- decisions

-- a decision on the occurrence says this of it
pub record IsDecidedBy (ds : List Decision) (item : Occurrence) (truth : Truth) : Type 0 where
  pub decision : Decision
  pub among : Contains ds decision
  pub here : is_same_place decision.at item ≡ true
  pub says : truth ≡ by_decision decision item

-- the occurrence was not decided, and the judge is asked
pub record IsLeftTo (judge : Occurrence → Truth) (ds : List Decision) (item : Occurrence)
    (truth : Truth) : Type 0 where
  pub undecided : All (λ d. is_same_place d.at item ≡ false) ds
  pub says : truth ≡ judge item

pub judged_cases : (judge : Occurrence → Truth) (ds : List Decision) (item : Occurrence)
    → IsLeftTo judge ds item (judged_by judge ds item)
    ⊎ IsDecidedBy ds item (judged_by judge ds item)
judged_cases judge [] item =
    inl (record {
      undecided = All-nil (λ (d : Decision). is_same_place d.at item ≡ false);
      says = refl;
    })
judged_cases judge (d ∷ ds) item =
    go (is_same_place d.at item) refl (judged_cases judge ds item)
  where
    other : (b : Bool) → is_same_place d.at item ≡ b → judged_by judge (d ∷ ds) item
        ≡ (if b then by_decision d item else judged_by judge ds item)
    other b e = ap (λ c. if c then by_decision d item else judged_by judge ds item) e

    go : (b : Bool) → is_same_place d.at item ≡ b
        → IsLeftTo judge ds item (judged_by judge ds item)
        ⊎ IsDecidedBy ds item (judged_by judge ds item)
        → IsLeftTo judge (d ∷ ds) item (judged_by judge (d ∷ ds) item)
        ⊎ IsDecidedBy (d ∷ ds) item (judged_by judge (d ∷ ds) item)
    go true e rest =
        inr (record {
          decision = d;
          among = Contains-here d ds;
          here = e;
          says = other true e;
        })
    go false e (inl left) =
        inl (record {
          undecided = All-cons (λ (x : Decision). is_same_place x.at item ≡ false) d ds e
              left.undecided;
          says = other false e ∙ left.says;
        })
    go false e (inr by) =
        inr (record {
          decision = by.decision;
          among = Contains-later d ds by.decision by.among;
          here = by.here;
          says = other false e ∙ by.says;
        })

-- what a decision says is never open
decided_never : (b : Bool) → truth_of b ≡ Open → ⊥
decided_never true e = cc
decided_never false e = cc

alike_so : (h p q : Bool) → truth_of (are_alike h (are_alike p q)) ≡ Yes → q ≡ are_alike h p
alike_so true true true e = refl
alike_so true true false e = cc
alike_so true false true e = cc
alike_so true false false e = refl
alike_so false true true e = cc
alike_so false true false e = refl
alike_so false false true e = refl
alike_so false false false e = cc

alike_not : (h p q : Bool) → truth_of (are_alike h (are_alike p q)) ≡ No → are_alike h p ≡ q → ⊥
alike_not true true true e is = cc
alike_not true true false e is = cc
alike_not true false true e is = cc
alike_not true false false e is = cc
alike_not false true true e is = cc
alike_not false true false e is = cc
alike_not false false true e is = cc
alike_not false false false e is = cc

-- an occurrence that is open was not decided
pub open_undecided : (judge : Occurrence → Truth) (ds : List Decision) (item : Occurrence)
    → judged_by judge ds item ≡ Open → All (λ d. is_same_place d.at item ≡ false) ds
open_undecided judge ds item e =
    elim (judged_cases judge ds item) [
      | inl left ↦ left.undecided
      | inr by ↦ let d = by.decision in
          absurd (decided_never (are_alike d.holds (are_alike d.at.positive item.positive))
          (sym by.says ∙ e))
    ]

at_once : (fact fact' place place' : ℕ) (positive positive' : Bool) → fact ≡ fact'
    → place ≡ place' → positive ≡ positive' →
    (let o : Occurrence = record { fact = fact; place = place; positive = positive } in o)
    ≡ record { fact = fact'; place = place'; positive = positive' }
at_once fact fact' place place' positive positive' f p s = cc

-- what was decided to be so is the decided occurrence
pub decided_is : (d : Decision) (item : Occurrence) → is_same_place d.at item ≡ true
    → by_decision d item ≡ Yes → item ≡ decided_as d
decided_is d item here e =
    at_once item.fact d.at.fact item.place d.at.place item.positive
    (are_alike d.holds d.at.positive) (sym (same_fact d.at item here))
    (sym (same_place d.at item here)) (alike_so d.holds d.at.positive item.positive e)

-- ---- formulas that are there

-- the formula there is so, with the sign of the occurrence
pub record IsThere (says : Item → Type 0) (fs : List Formula) (at : Occurrence) : Type 0 where
  pub of : Formula
  pub there : formula_at fs at ≡ Some of
  pub so : says (signed at.positive of)

pub there_from : (says : Item → Type 0) (fs : List Formula) (at : Occurrence) → IsSo says fs at
    → IsThere says fs at
there_from says fs at so = go (formula_at fs at) refl so
  where
    go : (o : Option Formula) → formula_at fs at ≡ o
        → IsSomeAnd (option_map (signed at.positive) o) says → IsThere says fs at
    go None e h = absurd h
    go (Some f) e h = record { of = f; there = e; so = h }

pub so_there : (says : Item → Type 0) (fs : List Formula) (at : Occurrence) (f : Formula)
    → formula_at fs at ≡ Some f → says (signed at.positive f) → IsSo says fs at
so_there says fs at f e h =
    subst (λ o. IsSomeAnd (option_map (signed at.positive) o) says) (sym e) h

pub so_from : (says : Item → Type 0) (fs : List Formula) (at : Occurrence) (f : Formula)
    → formula_at fs at ≡ Some f → IsSo says fs at → says (signed at.positive f)
so_from says fs at f e h =
    subst (λ o. IsSomeAnd (option_map (signed at.positive) o) says) e h

pub some_there : (fs : List Formula) (at : Occurrence) → IsSome (formula_at fs at)
    → (f : Formula) × (formula_at fs at ≡ Some f)
some_there fs at some = go (formula_at fs at) refl some
  where
    go : (o : Option Formula) → formula_at fs at ≡ o → IsSome o
        → (f : Formula) × (formula_at fs at ≡ Some f)
    go None e h = cc
    go (Some f) e h = (f, e)

some_same : {X : Type 0} (x y : X) → (let o : Option X = Some x in o) ≡ Some y → x ≡ y
some_same x y e = cc

-- where a decision is so, what it decided to fail is not
pub decided_not : (says : Formula → Bool) (fs : List Formula) (d : Decision) (item : Occurrence)
    → is_same_place d.at item ≡ true → by_decision d item ≡ No
    → IsSo (λ i. says i.formula ≡ i.positive) fs (decided_as d)
    → IsSo (λ i. says i.formula ≡ i.positive) fs item → ⊥
decided_not says fs d item here e decided so =
    let first = there_from (λ i. says i.formula ≡ i.positive) fs (decided_as d) decided in
    let second = there_from (λ i. says i.formula ≡ i.positive) fs item so in
    let same : first.of ≡ second.of =
    some_same first.of second.of
    (sym first.there ∙ (same_formula fs d.at item here ∙ second.there)) in
    alike_not d.holds d.at.positive item.positive e
    (sym first.so ∙ (ap says same ∙ second.so))
