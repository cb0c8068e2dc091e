-- Places among the formulas that are kept.
use Rattle.std.proofs.Common.{◌≡◌, ℕ, zero, suc, ◌+◌, ◌<◌, List, [], ◌∷◌, Some, sym, arith}
use Rattle.std.proofs.Common.{◌≤◌, ◌++◌, length, ◌∙◌, ap, inl, inr, subst, get_or, take, cond}
use Rattle.std.proofs.Common.{Bool, true, false, option_map}
use Rattle.std.proofs.lemmas.List.Elements.{filter_more}
use Rattle.std.proofs.lemmas.List.{append-nil}
use Rattle.std.proofs.lemmas.Bool.{cases_eq}
use Rattle.std.proofs.lemmas.Option.{slice_get_within}
use Rattle.std.specs.List.{AllZip, filter}
use Rattle.std.specs.Prelude.{slice_get, slice_index_or}
use Rattle.std.specs.Option.{option_and_then}
use Rattle.esc_term.specs.declared.formula.Formula.{Formula}
use Rattle.esc_term.specs.declared.term.Term.{Term}
use Rattle.esc_term.specs.Formula.{substituted}
use Rattle.esc_fact.specs.Base.{Quantified, quantified_in, whole}
use Rattle.esc_fact.specs.Fact.{closed_at}
use Rattle.esc_fact.specs.declared.base.Base.{Base}
use Rattle.esc_rounds.specs.Branch.{closed_with, formula_kept}
use Rattle.esc_rounds.specs.declared.kept.Kept.{Kept}
use Rattle.esc_standing.specs.Formulas.{AreBeside}

-- what is kept at the place of a closed formula is of that formula
pub kept_at : (base : Base) (kept : List Kept) (closed : List Formula) (place : ℕ) (f : Formula)
    → AreBeside base kept closed → slice_get closed place ≡ Some f
    → option_and_then (formula_kept base) (slice_get kept place) ≡ Some f
kept_at base [] [] place f b e = cc
kept_at base [] (g ∷ closed) place f b e = absurd b
kept_at base (k ∷ kept) [] place f b e = absurd b
kept_at base (k ∷ kept) (g ∷ closed) zero f b e = b.0 ∙ e
kept_at base (k ∷ kept) (g ∷ closed) (suc place) f b e = kept_at base kept closed place f b.1 e

-- the place is one of those kept
pub kept_within : (base : Base) (kept : List Kept) (closed : List Formula) (place : ℕ) (f : Formula)
    → AreBeside base kept closed → slice_get closed place ≡ Some f → place < length kept
kept_within base [] [] place f b e = cc
kept_within base [] (g ∷ closed) place f b e = absurd b
kept_within base (k ∷ kept) [] place f b e = absurd b
kept_within base (k ∷ kept) (g ∷ closed) zero f b e = omega arith
kept_within base (k ∷ kept) (g ∷ closed) (suc place) f b e =
    let l = kept_within base kept closed place f b.1 e in omega (arith, l)

-- a formula that is kept stands at its place of the closed ones
pub place_there : (base : Base) (kept : List Kept) (closed : List Formula) (f : Formula) (place : ℕ)
    (k : Kept) → AreBeside base kept closed → place < length kept
    → slice_index_or kept place k ≡ k → formula_kept base k ≡ Some f
    → slice_get closed place ≡ Some f
place_there base [] closed f place k b small at is = absurd (omega (arith, small))
place_there base (one ∷ kept) [] f place k b small at is = absurd b
place_there base (one ∷ kept) (g ∷ closed) f zero k b small at is =
    sym b.0 ∙ ap (formula_kept base) at ∙ is
place_there base (one ∷ kept) (g ∷ closed) f (suc place) k b small at is =
    place_there base kept closed f place k b.1 (omega (arith, small)) at is

-- one more of which none is the element
pub none_more : {X : Type 0} (xs : List X) (n : ℕ) (x y : X)
    → ((j : ℕ) → j < n → slice_get xs j ≡ Some y → ⊥) → slice_get xs n ≡ Some x → (x ≡ y → ⊥)
    → (j : ℕ) → j < n + 1 → slice_get xs j ≡ Some y → ⊥
none_more xs n x y before at other j small is =
    elim (cases_eq j n) [
      | inl e ↦ let same : Some x ≡ Some y =
          sym at ∙ sym (ap (slice_get xs) e) ∙ is in other cc
      | inr ne ↦ before j (omega (arith, ne, small)) is
    ]

-- none where none is at a place that is there
pub none_at_all : {X : Type 0} (xs : List X) (n : ℕ) (y : X)
    → ((j : ℕ) → j < n → slice_get xs j ≡ Some y → ⊥) → length xs ≤ n
    → (j : ℕ) → slice_get xs j ≡ Some y → ⊥
none_at_all xs n y before all j is =
    let l = slice_get_within xs j y is in before j (omega (arith, l, all)) is

-- ---- one more that passes a test, or does not

pub zip_more : {A B : Type 0} (R : A → B → Type 0) (xs : List A) (ys : List B) (x : A) (y : B)
    → AllZip R xs ys → R x y → AllZip R (xs ++ x ∷ []) (ys ++ y ∷ [])
zip_more R [] [] x y z r = (r, tt)
zip_more R [] (b ∷ ys) x y z r = absurd z
zip_more R (a ∷ xs) [] x y z r = absurd z
zip_more R (a ∷ xs) (b ∷ ys) x y z r = (z.0, zip_more R xs ys x y z.1 r)

next_of : {A : Type 0} (p : A → Bool) (xs : List A) (i : ℕ) (x : A) (b : Bool) → i < length xs
    → x ≡ get_or xs i x → p x ≡ b
    → filter p (take (i + 1) xs) ≡ filter p (take i xs) ++ cond b (x ∷ []) []
next_of p xs i x b small is passes =
    filter_more p xs i x small
    ∙ ap (λ z. filter p (take i xs) ++ cond (p z) (z ∷ []) []) (sym is)
    ∙ ap (λ c. filter p (take i xs) ++ cond c (x ∷ []) []) passes

pub zip_passed : {A B : Type 0} (R : A → B → Type 0) (p : A → Bool) (xs : List A) (ys : List B)
    (i : ℕ) (x : A) (y : B) → i < length xs → x ≡ get_or xs i x → p x ≡ true → R x y
    → AllZip R (filter p (take i xs)) ys → AllZip R (filter p (take (i + 1) xs)) (ys ++ y ∷ [])
zip_passed R p xs ys i x y small is passes r z =
    subst (λ zs. AllZip R zs (ys ++ y ∷ [])) (sym (next_of p xs i x true small is passes))
    (zip_more R (filter p (take i xs)) ys x y z r)

pub zip_skipped : {A B : Type 0} (R : A → B → Type 0) (p : A → Bool) (xs : List A) (ys : List B)
    (i : ℕ) (x : A) → i < length xs → x ≡ get_or xs i x → p x ≡ false
    → AllZip R (filter p (take i xs)) ys → AllZip R (filter p (take (i + 1) xs)) ys
zip_skipped R p xs ys i x small is fails z =
    subst (λ zs. AllZip R zs ys)
    (sym (next_of p xs i x false small is fails ∙ append-nil (filter p (take i xs)))) z

-- ---- the formula of a number

pub closed_is : (base : Base) (number : ℕ) (outer : List Term) (q : Quantified) (f g : Formula)
    → slice_get (quantified_in base) number ≡ Some q → whole q ≡ f → g ≡ substituted outer f
    → closed_with base number outer ≡ Some g
closed_is base number outer q f g at is same =
    ap (option_map (λ q. closed_at q outer)) at
    ∙ ap Some (ap (substituted outer) is ∙ sym same)
