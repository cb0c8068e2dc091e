-- Tests of any two places of a list, by the numbers of the places.
use Rattle.std.proofs.Common.{◌≡◌, ◌≢◌, ℕ, ℤ, zero, suc, ◌<◌, Bool, true, not, inl, inr, List, []}
use Rattle.std.proofs.Common.{◌∷◌, length, get_or, refl, sym, arith}
use Rattle.std.specs.List.{list_all, list_any}
use Rattle.std.specs.Ordering.{int_eq}
use Rattle.std.proofs.lemmas.Bool.{cases_order}
use Rattle.std.proofs.lemmas.Bool.Decides.{Decides-int_eq}
use Rattle.std.proofs.lemmas.List.Elements.{Contains-get_or}
use Rattle.esc_term.specs.declared.term.Term.{Term}
use Rattle.esc_term.specs.Interpretation.{all_apart}
use Rattle.esc_cover.specs.Cover.{every_two, some_two}
use Rattle.esc_cover.proofs.TestLemmas.{all_at, and_both, and_left, and_right, any_at, not_both}
use Rattle.esc_cover.proofs.TestLemmas.{not_true, or_left, or_right}

module _ {X : Type 0} (p : X → Bool) where
  all_places : (xs : List X) (d : X) → ((k : ℕ) → k < length xs → p (get_or xs k d) ≡ true) →
      list_all p xs ≡ true
  all_places [] d each = refl
  all_places (x ∷ xs) d each = and_both (p x) (list_all p xs) (each 0 (omega arith))
      (all_places xs d (λ k l. each (suc k) (omega (arith, l))))

module _ (test : Term → Term → Bool) where
  pub every_two_from : (ts : List Term) (d : Term) →
      ((i j : ℕ) → i < j → j < length ts → test (get_or ts i d) (get_or ts j d) ≡ true) →
      every_two test ts ≡ true
  every_two_from [] d each = refl
  every_two_from (t ∷ ts) d each =
      and_both (list_all (test t) ts) (every_two test ts)
      (all_places (test t) ts d (λ k l. each 0 (suc k) (omega arith) (omega (arith, l))))
      (every_two_from ts d
      (λ i j before l. each (suc i) (suc j) (omega (arith, before)) (omega (arith, l))))

  pub every_two_at : (ts : List Term) (d : Term) → every_two test ts ≡ true → (i j : ℕ) → i < j →
      j < length ts → test (get_or ts i d) (get_or ts j d) ≡ true
  every_two_at [] d e i j before l = absurd (omega (arith, l))
  every_two_at (t ∷ ts) d e i zero before l = absurd (omega (arith, before))
  every_two_at (t ∷ ts) d e zero (suc j) before l =
      all_at (test t) ts (get_or ts j d) (and_left (list_all (test t) ts) (every_two test ts) e)
      (Contains-get_or ts j d (omega (arith, l)))
  every_two_at (t ∷ ts) d e (suc i) (suc j) before l =
      every_two_at ts d (and_right (list_all (test t) ts) (every_two test ts) e) i j
      (omega (arith, before)) (omega (arith, l))

  pub some_two_at : (ts : List Term) (d : Term) (i j : ℕ) → i < j → j < length ts →
      test (get_or ts i d) (get_or ts j d) ≡ true → some_two test ts ≡ true
  some_two_at [] d i j before l e = absurd (omega (arith, l))
  some_two_at (t ∷ ts) d i zero before l e = absurd (omega (arith, before))
  some_two_at (t ∷ ts) d zero (suc j) before l e =
      or_left (list_any (test t) ts) (some_two test ts)
      (any_at (test t) ts (get_or ts j d) (Contains-get_or ts j d (omega (arith, l))) e)
  some_two_at (t ∷ ts) d (suc i) (suc j) before l e =
      or_right (list_any (test t) ts) (some_two test ts)
      (some_two_at ts d i j (omega (arith, before)) (omega (arith, l)) e)

apart_later : (ns : List ℤ) → all_apart ns ≡ true → (d : ℤ) (i j : ℕ) → i < j → j < length ns →
    get_or ns i d ≡ get_or ns j d → ⊥
apart_later [] e d i j before l same = omega (arith, l)
apart_later (n ∷ ns) e d i zero before l same = omega (arith, before)
apart_later (n ∷ ns) e d zero (suc j) before l same =
    let other : not (int_eq n (get_or ns j d)) ≡ true =
    all_at (λ m. not (int_eq n m)) ns (get_or ns j d)
    (and_left (list_all (λ m. not (int_eq n m)) ns) (all_apart ns) e)
    (Contains-get_or ns j d (omega (arith, l))) in
    not_both (int_eq n (get_or ns j d)) ((Decides-int_eq n (get_or ns j d)).1 same)
    (not_true (int_eq n (get_or ns j d)) other)
apart_later (n ∷ ns) e d (suc i) (suc j) before l same =
    apart_later ns (and_right (list_all (λ m. not (int_eq n m)) ns) (all_apart ns) e) d i j
    (omega (arith, before)) (omega (arith, l)) same

-- values that are apart differ at two places
pub apart_at : (ns : List ℤ) → all_apart ns ≡ true → (d : ℤ) (i j : ℕ) → i < length ns →
    j < length ns → i ≢ j → get_or ns i d ≡ get_or ns j d → ⊥
apart_at ns e d i j il jl other same =
    elim (cases_order i j) [
      | inl eq ↦ other eq
      | inr (inl lt) ↦ apart_later ns e d i j lt jl same
      | inr (inr gt) ↦ apart_later ns e d j i gt il (sym same)
    ]
