-- The first element that passes a test.
use Rattle.std.proofs.Common.{◌≡◌, ◌⊎◌, inl, inr, ℕ, ◌<◌, ◌≤◌, Bool, true, false, List, Option, Some, None, length, get_or, slice_get, refl, sym, ap, subst, ◌∙◌, arith, true≢false, ◌==◌}
use Rattle.std.specs.List.{Contains, find}
use Rattle.std.proofs.lemmas.Bool.{cases_lt, eq-eqb, eqb-true, ne_eqb}
use Rattle.std.proofs.lemmas.List.{get_or-map, get_or_default, length-map}
use Rattle.std.proofs.lemmas.Option.{slice_get-get_or, slice_get_past}
use Rattle.std.specs.Option.{option_map}
use Rattle.esc_term.specs.declared.term.Term.{Term}
use Rattle.esc_simplex.specs.Senses.{StandsFor, sense_of, senses_of, term}
use Rattle.esc_index.specs.Places.{HasNone, IsLastBefore, entry_at}
use Rattle.esc_simplex.specs.KeyedInside.{HasKeys, bound_node, made_key, term_key}
use Rattle.esc_simplex.specs.View.{bound_to}
use Rattle.esc_simplex.proofs.Keyed.{keyed_at, keyed_length}
use Rattle.esc_simplex.specs.declared.made.Made.{Made}
use Rattle.esc_simplex.specs.declared.made.Made.TheVariants as made
use Rattle.std.proofs.lemmas.List.Folds.{find_at}
use Rattle.std.proofs.lemmas.List.Sums.{position_or_len_is}

-- at the place before which none passes
pub find_first : {X : Type 0} (p : X → Bool) (xs : List X) (i : ℕ) (d : X) → i < length xs
    → ((k : ℕ) → k < i → p (get_or xs k d) ≡ false) → p (get_or xs i d) ≡ true → find p xs
    ≡ slice_get xs i
find_first p xs i d inside before passes =
    find_at p xs ∙ ap (slice_get xs) (position_or_len_is p xs i d (omega arith) before
    (λ _. passes))

-- nowhere
pub find_none : {X : Type 0} (p : X → Bool) (xs : List X) (d : X)
    → ((k : ℕ) → k < length xs → p (get_or xs k d) ≡ false) → find p xs ≡ slice_get xs (length xs)
find_none p xs d none = find_at p xs ∙ ap (slice_get xs)
    (position_or_len_is p xs (length xs) d (omega arith) none (λ h. absurd (omega arith)))

-- a number that is not at any place is not in the list
pub not_listed : (us : List ℕ) (u : ℕ) → ((k : ℕ) → k < length us → (get_or us k 0 == u) ≡ false)
    → Contains us u → ⊥
not_listed us u none h =
    absurd (true≢false (sym (eq-eqb (get_or us h.0 0) u (get_or_default us h.0 0 u h.1 ∙ h.2))
    ∙ none h.0 h.1))

pub listed_at : (us : List ℕ) (u k w : ℕ) → k < length us → w ≡ get_or us k w → (w == u) ≡ true
    → Contains us u
listed_at us u k w inside read same = (
  k,
  inside,
  get_or_default us k u w inside ∙ sym read
      ∙ eqb-true w u same,
)

-- the unknown of the first pair with the node
pub bound_at : (bound : List (ℕ × ℕ)) (a k : ℕ) (r s : ℕ × ℕ) → k < length bound
    → ((i : ℕ) → i < k → ((get_or bound i (0, 0)).0 == a) ≡ false) → ((get_or bound k s).0 == a)
    ≡ true → Some (get_or bound k r).1 ≡ bound_to bound a
bound_at bound a k r s inside before passes =
    let read : get_or bound k s ≡ get_or bound k (0, 0) = get_or_default bound k s (0, 0) inside in
    let found : find (λ (pair : ℕ × ℕ). pair.0 == a) bound ≡ Some (get_or bound k r) =
    find_first (λ (pair : ℕ × ℕ). pair.0 == a) bound k (0, 0) inside before
    (ap (λ (pair : ℕ × ℕ). pair.0 == a) (sym read) ∙ passes)
    ∙ slice_get-get_or bound k r inside in
    sym (ap (option_map (λ (pair : ℕ × ℕ). pair.1)) found)

pub bound_nowhere : (bound : List (ℕ × ℕ)) (a : ℕ)
    → ((i : ℕ) → i < length bound → ((get_or bound i (0, 0)).0 == a) ≡ false) → None
    ≡ bound_to bound a
bound_nowhere bound a none =
    sym (ap (option_map (λ (pair : ℕ × ℕ). pair.1))
    (find_none (λ (pair : ℕ × ℕ). pair.0 == a) bound (0, 0) none
    ∙ slice_get_past bound (length bound) (omega arith)))

-- ---- entries that were made for a term

pub stands_made : (ms : List Made) (t : Term) (u : ℕ) (m : Made) → u < length ms → get_or ms u m
    ≡ made.Term t → StandsFor (senses_of ms) u (term t)
unfolding senses_of
stands_made ms t u m inside is = record {
  there = omega (arith, inside, length-map ms (sense_of ms));
  is = get_or-map (sense_of ms) ms u m _ inside ∙ ap (sense_of ms) is;
}

made_of_sense : (ms : List Made) (m : Made) (t : Term) → sense_of ms m ≡ term t → m ≡ made.Term t
made_of_sense ms (made.Term s) t e = cc
made_of_sense ms (made.Gap u w strict) t e = absurd (cc)

pub made_for : (ms : List Made) (t : Term) (u : ℕ) (m : Made) → StandsFor (senses_of ms) u (term t)
    → (u < length ms) × (get_or ms u m ≡ made.Term t)
unfolding senses_of
made_for ms t u m for =
    let inside : u < length ms = omega (arith, for.there, length-map ms (sense_of ms)) in (
      inside,
      made_of_sense ms (get_or ms u m) t
          (sym (get_or-map (sense_of ms) ms u m _ inside) ∙ for.is),
    )

-- ---- by an index

-- the unknown that is found last, going back from the end, is that of the first pair
pub bound_back : (bound : List (ℕ × ℕ)) (entries : List (ℕ × ℕ)) (a end : ℕ) (found : Option ℕ)
    → HasKeys bound_node bound entries → end ≤ length entries
    → (found ≡ None → end ≡ length entries)
    → ((u : ℕ) → found ≡ Some u → end < length entries)
    → (end < length entries → (entry_at entries end).0 ≡ a)
    → ((u : ℕ) → found ≡ Some u → (get_or bound end (0, 0)).1 ≡ u)
    → HasNone entries a 0 end → found ≡ bound_to bound a
bound_back bound entries a end found keys inside none some has unknown before = go found refl
  where
    long : length entries ≡ length bound
    long = keyed_length bound_node bound entries keys

    passed : (i : ℕ) → i < end → ((get_or bound i (0, 0)).0 == a) ≡ false
    passed i below = ne_eqb (get_or bound i (0, 0)).0 a
        (λ e. before i (omega arith) below (keyed_at bound_node bound entries keys i (0, 0)
        (omega (arith, long)) ∙ e))

    go : (r : Option ℕ) → found ≡ r → r ≡ bound_to bound a
    go None is = bound_nowhere bound a (λ i below. passed i (omega (arith, none is, long)))
    go (Some u) is =
        let there : end < length bound = omega (arith, some u is, long) in
        ap Some (sym (unknown u is))
        ∙ bound_at bound a end (0, 0) (0, 0) there passed
        (eq-eqb _ a (sym (keyed_at bound_node bound entries keys end (0, 0) there)
        ∙ has (some u is)))

-- an entry that stands before the one that is found last was made for another term
pub made_back : (ms : List Made) (entries : List (ℕ × ℕ)) (t : Term) (end place : ℕ)
    → HasKeys made_key ms entries → IsLastBefore entries (term_key t) end place
    → end ≤ length entries
    → ((k : ℕ) (m : Made) → end ≤ k → k < length ms → get_or ms k m ≡ made.Term t → ⊥)
    → ((m : Made) → get_or ms place m ≡ made.Term t → ⊥)
    → (k : ℕ) (m : Made) → place ≤ k → k < length ms → get_or ms k m ≡ made.Term t → ⊥
made_back ms entries t end place keys last inside past here k m from below is =
    go (cases_lt k end) (cases_lt place k)
  where
    go : (k < end) ⊎ (end ≤ k) → (place < k) ⊎ (k ≤ place) → ⊥
    go (inr h) _ = past k m h below is
    go (inl h) (inl l) = last.last k (omega arith) h
        (keyed_at made_key ms entries keys k m below ∙ ap made_key is)
    go (inl h) (inr l) =
        let at : k ≡ place = omega arith in
        here m (subst (λ i. get_or ms i m ≡ made.Term t) at is)

-- no entry was made for a term whose number no place has before the end
pub made_nowhere : (ms : List Made) (entries : List (ℕ × ℕ)) (t : Term) (end : ℕ)
    → HasKeys made_key ms entries → HasNone entries (term_key t) 0 end
    → ((k : ℕ) (m : Made) → end ≤ k → k < length ms → get_or ms k m ≡ made.Term t → ⊥)
    → (u : ℕ) → StandsFor (senses_of ms) u (term t) → ⊥
made_nowhere ms entries t end keys none past u for =
    let found = made_for ms t u (made.Term t) for in go found.0 found.1 (cases_lt u end)
  where
    go : u < length ms → get_or ms u (made.Term t) ≡ made.Term t → (u < end) ⊎ (end ≤ u) → ⊥
    go inside is (inl h) = none u (omega arith) h
        (keyed_at made_key ms entries keys u (made.Term t) inside ∙ ap made_key is)
    go inside is (inr h) = past u (made.Term t) h inside is
