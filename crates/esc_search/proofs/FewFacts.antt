-- Distinct elements of a list are no more than it has.
use Rattle.std.proofs.Common.{◌≡◌, ℕ, ◌≤◌, suc, Bool, true, false, List, [], ◌∷◌, ◌++◌}
use Rattle.std.proofs.Common.{length, length-append, take, drop, refl, sym, ap, subst, ◌∙◌, inl}
use Rattle.std.proofs.Common.{inr, ◌⊎◌}
use Rattle.std.proofs.Common.{arith, Some}
use Rattle.std.specs.Prelude.{if◌then◌else◌, slice_get}
use Rattle.std.specs.List.{All, AllPairs, Contains, filter, filter_map}
use Rattle.esc_term.proofs.Members.{Contains-cases, Contains-here, Contains-later, Contains-none}
use Rattle.std.proofs.lemmas.Option.{slice_get-get_or}
use Rattle.esc_outcome.proofs.Paths.{parted_at}
use Rattle.esc_search.proofs.LiveFacts.{All-filter_map, slice_get-contained}

-- ---- distinct lists

abbrev pub IsDistinct : {X : Type 0} → List X → Type 0
IsDistinct [] = Unit {0}
IsDistinct (x ∷ xs) = (Contains xs x → ⊥) × IsDistinct xs

pub distinct_pairs : {X : Type 0} (xs : List X) → AllPairs (λ a b. a ≡ b → ⊥) xs → IsDistinct xs
distinct_pairs [] differ = tt
distinct_pairs (x ∷ xs) differ = (
  λ h. differ 0 (suc h.0) x (omega arith) (omega (arith, h.1)) (sym h.2),
  distinct_pairs xs (λ i j d before below.
      differ (suc i) (suc j) d (omega (arith, before)) (omega (arith, below))),
)

-- ---- tests

filter_behind : {X : Type 0} (b : Bool) (y x : X) (rest : List X)
    → Contains (if b then y ∷ rest else rest) x
    → ((b ≡ true) × (y ≡ x)) ⊎ Contains rest x
filter_behind true y x rest h = elim (Contains-cases y rest x h) [
  | inl same ↦ inl (refl, same)
  | inr later ↦ inr later
]
filter_behind false y x rest h = inr h

pub filter_contains : {X : Type 0} (p : X → Bool) (xs : List X) (x : X)
    → Contains (filter p xs) x → Contains xs x × (p x ≡ true)
filter_contains p [] x h = absurd (Contains-none x h)
filter_contains p (y ∷ ys) x h =
    elim (filter_behind (p y) y x (filter p ys) h) [
      | inl here ↦ (
        subst (λ z. Contains (y ∷ ys) z) here.1 (Contains-here y ys),
        ap p (sym here.1) ∙ here.0,
      )
      | inr later ↦
          let found = filter_contains p ys x later in
          (Contains-later y ys x found.0, found.1)
    ]

pub contains_filter : {X : Type 0} (p : X → Bool) (xs : List X) (x : X) → Contains xs x
    → p x ≡ true → Contains (filter p xs) x
contains_filter p [] x h holds = absurd (Contains-none x h)
contains_filter p (y ∷ ys) x h holds =
    elim (Contains-cases y ys x h) [
      | inl same ↦
          subst (λ b. Contains (if b then y ∷ filter p ys else filter p ys) x)
          (sym (ap p same ∙ holds))
          (subst (Contains (y ∷ filter p ys)) same (Contains-here y (filter p ys)))
      | inr later ↦ behind (p y) (contains_filter p ys x later holds)
    ]
  where
    behind : (b : Bool) → Contains (filter p ys) x
        → Contains (if b then y ∷ filter p ys else filter p ys) x
    behind true inside = Contains-later y (filter p ys) x inside
    behind false inside = inside

pub filter_distinct : {X : Type 0} (p : X → Bool) (xs : List X) → IsDistinct xs
    → IsDistinct (filter p xs)
filter_distinct p [] differ = tt
filter_distinct p (x ∷ xs) differ =
    go (p x) (λ h. differ.0 (filter_contains p xs x h).0) (filter_distinct p xs differ.1)
  where
    go : (b : Bool) → (Contains (filter p xs) x → ⊥) → IsDistinct (filter p xs)
        → IsDistinct (if b then x ∷ filter p xs else filter p xs)
    go true new rest = (new, rest)
    go false new rest = rest

-- ---- how many they are

removed : {X : Type 0} (before after : List X) (x z : X) → Contains (before ++ (x ∷ after)) z
    → (x ≡ z → ⊥) → Contains (before ++ after) z
removed [] after x z h other = elim (Contains-cases x after z h) [
  | inl same ↦ absurd (other same)
  | inr later ↦ later
]
removed (y ∷ before) after x z h other =
    elim (Contains-cases y (before ++ (x ∷ after)) z h) [
      | inl same ↦ subst (Contains (y ∷ (before ++ after))) same
          (Contains-here y (before ++ after))
      | inr later ↦ Contains-later y (before ++ after) z (removed before after x z later other)
    ]

pub few_among : {X : Type 0} (xs ys : List X) → IsDistinct xs
    → ((x : X) → Contains xs x → Contains ys x) → length xs ≤ length ys
few_among [] ys differ among = omega arith
few_among (x ∷ xs) ys differ among =
    let at = among x (Contains-here x xs) in
    let before = take at.0 ys in
    let after = drop (suc at.0) ys in
    let parts : ys ≡ before ++ (x ∷ after) =
    parted_at ys at.0 x (slice_get-get_or ys at.0 x at.1 ∙ ap Some at.2) in
    let few : length xs ≤ length (before ++ after) =
    few_among xs (before ++ after) differ.1 (λ z h.
    removed before after x z
    (subst (λ list. Contains list z) parts (among z (Contains-later x xs z h)))
    (λ same. differ.0 (subst (Contains xs) (sym same) h))) in
    omega (
      arith,
      few,
      ap length parts,
      length-append before (x ∷ after),
      length-append before after,
    )

-- ---- live facts

pub live_logged : {X : Type 0} (log : List X) (ks : List ℕ)
    → All (Contains log) (filter_map (slice_get log) ks)
live_logged log ks =
    All-filter_map (slice_get log) (Contains log) ks (λ place g h e.
    slice_get-contained log place g e)
