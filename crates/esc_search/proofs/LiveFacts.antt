-- The facts that are live, and their formulas.
use Rattle.std.proofs.Common.{◌≡◌, ℕ, ◌<◌, ◌+◌, zero, suc, true, List, [], ◌∷◌, ◌++◌, Option, Some}
use Rattle.std.proofs.Common.{None, length, take, get_or}
use Rattle.std.proofs.Common.{append-nil, append_assoc, refl, sym, ap, ap₂, subst, ◌∙◌, inl, inr}
use Rattle.std.proofs.Common.{arith}
use Rattle.std.specs.Prelude.{IsSome, slice_get}
use Rattle.std.specs.List.{All, AllZip, Contains, cons_option, filter_map, range_with_len}
use Rattle.std.specs.Option.{option_and_then}
use Rattle.std.proofs.lemmas.List.{length_push, take_more}
use Rattle.std.proofs.lemmas.List.Elements.{All-append, All-contains, All-cons, All-head, All-nil}
use Rattle.std.proofs.lemmas.List.Elements.{All-tail, All-weaker, filter_map-append}
use Rattle.std.proofs.lemmas.Option.{get_or_from_slice_get, same_Some, slice_get_within}
use Rattle.esc_term.proofs.Members.{Contains-cases, Contains-here, Contains-later, Contains-none}
use Rattle.esc_term.specs.declared.formula.Formula.{Formula}
use Rattle.esc_term.specs.Interpretation.{Interpretation, truth}
use Rattle.esc_term.specs.Refuted.{AllTrue}
use Rattle.esc_fact.specs.Fact.{IsFact, formula_of, formulas_of}
use Rattle.esc_fact.specs.Legal.{first_facts}
use Rattle.esc_fact.specs.declared.base.Base.{Base}
use Rattle.esc_sharing.proofs.Lists.{All-append_left, All-append_right}
use Rattle.esc_outcome.proofs.FirstFacts.{first_legal}
use Rattle.esc_outcome.proofs.Paths.{slice_get_append_left, slice_get_push}
use Rattle.esc_search.specs.Proving.{live_facts}
use Rattle.esc_search.specs.declared.search.Search.{Search}

-- ---- lists

all_from : {X : Type 0} (xs ys : List X)
    → filter_map (slice_get (xs ++ ys)) (range_with_len (length xs) (length ys)) ≡ ys
all_from xs [] = refl
all_from xs (y ∷ ys) =
    let whole : xs ++ (y ∷ ys) ≡ (xs ++ (y ∷ [])) ++ ys = sym (append_assoc xs (y ∷ []) ys) in
    let here : slice_get (xs ++ (y ∷ ys)) (length xs) ≡ Some y =
    ap (λ list. slice_get list (length xs)) whole
    ∙ (slice_get_append_left (xs ++ (y ∷ [])) ys (length xs) (omega (arith, length_push xs y))
    ∙ slice_get_push xs y) in
    ap₂ cons_option here
    (ap₂ (λ list n. filter_map (slice_get list) (range_with_len n (length ys))) whole
    (sym (length_push xs y))
    ∙ all_from (xs ++ (y ∷ [])) ys)

pub slice_get-contained : {X : Type 0} (xs : List X) (k : ℕ) (x : X) → slice_get xs k ≡ Some x
    → Contains xs x
slice_get-contained xs k x is =
    (k, slice_get_within xs k x is, get_or_from_slice_get xs k x x is)

none_some : {X : Type 0} (x : X) → None ≡ Some x → ⊥
none_some x e = cc

-- all places of a list give the list
pub filter_map-all_places : {X : Type 0} (xs : List X)
    → filter_map (slice_get xs) (range_with_len 0 (length xs)) ≡ xs
filter_map-all_places xs = all_from [] xs

module _ {X Y : Type 0} (h : X → Option Y) where
  pub length-filter_map : (xs : List X) → All (λ x. IsSome (h x)) xs
      → length (filter_map h xs) ≡ length xs
  length-filter_map [] all = refl
  length-filter_map (x ∷ xs) all =
      one (h x) (All-head (λ y. IsSome (h y)) x xs all)
      ∙ ap suc (length-filter_map xs (All-tail (λ y. IsSome (h y)) x xs all))
    where
      one : (o : Option Y) → IsSome o
          → length (cons_option o (filter_map h xs)) ≡ suc (length (filter_map h xs))
      one None e = absurd (cc)
      one (Some y) e = refl

-- ---- elements by what they are read as

cons_both : {X Y : Type 0} (h : X → Option Y) (o : Option X) (xs : List X)
    → cons_option (option_and_then h o) (filter_map h xs) ≡ filter_map h (cons_option o xs)
cons_both h None xs = refl
cons_both h (Some x) xs = refl

module _ {X Y : Type 0} (h : X → Option Y) where
  pub slice_get-filter_map : (xs : List X) → All (λ x. IsSome (h x)) xs → (k : ℕ)
      → slice_get (filter_map h xs) k ≡ option_and_then h (slice_get xs k)
  slice_get-filter_map [] all k = refl
  slice_get-filter_map (x ∷ xs) all k =
      one (h x) (All-head (λ y. IsSome (h y)) x xs all) refl
      (slice_get-filter_map xs (All-tail (λ y. IsSome (h y)) x xs all)) k
    where
      one : (o : Option Y) → IsSome o → h x ≡ o
          → ((i : ℕ) → slice_get (filter_map h xs) i ≡ option_and_then h (slice_get xs i))
          → (i : ℕ)
          → slice_get (cons_option o (filter_map h xs)) i ≡ option_and_then h (slice_get (x ∷ xs) i)
      one None some e later i = absurd (cc)
      one (Some y) some e later zero = sym e
      one (Some y) some e later (suc i) = later i

  -- each element stands beside what it is read as
  pub AllZip-filter_map : (xs : List X) → All (λ x. IsSome (h x)) xs
      → AllZip (λ x y. h x ≡ Some y) xs (filter_map h xs)
  AllZip-filter_map [] all = tt
  AllZip-filter_map (x ∷ xs) all =
      one (h x) refl (All-head (λ y. IsSome (h y)) x xs all)
      (AllZip-filter_map xs (All-tail (λ y. IsSome (h y)) x xs all))
    where
      one : (o : Option Y) → h x ≡ o → IsSome o
          → AllZip (λ z y. h z ≡ Some y) xs (filter_map h xs)
          → AllZip (λ z y. h z ≡ Some y) (x ∷ xs) (cons_option o (filter_map h xs))
      one None is some rest = absurd (cc)
      one (Some y) is some rest = (is, rest)

  -- what stands at some places, read before or behind
  pub filter_map-read : (xs : List X) → All (λ x. IsSome (h x)) xs → (ks : List ℕ)
      → filter_map (slice_get (filter_map h xs)) ks ≡ filter_map h (filter_map (slice_get xs) ks)
  filter_map-read xs all [] = refl
  filter_map-read xs all (k ∷ ks) =
      ap₂ cons_option (slice_get-filter_map xs all k) (filter_map-read xs all ks)
      ∙ cons_both h (slice_get xs k) (filter_map (slice_get xs) ks)

-- ---- facts

module _ (base : Base) where
  pub first_named : All (λ f. IsSome (formula_of base f)) (first_facts base)
  first_named = All-weaker (IsFact base) (λ f. IsSome (formula_of base f)) (λ f is. is.named)
      (first_facts base) (first_legal base).are_facts

  pub length-first : length (formulas_of base (first_facts base)) ≡ length (first_facts base)
  length-first = length-filter_map (formula_of base) (first_facts base) first_named

-- ---- formulas of some places

module _ {X Y : Type 0} (h : X → Option Y) (P : Y → Type 0) where
  -- what holds of the value of each element
  pub All-filter_map : (xs : List X) → ((x : X) (y : Y) → Contains xs x → h x ≡ Some y → P y)
      → All P (filter_map h xs)
  All-filter_map [] each = All-nil P
  All-filter_map (x ∷ xs) each =
      one (h x) refl
      (All-filter_map xs (λ z y there is. each z y (Contains-later x xs z there) is))
    where
      one : (o : Option Y) → h x ≡ o → All P (filter_map h xs)
          → All P (cons_option o (filter_map h xs))
      one None e all = all
      one (Some y) e all =
          All-cons P y (filter_map h xs) (each x y (Contains-here x xs) e) all

  pub All-of_filter_map : (xs : List X) → All P (filter_map h xs) → (x : X) (y : Y)
      → Contains xs x → h x ≡ Some y → P y
  All-of_filter_map [] all x y there is = absurd (Contains-none x there)
  All-of_filter_map (z ∷ xs) all x y there is =
      one (h z) refl (λ rest later. All-of_filter_map xs rest x y later is) all
    where
      one : (o : Option Y) → h z ≡ o → (All P (filter_map h xs) → Contains xs x → P y)
          → All P (cons_option o (filter_map h xs)) → P y
      one None e others rest = elim (Contains-cases z xs x there) [
        | inl same ↦ absurd (none_some y (sym e ∙ (ap h same ∙ is)))
        | inr later ↦ others rest later
      ]
      one (Some v) e others rest = elim (Contains-cases z xs x there) [
        | inl same ↦ subst P (same_Some v y (sym e ∙ (ap h same ∙ is)))
            (All-head P v (filter_map h xs) rest)
        | inr later ↦ others (All-tail P v (filter_map h xs) rest) later
      ]

-- ---- one place more

module _ {X Y : Type 0} (h : X → Option Y) (xs : List X) (i : ℕ) (d : X)
    (before : i < length xs) where
  filter_map-take : filter_map h (take (i + 1) xs)
      ≡ filter_map h (take i xs) ++ cons_option (h (get_or xs i d)) []
  filter_map-take =
      ap (filter_map h) (take_more xs i d before)
      ∙ filter_map-append h (take i xs) (get_or xs i d ∷ [])

  pub filter_map-take_some : (y : Y) → h (get_or xs i d) ≡ Some y
      → filter_map h (take (i + 1) xs) ≡ filter_map h (take i xs) ++ y ∷ []
  filter_map-take_some y is =
      filter_map-take ∙ ap (λ o. filter_map h (take i xs) ++ cons_option o []) is

  pub filter_map-take_none : h (get_or xs i d) ≡ None
      → filter_map h (take (i + 1) xs) ≡ filter_map h (take i xs)
  filter_map-take_none is =
      filter_map-take ∙ (ap (λ o. filter_map h (take i xs) ++ cons_option o []) is
      ∙ append-nil (filter_map h (take i xs)))

-- ---- models

-- a model of the log with what was decided is one of the live facts with it
pub live_true : (base : Base) (s : Search) (I : Interpretation) (ds : List Formula)
    → AllTrue I (formulas_of base s.log ++ ds)
    → AllTrue I (formulas_of base (live_facts s) ++ ds)
live_true base s I ds all =
    let IsTrueIn : Formula → Type 0 = λ f. truth I f ≡ true in
    let logged = All-append_left IsTrueIn (formulas_of base s.log) ds all in
    All-append IsTrueIn (formulas_of base (live_facts s)) ds
    (All-filter_map (formula_of base) IsTrueIn (live_facts s) (λ fact f there is.
    All-of_filter_map (formula_of base) IsTrueIn s.log logged fact f
    (All-contains (Contains s.log) (live_facts s) fact
    (All-filter_map (slice_get s.log) (Contains s.log) s.branch.book.live
    (λ place g h e. slice_get-contained s.log place g e)) there) is))
    (All-append_right IsTrueIn (formulas_of base s.log) ds all)
