-- A tree of splits that names each occurrence at most once on a path is small: the ways to its
-- splits, read as numbers in base two behind a leading one, differ and are below a power of two.
use Rattle.std.proofs.Common.{◌≡◌, ◌≢◌, ℕ, zero, suc, ◌<◌, ◌≤◌, ◌+◌, ◌^◌, Bool, true, false, List}
use Rattle.std.proofs.Common.{[], ◌∷◌, ◌++◌, Some, None, length, map, get_or, refl, sym, ap, ap₂}
use Rattle.std.proofs.Common.{subst, ◌∙◌, inl, inr, lit<, lit≤, arith}
use Rattle.std.specs.Prelude.{slice_get}
use Rattle.std.specs.List.{All, AllPairs, fold}
use Rattle.std.proofs.Math.Nat.{one-le-pow, pow-le-pow_right, pow-suc}
use Rattle.std.proofs.lemmas.Bool.{cases_order}
use Rattle.std.proofs.lemmas.List.{length-map, length_push}
use Rattle.std.proofs.lemmas.List.Elements.{All-cons, All-get_or, All-map, All-push}
use Rattle.std.proofs.lemmas.List.Kept.{AllPairs-cons}
use Rattle.std.proofs.lemmas.List.Sums.{fold_push}
use Rattle.std.proofs.lemmas.Option.{get_or_from_slice_get, slice_get-get_or, slice_get_cases}
use Rattle.std.proofs.lemmas.Option.{slice_get_within}
use Rattle.esc_term.specs.declared.formula.Formula.{Formula}
use Rattle.esc_clause.specs.declared.decision.Decision.{Decision}
use Rattle.esc_outcome.specs.Tree.{AreDifferent, IsOccurrence, IsSideAmong, IsTree, NamesOnce}
use Rattle.esc_outcome.specs.Tree.{Placed, Side, named_by, path_of, placed}
use Rattle.esc_outcome.specs.TreeLaws.{TreeIsSmall, occurrences_in}
use Rattle.esc_outcome.specs.declared.branch.Split.{Split}
use Rattle.esc_outcome.proofs.Counting.{AllPairs-map, different_few, few_below}
use Rattle.esc_outcome.proofs.Decided.{path_each}
use Rattle.esc_outcome.proofs.Growing.{IsSideAmong-more, all_among}
use Rattle.esc_outcome.proofs.Paths.{path_below, placed_by}

-- ---- a path as a number

bit : Bool → ℕ
bit true = 1
bit false = 0

step : ℕ → Decision → ℕ
step n d = n + n + bit d.holds

code : List Decision → ℕ
code = fold step 1

step_below : (n b : ℕ) (d : Decision) → n < b → step n d < b + b
unfolding step bit
step_below n b d below = go d.holds
  where
    go : (holds : Bool) → n + n + bit holds < b + b
    go true = omega (arith, below)
    go false = omega (arith, below)

fold_below : (ds : List Decision) (n j : ℕ) → n < 2 ^ j → fold step n ds < 2 ^ (j + length ds)
fold_below [] n j below = subst (λ m. n < 2 ^ m) (omega arith) below
fold_below (d ∷ ds) n j below =
    let twice = pow-suc 2 j in
    let next : step n d < 2 ^ suc j = omega (arith, twice, step_below n (2 ^ j) d below) in
    subst (λ m. fold step (step n d) ds < 2 ^ m) (omega arith)
    (fold_below ds (step n d) (suc j) next)

code_below : (ds : List Decision) → code ds < 2 ^ (1 + length ds)
unfolding code
code_below ds = fold_below ds 1 1 (lit< tt)

fold_some : (ds : List Decision) (n : ℕ) → 1 ≤ n → 1 ≤ fold step n ds
unfolding step
fold_some [] n some = some
fold_some (d ∷ ds) n some = fold_some ds (step n d) (omega (arith, some))

code_some : (ds : List Decision) → 1 ≤ code ds
unfolding code
code_some ds = fold_some ds 1 (lit≤ tt)

code_push : (ds : List Decision) (d : Decision)
    → code (ds ++ (d ∷ [])) ≡ code ds + code ds + bit d.holds
unfolding code step
code_push ds d = fold_push step 1 ds d

-- two numbers in base two that are equal have one last digit and one front
same_digits : (m n : ℕ) (a b : Bool) → m + m + bit a ≡ n + n + bit b → (m ≡ n) × (a ≡ b)
unfolding bit
same_digits m n true true e = (omega (arith, e), refl)
same_digits m n false false e = (omega (arith, e), refl)
same_digits m n true false e = absurd (omega (arith, e))
same_digits m n false true e = absurd (omega (arith, e))

-- ---- different sides have different numbers

module _ (splits : List Split) (tree : IsTree splits) where
  split_at : (k : ℕ) → k < length splits → (s : Split) × (slice_get splits k ≡ Some s)
  split_at k below =
      elim (slice_get_cases splits k).1 [
        | inl found ↦ (found.0, found.2)
        | inr past ↦ absurd (omega (arith, below, past.0))
      ]

  code_at : (k : ℕ) (s : Split) (holds : Bool) → slice_get splits k ≡ Some s
      → code (path_of splits (Some (k, holds)))
      ≡ code (path_of splits s.under) + code (path_of splits s.under) + bit holds
  code_at k s holds is =
      ap code (path_below splits k s holds tree is)
      ∙ code_push (path_of splits s.under) (record { at = s.at; holds = holds })

  -- no two splits stand at one side
  not_before : (k l : ℕ) (s t : Split) → slice_get splits k ≡ Some s
      → slice_get splits l ≡ Some t → s.under ≡ t.under → k < l → ⊥
  not_before k l s t is js same before =
      tree.alone k l s before (slice_get_within splits l t js)
      (ap (λ (r : Split). r.under) (get_or_from_slice_get splits k s s is)
      ∙ (same ∙ ap (λ (r : Split). r.under) (sym (get_or_from_slice_get splits l t s js))))

  one_there : (k l : ℕ) (s t : Split) → slice_get splits k ≡ Some s → slice_get splits l ≡ Some t
      → s.under ≡ t.under → k ≡ l
  one_there k l s t is js same =
      elim (cases_order k l) [
        | inl e ↦ e
        | inr (inl before) ↦ absurd (not_before k l s t is js same before)
        | inr (inr behind) ↦ absurd (not_before l k t s js is (sym same) behind)
      ]

  not_root : (b : ℕ × Bool) → b.0 < length splits
      → code (path_of splits None) ≡ code (path_of splits (Some b)) → ⊥
  unfolding code
  not_root b below same =
      let found = split_at b.0 below in
      let some = code_some (path_of splits found.0.under) in
      omega (arith, same ∙ code_at b.0 found.0 b.1 found.1, some)

  one_side : (n : ℕ) (a b : Side) → n ≤ length splits → IsSideAmong n a → IsSideAmong n b
      → code (path_of splits a) ≡ code (path_of splits b) → a ≡ b
  one_side n None None many among also same = refl
  one_side n None (Some b) many among also same =
      absurd (not_root b (omega (arith, also, many)) same)
  one_side n (Some a) None many among also same =
      absurd (not_root a (omega (arith, among, many)) (sym same))
  one_side zero (Some a) (Some b) many among also same = absurd (omega (arith, among))
  one_side (suc n) (Some a) (Some b) many among also same =
      let s = split_at a.0 (omega (arith, among, many)) in
      let t = split_at b.0 (omega (arith, also, many)) in
      let digits = same_digits (code (path_of splits s.0.under)) (code (path_of splits t.0.under))
      a.1 b.1 (sym (code_at a.0 s.0 a.1 s.1) ∙ (same ∙ code_at b.0 t.0 b.1 t.1)) in
      let above = one_side n s.0.under t.0.under (omega (arith, many))
      (IsSideAmong-more a.0 n s.0.under (tree.rooted a.0 s.0 s.1) (omega (arith, among)))
      (IsSideAmong-more b.0 n t.0.under (tree.rooted b.0 t.0 t.1) (omega (arith, also)))
      digits.0 in
      ap₂ (λ k holds. Some (k, holds)) (one_there a.0 b.0 s.0 t.0 s.1 t.1 above) digits.1

  abbrev code_of : Split → ℕ
  code_of s = code (path_of splits s.under)

  apart : AllPairs (λ (m n : ℕ). m ≢ n) (map code_of splits)
  apart =
      AllPairs-map code_of (λ (s : Split). IsSideAmong (length splits) s.under)
      (λ s t. s.under ≢ t.under) (λ m n. m ≢ n)
      (λ s t first second differ same. differ
      (one_side (length splits) s.under t.under (omega arith) first second same))
      (record { under = None; at = record { fact = 0; place = 0; positive = true } }) splits
      (all_among splits tree) tree.alone

module _ (fs : List Formula) (splits : List Split) (tree : IsTree splits) (once : NamesOnce splits)
    (occur : All (λ split. IsOccurrence fs split.at) splits) where
  path_short : (k : ℕ) (s : Split) → slice_get splits k ≡ Some s
      → length (path_of splits s.under) + 1 ≤ occurrences_in fs
  path_short k s is =
      let path = path_of splits s.under in
      let here : Placed = record { at = s.at; above = path } in
      let placed_is = placed_by splits k s tree is in
      let within = slice_get_within (placed splits) k here placed_is in
      let named = map (λ (d : Decision). d.at) path in
      let different : AreDifferent (named_by here) =
      subst (λ (p : Placed). AreDifferent (named_by p))
      (get_or_from_slice_get (placed splits) k here here placed_is)
      (All-get_or (λ (p : Placed). AreDifferent (named_by p)) (placed splits) k here within once) in
      let few = different_few fs (named_by here) different
      (All-push (IsOccurrence fs) named s.at
      (All-map (IsOccurrence fs) (λ (d : Decision). d.at) path
      (path_each (IsOccurrence fs) splits s.under occur))
      (subst (λ (t : Split). IsOccurrence fs t.at) (get_or_from_slice_get splits k s s is)
      (occur k s (slice_get_within splits k s is)))) in
      omega (arith, few, length_push named s.at, length-map path (λ (d : Decision). d.at))

  all_below : All (λ n. n < 2 ^ occurrences_in fs) (map (code_of splits tree) splits)
  all_below =
      All-map (λ n. n < 2 ^ occurrences_in fs) (code_of splits tree) splits (λ k d below.
      let s = get_or splits k d in
      let path = path_of splits s.under in
      let short = path_short k s (slice_get-get_or splits k d below) in
      let larger : 2 ^ (1 + length path) ≤ 2 ^ occurrences_in fs =
      pow-le-pow_right (lit< tt) (omega (arith, short)) in
      omega (arith, code_below path, larger))

pub tree_is_small : TreeIsSmall
tree_is_small fs splits tree once occur =
    let codes = map (code_of splits tree) splits in
    let many = length-map splits (code_of splits tree) in
    let few = few_below (0 ∷ codes) (2 ^ occurrences_in fs)
    (AllPairs-cons (λ m n. m ≢ n) 0 codes
    (All-map (λ n. 0 ≢ n) (code_of splits tree) splits (λ k d below zero_is.
    let some = code_some (path_of splits (get_or splits k d).under) in
    omega (arith, zero_is, some))) (apart splits tree))
    (All-cons (λ n. n < 2 ^ occurrences_in fs) 0 codes
    (one-le-pow (occurrences_in fs) 2 (lit< tt))
    (all_below fs splits tree once occur)) in
    omega (arith, few, many)
