-- The paths of a tree of splits.
use Rattle.std.proofs.Common.{◌≡◌, ℕ, ◌<◌, ◌+◌, suc, List, [], ◌∷◌, ◌++◌, Some, None, length, take}
use Rattle.std.proofs.Common.{drop, refl, sym, ap, subst, zero-add, ◌∙◌, inl, inr, arith}
use Rattle.std.specs.Prelude.{slice_get}
use Rattle.std.specs.List.{fold}
use Rattle.std.specs.Option.{option_map_or}
use Rattle.std.proofs.Math.Seq.{drop-cons}
use Rattle.std.proofs.lemmas.List.{get_or_append_left, get_or_push, length-append, length-take-le}
use Rattle.std.proofs.lemmas.List.{length_push, take-append-drop}
use Rattle.std.proofs.lemmas.List.Sums.{fold-append}
use Rattle.std.proofs.lemmas.Option.{get_or_from_slice_get, slice_get-get_or, slice_get_cases}
use Rattle.std.proofs.lemmas.Option.{slice_get_within}
use Rattle.esc_outcome.specs.Tree.{IsSideAmong, IsTree, Placed, path_among, path_behind, path_of}
use Rattle.esc_outcome.specs.Tree.{placed, with_split}
use Rattle.esc_outcome.specs.TreeLaws.{PathBelow, PathsStay}
use Rattle.esc_outcome.specs.declared.branch.Split.{Split}

-- ---- lists

pub slice_get_append_left : {X : Type 0} (xs ys : List X) (k : ℕ) → k < length xs
    → slice_get (xs ++ ys) k ≡ slice_get xs k
slice_get_append_left xs ys k below =
    elim (slice_get_cases xs k).1 [
      | inl found ↦
          slice_get-get_or (xs ++ ys) k found.0 (omega (arith, below, length-append xs ys))
          ∙ ap Some (get_or_append_left xs ys found.0 k below)
          ∙ sym (slice_get-get_or xs k found.0 below)
      | inr past ↦ absurd (omega (arith, below, past.0))
    ]

pub slice_get_push : {X : Type 0} (xs : List X) (y : X)
    → slice_get (xs ++ y ∷ []) (length xs) ≡ Some y
slice_get_push xs y =
    slice_get-get_or (xs ++ y ∷ []) (length xs) y (omega (arith, length_push xs y))
    ∙ ap Some (get_or_push xs y y (length xs) refl)

-- a list parted at one of its places
pub parted_at : {X : Type 0} (xs : List X) (k : ℕ) (x : X) → slice_get xs k ≡ Some x
    → xs ≡ take k xs ++ (x ∷ drop (suc k) xs)
parted_at xs k x is =
    sym (take-append-drop k xs)
    ∙ ap (λ rest. take k xs ++ rest) (drop-cons xs k x (slice_get_within xs k x is)
    ∙ ap (λ y. y ∷ drop (suc k) xs) (get_or_from_slice_get xs k x x is))

length-front : {X : Type 0} (xs : List X) (k : ℕ) (x : X) → slice_get xs k ≡ Some x
    → length (take k xs) ≡ k
length-front xs k x is =
    let within = slice_get_within xs k x is in
    length-take-le k xs (omega (arith, within))

-- ---- placed splits

pub placed-append : (splits more : List Split)
    → placed (splits ++ more) ≡ fold with_split (placed splits) more
unfolding placed
placed-append splits more = fold-append with_split [] splits more

length-fold : (ps : List Placed) (more : List Split)
    → length (fold with_split ps more) ≡ length ps + length more
length-fold ps [] = omega arith
length-fold ps (s ∷ more) =
    let later = length-fold (with_split ps s) more in
    let one = length_push ps (record { at = s.at; above = path_among ps s.under }) in
    omega (arith, later, one)

pub length-placed : (splits : List Split) → length (placed splits) ≡ length splits
unfolding placed
length-placed splits = length-fold [] splits ∙ zero-add (length splits)

-- what was placed stays
fold_keeps : (ps : List Placed) (more : List Split) (k : ℕ) → k < length ps
    → slice_get (fold with_split ps more) k ≡ slice_get ps k
fold_keeps ps [] k below = refl
fold_keeps ps (s ∷ more) k below =
    let last : Placed = record { at = s.at; above = path_among ps s.under } in
    fold_keeps (with_split ps s) more k (omega (arith, below, length_push ps last))
    ∙ slice_get_append_left ps (last ∷ []) k below

placed_keeps : (splits more : List Split) (k : ℕ) → k < length splits
    → slice_get (placed (splits ++ more)) k ≡ slice_get (placed splits) k
placed_keeps splits more k below =
    ap (λ ps. slice_get ps k) (placed-append splits more)
    ∙ fold_keeps (placed splits) more k (omega (arith, below, length-placed splits))

-- ---- paths

pub paths_stay : PathsStay
paths_stay splits more None among = refl
paths_stay splits more (Some side) among =
    ap (λ found. option_map_or (path_behind side.1) found [])
    (placed_keeps splits more side.0 among)

-- each split is placed by those before it
placed_at : (splits : List Split) (k : ℕ) (split : Split) → slice_get splits k ≡ Some split
    → slice_get (placed splits) k
    ≡ Some (record { at = split.at; above = path_of (take k splits) split.under })
placed_at splits k split is =
    let front = take k splits in
    let back = drop (suc k) splits in
    let last : Placed = record { at = split.at; above = path_of front split.under } in
    let many : length (placed front) ≡ k = length-placed front ∙ length-front splits k split is in
    ap (λ list. slice_get (placed list) k) (parted_at splits k split is)
    ∙ (ap (λ ps. slice_get ps k) (placed-append front (split ∷ back))
    ∙ (fold_keeps (placed front ++ (last ∷ [])) back k
    (omega (arith, many, length_push (placed front) last))
    ∙ (ap (slice_get (placed front ++ (last ∷ []))) (sym many)
    ∙ slice_get_push (placed front) last)))

-- and what is decided on the way to it is so in the whole tree
pub placed_by : (splits : List Split) (k : ℕ) (split : Split) → IsTree splits
    → slice_get splits k ≡ Some split
    → slice_get (placed splits) k
    ≡ Some (record { at = split.at; above = path_of splits split.under })
placed_by splits k split tree is =
    let front = take k splits in
    placed_at splits k split is
    ∙ ap (λ path. Some (record { at = split.at; above = path }))
    (sym (paths_stay front (drop k splits) split.under
    (subst (λ n. IsSideAmong n split.under) (sym (length-front splits k split is))
    (tree.rooted k split is)))
    ∙ ap (λ list. path_of list split.under) (take-append-drop k splits))

pub path_below : PathBelow
path_below splits k split holds tree is =
    ap (λ found. option_map_or (path_behind holds) found []) (placed_by splits k split tree is)
