-- The pairs of a group by their numbers.
use Rattle.std.proofs.Common.{◌≡◌, ℕ, nat_le, true, false, suc, zero, ◌+◌, ◌-◌, ◌<◌, ◌≤◌, List}
use Rattle.std.proofs.Common.{[], ◌∷◌, ◌++◌, Some}
use Rattle.std.proofs.Common.{None, length, map, take, drop, get_or, refl, ap, ap₂, sym}
use Rattle.std.proofs.Common.{subst}
use Rattle.std.proofs.Common.{◌∙◌, append_assoc, arith, length-append}
use Rattle.std.proofs.lemmas.Bool.{leb-false, leb-true}
use Rattle.std.proofs.lemmas.List.{append-nil, get_or_default, length-drop, length-map, map-append}
use Rattle.std.proofs.lemmas.List.{take_all}
use Rattle.std.proofs.lemmas.Option.{slice_get_past, slice_get_read}
use Rattle.std.specs.List.{slice_get}
use Rattle.std.specs.List.Sorted.{IsNonDecreasingBy, IsPartitionPoint}
use Rattle.std.specs.Option.{option_map}
use Rattle.esc_term.specs.declared.term.Term.{Term}
use Rattle.esc_term.specs.declared.formula.Formula.{Formula}
use Rattle.esc_term.specs.declared.formula.Formula.TheVariants as formula
use Rattle.esc_term.proofs.Pairs.{map-map}
use Rattle.esc_cover.specs.Atoms.{pair_equations}
use Rattle.esc_book.specs.GroupInside.{node_pairs, pair_count, rows_from}

-- ---- how many there are

pub length-pair_equations : (ts : List Term) → length (pair_equations ts) ≡ pair_count (length ts)
length-pair_equations [] = refl
length-pair_equations (t ∷ ts) =
    length-append (map (λ u. formula.Eq t u) ts) (pair_equations ts)
    ∙ ap₂ (λ m n. m + n) (length-map ts (λ u. formula.Eq t u)) (length-pair_equations ts)

-- ---- by nodes

pub pair_equations-map : (of : ℕ → Term) (nodes : List ℕ) → pair_equations (map of nodes)
    ≡ map (λ p. formula.Eq (of p.0) (of p.1)) (node_pairs nodes)
pair_equations-map of [] = refl
pair_equations-map of (a ∷ nodes) =
    let equation : ℕ × ℕ → Formula = λ p. formula.Eq (of p.0) (of p.1) in
    ap₂ (λ xs ys. xs ++ ys)
    (map-map of (λ u. formula.Eq (of a) u) nodes ∙ sym (map-map (λ b. (a, b)) equation nodes))
    (pair_equations-map of nodes)
    ∙ sym (map-append equation (map (λ b. (a, b)) nodes) (node_pairs nodes))

-- ---- rows

pub length-rows_from : (start n : ℕ) → length (rows_from start n) ≡ n
length-rows_from start zero = refl
length-rows_from start (suc n) = ap suc (length-rows_from (start + n) n)

-- no row starts before the first
pub rows_from-low : (start n i : ℕ) → i < n → start ≤ get_or (rows_from start n) i 0
rows_from-low start zero i l = absurd (omega (arith, l))
rows_from-low start (suc n) zero l = omega arith
rows_from-low start (suc n) (suc i) l =
    omega (arith, rows_from-low (start + n) n i (omega (arith, l)))

pub rows_from-rise : (start n i j : ℕ) → i ≤ j → j < n
    → get_or (rows_from start n) i 0 ≤ get_or (rows_from start n) j 0
rows_from-rise start zero i j le l = absurd (omega (arith, l))
rows_from-rise start (suc n) zero zero le l = omega arith
rows_from-rise start (suc n) zero (suc j) le l =
    omega (arith, rows_from-low (start + n) n j (omega (arith, l)))
rows_from-rise start (suc n) (suc i) zero le l = absurd (omega (arith, le))
rows_from-rise start (suc n) (suc i) (suc j) le l =
    rows_from-rise (start + n) n i j (omega (arith, le)) (omega (arith, l))

pub slice_get-map : {X Y : Type 0} (f : X → Y) (xs : List X) (k : ℕ)
    → slice_get (map f xs) k ≡ option_map f (slice_get xs k)
slice_get-map f [] k = refl
slice_get-map f (x ∷ xs) zero = refl
slice_get-map f (x ∷ xs) (suc k) = slice_get-map f xs k

pub get-before : {X : Type 0} (xs ys : List X) (k : ℕ) → k < length xs
    → slice_get (xs ++ ys) k ≡ slice_get xs k
get-before [] ys k l = absurd (omega (arith, l))
get-before (x ∷ xs) ys zero l = refl
get-before (x ∷ xs) ys (suc k) l = get-before xs ys k (omega (arith, l))

pub get-behind : {X : Type 0} (xs ys : List X) (k : ℕ)
    → slice_get (xs ++ ys) (length xs + k) ≡ slice_get ys k
get-behind [] ys k =
    let same : 0 + k ≡ k = omega arith in
    ap (λ n. slice_get ys n) same
get-behind (x ∷ xs) ys k =
    let next : suc (length xs) + k ≡ suc (length xs + k) = omega arith in
    ap (λ n. slice_get (x ∷ (xs ++ ys)) n) next ∙ get-behind xs ys k

-- the pair with a number, in the last row that starts at it or before it
pub pair_at : (start k : ℕ) (nodes : List ℕ) (i : ℕ) → i < length nodes
    → get_or (rows_from start (length nodes)) i 0 ≤ start + k
    → (suc i < length nodes → start + k < get_or (rows_from start (length nodes)) (suc i) 0)
    → slice_get (node_pairs nodes) k
    ≡ option_map (λ b. (get_or nodes i 0, b)) (slice_get (drop (suc i) nodes)
    (start + k - get_or (rows_from start (length nodes)) i 0))
pair_at start k [] i l from to = absurd (omega (arith, l))
pair_at start k (a ∷ []) zero l from to =
    let past : start + k - start ≡ k = omega arith in refl
pair_at start k (a ∷ b ∷ nodes) zero l from to =
    let pairing : ℕ → ℕ × ℕ = λ c. (a, c) in
    let many : length (map pairing (b ∷ nodes)) ≡ length (b ∷ nodes) =
    length-map (b ∷ nodes) pairing in
    let limit = to (omega arith) in
    let within : k < length (map pairing (b ∷ nodes)) = omega (arith, limit, many) in
    let same : k ≡ start + k - start = omega arith in
    get-before (map (λ c. (a, c)) (b ∷ nodes)) (node_pairs (b ∷ nodes)) k within
    ∙ (slice_get-map (λ c. (a, c)) (b ∷ nodes) k
    ∙ ap (λ n. option_map (λ c. (a, c)) (slice_get (b ∷ nodes) n)) same)
pair_at start k (a ∷ nodes) (suc i) l from to =
    let low : start + length nodes
    ≤ get_or (rows_from (start + length nodes) (length nodes)) i 0 =
    rows_from-low (start + length nodes) (length nodes) i (omega (arith, l)) in
    let rest : ℕ = k - length nodes in
    let pairing : ℕ → ℕ × ℕ = λ c. (a, c) in
    let many : length (map pairing nodes) ≡ length nodes = length-map nodes pairing in
    let parted : k ≡ length (map pairing nodes) + rest = omega (arith, low, from, many) in
    let again : start + length nodes + rest ≡ start + k = omega (arith, low, from) in
    ap (λ n. slice_get (node_pairs (a ∷ nodes)) n) parted
    ∙ (get-behind (map (λ c. (a, c)) nodes) (node_pairs nodes) rest
    ∙ (pair_at (start + length nodes) rest nodes i (omega (arith, l))
    (omega (arith, from, again)) (λ more. omega (arith, again, to (omega (arith, more))))
    ∙ ap (λ n. option_map (λ c. (get_or nodes i 0, c)) (slice_get (drop (suc i) nodes)
    (n - get_or (rows_from (start + length nodes) (length nodes)) i 0))) again))

-- ---- how rows are made

pub rows_step : (rows : List ℕ) (start left end n : ℕ) → 0 < left → end ≡ start + (left - 1)
    → rows ++ rows_from start left ≡ rows_from 0 n
    → (rows ++ (start ∷ [])) ++ rows_from end (left - 1) ≡ rows_from 0 n
rows_step rows start zero end n some is whole = absurd (omega (arith, some))
rows_step rows start (suc left) end n some is whole =
    let next : end ≡ start + left = omega (arith, is) in
    let rest : suc left - 1 ≡ left = omega arith in
    append_assoc rows (start ∷ []) (rows_from end (suc left - 1))
    ∙ (ap₂ (λ e m. rows ++ (start ∷ rows_from e m)) next rest ∙ whole)

pub rows_done : (rows : List ℕ) (start left n : ℕ) → left ≤ 0
    → rows ++ rows_from start left ≡ rows_from 0 n → rows ≡ rows_from 0 n
rows_done rows start zero n none whole = sym (append-nil rows) ∙ whole
rows_done rows start (suc left) n none whole = absurd (omega (arith, none))

pub pair_count-more : (n : ℕ) → pair_count (n + 1) ≡ n + pair_count n
pair_count-more n =
    let next : n + 1 ≡ suc n = omega arith in
    ap pair_count next

-- ---- the last row that starts at a number or before it

pub rows_rise : (start n : ℕ) → IsNonDecreasingBy (λ (x : ℕ). x) (rows_from start n)
rows_rise start n i j d le l =
    let many : length (rows_from start n) ≡ n = length-rows_from start n in
    subst (λ x. x ≤ get_or (rows_from start n) j d)
    (get_or_default (rows_from start n) i 0 d (omega (arith, le, l)))
    (subst (λ y. get_or (rows_from start n) i 0 ≤ y) (get_or_default (rows_from start n) j 0 d l)
    (rows_from-rise start n i j le (omega (arith, l, many))))

-- the pair with a number, by where the rows stop that start at it or before it
module _ (nodes rows : List ℕ) (number row : ℕ) (are : rows ≡ rows_from 0 (length nodes))
    (split : IsPartitionPoint (λ x. nat_le x number ≡ true) (λ x. nat_le x number ≡ false) rows row)
    (bound : row ≤ length rows) where
  many_rows : length rows ≡ length nodes
  many_rows = ap length are ∙ length-rows_from 0 (length nodes)

  low : (i : ℕ) → i < row → get_or rows i 0 ≤ number
  low i l = leb-true (get_or rows i 0) number (split.0 i 0 (omega arith) l)

  high : (i : ℕ) → row ≤ i → i < length rows → number < get_or rows i 0
  high i le l = leb-false (get_or rows i 0) number (split.1 i 0 le l)

  pub none_before : row ≡ 0 → slice_get (node_pairs nodes) number ≡ None
  none_before e = empty nodes refl
    where
      empty : (ns : List ℕ) → nodes ≡ ns → slice_get (node_pairs ns) number ≡ None
      empty [] is = refl
      empty (n ∷ ns) is =
          let some : 0 < length rows = omega (arith, many_rows, ap length is) in
          let first : get_or rows 0 0 ≡ 0 =
          ap (λ rs. get_or rs 0 0) (are ∙ ap (λ l. rows_from 0 (length l)) is) in
          absurd (omega (arith, high 0 (omega (arith, e)) some, first))

  pub start_within : (first : ℕ) → first + 1 ≡ row → get_or rows first 0 ≤ number
  start_within first e = low first (omega (arith, e))

  pub pair_is : (first : ℕ) → first + 1 ≡ row → slice_get (node_pairs nodes) number
      ≡ option_map (λ b. (get_or nodes first 0, b))
      (slice_get (drop row nodes) (number - get_or rows first 0))
  pair_is first e =
      let l : first < length nodes = omega (arith, e, bound, many_rows) in
      let next : suc first ≡ row = omega (arith, e) in
      let from : get_or (rows_from 0 (length nodes)) first 0 ≤ 0 + number =
      subst (λ rs. get_or rs first 0 ≤ 0 + number) are
      (omega (arith, start_within first e)) in
      let to : suc first < length nodes
      → 0 + number < get_or (rows_from 0 (length nodes)) (suc first) 0 =
      λ more. subst (λ rs. 0 + number < get_or rs (suc first) 0) are
      (omega (
        arith,
        high (suc first) (omega (arith, next))
            (omega (arith, more, many_rows)),
      )) in
      let same : 0 + number - get_or (rows_from 0 (length nodes)) first 0
      ≡ number - get_or rows first 0 =
      ap (λ rs. 0 + number - get_or rs first 0) (sym are)
      ∙ (let plain : 0 + number - get_or rows first 0 ≡ number - get_or rows first 0 =
      omega arith in plain) in
      pair_at 0 number nodes first l from to
      ∙ ap₂ (λ k n. option_map (λ b. (get_or nodes first 0, b)) (slice_get (drop k nodes) n))
      next same

-- ---- what stands behind a node

module _ (nodes : List ℕ) (row k : ℕ) where
  others_are : take (length nodes - row) (drop row nodes) ≡ drop row nodes
  others_are =
      take_all (length nodes - row) (drop row nodes) (omega (arith, length-drop row nodes))

  pub other_there : (b : ℕ) → k < length (take (length nodes - row) (drop row nodes))
      → b ≡ get_or (take (length nodes - row) (drop row nodes)) k b
      → slice_get (drop row nodes) k ≡ Some b
  other_there b l is =
      subst (λ xs. slice_get xs k ≡ Some b) others_are
      (slice_get_read (take (length nodes - row) (drop row nodes))
      (length (take (length nodes - row) (drop row nodes))) k b refl l is)

  pub other_past : length (take (length nodes - row) (drop row nodes)) ≤ k
      → slice_get (drop row nodes) k ≡ None
  other_past le =
      subst (λ xs. slice_get xs k ≡ None) others_are
      (slice_get_past (take (length nodes - row) (drop row nodes)) k le)
