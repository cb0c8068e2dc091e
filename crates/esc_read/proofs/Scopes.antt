-- How a name is looked for among variables.
use Rattle.std.proofs.Common.{◌≤◌, ◌&&◌, zero, take, drop, ap₂, ap, ◌≡◌, ℕ, suc, ◌+◌, ◌-◌, ◌<◌}
use Rattle.std.proofs.Common.{Bool, true, false, cond, List, [], ◌∷◌, ◌++◌, map, length, get_or}
use Rattle.std.proofs.Common.{refl, sym, ◌∙◌, arith, Some, None, reverse}
use Rattle.std.proofs.lemmas.List.{get_or-reverse, get_or_default, length-drop, length-map}
use Rattle.std.proofs.lemmas.List.{length-reverse, reverse-append, take-append-drop, take-map}
use Rattle.std.proofs.Math.ListN.{get_or-map}
use Rattle.std.proofs.Math.Seq.{drop-append_seam}
use Rattle.std.proofs.lemmas.List.Sums.{position_or_len_is}
use Rattle.std.proofs.lemmas.Bool.Decides.{nat_tests}
use Rattle.std.specs.List.{position, position_or_len, list_any}
use Rattle.std.specs.Prelude.{nat_lt, ◌||◌}

-- the first that passes
pub found : {X : Type 0} (p : X → Bool) (xs : List X) (i : ℕ) (d : X) → i < length xs
    → ((k : ℕ) → k < i → p (get_or xs k d) ≡ false) → p (get_or xs i d) ≡ true
    → Some i ≡ position p xs
found p xs i d h before here =
    let e = position_or_len_is p xs i d (omega arith) before (λ _. here) in
    rw e (grind (arith, nat_tests))

-- none passes
pub not_found : {X : Type 0} (p : X → Bool) (xs : List X) (i : ℕ) (d : X) → i ≡ length xs
    → ((k : ℕ) → k < i → p (get_or xs k d) ≡ false) → None ≡ position p xs
not_found p xs i d h before =
    let e = position_or_len_is p xs i d (omega arith) before (λ k. absurd (omega arith)) in
    rw e (grind (arith, nat_tests))

below : (m n : ℕ) → nat_lt (1 + m) (suc n) ≡ nat_lt m n
below m n = grind (arith, nat_tests)

zero_below : (n : ℕ) → nat_lt 0 (suc n) ≡ true
zero_below n = grind (arith, nat_tests)

none_below : (n : ℕ) (b : Bool) → (nat_lt n 0 && b) ≡ false
none_below n b = grind (arith, nat_tests)

any_by : {X : Type 0} (p : X → Bool) (x : X) (xs : List X) (count : ℕ) (b : Bool) → p x ≡ b
    → list_any p (take count xs)
    ≡ (nat_lt (position_or_len p xs) count && nat_lt (position_or_len p xs) (length xs))
    → (p x || list_any p (take count xs))
    ≡ (nat_lt (position_or_len p (x ∷ xs)) (suc count) && nat_lt (position_or_len p (x ∷ xs))
    (length (x ∷ xs)))
any_by p x xs count true e rest =
    rw e (sym (ap₂ (◌&&◌) (zero_below count) (zero_below (length xs))))
any_by p x xs count false e rest =
    rw (e, rest)
    (sym (ap₂ (◌&&◌) (below (position_or_len p xs) count)
    (below (position_or_len p xs) (length xs))))

-- one of the first passes exactly where the first that passes is among them
any_take : {X : Type 0} (p : X → Bool) (xs : List X) (count : ℕ)
    → list_any p (take count xs)
    ≡ (nat_lt (position_or_len p xs) count && nat_lt (position_or_len p xs) (length xs))
any_take p [] zero = refl
any_take p [] (suc count) = sym (ap (λ b. b && false) (zero_below count))
any_take p (x ∷ xs) zero = sym (none_below (position_or_len p (x ∷ xs)) _)
any_take p (x ∷ xs) (suc count) = any_by p x xs count (p x) refl (any_take p xs count)

found_by : (place count : ℕ) (b : Bool) (i : ℕ) → cond b (Some place) None ≡ Some i
    → (nat_lt place count && b) ≡ nat_lt i count
found_by place count true i e = let same : place ≡ i = cc in grind (arith, nat_tests)
found_by place count false i e = cc

not_found_by : (place count : ℕ) (b : Bool) → cond b (Some place) None ≡ None
    → (nat_lt place count && b) ≡ false
not_found_by place count true e = cc
not_found_by place count false e = grind (arith, nat_tests)

pub any_found : {X : Type 0} (p : X → Bool) (xs : List X) (count i : ℕ) → Some i ≡ position p xs
    → nat_lt i count ≡ list_any p (take count xs)
any_found p xs count i e =
    sym (any_take p xs count
    ∙ found_by (position_or_len p xs) count (nat_lt (position_or_len p xs) (length xs)) i
    (sym e))

pub any_not_found : {X : Type 0} (p : X → Bool) (xs : List X) (count : ℕ) → None ≡ position p xs
    → false ≡ list_any p (take count xs)
any_not_found p xs count e =
    sym (any_take p xs count
    ∙ not_found_by (position_or_len p xs) count (nat_lt (position_or_len p xs) (length xs))
    (sym e))

-- all but the last, from the other end
pub drop-reverse : {X : Type 0} (xs : List X) (count : ℕ) → count ≤ length xs
    → reverse (take (length xs - count) xs) ≡ drop count (reverse xs)
drop-reverse xs count h =
    let outer = length xs - count in
    let split : reverse xs ≡ reverse (drop outer xs) ++ reverse (take outer xs) =
    ap reverse (sym (take-append-drop outer xs)) ∙ reverse-append (take outer xs) (drop outer xs) in
    let inner : length (reverse (drop outer xs)) ≡ count =
    length-reverse (drop outer xs) ∙ length-drop outer xs ∙ omega arith in
    sym (ap (drop count) split
    ∙ ap (λ n. drop n (reverse (drop outer xs) ++ reverse (take outer xs))) (sym inner)
    ∙ drop-append_seam (reverse (drop outer xs)) (reverse (take outer xs)))

-- ---- variables as they are kept, the outermost first

module _ {A : Type 0} (spelling : A → List ℕ) (kept : List A) (scope : List (List ℕ))
    (view : reverse (map spelling kept) ≡ scope) where
  pub length_kept : length kept ≡ length scope
  length_kept =
      sym (length-map kept spelling) ∙ sym (length-reverse (map spelling kept)) ∙ ap length view

  pub left : (outer count : ℕ) → outer ≡ length kept - count → count ≤ length scope
      → reverse (map spelling (take outer kept)) ≡ drop count scope
  left outer count is h =
      let fits : count ≤ length (map spelling kept) =
      omega (arith, length_kept, length-map kept spelling) in
      ap reverse
      (sym (take-map spelling outer kept)
      ∙ ap (λ n. take n (map spelling kept))
      (is ∙ ap (λ n. n - count) (sym (length-map kept spelling))))
      ∙ drop-reverse (map spelling kept) count fits ∙ ap (drop count) view

  pub at_depth : (depth : ℕ) (a : A) → depth < length kept
      → a ≡ get_or kept (length kept - 1 - depth) a → get_or scope depth [] ≡ spelling a
  at_depth depth a h is =
      let names = map spelling kept in
      let place : length names - 1 - depth ≡ length kept - 1 - depth =
      ap (λ n. n - 1 - depth) (length-map kept spelling) in
      let named : get_or names (length names - 1 - depth) (spelling a) ≡ spelling a =
      ap (λ n. get_or names n (spelling a)) place
      ∙ get_or-map spelling kept (length kept - 1 - depth) a ∙ ap spelling (sym is) in
      let within : depth < length names = omega (arith, length-map kept spelling) in
      ap (λ l. get_or l depth []) (sym view) ∙ get_or-reverse names depth [] within
      ∙ get_or_default names (length names - 1 - depth) [] (spelling a) (omega arith) ∙ named
