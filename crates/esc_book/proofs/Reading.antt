-- What is read of a table.
use Rattle.std.proofs.Common.{◌≡◌, ℕ, suc, zero, ◌+◌, ◌-◌, ◌<◌, ◌≤◌, List, [], ◌∷◌, ◌++◌, Some}
use Rattle.std.proofs.Common.{length, map, take, drop, get_or, refl, ap, ap₂, sym}
use Rattle.std.proofs.Common.{◌∙◌}
use Rattle.std.proofs.Common.{arith, length-append}
use Rattle.std.proofs.lemmas.List.{append-nil, length-map}
use Rattle.std.proofs.lemmas.List.Concat.{flat_map-append}
use Rattle.std.proofs.lemmas.Option.{slice_get-get_or}
use Rattle.std.specs.List.{flat_map, slice_get}
use Rattle.std.specs.List.Sorted.{IsNonDecreasingBy}
use Rattle.std.specs.Option.{option_map}
use Rattle.esc_term.specs.declared.formula.Formula.{Formula}
use Rattle.esc_term.specs.declared.formula.Formula.TheVariants as formula
use Rattle.esc_term.specs.declared.formula.Formula.TheViews.{out-Formula}
use Rattle.esc_clause.specs.Occurrences.{size_of}
use Rattle.esc_egraph.specs.Graph.{Graph}
use Rattle.esc_book.specs.Book.{IsPage, Outline, form_at, heads_of, own, told}
use Rattle.esc_book.specs.declared.entry.Entry.{Entry}
use Rattle.esc_book.proofs.Laying.{laid-get, length-laid, outline_at}
use Rattle.esc_book.proofs.Nested.{occurrences_of-heads}
use Rattle.esc_book.specs.ReadingInside.{AreThere, begin_at}
use Rattle.esc_book.proofs.Pairs.{get-before, get-behind, slice_get-map}

-- ---- places

pub begin_at-rise : (hs : List Formula) (i j : ℕ) → i ≤ j → begin_at hs i ≤ begin_at hs j
begin_at-rise [] zero j le = omega arith
begin_at-rise [] (suc i) j le = omega arith
begin_at-rise (h ∷ hs) zero j le = omega arith
begin_at-rise (h ∷ hs) (suc i) zero le = absurd (omega (arith, le))
begin_at-rise (h ∷ hs) (suc i) (suc j) le =
    omega (
      arith,
      begin_at-rise hs i j (omega (arith, le)),
      length-append (own h) (flat_map own (take i hs)),
      length-append (own h) (flat_map own (take j hs)),
    )

-- what stands at a place is of the last formula that begins there or before
pub own_at : (hs : List Formula) (i : ℕ) (f : Formula) (place : ℕ) → slice_get hs i ≡ Some f
    → begin_at hs i ≤ place → (suc i < length hs → place < begin_at hs (suc i))
    → slice_get (flat_map own hs) place ≡ slice_get (own f) (place - begin_at hs i)
own_at [] i f place e from to = cc
own_at (h ∷ []) zero f place e from to =
    let same : h ≡ f = cc in
    let whole : place ≡ place - 0 = omega arith in
    ap (λ l. slice_get l place) (append-nil (own h))
    ∙ ap₂ (λ x n. slice_get (own x) n) same whole
own_at (h ∷ k ∷ hs) zero f place e from to =
    let same : h ≡ f = cc in
    let whole : place ≡ place - 0 = omega arith in
    let within : place < length (own h) =
    omega (arith, to (omega arith), length-append (own h) []) in
    get-before (own h) (flat_map own (k ∷ hs)) place within
    ∙ ap₂ (λ x n. slice_get (own x) n) same whole
own_at (h ∷ hs) (suc i) f place e from to =
    let here : begin_at (h ∷ hs) (suc i) ≡ length (own h) + begin_at hs i =
    length-append (own h) (flat_map own (take i hs)) in
    let later : begin_at (h ∷ hs) (suc (suc i)) ≡ length (own h) + begin_at hs (suc i) =
    length-append (own h) (flat_map own (take (suc i) hs)) in
    let rest : ℕ = place - length (own h) in
    let parted : place ≡ length (own h) + rest = omega (arith, from, here) in
    let same : rest - begin_at hs i ≡ place - begin_at (h ∷ hs) (suc i) =
    omega (arith, from, here) in
    ap (λ n. slice_get (own h ++ flat_map own hs) n) parted
    ∙ (get-behind (own h) (flat_map own hs) rest
    ∙ (own_at hs i f rest e (omega (arith, from, here))
    (λ more. omega (arith, from, here, later, to (omega (arith, more))))
    ∙ ap (λ n. slice_get (own f) n) same))

size_of-heads : (f : Formula) → size_of f ≡ length (flat_map own (heads_of f))
size_of-heads f = ap length (occurrences_of-heads f)

-- the next part begins behind this one
pub begin_at-next : (hs : List Formula) (n : ℕ) (p : Formula) (ps : List Formula)
    → AreThere hs n (p ∷ ps)
    → begin_at hs (n + length (heads_of p)) ≡ begin_at hs n + size_of p
begin_at-next hs n p ps there =
    ap length (ap (flat_map own) (take_later hs n (heads_of p)
    (flat_map heads_of ps ++ there.rest) (there.is
    ∙ append-assoc (heads_of p) (flat_map heads_of ps) there.rest))
    ∙ flat_map-append own (take n hs) (heads_of p))
    ∙ (length-append (flat_map own (take n hs)) (flat_map own (heads_of p))
    ∙ ap (λ m. begin_at hs n + m) (sym (size_of-heads p)))
  where
    append-assoc : (xs ys zs : List Formula) → (xs ++ ys) ++ zs ≡ xs ++ (ys ++ zs)
    append-assoc [] ys zs = refl
    append-assoc (x ∷ xs) ys zs = ap (λ l. x ∷ l) (append-assoc xs ys zs)

    take_front : (xs ys : List Formula) → take (length xs) (xs ++ ys) ≡ xs
    take_front [] ys = refl
    take_front (x ∷ xs) ys = ap (λ l. x ∷ l) (take_front xs ys)

    take_later : (hs : List Formula) (n : ℕ) (xs ys : List Formula) → drop n hs ≡ xs ++ ys
        → take (n + length xs) hs ≡ take n hs ++ xs
    take_later hs zero xs ys e =
        let none : 0 + length xs ≡ length xs = omega arith in
        ap (λ m. take m hs) none ∙ (ap (λ l. take (length xs) l) e ∙ take_front xs ys)
    take_later [] (suc n) [] ys e =
        let next : suc n + 0 ≡ suc n = omega arith in
        let nothing : List Formula = [] in
        ap (λ m. take m nothing) next
    take_later [] (suc n) (x ∷ xs) ys e = cc
    take_later (h ∷ hs) (suc n) xs ys e =
        let next : suc n + length xs ≡ suc (n + length xs) = omega arith in
        ap (λ m. take m (h ∷ hs)) next ∙ ap (λ l. h ∷ l) (take_later hs n xs ys e)

-- a formula with no part before it begins behind the formula whose first part it is
pub begin_at-own : (hs : List Formula) (n : ℕ) (f : Formula) → slice_get hs n ≡ Some f
    → begin_at hs (suc n) ≡ begin_at hs n + length (own f)
begin_at-own [] n f e = cc
begin_at-own (h ∷ hs) zero f e =
    let same : h ≡ f = cc in
    let all : length (own h ++ []) ≡ 0 + length (own h) = omega (arith, length-append (own h) []) in
    all ∙ ap (λ x. 0 + length (own x)) same
begin_at-own (h ∷ hs) (suc n) f e =
    omega (
      arith,
      begin_at-own hs n f e,
      length-append (own h) (flat_map own (take n hs)),
      length-append (own h) (flat_map own (take (suc n) hs)),
    )

pub get-within : {X : Type 0} (xs : List X) (i : ℕ) (x : X) → slice_get xs i ≡ Some x
    → i < length xs
get-within [] i x e = cc
get-within (y ∷ xs) zero x e = omega arith
get-within (y ∷ xs) (suc i) x e = omega (arith, get-within xs i x e)

-- ---- entries

module _ (g : Graph) (f : Formula) (page : List Entry) (is : IsPage g f page) where
  pub length-page : length page ≡ length (heads_of f)
  length-page =
      sym (length-map page (told g)) ∙ (ap length is.is ∙ length-laid 0 0 (heads_of f))

  -- the formula of an entry, and what the entry has of it
  pub record IsEntryOf (i : ℕ) (e : Entry) (s : Formula) : Type 0 where
    pub there : slice_get (heads_of f) i ≡ Some s
    pub outline : told g e ≡ record {
      begin = begin_at (heads_of f) i;
      next = i + length (heads_of s);
      form = form_at (out-Formula s);
    }

  pub read : (i : ℕ) (d : Entry) → i < length page
      → (s : Formula) × IsEntryOf i (get_or page i d) s
  read i d l =
      let s : Formula = get_or (heads_of f) i formula.True in
      let there : slice_get (heads_of f) i ≡ Some s =
      slice_get-get_or (heads_of f) i formula.True (omega (arith, l, length-page)) in
      let laid_there = laid-get 0 0 (heads_of f) i s there in
      let entry : slice_get (map (told g) page) i ≡ Some (told g (get_or page i d)) =
      slice_get-map (told g) page i
      ∙ ap (option_map (told g)) (slice_get-get_or page i d l) in
      let both : Some (told g (get_or page i d))
      ≡ Some (outline_at (0 + begin_at (heads_of f) i) (0 + i + length (heads_of s)) s) =
      sym entry ∙ (ap (λ l. slice_get l i) is.is ∙ laid_there) in
      let one : told g (get_or page i d)
      ≡ outline_at (0 + begin_at (heads_of f) i) (0 + i + length (heads_of s)) s = cc in
      let place : 0 + begin_at (heads_of f) i ≡ begin_at (heads_of f) i = omega arith in
      let index : 0 + i + length (heads_of s) ≡ i + length (heads_of s) = omega arith in
      (s, record { there = there; outline = one ∙ ap₂ (λ x y. outline_at x y s) place index })

  pub begin_there : (i : ℕ) (e : Entry) → i < length page → e ≡ get_or page i e
      → e.begin ≡ begin_at (heads_of f) i
  begin_there i e l is_e =
      ap (λ (x : Entry). x.begin) is_e ∙ ap (λ (o : Outline). o.begin) (read i e l).1.outline

  pub next_there : (i : ℕ) (e : Entry) (s : Formula) → i < length page → e ≡ get_or page i e
      → slice_get (heads_of f) i ≡ Some s → e.next ≡ i + length (heads_of s)
  next_there i e s l is_e there =
      let found = read i e l in
      let same : found.0 ≡ s =
      let both : Some found.0 ≡ Some s = sym found.1.there ∙ there in cc in
      ap (λ (x : Entry). x.next) is_e ∙ (ap (λ (o : Outline). o.next) found.1.outline
      ∙ ap (λ x. i + length (heads_of x)) same)

  pub begins_rise : IsNonDecreasingBy (λ (e : Entry). e.begin) page
  begins_rise i j d le l =
      let first = read i d (omega (arith, le, l)) in
      let second = read j d l in
      let here : (get_or page i d).begin ≡ begin_at (heads_of f) i =
      ap (λ (o : Outline). o.begin) first.1.outline in
      let there : (get_or page j d).begin ≡ begin_at (heads_of f) j =
      ap (λ (o : Outline). o.begin) second.1.outline in
      omega (arith, here, there, begin_at-rise (heads_of f) i j le)
