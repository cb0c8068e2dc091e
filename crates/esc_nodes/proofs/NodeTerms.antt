-- Laws of the terms of nodes.
use Rattle.std.proofs.Common.{◌≡◌, ℕ, pos, zero, suc, ◌+◌, ◌<◌, List, [], ◌∷◌, ◌++◌, length, take, drop, get_or, map, All, IsTrue, refl, ap, sym, ◌∙◌, append_assoc, arith}
use Rattle.std.specs.List.{fold, list_all}
use Rattle.std.proofs.lemmas.Grind.{same_number_lists}
use Rattle.std.proofs.lemmas.List.{get_or_append_left, get_or_at, get_or-map, length-map, length-take, length_push}
use Rattle.std.proofs.lemmas.List.Elements.{All-get_or}
use Rattle.std.proofs.lemmas.List.Sums.{fold-append}
use Rattle.esc_term.specs.declared.term.Term.{Term}
use Rattle.esc_term.specs.declared.term.Term.TheVariants as term
use Rattle.esc_term.specs.Term.{is_ground}
use Rattle.esc_term.proofs.TermLevels.{binds_term-Num, binds_term-App}
use Rattle.esc_term.proofs.Parts.{head_of_same, args_of_same, apart_Num}
use Rattle.esc_nodes.specs.Nodes.{Shape, shape, shape_at, AreTerms}
use Rattle.esc_nodes.specs.Terms.{built, at_place, with_next, terms_of, term_of}
use Rattle.esc_nodes.specs.declared.top.Top.{Top}
use Rattle.esc_nodes.specs.declared.top.Top.TheVariants.{Num, App}

-- ---- the terms made so far stay

length-onward : (ts : List Term) (nodes : List Shape) → length (fold with_next ts nodes) ≡ length ts
    + length nodes
length-onward ts [] = omega arith
length-onward ts (s ∷ nodes) =
    omega (
      arith,
      length-onward (with_next ts s) nodes,
      length_push ts
          (built (at_place ts) s.top s.args),
    )

onward : (ts : List Term) (nodes : List Shape) (k : ℕ) → k < length ts
    → at_place (fold with_next ts nodes) k ≡ at_place ts k
onward ts [] k l = refl
onward ts (s ∷ nodes) k l =
    onward (with_next ts s) nodes k (omega (
      arith,
      l,
      length_push ts
          (built (at_place ts) s.top s.args),
    ))
    ∙ get_or_append_left ts (built (at_place ts) s.top s.args ∷ []) (term.Num (pos 0)) k l

pub terms_stay : (nodes more : List Shape) (k : ℕ) → k < length nodes → term_of (nodes ++ more) k
    ≡ term_of nodes k
unfolding term_of terms_of
terms_stay nodes more k l =
    ap (λ ts. at_place ts k) (fold-append with_next [] nodes more)
    ∙ onward (fold with_next [] nodes) more k (omega (arith, l, length-onward [] nodes))

pub count_terms : (nodes : List Shape) → length (terms_of nodes) ≡ length nodes
unfolding terms_of
count_terms nodes = omega (arith, length-onward [] nodes)

term_at_end : (nodes : List Shape) (s : Shape) → term_of (nodes ++ (s ∷ [])) (length nodes)
    ≡ built (term_of nodes) s.top s.args
unfolding term_of terms_of
term_at_end nodes s =
    ap (λ ts. at_place ts (length nodes)) (fold-append with_next [] nodes (s ∷ []))
    ∙ get_or_at (fold with_next [] nodes) (built (at_place (fold with_next [] nodes)) s.top s.args)
    [] (term.Num (pos 0)) (length nodes)
    (let count : length (fold with_next [] nodes) ≡ length nodes = omega
    (arith, length-onward [] nodes) in count)

-- ---- the term of a node

map_alike : (f g : ℕ → Term) (xs : List ℕ) → ((k : ℕ) → k < length xs → f (get_or xs k 0)
    ≡ g (get_or xs k 0)) → map f xs ≡ map g xs
map_alike f g [] same = refl
map_alike f g (x ∷ xs) same =
    ap (λ t. t ∷ map f xs) (same 0 (omega arith)) ∙ ap (λ ts. g x
    ∷ ts) (map_alike f g xs (λ k l. same (suc k) (omega (arith, l))))

built_alike : (f g : ℕ → Term) (top : Top) (args : List ℕ)
    → ((k : ℕ) → k < length args → f (get_or args k 0) ≡ g (get_or args k 0)) →
    built f top args ≡ built g top args
built_alike f g (Num n) args same = refl
built_alike f g (App head) args same = ap (λ ts. term.App head ts) (map_alike f g args same)

split_at : (nodes : List Shape) (k : ℕ) → k < length nodes → nodes ≡ take k nodes
    ++ (shape_at nodes k ∷ drop (suc k) nodes)
split_at [] k l = absurd (omega (arith, l))
split_at (s ∷ nodes) zero l = refl
split_at (s ∷ nodes) (suc k) l = ap (λ ns. s ∷ ns) (split_at nodes k (omega (arith, l)))

-- a node's term, by the nodes that are made with it
term_among : (nodes front rest : List Shape) (s : Shape) (k : ℕ) → nodes ≡ front ++ (s ∷ rest)
    → length front ≡ k → All (λ a. a < k) s.args →
    term_of nodes k ≡ built (term_of nodes) s.top s.args
term_among nodes front rest s k parts count args_in =
    let cut : nodes ≡ (front ++ (s ∷ [])) ++ rest = parts
    ∙ sym (append_assoc front (s ∷ []) rest) in
    let here : k < length (front ++ (s ∷ [])) = omega (arith, count, length_push front s) in
    ap (λ ns. term_of ns k) cut
    ∙ (terms_stay (front ++ (s ∷ [])) rest k here
    ∙ (ap (λ j. term_of (front ++ (s ∷ [])) j) (sym count)
    ∙ (term_at_end front s
    ∙ built_alike (term_of front) (term_of nodes) s.top s.args
    (λ j l. sym (ap (λ ns. term_of ns (get_or s.args j 0)) parts
    ∙ terms_stay front (s ∷ rest) (get_or s.args j 0)
    (omega (arith, count, All-get_or (λ a. a < k) s.args j 0 l args_in)))))))

pub terms_are_built : (nodes : List Shape) → AreTerms nodes → (k : ℕ) → k < length nodes →
    term_of nodes k ≡ built (term_of nodes) (shape_at nodes k).top (shape_at nodes k).args
terms_are_built nodes are k l =
    term_among nodes (take k nodes) (drop (suc k) nodes) (shape_at nodes k) k (split_at nodes k l)
    (omega (arith, length-take k nodes, l)) (are.older k l)

-- ---- no two nodes have one term

module _ (nodes : List Shape) (are : AreTerms nodes) where
  args_older : (k i : ℕ) → k < length nodes → i < length (shape_at nodes k).args
      → get_or (shape_at nodes k).args i 0 < k
  args_older k i l il = All-get_or (λ a. a < k) (shape_at nodes k).args i 0 il (are.older k l)

  -- lists of nodes with one list of terms are one list
  same_args : (xs ys : List ℕ) → map (term_of nodes) xs ≡ map (term_of nodes) ys →
      ((i : ℕ) → i < length xs → i < length ys → term_of nodes (get_or xs i 0)
      ≡ term_of nodes (get_or ys i 0) → get_or xs i 0 ≡ get_or ys i 0) →
      xs ≡ ys
  same_args xs ys e one =
      let count : length xs ≡ length ys = sym (length-map xs (term_of nodes))
      ∙ (ap length e ∙ length-map ys (term_of nodes)) in
      same_number_lists xs ys count
      (λ i l. one i l (omega (arith, l, count))
      (sym (get_or-map (term_of nodes) xs i 0 (term.Num (pos 0)) l)
      ∙ (ap (λ ts. get_or ts i (term.Num (pos 0))) e
      ∙ get_or-map (term_of nodes) ys i 0 (term.Num (pos 0)) (omega (arith, l, count)))))

  same_shape : (t u : Top) (xs ys : List ℕ) → built (term_of nodes) t xs
      ≡ built (term_of nodes) u ys →
      ((i : ℕ) → i < length xs → i < length ys → term_of nodes (get_or xs i 0)
      ≡ term_of nodes (get_or ys i 0) → get_or xs i 0 ≡ get_or ys i 0) →
      shape t xs ≡ shape u ys
  same_shape (Num m) (Num n) xs ys e one = cc
  same_shape (Num m) (App f) xs ys e one = absurd (apart_Num m f (map (term_of nodes) ys) e)
  same_shape (App f) (Num n) xs ys e one = absurd (apart_Num n f (map (term_of nodes) xs) (sym e))
  same_shape (App f) (App g) xs ys e one =
      let heads : f ≡ g = head_of_same f g (map (term_of nodes) xs) (map (term_of nodes) ys) e in
      let args : xs ≡ ys = same_args xs ys (args_of_same f g (map (term_of nodes) xs)
      (map (term_of nodes) ys) e) one in
      ap (λ h. record { top = App h; args = xs }) heads
      ∙ ap (λ rest. record { top = App g; args = rest }) args

  once_below : (end j k : ℕ) → j < end → j < length nodes → k < length nodes → term_of nodes j
      ≡ term_of nodes k → j ≡ k
  once_below zero j k below jl kl e = absurd (omega (arith, below))
  once_below (suc end) j k below jl kl e =
      are.once j k jl kl (sym (are.bare j jl)
      ∙ (same_shape (shape_at nodes j).top (shape_at nodes k).top (shape_at nodes j).args
      (shape_at nodes k).args
      (sym (terms_are_built nodes are j jl) ∙ (e ∙ terms_are_built nodes are k kl))
      (λ i il il'. once_below end (get_or (shape_at nodes j).args i 0)
      (get_or (shape_at nodes k).args i 0)
      (omega (arith, below, args_older j i jl il)) (omega (arith, jl, args_older j i jl il))
      (omega (arith, kl, args_older k i kl il')))
      ∙ are.bare k kl))

  pub terms_are_once : (j k : ℕ) → j < length nodes → k < length nodes → term_of nodes j
      ≡ term_of nodes k → j ≡ k
  terms_are_once j k jl kl e = once_below (suc j) j k (omega arith) jl kl e

  -- ---- the terms are ground

  all_ground : (xs : List ℕ) → ((i : ℕ) → i < length xs
      → IsTrue (is_ground (term_of nodes (get_or xs i 0)))) →
      IsTrue (list_all is_ground (map (term_of nodes) xs))
  all_ground [] each = refl
  all_ground (x ∷ xs) each =
      let first : IsTrue (is_ground (term_of nodes x)) = each 0 (omega arith) in
      rw first (all_ground xs (λ i l. each (suc i) (omega (arith, l))))

  built_ground : (top : Top) (args : List ℕ) → ((i : ℕ) → i < length args
      → IsTrue (is_ground (term_of nodes (get_or args i 0)))) →
      IsTrue (is_ground (built (term_of nodes) top args))
  unfolding is_ground
  built_ground (Num n) args each = binds_term-Num 0 n
  built_ground (App head) args each = binds_term-App 0 head (map (term_of nodes) args)
      ∙ all_ground args each

  ground_below : (end k : ℕ) → k < end → k < length nodes → IsTrue (is_ground (term_of nodes k))
  ground_below zero k below l = absurd (omega (arith, below))
  ground_below (suc end) k below l =
      rw (terms_are_built nodes are k l) (built_ground (shape_at nodes k).top
      (shape_at nodes k).args
      (λ i il. ground_below end (get_or (shape_at nodes k).args i 0)
      (omega (arith, below, args_older k i l il)) (omega (arith, l, args_older k i l il))))

  pub terms_are_ground : (k : ℕ) → k < length nodes → IsTrue (is_ground (term_of nodes k))
  terms_are_ground k l = ground_below (suc k) k (omega arith) l
