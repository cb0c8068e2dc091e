-- Books whose log grows or is cut, whose facts become live, and over more terms.
use Rattle.std.proofs.Common.{◌≡◌, ◌⊎◌, inl, inr, ℕ, suc, zero, ◌+◌, ◌<◌, ◌≤◌, List, [], ◌∷◌, ◌++◌}
use Rattle.std.proofs.Common.{Some, length, map, take, get_or, refl, ap, ap₂, sym}
use Rattle.std.proofs.Common.{subst}
use Rattle.std.proofs.Common.{◌∙◌, Ok, Err, Result, OnErr, OnOk, append-nil, arith, length-append}
use Rattle.std.proofs.lemmas.List.{take_all}
use Rattle.std.proofs.lemmas.List.Elements.{All-contains, All-head, All-push, All-tail}
use Rattle.std.proofs.lemmas.List.Elements.{All-weaker, Contains-get_or}
use Rattle.std.proofs.lemmas.List.Quantifiers.{all_pairs_push}
use Rattle.std.proofs.lemmas.Option.{slice_get-get_or}
use Rattle.std.specs.List.{All, AllPairs, Contains, slice_get}
use Rattle.esc_term.specs.declared.term.Term.{Term}
use Rattle.esc_term.specs.declared.formula.Formula.{Formula}
use Rattle.esc_node_terms.proofs.Places.{length-terms_of}
use Rattle.esc_nodes.specs.Terms.{at_place, term_of}
use Rattle.esc_egraph.specs.Graph.{Graph}
use Rattle.esc_sharing.specs.Nodes.{node_count, node_term, terms_in}
use Rattle.esc_book.specs.Book.{BookView, Distinction, Equation, HasNodes, IsBook, IsPage, Order}
use Rattle.esc_book.specs.Book.{Page, told, told_kind}
use Rattle.esc_book.specs.declared.entry.Entry.{Entry}
use Rattle.esc_book.specs.declared.entry.Kind.{Kind}
use Rattle.esc_book.specs.declared.entry.Kind.TheVariants as kind
use Rattle.esc_book.proofs.Pairs.{get-before}
use Rattle.esc_book.proofs.Reading.{get-within}

-- ---- lists

get-contains : {X : Type 0} (xs : List X) (i : ℕ) (x : X) → slice_get xs i ≡ Some x
    → Contains xs x
get-contains xs i x e =
    let l : i < length xs = get-within xs i x e in
    let same : get_or xs i x ≡ x =
    let both : Some (get_or xs i x) ≡ Some x = sym (slice_get-get_or xs i x l) ∙ e in cc in
    subst (Contains xs) same (Contains-get_or xs i x l)

get-push : {X : Type 0} (xs : List X) (y : X) (i : ℕ) (x : X)
    → slice_get (xs ++ (y ∷ [])) i ≡ Some x
    → (slice_get xs i ≡ Some x) ⊎ ((i ≡ length xs) × (y ≡ x))
get-push [] y zero x e = inr (refl, cc)
get-push [] y (suc i) x e = cc
get-push (z ∷ xs) y zero x e = inl e
get-push (z ∷ xs) y (suc i) x e =
    elim (get-push xs y i x e) [
      | inl h ↦ inl h
      | inr h ↦ inr (ap suc h.0, h.1)
    ]

get-take : {X : Type 0} (xs : List X) (n i : ℕ) (x : X) → slice_get (take n xs) i ≡ Some x
    → slice_get xs i ≡ Some x
get-take xs zero i x e = cc
get-take [] (suc n) i x e = cc
get-take (y ∷ xs) (suc n) zero x e = e
get-take (y ∷ xs) (suc n) (suc i) x e = get-take xs n i x e

-- what is put at the end of a list, where there is memory
pub grown : {X E : Type 0} (old new : List X) (x : X) (r : Result Unit E)
    → OnOk r (new ≡ old ++ (x ∷ [])) → OnErr r (new ≡ old) → (more : List X) × (new ≡ old ++ more)
grown old new x (Ok u) ok err = (x ∷ [], ok)
grown old new x (Err e) ok err = ([], err ∙ sym (append-nil old))

-- a list of which the first elements alone are left
pub cut_done : {X : Type 0} (len : ℕ) (old now : List X) → len ≤ length now → length now ≤ len
    → take len now ≡ take len old → now ≡ take len old
cut_done len old now many few first = sym (take_all len now few) ∙ first

pub view-same : (logged logged' : List Formula) (live live' : List ℕ) (pages pages' : List Page)
    → logged ≡ logged' → live ≡ live' → pages ≡ pages'
    → ◌≡◌ {A = BookView} (record { logged = logged; live = live; pages = pages })
    (record { logged = logged'; live = live'; pages = pages' })
view-same logged logged' live live' pages pages' e f h = cc

-- ---- the log

module _ (g : Graph) (v w : BookView) where
  pub book-longer : (more : List Formula) → w.logged ≡ v.logged ++ more → w.live ≡ v.live
      → w.pages ≡ v.pages → IsBook g v → IsBook g w
  book-longer more logged live pages is = record {
    within = subst (λ l. All (λ p. p < length w.logged) l) (sym live)
        (All-weaker (λ p. p < length v.logged) (λ p. p < length w.logged)
        (λ p l. omega (arith, l, ap length logged, length-append v.logged more)) v.live is.within);
    once = subst (λ l. AllPairs (λ p q. p ≡ q → ⊥) l) (sym live) is.once;
    as_many = ap length pages ∙ (is.as_many ∙ ap length (sym live));
    written = λ i place f page there at_place at_page.
        let here : slice_get v.live i ≡ Some place = ap (λ l. slice_get l i) (sym live) ∙ there in
        let l : place < length v.logged =
        All-contains (λ p. p < length v.logged) v.live place is.within
        (get-contains v.live i place here) in
        is.written i place f page here
        (sym (get-before v.logged more place l) ∙ (ap (λ l. slice_get l place) (sym logged)
        ∙ at_place)) (ap (λ l. slice_get l i) (sym pages) ∙ at_page);
  }

  pub book-cut : (len : ℕ) → len ≤ length v.logged → All (λ p. p < len) v.live
      → w.logged ≡ take len v.logged → length w.logged ≡ len → w.live ≡ v.live
      → w.pages ≡ v.pages → IsBook g v → IsBook g w
  book-cut len many low logged kept live pages is = record {
    within = subst (λ l. All (λ p. p < length w.logged) l) (sym live)
        (All-weaker (λ p. p < len) (λ p. p < length w.logged)
        (λ p l. omega (arith, l, kept)) v.live low);
    once = subst (λ l. AllPairs (λ p q. p ≡ q → ⊥) l) (sym live) is.once;
    as_many = ap length pages ∙ (is.as_many ∙ ap length (sym live));
    written = λ i place f page there at_place at_page.
        is.written i place f page (ap (λ l. slice_get l i) (sym live) ∙ there)
        (get-take v.logged len place f (ap (λ l. slice_get l place) (sym logged) ∙ at_place))
        (ap (λ l. slice_get l i) (sym pages) ∙ at_page);
  }

  pub book-live : (place : ℕ) (f : Formula) (page : Page) → w.logged ≡ v.logged
      → w.live ≡ v.live ++ (place ∷ []) → w.pages ≡ v.pages ++ (page ∷ [])
      → (Contains v.live place → ⊥) → slice_get v.logged place ≡ Some f → IsPage g f page
      → IsBook g v → IsBook g w
  book-live place f page logged live pages dead there is_page is = record {
    within = subst (λ l. All (λ p. p < length w.logged) l) (sym live)
        (All-push (λ p. p < length w.logged) v.live place
        (subst (λ l. All (λ p. p < length l) v.live) (sym logged) is.within)
        (omega (arith, get-within v.logged place f there, ap length logged)));
    once = subst (λ l. AllPairs (λ p q. p ≡ q → ⊥) l) (sym live)
        (all_pairs_push (λ p q. p ≡ q → ⊥) v.live place is.once
        (λ k d l e. dead (subst (Contains v.live) e (Contains-get_or v.live k d l))));
    as_many = ap length pages ∙ (length-append v.pages (page ∷ [])
        ∙ (ap (λ n. n + 1) is.as_many ∙ (sym (length-append v.live (place ∷ []))
        ∙ ap length (sym live))));
    written = λ i p h e there_i at_place at_page.
        let in_log : slice_get v.logged p ≡ Some h =
        ap (λ l. slice_get l p) (sym logged) ∙ at_place in
        let in_live = get-push v.live place i p (ap (λ l. slice_get l i) (sym live) ∙ there_i) in
        let in_pages = get-push v.pages page i e (ap (λ l. slice_get l i) (sym pages) ∙ at_page) in
        elim in_live [
          | inl a ↦ elim in_pages [
            | inl b ↦ is.written i p h e a in_log b
            | inr b ↦ absurd (omega (arith, get-within v.live i p a, b.0, is.as_many))
          ]
          | inr a ↦ elim in_pages [
            | inl b ↦ absurd (omega (arith, get-within v.pages i e b, a.0, is.as_many))
            | inr b ↦
                let same : f ≡ h =
                let both : Some f ≡ Some h =
                sym there ∙ (ap (λ q. slice_get v.logged q) a.1 ∙ in_log) in cc in
                subst (λ x. IsPage g x e) same (subst (λ x. IsPage g f x) b.1 is_page)
          ]
        ];
  }

-- ---- more terms

module _ (g h : Graph) (more : List Term) (grown : terms_in h ≡ terms_in g ++ more) where
  count_grows : node_count g ≤ node_count h
  count_grows =
      omega (
        arith,
        length-terms_of g.nodes,
        length-terms_of h.nodes,
        ap length grown,
        length-append (terms_in g) more,
      )

  get_or-before : (xs ys : List Term) (k : ℕ) (d : Term) → k < length xs
      → get_or (xs ++ ys) k d ≡ get_or xs k d
  get_or-before [] ys k d l = absurd (omega (arith, l))
  get_or-before (x ∷ xs) ys zero d l = refl
  get_or-before (x ∷ xs) ys (suc k) d l = get_or-before xs ys k d (omega (arith, l))

  term_stays : (a : ℕ) → a < node_count g → node_term h a ≡ node_term g a
  unfolding term_of
  term_stays a l =
      ap (λ ts. at_place ts a) grown
      ∙ get_or-before (terms_in g) more a _ (omega (arith, l, length-terms_of g.nodes))

  terms_stay : (nodes : List ℕ) → All (λ a. a < node_count g) nodes
      → map (node_term h) nodes ≡ map (node_term g) nodes
  terms_stay [] all = refl
  terms_stay (a ∷ nodes) all =
      ap₂ (λ t ts. t ∷ ts) (term_stays a (All-head (λ a. a < node_count g) a nodes all))
      (terms_stay nodes (All-tail (λ a. a < node_count g) a nodes all))

  kind_stays : (k : Kind) → HasNodes g k → told_kind h k ≡ told_kind g k
  kind_stays (kind.Constant is_true) has = refl
  kind_stays kind.Conjunction has = refl
  kind_stays kind.Disjunction has = refl
  kind_stays kind.Negation has = refl
  kind_stays kind.Implication has = refl
  kind_stays kind.Equivalence has = refl
  kind_stays kind.Labelled has = refl
  kind_stays (kind.Equation a b) has =
      ap₂ Equation (term_stays a has.0) (term_stays b has.1)
  kind_stays (kind.Order a b) has = ap₂ Order (term_stays a has.0) (term_stays b has.1)
  kind_stays (kind.Distinction nodes) has = ap Distinction (terms_stay nodes has)
  kind_stays (kind.Quantified f) has = refl

  has_stays : (k : Kind) → HasNodes g k → HasNodes h k
  has_stays (kind.Constant is_true) has = tt
  has_stays kind.Conjunction has = tt
  has_stays kind.Disjunction has = tt
  has_stays kind.Negation has = tt
  has_stays kind.Implication has = tt
  has_stays kind.Equivalence has = tt
  has_stays kind.Labelled has = tt
  has_stays (kind.Equation a b) has =
      (omega (arith, has.0, count_grows), omega (arith, has.1, count_grows))
  has_stays (kind.Order a b) has =
      (omega (arith, has.0, count_grows), omega (arith, has.1, count_grows))
  has_stays (kind.Distinction nodes) has =
      All-weaker (λ a. a < node_count g) (λ a. a < node_count h)
      (λ a l. omega (arith, l, count_grows)) nodes has
  has_stays (kind.Quantified f) has = tt

  entries_stay : (page : Page) → All (λ e. HasNodes g e.kind) page
      → map (told h) page ≡ map (told g) page
  entries_stay [] all = refl
  entries_stay (e ∷ page) all =
      ap₂ (λ form os. record { begin = e.begin; next = e.next; form = form } ∷ os)
      (kind_stays e.kind (All-head (λ (x : Entry). HasNodes g x.kind) e page all))
      (entries_stay page (All-tail (λ (x : Entry). HasNodes g x.kind) e page all))

  page_stays : (f : Formula) (page : Page) → IsPage g f page → IsPage h f page
  page_stays f page is = record {
    is = entries_stay page is.nodes ∙ is.is;
    nodes = All-weaker (λ (e : Entry). HasNodes g e.kind) (λ (e : Entry). HasNodes h e.kind)
        (λ e has. has_stays e.kind has) page is.nodes;
  }

  pub book-stays : (v : BookView) → IsBook g v → IsBook h v
  book-stays v is = record {
    within = is.within;
    once = is.once;
    as_many = is.as_many;
    written = λ i place f page a b c. page_stays f page (is.written i place f page a b c);
  }
