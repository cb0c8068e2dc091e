-- A walk brings terms, and then more of them.
use Rattle.std.proofs.Common.{◌≡◌, ℕ, suc, ◌<◌, ◌⊎◌, inl, inr, Bool, true, false, List}
use Rattle.std.proofs.Common.{[], ◌∷◌, ◌++◌, length}
use Rattle.std.proofs.Common.{append_assoc, if◌then◌else◌, refl, ap, ap₂, sym, subst, ◌∙◌}
use Rattle.std.proofs.Common.{◌+◌, arith, get_or, take}
use Rattle.std.specs.Prelude.{OnOk, Result, Ok, Err}
use Rattle.std.specs.List.{All, Contains, filter, flat_map, fold}
use Rattle.std.proofs.lemmas.Grind.{flat_map-append}
use Rattle.std.proofs.lemmas.List.{append-nil, map-append, take_more}
use Rattle.std.proofs.lemmas.List.Elements.{All-append, All-contains, All-nil, All-weaker}
use Rattle.std.proofs.lemmas.List.Elements.{Contains-append_cases, Contains-append_left}
use Rattle.std.proofs.lemmas.List.Elements.{Contains-append_right, filter-append}
use Rattle.std.proofs.lemmas.List.Sums.{fold-append}
use Rattle.esc_term.specs.declared.term.Term.{Term}
use Rattle.esc_term.specs.declared.term.Term.TheViews.{out-Term}
use Rattle.esc_term.specs.Term.{subterms, with_once}
use Rattle.esc_trail.specs.Undo.{IsLawful}
use Rattle.esc_trail.proofs.Noting.{notes_both, notes_nothing}
use Rattle.esc_cover.specs.Arithmetic.{is_number, operands, operands_form}
use Rattle.esc_nodes.specs.Terms.{at_place, term_of}
use Rattle.esc_egraph.specs.Graph.{Graph}
use Rattle.esc_node_terms.proofs.Once.{places_stay}
use Rattle.esc_node_terms.proofs.Places.{length-terms_of}
use Rattle.esc_simplex.specs.SimplexLaws.{simplex_lawful}
use Rattle.esc_simplex.specs.SimplexUndo.{simplex_undo}
use Rattle.esc_simplex.specs.declared.record.SimplexRec.{SimplexRec}
use Rattle.esc_simplex.specs.declared.simplex.Simplex.{Simplex}
use Rattle.esc_sharing.specs.Calls.{AreNodesFor, GathersFor, PutsInPlay, becoming, terms_at}
use Rattle.esc_sharing.specs.Nodes.{node_term, terms_in}
use Rattle.esc_sharing.specs.Shared.{IsShared, Shared}
use Rattle.esc_sharing.specs.SharingUndo.{sharing_lawful, sharing_undo}
use Rattle.esc_sharing.specs.declared.record.PartRec.{PartRec}
use Rattle.esc_sharing.specs.declared.sharing.Sharing.{Sharing}
use Rattle.esc_sharing.proofs.Lists.{All-each, flat_map-push}
use Rattle.esc_play.specs.WalkingInside.{Brings, Walks, arithmetic_of}

-- ---- the elements of three lists

module _ (s : Term) where
  pub parts_of : (a b c : List Term) → Contains (a ++ (b ++ c)) s
      → Contains a s ⊎ (Contains b s ⊎ Contains c s)
  parts_of a b c h = elim (Contains-append_cases a (b ++ c) s h) [
    | inl first ↦ inl first
    | inr later ↦ inr (Contains-append_cases b c s later)
  ]

  pub in_first : (a b c : List Term) → Contains a s → Contains (a ++ (b ++ c)) s
  in_first a b c h = Contains-append_left a (b ++ c) s h

  pub in_second : (a b c : List Term) → Contains b s → Contains (a ++ (b ++ c)) s
  in_second a b c h = Contains-append_right a (b ++ c) s (Contains-append_left b c s h)

  pub in_third : (a b c : List Term) → Contains c s → Contains (a ++ (b ++ c)) s
  in_third a b c h = Contains-append_right a (b ++ c) s (Contains-append_right b c s h)

  module _ (a b c d e f : List Term) where
    three_apart : Contains ((a ++ b) ++ ((c ++ d) ++ (e ++ f))) s
        → Contains (a ++ (c ++ e)) s ⊎ Contains (b ++ (d ++ f)) s
    three_apart h = elim (parts_of (a ++ b) (c ++ d) (e ++ f) h) [
      | inl x ↦ elim (Contains-append_cases a b s x) [
        | inl y ↦ inl (in_first a c e y)
        | inr y ↦ inr (in_first b d f y)
      ]
      | inr (inl x) ↦ elim (Contains-append_cases c d s x) [
        | inl y ↦ inl (in_second a c e y)
        | inr y ↦ inr (in_second b d f y)
      ]
      | inr (inr x) ↦ elim (Contains-append_cases e f s x) [
        | inl y ↦ inl (in_third a c e y)
        | inr y ↦ inr (in_third b d f y)
      ]
    ]

    three_joined : Contains (a ++ (c ++ e)) s ⊎ Contains (b ++ (d ++ f)) s
        → Contains ((a ++ b) ++ ((c ++ d) ++ (e ++ f))) s
    three_joined (inl h) = elim (parts_of a c e h) [
      | inl x ↦ in_first (a ++ b) (c ++ d) (e ++ f) (Contains-append_left a b s x)
      | inr (inl x) ↦ in_second (a ++ b) (c ++ d) (e ++ f) (Contains-append_left c d s x)
      | inr (inr x) ↦ in_third (a ++ b) (c ++ d) (e ++ f) (Contains-append_left e f s x)
    ]
    three_joined (inr h) = elim (parts_of b d f h) [
      | inl x ↦ in_first (a ++ b) (c ++ d) (e ++ f) (Contains-append_right a b s x)
      | inr (inl x) ↦ in_second (a ++ b) (c ++ d) (e ++ f) (Contains-append_right c d s x)
      | inr (inr x) ↦ in_third (a ++ b) (c ++ d) (e ++ f) (Contains-append_right e f s x)
    ]

-- ---- what becomes arithmetic by more terms

module _ (ts us ss rs : List Term) (t : Term) where
  is_split : arithmetic_of (ts ++ us) (ss ++ rs)
      ≡ (filter is_number ts ++ filter is_number us)
      ++ ((operands ts ++ operands us) ++ (ss ++ rs))
  is_split = ap₂ (λ xs ys. xs ++ (ys ++ (ss ++ rs))) (filter-append is_number ts us)
      (flat_map-append (λ (u : Term). operands_form (out-Term u)) ts us)

  arithmetic-apart : Contains (arithmetic_of (ts ++ us) (ss ++ rs)) t
      → Contains (arithmetic_of ts ss) t ⊎ Contains (arithmetic_of us rs) t
  arithmetic-apart h = three_apart t (filter is_number ts) (filter is_number us) (operands ts)
      (operands us) ss rs (subst (λ xs. Contains xs t) is_split h)

  arithmetic-joined : Contains (arithmetic_of ts ss) t ⊎ Contains (arithmetic_of us rs) t
      → Contains (arithmetic_of (ts ++ us) (ss ++ rs)) t
  arithmetic-joined h = subst (λ xs. Contains xs t) (sym is_split)
      (three_joined t (filter is_number ts) (filter is_number us) (operands ts) (operands us) ss rs
      h)

-- ---- nodes stay

module _ (g h : Graph) (more : List Term)
    (grown : terms_in h ≡ fold with_once (terms_in g) more) where
  node_stays : (k : ℕ) → k < length g.nodes
      → (k < length h.nodes) × (node_term h k ≡ node_term g k)
  unfolding term_of
  node_stays k l =
      let kept = places_stay (terms_in g) more k (omega (arith, l, length-terms_of g.nodes)) in
      let there : k < length (terms_in h) = subst (λ ts. k < length ts) (sym grown) kept.0 in (
        omega (arith, there, length-terms_of h.nodes),
        ap (λ ts. at_place ts k) grown ∙ kept.1,
      )

  terms_stay : (nodes : List ℕ) → All (λ a. a < length g.nodes) nodes
      → terms_at h nodes ≡ terms_at g nodes
  terms_stay [] there = refl
  terms_stay (n ∷ ns) there =
      ap (λ t. t ∷ terms_at h ns) (node_stays n (there 0 0 (omega arith))).1
      ∙ ap (λ ts. node_term g n ∷ ts)
      (terms_stay ns (λ k d l. there (suc k) d (omega (arith, l))))

  nodes_stay : (nodes : List ℕ) (terms : List Term) → AreNodesFor g nodes terms
      → AreNodesFor h nodes terms
  nodes_stay nodes terms are = record {
    there = All-weaker (λ a. a < length g.nodes) (λ a. a < length h.nodes)
        (λ a l. (node_stays a l).0) nodes are.there;
    among = subst (All (Contains terms)) (sym (terms_stay nodes are.there)) are.among;
    each = subst (λ ts. All (Contains ts) terms) (sym (terms_stay nodes are.there)) are.each;
  }

-- nodes for some terms, and for others, are nodes for all of them
nodes_joined : (g : Graph) (ns ms : List ℕ) (ts us all : List Term)
    → ((t : Term) → Contains all t → Contains ts t ⊎ Contains us t)
    → ((t : Term) → Contains ts t ⊎ Contains us t → Contains all t)
    → AreNodesFor g ns ts → AreNodesFor g ms us → AreNodesFor g (ns ++ ms) all
nodes_joined g ns ms ts us all apart joined first second = record {
  there = All-append (λ a. a < length g.nodes) ns ms first.there second.there;
  among = All-each (Contains all) (terms_at g (ns ++ ms)) (λ t h.
      elim (Contains-append_cases (terms_at g ns) (terms_at g ms) t
      (subst (λ xs. Contains xs t) (map-append (node_term g) ns ms) h)) [
        | inl x ↦ joined t (inl (All-contains (Contains ts) (terms_at g ns) t first.among x))
        | inr y ↦ joined t (inr (All-contains (Contains us) (terms_at g ms) t second.among y))
      ]);
  each = All-each (Contains (terms_at g (ns ++ ms))) all (λ t h.
      subst (λ xs. Contains xs t) (sym (map-append (node_term g) ns ms))
      (elim (apart t h) [
        | inl x ↦ Contains-append_left (terms_at g ns) (terms_at g ms) t
            (All-contains (Contains (terms_at g ns)) ts t first.each x)
        | inr y ↦ Contains-append_right (terms_at g ns) (terms_at g ms) t
            (All-contains (Contains (terms_at g ms)) us t second.each y)
      ]));
}

-- ---- what a walk brings

pub brings_nothing : (v : Shared) (ns : List ℕ) → IsShared v → Brings v v ns ns [] []
brings_nothing v ns is = record {
  shared = is;
  terms_are = refl;
  nodes = ([], sym (append-nil v.graph.nodes));
  literals = refl;
  numbers = record {
    more = [];
    gathered = sym (append-nil ns);
    are = record {
      there = All-nil (λ a. a < length v.graph.nodes);
      among = All-nil (Contains []);
      each = All-nil (Contains []);
    };
  };
}

pub brings_term : (v w : Shared) (old new : List ℕ) (t : Term) (side : Bool) → IsShared w
    → PutsInPlay v w t → GathersFor w.graph old new (becoming t side)
    → Brings v w old new (subterms t) (if side then t ∷ [] else [])
brings_term v w old new t side is puts gathers = record {
  shared = is;
  terms_are = puts.terms;
  nodes = puts.nodes;
  literals = puts.literals;
  numbers = gathers;
}

pub brings_both : (u v w : Shared) (first middle last : List ℕ) (ts us ss rs : List Term)
    → Brings u v first middle ts ss → Brings v w middle last us rs
    → Brings u w first last (ts ++ us) (ss ++ rs)
brings_both u v w first middle last ts us ss rs a b = record {
  shared = b.shared;
  terms_are = b.terms_are ∙ (ap (λ seen. fold with_once seen us) a.terms_are
      ∙ sym (fold-append with_once (terms_in u.graph) ts us));
  nodes = (
    a.nodes.0 ++ b.nodes.0,
    b.nodes.1 ∙ (ap (λ ns. ns ++ b.nodes.0) a.nodes.1
        ∙ append_assoc u.graph.nodes a.nodes.0 b.nodes.0),
  );
  literals = b.literals ∙ a.literals;
  numbers = record {
    more = a.numbers.more ++ b.numbers.more;
    gathered = b.numbers.gathered ∙ (ap (λ ns. ns ++ b.numbers.more) a.numbers.gathered
        ∙ append_assoc first a.numbers.more b.numbers.more);
    are = nodes_joined w.graph a.numbers.more b.numbers.more (arithmetic_of ts ss)
        (arithmetic_of us rs) (arithmetic_of (ts ++ us) (ss ++ rs))
        (arithmetic-apart ts us ss rs) (arithmetic-joined ts us ss rs)
        (nodes_stay v.graph w.graph us b.terms_are a.numbers.more (arithmetic_of ts ss)
        a.numbers.are) b.numbers.are;
  };
}

-- the same terms and sides
pub brings_as : (v w : Shared) (old new : List ℕ) (ts us ss rs : List Term)
    → Brings v w old new ts ss → us ≡ ts → rs ≡ ss → Brings v w old new us rs
brings_as v w old new ts us ss rs brings same sides =
    subst (λ xs. Brings v w old new xs rs) (sym same)
    (subst (Brings v w old new ts) (sym sides) brings)

-- what an answer says, where it is no error
module _ {V E : Type 0} (result : Result V E) where
  pub passes_as : (v w : Shared) (old new : List ℕ) (ts us ss rs : List Term)
      → OnOk result (Brings v w old new ts ss) → us ≡ ts → rs ≡ ss
      → OnOk result (Brings v w old new us rs)
  passes_as v w old new ts us ss rs brings same sides =
      subst (λ xs. OnOk result (Brings v w old new xs rs)) (sym same)
      (subst (λ xs. OnOk result (Brings v w old new ts xs)) (sym sides) brings)

pub passes_both : {V E : Type 0} (result : Result V E) (u v w : Shared)
    (first middle last : List ℕ) (ts us ss rs : List Term)
    → Brings u v first middle ts ss → OnOk result (Brings v w middle last us rs)
    → OnOk result (Brings u w first last (ts ++ us) (ss ++ rs))
passes_both (Ok x) u v w first middle last ts us ss rs a b =
    brings_both u v w first middle last ts us ss rs a b
passes_both (Err e) u v w first middle last ts us ss rs a b = tt

-- two terms, which may be sides of an order
module _ (u v w : Shared) (first middle last : List ℕ) (s t : Term) (order : Bool) where
  two_sides : (b : Bool) → (if b then s ∷ t ∷ [] else [])
      ≡ (if b then s ∷ [] else []) ++ (if b then t ∷ [] else [])
  two_sides true = refl
  two_sides false = refl

  pub brings_two : IsShared v → PutsInPlay u v s
      → GathersFor v.graph first middle (becoming s order) → IsShared w → PutsInPlay v w t
      → GathersFor w.graph middle last (becoming t order)
      → Brings u w first last (subterms s ++ subterms t) (if order then s ∷ t ∷ [] else [])
  brings_two is puts gathers then_is then_puts then_gathers =
      brings_as u w first last (subterms s ++ subterms t) (subterms s ++ subterms t)
      ((if order then s ∷ [] else []) ++ (if order then t ∷ [] else []))
      (if order then s ∷ t ∷ [] else [])
      (brings_both u v w first middle last (subterms s) (subterms t)
      (if order then s ∷ [] else []) (if order then t ∷ [] else [])
      (brings_term u v first middle s order is puts gathers)
      (brings_term v w middle last t order then_is then_puts then_gathers)) refl
      (two_sides order)

-- ---- one more of a list that is walked over in turn

module _ {X : Type 0} (xs : List X) (i : ℕ) (x : X) (within : i < length xs)
    (is : x ≡ get_or xs i x) where
  flat_map-more : (f : X → List Term)
      → flat_map f (take (i + 1) xs) ≡ flat_map f (take i xs) ++ f x
  flat_map-more f = ap (flat_map f) (take_more xs i x within
      ∙ ap (λ y. take i xs ++ y ∷ []) (sym is))
      ∙ flat_map-push f (take i xs) x

  module _ (u v w : Shared) (first middle last : List ℕ) (f : X → List Term) where
    pub brings_more : (sides : X → List Term)
        → Brings u v first middle (flat_map f (take i xs)) (flat_map sides (take i xs))
        → Brings v w middle last (f x) (sides x)
        → Brings u w first last (flat_map f (take (i + 1) xs)) (flat_map sides (take (i + 1) xs))
    brings_more sides before next =
        brings_as u w first last (flat_map f (take i xs) ++ f x) (flat_map f (take (i + 1) xs))
        (flat_map sides (take i xs) ++ sides x) (flat_map sides (take (i + 1) xs))
        (brings_both u v w first middle last (flat_map f (take i xs)) (f x)
        (flat_map sides (take i xs)) (sides x) before next)
        (flat_map-more f) (flat_map-more sides)

    -- without sides of orders
    pub brings_place : Brings u v first middle (flat_map f (take i xs)) []
        → Brings v w middle last (f x) []
        → Brings u w first last (flat_map f (take (i + 1) xs)) []
    brings_place before next =
        brings_as u w first last (flat_map f (take i xs) ++ f x) (flat_map f (take (i + 1) xs)) []
        [] (brings_both u v w first middle last (flat_map f (take i xs)) (f x) [] [] before next)
        (flat_map-more f) refl

-- ---- what it leaves

module _ {W : Type 0} (carry : PartRec SimplexRec → W) where
  lawful : IsLawful (sharing_undo simplex_undo)
  lawful = sharing_lawful simplex_undo simplex_lawful

  pub walks_nothing : (before : List W) (s : Sharing Simplex) → Walks carry before before s s
  walks_nothing before s = record {
    rest = refl;
    undo = notes_nothing (sharing_undo simplex_undo) carry before before s s refl
        (lawful.reflexive s);
  }

  pub walks_both : (first middle last : List W) (s t u : Sharing Simplex)
      → Walks carry first middle s t → Walks carry middle last t u → Walks carry first last s u
  walks_both first middle last s t u a b = record {
    rest = b.rest ∙ ap (λ (x : Sharing Simplex). record x { graph = u.graph }) a.rest;
    undo = notes_both (sharing_undo simplex_undo) lawful carry first middle last s t u a.undo
        b.undo;
  }
