-- A trigger matches nodes exactly where it matches their terms, modulo the same classes.
use Rattle.std.proofs.Common.{◌≡◌, ℕ, ℤ, pos, ◌-◌, ◌<◌, nat_lt, List, [], ◌∷◌, ◌++◌, length}
use Rattle.std.proofs.Common.{get_or, map, reverse, refl, ap, sym, subst, ◌∙◌, arith}
use Rattle.std.specs.Prelude.{IsTrue}
use Rattle.std.specs.List.{All, Contains, flat_map}
use Rattle.std.proofs.lemmas.Bool.{ltb-true}
use Rattle.std.proofs.lemmas.List.{get_or-map, get_or-reverse, get_or_default, length-map}
use Rattle.std.proofs.lemmas.List.{map-append}
use Rattle.std.proofs.lemmas.List.Elements.{All-cons, All-contains, All-get_or, All-head, All-map}
use Rattle.std.proofs.lemmas.List.Elements.{All-nil, All-tail, Contains-append_left}
use Rattle.std.proofs.lemmas.List.Elements.{Contains-append_right, Contains-get_or}
use Rattle.esc_term.specs.declared.term.Head.{Head}
use Rattle.esc_term.specs.declared.term.Term.{Term}
use Rattle.esc_term.specs.declared.term.Term.TheVariants.{Num, Var, App}
use Rattle.esc_term.specs.Term.{binding}
use Rattle.esc_term.proofs.Members.{Contains-here, Contains-later}
use Rattle.esc_term.proofs.Parts.{apart_Num, args_of_same, head_of_same}
use Rattle.esc_cover.specs.Classes.{together}
use Rattle.esc_cover.proofs.TestLemmas.{all_at}
use Rattle.esc_nodes.specs.declared.top.Top.{Top}
use Rattle.esc_nodes.specs.declared.top.Top.TheVariants as top
use Rattle.esc_nodes.specs.Nodes.{shape_at}
use Rattle.esc_nodes.specs.Terms.{term_of, terms_of}
use Rattle.esc_nodes.proofs.NodeTerms.{count_terms}
use Rattle.esc_nodes.proofs.Tops.{term_of-App, term_of-Num}
use Rattle.esc_egraph.specs.Graph.{Graph, IsGraph}
use Rattle.esc_trigger.specs.Variables.{variables_of}
use Rattle.esc_trigger.proofs.TermLevels.{variables_of-App, variables_of-Var}
use Rattle.esc_match.specs.Match.{Match, MatchAll, TriggerMatch}
use Rattle.esc_match.specs.Match as fits
use Rattle.esc_match.specs.Matches.{class_in}
use Rattle.esc_match.specs.OfTerms.{AreClassesOf, HoldsOnly, MatchesAreOfTerms, TermMatch}
use Rattle.esc_match.specs.OfTerms.{TermMatchAll, TermMatchesAreOfNodes, TermTriggerMatch}
use Rattle.esc_match.specs.OfTerms as shows
use Rattle.esc_match.proofs.Growth.{args_there}
use Rattle.esc_match.proofs.Inside.{same_Num}

-- each of the variables is below the count
abbrev IsBelow : ℕ → List ℕ → Type 0
IsBelow count names = (k : ℕ) → Contains names k → k < count

module _ (g : Graph) (graph : IsGraph g) where
  -- ---- nodes and their terms

  node_term : (m : ℕ) → m < length g.nodes → Contains (terms_of g.nodes) (term_of g.nodes m)
  unfolding term_of
  node_term m l =
      Contains-get_or (terms_of g.nodes) m (Num (pos 0)) (omega (arith, count_terms g.nodes, l))

  term_there : (t : Term) → Contains (terms_of g.nodes) t
      → (m : ℕ) × (m < length g.nodes) × (term_of g.nodes m ≡ t)
  unfolding term_of
  term_there t (k, l, e) = (
    k,
    omega (arith, count_terms g.nodes, l),
    get_or_default (terms_of g.nodes) k (Num (pos 0)) t l ∙ e,
  )

  top_of_Num : (m : ℕ) (v : ℤ) → m < length g.nodes → term_of g.nodes m ≡ Num v
      → (shape_at g.nodes m).top ≡ top.Num v
  top_of_Num m v l e = go (shape_at g.nodes m).top refl
    where
      go : (t : Top) → (shape_at g.nodes m).top ≡ t → (shape_at g.nodes m).top ≡ top.Num v
      go (top.Num x) is =
          is ∙ ap top.Num (same_Num x v (sym (term_of-Num g.nodes m x graph.terms l is) ∙ e))
      go (top.App head) is =
          absurd (apart_Num v head (map (term_of g.nodes) (shape_at g.nodes m).args)
          (sym e ∙ term_of-App g.nodes m head graph.terms l is))

  top_of_App : (m : ℕ) (head : Head) (ts : List Term) → m < length g.nodes
      → term_of g.nodes m ≡ App head ts
      → ((shape_at g.nodes m).top ≡ top.App head)
      × (map (term_of g.nodes) (shape_at g.nodes m).args ≡ ts)
  top_of_App m head ts l e = go (shape_at g.nodes m).top refl
    where
      go : (t : Top) → (shape_at g.nodes m).top ≡ t
          → ((shape_at g.nodes m).top ≡ top.App head)
          × (map (term_of g.nodes) (shape_at g.nodes m).args ≡ ts)
      go (top.Num x) is =
          absurd (apart_Num x head ts (sym (term_of-Num g.nodes m x graph.terms l is) ∙ e))
      go (top.App other) is =
          let both : App other (map (term_of g.nodes) (shape_at g.nodes m).args) ≡ App head ts =
          sym (term_of-App g.nodes m other graph.terms l is) ∙ e in (
            is ∙ ap top.App (head_of_same other head
                (map (term_of g.nodes) (shape_at g.nodes m).args) ts both),
            args_of_same other head (map (term_of g.nodes) (shape_at g.nodes m).args) ts both,
          )

  nodes_found : (ts : List Term) → All (Contains (terms_of g.nodes)) ts
      → (ns : List ℕ) × (ts ≡ map (term_of g.nodes) ns) × All (λ n. n < length g.nodes) ns
  nodes_found [] all = ([], refl, All-nil (λ n. n < length g.nodes))
  nodes_found (t ∷ ts) all =
      let first = term_there t (All-head (Contains (terms_of g.nodes)) t ts all) in
      let rest = nodes_found ts (All-tail (Contains (terms_of g.nodes)) t ts all) in (
        first.0 ∷ rest.0,
        ap (λ u. u ∷ ts) (sym first.2) ∙ ap (λ us. term_of g.nodes first.0 ∷ us) rest.1,
        All-cons (λ n. n < length g.nodes) first.0 rest.0 first.1 rest.2,
      )

  module _ (classes : List (List Term)) (are : AreClassesOf g classes) (members : List ℕ)
      (there : All (λ n. n < length g.nodes) members) where
    bound_term : (k : ℕ) (p : Term) → k < length members
        → binding (map (term_of g.nodes) members) k p
        ≡ term_of g.nodes (get_or (reverse members) k 0)
    bound_term k p l =
        let many : length (map (term_of g.nodes) members) ≡ length members =
        length-map members (term_of g.nodes) in
        get_or-reverse (map (term_of g.nodes) members) k p (omega (arith, many, l))
        ∙ (ap (λ n. get_or (map (term_of g.nodes) members) (n - 1 - k) p) many
        ∙ (get_or-map (term_of g.nodes) members (length members - 1 - k) 0 p (omega (arith, l))
        ∙ ap (term_of g.nodes) (sym (get_or-reverse members k 0 l))))

    member_there : (k : ℕ) → k < length members
        → get_or (reverse members) k 0 < length g.nodes
    member_there k l =
        subst (λ n. n < length g.nodes) (sym (get_or-reverse members k 0 l))
        (All-get_or (λ n. n < length g.nodes) members (length members - 1 - k) 0
        (omega (arith, l)) there)

    variable_below : (p : Term) (k : ℕ) → p ≡ Var k → IsBelow (length members) (variables_of p)
        → k < length members
    variable_below p k is below =
        below k (subst (λ ks. Contains ks k) (sym (ap variables_of is ∙ variables_of-Var k))
        (Contains-here k []))

    args_below : (p : Term) (head : Head) (ps : List Term) → p ≡ App head ps
        → IsBelow (length members) (variables_of p)
        → IsBelow (length members) (flat_map variables_of ps)
    args_below p head ps is below k h =
        below k (subst (λ ks. Contains ks k) (sym (ap variables_of is ∙ variables_of-App head ps))
        h)

    first_below : (ps : List Term) (q : Term) (qs : List Term) → ps ≡ q ∷ qs
        → IsBelow (length members) (flat_map variables_of ps)
        → IsBelow (length members) (variables_of q)
    first_below ps q qs is below k h =
        below k (subst (λ us. Contains (flat_map variables_of us) k) (sym is)
        (Contains-append_left (variables_of q) (flat_map variables_of qs) k h))

    rest_below : (ps : List Term) (q : Term) (qs : List Term) → ps ≡ q ∷ qs
        → IsBelow (length members) (flat_map variables_of ps)
        → IsBelow (length members) (flat_map variables_of qs)
    rest_below ps q qs is below k h =
        below k (subst (λ us. Contains (flat_map variables_of us) k) (sym is)
        (Contains-append_right (variables_of q) (flat_map variables_of qs) k h))

    -- ---- from nodes to terms

    mutual
      to_one : (p : Term) (n : ℕ) (matched : List ℕ) → Match g (class_in g members) p n matched
          → n < length g.nodes → IsBelow (length members) (variables_of p)
          → TermMatch (terms_of g.nodes) classes (map (term_of g.nodes) members) p
          (term_of g.nodes n) (map (term_of g.nodes) matched)
      to_one p n matched (fits.variable _ _ _ k is c m) l below =
          let in_count = variable_below p k is below in
          shows.variable p (term_of g.nodes n) (map (term_of g.nodes) matched) k is
          (ap (together classes (term_of g.nodes n)) (bound_term k p in_count)
          ∙ (are n (get_or (reverse members) k 0) l (member_there k in_count)).1 c)
          (ap (map (term_of g.nodes)) m)
      to_one p n matched (fits.numeral _ _ _ v node is in_range topped same m) l below =
          let here : term_of g.nodes node ≡ p =
          term_of-Num g.nodes node v graph.terms in_range topped ∙ sym is in
          shows.numeral p (term_of g.nodes n) (map (term_of g.nodes) matched) v is
          (subst (Contains (terms_of g.nodes)) here (node_term node in_range))
          (subst (λ u. IsTrue (together classes u (term_of g.nodes n))) here
          ((are node n in_range l).1 same)) (ap (map (term_of g.nodes)) m)
      to_one p n matched (fits.application _ _ _ head ps node inside is in_range topped same args m)
          l below =
          shows.application p (term_of g.nodes n) (map (term_of g.nodes) matched)
          (term_of g.nodes node) head ps (map (term_of g.nodes) (shape_at g.nodes node).args)
          (map (term_of g.nodes) inside) is
          (term_of-App g.nodes node head graph.terms in_range topped) (node_term node in_range)
          ((are node n in_range l).1 same)
          (to_all ps (shape_at g.nodes node).args inside args (args_there g graph node in_range)
          (args_below p head ps is below)) (ap (map (term_of g.nodes)) m)

      to_all : (ps : List Term) (ns matched : List ℕ)
          → MatchAll g (class_in g members) ps ns matched
          → ((n : ℕ) → Contains ns n → n < length g.nodes)
          → IsBelow (length members) (flat_map variables_of ps)
          → TermMatchAll (terms_of g.nodes) classes (map (term_of g.nodes) members) ps
          (map (term_of g.nodes) ns) (map (term_of g.nodes) matched)
      to_all ps ns matched (fits.none _ _ _ is at m) within below =
          shows.none ps (map (term_of g.nodes) ns) (map (term_of g.nodes) matched) is
          (ap (map (term_of g.nodes)) at) (ap (map (term_of g.nodes)) m)
      to_all ps ns matched (fits.more _ _ _ q qs node nodes first rest is at one others m) within
          below =
          shows.more ps (map (term_of g.nodes) ns) (map (term_of g.nodes) matched) q
          (term_of g.nodes node) qs (map (term_of g.nodes) nodes) (map (term_of g.nodes) first)
          (map (term_of g.nodes) rest) is (ap (map (term_of g.nodes)) at)
          (to_one q node first one
          (within node (subst (λ xs. Contains xs node) (sym at) (Contains-here node nodes)))
          (first_below ps q qs is below))
          (to_all qs nodes rest others
          (λ k h. within k (subst (λ xs. Contains xs k) (sym at) (Contains-later node nodes k h)))
          (rest_below ps q qs is below))
          (ap (map (term_of g.nodes)) m ∙ map-append (term_of g.nodes) first rest)

    -- ---- from terms to nodes

    mutual
      from_one : (p t : Term) (shown : List Term)
          → TermMatch (terms_of g.nodes) classes (map (term_of g.nodes) members) p t shown
          → (n : ℕ) → t ≡ term_of g.nodes n → n < length g.nodes
          → IsBelow (length members) (variables_of p)
          → (matched : List ℕ) × (shown ≡ map (term_of g.nodes) matched)
          × Match g (class_in g members) p n matched
      from_one p t shown (shows.variable _ _ _ k is joins m) n e l below =
          let in_count = variable_below p k is below in
          let with_node : IsTrue (together classes (term_of g.nodes n)
          (term_of g.nodes (get_or (reverse members) k 0))) =
          ap (together classes (term_of g.nodes n)) (sym (bound_term k p in_count))
          ∙ (ap (λ u. together classes u (binding (map (term_of g.nodes) members) k p)) (sym e)
          ∙ joins) in (
            n ∷ [],
            m ∙ ap (λ u. u ∷ []) e,
            fits.variable p n (n ∷ []) k is
                ((are n (get_or (reverse members) k 0) l (member_there k in_count)).0 with_node)
                refl,
          )
      from_one p t shown (shows.numeral _ _ _ v is has joins m) n e l below =
          let node = term_there p has in
          let with_node : IsTrue (together classes (term_of g.nodes node.0) (term_of g.nodes n)) =
          ap (λ u. together classes u (term_of g.nodes n)) node.2
          ∙ (ap (together classes p) (sym e) ∙ joins) in (
            n ∷ [],
            m ∙ ap (λ u. u ∷ []) e,
            fits.numeral p n (n ∷ []) v node.0 is node.1
                (top_of_Num node.0 v node.1 (node.2 ∙ is))
                ((are node.0 n node.1 l).0 with_node) refl,
          )
      from_one p t shown (shows.application _ _ _ u head ps ts inside is made has joins args m) n e
          l below =
          let node = term_there u has in
          let topped = top_of_App node.0 head ts node.1 (node.2 ∙ made) in
          let with_node : IsTrue (together classes (term_of g.nodes node.0) (term_of g.nodes n)) =
          ap (λ x. together classes x (term_of g.nodes n)) node.2
          ∙ (ap (together classes u) (sym e) ∙ joins) in
          let inner =
          from_all ps ts inside args (shape_at g.nodes node.0).args (sym topped.1)
          (args_there g graph node.0 node.1) (args_below p head ps is below) in (
            node.0 ∷ inner.0,
            m ∙ (ap (λ x. x ∷ inside) (sym node.2)
                ∙ ap (λ xs. term_of g.nodes node.0 ∷ xs) inner.1),
            fits.application p n (node.0 ∷ inner.0) head ps node.0 inner.0 is node.1 topped.0
                ((are node.0 n node.1 l).0 with_node) inner.2 refl,
          )

      from_all : (ps ts shown : List Term)
          → TermMatchAll (terms_of g.nodes) classes (map (term_of g.nodes) members) ps ts shown
          → (ns : List ℕ) → ts ≡ map (term_of g.nodes) ns
          → ((n : ℕ) → Contains ns n → n < length g.nodes)
          → IsBelow (length members) (flat_map variables_of ps)
          → (matched : List ℕ) × (shown ≡ map (term_of g.nodes) matched)
          × MatchAll g (class_in g members) ps ns matched
      from_all ps ts shown (shows.none _ _ _ is at m) [] e within below =
          ([], m, fits.none ps [] [] is refl refl)
      from_all ps ts shown (shows.none _ _ _ is at m) (n ∷ ns) e within below =
          absurd (cc (sym at ∙ e))
      from_all ps ts shown (shows.more _ _ _ q u qs us first rest is at one others m) [] e within
          below = absurd (cc (sym at ∙ e))
      from_all ps ts shown (shows.more _ _ _ q u qs us first rest is at one others m) (n ∷ ns) e
          within below =
          let same : u ∷ us ≡ term_of g.nodes n ∷ map (term_of g.nodes) ns = sym at ∙ e in
          let here =
          from_one q u first one n (cc same) (within n (Contains-here n ns))
          (first_below ps q qs is below) in
          let later =
          from_all qs us rest others ns (cc same) (λ k h. within k (Contains-later n ns k h))
          (rest_below ps q qs is below) in (
            here.0 ++ later.0,
            m ∙ (ap (λ xs. xs ++ rest) here.1
                ∙ (ap (λ xs. map (term_of g.nodes) here.0 ++ xs) later.1
                ∙ sym (map-append (term_of g.nodes) here.0 later.0))),
            fits.more ps (n ∷ ns) (here.0 ++ later.0) q qs n ns here.0 later.0 is refl here.2
                later.2 refl,
          )

all_below : (count : ℕ) (trigger : List Term) → HoldsOnly count trigger
    → IsBelow count (flat_map variables_of trigger)
all_below count trigger only k h =
    ltb-true k count (all_at (λ j. nat_lt j count) (flat_map variables_of trigger) k only h)

pub matches_are_of_terms : MatchesAreOfTerms
matches_are_of_terms g graph classes are trigger members matched there only m = record {
  found = map (term_of g.nodes) m.nodes;
  there = All-map (Contains (terms_of g.nodes)) (term_of g.nodes) m.nodes
      (λ k d l. node_term g graph (get_or m.nodes k d) (m.there k d l));
  match = to_all g graph classes are members there trigger m.nodes matched m.match
      (λ n h. All-contains (λ k. k < length g.nodes) m.nodes n m.there h)
      (all_below (length members) trigger only);
}

pub term_matches_are_of_nodes : TermMatchesAreOfNodes
term_matches_are_of_nodes g graph classes are trigger members there only shown m =
    let nodes = nodes_found g graph m.found m.there in
    let found =
    from_all g graph classes are members there trigger m.found shown m.match nodes.0 nodes.1
    (λ n h. All-contains (λ k. k < length g.nodes) nodes.0 n nodes.2 h)
    (all_below (length members) trigger only) in
    (found.0, found.1, record { nodes = nodes.0; there = nodes.2; match = found.2 })
