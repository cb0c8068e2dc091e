-- Views with the same nodes have the same literals.
use Rattle.std.proofs.Common.{◌≡◌, ℕ, true, false, List, [], ◌∷◌, map, refl, ap, ◌∙◌}
use Rattle.esc_nodes.specs.Nodes.{Shape}
use Rattle.esc_nodes.specs.Terms.{term_of}
use Rattle.esc_egraph.specs.Graph.{Graph}
use Rattle.esc_sharing.specs.Literals.{equality, group_item, item_of, order}
use Rattle.esc_sharing.specs.declared.literal.Lit.{Lit}
use Rattle.esc_sharing.specs.declared.literal.Lit.TheVariants.{Equal, Apart, Below, AtMost}

map-alike : {X Y : Type 0} (f g : X → Y) → ((x : X) → f x ≡ g x) → (xs : List X)
    → map f xs ≡ map g xs
map-alike f g same [] = refl
map-alike f g same (x ∷ xs) = ap (λ y. y ∷ map f xs) (same x)
    ∙ ap (λ ys. g x ∷ ys) (map-alike f g same xs)

pub item-alike : (g h : Graph) → h.nodes ≡ g.nodes → (lit : Lit) → item_of h lit ≡ item_of g lit
item-alike g h e (Equal a b) =
    ap (λ (nodes : List Shape). equality (term_of nodes a) (term_of nodes b) true) e
item-alike g h e (Apart a b) =
    ap (λ (nodes : List Shape). equality (term_of nodes a) (term_of nodes b) false) e
item-alike g h e (Below a b) =
    ap (λ (nodes : List Shape). order (term_of nodes a) (term_of nodes b) true) e
item-alike g h e (AtMost a b) =
    ap (λ (nodes : List Shape). order (term_of nodes b) (term_of nodes a) false) e

group-alike : (g h : Graph) → h.nodes ≡ g.nodes → (group : List ℕ)
    → group_item h group ≡ group_item g group
group-alike g h e group =
    ap (λ (nodes : List Shape). let shown : Graph = record g { nodes = nodes } in
    group_item shown group) e

pub items-alike : (g h : Graph) → h.nodes ≡ g.nodes → (lits : List Lit)
    → map (item_of h) lits ≡ map (item_of g) lits
items-alike g h e lits = map-alike (item_of h) (item_of g) (item-alike g h e) lits

pub groups-alike : (g h : Graph) → h.nodes ≡ g.nodes → (groups : List (List ℕ))
    → map (group_item h) groups ≡ map (group_item g) groups
groups-alike g h e groups = map-alike (group_item h) (group_item g) (group-alike g h e) groups
