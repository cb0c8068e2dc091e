-- Graphs that get nodes, one after another.
use Rattle.std.proofs.Common.{◌≡◌, ℕ, ◌<◌, ◌⊎◌, inl, inr, List, [], ◌∷◌, ◌++◌, length, refl}
use Rattle.std.proofs.Common.{ap, sym, subst, ◌∙◌, arith, append_assoc, length-append}
use Rattle.std.proofs.lemmas.List.{append-nil, get_or_append_left}
use Rattle.std.specs.Prelude.{pos}
use Rattle.esc_nodes.specs.Nodes.{Shape, shape_at}
use Rattle.esc_nodes.specs.Terms.{built, term_of}
use Rattle.esc_nodes.specs.declared.top.Top.TheVariants.{Num}
use Rattle.esc_nodes.proofs.NodeTerms.{terms_stay}
use Rattle.esc_egraph.specs.Congruence.{AreAlike, IsCongruence, IsKnown, IsMade, IsMet}
use Rattle.esc_egraph.specs.Graph.{Graph, IsGraph}
use Rattle.esc_node_terms.proofs.MadeTerms.{term_grown}
use Rattle.esc_sharing.specs.AddingInside.{IsGrown}
use Rattle.esc_sharing.specs.Calls.{IsNodeOf}

pub grown_nothing : (g : Graph) → IsGraph g → IsMet g → IsGrown g g
grown_nothing g graph met = record {
  nodes = ([], sym (append-nil g.nodes));
  forbidden = refl;
  kept = λ a b al bl same. same;
  least = record {
    closed = met.closed;
    meets = λ a b al bl same. same.2;
    finest = λ other closed meets a b al bl same. meets a b al bl (al, bl, same);
  };
  met = met;
  graph = graph;
}

pub grown_same : (g h : Graph) → h ≡ g → IsGraph h → IsMet h → IsGrown g h
grown_same g h same graph met =
    subst (λ (k : Graph). IsGrown k h) same (grown_nothing h graph met)

pub grown_node : (old new : Graph) (s : Shape) (node : ℕ) → IsGraph new → IsMet new
    → IsKnown old new s node ⊎ IsMade old new s node → IsGrown old new
grown_node old new s node graph met (inl known) = grown_same old new known.same graph met
grown_node old new s node graph met (inr made) = record {
  nodes = (s ∷ [], made.nodes);
  forbidden = made.forbidden;
  kept = made.kept;
  least = made.least;
  met = met;
  graph = graph;
}

-- ---- one after another

module _ (old new : Graph) (more : List Shape) (nodes : new.nodes ≡ old.nodes ++ more) where
  pub longer : (k : ℕ) → k < length old.nodes → k < length new.nodes
  longer k l = omega (arith, l, ap length nodes, length-append old.nodes more)

  shape_stays : (k : ℕ) → k < length old.nodes → shape_at new.nodes k ≡ shape_at old.nodes k
  shape_stays k l =
      ap (λ shapes. shape_at shapes k) nodes
      ∙ get_or_append_left old.nodes more (record { top = Num (pos 0); args = [] }) k l

  pub term_stays : (k : ℕ) → k < length old.nodes → term_of new.nodes k ≡ term_of old.nodes k
  term_stays k l = ap (λ shapes. term_of shapes k) nodes ∙ terms_stay old.nodes more k l

  -- a congruence of more nodes is one of fewer
  congruence_before : (number : ℕ → ℕ) → IsCongruence new.nodes number
      → IsCongruence old.nodes number
  congruence_before number closed a b al bl alike =
      closed a b (longer a al) (longer b bl)
      (subst (λ s. AreAlike number s (shape_at new.nodes b)) (sym (shape_stays a al))
      (subst (AreAlike number (shape_at old.nodes a)) (sym (shape_stays b bl)) alike))

pub grown_both : (old mid new : Graph) → IsGrown old mid → IsGrown mid new → IsGrown old new
grown_both old mid new a b = record {
  nodes = (
    a.nodes.0 ++ b.nodes.0,
    b.nodes.1 ∙ (ap (λ shapes. shapes ++ b.nodes.0) a.nodes.1
        ∙ append_assoc old.nodes a.nodes.0 b.nodes.0),
  );
  forbidden = b.forbidden ∙ a.forbidden;
  kept = λ x y xl yl same. a.kept x y xl yl
      (b.kept x y (longer old mid a.nodes.0 a.nodes.1 x xl) (longer old mid a.nodes.0 a.nodes.1 y yl)
      same);
  least = record {
    closed = b.least.closed;
    meets = λ x y xl yl same.
        let xm = longer old mid a.nodes.0 a.nodes.1 x same.0 in
        let ym = longer old mid a.nodes.0 a.nodes.1 y same.1 in
        b.least.meets x y xl yl (xm, ym, a.least.meets x y xm ym same);
    finest = λ other closed meets.
        b.least.finest other closed (λ x y xl yl same.
        a.least.finest other (congruence_before mid new b.nodes.0 b.nodes.1 other closed)
        (λ u w ul wl among. meets u w (longer mid new b.nodes.0 b.nodes.1 u ul)
        (longer mid new b.nodes.0 b.nodes.1 w wl) among) x y same.0 same.1 same.2);
  };
  met = b.met;
  graph = b.graph;
}

-- ---- the node that was made

pub node_grown : (old new : Graph) (s : Shape) (node : ℕ) → IsGraph new → node < length new.nodes
    → IsKnown old new s node ⊎ IsMade old new s node
    → IsNodeOf new (built (term_of old.nodes) s.top s.args) node
node_grown old new s node graph there made =
    record { there = there; is = term_grown old new s node graph made }
