-- Each change of a graph, with the record that takes it back.
use Rattle.std.proofs.Common.{◌≡◌, ℕ, ◌+◌, ◌-◌, ◌<◌, List, [], ◌∷◌, ◌++◌, length, take, ap, sym, arith, length-append, All}
use Rattle.std.proofs.lemmas.List.{length-take, length_push}
use Rattle.std.proofs.lemmas.List.Elements.{All-weaker}
use Rattle.esc_nodes.specs.Nodes.{Shape, AreTerms}
use Rattle.esc_egraph.specs.Graph.{Graph, IsGraph}
use Rattle.esc_egraph.specs.GraphUndo.{graph_undo, graph_back, CanGoBack}
use Rattle.esc_egraph.specs.declared.record.EgraphRec.{EgraphRec}
use Rattle.esc_egraph.specs.declared.record.EgraphRec.TheVariants.{Made, Merged, Forbidden}
use Rattle.esc_trail.specs.Undo.{Notes}
use Rattle.esc_trail.proofs.Ends.{take-append_last}
use Rattle.esc_trail.proofs.Lawful.{equal_is_lawful}
use Rattle.esc_trail.proofs.Noting.{notes_one, notes_both}
use Rattle.esc_union.proofs.Holding.{AreMerges-count, AreMerges-fewer}
use Rattle.esc_union.proofs.Members.{AreMerges-more}
use Rattle.esc_union.proofs.Numbers.{new_nodes_stand_alone}

pub notes_forbidden : {Whole : Type 0} (carry : EgraphRec → Whole) (before after : List Whole)
    (entry exit : Graph) (a b : ℕ) →
    exit ≡ record entry { forbidden = entry.forbidden ++ ((a, b) ∷ []) } → after ≡ before
    ++ (carry Forbidden ∷ []) →
    Notes graph_undo carry before after entry exit
notes_forbidden carry before after entry exit a b is noted =
    rw is (notes_one graph_undo carry before after entry
    (record entry { forbidden = entry.forbidden ++ ((a, b) ∷ []) }) Forbidden noted
    (omega (arith, length-append entry.forbidden ((a, b) ∷ [])))
    (ap (λ f. record entry { forbidden = f }) (take-append_last entry.forbidden (a, b))))

pub notes_merged : {Whole : Type 0} (carry : EgraphRec → Whole) (before after : List Whole)
    (entry exit : Graph) (m : ℕ × ℕ) →
    exit ≡ record entry { merges = entry.merges ++ (m ∷ []) } → after ≡ before
    ++ (carry Merged ∷ []) →
    Notes graph_undo carry before after entry exit
notes_merged carry before after entry exit m is noted =
    rw is (notes_one graph_undo carry before after entry
    (record entry { merges = entry.merges ++ (m ∷ []) }) Merged noted
    (omega (arith, length-append entry.merges (m ∷ [])))
    (ap (λ f. record entry { merges = f }) (take-append_last entry.merges m)))

all_below : (n more : ℕ) → more ≡ n + 1 → (ps : List (ℕ × ℕ))
    → All (λ p. (p.0 < n) × (p.1 < n)) ps →
    All (λ p. (p.0 + 1 < more) × (p.1 + 1 < more)) ps
all_below n more e =
    All-weaker (λ (p : ℕ × ℕ). (p.0 < n) × (p.1 < n)) (λ p. (p.0 + 1 < more) × (p.1 + 1 < more))
    (λ p h. (omega (arith, e, h.0), omega (arith, e, h.1)))

pub all_back : (n more : ℕ) → n + 1 ≡ more → (ps : List (ℕ × ℕ))
    → All (λ p. (p.0 + 1 < more) × (p.1 + 1 < more)) ps →
    All (λ p. (p.0 < n) × (p.1 < n)) ps
all_back n more e =
    All-weaker (λ (p : ℕ × ℕ). (p.0 + 1 < more) × (p.1 + 1 < more)) (λ p. (p.0 < n) × (p.1 < n))
    (λ p h. (omega (arith, e, h.0), omega (arith, e, h.1)))

-- a node is made
pub notes_made : {Whole : Type 0} (carry : EgraphRec → Whole) (before after : List Whole)
    (entry exit : Graph) (term : Shape) →
    IsGraph entry → exit ≡ record entry { nodes = entry.nodes ++ (term ∷ []) } → after ≡ before
    ++ (carry Made ∷ []) →
    Notes graph_undo carry before after entry exit
notes_made carry before after entry exit term graph is noted =
    let more : length (entry.nodes ++ (term ∷ [])) ≡ length entry.nodes
    + 1 = length_push entry.nodes term in
    rw is (notes_one graph_undo carry before after entry
    (record entry { nodes = entry.nodes ++ (term ∷ []) }) Made noted (
      omega (arith, more),
      all_below (length entry.nodes) (length (entry.nodes ++ (term ∷ []))) more entry.merges
          graph.merged.there,
      all_below (length entry.nodes) (length (entry.nodes ++ (term ∷ []))) more entry.forbidden
          graph.paired,
    )
    (ap (λ ns. record entry { nodes = ns }) (take-append_last entry.nodes term)))

-- a node is made, and goes into the class of another
pub notes_made_merged : {Whole : Type 0} (carry : EgraphRec → Whole)
    (before middle after : List Whole) (entry exit : Graph) (term : Shape) (m : ℕ × ℕ) →
    IsGraph entry → exit ≡ record entry {
      nodes = entry.nodes ++ (term ∷ []);
      merges = entry.merges
          ++ (m ∷ []);
    } →
    middle ≡ before ++ (carry Made ∷ []) → after ≡ middle ++ (carry Merged ∷ []) →
    Notes graph_undo carry before after entry exit
notes_made_merged carry before middle after entry exit term m graph is made merged =
    let between : Graph = record entry { nodes = entry.nodes ++ (term ∷ []) } in
    notes_both graph_undo (equal_is_lawful graph_back CanGoBack) carry before middle after entry
    between exit
    (notes_made carry before middle entry between term graph (λ k. between) made)
    (notes_merged carry middle after between exit m is merged)

-- the graph without its last node is one
pub IsGraph-made : (g : Graph) (nodes : List Shape) → IsGraph g → CanGoBack g Made
    → AreTerms nodes →
    nodes ≡ take (length g.nodes - 1) g.nodes → IsGraph
    (record { nodes = nodes; merges = g.merges; forbidden = g.forbidden })
IsGraph-made g nodes is can are n =
    let fewer : length nodes + 1 ≡ length g.nodes = omega
    (arith, ap length n, length-take (length g.nodes - 1) g.nodes, can.0) in
    record {
      terms = are;
      merged = AreMerges-count (length g.nodes) (length nodes) g.merges is.merged
          (all_back (length nodes) (length g.nodes) fewer g.merges can.1);
      paired = all_back (length nodes) (length g.nodes) fewer g.forbidden can.2;
    }

-- the graph without its last merge is one
pub IsGraph-merged : (g : Graph) (merges : List (ℕ × ℕ)) → IsGraph g → merges
    ≡ take (length g.merges - 1) g.merges →
    IsGraph (record g { merges = merges })
IsGraph-merged g merges is e = record {
  terms = is.terms;
  merged = rw e (AreMerges-fewer (length g.nodes) (length g.merges - 1) g.merges is.merged);
  paired = is.paired;
}

-- the graph with a node more, in the class of another, is one
pub IsGraph-joined : (g : Graph) (count k : ℕ) (nodes : List Shape) (s : Shape) → IsGraph g → count
    ≡ length g.nodes → k < length g.nodes →
    AreTerms nodes → nodes ≡ g.nodes ++ (s ∷ []) →
    IsGraph (record {
      nodes = nodes;
      merges = g.merges
          ++ ((count, k) ∷ []);
      forbidden = g.forbidden;
    })
IsGraph-joined g count k nodes s is e l are grown =
    let more : length nodes ≡ length g.nodes + 1 = omega
    (arith, ap length grown, length_push g.nodes s) in
    let wider : (ps : List (ℕ × ℕ)) → All (λ p. (p.0 < length g.nodes) × (p.1 < length g.nodes)) ps
    → All (λ p. (p.0 < length nodes) × (p.1 < length nodes)) ps =
    All-weaker (λ (p : ℕ × ℕ). (p.0 < length g.nodes) × (p.1 < length g.nodes))
    (λ p. (p.0 < length nodes) × (p.1 < length nodes))
    (λ p h. (omega (arith, more, h.0), omega (arith, more, h.1))) in
    record {
      terms = are;
      merged = AreMerges-more (length nodes) g.merges (count, k)
          (AreMerges-count (length g.nodes) (length nodes) g.merges is.merged
          (wider g.merges is.merged.there))
          (omega (arith, more, e)) (omega (arith, more, l))
          (λ same. new_nodes_stand_alone g.merges count (rw (← e) at is.merged.there) k
          (omega (arith, e, l)) (sym same));
      paired = wider g.forbidden is.paired;
    }
