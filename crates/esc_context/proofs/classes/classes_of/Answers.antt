use Rattle.std.proofs.Common.{◌≡◌, ℕ, ◌+◌, ◌<◌, All, List, [], ◌∷◌, ◌++◌, false, get_or}
use Rattle.std.proofs.Common.{map, subst, ap, sym, ◌∙◌, arith}
use Rattle.std.specs.List.{Contains}
use Rattle.std.proofs.lemmas.List.{get_or_default, map-append, take_all}
use Rattle.std.proofs.lemmas.List.Elements.{All-push}
use Rattle.esc_union.specs.Merges.{IsClassOf}
use Rattle.esc_egraph.specs.Graph.{Graph, number_of}
use Rattle.esc_cover.specs.Classes.{leaders}
use Rattle.esc_node_terms.proofs.Places.{length-terms_of}
use Rattle.esc_sharing.specs.Nodes.{classes_in, node_count, node_term, same_in, terms_in}
use Rattle.esc_outcome.specs.Found.{members_of}
use Rattle.esc_outcome.specs.declared.counterexample.Class.{Class}
use Rattle.esc_context.specs.ClassesInside.{HasSample, IsClassOfNodes}
use Rattle.esc_context.proofs.ClassTerms.{AreListed, class_terms, classes_on, classes_past}
use Rattle.esc_context.proofs.ClassTerms.{has_earlier, listed_on, listed_past, members}
use Rattle.esc_context.proofs.Listing.{class_there, rising}
use Rattle.esc_context.proofs.classes.classes_of.Goals.{then-not-index+in_ok-members+in_ok-class+in_ok-push}
use Rattle.esc_context.proofs.classes.classes_of.Goals.{else-not-index}
use Rattle.esc_context.proofs.classes.classes_of.Goals as goal

pub mark-requires : goal.mark-requires
mark-requires c =
    let g : Graph = c.graph-graph.result.now in
    let there : All (λ n. n < node_count g) c.in_ok-members.members.items =
    class_there (node_count g) (number_of g) c.new.result c.in_ok-members.members.items
    c.in_ok-members.ensures.members in
    subst (λ count. All (λ n. n < count) c.as_slice.result.now) (sym c.nodes.invariant.listed.count)
    (subst (All (λ n. n < node_count c.args.sharing.now.graph)) (sym c.as_slice.ensures.value)
    (subst (λ (h : Graph). All (λ n. n < node_count h) c.in_ok-members.members.items)
    c.graph-graph.ensures there))

pub class_of-requires-clause-members : goal.class_of-requires-clause-members
class_of-requires-clause-members c =
    let g : Graph = c.graph-graph.result.now in
    let there : All (λ n. n < node_count g) c.in_ok-members.members.items =
    class_there (node_count g) (number_of g) c.new.result c.in_ok-members.members.items
    c.in_ok-members.ensures.members in
    subst (All (λ n. n < node_count c.args.sharing.now.graph))
    (sym c.as_slice-then-not-index.ensures.value)
    (subst (λ (h : Graph). All (λ n. n < node_count h) c.in_ok-members.members.items)
    c.graph-graph.ensures there)

pub nodes-preserved : goal.nodes-preserved
nodes-preserved c =
    let s = c.args.sharing.now in
    let v : Graph = s.graph in
    let i = c.nodes.index in
    let is = c.requires.shared.parts.graph in
    let count = node_count v in
    let ends : c.count-index-end.result ≡ count =
    c.count-index-end.ensures.count ∙ ap node_count c.graph-graph.ensures in
    let il : i < count = omega (arith, c.nodes-test.true, ends) in
    let read : get_or c.nodes.listed.items i false ≡ c.index.result.now =
    get_or_default c.nodes.listed.items i false c.index.result.now
    (omega (arith, il, c.nodes.invariant.listed.count)) ∙ sym c.index.ensures in
    let earlier : has_earlier v i i ≡ c.index.result.now =
    sym (c.nodes.invariant.listed.marked i il) ∙ read in
    elim c.if-not-index.branch [
      | then-not-index+in_ok-members+in_ok-class+in_ok-push w ↦
          let nodes : List ℕ = w.in_ok-members.members.items in
          let class : IsClassOf count (number_of v) i nodes =
          subst (λ k. IsClassOf count (number_of v) k nodes) w.new.ensures
          (subst (λ (g : Graph). IsClassOf (node_count g) (number_of g) w.new.result nodes)
          c.graph-graph.ensures w.in_ok-members.ensures.members) in
          let made : IsClassOfNodes s nodes w.in_ok-class.class =
          subst (λ ns. IsClassOfNodes s ns w.in_ok-class.class)
          w.as_slice-then-not-index.ensures.value w.in_ok-class.ensures in
          let terms : w.in_ok-class.class.terms ≡ members v is (node_term v i) =
          made.terms
          ∙ class_terms v is i nodes il class (rising nodes w.in_ok-members.ensures.rising) in
          record {
            listed = subst (λ l. AreListed v (i + 1) l.items) (sym w.listed-is)
                (listed_on v is i nodes il class c.nodes.listed.items w.mark.new.marks.items
                w.mark.ensures.count
                (λ k has. w.mark.ensures.these k
                (subst (λ ns. Contains ns k) (sym w.as_slice.ensures.value) has))
                (λ k none. w.mark.ensures.others k
                (λ has. none (subst (λ ns. Contains ns k) w.as_slice.ensures.value has)))
                c.nodes.invariant.listed);
            shown = ap members_of (w.classes-is ∙ w.in_ok-push.ensures.ok)
                ∙ (map-append (λ (class : Class). class.terms) c.nodes.classes
                (w.in_ok-class.class ∷ [])
                ∙ (ap (λ ts. members_of c.nodes.classes ++ ts ∷ []) terms
                ∙ classes_on v is i il (members_of c.nodes.classes) c.nodes.invariant.shown (earlier
                ∙ w.if-not-index.true)));
            values = subst (All (HasSample s)) (sym (w.classes-is ∙ w.in_ok-push.ensures.ok))
                (All-push (HasSample s) c.nodes.classes w.in_ok-class.class
                c.nodes.invariant.values
                (nodes, class_there count (number_of v) i nodes class, made));
          }
      | else-not-index w ↦
          record {
            listed = subst (λ l. AreListed v (i + 1) l.items) (sym w.listed-is)
                (listed_past v is i c.nodes.listed.items il
                (read ∙ w.if-not-index.false) c.nodes.invariant.listed);
            shown = ap members_of w.classes-is
                ∙ classes_past v is i il (members_of c.nodes.classes) c.nodes.invariant.shown
                (earlier ∙ w.if-not-index.false);
            values = subst (All (HasSample s)) (sym w.classes-is) c.nodes.invariant.values;
          }
    ]

pub returns-clause-members : goal.returns-clause-members
unfolding classes_in
returns-clause-members c =
    let v : Graph = c.args.sharing.now.graph in
    let ends : c.count-index-end.result ≡ node_count v =
    c.count-index-end.ensures.count ∙ ap node_count c.graph-graph.ensures in
    c.nodes.invariant.shown
    ∙ ap (λ ts. map (members v c.requires.shared.parts.graph) (leaders (same_in v) ts))
    (take_all c.nodes.index (terms_in v)
    (omega (arith, length-terms_of v.nodes, ends, c.nodes-test.false)))
