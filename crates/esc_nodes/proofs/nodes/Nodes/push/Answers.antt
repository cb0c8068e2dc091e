use Rattle.std.proofs.Common.{arith, ◌≡◌, ℕ, ◌+◌, ◌<◌, List, All, length, [], ◌∷◌, ◌++◌, map, ap, subst, sym, ◌∙◌}
use Rattle.std.proofs.lemmas.Grind.{common_steps}
use Rattle.esc_nodes.specs.declared.nodes.Entry.{Entry}
use Rattle.esc_nodes.specs.Nodes.{Shape, AreTerms, shape_at}
use Rattle.esc_nodes.specs.NodesInside.{nodes_of, shape_in}
use Rattle.esc_nodes.specs.DigestsInside.{digests, shape_digest}
use Rattle.esc_nodes.proofs.Digests.{digests-more}
use Rattle.esc_nodes.proofs.Shapes.{AreTerms-push}
use Rattle.esc_nodes.proofs.Spans.{AreSpans-push, shapes-push}
use Rattle.esc_nodes.proofs.nodes.Nodes.push.Goals as goal
use Rattle.esc_nodes.proofs.nodes.Nodes.push.Goals.{After-unwrap-2}

abbrev made : (c : After-unwrap-2) → Shape
made c = record { top = c.args.top; args = c.args.args.now }

abbrev entry : (c : After-unwrap-2) → Entry
entry c = record { top = c.args.top; start = c.in_ok-start.start; end = c.in_ok-end.end }

entries : (c : After-unwrap-2) → c.push-2.new.self.items ≡ c.self.inside.entries.items
    ++ (entry c ∷ [])
entries c = grind (arith, common_steps)

args : (c : After-unwrap-2) → c.extend_from_slice.new.self.items ≡ c.self.inside.args.items
    ++ c.args.args.now
args c = grind (arith, common_steps)

start : (c : After-unwrap-2) → c.in_ok-start.start ≡ length c.self.inside.args.items
start c = grind (arith, common_steps)

end : (c : After-unwrap-2) → c.in_ok-end.end ≡ length c.self.inside.args.items
    + length c.args.args.now
end c = grind (arith, common_steps)

nodes : (c : After-unwrap-2) →
    map (shape_in c.extend_from_slice.new.self.items) c.push-2.new.self.items
    ≡ nodes_of c.self.inside ++ (made c ∷ [])
nodes c = rw (entries c, args c) (shapes-push c.self.inside.args.items c.args.args.now
    c.self.inside.entries.items c.self.invariant.spans (entry c) (start c) (end c))

terms : (c : After-unwrap-2) → AreTerms
    (map (shape_in c.extend_from_slice.new.self.items) c.push-2.new.self.items)
terms c =
    subst AreTerms (sym (nodes c)) (AreTerms-push (nodes_of c.self.inside) (made c)
    c.self.invariant.terms
    (subst (λ (ns : List Shape). All (λ a. a < length ns) c.args.args.now)
    (sym c.self.view_is) c.requires.args_are_there)
    c.requires.bare
    (subst (λ (ns : List Shape). (k : ℕ) → k < length ns → shape_at ns k ≡ made c
    → ⊥) (sym c.self.view_is) c.requires.absent))

pub invariant_of-self-2 : goal.invariant_of-self-2
invariant_of-self-2 c =
    let d = (goal.at.invariant_of-self-2 c).After-unwrap-2 in
    record {
      spans = rw (entries d, args d) (AreSpans-push c.self.inside.args.items c.args.args.now
          c.self.inside.entries.items c.self.invariant.spans (entry d) (start d) (end d));
      terms = terms d;
      filed =
          c.in_ok-push.ensures.ok
          ∙ (ap (λ d. c.self.inside.table.digests ++ (d ∷ [])) (c.digest_of-digest.ensures
          ∙ ap (λ ns. shape_digest ns c.args.top c.args.args.now) (sym c.self.view_is))
          ∙ (digests-more (nodes_of c.self.inside) c.self.inside.table.digests c.args.top
          c.args.args.now c.self.invariant.filed c.requires.bare
          ∙ ap digests (sym (nodes d))));
    }

pub returns-clause-ok : goal.returns-clause-ok
returns-clause-ok c =
    let d = (goal.at.returns-clause-ok c).After-unwrap-2 in
    nodes d ∙ ap (λ ns. ns ++ (made d ∷ [])) c.self.view_is

pub returns-clause-terms : goal.returns-clause-terms
returns-clause-terms c = terms (goal.at.returns-clause-terms c).After-unwrap-2
