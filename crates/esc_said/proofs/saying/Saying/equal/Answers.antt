use Rattle.std.proofs.Common.{sym}
use Rattle.esc_cover.proofs.TestLemmas.{not_both}
use Rattle.esc_union.specs.Merges.{SameClass}
use Rattle.esc_egraph.specs.Graph.{number_of}
use Rattle.esc_sharing.specs.Nodes.{classes_in, node_term}
use Rattle.esc_said.proofs.HeldApart.{is_forced_apart-kept, is_forced_apart-same}
use Rattle.esc_said.proofs.HeldApart.{together-false, together-true}
use Rattle.esc_said.proofs.SaidAs.{SaysAs-Eq}
use Rattle.esc_said.proofs.saying.Saying.equal.Goals as goal

pub returns-then-same : goal.returns-then-same
returns-then-same c literals speaks =
    let s = c.args.self.now in
    let g = s.graph.now in
    let same = c.same.ensures.0 c.if-same.true in
    SaysAs-Eq _ literals (classes_in g) (node_term g c.args.a) (node_term g c.args.b)
    (sym (together-true g speaks.saying.graph s.groups.now literals speaks.held c.args.a c.args.b
    c.requires.a_is_there c.requires.b_is_there same))
    (sym (is_forced_apart-same g speaks.saying.graph s.groups.now literals speaks.held c.args.a
    c.args.b c.requires.a_is_there c.requires.b_is_there same))

pub returns : goal.returns
returns c literals speaks =
    let s = c.args.self.now in
    let g = s.graph.now in
    let two : SameClass (number_of g) c.args.a c.args.b → ⊥ =
    λ same. not_both c.same.result (c.same.ensures.1 same) c.if-same.false in
    SaysAs-Eq _ literals (classes_in g) (node_term g c.args.a) (node_term g c.args.b)
    (sym (together-false g speaks.saying.graph s.groups.now literals speaks.held c.args.a c.args.b
    c.requires.a_is_there c.requires.b_is_there two))
    (sym (is_forced_apart-kept g speaks.saying.graph s.groups.now literals speaks.held c.args.a
    c.args.b c.requires.a_is_there c.requires.b_is_there two c.keeps_apart.result
    c.keeps_apart.ensures))
