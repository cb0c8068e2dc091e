use Rattle.std.proofs.Common.{ap, sym, subst, true≢false, ◌∙◌}
use Rattle.std.specs.Prelude.{MatchOption}
use Rattle.esc_sharing.specs.Nodes.{node_term}
use Rattle.esc_sharing.specs.Numbers.{with_number}
use Rattle.esc_sharing.proofs.BoundNodes.{with_number_there}
use Rattle.sharing_cases.specs.ConstantTerms.{IsFound, IsNoNode, numbers_in}
use Rattle.sharing_cases.proofs.ConstantNumbers.{has_when, numbers_pushed}
use Rattle.sharing_cases.proofs.constants.ConstantsTheory.add_node.Goals as goal

pub returns-then-is_some-clause-ok : goal.returns-then-is_some-clause-ok
returns-then-is_some-clause-ok g c =
    let v = c.args.self.now in
    sym (with_number_there (numbers_in v) c.args.a (node_term c.args.graph.now c.args.a)
    ((has_when v c.args.a c.value_of.result
    (subst (λ cs. MatchOption c.value_of.result (IsNoNode cs c.args.a) (IsFound cs c.args.a))
    c.as_slice.ensures c.value_of.ensures) c.is_some.result c.is_some.ensures).0
    c.if-is_some.true))

pub returns-in-Ok-push-clause-ok : goal.returns-in-Ok-push-clause-ok
returns-in-Ok-push-clause-ok g c =
    let v = c.args.self.now in
    ap numbers_in c.in-Ok-push.ensures.ok
    ∙ (numbers_pushed v c.args.a _ _ (λ h. true≢false (sym ((has_when v c.args.a c.value_of.result
    (subst (λ cs. MatchOption c.value_of.result (IsNoNode cs c.args.a) (IsFound cs c.args.a))
    c.as_slice.ensures c.value_of.ensures) c.is_some.result c.is_some.ensures).1 h)
    ∙ c.if-is_some.false))
    ∙ ap (with_number (numbers_in v) c.args.a) c.in-Ok.ensures)
