use Rattle.std.proofs.Common.{sym, true≢false, ◌∙◌}
use Rattle.esc_sharing.specs.Nodes.{node_term}
use Rattle.sharing_cases.proofs.ConstantGaps.{told_closed, told_open}
use Rattle.sharing_cases.proofs.constants.ConstantsTheory.told_equal.Goals as goal

pub returns-then-is_one_number-clause-ends : goal.returns-then-is_one_number-clause-ends
returns-then-is_one_number-clause-ends g c =
    let graph = c.args._graph.now in
    told_open (node_term graph c.args.a) (node_term graph c.args.b) c.value.result.num
    c.value-2.result.num (c.value.ensures graph c.requires.numbers)
    (c.value-2.ensures graph c.requires.numbers)
    (c.is_one_number.ensures.0 c.if-is_one_number.true)

pub returns-clause-ends : goal.returns-clause-ends
returns-clause-ends g c =
    let graph = c.args._graph.now in
    told_closed (node_term graph c.args.a) (node_term graph c.args.b) c.value.result.num
    c.value-2.result.num (c.value.ensures graph c.requires.numbers)
    (c.value-2.ensures graph c.requires.numbers)
    (λ e. true≢false (sym (c.is_one_number.ensures.1 e) ∙ c.if-is_one_number.false))
