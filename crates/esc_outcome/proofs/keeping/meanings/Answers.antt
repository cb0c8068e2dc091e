use Rattle.esc_outcome.proofs.BoundTerms.{bound_is_there, meanings_more}
use Rattle.esc_outcome.proofs.keeping.meanings.Goals as goal

pub term-requires : goal.term-requires
term-requires c =
    let pairs = c.bound_nodes-bound-items in
    bound_is_there c.args.graph.now c.args.theory.now c.requires pairs.result.now pairs.ensures
    c.bound.bound-index c.bound-item.result c.bound-test.true c.bound-item.is

pub bound-preserved : goal.bound-preserved
bound-preserved c =
    let pairs = c.bound_nodes-bound-items in
    meanings_more c.args.graph.now c.args.theory.now c.requires pairs.result.now pairs.ensures
    c.bound.bound-index c.bound-item.result c.bound-test.true c.bound-item.is c.bound.meanings
    c.push.new.self c.in_ok-term.term c.bound.invariant c.in_ok-term.ensures
    c.in_ok-push.ensures.ok
