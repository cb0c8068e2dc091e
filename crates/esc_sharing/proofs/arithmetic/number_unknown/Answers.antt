use Rattle.std.proofs.Common.{sym, ◌∙◌}
use Rattle.esc_sharing.proofs.BoundNodes.{bound_pair, unbound_is_none}
use Rattle.esc_sharing.proofs.arithmetic.number_unknown.Goals as goal

pub unreachable-requires : goal.unreachable-requires
unreachable-requires c = unbound_is_none c.args.simplex.now c.args.a
    (sym c.unknown_of.ensures ∙ c.in-None.is) c.requires.number

pub returns : goal.returns
returns c = bound_pair c.args.simplex.now.bound c.args.a c.in-Some.unknown
    (sym c.unknown_of.ensures ∙ c.in-Some.is)
