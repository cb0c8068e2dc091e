use Rattle.std.proofs.Common.{sym, ◌∙◌}
use Rattle.esc_linear.specs.Steps.{Yields}
use Rattle.esc_linear.proofs.PlaceLemmas.{none_added, one_added, no_steps}
use Rattle.esc_linear.proofs.sum.add_at_end.Goals as goal

pub returns-then-is_zero : goal.returns-then-is_zero
unfolding Yields
returns-then-is_zero c = (
  no_steps c.args.parts c.args.term.now c.args.factor c.requires,
  none_added c.args.parts c.args.term.now c.args.factor c.requires (sym c.is_zero.ensures
      ∙ c.if-is_zero.true),
)

pub returns : goal.returns
unfolding Yields
returns c = (
  no_steps c.args.parts c.args.term.now c.args.factor c.requires,
  c.in_ok-push.ensures.ok ∙ one_added c.args.parts c.args.term.now c.in_ok-term.term c.args.factor
      c.requires (sym c.is_zero.ensures ∙ c.if-is_zero.false) c.in_ok-term.ensures,
)
