use Rattle.std.proofs.Common.{◌∙◌}
use Rattle.esc_session.proofs.RestAsserted.{rest_ends}
use Rattle.esc_session.proofs.pushing.assert_rest.Goals as goal

pub returns-in_default : goal.returns-in_default
returns-in_default c = record {
  ends = rest_ends c.args.base.now c.formulas.search c.assert_given.new.self
      c.assert_given.result c.in_default.not-Open
      c.formulas.invariant.ready c.assert_given.ensures.ends c.assert_given.ensures.log;
  given = c.assert_given.ensures.given;
  levels = λ t goes. c.assert_given.ensures.levels t (c.formulas.invariant.levels t goes);
  limits = c.assert_given.ensures.limits ∙ c.formulas.invariant.limits;
  tally = c.assert_given.ensures.tally ∙ c.formulas.invariant.tally;
}
