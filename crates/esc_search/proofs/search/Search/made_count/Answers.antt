use Rattle.std.proofs.Common.{arith}
use Rattle.esc_search.proofs.MadeFacts.{background_fits, made_with_goal, made_without_goal}
use Rattle.esc_search.proofs.search.Search.made_count.Goals as goal

pub overflow_sub-behind : goal.overflow_sub-behind
overflow_sub-behind c =
    omega (
      arith,
      c.count.ensures,
      c.len.ensures,
      background_fits c.args.base.now c.args.self.now.log c.requires,
    )

pub overflow_sub-result : goal.overflow_sub-result
overflow_sub-result c =
    omega (
      arith,
      c.count.ensures,
      c.len.ensures,
      made_with_goal c.args.base.now c.args.self.now.log c.requires c.in-Some.field-0 c.in-Some.is,
    )

pub returns-in-Some : goal.returns-in-Some
returns-in-Some c =
    omega (
      arith,
      c.count.ensures,
      c.len.ensures,
      made_with_goal c.args.base.now c.args.self.now.log c.requires c.in-Some.field-0 c.in-Some.is,
    )

pub returns-in-None : goal.returns-in-None
returns-in-None c =
    omega (
      arith,
      c.count.ensures,
      c.len.ensures,
      made_without_goal c.args.base.now c.args.self.now.log c.requires c.in-None.is,
    )
