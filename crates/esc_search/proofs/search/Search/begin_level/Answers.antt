use Rattle.std.proofs.Common.{ap, length, refl, ◌∙◌}
use Rattle.esc_search.proofs.BackTo.{back_here}
use Rattle.esc_search.proofs.search.Search.begin_level.Goals as goal

pub returns-clause-begun : goal.returns-clause-begun
returns-clause-begun c = record {
  mark = c.mark.ensures;
  formulas = c.len.ensures ∙ ap length c.formulas.ensures;
  facts = ap length c.list.ensures;
  sides = c.len-2.ensures;
  splits = c.len-3.ensures;
  under = refl;
  rows = c.in_ok-rows.ensures.rows;
  fit = c.in_ok-rows.ensures.fit;
  branch = c.requires.branch;
  given = c.requires.given;
}

pub returns-clause-returns : goal.returns-clause-returns
returns-clause-returns c = record {
  there = c.args.self.now;
  begun = returns-clause-begun c;
  back = back_here c.args.self.now;
  given = c.requires.given;
}
