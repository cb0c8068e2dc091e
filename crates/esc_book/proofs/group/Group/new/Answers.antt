use Rattle.std.proofs.Common.{◌-◌, ◌++◌, length, ap, ◌∙◌}
use Rattle.esc_book.specs.GroupInside.{rows_from}
use Rattle.esc_book.proofs.Pairs.{rows_done, rows_step}
use Rattle.esc_book.proofs.group.Group.new.Goals as goal

pub rows-preserved : goal.rows-preserved
rows-preserved c =
    ap (λ rs. rs ++ rows_from c.in_ok-start.start (c.rows.left - 1)) c.in_ok-push.ensures.items
    ∙ rows_step c.rows.rows.items c.rows.start c.rows.left c.in_ok-start.start (length c.args.nodes)
    c.rows-test.true c.in_ok-start.ensures c.rows.invariant

pub invariant_of-result : goal.invariant_of-result
invariant_of-result c = record {
  rows = rows_done c.rows.rows.items c.rows.start c.rows.left (length c.args.nodes)
      c.rows-test.false c.rows.invariant;
}
