use Rattle.std.proofs.Common.{◌≡◌, ◌-◌, arith, ap, ◌∙◌}
use Rattle.esc_book.proofs.PairRuns.{run, run_done, run_step}
use Rattle.esc_book.proofs.expanding.pairs_from.Goals as goal

pub pairs-init : goal.pairs-init
pairs-init c =
    let none : 0 ≡ c.args.from - c.args.from = omega arith in
    c.new-parts.ensures ∙ ap (run c.args.fact c.args.from) none

pub pairs-preserved : goal.pairs-preserved
pairs-preserved c =
    run_step c.args.fact c.args.from c.pairs.place c.pairs.parts c.push.new.self
    c.pairs.auto.place c.pairs.invariant c.in_ok-push.ensures.ok

pub returns : goal.returns
returns c ts many =
    run_done c.args.fact c.args.from c.pairs.place c.in_ok-end.end c.args.count c.pairs.parts ts
    c.pairs.invariant
    (omega (
      arith,
      c.pairs-test.false,
      c.pairs.auto.place-end (omega (arith, c.in_ok-end.ensures)),
    ))
    c.in_ok-end.ensures many
