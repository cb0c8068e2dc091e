use Rattle.std.proofs.Common.{Ok, subst, arith, Option}
use Rattle.esc_tableau.specs.Grid.{table_of}
use Rattle.esc_tableau.specs.Run.{Advances}
use Rattle.esc_tableau.specs.declared.answers.Peak.{Peak}
use Rattle.esc_tableau.proofs.RunLaws.{reached_more, ends_in}
use Rattle.esc_tableau.proofs.grid.Grid.maximise.Goals as goal

pub returns-in-Ok-Some-clause-ends : goal.returns-in-Ok-Some-clause-ends
returns-in-Ok-Some-clause-ends c =
    let now = table_of c.loop-spent.self in
    let new = table_of c.advance.new.self in
    ends_in (table_of c.args.self.now) now new c.args.unknown c.args.limit c.loop-spent.spent
    c.in-Ok-Some.peak c.loop-spent.invariant.reached (omega arith)
    (subst (λ (o : Option Peak). Advances now new c.args.unknown (Ok o)) c.in-Ok-Some.field-0-is
    c.in-Ok-Some.ensures.advances)

pub loop-spent-preserved : goal.loop-spent-preserved
loop-spent-preserved c =
    let now = table_of c.loop-spent.self in
    let new = table_of c.advance.new.self in record {
      table = c.advance.ensures.table;
      reached = reached_more (table_of c.args.self.now) now new c.args.unknown c.loop-spent.spent
          c.loop-spent.invariant.reached
          (subst (λ (o : Option Peak). Advances now new c.args.unknown (Ok o))
          c.in-Ok-None.field-0-is c.in-Ok-None.ensures.advances);
    }
