use Rattle.std.proofs.Common.{ap, arith, length}
use Rattle.std.proofs.lemmas.List.{length_push}
use Rattle.esc_fact.specs.declared.fact.Fact.TheVariants.{Given}
use Rattle.esc_session.proofs.Told.{one_more_named}
use Rattle.esc_session.proofs.reporting.named_facts.Goals as goal

pub background-preserved : goal.background-preserved
background-preserved c =
    let facts = c.background.facts in
    let added = c.in_ok-push.ensures.ok in
    record {
      named = one_more_named facts c.push.new.self c.len-in-background-2.result
          c.len-in-background-2.ensures c.background.invariant.named added;
      few = omega (
        arith,
        c.background-test.true,
        ap length added,
        length_push facts (Given c.len-in-background-2.result),
      );
    }
