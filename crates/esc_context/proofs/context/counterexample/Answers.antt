use Rattle.esc_context.proofs.Telling.{tells}
use Rattle.esc_context.proofs.context.counterexample.Goals as goal

pub returns : goal.returns
returns c =
    let laws = c.unquantified_laws.ensures in
    tells c.args.base.now c.args.sharing.now c.args.live.now c.args.literals.now c.requires.left
    (record {
      least = laws.least;
      consistent = laws.consistent;
      satisfies = laws.satisfies;
      parted = laws.parted;
    })
    (c.admitted_laws.ensures c.args.sharing.now c.requires.left.shared)
    c.in_ok-classes.classes c.in_ok-classes.ensures.members c.in_ok-classes.ensures.values
    c.in_ok-copied.field-0 c.in_ok-copied-2.field-0 c.in_ok-labels.labels
    c.in_ok-copied.ensures c.in_ok-copied-2.ensures c.in_ok-labels.ensures.labels
