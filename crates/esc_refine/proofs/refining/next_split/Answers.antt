use Rattle.std.proofs.Common.{ap, ◌∙◌}
use Rattle.esc_clause.specs.Refinement.{next_split}
use Rattle.esc_refine.proofs.Splits.{split_there}
use Rattle.esc_refine.proofs.refining.next_split.Goals as goal

pub next_split-requires : goal.next_split-requires
next_split-requires c = record { ready = c.judge.ensures.ready }

pub returns-clause-exact : goal.returns-clause-exact
returns-clause-exact c =
    c.next_split.ensures
    ∙ ap (λ judge. next_split judge c.args.branch.now.clauses) c.judge.ensures.judged

pub returns-clause-splits : goal.returns-clause-splits
returns-clause-splits c =
    split_there c.args.branch.now c.expansion_laws.ensures.complete
    c.expansion_laws.ensures.once c.requires.branch c.requires.quiet c.next_split.result
    (c.next_split.ensures
    ∙ ap (λ judge. next_split judge c.args.branch.now.clauses) c.judge.ensures.judged)
