use Rattle.std.proofs.Common.{[], ◌∷◌, ◌++◌, length, refl, ap, ◌∙◌}
use Rattle.esc_union.specs.Merges.{Merged}
use Rattle.esc_egraph.proofs.PairSteps.{sided_undone, within_entries}
use Rattle.esc_egraph.proofs.parts.merge_sided.Goals as goal

pub back_to-requires : goal.back_to-requires
back_to-requires c =
    within_entries (c.args.classes.now.merges ++ ((c.args.from, c.args.into) ∷ []))
    c.args.pairs.now c.merge.new.self c.in_ok-merge.ensures.ok

pub returns-in-Err-clause-kept : goal.returns-in-Err-clause-kept
returns-in-Err-clause-kept c =
    sided_undone c.args.classes.now.merges c.args.pairs.now (c.args.from, c.args.into)
    c.back_to.new.self (length c.merges.result.now) (length c.args.pairs.now)
    (ap length c.merges.ensures ∙ ap (λ (h : Merged). length h.merges) c.in-Err.ensures.err) refl
    (c.back_to.ensures (c.args.classes.now.merges ++ ((c.args.from, c.args.into) ∷ []))
    c.args.pairs.now c.in_ok-merge.ensures.ok)
