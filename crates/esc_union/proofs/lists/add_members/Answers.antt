use Rattle.std.proofs.Common.{ap, ◌++◌, ◌∙◌}
use Rattle.esc_union.proofs.Ends.{on_err}
use Rattle.esc_union.proofs.Adding.{added, as_it_was}
use Rattle.esc_union.proofs.lists.add_members.Goals as goal

pub returns-in_err-added-clause-err : goal.returns-in_err-added-clause-err
returns-in_err-added-clause-err c =
    (on_err c.from_residual.result (as_it_was (λ v. v.items) c.args.members.now.items c.args.from
    c.args.into c.replace-moving.new.dest c.extend_from_slice-added.new.self
    c.shrink_to_fit.new.self
    c.index_mut.result.now c.index_mut-2.result.now
    c.requires.from_is_there c.requires.into_is_there c.requires.apart
    (c.shrink_to_fit.ensures.items ∙ ap (λ v. v.items)
    (c.replace-moving.ensures.value ∙ c.index_mut.ensures.value))
    (ap (λ v. v.items) (c.in_err-added.ensures.err
    ∙ c.index_mut-2.ensures.value))))

pub returns-clause-ok : goal.returns-clause-ok
returns-clause-ok c =
    (added (λ v. v.items) c.args.members.now.items c.args.from c.args.into c.replace-moving.new.dest
    c.extend_from_slice-added.new.self c.shrink_to_fit.new.self
    c.index_mut.result.now c.index_mut-2.result.now
    c.requires.from_is_there c.requires.into_is_there c.requires.apart
    (c.shrink_to_fit.ensures.items ∙ ap (λ v. v.items)
    (c.replace-moving.ensures.value ∙ c.index_mut.ensures.value))
    (rw c.as_slice.ensures at c.in_ok-added.ensures.ok
    ∙ ap (λ v. v.items ++ c.shrink_to_fit.new.self.items)
    c.index_mut-2.ensures.value))
