use Rattle.std.proofs.Common.{◌≡◌, ◌-◌, List, ap, get_or, subst, ◌∙◌}
use Rattle.esc_session.specs.declared.batch.Batch.{Batch}
use Rattle.esc_session.proofs.Newest.{newest_set}
use Rattle.esc_session.proofs.session.Session.stand_newest.Goals as goal

pub returns : goal.returns
returns c older b is =
    let newest = c.index-as_slice-last.result in
    ap (λ (bs : List Batch). record c.args.self.now { batches = bs })
    (c.set.ensures ∙ newest_set c.args.self.now.batches older b newest
    c.args.standing c.len-last.result c.len-last.ensures is
    (subst (λ (bs : List Batch). newest ≡ get_or bs (c.len-last.result - 1) newest)
    c.as_slice.ensures c.index-as_slice-last.is))
