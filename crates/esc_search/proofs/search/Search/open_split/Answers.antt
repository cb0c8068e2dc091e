use Rattle.std.proofs.Common.{[], refl, Some, true, ◌∷◌}
use Rattle.esc_search.proofs.BackTo.{kept_open, since_split}
use Rattle.esc_search.proofs.Splitting.{made_to_decide, nearer_made, search_made}
use Rattle.esc_search.proofs.search.Search.open_split.Goals as goal

pub returns-clause-search : goal.returns-clause-search
returns-clause-search c =
    search_made c.args.base.now c.args.self.now c.args.course.now c.requires.here.0
    c.requires.here.1 c.args.at c.requires.splits c.push-2.new.self c.len-number.result
    c.mark-mark.result c.len.result c.len-number.ensures c.mark-mark.ensures c.len.ensures
    c.in_ok-push-2.ensures.ok c.push.new.self
    c.in_ok-push.ensures.ok c.requires.more

pub returns-clause-ready : goal.returns-clause-ready
returns-clause-ready c =
    made_to_decide c.args.base.now c.args.self.now c.args.course.now c.requires.here.0
    c.requires.here.1 c.args.at c.requires.splits c.push-2.new.self c.len-number.result
    c.mark-mark.result c.len.result c.len-number.ensures c.mark-mark.ensures c.len.ensures
    c.in_ok-push-2.ensures.ok

pub returns-clause-nearer : goal.returns-clause-nearer
returns-clause-nearer c =
    nearer_made c.args.base.now c.args.self.now c.args.course.now c.requires.here.0
    c.requires.here.1 c.args.at c.requires.splits c.push-2.new.self c.len-number.result
    c.mark-mark.result c.len.result c.len-number.ensures c.mark-mark.ensures c.len.ensures
    c.in_ok-push-2.ensures.ok
    c.push.new.self c.in_ok-push.ensures.ok c.requires.more

pub returns-clause-kept : goal.returns-clause-kept
returns-clause-kept c =
    kept_open c.args.base.now c.args.self.now c.args.course.now.waiting _ c.requires.here.0.given
    c.requires.here.0.formulas refl
    (since_split c.args.self.now c.push-2.new.self (Some (c.len-number.result, true))
    (record { under = c.args.self.now.under; at = c.args.at } ∷ [], c.in_ok-push-2.ensures.ok))
    (record {
      mark = c.mark-mark.result;
      number = c.len-number.result;
      rounds = c.len.result;
      split = record { under = c.args.self.now.under; at = c.args.at };
    }) c.push.new.self c.in_ok-push.ensures.ok c.mark-mark.ensures
