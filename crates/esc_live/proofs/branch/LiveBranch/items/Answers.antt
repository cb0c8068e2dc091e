use Rattle.std.proofs.Common.{ap, sym, ◌∙◌}
use Rattle.std.proofs.lemmas.List.Elements.{All-weaker}
use Rattle.std.specs.Option.{IsSome}
use Rattle.esc_book.specs.Book.{IsLiveOccurrence}
use Rattle.esc_clause.specs.Occurrences.{formula_at}
use Rattle.esc_live.proofs.WrittenItems.{atom_listed, written_next}
use Rattle.esc_live.proofs.branch.LiveBranch.items.Goals as goal

pub item-requires-clause-atom : goal.item-requires-clause-atom
item-requires-clause-atom c =
    atom_listed c.args.self.now.book.logged c.args.self.now.literals _ c.literals.at-index _
    c.as_slice-at-items.ensures c.literals-test.true
    (All-weaker (IsLiveOccurrence c.args.self.now.book)
    (λ at. IsSome (formula_at c.args.self.now.book.logged at)) (λ at live. live.there)
    c.args.self.now.literals c.requires.occur) c.requires.forms

pub literals-preserved : goal.literals-preserved
literals-preserved c =
    c.in_ok-push.ensures.ok
    ∙ written_next c.args.self.now.book.logged c.args.self.now.literals _ c.literals.at-index _
    c.in_ok-item.field-0 _ c.as_slice-at-items.ensures c.literals-test.true c.in_ok-item.ensures
    c.literals.invariant
