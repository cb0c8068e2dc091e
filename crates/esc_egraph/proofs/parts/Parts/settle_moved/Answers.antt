use Rattle.std.proofs.Common.{◌≡◌, ◌+◌, ◌<◌, length, drop, get_or, refl, ap, arith, sym, subst, ◌∙◌}
use Rattle.std.proofs.lemmas.List.{drop_all}
use Rattle.esc_union.specs.Members.{moved_by}
use Rattle.esc_egraph.specs.ClosingInside.{IsSettledIn, IsWaiting}
use Rattle.esc_egraph.specs.PartsInside.{graph_in}
use Rattle.esc_egraph.proofs.Over.{moved_by-more, over_all, over_member, over_moved, over}
use Rattle.esc_egraph.proofs.Waiting.{Going-starts, Going-on, longer_step}
use Rattle.esc_egraph.proofs.Closing.{IsClosing-both}
use Rattle.esc_egraph.proofs.parts.Parts.settle_moved.Goals as goal

pub members-init : goal.members-init
members-init g c = record {
  going = Going-starts g.R.CarriesNodes.carried_node c.args.self.now c.args.trail.now.records
      c.args.broken c.requires.sound c.requires.broken;
  there = c.requires.there;
  moved = refl;
  settled = over_moved c.args.self.now c.args.merge c.requires.sound c.requires.there
      c.requires.settled;
}

pub members-preserved : goal.members-preserved
members-preserved g c =
    let moved : moved_by c.settle_over.new.self.classes.merges c.args.merge
    ≡ moved_by c.members.self.classes.merges c.args.merge =
    ap (λ xs. moved_by xs c.args.merge) c.settle_over.ensures.step.more.1
    ∙ moved_by-more c.members.self.classes.merges c.settle_over.ensures.step.more.0 c.args.merge
    c.members.invariant.there in
    let within : c.members.place < length (moved_by c.members.self.classes.merges c.args.merge) =
    omega (
      arith,
      c.members-test.true,
      ap length c.moved-place-end.ensures,
      ap length
          c.members.invariant.moved,
    ) in
    record {
      going = Going-on g.R.CarriesNodes.carried_node c.args.self.now c.members.self
          c.settle_over.new.self _ _ _ c.members.broken c.in_ok-broken.broken
          c.members.invariant.going c.settle_over.ensures.sound c.settle_over.ensures.step
          c.in_ok-broken.ensures.broken;
      there = omega (
        arith,
        c.members.invariant.there,
        longer_step g.R.CarriesNodes.carried_node (graph_in c.members.self)
            (graph_in c.settle_over.new.self) _ _ c.settle_over.ensures.step,
      );
      moved = moved ∙ c.members.invariant.moved;
      settled = subst (λ xs. IsSettledIn c.settle_over.new.self
          (IsWaiting c.settle_over.new.self (over (drop (c.members.place + 1) xs) 0 0 (c.args.merge
          + 1)))) (sym moved)
          (c.in_ok-broken.ensures.settled (drop (c.members.place
          + 1) (moved_by c.members.self.classes.merges c.args.merge)) (c.args.merge + 1)
          (omega (arith, c.members.invariant.there))
          (over_member c.members.self (moved_by c.members.self.classes.merges c.args.merge)
          c.members.place c.index-moved-place.result (c.args.merge + 1) within
          (c.index-moved-place.is ∙ ap (λ xs. get_or xs c.members.place c.index-moved-place.result)
          c.moved.ensures) c.members.invariant.settled));
    }

pub returns-clause-settled : goal.returns-clause-settled
returns-clause-settled g c =
    over_all c.members.self _ (c.args.merge + 1)
    (drop_all c.members.place (moved_by c.members.self.classes.merges c.args.merge)
    (omega (
      arith,
      c.members-test.false,
      ap length c.moved-place-end.ensures,
      ap length
          c.members.invariant.moved,
    )))
    c.members.invariant.settled

pub returns-in_err-broken-clause-step : goal.returns-in_err-broken-clause-step
returns-in_err-broken-clause-step g c =
    IsClosing-both g.R.CarriesNodes.carried_node (graph_in c.args.self.now)
    (graph_in c.members.self) (graph_in c.settle_over.new.self) _ _ _
    c.members.invariant.going.step c.settle_over.ensures.step
