use Rattle.std.proofs.Common.{◌≡◌, true, false, inl, inr, refl, sym, ◌∙◌}
use Rattle.esc_session.proofs.Answering.{all_rules, not_all_rules, state_drops}
use Rattle.esc_session.proofs.session.Session.answer_pop.Goals as goal

pub returns-then-not-has_push-clause-answers : goal.returns-then-not-has_push-clause-answers
returns-then-not-has_push-clause-answers c =
    let none : c.has_push.result ≡ false = let t = c.if-not-has_push.true in cc in
    inr (refl, refl, all_rules c.args.self.now.batches (sym c.has_push.ensures ∙ none))

pub pop-requires-clause-push : goal.pop-requires-clause-push
pop-requires-clause-push c =
    let some : c.has_push.result ≡ true = let t = c.if-not-has_push.false in cc in
    not_all_rules c.args.self.now.batches (sym c.has_push.ensures ∙ some)

pub returns-clause-answers : goal.returns-clause-answers
returns-clause-answers c =
    inl (
      refl,
      state_drops c.args.self.now c.pop.new.self c.pop.ensures.drops
          c.pop.ensures.leaves.goals,
    )
