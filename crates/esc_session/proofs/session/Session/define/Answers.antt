use Rattle.std.proofs.Common.{◌≡◌, true, false, inl, inr, Some, [], ◌∷◌, refl, sym, ◌∙◌}
use Rattle.esc_session.proofs.Answering.{is_defined, not_defined}
use Rattle.esc_session.proofs.Replying.{assumed_done, lacking_memory, rests_here}
use Rattle.esc_session.proofs.session.Session.define.Goals as goal

pub returns-then-is_defined-clause-answers : goal.returns-then-is_defined-clause-answers
returns-then-is_defined-clause-answers c =
    let a = c.args in
    let there : c.is_defined.result ≡ true = let t = c.if-is_defined.true in cc in
    inr (refl, refl, is_defined a.name a.count a.self.now (sym c.is_defined.ensures ∙ there))

pub returns-then-is_defined-clause-acts : goal.returns-then-is_defined-clause-acts
returns-then-is_defined-clause-acts c = rests_here c.args.self.now

pub returns-in-Ok-clause-answers : goal.returns-in-Ok-clause-answers
returns-in-Ok-clause-answers c =
    let a = c.args in
    let s = a.self.now in
    let t = c.push_rule.new.self in
    let new : c.is_defined.result ≡ false = let t = c.if-is_defined.false in cc in
    inl (
      assumed_done s t a.place (Some (a.name, a.count)) (a.rule ∷ []) c.push_rule.ensures.leaves
          c.in-Ok.ensures.joins,
      not_defined a.name a.count s (sym c.is_defined.ensures ∙ new),
    )

pub returns-in-Err-clause-answers : goal.returns-in-Err-clause-answers
returns-in-Err-clause-answers c =
    let a = c.args in
    let s = a.self.now in
    let t = c.push_rule.new.self in
    let new : c.is_defined.result ≡ false = let t = c.if-is_defined.false in cc in
    inl (
      lacking_memory s t a.place (Some (a.name, a.count)) (a.rule ∷ []) c.push_rule.ensures.leaves
          c.in-Err.ensures.rests,
      not_defined a.name a.count s (sym c.is_defined.ensures ∙ new),
    )
