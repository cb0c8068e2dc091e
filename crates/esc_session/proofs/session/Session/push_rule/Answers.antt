use Rattle.std.proofs.Common.{◌≡◌, List, [], ◌∷◌, ◌++◌, Some, OnOk, IsTrue, refl, ap, sym, subst}
use Rattle.std.proofs.Common.{◌∙◌}
use Rattle.std.specs.List.{list_all}
use Rattle.esc_term.specs.Formula.{is_closed}
use Rattle.esc_term.specs.declared.formula.Formula.{Formula}
use Rattle.esc_session.specs.Acts.{Joins}
use Rattle.esc_session.proofs.Again.{again_here}
use Rattle.esc_session.proofs.Answering.{all_of_one, on_err}
use Rattle.esc_session.proofs.session.Session.push_rule.Goals as goal

pub returns-in_err-push-clause-rests : goal.returns-in_err-push-clause-rests
returns-in_err-push-clause-rests c = on_err c.from_residual.result (record {
  base = refl;
  batches = refl;
  search = again_here c.args.self.now.search;
})

pub push-requires-2-clause-closed : goal.push-requires-2-clause-closed
push-requires-2-clause-closed c =
    let is : c.push.new.self ≡ c.args.rule ∷ [] = c.in_ok-push.ensures.ok
    ∙ ap (λ (fs : List Formula). fs ++ (c.args.rule ∷ [])) c.new-formulas.ensures in
    subst (λ (fs : List Formula). IsTrue (list_all is_closed fs)) (sym is)
    (all_of_one (is_closed c.args.rule) c.requires.closed)

pub returns-clause-joins : goal.returns-clause-joins
returns-clause-joins c =
    let a = c.args in
    let is : c.push.new.self ≡ c.args.rule ∷ [] = c.in_ok-push.ensures.ok
    ∙ ap (λ (fs : List Formula). fs ++ (c.args.rule ∷ [])) c.new-formulas.ensures in
    subst (λ (fs : List Formula). OnOk c.push-2.result
    (Joins a.self.now c.push-2.new.self (Some (a.name, a.count)) fs)) is c.push-2.ensures.joins
