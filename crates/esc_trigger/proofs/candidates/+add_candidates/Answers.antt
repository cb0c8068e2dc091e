use Rattle.std.proofs.Common.{◌≡◌, ◌||◌, ap, sym, subst, ◌∙◌}
use Rattle.std.specs.List.{fold}
use Rattle.esc_term.specs.declared.term.Term.TheVariants.{App}
use Rattle.esc_term.specs.Term.{with_once}
use Rattle.esc_trigger.specs.Variables.{is_sum_head, lowered}
use Rattle.esc_trigger.specs.WalkInside.{candidates_in, with_candidate}
use Rattle.esc_trigger.proofs.WalkLevels.{eligible_step, passed_step}
use Rattle.esc_trigger.proofs.candidates.+add_candidates.Goals as goal

pub add_candidates-returns-in_ok-add_candidate-in-App-clause-added :
    goal.add_candidates-returns-in_ok-add_candidate-in-App-clause-added
add_candidates-returns-in_ok-add_candidate-in-App-clause-added t c d e =
    let args = c.in_ok-contents-in-App.ensures in
    let all = c.under-contents.ensures in
    let applied : c.args.term.now ≡ App c.in-App.head c.as_slice.result.now =
    c.in-App.is ∙ ap (App c.in-App.head) (sym c.as_slice.ensures) in
    let lower = c.in_ok-lower-in-App.ensures d e ∙ ap (lowered d) applied in
    subst (λ u. c.add_candidate.new.found
    ≡ fold with_once c.args.found.now (candidates_in c.args.quant.now d u)) (sym applied)
    (eligible_step c.args.quant.now d c.args.found.now c.add_all_candidates.new.found c.in-App.head
    c.as_slice.result.now _ _ _
    (all.clear ∙ args.clear d e) (all.mentions ∙ args.mentions d e)
    (all.calculates ∙ ap (λ b. is_sum_head c.in-App.head || b) args.calculates) (args.added d e)
    c.add_candidate.new.found (sym c.if-are_eligible.ensures)
    (c.in_ok-add_candidate-in-App.ensures
    ∙ ap (with_candidate c.args.quant.now c.add_all_candidates.new.found) lower))

pub add_candidates-returns-else-are_eligible-clause-added :
    goal.add_candidates-returns-else-are_eligible-clause-added
add_candidates-returns-else-are_eligible-clause-added t c d e =
    let args = c.in_ok-contents-in-App.ensures in
    let all = c.under-contents.ensures in
    let applied : c.args.term.now ≡ App c.in-App.head c.as_slice.result.now =
    c.in-App.is ∙ ap (App c.in-App.head) (sym c.as_slice.ensures) in
    subst (λ u. c.add_all_candidates.new.found
    ≡ fold with_once c.args.found.now (candidates_in c.args.quant.now d u)) (sym applied)
    (passed_step c.args.quant.now d c.args.found.now c.add_all_candidates.new.found c.in-App.head
    c.as_slice.result.now _ _ _
    (all.clear ∙ args.clear d e) (all.mentions ∙ args.mentions d e)
    (all.calculates ∙ ap (λ b. is_sum_head c.in-App.head || b) args.calculates) (args.added d e)
    (sym c.if-are_eligible.ensures))
