use Rattle.std.proofs.Common.{◌≡◌, ◌<◌, ◌+◌, Some, None, length, get_or, ap, sym, ◌∙◌, arith}
use Rattle.std.proofs.lemmas.Grind.{common_steps}
use Rattle.esc_clause.specs.DecisionsInside.{key_of, place_from}
use Rattle.esc_clause.specs.Refinement.{by_decision, judged_by}
use Rattle.esc_clause.proofs.Indexing.{found_judged, found_within, none_judged}
use Rattle.esc_clause.proofs.decisions.Decisions.judge.Goals as goal

pub index-requires : goal.index-requires
index-requires g c =
    let found : place_from 0 c.self.inside.list.items (key_of c.args.item)
    ≡ Some c.in-Some.place.now =
    sym (c.self.invariant.leads (key_of c.args.item)) ∙ sym c.in-Some.ensures.value in
    let within : c.in-Some.place.now < 0 + length c.self.inside.list.items =
    (found_within 0 c.self.inside.list.items (key_of c.args.item) c.in-Some.place.now found).1 in
    grind (arith, common_steps)

pub returns-in-Some : goal.returns-in-Some
returns-in-Some g c =
    let found : place_from 0 c.self.inside.list.items (key_of c.args.item)
    ≡ Some c.in-Some.place.now =
    sym (c.self.invariant.leads (key_of c.args.item)) ∙ sym c.in-Some.ensures.value in
    let judged : judged_by (g.J.Judge.judged c.args.judge.now) c.self.inside.list.items c.args.item
    ≡ by_decision (get_or c.self.inside.list.items c.in-Some.place.now
    c.index.result.now) c.args.item =
    found_judged (g.J.Judge.judged c.args.judge.now) 0 c.self.inside.list.items c.args.item
    c.in-Some.place.now c.index.result.now (found ∙ ap (λ n. Some n) (omega arith)) in
    c.by_decision.ensures ∙ (ap (λ d. by_decision d c.args.item) c.index.ensures ∙ (sym judged
    ∙ ap (λ ds. judged_by (g.J.Judge.judged c.args.judge.now) ds c.args.item) c.self.view_is))

pub returns-in-None : goal.returns-in-None
returns-in-None g c =
    let none : place_from 0 c.self.inside.list.items (key_of c.args.item) ≡ None =
    sym (c.self.invariant.leads (key_of c.args.item)) ∙ sym c.in-None.ensures.value in
    c.judge.ensures ∙ (sym (none_judged
    (g.J.Judge.judged c.args.judge.now) 0 c.self.inside.list.items c.args.item none)
    ∙ ap (λ ds. judged_by (g.J.Judge.judged c.args.judge.now) ds c.args.item) c.self.view_is)
