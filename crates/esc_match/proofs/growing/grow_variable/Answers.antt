use Rattle.std.proofs.Common.{rules, ◌≡◌, IfOk, sym, subst, ◌∙◌}
use Rattle.esc_match.proofs.GrownLevels.{variable_new, variable_other, variable_same}
use Rattle.esc_match.proofs.growing.grow_variable.Goals as goal

pub returns-then-ne : goal.returns-then-ne
returns-then-ne c =
    let apart : c.in-Some.bound ≡ c.class_number-class.result → ⊥ = λ e. search rules in
    c.new.ensures
    ∙ variable_other c.args.graph.now c.args.variable c.args.node c.args.way.now
    c.as_slice.result.now c.in-Some.bound c.class_number-class.result c.as_slice.ensures
    (sym c.class_bound.ensures ∙ c.in-Some.is) c.class_number-class.ensures.number apart

pub returns-in_ok-visited_with-in-None : goal.returns-in_ok-visited_with-in-None
returns-in_ok-visited_with-in-None c =
    subst (λ ws. IfOk c.only.result (λ ways. ways ≡ ws))
    (variable_new c.args.graph.now c.args.variable c.args.node c.args.way.now
    c.in_ok-visited_with-in-None.field-0 c.as_slice.result.now c.class_number-class.result
    c.as_slice.ensures (sym c.class_bound.ensures ∙ c.in-None.is)
    c.class_number-class.ensures.number c.in_ok-visited_with-in-None.ensures) c.only.ensures

pub returns-in_ok-visited-in-Some : goal.returns-in_ok-visited-in-Some
returns-in_ok-visited-in-Some c =
    let same : c.in-Some.bound ≡ c.class_number-class.result = search rules in
    subst (λ ws. IfOk c.only-in-Some.result (λ ways. ways ≡ ws))
    (variable_same c.args.graph.now c.args.variable c.args.node c.args.way.now
    c.in_ok-visited-in-Some.field-0 c.as_slice.result.now c.in-Some.bound
    c.class_number-class.result c.as_slice.ensures (sym c.class_bound.ensures ∙ c.in-Some.is)
    c.class_number-class.ensures.number same c.in_ok-visited-in-Some.ensures)
    c.only-in-Some.ensures
