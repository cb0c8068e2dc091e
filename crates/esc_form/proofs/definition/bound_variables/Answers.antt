use Rattle.std.proofs.Common.{rules, arith, ◌≡◌, ◌++◌, ◌-◌, ◌+◌, ◌∷◌, [], sym, ◌∙◌, ap, append-nil}
use Rattle.esc_term.specs.declared.term.Term.TheVariants.{Var}
use Rattle.esc_form.specs.Commands.{bound_variables}
use Rattle.esc_form.proofs.CommandLemmas.{more_variables}
use Rattle.esc_form.proofs.definition.bound_variables.Goals as goal

pub variables-preserved : goal.variables-preserved
variables-preserved c =
    let grown : c.push.new.self
    ≡ c.variables.variables ++ Var (c.args.count - 1 - c.variables.outside) ∷ [] =
    search rules in
    ap (λ l. l ++ bound_variables (c.args.count - (c.variables.outside + 1))) grown
    ∙ more_variables c.variables.variables c.args.count c.variables.outside
    (omega arith) c.variables.invariant

pub returns : goal.returns
returns c =
    let none : c.args.count - c.variables.outside ≡ 0 = omega arith in
    sym (append-nil c.variables.variables)
    ∙ ap (λ n. c.variables.variables ++ bound_variables n) (sym none) ∙ c.variables.invariant
