-- The formulas of a command are closed.
use Rattle.std.proofs.Common.{◌≡◌, ℕ, zero, suc, ◌≤◌, true, nat_lt, List, [], ◌∷◌, ◌++◌, map}
use Rattle.std.proofs.Common.{length, refl, ◌∙◌, subst, arith, length-append, Option, Some, None}
use Rattle.std.proofs.Common.{Ok}
use Rattle.std.specs.List.{list_all}
use Rattle.std.specs.Prelude.{nat_le}
use Rattle.std.proofs.lemmas.Bool.Decides.{nat_tests}
use Rattle.esc_sexp.specs.declared.sexp.Sexp.{Sexp}
use Rattle.esc_term.specs.declared.term.Term.TheVariants.{Var}
use Rattle.esc_term.specs.declared.formula.Formula.{Formula}
use Rattle.esc_term.specs.declared.formula.Formula.TheVariants.{Iff}
use Rattle.esc_term.specs.Term.{binds_term}
use Rattle.esc_term.specs.Formula.{binds, is_closed}
use Rattle.esc_term.proofs.TermLevels.{binds_term-Var, binds_term-App}
use Rattle.esc_term.proofs.FormulaLevels.{binds-Iff}
use Rattle.esc_names.specs.declared.key.Binder.TheVariants.{Forall}
use Rattle.esc_names.specs.declared.key.Order.{Order}
use Rattle.esc_names.specs.declared.key.Order.TheVariants as order
use Rattle.esc_read.specs.Reading.{Numbering, Variables, give, within, ◌>>=◌, ◌<$>◌, each}
use Rattle.esc_read.specs.Tokens.{args_of, head_of, place_of}
use Rattle.esc_form.specs.declared.command.Command.{Command}
use Rattle.esc_form.specs.declared.command.Kind.{Kind}
use Rattle.esc_form.specs.declared.command.Kind.TheVariants as kind
use Rattle.esc_form.specs.declared.definition.Named.{Named}
use Rattle.esc_form.specs.Patterns.{only_patterns}
use Rattle.esc_form.specs.Formulas.{formula, holds}
use Rattle.esc_form.specs.Commands.{bound_variables, command_reading, defined, definition}
use Rattle.esc_form.specs.Commands.{definition_of, goal_of, kind_by, meaning, named, nothing_behind}
use Rattle.esc_form.specs.Commands.{order_of, predicate, pushed, rule}
use Rattle.esc_read.specs.Names.{declared}
use Rattle.esc_form.specs.Laws.{CommandsAreClosed, IsClosedKind}
use Rattle.esc_read.proofs.BoundTerms.{and_from, counts, each_every, gave, never, went}
use Rattle.esc_form.proofs.BoundFormulas.{bound_bound, formula_bound, holds_bound, within_gave}

variables_bound : (n d : ℕ) → n ≤ d → list_all (binds_term d) (bound_variables n) ≡ true
variables_bound zero d h = refl
variables_bound (suc n) d h =
    let below : nat_lt n d ≡ true = grind (arith, nat_tests) in
    and_from (binds_term d (Var n)) (list_all (binds_term d) (bound_variables n))
    (binds_term-Var d n ∙ below) (variables_bound n d (omega arith))

rule_bound : (p : Named) (own scope : Variables) (body : Formula)
    → binds body (length (own ++ scope)) ≡ true
    → binds (rule p (length own) body) (length scope) ≡ true
rule_bound p own scope body b =
    let n = length own in
    let d = length (own ++ scope) in
    let low : n ≤ d = omega (arith, length-append own scope) in
    let head : binds_term d (predicate p n) ≡ true =
    binds_term-App d _ (bound_variables n) ∙ variables_bound n d low in
    bound_bound Forall own scope (only_patterns ((predicate p n ∷ []) ∷ []))
    (Iff (holds (predicate p n)) body)
    (and_from _ true
    (and_from _ true (and_from (binds_term d (predicate p n)) true head refl) refl) refl)
    (binds-Iff d (holds (predicate p n)) body ∙ and_from _ _ (holds_bound (predicate p n) d head) b)

goal_closed : (e : Sexp) (number : Numbering) (k : Kind) → goal_of e [] number ≡ Ok k
    → IsClosedKind k
goal_closed e number k h =
    let w = went (formula e) (λ f. give (kind.Goal f)) [] number k h in
    subst IsClosedKind (gave (kind.Goal w.part) k [] number w.rest)
    (formula_bound e [] number w.part w.gave)

pushed_closed : (place : ℕ) (es : List Sexp) (number : Numbering) (k : Kind)
    → pushed place es [] number ≡ Ok k → IsClosedKind k
pushed_closed place es number k h =
    let w = went (each (map formula es)) (λ fs. give (kind.Push fs)) [] number k
    (counts (nat_le 1 (length es)) place (kind.Push <$> each (map formula es)) k [] number h) in
    subst IsClosedKind (gave (kind.Push w.part) k [] number w.rest)
    (each_every formula is_closed [] number (λ e f. formula_bound e [] number f) es w.part w.gave)

alone_closed : (what : Kind) (place : ℕ) (es : List Sexp) (number : Numbering) (k : Kind)
    → IsClosedKind what → nothing_behind what place es [] number ≡ Ok k → IsClosedKind k
alone_closed what place [] number k c h = subst IsClosedKind (gave what k [] number h) c
alone_closed what place (e ∷ es) number k c h = absurd (never _ place k [] number h)

meaning_closed : (p : Named) (own : Variables) (es : List Sexp) (number : Numbering) (k : Kind)
    → within own (meaning p (length own) es) [] number ≡ Ok k → IsClosedKind k
meaning_closed p own [] number k h =
    subst IsClosedKind
    (gave (definition_of p (length own) None) k (own ++ []) number
    (within_gave own [] (meaning p (length own) []) number k h)) tt
meaning_closed p own (e ∷ es) number k h =
    let w =
    went (formula e)
    (λ body. give (definition_of p (length own) (Some (rule p (length own) body))))
    (own ++ []) number k
    (within_gave own [] (meaning p (length own) (e ∷ es)) number k h) in
    subst IsClosedKind
    (gave (definition_of p (length own) (Some (rule p (length own) w.part))) k
    (own ++ []) number w.rest)
    (rule_bound p own [] w.part (formula_bound e (own ++ []) number w.part w.gave))

defined_closed : (place : ℕ) (es : List Sexp) (number : Numbering) (k : Kind)
    → defined place es [] number ≡ Ok k → IsClosedKind k
defined_closed place [] number k h = absurd (never _ place k [] number h)
defined_closed place (e ∷ bodies) number k h =
    let w =
    went (named e)
    (λ p. declared [] (args_of e) >>= (λ own. within own (meaning p (length own) bodies)))
    [] number k
    (counts (nat_le (length bodies) 1) place (definition e bodies) k [] number h) in
    let v =
    went (declared [] (args_of e))
    (λ own. within own (meaning w.part (length own) bodies)) [] number k w.rest in
    meaning_closed w.part v.part bodies number k v.rest

kind_closed : (o : Option Order) (e : Sexp) (number : Numbering) (k : Kind)
    → kind_by o e [] number ≡ Ok k → IsClosedKind k
kind_closed (Some order.Push) e number k h = pushed_closed (place_of e) (args_of e) number k h
kind_closed (Some order.Pop) e number k h =
    alone_closed kind.Pop (place_of e) (args_of e) number k tt h
kind_closed (Some order.Prompt) e number k h =
    alone_closed kind.Prompt (place_of e) (args_of e) number k tt h
kind_closed (Some order.Define) e number k h = defined_closed (place_of e) (args_of e) number k h
kind_closed None e number k h = goal_closed e number k h

at_place : Sexp → Kind → Command
at_place e k = record { place = place_of e; kind = k }

pub commands_are_closed : CommandsAreClosed
unfolding command_reading
commands_are_closed e number c h =
    let w =
    went (kind_by (order_of (head_of e)) e)
    (λ k. give (record { place = place_of e; kind = k })) [] number c h in
    subst (λ (x : Command). IsClosedKind x.kind) (gave _ c [] number w.rest)
    (kind_closed (order_of (head_of e)) e number w.part w.gave)
