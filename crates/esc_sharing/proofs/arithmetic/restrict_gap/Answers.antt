use Rattle.std.proofs.Common.{◌∷◌, [], Err, IfErr, sym, ◌∙◌, subst}
use Rattle.esc_cover.specs.Assignment.{gap}
use Rattle.esc_egraph.specs.declared.state.State.{State}
use Rattle.esc_tableau.proofs.RunLaws.{err_is}
use Rattle.esc_trail.proofs.Noting.{notes_both}
use Rattle.esc_simplex.specs.Barred.{IsBarred}
use Rattle.esc_simplex.specs.Calls.{gap_in}
use Rattle.esc_simplex.specs.SimplexUndo.{simplex_undo}
use Rattle.esc_simplex.specs.SimplexLaws.{simplex_lawful}
use Rattle.esc_simplex.specs.View.{Allows, numbers_in}
use Rattle.esc_simplex.proofs.Equalled.{gap_ends}
use Rattle.esc_simplex.proofs.Making.{allows_alike, makes_keeping, restrictions_later}
use Rattle.esc_sharing.specs.Admitted.{RestrictEnds}
use Rattle.esc_sharing.specs.Nodes.{node_term}
use Rattle.esc_sharing.specs.Numbers.{IsGapOf, MayStandFor, number_terms}
use Rattle.esc_sharing.proofs.BoundNodes.{for_bound, gap_of_nodes, gap_of_numbers}
use Rattle.esc_sharing.proofs.Restricting.{adds_made, barred_wider, numbers_kept, numbers_later}
use Rattle.esc_sharing.proofs.Restricting.{restrict_ends, some_alike}
use Rattle.esc_sharing.proofs.arithmetic.restrict_gap.Goals as goal

pub gap-requires-clause-u : goal.gap-requires-clause-u
gap-requires-clause-u g c = for_bound c.args.simplex.now c.args.upper c.number_unknown-above.result
    c.number_unknown-above.ensures c.requires.sound

pub gap-requires-clause-v : goal.gap-requires-clause-v
gap-requires-clause-v g c = for_bound c.args.simplex.now c.args.lower c.number_unknown-below.result
    c.number_unknown-below.ensures c.requires.sound

pub at_least_zero-requires-clause-u : goal.at_least_zero-requires-clause-u
at_least_zero-requires-clause-u g c = c.in_ok-unknown.ensures.ok.listed

pub returns-in_err-unknown-clause-ends : goal.returns-in_err-unknown-clause-ends
returns-in_err-unknown-clause-ends g c = subst (RestrictEnds (Allows c.args.simplex.now)
    (Allows c.gap.new.self) (gap (node_term c.args.graph.now c.args.upper)
    (node_term c.args.graph.now c.args.lower) c.args.strict ∷ []))
    (sym (err_is c.from_residual.result c.in_err-unknown.field-0.0 c.from_residual.ensures))
    (some_alike c.args.simplex.now c.gap.new.self _
    (allows_alike c.args.simplex.now c.gap.new.self _ c.gap.ensures.makes c.requires.sound
    c.gap.ensures.restricted))

pub returns-in_err-unknown-clause-numbers : goal.returns-in_err-unknown-clause-numbers
returns-in_err-unknown-clause-numbers g c = numbers_later c.args.simplex.now c.gap.new.self _
    c.gap.ensures.makes c.requires.sound

pub returns-in_err-unknown-clause-made : goal.returns-in_err-unknown-clause-made
returns-in_err-unknown-clause-made g c = adds_made c.args.simplex.now c.gap.new.self _
    (number_terms (numbers_in c.args.simplex.now)) c.gap.ensures.makes
    (λ s e. subst (MayStandFor (number_terms (numbers_in c.args.simplex.now))) (sym e)
    (gap_of_numbers c.args.graph.now c.args.simplex.now c.requires.numbers c.args.upper c.args.lower
    c.number_unknown-above.result c.number_unknown-below.result
    c.number_unknown-above.ensures
    c.number_unknown-below.ensures c.args.strict))

pub returns-in_err-unknown-clause-stop : goal.returns-in_err-unknown-clause-stop
returns-in_err-unknown-clause-stop g c = subst (λ r. IfErr r (IsBarred c.gap.new.self (λ t. ⊥)
    (IsGapOf (number_terms (numbers_in c.args.simplex.now)))))
    (sym (err_is c.from_residual.result c.in_err-unknown.field-0.0 c.from_residual.ensures))
    (barred_wider {V = State} c.gap.new.self _
    (IsGapOf (number_terms (numbers_in c.args.simplex.now)))
    (λ f e. subst (IsGapOf (number_terms (numbers_in c.args.simplex.now))) (sym e)
    (gap_of_numbers c.args.graph.now c.args.simplex.now c.requires.numbers c.args.upper c.args.lower
    c.number_unknown-above.result c.number_unknown-below.result
    c.number_unknown-above.ensures
    c.number_unknown-below.ensures c.args.strict))
    (Err c.in_err-unknown.field-0.0) c.in_err-unknown.ensures.stop)

pub returns-clause-ends : goal.returns-clause-ends
returns-clause-ends g c = subst (λ f. RestrictEnds (Allows c.args.simplex.now)
    (Allows c.at_least_zero.new.self) (f ∷ []) c.at_least_zero.result)
    (gap_of_nodes c.args.graph.now c.args.simplex.now c.requires.numbers c.args.upper c.args.lower
    c.number_unknown-above.result c.number_unknown-below.result
    c.number_unknown-above.ensures
    c.number_unknown-below.ensures c.args.strict)
    (restrict_ends c.args.simplex.now c.at_least_zero.new.self
    (gap_in c.args.simplex.now c.number_unknown-above.result c.number_unknown-below.result
    c.args.strict)
    c.at_least_zero.result
    (gap_ends c.args.simplex.now c.gap.new.self c.at_least_zero.new.self
    c.gap.ensures.simplex c.in_ok-unknown.unknown
    (gap_in c.args.simplex.now c.number_unknown-above.result c.number_unknown-below.result
    c.args.strict)
    (restrictions_later c.args.simplex.now c.gap.new.self _ c.gap.ensures.makes c.requires.sound
    c.gap.ensures.restricted) c.in_ok-unknown.ensures.ok c.at_least_zero.ensures.keeps
    c.at_least_zero.result c.at_least_zero.ensures.ends))

pub returns-clause-numbers : goal.returns-clause-numbers
returns-clause-numbers g c = numbers_kept c.gap.new.self c.at_least_zero.new.self
    c.at_least_zero.ensures.keeps
    ∙ numbers_later c.args.simplex.now c.gap.new.self _ c.gap.ensures.makes c.requires.sound

pub returns-clause-made : goal.returns-clause-made
returns-clause-made g c = adds_made c.args.simplex.now c.at_least_zero.new.self _
    (number_terms (numbers_in c.args.simplex.now)) (makes_keeping
    c.args.simplex.now c.gap.new.self c.at_least_zero.new.self _ c.gap.ensures.makes
    c.at_least_zero.ensures.keeps)
    (λ s e. subst (MayStandFor (number_terms (numbers_in c.args.simplex.now))) (sym e)
    (gap_of_numbers c.args.graph.now c.args.simplex.now c.requires.numbers c.args.upper c.args.lower
    c.number_unknown-above.result c.number_unknown-below.result
    c.number_unknown-above.ensures
    c.number_unknown-below.ensures c.args.strict))

pub returns-clause-stop : goal.returns-clause-stop
returns-clause-stop g c = barred_wider c.at_least_zero.new.self (λ f. ⊥)
    (IsGapOf (number_terms (numbers_in c.args.simplex.now))) (λ f k. absurd k)
    c.at_least_zero.result c.at_least_zero.ensures.stop

pub returns-clause-undo : goal.returns-clause-undo
returns-clause-undo g c = notes_both simplex_undo simplex_lawful g.R.Carries.carried
    c.args.trail.now.records c.gap.new.trail.records c.at_least_zero.new.trail.records
    c.args.simplex.now c.gap.new.self c.at_least_zero.new.self c.gap.ensures.undo
    c.at_least_zero.ensures.undo
