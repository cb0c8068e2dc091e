use Rattle.std.proofs.Common.{◌∷◌, [], false, subst, subst₂, sym}
use Rattle.std.specs.List.{Contains}
use Rattle.esc_simplex.specs.Calls.{both_gaps}
use Rattle.esc_simplex.specs.View.{Allows, numbers_in}
use Rattle.esc_sharing.specs.Admitted.{RestrictEnds}
use Rattle.esc_sharing.specs.Numbers.{IsGapOf, MayStandFor, number_terms}
use Rattle.esc_sharing.proofs.BoundNodes.{both_of_numbers, for_bound, gap_of_nodes}
use Rattle.esc_sharing.proofs.Restricting.{adds_made, equal_restricts, names_no_form}
use Rattle.esc_sharing.proofs.Restricting.{numbers_later, unless_memory}
use Rattle.esc_sharing.proofs.arithmetic.SimplexTheory.told_equal.Goals as goal

pub equal-requires-clause-u : goal.equal-requires-clause-u
equal-requires-clause-u g c = for_bound c.args.self.now c.args.a c.number_unknown-first.result
    c.number_unknown-first.ensures
    c.requires.sound

pub equal-requires-clause-v : goal.equal-requires-clause-v
equal-requires-clause-v g c = for_bound c.args.self.now c.args.b c.number_unknown-second.result
    c.number_unknown-second.ensures c.requires.sound

pub returns-clause-ends : goal.returns-clause-ends
returns-clause-ends g c =
    let v = c.args.self.now in
    let u = c.number_unknown-first.result in
    let y = c.number_unknown-second.result in
    let first = c.number_unknown-first.ensures in
    let second = c.number_unknown-second.ensures in
    let are = c.requires.numbers in
    subst₂ (λ f h. RestrictEnds (Allows v) (Allows c.equal.new.self) (f ∷ h ∷ []) c.equal.result)
    (gap_of_nodes c.args._graph.now v are c.args.a c.args.b u y first second false)
    (gap_of_nodes c.args._graph.now v are c.args.b c.args.a y u second first false)
    (equal_restricts v c.equal.new.self u y (for_bound v c.args.a u first c.requires.sound)
    (for_bound v c.args.b y second c.requires.sound) c.equal.result c.equal.ensures.ends)

pub returns-clause-numbers : goal.returns-clause-numbers
returns-clause-numbers g c = numbers_later c.args.self.now c.equal.new.self _
    c.equal.ensures.makes c.requires.sound

pub returns-clause-made : goal.returns-clause-made
returns-clause-made g c =
    let v = c.args.self.now in
    let terms = number_terms (numbers_in v) in
    adds_made v c.equal.new.self _ terms c.equal.ensures.makes
    (λ s made. subst (MayStandFor terms) (sym made.2)
    (both_of_numbers c.args._graph.now v c.requires.numbers c.args.a c.args.b
    c.number_unknown-first.result c.number_unknown-second.result
    c.number_unknown-first.ensures
    c.number_unknown-second.ensures
    made.0 made.1))

pub returns-clause-stop : goal.returns-clause-stop
returns-clause-stop g c =
    let v = c.args.self.now in
    let terms = number_terms (numbers_in v) in
    unless_memory c.equal.new.self (λ t. ⊥) (Contains []) (Contains (both_gaps v
    c.number_unknown-first.result c.number_unknown-second.result)) (IsGapOf terms) (λ t k. absurd k)
    (both_of_numbers c.args._graph.now v c.requires.numbers c.args.a c.args.b
    c.number_unknown-first.result c.number_unknown-second.result
    c.number_unknown-first.ensures
    c.number_unknown-second.ensures)
    c.equal.result c.equal.ensures.stop

pub returns-clause-no_form : goal.returns-clause-no_form
returns-clause-no_form g c = names_no_form c.equal.new.self _ c.equal.result c.equal.ensures.stop
