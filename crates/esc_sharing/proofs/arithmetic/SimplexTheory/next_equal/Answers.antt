use Rattle.std.proofs.Common.{rules, ◌≡◌, [], refl, sym, ap, subst}
use Rattle.std.specs.List.{All, Contains}
use Rattle.esc_simplex.specs.SimplexLaws.{simplex_lawful}
use Rattle.esc_simplex.specs.Senses.{senses_of}
use Rattle.esc_simplex.specs.View.{numbers_in}
use Rattle.esc_sharing.specs.ArithmeticInside.{PairsEnd}
use Rattle.esc_sharing.specs.Numbers.{IsGapOf, number_terms}
use Rattle.esc_sharing.proofs.MissedPairs.{next_ends, only_rows_same}
use Rattle.esc_sharing.proofs.Restricting.{adds_nothing, names_no_form, unless_memory}
use Rattle.esc_sharing.proofs.arithmetic.SimplexTheory.next_equal.Goals as goal

pub returns-in_default-clause-same : goal.returns-in_default-clause-same
returns-in_default-clause-same c = simplex_lawful.reflexive c.args.self.now

pub returns-in_default-clause-made : goal.returns-in_default-clause-made
returns-in_default-clause-made c = adds_nothing _ _ _ refl

pub missed_pair-requires-clause-bound : goal.missed_pair-requires-clause-bound
missed_pair-requires-clause-bound c =
    let read : c.deref.result.now ≡ c.in-Ok.chosen.items = search rules in
    subst (All (Contains c.args.self.now.bound)) (sym read) c.in-Ok.ensures.among

pub returns-clause-ends : goal.returns-clause-ends
returns-clause-ends c =
    let read : c.deref.result.now ≡ c.in-Ok.chosen.items = search rules in
    next_ends c.args.graph.now c.args.self.now c.requires.agree c.in-Ok.chosen.items
    c.in-Ok.ensures c.missed_pair.result
    (subst (λ ps. PairsEnd c.args.graph.now c.args.self.now ps c.missed_pair.result) read
    c.missed_pair.ensures.ends)

pub returns-clause-same : goal.returns-clause-same
returns-clause-same c = only_rows_same c.args.self.now c.missed_pair.new.simplex
    c.missed_pair.ensures.rows c.requires.sound

pub returns-clause-sound : goal.returns-clause-sound
returns-clause-sound c = c.missed_pair.ensures.rows.simplex

pub returns-clause-made : goal.returns-clause-made
returns-clause-made c = adds_nothing _ _ _ (ap senses_of c.missed_pair.ensures.rows.keeps.made)

pub returns-clause-stop : goal.returns-clause-stop
returns-clause-stop c =
    let terms = number_terms (numbers_in c.args.self.now) in
    unless_memory c.missed_pair.new.simplex (λ t. ⊥) (Contains []) (IsGapOf terms) (IsGapOf terms)
    (λ t k. absurd k) (λ f k. k) c.missed_pair.result c.missed_pair.ensures.stop

pub returns-clause-no_form : goal.returns-clause-no_form
returns-clause-no_form c = names_no_form c.missed_pair.new.simplex _ c.missed_pair.result
    c.missed_pair.ensures.stop
