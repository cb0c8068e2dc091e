use Rattle.std.proofs.Common.{inl, inr, true, false, true≢false, Err, IfErr, Ok, refl, sym, ap}
use Rattle.std.proofs.Common.{◌∙◌, subst}
use Rattle.std.specs.List.{Contains}
use Rattle.esc_tableau.proofs.RunLaws.{err_is}
use Rattle.esc_simplex.specs.Barred.{IsBarred}
use Rattle.esc_simplex.specs.Calls.{both_gaps}
use Rattle.esc_simplex.specs.View.{numbers_in}
use Rattle.esc_sharing.specs.ArithmeticInside.{PairEnds}
use Rattle.esc_sharing.specs.Numbers.{IsGapOf, number_terms}
use Rattle.esc_sharing.proofs.BoundNodes.{both_of_numbers, for_bound, node_is_there}
use Rattle.esc_sharing.proofs.MissedPairs.{only_itself, part_shows}
use Rattle.esc_sharing.proofs.Restricting.{barred_wider}
use Rattle.esc_sharing.proofs.missed.is_missed.Goals as goal

pub same-together-requires-clause-a_is_there : goal.same-together-requires-clause-a_is_there
same-together-requires-clause-a_is_there c = node_is_there c.args.simplex.now c.args.first.now.0
    c.args.first.now.1 c.requires.first c.args.graph.now c.requires.numbers

pub same-together-requires-clause-b_is_there : goal.same-together-requires-clause-b_is_there
same-together-requires-clause-b_is_there c = node_is_there c.args.simplex.now c.args.second.now.0
    c.args.second.now.1 c.requires.second c.args.graph.now c.requires.numbers

pub returns-then-together-clause-ends : goal.returns-then-together-clause-ends
returns-then-together-clause-ends c apart =
    absurd (apart (c.same-together.ensures.0 c.if-together.true))

pub returns-then-together-clause-rows : goal.returns-then-together-clause-rows
returns-then-together-clause-rows c = only_itself c.args.simplex.now c.requires.sound

pub part-requires-clause-u : goal.part-requires-clause-u
part-requires-clause-u c = for_bound c.args.simplex.now c.args.first.now.0 c.args.first.now.1
    c.requires.first c.requires.sound

pub part-requires-clause-v : goal.part-requires-clause-v
part-requires-clause-v c = for_bound c.args.simplex.now c.args.second.now.0 c.args.second.now.1
    c.requires.second c.requires.sound

pub returns-in_err-parted-clause-ends : goal.returns-in_err-parted-clause-ends
returns-in_err-parted-clause-ends c = subst (PairEnds c.args.graph.now c.args.simplex.now
    c.args.first.now.0 c.args.second.now.0)
    (sym (err_is c.from_residual.result c.in_err-parted.field-0.0 c.from_residual.ensures)) tt

pub returns-in_err-parted-clause-rows : goal.returns-in_err-parted-clause-rows
returns-in_err-parted-clause-rows c = record {
  simplex = c.part.ensures.simplex;
  keeps = c.part.ensures.keeps;
  restricted = c.part.ensures.restricted;
}

pub returns-in_err-parted-clause-stop : goal.returns-in_err-parted-clause-stop
returns-in_err-parted-clause-stop c =
    let v = c.args.simplex.now in
    let terms = number_terms (numbers_in v) in
    subst (λ r. IfErr r (IsBarred c.part.new.self (λ t. ⊥) (IsGapOf terms)))
    (sym (err_is c.from_residual.result c.in_err-parted.field-0.0 c.from_residual.ensures))
    (barred_wider {V = Unit {0}} c.part.new.self
    (Contains (both_gaps v c.args.first.now.1 c.args.second.now.1)) (IsGapOf terms)
    (both_of_numbers c.args.graph.now v c.requires.numbers c.args.first.now.0 c.args.second.now.0
    c.args.first.now.1 c.args.second.now.1 c.requires.first c.requires.second)
    (Err c.in_err-parted.field-0.0) c.in_err-parted.ensures.stop)

pub returns-in-Equal-clause-ends : goal.returns-in-Equal-clause-ends
returns-in-Equal-clause-ends c =
    part_shows c.args.graph.now c.args.simplex.now c.requires.sound c.requires.numbers
    c.args.first.now c.args.second.now c.requires.first c.requires.second
    (λ e. true≢false (sym (c.same-together.ensures.1 e) ∙ c.if-together.false)) c.part.result
    c.part.ensures.ends true (inl (c.in_ok-parted.was ∙ ap Ok c.in-Equal.is, refl))

pub returns-in-Equal-clause-rows : goal.returns-in-Equal-clause-rows
returns-in-Equal-clause-rows c = record {
  simplex = c.part.ensures.simplex;
  keeps = c.part.ensures.keeps;
  restricted = c.part.ensures.restricted;
}

pub returns-in-Different-clause-ends : goal.returns-in-Different-clause-ends
returns-in-Different-clause-ends c =
    part_shows c.args.graph.now c.args.simplex.now c.requires.sound c.requires.numbers
    c.args.first.now c.args.second.now c.requires.first c.requires.second
    (λ e. true≢false (sym (c.same-together.ensures.1 e) ∙ c.if-together.false)) c.part.result
    c.part.ensures.ends false (inr (c.in_ok-parted.was ∙ ap Ok c.in-Different.is, refl))

pub returns-in-Different-clause-rows : goal.returns-in-Different-clause-rows
returns-in-Different-clause-rows c = record {
  simplex = c.part.ensures.simplex;
  keeps = c.part.ensures.keeps;
  restricted = c.part.ensures.restricted;
}
