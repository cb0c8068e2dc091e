use Rattle.std.proofs.Common.{ℕ, true, false, Ok, Err, IfErr, sym, ap}
use Rattle.std.proofs.Common.{◌∙◌, subst, arith}
use Rattle.std.specs.List.{All, Contains}
use Rattle.std.proofs.lemmas.List.{get_or_default}
use Rattle.esc_tableau.proofs.RunLaws.{err_is}
use Rattle.esc_simplex.specs.Barred.{IsBarred}
use Rattle.esc_simplex.specs.View.{numbers_in}
use Rattle.esc_sharing.specs.ArithmeticInside.{AreMissed, PairEnds, pair_at}
use Rattle.esc_sharing.specs.Numbers.{IsGapOf, number_terms}
use Rattle.esc_sharing.proofs.MissedPairs.{barred_back, behind-starts, behind-step, keys_back}
use Rattle.esc_sharing.proofs.MissedPairs.{keys_still, numbers_still, only_both, only_itself}
use Rattle.esc_sharing.proofs.MissedPairs.{pair_back}
use Rattle.esc_sharing.proofs.missed.missed_with.Goals as goal

pub others-init : goal.others-init
others-init c = record {
  rows = only_itself c.args.simplex.now c.requires.sound;
  keys = c.requires.keys;
  parted = behind-starts c.args.graph.now c.args.simplex.now c.args.numbers.now c.args.place;
}

pub is_missed_yet-requires-clause-sound : goal.is_missed_yet-requires-clause-sound
is_missed_yet-requires-clause-sound c = c.others.invariant.rows.simplex

pub is_missed_yet-requires-clause-numbers : goal.is_missed_yet-requires-clause-numbers
is_missed_yet-requires-clause-numbers c = numbers_still c.args.simplex.now c.others.simplex
    c.others.invariant.rows c.args.graph.now c.requires.numbers

pub is_missed_yet-requires-clause-bound : goal.is_missed_yet-requires-clause-bound
is_missed_yet-requires-clause-bound c =
    subst (λ bound. All (Contains bound) c.args.numbers.now)
    (sym c.others.invariant.rows.keeps.bound) c.requires.bound

pub is_missed_yet-requires-clause-keys : goal.is_missed_yet-requires-clause-keys
is_missed_yet-requires-clause-keys c = keys_still c.args.simplex.now c.others.simplex
    c.others.invariant.rows c.args.graph.now c.args.numbers.now c.others.keys
    c.others.invariant.keys

pub returns-in_err-missed-clause-rows : goal.returns-in_err-missed-clause-rows
returns-in_err-missed-clause-rows c = only_both c.args.simplex.now c.others.simplex
    c.is_missed_yet.new.simplex c.others.invariant.rows c.is_missed_yet.ensures.rows

pub returns-in_err-missed-clause-stop : goal.returns-in_err-missed-clause-stop
returns-in_err-missed-clause-stop c =
    let terms = number_terms (numbers_in c.args.simplex.now) in
    subst (λ r. IfErr r (IsBarred c.is_missed_yet.new.simplex (λ t. ⊥) (IsGapOf terms)))
    (sym (err_is c.from_residual.result c.in_err-missed.field-0.0 c.from_residual.ensures))
    (barred_back c.args.simplex.now c.others.simplex c.others.invariant.rows {V = Unit {0}}
    c.is_missed_yet.new.simplex (Err c.in_err-missed.field-0.0) c.in_err-missed.ensures.stop)

pub returns-then-missed-clause-ends : goal.returns-then-missed-clause-ends
returns-then-missed-clause-ends c =
    let g = c.args.graph.now in
    let v = c.args.simplex.now in
    let numbers = c.args.numbers.now in
    let first = (pair_at numbers c.args.place).0 in
    let second = (pair_at numbers c.others.other).0 in
    subst (λ (p : ℕ × ℕ). AreMissed g v first p.0)
    (get_or_default numbers c.others.other (0, 0) c.index-numbers-other.result (omega arith))
    (pair_back v c.others.simplex c.others.invariant.rows g first second (Ok true)
    (subst (PairEnds g c.others.simplex first second)
    (c.in_ok-missed.was ∙ ap Ok c.if-missed.true) c.is_missed_yet.ensures.ends))

pub returns-then-missed-clause-keys : goal.returns-then-missed-clause-keys
returns-then-missed-clause-keys c = keys_back c.args.simplex.now c.others.simplex
    c.others.invariant.rows c.args.graph.now c.args.numbers.now c.is_missed_yet.new.keys
    c.in_ok-missed.ensures.keys

pub returns-then-missed-clause-rows : goal.returns-then-missed-clause-rows
returns-then-missed-clause-rows c = only_both c.args.simplex.now c.others.simplex
    c.is_missed_yet.new.simplex c.others.invariant.rows c.is_missed_yet.ensures.rows

pub others-preserved : goal.others-preserved
others-preserved c = record {
  rows = only_both c.args.simplex.now c.others.simplex c.is_missed_yet.new.simplex
      c.others.invariant.rows c.is_missed_yet.ensures.rows;
  keys = keys_back c.args.simplex.now c.others.simplex c.others.invariant.rows c.args.graph.now
      c.args.numbers.now c.is_missed_yet.new.keys c.in_ok-missed.ensures.keys;
  parted = behind-step c.args.graph.now c.args.simplex.now c.args.numbers.now c.args.place
      c.others.other
      (pair_back c.args.simplex.now c.others.simplex c.others.invariant.rows c.args.graph.now
      (pair_at c.args.numbers.now c.args.place).0 (pair_at c.args.numbers.now c.others.other).0
      (Ok false)
      (subst (PairEnds c.args.graph.now c.others.simplex
      (pair_at c.args.numbers.now c.args.place).0 (pair_at c.args.numbers.now c.others.other).0)
      (c.in_ok-missed.was ∙ ap Ok c.if-missed.false) c.is_missed_yet.ensures.ends))
      c.others.invariant.parted;
}

pub returns-clause-ends : goal.returns-clause-ends
returns-clause-ends c j behind inside =
    c.others.invariant.parted j behind (omega (arith, c.others-test.false, inside))

pub returns-clause-rows : goal.returns-clause-rows
returns-clause-rows c = c.others.invariant.rows
