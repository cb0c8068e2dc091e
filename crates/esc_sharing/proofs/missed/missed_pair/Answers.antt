use Rattle.std.proofs.Common.{ℕ, Some, None, Ok, Err, IfErr, refl, sym, ap}
use Rattle.std.proofs.Common.{◌∙◌, subst, arith}
use Rattle.std.specs.List.{All, Contains}
use Rattle.std.proofs.lemmas.List.{get_or_default}
use Rattle.esc_tableau.proofs.RunLaws.{err_is}
use Rattle.esc_simplex.specs.Barred.{IsBarred}
use Rattle.esc_simplex.specs.View.{numbers_in}
use Rattle.esc_sharing.specs.ArithmeticInside.{AreKeys, AreMissed, RestEnds, pair_at}
use Rattle.esc_sharing.specs.Numbers.{IsGapOf, number_terms}
use Rattle.esc_sharing.proofs.MissedPairs.{ArePartedTo, barred_back, keys_back, keys_still}
use Rattle.esc_sharing.proofs.MissedPairs.{numbers_still, only_both, only_itself, parted-done}
use Rattle.esc_sharing.proofs.MissedPairs.{parted-starts, parted-step, rest_back, written_back}
use Rattle.esc_sharing.proofs.missed.missed_pair.Goals as goal

pub numbers-init : goal.numbers-init
numbers-init c = record {
  rows = only_itself c.args.simplex.now c.requires.sound;
  keys = c.in-Ok.ensures c.args.graph.now c.requires.numbers;
  parted = parted-starts c.args.graph.now c.args.simplex.now c.args.numbers.now;
}

pub missed_with-requires-clause-sound : goal.missed_with-requires-clause-sound
missed_with-requires-clause-sound c = c.numbers.invariant.rows.simplex

pub missed_with-requires-clause-numbers : goal.missed_with-requires-clause-numbers
missed_with-requires-clause-numbers c = numbers_still c.args.simplex.now c.numbers.simplex
    c.numbers.invariant.rows c.args.graph.now c.requires.numbers

pub missed_with-requires-clause-bound : goal.missed_with-requires-clause-bound
missed_with-requires-clause-bound c =
    subst (λ bound. All (Contains bound) c.args.numbers.now)
    (sym c.numbers.invariant.rows.keeps.bound) c.requires.bound

pub missed_with-requires-clause-keys : goal.missed_with-requires-clause-keys
missed_with-requires-clause-keys c =
    subst (AreKeys c.args.graph.now c.numbers.simplex c.args.numbers.now)
    (sym c.deref_mut.ensures.value)
    (keys_still c.args.simplex.now c.numbers.simplex c.numbers.invariant.rows c.args.graph.now
    c.args.numbers.now c.numbers.keys.items c.numbers.invariant.keys)

pub returns-in_err-found-clause-rows : goal.returns-in_err-found-clause-rows
returns-in_err-found-clause-rows c = only_both c.args.simplex.now c.numbers.simplex
    c.missed_with.new.simplex c.numbers.invariant.rows c.missed_with.ensures.rows

pub returns-in_err-found-clause-stop : goal.returns-in_err-found-clause-stop
returns-in_err-found-clause-stop c =
    let terms = number_terms (numbers_in c.args.simplex.now) in
    subst (λ r. IfErr r (IsBarred c.missed_with.new.simplex (λ t. ⊥) (IsGapOf terms)))
    (sym (err_is c.from_residual.result c.in_err-found.field-0.0 c.from_residual.ensures))
    (barred_back c.args.simplex.now c.numbers.simplex c.numbers.invariant.rows {V = Unit {0}}
    c.missed_with.new.simplex (Err c.in_err-found.field-0.0) c.in_err-found.ensures.stop)

pub returns-in-Some-clause-ends : goal.returns-in-Some-clause-ends
returns-in-Some-clause-ends c =
    let g = c.args.graph.now in
    let v = c.args.simplex.now in
    let numbers = c.args.numbers.now in
    subst (λ (p : ℕ × ℕ). AreMissed g v p.0 c.in-Some.other)
    (get_or_default numbers c.numbers.place (0, 0) c.index-numbers-place.result (omega arith))
    (rest_back v c.numbers.simplex c.numbers.invariant.rows g
    (pair_at numbers c.numbers.place).0 numbers c.numbers.place (Ok (Some c.in-Some.other)) refl
    (subst (RestEnds g c.numbers.simplex numbers c.numbers.place)
    (c.in_ok-found.was ∙ ap Ok c.in-Some.is) c.missed_with.ensures.ends))

pub returns-in-Some-clause-rows : goal.returns-in-Some-clause-rows
returns-in-Some-clause-rows c = only_both c.args.simplex.now c.numbers.simplex
    c.missed_with.new.simplex c.numbers.invariant.rows c.missed_with.ensures.rows

pub numbers-preserved : goal.numbers-preserved
numbers-preserved c =
    let g = c.args.graph.now in
    let v = c.args.simplex.now in
    let numbers = c.args.numbers.now in
    let ends = rest_back v c.numbers.simplex c.numbers.invariant.rows g
    (pair_at numbers c.numbers.place).0 numbers c.numbers.place (Ok None) refl
    (subst (RestEnds g c.numbers.simplex numbers c.numbers.place)
    (c.in_ok-found.was ∙ ap Ok c.in-None.is) c.missed_with.ensures.ends) in
    let keys = c.in_ok-found.ensures.keys in
    record {
      rows = only_both v c.numbers.simplex c.missed_with.new.simplex c.numbers.invariant.rows
          c.missed_with.ensures.rows;
      keys = subst (AreKeys g v numbers)
          (sym (written_back c.numbers.keys.items c.missed_with.new.keys c.numbers.keys.len
          (keys.as_many ∙ sym c.numbers.invariant.keys.as_many) (omega arith)))
          (keys_back v c.numbers.simplex c.numbers.invariant.rows g numbers
          c.missed_with.new.keys keys);
      parted = parted-step g v numbers c.numbers.place ends c.numbers.invariant.parted;
    }

pub returns-clause-ends : goal.returns-clause-ends
returns-clause-ends c = parted-done c.args.graph.now c.args.simplex.now c.args.numbers.now
    (subst (ArePartedTo c.args.graph.now c.args.simplex.now c.args.numbers.now) (omega arith)
    c.numbers.invariant.parted)

pub returns-clause-rows : goal.returns-clause-rows
returns-clause-rows c = c.numbers.invariant.rows
