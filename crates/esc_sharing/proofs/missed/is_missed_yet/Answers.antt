use Rattle.std.proofs.Common.{true, false, Ok, sym, subst}
use Rattle.std.proofs.Common.{ap, ◌∙◌}
use Rattle.std.specs.List.{All, Contains}
use Rattle.esc_sharing.specs.ArithmeticInside.{PairEnds}
use Rattle.esc_sharing.proofs.MissedPairs.{keys_back, keys_mixed, keys_still, numbers_still, read_by}
use Rattle.esc_sharing.proofs.missed.is_missed_yet.Goals as goal

pub returns-then-key-other_key-clause-ends : goal.returns-then-key-other_key-clause-ends
returns-then-key-other_key-clause-ends c = c.requires.keys.part c.args.place c.args.other
    c.requires.place c.requires.other c.if-key-other_key.true

pub is_missed-requires-clause-first : goal.is_missed-requires-clause-first
is_missed-requires-clause-first c =
    subst (Contains c.args.simplex.now.bound) (sym c.index-numbers-place.is)
    (c.requires.bound c.args.place c.index-numbers-place.result c.requires.place)

pub is_missed-requires-clause-second : goal.is_missed-requires-clause-second
is_missed-requires-clause-second c =
    subst (Contains c.args.simplex.now.bound) (sym c.index-numbers-other.is)
    (c.requires.bound c.args.other c.index-numbers-other.result c.requires.other)

pub returns-then-missed-clause-ends : goal.returns-then-missed-clause-ends
returns-then-missed-clause-ends c = read_by c.args.graph.now c.args.simplex.now c.args.numbers.now
    c.args.place c.args.other c.requires.place c.requires.other c.index-numbers-place.result
    c.index-numbers-other.result c.index-numbers-place.is c.index-numbers-other.is (Ok true)
    (subst (PairEnds c.args.graph.now c.args.simplex.now c.index-numbers-place.result.0
    c.index-numbers-other.result.0) (c.in_ok-missed.was ∙ ap Ok c.if-missed.true)
    c.is_missed.ensures.ends)

pub mix_keys-requires-clause-bound : goal.mix_keys-requires-clause-bound
mix_keys-requires-clause-bound c =
    subst (λ bound. All (Contains bound) c.args.numbers.now)
    (sym c.is_missed.ensures.rows.keeps.bound) c.requires.bound

pub returns-in-Ok-clause-ends : goal.returns-in-Ok-clause-ends
returns-in-Ok-clause-ends c = read_by c.args.graph.now c.args.simplex.now c.args.numbers.now
    c.args.place c.args.other c.requires.place c.requires.other c.index-numbers-place.result
    c.index-numbers-other.result c.index-numbers-place.is c.index-numbers-other.is (Ok false)
    (subst (PairEnds c.args.graph.now c.args.simplex.now c.index-numbers-place.result.0
    c.index-numbers-other.result.0) (c.in_ok-missed.was ∙ ap Ok c.if-missed.false)
    c.is_missed.ensures.ends)

pub returns-in-Ok-clause-keys : goal.returns-in-Ok-clause-keys
returns-in-Ok-clause-keys c =
    let v = c.args.simplex.now in
    let w = c.is_missed.new.simplex in
    let rows = c.is_missed.ensures.rows in
    keys_back v w rows c.args.graph.now c.args.numbers.now c.mix_keys.new.keys
    (keys_mixed c.args.graph.now w rows.simplex
    (numbers_still v w rows c.args.graph.now c.requires.numbers) c.args.numbers.now
    (subst (λ bound. All (Contains bound) c.args.numbers.now) (sym rows.keeps.bound)
    c.requires.bound)
    c.args.keys.now c.mix_keys.new.keys c.mix_keys.ensures.as_many
    (keys_still v w rows c.args.graph.now c.args.numbers.now c.args.keys.now c.requires.keys)
    c.in-Ok.ensures.ok)
