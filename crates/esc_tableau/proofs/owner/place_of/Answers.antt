use Rattle.std.proofs.Common.{◌<◌, length, sym, ap, ◌∙◌, arith}
use Rattle.std.proofs.lemmas.List.{get_or_read}
use Rattle.std.proofs.lemmas.List.Sums.{position_or_len_is}
use Rattle.esc_tableau.specs.Table.{holds, nobody}
use Rattle.esc_tableau.proofs.owner.place_of.Goals as goal

pub returns-then-same_as : goal.returns-then-same_as
returns-then-same_as c =
    let inside : c.loop-place.place < length c.args.owners.now = omega arith in
    let read = get_or_read c.args.owners.now c.loop-place.place _ inside c.index-owners-place.is
    nobody in
    sym (position_or_len_is (holds c.args.unknown) c.args.owners.now c.loop-place.place nobody
    (omega arith) c.loop-place.invariant
    (λ _. ap (holds c.args.unknown) (sym read) ∙ sym c.same_as.ensures ∙ c.if-same_as.true))

pub returns : goal.returns
returns c =
    sym (position_or_len_is (holds c.args.unknown) c.args.owners.now (length c.args.owners.now)
    nobody (omega arith) (λ k below. c.loop-place.invariant k (omega arith))
    (λ h. absurd (omega arith)))
