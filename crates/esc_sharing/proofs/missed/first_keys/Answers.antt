use Rattle.std.proofs.Common.{◌≡◌, length, replicate, sym, subst, ap, ◌∙◌, arith}
use Rattle.std.proofs.lemmas.List.{length-replicate}
use Rattle.esc_sharing.specs.ArithmeticInside.{AreKeys}
use Rattle.esc_sharing.proofs.MissedPairs.{keys-starts, keys_mixed, written_back}
use Rattle.esc_sharing.proofs.missed.first_keys.Goals as goal

pub mix_keys-requires-clause-as_many : goal.mix_keys-requires-clause-as_many
mix_keys-requires-clause-as_many c =
    ap length (c.deref_mut.ensures.value ∙ c.in_ok-keys.ensures.items_if_clones_equal (λ y h. h))
    ∙ length-replicate (length c.args.numbers.now) 0

pub returns : goal.returns
returns c g are =
    let zeros : c.in_ok-keys.keys.items ≡ replicate (length c.args.numbers.now) 0 =
    c.in_ok-keys.ensures.items_if_clones_equal (λ y h. h) in
    let long = ap length zeros ∙ length-replicate (length c.args.numbers.now) 0 in
    let same : length c.mix_keys.new.keys ≡ length c.in_ok-keys.keys.items =
    c.mix_keys.ensures.as_many ∙ sym long in
    subst (AreKeys g c.args.simplex.now c.args.numbers.now)
    (sym (written_back c.in_ok-keys.keys.items c.mix_keys.new.keys c.in_ok-keys.keys.len same
    (omega arith)))
    (keys_mixed g c.args.simplex.now c.requires.sound are c.args.numbers.now c.requires.bound
    c.deref_mut.result.now c.mix_keys.new.keys c.mix_keys.ensures.as_many
    (keys-starts g c.args.simplex.now c.args.numbers.now c.deref_mut.result.now
    (c.deref_mut.ensures.value ∙ zeros)) c.in_ok-mix_keys.ensures.ok)
