use Rattle.std.proofs.Common.{◌≡◌, ℕ, ◌<◌, length, List, sym, subst, ap₂, ◌∙◌, arith}
use Rattle.std.specs.List.{All}
use Rattle.std.proofs.lemmas.List.{get_or_default}
use Rattle.esc_simplex.specs.Keys.{key}
use Rattle.esc_sharing.specs.ArithmeticInside.{key_at, pair_at}
use Rattle.esc_sharing.proofs.MissedPairs.{AreMixedTo, mixed-done, mixed-starts, mixed-step}
use Rattle.esc_sharing.proofs.missed.mix_keys.Goals as goal

pub keys-init : goal.keys-init
keys-init c = mixed-starts c.args.simplex.now c.args.numbers.now c.in_ok-columns.columns.items
    c.args.keys.now c.requires.as_many

pub key-requires : goal.key-requires
key-requires c = subst (All (λ (k : ℕ). k < length c.args.simplex.now.tableau.columns))
    (sym c.deref.ensures.value) (λ k d inside. (c.in_ok-columns.ensures k d inside).0)

pub keys-preserved : goal.keys-preserved
keys-preserved c =
    let inside : c.keys.place < length c.keys.keys = omega arith in
    let within : c.keys.place < length c.args.numbers.now = omega
    (arith, c.keys.invariant.as_many) in
    let number : c.index-numbers-place.result ≡ pair_at c.args.numbers.now c.keys.place =
    c.index-numbers-place.is ∙ get_or_default c.args.numbers.now c.keys.place
    c.index-numbers-place.result (0, 0) within in
    mixed-step c.args.simplex.now c.args.numbers.now c.in_ok-columns.columns.items
    c.args.keys.now c.keys.place c.keys.keys c.key.result inside
    (c.key.ensures ∙ ap₂ (λ (cs : List ℕ) (p : ℕ × ℕ). key c.args.simplex.now.tableau cs
    (key_at c.keys.keys c.keys.place) p.1) c.deref.ensures.value number)
    c.keys.invariant

pub returns-clause-ok : goal.returns-clause-ok
returns-clause-ok c = mixed-done c.args.simplex.now c.args.numbers.now
    c.in_ok-columns.columns.items c.args.keys.now c.requires.sound c.requires.bound
    c.in_ok-columns.ensures c.keys.keys
    (subst (λ n. AreMixedTo c.args.simplex.now c.args.numbers.now c.in_ok-columns.columns.items
    c.args.keys.now n c.keys.keys) (omega arith) c.keys.invariant)
