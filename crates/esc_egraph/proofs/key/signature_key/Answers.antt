use Rattle.std.proofs.Common.{map, ap, ◌∙◌, ◌%◌, ◌^◌}
use Rattle.std.specs.List.{fold}
use Rattle.std.proofs.lemmas.List.{take_all}
use Rattle.esc_union.specs.Merges.{class_number}
use Rattle.esc_term.specs.Digest.{mixed}
use Rattle.esc_nodes.specs.TopDigest.{top_digest}
use Rattle.esc_egraph.specs.KeysInside.{key_of}
use Rattle.esc_egraph.proofs.key.signature_key.Goals as goal

pub returns : goal.returns
unfolding key_of
returns c =
    ap (λ k. k % 2 ^ 32) (c.words.invariant
    ∙ ap (λ xs. fold mixed (top_digest c.args.top) (map (class_number c.args.classes.now.merges) xs))
    (take_all c.words.arg-index c.args.args.now c.words-test.false))
