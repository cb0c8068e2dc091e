use Rattle.std.proofs.Common.{◌≡◌, map, take}
use Rattle.std.specs.List.{fold}
use Rattle.esc_union.specs.Merges.{class_number}
use Rattle.esc_term.specs.Digest.{mixed}
use Rattle.esc_nodes.specs.TopDigest.{top_digest}
use Rattle.esc_egraph.proofs.key.signature_key.Given as goal

abbrev pub invariant-words : goal.invariant-words
invariant-words l = l.key ≡ fold mixed (top_digest l.fn.top)
    (map (class_number l.classes.merges) (take l.arg-index l.args))
