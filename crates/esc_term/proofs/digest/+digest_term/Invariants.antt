use Rattle.std.proofs.Common.{◌≡◌, take}
use Rattle.std.specs.List.{fold}
use Rattle.esc_term.specs.Digest.{term_mixed}
use Rattle.esc_term.proofs.digest.+digest_term.Given as goal

abbrev pub invariant-mix_terms-loop-term : goal.invariant-mix_terms-loop-term
invariant-mix_terms-loop-term l = l.done ≡ fold term_mixed l.fn.start (take l.term-index l.terms)
