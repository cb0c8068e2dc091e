use Rattle.std.proofs.Common.{◌≡◌, map, take}
use Rattle.esc_simplex.specs.Senses.{term_at}
use Rattle.esc_outcome.proofs.keeping.meanings.Given as goal

-- the unknowns and terms of the nodes that were gone over
abbrev pub invariant-bound : goal.invariant-bound
invariant-bound l = l.meanings ≡ map (λ pair. record {
  unknown = pair.1;
  term = term_at l.theory.made pair.1;
}) (take l.bound-index l.bound-items)
