use Rattle.std.proofs.Common.{◌≡◌, ◌++◌, map}
use Rattle.std.specs.List.{range_with_len}
use Rattle.esc_term.specs.declared.term.Head.TheVariants.{Skolem}
use Rattle.esc_term.specs.declared.term.Term.TheVariants.{App}
use Rattle.esc_standing.proofs.origins.with_own_terms.Given as goal

abbrev pub invariant-places : goal.invariant-places
invariant-places l =
    l.terms ≡ l.outer ++ map (λ i. App (Skolem l.number i) l.outer) (range_with_len 0 l.i)
