use Rattle.esc_standing.proofs.formulas.place_by.Given as goal

abbrev pub invariant-places : goal.invariant-places
invariant-places l = Unit {0}
