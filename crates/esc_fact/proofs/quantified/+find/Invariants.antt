use Rattle.std.proofs.Common.{◌≡◌, ◌+◌, ℕ, length, take}
use Rattle.esc_fact.specs.WalkInside.{wholes_in}
use Rattle.esc_fact.proofs.quantified.+find.Given as goal

abbrev pub invariant-find_in-formulas : goal.invariant-find_in-formulas
invariant-find_in-formulas l =
    (d : ℕ) → length (wholes_in d (take l.formula-index l.formulas)) + l.place ≡ l.initial.place
