use Rattle.std.proofs.Common.{◌≡◌, ℕ, ◌^◌, min, take}
use Rattle.std.specs.List.{flat_map, fold}
use Rattle.esc_term.specs.Term.{with_once}
use Rattle.esc_trigger.specs.WalkInside.{clear_candidates}
use Rattle.esc_trigger.proofs.candidates.+add_clear.Given as goal

abbrev pub invariant-add_all_clear-loop-formula : goal.invariant-add_all_clear-loop-formula
invariant-add_all_clear-loop-formula l =
    (d : ℕ) → min d (2 ^ 64) ≡ l.depth
    → l.found ≡ fold with_once l.initial.found
    (flat_map (λ f. clear_candidates l.quant f d) (take l.formula-index l.formulas))
