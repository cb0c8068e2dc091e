use Rattle.std.proofs.Common.{◌≡◌, ℕ, ◌^◌, min, take}
use Rattle.std.specs.List.{flat_map, fold, list_all, list_any}
use Rattle.esc_term.specs.Term.{with_once}
use Rattle.esc_trigger.specs.Variables.{calculates, is_clear}
use Rattle.esc_trigger.specs.WalkInside.{candidates_in, mentions}
use Rattle.esc_trigger.proofs.candidates.+add_candidates.Given as goal

abbrev pub invariant-add_all_candidates-loop-term : goal.invariant-add_all_candidates-loop-term
invariant-add_all_candidates-loop-term l = record {
  clear : (d : ℕ) → min d (2 ^ 64) ≡ l.depth
      → l.all.clear ≡ list_all (is_clear d) (take l.term-index l.terms);
  mentions : (d : ℕ) → min d (2 ^ 64) ≡ l.depth
      → l.all.mentions ≡ list_any (mentions l.quant.count d) (take l.term-index l.terms);
  calculates : l.all.calculates ≡ list_any calculates (take l.term-index l.terms);
  found : (d : ℕ) → min d (2 ^ 64) ≡ l.depth
      → l.found ≡ fold with_once l.initial.found
      (flat_map (candidates_in l.quant d) (take l.term-index l.terms));
}
