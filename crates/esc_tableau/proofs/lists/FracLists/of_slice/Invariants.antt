use Rattle.std.proofs.Common.{◌≡◌, map, take}
use Rattle.esc_tableau.proofs.lists.FracLists.of_slice.Given as goal

-- the lists so far are copied
abbrev pub invariant-loop-list : goal.invariant-loop-list
invariant-loop-list l = l.copy ≡ map (λ es. es.items) (take l.list-index l.lists)
