use Rattle.std.proofs.Common.{◌≡◌, ◌++◌}
use Rattle.esc_term.proofs.term_set.TermSet.into_terms.Given as goal

abbrev pub invariant-loop-term : goal.invariant-loop-term
invariant-loop-term l =
    goal.iterator-loop-term.can_next l.term-iterator
    × goal.iterator-loop-term.is_finite l.term-iterator
    × (l.terms ++ l.term-iterator ≡ l.fn.self)
