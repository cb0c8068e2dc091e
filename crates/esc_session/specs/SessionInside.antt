-- How a session goes on inside a command.
use Rattle.std.specs.Prelude.{◌≡◌, ◌==◌, ◌&&◌, ℕ, Bool, false, Option, Some, None}
use Rattle.esc_term.specs.declared.term.Sym.{Sym}
use Rattle.esc_session.specs.declared.session.Session.{Session}

-- what calls on batches leave
pub record LeavesRest (s t : Session) : Type 0 where
  pub alloc : t.alloc ≡ s.alloc
  pub goals : t.goals ≡ s.goals
  pub limits : t.limits ≡ s.limits
  pub tally : t.search.tally ≡ s.search.tally

-- of a rule for this name and number of arguments
abbrev pub is_for : Sym → ℕ → Option (Sym × ℕ) → Bool
is_for name count (Some (of, len)) = (of.0 == name.0) && (len == count)
is_for name count None = false
