-- The substitutions of ways.
use Rattle.std.specs.Prelude.{ℕ, zero, suc, Bool, if◌then◌else◌, List, [], ◌∷◌, Option, Some, None}
use Rattle.std.specs.List.{fold, list_any}
use Rattle.indexmap.specs.IndexSet.{insert_key}
use Rattle.esc_match.specs.declared.substitution.Substitution.{Substitution}
use Rattle.esc_match.specs.declared.way.Binding.{Binding}
use Rattle.esc_match.specs.declared.way.Way.{Way}
use Rattle.esc_match.specs.Equal.{same_substitution}
use Rattle.esc_match.specs.WaysInside.{class_bound}

-- the number if there is one, and else 0
abbrev pub or_zero : Option ℕ → ℕ
or_zero None = 0
or_zero (Some c) = c

-- the numbers of the classes of so many variables, that of the last one first
unfoldable pub nodes_for : ℕ → List Binding → List ℕ
nodes_for zero bound = []
nodes_for (suc k) bound = or_zero (class_bound bound k) ∷ nodes_for k bound

abbrev pub substitution_of : ℕ → Way → Substitution
substitution_of count w = record { nodes = nodes_for count w.bound }

-- the substitutions with that of a way at their end, if the way has a wanted node and its
-- substitution is new
unfoldable pub with_way : ℕ → (ℕ → Bool) → List Substitution → Way → List Substitution
with_way count wants seen w =
    if list_any wants w.matched
    then insert_key same_substitution seen (substitution_of count w) else seen

-- the substitutions of those ways that have a wanted node, each at its first place
abbrev pub first_substitutions : ℕ → (ℕ → Bool) → List Way → List Substitution
first_substitutions count wants ways = fold (with_way count wants) [] ways
