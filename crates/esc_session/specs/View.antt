-- What contracts see of a session.
use Rattle.std.specs.Prelude.{Bool, true, false, List, [], ◌∷◌, map, reverse}
use Rattle.std.specs.List.{list_any}
use Rattle.esc_answers.specs.State.{Batch as Assumed, State}
use Rattle.esc_session.specs.declared.batch.Batch.{Batch}
use Rattle.esc_session.specs.declared.batch.Standing.{Standing}
use Rattle.esc_session.specs.declared.batch.Standing.TheVariants.{Asserted, Closed}
use Rattle.esc_session.specs.declared.session.Session.{Session}

-- where a batch begins, and what it is a rule for
abbrev pub assumed_by : Batch → Assumed
assumed_by b = record { first = b.first; predicate = b.predicate }

abbrev pub state_of : Session → State
state_of s = record {
  assumed = s.base.background;
  batches = map assumed_by s.batches;
  goals = s.goals;
}

-- the batches in force, the newest first
abbrev pub newest_first : Session → List Batch
newest_first s = reverse s.batches

abbrev pub is_asserted : Standing → Bool
is_asserted (Asserted level) = true
is_asserted standing = false

abbrev pub is_closed : Standing → Bool
is_closed (Closed level) = true
is_closed standing = false

-- of batches, the newest first: each formula is asserted, and they are not refuted
abbrev pub is_open : List Batch → Bool
is_open [] = true
is_open (b ∷ older) = is_asserted b.standing

-- one of the batches is refuted with those before it
abbrev pub has_closed : List Batch → Bool
has_closed = list_any (λ b. is_closed b.standing)
