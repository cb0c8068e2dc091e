-- How groups take records back.
use Rattle.std.specs.Prelude.{ℕ, ◌≡◌, ◌-◌, ◌<◌, List, length, take}
use Rattle.esc_distinct.specs.declared.record.GroupRec.{GroupRec}
use Rattle.esc_distinct.specs.declared.record.GroupRec.TheVariants.{Added}
use Rattle.esc_trail.specs.Undo.{Undo}

-- the groups without the last
abbrev pub groups_back : List (List ℕ) → GroupRec → List (List ℕ)
groups_back groups Added = take (length groups - 1) groups

-- there is a last group
abbrev pub CanDrop : List (List ℕ) → GroupRec → Type 0
CanDrop groups Added = 0 < length groups

abbrev pub groups_undo : Undo (List (List ℕ)) GroupRec
groups_undo = record { back = groups_back; can = CanDrop; same = λ a b. a ≡ b }
