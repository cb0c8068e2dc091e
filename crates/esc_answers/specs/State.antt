-- What stands between commands.
use Rattle.std.specs.Prelude.{◌≡◌, ℕ, ◌+◌, List, [], ◌∷◌, ◌++◌, Option, Some, None, length, map, take}
use Rattle.std.specs.List.{All, Contains}
use Rattle.std.specs.Option.{IsSome}
use Rattle.esc_term.specs.declared.formula.Formula.{Formula}
use Rattle.esc_term.specs.declared.term.Sym.{Sym}

-- what is assumed by one command, a push or a rule
pub record Batch : Type 0 where
  -- how many formulas were in force before it
  pub first : ℕ
  -- of a rule, the name and the number of arguments of its predicate; a push has none
  pub predicate : Option (Sym × ℕ)

pub record State : Type 0 where
  -- the formulas in force, the oldest first
  pub assumed : List Formula
  -- what they were assumed by
  pub batches : List Batch
  -- how many goals were counted
  pub goals : ℕ

-- nothing is assumed, and no goal was asked
abbrev pub first_state : State
first_state = record { assumed = []; batches = []; goals = 0 }

-- one more goal was asked
abbrev pub with_goal : State → State
with_goal s = record s { goals = s.goals + 1 }

-- one more batch came
abbrev pub with_batch : State → Option (Sym × ℕ) → List Formula → State
with_batch s predicate fs = record {
  assumed = s.assumed ++ fs;
  batches = s.batches ++ record { first = length s.assumed; predicate = predicate } ∷ [];
  goals = s.goals;
}

-- a rule for this name and number of arguments is in force
abbrev pub IsDefined : State → Sym × ℕ → Type 0
IsDefined s predicate = Contains (map (λ b. b.predicate) s.batches) (Some predicate)

abbrev pub AreRules : List Batch → Type 0
AreRules = All (λ b. IsSome b.predicate)

-- the newest push went, with the rules behind it
pub record IsPopped (s t : State) : Type 0 where
  pub push : Batch
  pub rules : List Batch
  pub batches : s.batches ≡ t.batches ++ push ∷ rules
  pub is_push : push.predicate ≡ None
  pub are_rules : AreRules rules
  pub assumed : t.assumed ≡ take push.first s.assumed
  pub goals : t.goals ≡ s.goals
