-- How far a run has come.
use Rattle.std.specs.Prelude.{ℕ, Bool, IsTrue, List, Option}
use Rattle.std.specs.Io.KnownBytes.{IsAtEnd}
use Rattle.esc_io.specs.Taking.{Takes}
use Rattle.esc_names.specs.Numbering.{first_names}
use Rattle.esc_names.specs.Rows.{HasDistinctRows}
use Rattle.esc_answers.specs.State.{State, first_state}
use Rattle.esc_options.specs.declared.options.Limits.{Limits}
use Rattle.esc_sexp.specs.declared.sexp.Sexp.{Sexp}
use Rattle.esc_top.specs.Told.{AnswersAll, Told}

-- Of the bytes that are left some were taken, and so many expressions are answered in order, within
-- limits of each search. How the expressions stand in the bytes is said beside it.
pub record Progress (limits : Limits) (left rest : Option (List ℕ)) : Type 0 where
  pub taken : List ℕ
  -- the source has said that these are all
  pub ended : Bool
  pub expressions : List Sexp
  pub told : List Told
  pub names : List (List ℕ)
  pub state : State
  pub consumed : Takes left rest taken
  pub at_end : IsTrue ended → IsAtEnd rest
  -- no name has two numbers
  pub distinct : HasDistinctRows names
  pub answers : AnswersAll limits first_names first_state expressions told names state
