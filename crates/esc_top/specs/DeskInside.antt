-- How a desk stands between expressions.
use Rattle.std.specs.Prelude.{◌≡◌, true}
use Rattle.esc_names.specs.Numbering.{first_names}
use Rattle.esc_options.specs.declared.options.Options.{Options}
use Rattle.esc_answers.specs.State.{first_state}
use Rattle.esc_session.specs.Between.{IsBetween}
use Rattle.esc_top.specs.Underway.{state_of}
use Rattle.esc_top.specs.declared.desk.Desk.{Desk}

-- its session waits for a command, and searches within the limits of the options
pub record IsInOrder (desk : Desk) : Type 0 where
  pub between : IsBetween desk.session
  pub limits : desk.session.limits ≡ desk.options.limits

-- with these options, and nothing was answered at it yet
pub record IsNew (options : Options) (desk : Desk) : Type 0 where
  pub options_are : desk.options ≡ options
  pub names : desk.names ≡ first_names
  pub state : state_of desk ≡ first_state
  pub clean : desk.all_proved ≡ true
  pub order : IsInOrder desk
