-- Where a term stands among the parts of a form.
use Rattle.std.specs.Prelude.{◌≡◌, ◌≢◌, ℕ, ◌<◌, List, take, length, get_or}
use Rattle.std.specs.List.{All}
use Rattle.esc_term.specs.declared.term.Term.{Term}
use Rattle.esc_linear.specs.declared.form.Part.{Part}

abbrev pub IsNowhere : List Part → Term → Type 0
IsNowhere ps t = All (λ (p : Part). p.term ≢ t) ps

pub record IsPlaceOf (ps : List Part) (t : Term) (i : ℕ) : Type 0 where
  pub within : i < length ps
  pub same : (other : Part) → (get_or ps i other).term ≡ t
  pub first : IsNowhere (take i ps) t
