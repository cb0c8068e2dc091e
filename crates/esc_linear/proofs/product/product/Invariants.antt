use Rattle.std.proofs.Common.{◌≡◌, drop}
use Rattle.esc_linear.specs.Forms.{varying}
use Rattle.esc_linear.proofs.product.product.Given as goal

-- the forms so far are constants
abbrev pub invariant-forms : goal.invariant-forms
invariant-forms l = varying l.forms ≡ varying (drop l.form-index l.forms)
