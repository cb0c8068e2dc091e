use Rattle.std.proofs.Common.{◌≡◌, ◌+◌, ◌≤◌, drop, length}
use Rattle.esc_linear.specs.Forms.{varying}
use Rattle.esc_linear.proofs.product.count_varying.Given as goal

-- those counted and those that are left
abbrev pub invariant-forms : goal.invariant-forms
invariant-forms l = (l.count + length (varying (drop l.form-index l.forms))
    ≡ length (varying l.forms)) × (l.count ≤ l.form-index)
