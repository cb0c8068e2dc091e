use Rattle.esc_simplex.proofs.Addends.{not_opaque, opaque_by_first}
use Rattle.esc_simplex.proofs.adding.is_opaque.Goals as goal

pub returns-in-Some : goal.returns-in-Some
returns-in-Some c =
    let by_first = opaque_by_first c.args.form.now c.args.term.now c.in-Some.part.now c.requires
    c.in-Some.ensures.value in (
      λ e. by_first.1 (c.is_same.ensures.0 e),
      λ opaque. c.is_same.ensures.1 (by_first.0 opaque),
    )

pub returns-in-None : goal.returns-in-None
returns-in-None c = (
  λ h. absurd (cc),
  λ opaque. absurd (not_opaque c.args.form.now c.args.term.now c.requires c.in-None.ensures.value
      opaque),
)
