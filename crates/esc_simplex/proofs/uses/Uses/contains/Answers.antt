use Rattle.std.proofs.Common.{sym, subst}
use Rattle.std.specs.List.{Contains}
use Rattle.esc_index.specs.Places.{HasNone}
use Rattle.esc_simplex.proofs.Keyed.{keyed_none}
use Rattle.esc_simplex.proofs.uses.Uses.contains.Goals as goal

pub returns-in-None : goal.returns-in-None
returns-in-None c = (
  λ h. absurd (cc),
  λ h. absurd (keyed_none c.self.inside.list c.self.inside.index c.args.u c.self.invariant
      (subst (λ n. HasNone c.self.inside.index c.args.u 0 n) c.len.ensures
      (subst (λ u. HasNone c.self.inside.index u 0 c.len.result) c.number.ensures
      c.in-None.ensures.none))
      (subst (λ us. Contains us c.args.u) (sym c.self.view_is) h)),
)
