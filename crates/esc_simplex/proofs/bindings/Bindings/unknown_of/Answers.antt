use Rattle.std.proofs.Common.{subst, ap, ◌∙◌}
use Rattle.esc_index.specs.Places.{HasNone}
use Rattle.esc_simplex.specs.View.{bound_to}
use Rattle.esc_simplex.proofs.Finding.{bound_back}
use Rattle.esc_simplex.proofs.bindings.Bindings.unknown_of.Goals as goal

pub returns : goal.returns
returns c =
    let held = c.pairs.invariant in
    bound_back c.self.inside.list c.self.inside.index c.args.a c.pairs.end c.pairs.found
    c.self.invariant held.bound held.none held.some held.key held.unknown
    (subst (λ a. HasNone c.self.inside.index a 0 c.pairs.end) c.index.ensures
    c.in_default.ensures.none)
    ∙ ap (λ bound. bound_to bound c.args.a) c.self.view_is
