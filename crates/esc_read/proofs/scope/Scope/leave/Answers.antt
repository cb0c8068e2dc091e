use Rattle.std.proofs.Common.{◌≡◌, arith, length, ap, ◌∙◌, ◌-◌, map}
use Rattle.std.specs.Prelude.{reverse}
use Rattle.esc_read.proofs.Scopes.{left}
use Rattle.esc_read.proofs.scope.Scope.leave.Goals as goal

pub returns : goal.returns
returns c =
    let len : c.len.result ≡ length c.self.inside.variables.items = omega arith in
    ap (λ items. reverse (map (λ name. name.now) items)) c.truncate.ensures.items
    ∙ left
    (λ name. name.now) c.self.inside.variables.items c.args.self.now c.self.view_is _
    c.args.count
    (ap (λ n. n - c.args.count) len) c.requires
