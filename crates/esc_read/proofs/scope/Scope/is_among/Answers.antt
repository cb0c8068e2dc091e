use Rattle.std.proofs.Common.{◌∙◌, sym}
use Rattle.std.specs.Str.{bytes_eq}
use Rattle.esc_read.proofs.Scopes.{any_found, any_not_found}
use Rattle.esc_read.proofs.scope.Scope.is_among.Goals as goal

pub returns-in-Some : goal.returns-in-Some
returns-in-Some c =
    any_found (bytes_eq c.args.name.now) c.args.self.now c.args.count c.in-Some.inside
    (sym c.in-Some.is ∙ c.find.ensures)

pub returns-in-None : goal.returns-in-None
returns-in-None c =
    any_not_found (bytes_eq c.args.name.now) c.args.self.now c.args.count
    (sym c.in-None.is ∙ c.find.ensures)
