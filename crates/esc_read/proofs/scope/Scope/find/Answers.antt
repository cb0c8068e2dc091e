use Rattle.std.proofs.Common.{◌≡◌, ◌∙◌, [], ap, arith, below_more, get_or, length, sym}
use Rattle.std.specs.Str.{bytes_eq}
use Rattle.esc_read.proofs.Scopes.{at_depth, found, length_kept, not_found}
use Rattle.esc_read.proofs.scope.Scope.find.Goals as goal

pub returns-then-eq : goal.returns-then-eq
returns-then-eq c =
    let kept = c.self.inside.variables.items in
    let len : length kept ≡ length c.args.self.now =
    length_kept (λ name. name.now) kept c.args.self.now c.self.view_is in
    let count : c.len-count.result ≡ length kept = omega arith in
    let here : get_or c.args.self.now c.inside.inside [] ≡ c.index.result.now.now =
    at_depth
    (λ name. name.now) kept c.args.self.now c.self.view_is c.inside.inside c.index.result.now
    (omega arith) (rw count at c.index.ensures) in
    found (bytes_eq c.args.name.now) c.args.self.now c.inside.inside []
    (omega arith) c.inside.invariant
    (ap (bytes_eq c.args.name.now) here ∙ sym c.if-eq.ensures)

pub inside-preserved : goal.inside-preserved
inside-preserved c =
    let kept = c.self.inside.variables.items in
    let count : c.len-count.result ≡ length kept = omega arith in
    let here : get_or c.args.self.now c.inside.inside [] ≡ c.index.result.now.now =
    at_depth
    (λ name. name.now) kept c.args.self.now c.self.view_is c.inside.inside c.index.result.now
    (omega arith) (rw count at c.index.ensures) in
    below_more _ _ c.inside.invariant (ap (bytes_eq c.args.name.now) here ∙ sym c.if-eq.ensures)

pub returns : goal.returns
returns c =
    let kept = c.self.inside.variables.items in
    let len : length kept ≡ length c.args.self.now =
    length_kept (λ name. name.now) kept c.args.self.now c.self.view_is in
    not_found (bytes_eq c.args.name.now) c.args.self.now c.inside.inside []
    (omega arith) c.inside.invariant
