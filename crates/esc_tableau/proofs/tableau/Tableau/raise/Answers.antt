use Rattle.std.proofs.Common.{◌≡◌, Some, sym, subst}
use Rattle.esc_tableau.specs.Grid.{table_of}
use Rattle.esc_tableau.specs.Rule.{next}
use Rattle.esc_tableau.specs.Table.{Table, IsWithin, OwnsRow, sample}
use Rattle.esc_tableau.specs.declared.answers.Peak.TheVariants.{Positive}
use Rattle.esc_tableau.specs.declared.rule.Next.TheVariants.{Stops}
use Rattle.esc_tableau.proofs.OwnerLaws.{ray_pivot, raised}
use Rattle.esc_tableau.proofs.tableau.Tableau.raise.Goals as goal

pub exchange-requires-clause-column : goal.exchange-requires-clause-column
exchange-requires-clause-column c =
    let ray = ray_pivot (table_of c.self.inside.grid) c.self.invariant c.args.unknown c.args.ray
    (subst (λ (t : Table). OwnsRow t c.args.unknown) (sym c.self.view_is) c.requires.row)
    (subst (λ (t : Table). next t c.args.unknown ≡ Stops (Positive (Some c.args.ray)))
    (sym c.self.view_is) c.requires.ray) in
    ray.column

pub exchange-requires-clause-nonzero : goal.exchange-requires-clause-nonzero
exchange-requires-clause-nonzero c =
    let ray = ray_pivot (table_of c.self.inside.grid) c.self.invariant c.args.unknown c.args.ray
    (subst (λ (t : Table). OwnsRow t c.args.unknown) (sym c.self.view_is) c.requires.row)
    (subst (λ (t : Table). next t c.args.unknown ≡ Stops (Positive (Some c.args.ray)))
    (sym c.self.view_is) c.requires.ray) in
    ray.some

pub returns-clause-zero : goal.returns-clause-zero
returns-clause-zero c =
    let ray = ray_pivot (table_of c.self.inside.grid) c.self.invariant c.args.unknown c.args.ray
    (subst (λ (t : Table). OwnsRow t c.args.unknown) (sym c.self.view_is) c.requires.row)
    (subst (λ (t : Table). next t c.args.unknown ≡ Stops (Positive (Some c.args.ray)))
    (sym c.self.view_is) c.requires.ray) in
    (raised (table_of c.self.inside.grid) (table_of c.exchange.new.self) c.args.unknown c.args.ray
    c.exchange.result ray
    (subst (λ (t : Table). IsWithin t (sample t)) (sym c.self.view_is) c.requires.within)
    c.exchange.ensures.ok c.exchange.ensures.err).1

pub returns-clause-within : goal.returns-clause-within
returns-clause-within c =
    let ray = ray_pivot (table_of c.self.inside.grid) c.self.invariant c.args.unknown c.args.ray
    (subst (λ (t : Table). OwnsRow t c.args.unknown) (sym c.self.view_is) c.requires.row)
    (subst (λ (t : Table). next t c.args.unknown ≡ Stops (Positive (Some c.args.ray)))
    (sym c.self.view_is) c.requires.ray) in
    (raised (table_of c.self.inside.grid) (table_of c.exchange.new.self) c.args.unknown c.args.ray
    c.exchange.result ray
    (subst (λ (t : Table). IsWithin t (sample t)) (sym c.self.view_is) c.requires.within)
    c.exchange.ensures.ok c.exchange.ensures.err).0
