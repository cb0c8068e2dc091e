use Rattle.std.proofs.Common.{◌<◌, sym, subst}
use Rattle.esc_tableau.specs.Grid.{table_of}
use Rattle.esc_tableau.specs.Table.{Table, IsWithin, OwnsRow, SameSystem, size, sample}
use Rattle.esc_tableau.proofs.RunLaws.{ends_keeps, ends_peak}
use Rattle.esc_tableau.proofs.tableau.Tableau.maximise.Goals as goal

pub returns-clause-peak : goal.returns-clause-peak
returns-clause-peak c =
    ends_peak (table_of c.self.inside.grid) (table_of c.maximise.new.self) c.args.unknown
    c.args.limit c.maximise.result c.self.invariant
    (subst (λ (t : Table). c.args.unknown < size t) (sym c.self.view_is) c.requires.unknown)
    (subst (λ (t : Table). IsWithin t (sample t)) (sym c.self.view_is) c.requires.within)
    c.maximise.ensures.ends

pub returns-clause-same : goal.returns-clause-same
returns-clause-same c =
    subst (λ (t : Table). SameSystem t (table_of c.maximise.new.self)) c.self.view_is
    (ends_keeps (table_of c.self.inside.grid) (table_of c.maximise.new.self) c.args.unknown
    c.args.limit c.maximise.result c.self.invariant c.maximise.ensures.ends).same

pub returns-clause-within : goal.returns-clause-within
returns-clause-within c =
    (ends_keeps (table_of c.self.inside.grid) (table_of c.maximise.new.self) c.args.unknown
    c.args.limit c.maximise.result c.self.invariant c.maximise.ensures.ends).within
    (subst (λ (t : Table). IsWithin t (sample t)) (sym c.self.view_is) c.requires.within)

pub returns-clause-row : goal.returns-clause-row
returns-clause-row c =
    subst (λ (t : Table). OwnsRow t c.args.unknown
    → OwnsRow (table_of c.maximise.new.self) c.args.unknown) c.self.view_is
    (ends_keeps (table_of c.self.inside.grid) (table_of c.maximise.new.self) c.args.unknown
    c.args.limit c.maximise.result c.self.invariant c.maximise.ensures.ends).row
