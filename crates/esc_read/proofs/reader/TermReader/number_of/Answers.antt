use Rattle.std.proofs.Common.{subst}
use Rattle.esc_read.specs.Reading.{ReadsIn, name_number}
use Rattle.esc_read.proofs.Readings.{ReadsIn-names}
use Rattle.esc_read.proofs.reader.TermReader.number_of.Goals as goal

pub returns : goal.returns
returns c =
    subst
    (λ t. ReadsIn t
    (record { names = c.number_of.new.names; scope = c.self.inside.scope })
    c.number_of.result (name_number c.args.text.now))
    c.self.view_is (ReadsIn-names c.self.inside.scope (c.number_of.ensures c.self.inside.scope))
