use Rattle.std.proofs.Common.{rules}
use Rattle.esc_read.proofs.Declaring.{listed_variables, no_variables, bare_variables}
use Rattle.esc_read.proofs.Declaring.{barred_variables}
use Rattle.esc_read.proofs.reader.TermReader.read_variables.Goals as goal

pub returns-in-List : goal.returns-in-List
returns-in-List c =
    listed_variables c.args.sexp.now c.in-List.field-0 c.in-List.items c.as_slice.result.now
    c.in-List.is c.as_slice.ensures c.read_declared.ensures

pub returns-in-Bare : goal.returns-in-Bare
returns-in-Bare c =
    no_variables _ _ _
    (bare_variables c.args.sexp.now c.in-Bare.field-0 c.in-Bare.field-1 c.in-Bare.is)
    (search rules)

pub returns-in-Barred : goal.returns-in-Barred
returns-in-Barred c =
    no_variables _ _ _
    (barred_variables c.args.sexp.now c.in-Barred.field-0 c.in-Barred.field-1 c.in-Barred.is)
    (search rules)
