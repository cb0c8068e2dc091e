use Rattle.std.proofs.Common.{rules}
use Rattle.esc_read.proofs.Readings.{refused}
use Rattle.esc_form.proofs.CommandLemmas.{bare_name, barred_name, listed_name}
use Rattle.esc_form.proofs.reader.FormReader.read_named.Goals as goal

pub returns-in-List : goal.returns-in-List
returns-in-List c =
    rw (listed_name c.args.sexp.now _ c.in-List.items c.as_slice.result.now c.in-List.is
    c.as_slice.ensures)
    (rw c.place_of-place.ensures at c.read_named_list.ensures)

pub returns-in-Bare : goal.returns-in-Bare
returns-in-Bare c = rw (bare_name c.args.sexp.now _ _ c.in-Bare.is) (refused (search rules))

pub returns-in-Barred : goal.returns-in-Barred
returns-in-Barred c = rw (barred_name c.args.sexp.now _ _ c.in-Barred.is) (refused (search rules))
