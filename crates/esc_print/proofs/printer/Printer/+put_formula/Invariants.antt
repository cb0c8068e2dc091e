use Rattle.std.proofs.Common.{false, take}
use Rattle.std.specs.Prelude.{Ok}
use Rattle.esc_io.specs.declared.faults.Failed.{Failed}
use Rattle.esc_print.specs.Formulas.{text_of}
use Rattle.esc_print.specs.Printing.{Prints}
use Rattle.esc_print.specs.Terms.{spaced}
use Rattle.esc_print.proofs.printer.Printer.+put_formula.Given as goal

abbrev pub invariant-put_spaced-parts : goal.invariant-put_spaced-parts
invariant-put_spaced-parts g l =
    Prints {E = Failed} g.K.Sink.written g.K.Sink.faults l.fn.self l.self (Ok (tt {0}))
    (spaced (λ part. text_of l.fn.self.names.now part l.depth false) (take l.part-index l.parts))
