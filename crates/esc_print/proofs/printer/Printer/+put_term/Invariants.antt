use Rattle.std.proofs.Common.{take}
use Rattle.std.specs.Prelude.{Ok}
use Rattle.esc_io.specs.declared.faults.Failed.{Failed}
use Rattle.esc_print.specs.Printing.{Prints}
use Rattle.esc_print.specs.Terms.{spaced, term_text}
use Rattle.esc_print.proofs.printer.Printer.+put_term.Given as goal

abbrev pub invariant-put_spaced_terms-terms : goal.invariant-put_spaced_terms-terms
invariant-put_spaced_terms-terms g l =
    Prints {E = Failed} g.K.Sink.written g.K.Sink.faults l.fn.self l.self (Ok (tt {0}))
    (spaced (term_text l.fn.self.names.now l.depth) (take l.term-index l.terms))
