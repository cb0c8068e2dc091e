use Rattle.std.proofs.Common.{take}
use Rattle.std.specs.Prelude.{Ok}
use Rattle.esc_io.specs.declared.faults.Failed.{Failed}
use Rattle.esc_print.specs.Formulas.{pattern_text}
use Rattle.esc_print.specs.Printing.{Prints}
use Rattle.esc_print.specs.Terms.{spaced}
use Rattle.esc_print.proofs.printer.Printer.put_spaced_patterns.Given as goal

abbrev pub invariant-patterns : goal.invariant-patterns
invariant-patterns g l =
    Prints {E = Failed} g.K.Sink.written g.K.Sink.faults l.fn.self l.self (Ok (tt {0}))
    (spaced (pattern_text l.fn.self.names.now l.depth) (take l.pattern-index l.patterns))
