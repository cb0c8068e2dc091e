use Rattle.std.proofs.Common.{◌∙◌, ap, subst, sym}
use Rattle.esc_print.specs.Printing.{Prints}
use Rattle.esc_print.specs.Terms.{term_text}
use Rattle.esc_print.proofs.NoteLemmas.{pattern_many, pattern_one}
use Rattle.esc_print.proofs.printer.Printer.put_pattern.Goals as goal

pub returns-then-terms-eq1 : goal.returns-then-terms-eq1
returns-then-terms-eq1 g c =
    let names = c.args.self.now.names.now in
    let depth = c.args.depth in
    subst (λ text. Prints g.K.Sink.written g.K.Sink.faults c.args.self.now c.put_term_at.new.self
    c.put_term_at.result text)
    (ap (term_text names depth) c.index-terms-0.is
    ∙ sym (pattern_one names depth c.args.terms.now c.index-terms-0.result c.if-terms-eq1.true))
    c.put_term_at.ensures

pub returns-else-terms-eq1 : goal.returns-else-terms-eq1
returns-else-terms-eq1 g c =
    subst (λ text. Prints g.K.Sink.written g.K.Sink.faults c.args.self.now c.put_terms.new.self
    c.put_terms.result text)
    (sym (pattern_many c.args.self.now.names.now c.args.depth c.args.terms.now
    c.if-terms-eq1.false))
    c.put_terms.ensures
