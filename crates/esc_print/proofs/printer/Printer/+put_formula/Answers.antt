use Rattle.std.proofs.Common.{ℕ, List, ◌++◌, codes, false, subst, sym}
use Rattle.std.specs.Prelude.{Ok, Err}
use Rattle.esc_io.specs.declared.faults.Failed.{Failed}
use Rattle.esc_term.specs.declared.formula.Formula.{Formula}
use Rattle.esc_print.specs.Formulas.{inside_text, note_text, pattern_text, quant_text, text_of}
use Rattle.esc_print.specs.Names.{name_text}
use Rattle.esc_print.specs.Printing.{Prints}
use Rattle.esc_print.specs.Terms.{blank, closing, deeper, spaced, term_text}
use Rattle.esc_print.proofs.FormulaLevels.{denied-other, quant_text-at, text_of-Iff}
use Rattle.esc_print.proofs.FormulaLevels.{text_of-Implies}
use Rattle.esc_print.proofs.PrintingLemmas.{Prints-both, Prints-both-fails, Prints-fails}
use Rattle.esc_print.proofs.PrintingLemmas.{Prints-listed, Prints-listed-fails, Prints-named}
use Rattle.esc_print.proofs.PrintingLemmas.{Prints-then}
use Rattle.esc_print.proofs.SpacedLemmas.{spaced_done, spaced_failed, spaced_start, spaced_step}
use Rattle.esc_print.proofs.printer.Printer.+put_formula.Goals as goal

pub put_spaced-parts-init : goal.put_spaced-parts-init
put_spaced-parts-init g t c =
    let text : List (List ℕ) → Formula → List ℕ =
    λ names part. text_of names part c.args.depth false in
    spaced_start text c.args.parts.now c.args.self.now

pub put_spaced-returns-in_err-put_next : goal.put_spaced-returns-in_err-put_next
put_spaced-returns-in_err-put_next g t c =
    let text : List (List ℕ) → Formula → List ℕ =
    λ names part. text_of names part c.args.depth false in
    spaced_failed text c.args.parts.now c.parts.part-index c.part-item.result
    c.parts-test.true (sym c.part-item.is) c.parts.invariant c.from_residual.ensures.0
    c.in_err-put_next.ensures

pub put_spaced-parts-preserved : goal.put_spaced-parts-preserved
put_spaced-parts-preserved g t c =
    let text : List (List ℕ) → Formula → List ℕ =
    λ names part. text_of names part c.args.depth false in
    spaced_step text c.args.parts.now c.parts.part-index c.part-item.result
    c.parts-test.true (sym c.part-item.is) c.parts.invariant c.in_ok-put_next.ensures

pub put_spaced-returns : goal.put_spaced-returns
put_spaced-returns g t c =
    let text : List (List ℕ) → Formula → List ℕ =
    λ names part. text_of names part c.args.depth false in
    spaced_done text c.args.parts.now c.parts.part-index c.parts-test.false c.parts.invariant

pub put_parts-returns : goal.put_parts-returns
put_parts-returns g t c =
    Prints-listed (λ names. spaced (λ part. text_of names part c.args.depth false) c.args.parts.now)
    c.in_ok-put_text.ensures
    c.in_ok-put_spaced.ensures c.put_closing.ensures

pub put_parts-returns-in_err-put_spaced : goal.put_parts-returns-in_err-put_spaced
put_parts-returns-in_err-put_spaced g t c =
    Prints-listed-fails (λ names. spaced (λ part. text_of names part c.args.depth false)
    c.args.parts.now)
    c.from_residual-in_err-put_spaced.ensures.0 c.in_ok-put_text.ensures c.in_err-put_spaced.ensures

pub put_labelled-returns : goal.put_labelled-returns
put_labelled-returns g t c =
    Prints-both (λ names. name_text names c.args.name)
    (λ names. text_of names c.args.formula.now c.args.depth false)
    c.in_ok-put_text.ensures c.in_ok-put_next_name.ensures c.put_last.ensures

pub put_labelled-returns-in_err-put_next_name : goal.put_labelled-returns-in_err-put_next_name
put_labelled-returns-in_err-put_next_name g t c =
    let right = text_of c.args.self.now.names.now c.args.formula.now c.args.depth false in
    Prints-both-fails (λ names. name_text names c.args.name) right
    c.from_residual-in_err-put_next_name.ensures.0 c.in_ok-put_text.ensures
    c.in_err-put_next_name.ensures

pub put_denied_at-returns-in_default : goal.put_denied_at-returns-in_default
put_denied_at-returns-in_default g t c =
    let formula = c.args.formula.now in
    let is : _ = denied-other c.args.self.now.names.now c.args.depth formula c.in_default.not-Eq
    c.in_default.not-Less in
    subst (λ text. Prints g.K.Sink.written g.K.Sink.faults c.args.self.now c.put_behind.new.self
    c.put_behind.result text)
    (sym is) c.put_behind.ensures

pub put_inside-returns : goal.put_inside-returns
put_inside-returns g t c =
    let names = c.args.self.now.names.now in
    let depth = c.args.depth in
    let body : List (List ℕ) → List ℕ = λ names. text_of names c.args.quant.now.body depth false in
    subst (λ exempt. Prints g.K.Sink.written g.K.Sink.faults c.args.self.now c.put_last.new.self
    c.put_last.result
    (inside_text names depth c.args.quant.now.patterns exempt (body names))) c.as_slice-2.ensures
    (subst (λ patterns. Prints g.K.Sink.written g.K.Sink.faults c.args.self.now c.put_last.new.self
    c.put_last.result
    (inside_text names depth patterns c.as_slice-2.result.now (body names))) c.as_slice.ensures
    (Prints-named (λ names. note_text (codes " (NOPATS") (term_text names depth)
    c.as_slice-2.result.now ++ ((blank ++ body names) ++ closing))
    c.in_ok-put_patterns.ensures (Prints-named (λ names. (blank ++ body names) ++ closing)
    c.in_ok-put_exempt.ensures c.put_last.ensures)))

pub put_quant-returns-in_err-put_variables : goal.put_quant-returns-in_err-put_variables
put_quant-returns-in_err-put_variables g t c =
    let names = c.args.self.now.names.now in
    let quant = c.args.quant.now in
    let under = deeper c.args.depth quant.count in
    let inside = inside_text names under quant.patterns quant.exempt
    (text_of names quant.body under false) in
    let result = c.from_residual.result in
    subst (λ text. Prints g.K.Sink.written g.K.Sink.faults c.args.self.now c.put_variables.new.self
    result text)
    (sym (quant_text-at names c.args.depth quant))
    (Prints-fails (closing ++ inside) c.from_residual.ensures.0 c.in_err-put_variables.ensures)

pub put_quant-returns-in_err-put_closing : goal.put_quant-returns-in_err-put_closing
put_quant-returns-in_err-put_closing g t c =
    let names = c.args.self.now.names.now in
    let quant = c.args.quant.now in
    let under = deeper c.args.depth quant.count in
    let inside = inside_text names under quant.patterns quant.exempt
    (text_of names quant.body under false) in
    let end = c.from_residual-in_err-put_closing in
    subst (λ text. Prints g.K.Sink.written g.K.Sink.faults c.args.self.now c.put_closing.new.self
    end.result text)
    (sym (quant_text-at names c.args.depth quant))
    (Prints-then c.in_ok-put_variables.ensures
    (Prints-fails inside end.ensures.0 c.in_err-put_closing.ensures))

pub put_quant-returns : goal.put_quant-returns
put_quant-returns g t c =
    let quant = c.args.quant.now in
    let inside : List (List ℕ) → ℕ → List ℕ =
    λ names depth. inside_text names depth quant.patterns quant.exempt
    (text_of names quant.body depth false) in
    let under = deeper c.args.depth quant.count in
    subst (λ text. Prints g.K.Sink.written g.K.Sink.faults c.args.self.now c.put_inside.new.self
    c.put_inside.result text)
    (sym (quant_text-at c.args.self.now.names.now c.args.depth quant))
    (Prints-named (λ names. closing ++ inside names under) c.in_ok-put_variables.ensures
    (Prints-named (λ names. inside names under) c.in_ok-put_closing.ensures
    (subst (λ depth. Prints g.K.Sink.written g.K.Sink.faults c.put_closing.new.self
    c.put_inside.new.self c.put_inside.result
    (inside c.put_closing.new.self.names.now depth)) c.deeper.ensures c.put_inside.ensures)))

pub put_formula_at-returns-in_err-put_first-in-Implies
    : goal.put_formula_at-returns-in_err-put_first-in-Implies
put_formula_at-returns-in_err-put_first-in-Implies g t c =
    let names = c.args.self.now.names.now in
    let depth = c.args.depth in
    let text : List (List ℕ) → Formula → List ℕ = λ names f. text_of names f depth false in
    let old = c.args.self.now in
    let new = c.put_first.new.self in
    let end = c.from_residual in
    subst (λ f. Prints g.K.Sink.written g.K.Sink.faults old new end.result (text names f))
    (sym c.in-Implies.is)
    (subst (λ all. Prints g.K.Sink.written g.K.Sink.faults old new end.result all)
    (sym (text_of-Implies names depth c.in-Implies.left c.in-Implies.right))
    (Prints-fails ((blank ++ text names c.in-Implies.right) ++ closing) end.ensures.0
    (subst (λ f. Prints {T = Unit {0}} {E = Failed} g.K.Sink.written g.K.Sink.faults old new
    (Err c.in_err-put_first-in-Implies.field-0.0)
    (codes "(IMPLIES" ++ (blank ++ text names f))) c.get-in-Implies.ensures
    c.in_err-put_first-in-Implies.ensures)))

pub put_formula_at-returns-in_ok-put_first-in-Implies
    : goal.put_formula_at-returns-in_ok-put_first-in-Implies
put_formula_at-returns-in_ok-put_first-in-Implies g t c =
    let names = c.args.self.now.names.now in
    let depth = c.args.depth in
    let text : List (List ℕ) → Formula → List ℕ = λ names f. text_of names f depth false in
    let old = c.args.self.now in
    let mid = c.put_first.new.self in
    let new = c.put_last.new.self in
    subst (λ f. Prints g.K.Sink.written g.K.Sink.faults old new c.put_last.result (text names f))
    (sym c.in-Implies.is)
    (subst (λ all. Prints g.K.Sink.written g.K.Sink.faults old new c.put_last.result all)
    (sym (text_of-Implies names depth c.in-Implies.left c.in-Implies.right))
    (Prints-named (λ names. (blank ++ text names c.in-Implies.right) ++ closing)
    (subst (λ f. Prints {T = Unit {0}} {E = Failed} g.K.Sink.written g.K.Sink.faults old mid
    (Ok c.in_ok-put_first-in-Implies.field-0)
    (codes "(IMPLIES" ++ (blank ++ text names f))) c.get-in-Implies.ensures
    c.in_ok-put_first-in-Implies.ensures)
    (subst (λ f. Prints g.K.Sink.written g.K.Sink.faults mid new c.put_last.result
    ((blank ++ text mid.names.now f) ++ closing))
    c.get-in-Implies-2.ensures c.put_last.ensures)))

pub put_formula_at-returns-in_err-put_first-in-Iff
    : goal.put_formula_at-returns-in_err-put_first-in-Iff
put_formula_at-returns-in_err-put_first-in-Iff g t c =
    let names = c.args.self.now.names.now in
    let depth = c.args.depth in
    let text : List (List ℕ) → Formula → List ℕ = λ names f. text_of names f depth false in
    let old = c.args.self.now in
    let new = c.put_first-in-Iff.new.self in
    let end = c.from_residual-in_err-put_first-in-Iff in
    subst (λ f. Prints g.K.Sink.written g.K.Sink.faults old new end.result (text names f))
    (sym c.in-Iff.is)
    (subst (λ all. Prints g.K.Sink.written g.K.Sink.faults old new end.result all)
    (sym (text_of-Iff names depth c.in-Iff.left c.in-Iff.right))
    (Prints-fails ((blank ++ text names c.in-Iff.right) ++ closing) end.ensures.0
    (subst (λ f. Prints {T = Unit {0}} {E = Failed} g.K.Sink.written g.K.Sink.faults old new
    (Err c.in_err-put_first-in-Iff.field-0.0)
    (codes "(IFF" ++ (blank ++ text names f))) c.get-in-Iff.ensures
    c.in_err-put_first-in-Iff.ensures)))

pub put_formula_at-returns-in_ok-put_first-in-Iff
    : goal.put_formula_at-returns-in_ok-put_first-in-Iff
put_formula_at-returns-in_ok-put_first-in-Iff g t c =
    let names = c.args.self.now.names.now in
    let depth = c.args.depth in
    let text : List (List ℕ) → Formula → List ℕ = λ names f. text_of names f depth false in
    let old = c.args.self.now in
    let mid = c.put_first-in-Iff.new.self in
    let new = c.put_last-in-Iff.new.self in
    subst (λ f. Prints g.K.Sink.written g.K.Sink.faults old new c.put_last-in-Iff.result
    (text names f)) (sym c.in-Iff.is)
    (subst (λ all. Prints g.K.Sink.written g.K.Sink.faults old new c.put_last-in-Iff.result all)
    (sym (text_of-Iff names depth c.in-Iff.left c.in-Iff.right))
    (Prints-named (λ names. (blank ++ text names c.in-Iff.right) ++ closing)
    (subst (λ f. Prints {T = Unit {0}} {E = Failed} g.K.Sink.written g.K.Sink.faults old mid
    (Ok c.in_ok-put_first-in-Iff.field-0)
    (codes "(IFF" ++ (blank ++ text names f))) c.get-in-Iff.ensures
    c.in_ok-put_first-in-Iff.ensures)
    (subst (λ f. Prints g.K.Sink.written g.K.Sink.faults mid new c.put_last-in-Iff.result
    ((blank ++ text mid.names.now f) ++ closing))
    c.get-in-Iff-2.ensures c.put_last-in-Iff.ensures)))

pub put_behind-returns : goal.put_behind-returns
put_behind-returns g t c =
    let text : List (List ℕ) → List ℕ =
    λ names. text_of names c.args.formula.now c.args.depth false in
    Prints-named (λ names. (blank ++ text names) ++ closing) c.in_ok-put_text.ensures
    c.put_last.ensures

pub put_behind-returns-in_err-put_text : goal.put_behind-returns-in_err-put_text
put_behind-returns-in_err-put_text g t c =
    let text = text_of c.args.self.now.names.now c.args.formula.now c.args.depth false in
    Prints-fails ((blank ++ text) ++ closing) c.from_residual.ensures.0 c.in_err-put_text.ensures

pub put_first-returns : goal.put_first-returns
put_first-returns g t c =
    Prints-named (λ names. blank ++ text_of names c.args.formula.now c.args.depth false)
    c.in_ok-put_text.ensures c.put_next.ensures

pub put_first-returns-in_err-put_text : goal.put_first-returns-in_err-put_text
put_first-returns-in_err-put_text g t c =
    let text = text_of c.args.self.now.names.now c.args.formula.now c.args.depth false in
    Prints-fails (blank ++ text) c.from_residual.ensures.0 c.in_err-put_text.ensures

pub put_labelled-returns-in_err-put_text : goal.put_labelled-returns-in_err-put_text
put_labelled-returns-in_err-put_text g t c =
    let names = c.args.self.now.names.now in
    let text = text_of names c.args.formula.now c.args.depth false in
    Prints-fails ((blank ++ name_text names c.args.name) ++ ((blank ++ text) ++ closing))
    c.from_residual.ensures.0 c.in_err-put_text.ensures

pub put_parts-returns-in_err-put_text : goal.put_parts-returns-in_err-put_text
put_parts-returns-in_err-put_text g t c =
    let names = c.args.self.now.names.now in
    Prints-fails (spaced (λ part. text_of names part c.args.depth false) c.args.parts.now
    ++ closing)
    c.from_residual.ensures.0 c.in_err-put_text.ensures

pub put_next-returns : goal.put_next-returns
put_next-returns g t c =
    Prints-named (λ names. text_of names c.args.formula.now c.args.depth false)
    c.in_ok-put_blank.ensures c.put_formula_at.ensures

pub put_next-returns-in_err-put_blank : goal.put_next-returns-in_err-put_blank
put_next-returns-in_err-put_blank g t c =
    Prints-fails (text_of c.args.self.now.names.now c.args.formula.now c.args.depth false)
    c.from_residual.ensures.0 c.in_err-put_blank.ensures

pub put_last-returns : goal.put_last-returns
put_last-returns g t c = Prints-then c.in_ok-put_next.ensures c.put_closing.ensures

pub put_last-returns-in_err-put_next : goal.put_last-returns-in_err-put_next
put_last-returns-in_err-put_next g t c =
    Prints-fails closing c.from_residual.ensures.0 c.in_err-put_next.ensures

pub put_quantified-returns : goal.put_quantified-returns
put_quantified-returns g t c =
    Prints-named (λ names. quant_text names c.args.quant.now c.args.depth)
    c.in_ok-put_text.ensures c.put_quant.ensures

pub put_quantified-returns-in_err-put_text : goal.put_quantified-returns-in_err-put_text
put_quantified-returns-in_err-put_text g t c =
    Prints-fails (quant_text c.args.self.now.names.now c.args.quant.now c.args.depth)
    c.from_residual.ensures.0 c.in_err-put_text.ensures

pub put_inside-returns-in_err-put_patterns : goal.put_inside-returns-in_err-put_patterns
put_inside-returns-in_err-put_patterns g t c =
    let names = c.args.self.now.names.now in
    let depth = c.args.depth in
    let body = text_of names c.args.quant.now.body depth false in
    let exempt = c.args.quant.now.exempt in
    let rest = note_text (codes " (NOPATS") (term_text names depth) exempt
    ++ ((blank ++ body) ++ closing) in
    subst (λ patterns. Prints g.K.Sink.written g.K.Sink.faults c.args.self.now
    c.put_patterns.new.self c.from_residual.result (inside_text names depth patterns exempt body))
    c.as_slice.ensures
    (Prints-fails rest c.from_residual.ensures.0 c.in_err-put_patterns.ensures)

pub put_inside-returns-in_err-put_exempt : goal.put_inside-returns-in_err-put_exempt
put_inside-returns-in_err-put_exempt g t c =
    let names = c.args.self.now.names.now in
    let depth = c.args.depth in
    let body = text_of names c.args.quant.now.body depth false in
    let end = c.from_residual-in_err-put_exempt in
    let rest = (blank ++ body) ++ closing in
    subst (λ exempt. Prints g.K.Sink.written g.K.Sink.faults c.args.self.now c.put_exempt.new.self
    end.result (inside_text names depth c.args.quant.now.patterns exempt body))
    c.as_slice-2.ensures
    (subst (λ patterns. Prints g.K.Sink.written g.K.Sink.faults c.args.self.now
    c.put_exempt.new.self end.result
    (inside_text names depth patterns c.as_slice-2.result.now body)) c.as_slice.ensures
    (Prints-named (λ names. note_text (codes " (NOPATS") (term_text names depth)
    c.as_slice-2.result.now ++ rest)
    c.in_ok-put_patterns.ensures (Prints-fails rest end.ensures.0 c.in_err-put_exempt.ensures)))
