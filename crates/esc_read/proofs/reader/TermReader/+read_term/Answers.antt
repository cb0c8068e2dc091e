use Rattle.std.proofs.Common.{rules, ◌∙◌, ap, refl}
use Rattle.esc_read.specs.Terms.{term, term_head}
use Rattle.esc_read.specs.declared.term.TermHead.TheVariants as by
use Rattle.esc_read.proofs.Slices.{parted}
use Rattle.esc_read.proofs.TermLemmas.{applied, counts_right, counts_wrong, headed, unheaded}
use Rattle.esc_read.proofs.Readings.{Going-ends, Going-fails, Going-next, gives, next, refused}
use Rattle.esc_read.proofs.Readings.{stops}
use Rattle.esc_read.proofs.reader.TermReader.+read_term.Goals as goal

pub read_application-returns-in_err-symbol : goal.read_application-returns-in_err-symbol
read_application-returns-in_err-symbol t c =
    rw (applied c.args.place c.args.text.now term c.args.args.now c.if-args-eq0.false)
    (stops c.in_err-symbol.field-0.0 _ c.read_symbol.ensures c.in_err-symbol.was (search rules))

pub read_application-returns-in_err-args : goal.read_application-returns-in_err-args
read_application-returns-in_err-args t c =
    rw (applied c.args.place c.args.text.now term c.args.args.now c.if-args-eq0.false)
    (next c.in_ok-symbol.symbol _ c.read_symbol.ensures c.in_ok-symbol.was
    (stops c.in_err-args.field-0.0 _ c.read_terms.ensures c.in_err-args.was (search rules)))

pub read_application-returns : goal.read_application-returns
read_application-returns t c =
    rw (applied c.args.place c.args.text.now term c.args.args.now c.if-args-eq0.false)
    (next c.in_ok-symbol.symbol _ c.read_symbol.ensures c.in_ok-symbol.was
    (next c.in_ok-args.args _ c.read_terms.ensures c.in_ok-args.was (gives refl)))

pub read_calculation-returns-then-not-takes : goal.read_calculation-returns-then-not-takes
read_calculation-returns-then-not-takes t c =
    rw (counts_wrong c.args.operator c.args.place term c.args.args.now c.if-not-takes.ensures)
    (refused c.refusal.ensures)

pub read_calculation-returns-in_err-args : goal.read_calculation-returns-in_err-args
read_calculation-returns-in_err-args t c =
    rw (counts_right c.args.operator c.args.place term c.args.args.now c.if-not-takes.ensures)
    (stops c.in_err-args.field-0.0 _ c.read_terms.ensures c.in_err-args.was (search rules))

pub read_calculation-returns : goal.read_calculation-returns
read_calculation-returns t c =
    rw (counts_right c.args.operator c.args.place term c.args.args.now c.if-not-takes.ensures)
    (next c.in_ok-args.args _ c.read_terms.ensures c.in_ok-args.was (gives (search rules)))

pub read_terms-returns-in_err-term : goal.read_terms-returns-in_err-term
read_terms-returns-in_err-term t c =
    Going-fails term c.args.parts.now c.parts.part-index c.part-item.result c.in_err-term.field-0.0
    c.parts-test.true c.part-item.is c.parts.invariant c.read_term.ensures c.in_err-term.was
    (search rules)

pub read_terms-parts-preserved : goal.read_terms-parts-preserved
read_terms-parts-preserved t c =
    Going-next term c.args.parts.now c.parts.part-index c.part-item.result c.in_ok-term.term
    c.parts-test.true c.part-item.is c.parts.invariant c.read_term.ensures c.in_ok-term.was
    (search rules)

pub read_terms-returns : goal.read_terms-returns
read_terms-returns t c =
    Going-ends term c.args.parts.now c.parts.part-index c.parts-test.false c.parts.invariant

pub read_term-returns-in_default : goal.read_term-returns-in_default
read_term-returns-in_default t c =
    rw (unheaded c.args.sexp.now c.in-List.place c.in-List.items c.as_slice-in-List.result.now
    c.in-List.is c.as_slice-in-List.ensures c.in_default.len_below)
    (refused c.refusal.ensures)

pub read_term-returns-in-Name : goal.read_term-returns-in-Name
read_term-returns-in-Name t c =
    rw (headed c.args.sexp.now c.in-List.place c.in-List.items c.as_slice-in-List.result.now
    c.head-item.result _ by.Name
    c.in-List.is c.as_slice-in-List.ensures
    (parted c.as_slice-in-List.result.now c.head-item.result c.in-len1-up.len_at_least
    c.head-item.is) (c.in-Name.ensures ∙ ap term_head c.token_of.ensures))
    (rw (c.place_of.ensures, c.text_of.ensures) at c.read_application.ensures)

pub read_term-returns-in-Operator : goal.read_term-returns-in-Operator
read_term-returns-in-Operator t c =
    rw (headed c.args.sexp.now c.in-List.place c.in-List.items c.as_slice-in-List.result.now
    c.head-item.result _ (by.Operator c.in-Operator.operator)
    c.in-List.is c.as_slice-in-List.ensures
    (parted c.as_slice-in-List.result.now c.head-item.result c.in-len1-up.len_at_least
    c.head-item.is) (c.in-Operator.ensures ∙ ap term_head c.token_of.ensures))
    c.read_calculation.ensures

pub read_term-returns-in-Other : goal.read_term-returns-in-Other
read_term-returns-in-Other t c =
    rw (headed c.args.sexp.now c.in-List.place c.in-List.items c.as_slice-in-List.result.now
    c.head-item.result _ by.Other
    c.in-List.is c.as_slice-in-List.ensures
    (parted c.as_slice-in-List.result.now c.head-item.result c.in-len1-up.len_at_least
    c.head-item.is) (c.in-Other.ensures ∙ ap term_head c.token_of.ensures))
    (refused (search rules))
