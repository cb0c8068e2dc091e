use Rattle.std.proofs.Common.{◌∷◌, [], length, not, true, false, arith, sym, ap, ◌∙◌}
use Rattle.std.proofs.lemmas.Bool.{ltb-false}
use Rattle.esc_clause.specs.Expansion.{OneOfEach, from_place}
use Rattle.esc_book.specs.Book.{heads_of}
use Rattle.esc_book.specs.ReadingInside.{both_from, expanded_to}
use Rattle.esc_book.specs.declared.entry.Kind.TheVariants as kind
use Rattle.esc_book.proofs.LiveForms.{if_ok}
use Rattle.esc_book.proofs.PartForms.{expands-Conjunction, expands-Constant, expands-Disjunction}
use Rattle.esc_book.proofs.PartForms.{expands-Distinction, expands-Equation, expands-Equivalence}
use Rattle.esc_book.proofs.PartForms.{expands-Implication, expands-Labelled, expands-Negation}
use Rattle.esc_book.proofs.PartForms.{expands-Order, expands-Quantified}
use Rattle.esc_book.proofs.Reading.{get-within, length-page}
use Rattle.esc_book.proofs.expanding.expanded_entry.Goals as goal

pub returns-in_default : goal.returns-in_default
returns-in_default c g f s is there begins =
    let found = c.in_default.ensures.lookup in
    absurd (omega (
      arith,
      ltb-false _ _ (sym found.0),
      length-page g f c.args.page.now is,
      get-within (heads_of f) c.args.index s there,
    ))

pub returns-then-is_true : goal.returns-then-is_true
returns-then-is_true c g f s is there begins =
    let found = c.in-Some.ensures.lookup in
    c.settled.ensures
    ∙ expands-Constant g f c.args.page.now is c.args.index c.in-Some.entry.now
    found.3.0 found.1 s there c.args.at begins true
    (c.in-Constant.is ∙ ap kind.Constant c.if-is_true.true)

pub returns-else-is_true : goal.returns-else-is_true
returns-else-is_true c g f s is there begins =
    let found = c.in-Some.ensures.lookup in
    c.settled-else-is_true.ensures
    ∙ expands-Constant g f c.args.page.now is c.args.index c.in-Some.entry.now
    found.3.0 found.1 s there c.args.at begins false
    (c.in-Constant.is ∙ ap kind.Constant c.if-is_true.false)

pub returns-in-Conjunction : goal.returns-in-Conjunction
returns-in-Conjunction c =
    if_ok _ _ c.parts_from.result c.parts_from.ensures
    (λ e h g f s is there begins.
    let found = c.in-Some.ensures.lookup in
    let sign = c.args.at.positive in
    let parts = expands-Conjunction g f c.args.page.now is c.args.index c.in-Some.entry.now
    found.3.0 found.1 s there c.args.at begins c.in-Conjunction.is in
    h g f parts.parts is parts.between
    ∙ (ap (λ n. expanded_to sign (from_place c.args.at.fact n sign parts.parts))
    parts.begin ∙ parts.expands))

pub returns-in-Disjunction : goal.returns-in-Disjunction
returns-in-Disjunction c =
    if_ok _ _ c.parts_from-in-Disjunction.result c.parts_from-in-Disjunction.ensures
    (λ e h g f s is there begins.
    let found = c.in-Some.ensures.lookup in
    let sign = c.args.at.positive in
    let parts = expands-Disjunction g f c.args.page.now is c.args.index c.in-Some.entry.now
    found.3.0 found.1 s there c.args.at begins c.in-Disjunction.is in
    h g f parts.parts is parts.between
    ∙ (ap (λ n. expanded_to (not sign) (from_place c.args.at.fact n sign parts.parts))
    parts.begin ∙ parts.expands))

pub returns-in-Negation : goal.returns-in-Negation
returns-in-Negation c =
    if_ok _ _ c.parts_from-in-Negation.result c.parts_from-in-Negation.ensures
    (λ e h g f s is there begins.
    let found = c.in-Some.ensures.lookup in
    let sign = c.args.at.positive in
    let parts = expands-Negation g f c.args.page.now is c.args.index c.in-Some.entry.now
    found.3.0 found.1 s there c.args.at begins c.in-Negation.is in
    h g f parts.parts is parts.between
    ∙ (ap (λ n. expanded_to true (from_place c.args.at.fact n (not sign) parts.parts))
    parts.begin ∙ parts.expands))

pub returns-in-Labelled : goal.returns-in-Labelled
returns-in-Labelled c =
    if_ok _ _ c.parts_from-in-Labelled.result c.parts_from-in-Labelled.ensures
    (λ e h g f s is there begins.
    let found = c.in-Some.ensures.lookup in
    let sign = c.args.at.positive in
    let parts = expands-Labelled g f c.args.page.now is c.args.index c.in-Some.entry.now
    found.3.0 found.1 s there c.args.at begins c.in-Labelled.is in
    h g f parts.parts is parts.between
    ∙ (ap (λ n. expanded_to true (from_place c.args.at.fact n sign parts.parts))
    parts.begin ∙ parts.expands))

pub returns-in-Implication : goal.returns-in-Implication
returns-in-Implication c =
    if_ok _ _ c.implied.result c.implied.ensures (λ e h g f s is there begins.
    let found = c.in-Some.ensures.lookup in
    let fact = c.args.at.fact in
    let sign = c.args.at.positive in
    let two = expands-Implication g f c.args.page.now is c.args.index c.in-Some.entry.now
    found.3.0 found.1 s there c.args.at begins c.in-Implication.is in
    h g f two.first two.second is two.both
    ∙ (ap (λ n. expanded_to (not sign) (both_from fact n (not sign) sign two.first))
    two.begin ∙ two.expands))

pub returns-in-Equivalence : goal.returns-in-Equivalence
returns-in-Equivalence c =
    if_ok _ _ c.equivalent.result c.equivalent.ensures (λ e h g f s is there begins.
    let found = c.in-Some.ensures.lookup in
    let fact = c.args.at.fact in
    let sign = c.args.at.positive in
    let two = expands-Equivalence g f c.args.page.now is c.args.index c.in-Some.entry.now
    found.3.0 found.1 s there c.args.at begins c.in-Equivalence.is in
    h g f two.first two.second is two.both
    ∙ (ap (λ n. OneOfEach (both_from fact n (not sign) true two.first
    ∷ both_from fact n sign false two.first ∷ []))
    two.begin ∙ two.expands))

pub returns-in-Distinction : goal.returns-in-Distinction
returns-in-Distinction c =
    if_ok _ _ c.distinct.result c.distinct.ensures (λ e h g f s is there begins.
    let found = c.in-Some.ensures.lookup in
    let terms = expands-Distinction g f c.args.page.now is c.args.index c.in-Some.entry.now
    found.3.0 found.1 s there c.args.at begins c.in-Distinction.group
    c.in-Distinction.is in
    h terms.0 (terms.1 ∙ ap length (sym c.get-in-Distinction.ensures)) ∙ terms.2)

pub returns-in-Equation : goal.returns-in-Equation
returns-in-Equation c g f s is there begins =
    let found = c.in-Some.ensures.lookup in
    expands-Equation g f c.args.page.now is c.args.index c.in-Some.entry.now found.3.0 found.1
    s there c.args.at begins c.in-Equation.field-0 c.in-Equation.field-1 c.in-Equation.is

pub returns-in-Order : goal.returns-in-Order
returns-in-Order c g f s is there begins =
    let found = c.in-Some.ensures.lookup in
    expands-Order g f c.args.page.now is c.args.index c.in-Some.entry.now found.3.0 found.1
    s there c.args.at begins c.in-Order.field-0 c.in-Order.field-1 c.in-Order.is

pub returns-in-Quantified : goal.returns-in-Quantified
returns-in-Quantified c g f s is there begins =
    let found = c.in-Some.ensures.lookup in
    expands-Quantified g f c.args.page.now is c.args.index c.in-Some.entry.now found.3.0 found.1
    s there c.args.at begins c.in-Quantified.field-0 c.in-Quantified.is
