use Rattle.std.proofs.Common.{rules, sym, refl, ◌∙◌}
use Rattle.esc_read.specs.Terms.{name_term}
use Rattle.esc_read.proofs.Readings.{ReadsIn-depth, gives, next, plain, stops}
use Rattle.esc_read.proofs.reader.TermReader.read_name_term.Goals as goal

pub returns-in_err-permit : goal.returns-in_err-permit
unfolding name_term
returns-in_err-permit c =
    stops c.in_err-permit.field-0.0 _ (plain c.permit.ensures) c.in_err-permit.was (search rules)

pub returns-in_err-symbol-in-None : goal.returns-in_err-symbol-in-None
unfolding name_term
returns-in_err-symbol-in-None c =
    next c.in_ok-permit.field-0 _ (plain c.permit.ensures) c.in_ok-permit.was
    (ReadsIn-depth c.args.text.now _ _ (sym c.in-None.is ∙ c.depth_of.ensures)
    (stops c.in_err-symbol-in-None.field-0.0 _ c.number_of.ensures c.in_err-symbol-in-None.was
    (search rules)))

pub returns-in-Some : goal.returns-in-Some
unfolding name_term
returns-in-Some c =
    next c.in_ok-permit.field-0 _ (plain c.permit.ensures) c.in_ok-permit.was
    (ReadsIn-depth c.args.text.now _ _ (sym c.in-Some.is ∙ c.depth_of.ensures) (gives refl))

pub returns-in_ok-symbol-in-None : goal.returns-in_ok-symbol-in-None
unfolding name_term
returns-in_ok-symbol-in-None c =
    next c.in_ok-permit.field-0 _ (plain c.permit.ensures) c.in_ok-permit.was
    (ReadsIn-depth c.args.text.now _ _ (sym c.in-None.is ∙ c.depth_of.ensures)
    (next c.in_ok-symbol-in-None.symbol _ c.number_of.ensures c.in_ok-symbol-in-None.was
    (gives (search rules))))
