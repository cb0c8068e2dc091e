use Rattle.std.proofs.Common.{◌≡◌, true, List, [], ◌∷◌, length, ap, sym, ◌∙◌}
use Rattle.esc_term.specs.declared.formula.Formula.TheOpen.{Formula-F}
use Rattle.esc_cover.specs.Atoms.{pair_equations}
use Rattle.esc_clause.specs.Expansion.{OneOfEach, expanded_form, from_place}
use Rattle.esc_clause.specs.declared.occurrence.Occurrence.{Occurrence}
use Rattle.esc_book.proofs.LiveForms.{if_ok}
use Rattle.esc_book.proofs.expanding.distinct.Goals as goal

pub returns-then-at : goal.returns-then-at
returns-then-at c ts many =
    ap (expanded_form c.args.at (Formula-F.Distinct ts)) (sym c.if-at.true)

pub returns : goal.returns
returns c =
    if_ok _ _ c.several.result c.several.ensures (λ e h ts many.
    let count : length ts ≡ length c.nodes.result.now =
    many ∙ sym (ap length c.nodes.ensures) in
    h ∙ (ap (λ (os : List Occurrence). OneOfEach (os ∷ []))
    (c.in_ok-parts.ensures ts count
    ∙ ap (λ n. from_place c.args.at.fact n true (pair_equations ts)) c.in_ok-from.ensures)
    ∙ ap (expanded_form c.args.at (Formula-F.Distinct ts)) (sym c.if-at.false)))
