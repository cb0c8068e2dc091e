use Rattle.std.proofs.Common.{List, [], ◌∷◌, ◌++◌, ap, ap₂, ◌∙◌}
use Rattle.esc_clause.specs.Expansion.{OneOfEach}
use Rattle.esc_clause.specs.declared.occurrence.Occurrence.{Occurrence}
use Rattle.esc_book.proofs.expanding.equivalent.Goals as goal

pub returns : goal.returns
returns c g f p q is there =
    let one = c.in_ok-both_parts.field-0 in
    let other = c.in_ok-both_parts-2.field-0 in
    ap OneOfEach (c.in_ok-push-2.ensures.ok
    ∙ (ap (λ (l : List (List Occurrence)). l ++ (other ∷ [])) (c.in_ok-push.ensures.ok
    ∙ ap (λ (l : List (List Occurrence)). l ++ (one ∷ [])) c.new-clauses.ensures)
    ∙ ap₂ (λ (x y : List Occurrence). x ∷ y ∷ []) (c.in_ok-both_parts.ensures g f p q is there)
    (c.in_ok-both_parts-2.ensures g f p q is there)))
