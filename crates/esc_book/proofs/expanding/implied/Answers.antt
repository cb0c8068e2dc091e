use Rattle.std.proofs.Common.{not, ap, ◌∙◌}
use Rattle.esc_book.specs.ReadingInside.{expanded_to}
use Rattle.esc_book.proofs.LiveForms.{if_ok}
use Rattle.esc_book.proofs.expanding.implied.Goals as goal

pub returns : goal.returns
returns c =
    if_ok _ _ c.several.result c.several.ensures (λ e h g f p q is there.
    h ∙ ap (expanded_to (not c.args.sign)) (c.in_ok-parts.ensures g f p q is there))
