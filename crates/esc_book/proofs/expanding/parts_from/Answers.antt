use Rattle.std.proofs.Common.{ap, ◌∙◌}
use Rattle.esc_book.specs.ReadingInside.{expanded_to}
use Rattle.esc_book.proofs.LiveForms.{if_ok}
use Rattle.esc_book.proofs.expanding.parts_from.Goals as goal

pub returns : goal.returns
returns c =
    if_ok _ _ c.several.result c.several.ensures (λ e h g f ps is between.
    h ∙ ap (expanded_to c.args.all) (c.in_ok-parts.ensures g f ps is between.there between.ends))
