use Rattle.std.proofs.Common.{map, sym, ◌∙◌, arith}
use Rattle.std.proofs.lemmas.List.{ext_get_or, length-map, get_or-map}
use Rattle.esc_tableau.specs.IndexInside.{shifted}
use Rattle.esc_tableau.specs.declared.index.Place.TheVariants.{Unnoted}
use Rattle.esc_tableau.proofs.index.remove_row_in.Goals as goal

pub returns : goal.returns
returns c =
    let f = shifted c.args.row in
    ext_get_or Unnoted c.loop-place.places (map f c.args.places.now) (c.loop-place.auto.places
    ∙ sym (length-map c.args.places.now f))
    (λ k inside. c.loop-place.invariant.done k (omega arith)
    ∙ sym (get_or-map f c.args.places.now k Unnoted Unnoted
    (omega (arith, c.loop-place.auto.places))))
