use Rattle.std.proofs.Common.{map, sym, ap, ◌∙◌, subst}
use Rattle.esc_sharing.specs.ArithmeticInside.{pair_at}
use Rattle.esc_sharing.specs.ClassesInside.{AreChosen}
use Rattle.esc_sharing.proofs.ClassPlaces.{chosen_at}
use Rattle.esc_sharing.proofs.classes.class_numbers.Goals as goal

pub returns : goal.returns
returns c =
    let bound = c.args.simplex.now.bound in
    subst (AreChosen c.args.graph.now bound)
    (sym (c.in_ok-numbers.ensures ∙ ap (map (pair_at bound)) c.as_slice.ensures.value))
    (chosen_at c.args.graph.now bound c.in_ok-places.places.items c.in_ok-places.ensures)
