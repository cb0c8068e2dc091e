use Rattle.esc_distinct.proofs.ByClass.{none_by_class}
use Rattle.esc_distinct.proofs.search.find_place.Goals as goal

pub returns-then-class-nodes-clause-none : goal.returns-then-class-nodes-clause-none
returns-then-class-nodes-clause-none c =
    none_by_class _ _ c.args.a c.class_of-class.result.now c.args.group.now c.class_of-class.ensures
    c.requires.members c.place_of_any.result c.place_of_any.ensures.none
