use Rattle.std.proofs.Common.{[], subst}
use Rattle.esc_term.specs.Formula.{terms_of}
use Rattle.esc_trail.proofs.Noting.{notes_both}
use Rattle.esc_simplex.specs.SimplexLaws.{simplex_lawful}
use Rattle.esc_simplex.specs.SimplexUndo.{simplex_undo}
use Rattle.esc_sharing.specs.Calls.{AreNodesFor}
use Rattle.esc_sharing.specs.SharingUndo.{part_carried, sharing_lawful, sharing_undo}
use Rattle.esc_sharing.proofs.Becoming.{nodes_for}
use Rattle.esc_outcome.specs.JamLaws.{shared_in}
use Rattle.esc_play.specs.WalkingInside.{Brings, arithmetic_of, sides_in}
use Rattle.esc_play.proofs.Limit.{limit-noted}
use Rattle.esc_play.proofs.Played.{ends, gives, gives_same, means_more, means_same}
use Rattle.esc_play.proofs.Played.{sound_same, stops}
use Rattle.esc_play.proofs.play.put_in_play.Goals as goal

pub make_arithmetic-requires-clause-nodes : goal.make_arithmetic-requires-clause-nodes
make_arithmetic-requires-clause-nodes g c =
    let become : AreNodesFor c.add_formula.new.sharing.graph c.as_slice.result.now
    (arithmetic_of (terms_of c.args.formula.now) (sides_in c.args.formula.now)) =
    nodes_for c.add_formula.new.sharing.graph
    (arithmetic_of (terms_of c.args.formula.now) (sides_in c.args.formula.now))
    c.new-numbers.result.items c.add_formula.new.numbers.items
    c.sort_unstable_by_key.new.self.items c.as_slice.result.now c.new-numbers.ensures.items
    c.in-Ok.ensures.brings.numbers c.sort_unstable_by_key.ensures.permutation
    c.as_slice.ensures.value in
    become.there

-- ---- the nodes become arithmetic

pub returns-clause-ends : goal.returns-clause-ends
returns-clause-ends g c =
    let become : AreNodesFor c.add_formula.new.sharing.graph c.as_slice.result.now
    (arithmetic_of (terms_of c.args.formula.now) (sides_in c.args.formula.now)) =
    nodes_for c.add_formula.new.sharing.graph
    (arithmetic_of (terms_of c.args.formula.now) (sides_in c.args.formula.now))
    c.new-numbers.result.items c.add_formula.new.numbers.items
    c.sort_unstable_by_key.new.self.items c.as_slice.result.now c.new-numbers.ensures.items
    c.in-Ok.ensures.brings.numbers c.sort_unstable_by_key.ensures.permutation
    c.as_slice.ensures.value in
    let brings : Brings (shared_in c.args.sharing.now) (shared_in c.add_formula.new.sharing) []
    c.add_formula.new.numbers.items (terms_of c.args.formula.now) (sides_in c.args.formula.now) =
    subst (λ ns. Brings (shared_in c.args.sharing.now) (shared_in c.add_formula.new.sharing) ns
    c.add_formula.new.numbers.items (terms_of c.args.formula.now) (sides_in c.args.formula.now))
    c.new-numbers.ensures.items c.in-Ok.ensures.brings in
    ends c.args.sharing.now c.add_formula.new.sharing c.args.formula.now c.requires.closed
    c.add_formula.ensures.walks.rest c.add_formula.new.numbers.items brings
    c.as_slice.result.now become c.make_arithmetic.new.self c.make_arithmetic.ensures.keeps
    c.make_arithmetic.ensures.numbers
    c.make_arithmetic.result c.make_arithmetic.ensures.ends c.make_arithmetic.ensures.all

pub returns-clause-given : goal.returns-clause-given
returns-clause-given g c =
    let become : AreNodesFor c.add_formula.new.sharing.graph c.as_slice.result.now
    (arithmetic_of (terms_of c.args.formula.now) (sides_in c.args.formula.now)) =
    nodes_for c.add_formula.new.sharing.graph
    (arithmetic_of (terms_of c.args.formula.now) (sides_in c.args.formula.now))
    c.new-numbers.result.items c.add_formula.new.numbers.items
    c.sort_unstable_by_key.new.self.items c.as_slice.result.now c.new-numbers.ensures.items
    c.in-Ok.ensures.brings.numbers c.sort_unstable_by_key.ensures.permutation
    c.as_slice.ensures.value in
    let brings : Brings (shared_in c.args.sharing.now) (shared_in c.add_formula.new.sharing) []
    c.add_formula.new.numbers.items (terms_of c.args.formula.now) (sides_in c.args.formula.now) =
    subst (λ ns. Brings (shared_in c.args.sharing.now) (shared_in c.add_formula.new.sharing) ns
    c.add_formula.new.numbers.items (terms_of c.args.formula.now) (sides_in c.args.formula.now))
    c.new-numbers.ensures.items c.in-Ok.ensures.brings in
    gives c.args.sharing.now c.add_formula.new.sharing c.args.formula.now c.requires.closed
    c.add_formula.ensures.walks.rest c.add_formula.new.numbers.items brings
    c.as_slice.result.now become c.make_arithmetic.new.self c.make_arithmetic.ensures.keeps
    c.make_arithmetic.ensures.numbers

pub returns-clause-means : goal.returns-clause-means
returns-clause-means g c =
    means_more c.args.sharing.now c.add_formula.new.sharing c.make_arithmetic.new.self
    c.add_formula.ensures.walks.rest _ c.make_arithmetic.ensures.keeps.made

pub returns-clause-limit : goal.returns-clause-limit
returns-clause-limit g c =
    limit-noted (part_carried g.R.CarriesNodes.carried_node g.R.CarriesGroups.carried_group
    g.R.CarriesShare.carried_share g.R.Carries.carried) c.args.trail.now.records
    c.make_arithmetic.new.trail.records c.args.sharing.now c.make_arithmetic.new.self
    (notes_both (sharing_undo simplex_undo) (sharing_lawful simplex_undo simplex_lawful)
    (part_carried g.R.CarriesNodes.carried_node g.R.CarriesGroups.carried_group
    g.R.CarriesShare.carried_share g.R.Carries.carried) c.args.trail.now.records
    c.add_formula.new.trail.records c.make_arithmetic.new.trail.records c.args.sharing.now
    c.add_formula.new.sharing c.make_arithmetic.new.self c.add_formula.ensures.walks.undo
    c.make_arithmetic.ensures.undo)

pub returns-clause-stop : goal.returns-clause-stop
returns-clause-stop g c =
    let become : AreNodesFor c.add_formula.new.sharing.graph c.as_slice.result.now
    (arithmetic_of (terms_of c.args.formula.now) (sides_in c.args.formula.now)) =
    nodes_for c.add_formula.new.sharing.graph
    (arithmetic_of (terms_of c.args.formula.now) (sides_in c.args.formula.now))
    c.new-numbers.result.items c.add_formula.new.numbers.items
    c.sort_unstable_by_key.new.self.items c.as_slice.result.now c.new-numbers.ensures.items
    c.in-Ok.ensures.brings.numbers c.sort_unstable_by_key.ensures.permutation
    c.as_slice.ensures.value in
    let brings : Brings (shared_in c.args.sharing.now) (shared_in c.add_formula.new.sharing) []
    c.add_formula.new.numbers.items (terms_of c.args.formula.now) (sides_in c.args.formula.now) =
    subst (λ ns. Brings (shared_in c.args.sharing.now) (shared_in c.add_formula.new.sharing) ns
    c.add_formula.new.numbers.items (terms_of c.args.formula.now) (sides_in c.args.formula.now))
    c.new-numbers.ensures.items c.in-Ok.ensures.brings in
    stops c.args.sharing.now c.add_formula.new.sharing c.args.formula.now c.requires.closed
    c.add_formula.ensures.walks.rest c.add_formula.new.numbers.items brings
    c.as_slice.result.now become c.make_arithmetic.new.self c.make_arithmetic.ensures.keeps
    c.make_arithmetic.ensures.numbers
    c.make_arithmetic.result c.make_arithmetic.ensures.ends c.make_arithmetic.ensures.stop

pub returns-clause-undo : goal.returns-clause-undo
returns-clause-undo g c =
    notes_both (sharing_undo simplex_undo) (sharing_lawful simplex_undo simplex_lawful)
    (part_carried g.R.CarriesNodes.carried_node g.R.CarriesGroups.carried_group
    g.R.CarriesShare.carried_share g.R.Carries.carried) c.args.trail.now.records
    c.add_formula.new.trail.records c.make_arithmetic.new.trail.records c.args.sharing.now
    c.add_formula.new.sharing c.make_arithmetic.new.self c.add_formula.ensures.walks.undo
    c.make_arithmetic.ensures.undo

-- ---- memory is wanting

pub returns-in_default-clause-given : goal.returns-in_default-clause-given
returns-in_default-clause-given g c =
    gives_same c.args.sharing.now c.add_formula.new.sharing c.args.formula.now
    c.add_formula.ensures.walks.rest

pub returns-in_default-clause-sound : goal.returns-in_default-clause-sound
returns-in_default-clause-sound g c =
    sound_same c.args.sharing.now c.add_formula.new.sharing c.add_formula.ensures.walks.rest
    c.requires.shared.parts.sound

pub returns-in_default-clause-means : goal.returns-in_default-clause-means
returns-in_default-clause-means g c =
    means_same c.args.sharing.now c.add_formula.new.sharing c.add_formula.ensures.walks.rest

pub returns-in_default-clause-limit : goal.returns-in_default-clause-limit
returns-in_default-clause-limit g c =
    limit-noted (part_carried g.R.CarriesNodes.carried_node g.R.CarriesGroups.carried_group
    g.R.CarriesShare.carried_share g.R.Carries.carried) c.args.trail.now.records
    c.add_formula.new.trail.records c.args.sharing.now c.add_formula.new.sharing
    c.add_formula.ensures.walks.undo

pub returns-in_default-clause-undo : goal.returns-in_default-clause-undo
returns-in_default-clause-undo g c = c.add_formula.ensures.walks.undo
