use Rattle.std.proofs.Common.{◌≡◌, ◌∷◌, [], get_or, subst, sym}
use Rattle.std.proofs.lemmas.List.Elements.{All-weaker, Contains-get_or}
use Rattle.esc_rounds.specs.ListingInside.{AreKeysOf, IsListedTo, listed_in}
use Rattle.esc_rounds.specs.Standing.{AreThere, IsDrawable, standing_of}
use Rattle.esc_rounds.proofs.Bounds.{called_drawable, is_round, listed_none}
use Rattle.esc_rounds.proofs.Steps.{drawable_there}
use Rattle.esc_rounds.proofs.rounding.round.Goals as goal

pub new-requires-clause-there : goal.new-requires-clause-there
new-requires-clause-there c =
    All-weaker (IsDrawable c.args.branch.now.graph.now c.args.branch.now.formulas.now)
    (AreThere c.args.branch.now.graph.now)
    (drawable_there c.args.branch.now.graph.now c.args.branch.now.formulas.now) c.args.live.now
    c.requires.drawable

pub add_witnesses-requires-clause-listed : goal.add_witnesses-requires-clause-listed
add_witnesses-requires-clause-listed c =
    subst (IsListedTo (standing_of c.args.branch.now) c.in_ok-listing.listing.live.keys
    c.args.limit (0 ∷ 0 ∷ [])) (sym c.in_ok-listing.ensures.empty)
    (listed_none (standing_of c.args.branch.now) c.in_ok-listing.listing.live.keys c.args.limit)

pub returns-clause-round : goal.returns-clause-round
returns-clause-round c =
    let same : c.add_maps.new.listing.live.keys ≡ c.in_ok-listing.listing.live.keys = cc in
    is_round (standing_of c.args.branch.now) c.args.live.now c.add_maps.new.listing.live.keys
    c.args.limit (listed_in c.add_instances.new.listing)
    (subst (AreKeysOf c.args.branch.now.graph.now c.args.live.now) (sym same)
    c.in_ok-listing.ensures.live) c.in_ok-add_instances.ensures.listed

pub returns-clause-drawable : goal.returns-clause-drawable
returns-clause-drawable c = λ k d l.
    let draw = get_or c.add_instances.new.listing.list k d in
    let h = (c.in_ok-add_instances.ensures.listed.exact draw).0
    (Contains-get_or c.add_instances.new.listing.list k d l) in
    called_drawable (standing_of c.args.branch.now) draw h.0.0 h.0.1
