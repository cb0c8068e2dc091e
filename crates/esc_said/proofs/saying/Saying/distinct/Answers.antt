use Rattle.std.proofs.Common.{ℕ, ◌+◌, ◌≤◌, List, length, refl, subst, arith}
use Rattle.std.proofs.lemmas.Grind.{common_steps}
use Rattle.esc_said.specs.SayingInside.{unlike_each}
use Rattle.esc_said.specs.Speaking.{SaysAs}
use Rattle.esc_said.proofs.Unlike.{SaidUpTo-ends, SaidUpTo-more, SaidUpTo-starts, rest_of}
use Rattle.esc_said.proofs.saying.Saying.distinct.Goals as goal

pub places-init : goal.places-init
places-init c literals speaks =
    SaidUpTo-starts c.args.self.now.graph.now c.args.nodes.now literals _ refl refl

pub places-preserved : goal.places-preserved
places-preserved c literals speaks =
    SaidUpTo-more c.args.self.now.graph.now c.args.nodes.now literals c.places.said
    c.unlike.result c.and-said.result c.places.place c.index-nodes-place.result
    (grind (arith, common_steps)) c.index-nodes-place.is c.and-said.ensures.holds
    c.and-said.ensures.fails (subst (λ (ns : List ℕ). SaysAs c.unlike.result (unlike_each literals
    c.args.self.now.graph.now c.index-nodes-place.result ns))
    (rest_of (c.places.place + 1) c.args.nodes.now) (c.unlike.ensures literals speaks))
    (c.places.invariant literals speaks)

pub returns : goal.returns
returns c literals speaks =
    let past : length c.args.nodes.now ≤ c.places.place = grind (arith, common_steps) in
    SaidUpTo-ends c.args.self.now.graph.now c.args.nodes.now literals _ _ past
    (c.places.invariant literals speaks)
