use Rattle.std.proofs.Common.{◌≡◌, ap, subst, ◌∙◌}
use Rattle.std.specs.Prelude.{Ok, Err}
use Rattle.esc_egraph.specs.declared.state.State.TheVariants.{Open, Closed}
use Rattle.esc_sharing.specs.KnownInside.{AreKnownBy}
use Rattle.esc_sharing.specs.Shared.{AreToldIn}
use Rattle.esc_sharing.proofs.Labels.{pair_is, relabeled_more, told_joined}
use Rattle.esc_sharing.proofs.ToldSharing.{ends_err, tell_closed, tell_given_up, tell_keeps}
use Rattle.esc_sharing.proofs.ToldSharing.{tell_open}
use Rattle.esc_sharing.proofs.sharing.Sharing.tell.Goals as goal

pub returns-in_err-told_equal-clause-ends : goal.returns-in_err-told_equal-clause-ends
returns-in_err-told_equal-clause-ends g c =
    let pair = subst (AreToldIn c.args.self.now.graph (g.T.Theory.numbers c.args.self.now.theory))
    (pair_is c.args.known.now c.args.first c.args.later c.index-known-first.result
    c.index-known-later.result c.requires.first c.requires.later c.index-known-first.is
    c.index-known-later.is) c.requires.pair in
    let why = c.in_err-told_equal.field-0.0 in
    let answer : c.told_equal.result ≡ Err why = c.in_err-told_equal.was in
    ends_err _ _ c.from_residual.result c.from_residual.ensures.0
    (tell_given_up g.T.Theory.sound g.T.Theory.admits g.T.Theory.numbers c.args.self.now
    c.push_told.new.self c.told_equal.new.self c.index-known-first.result.0
    c.index-known-later.result.0 (AreKnownBy c.args.known.now) c.requires.unsettled pair
    c.in-Ok.ensures.ok c.told_equal.ensures.numbers c.told_equal.ensures.sound
    c.told_equal.result c.told_equal.ensures.ends why answer)

pub returns-in_err-told_equal-clause-keeps : goal.returns-in_err-told_equal-clause-keeps
returns-in_err-told_equal-clause-keeps g c =
    tell_keeps g.T.Undoable.undo g.met.T.Undoable.lawful g.R.CarriesNodes.carried_node
    g.R.CarriesGroups.carried_group g.R.CarriesShare.carried_share g.R.Carries.carried
    g.T.Theory.sound g.T.Theory.numbers g.T.Theory.made c.args.self.now c.push_told.new.self
    c.told_equal.new.self c.index-known-first.result.0 c.index-known-later.result.0
    c.in-Ok.ensures.ok c.args.trail.now.records c.push_told.new.trail.records
    c.told_equal.new.trail.records c.requires.unsettled.parts.sound c.in-Ok.ensures.noted
    c.told_equal.ensures.sound c.told_equal.ensures.numbers c.told_equal.ensures.made
    c.told_equal.ensures.undo

pub returns-in-Closed-clause-ends : goal.returns-in-Closed-clause-ends
returns-in-Closed-clause-ends g c =
    let pair = subst (AreToldIn c.args.self.now.graph (g.T.Theory.numbers c.args.self.now.theory))
    (pair_is c.args.known.now c.args.first c.args.later c.index-known-first.result
    c.index-known-later.result c.requires.first c.requires.later c.index-known-first.is
    c.index-known-later.is) c.requires.pair in
    let answer : c.told_equal.result ≡ Ok Closed = c.in_ok-told_equal.was ∙ ap Ok c.in-Closed.is in
    tell_closed g.T.Theory.sound g.T.Theory.admits g.T.Theory.numbers c.args.self.now
    c.push_told.new.self c.told_equal.new.self c.index-known-first.result.0
    c.index-known-later.result.0 (AreKnownBy c.args.known.now) c.requires.unsettled pair
    c.in-Ok.ensures.ok c.told_equal.ensures.numbers c.told_equal.ensures.sound
    c.told_equal.result c.told_equal.ensures.ends answer

pub returns-in-Closed-clause-keeps : goal.returns-in-Closed-clause-keeps
returns-in-Closed-clause-keeps g c =
    tell_keeps g.T.Undoable.undo g.met.T.Undoable.lawful g.R.CarriesNodes.carried_node
    g.R.CarriesGroups.carried_group g.R.CarriesShare.carried_share g.R.Carries.carried
    g.T.Theory.sound g.T.Theory.numbers g.T.Theory.made c.args.self.now c.push_told.new.self
    c.told_equal.new.self c.index-known-first.result.0 c.index-known-later.result.0
    c.in-Ok.ensures.ok c.args.trail.now.records c.push_told.new.trail.records
    c.told_equal.new.trail.records c.requires.unsettled.parts.sound c.in-Ok.ensures.noted
    c.told_equal.ensures.sound c.told_equal.ensures.numbers c.told_equal.ensures.made
    c.told_equal.ensures.undo

pub returns-in-Open-clause-ends : goal.returns-in-Open-clause-ends
returns-in-Open-clause-ends g c =
    let pair = subst (AreToldIn c.args.self.now.graph (g.T.Theory.numbers c.args.self.now.theory))
    (pair_is c.args.known.now c.args.first c.args.later c.index-known-first.result
    c.index-known-later.result c.requires.first c.requires.later c.index-known-first.is
    c.index-known-later.is) c.requires.pair in
    let answer : c.told_equal.result ≡ Ok Open = c.in_ok-told_equal.was ∙ ap Ok c.in-Open.is in
    tell_open g.T.Theory.sound g.T.Theory.admits g.T.Theory.numbers c.args.self.now
    c.push_told.new.self c.told_equal.new.self c.index-known-first.result.0
    c.index-known-later.result.0 (AreKnownBy c.args.known.now) c.requires.unsettled pair
    c.in-Ok.ensures.ok c.told_equal.ensures.numbers c.told_equal.ensures.sound
    c.told_equal.result c.told_equal.ensures.ends answer
    (AreKnownBy c.relabel.new.known) (λ x y same.
    told_joined c.args.known.now c.args.first c.args.later c.index-known-first.result
    c.index-known-later.result c.requires.first c.requires.later c.index-known-first.is
    c.index-known-later.is x y (subst (λ known. AreKnownBy known x y) c.relabel.ensures same))

pub returns-in-Open-clause-more : goal.returns-in-Open-clause-more
returns-in-Open-clause-more g c =
    relabeled_more c.args.known.now c.index-known-later.result.1 c.index-known-first.result.1
    c.relabel.new.known c.relabel.ensures

pub returns-in-Open-clause-keeps : goal.returns-in-Open-clause-keeps
returns-in-Open-clause-keeps g c =
    tell_keeps g.T.Undoable.undo g.met.T.Undoable.lawful g.R.CarriesNodes.carried_node
    g.R.CarriesGroups.carried_group g.R.CarriesShare.carried_share g.R.Carries.carried
    g.T.Theory.sound g.T.Theory.numbers g.T.Theory.made c.args.self.now c.push_told.new.self
    c.told_equal.new.self c.index-known-first.result.0 c.index-known-later.result.0
    c.in-Ok.ensures.ok c.args.trail.now.records c.push_told.new.trail.records
    c.told_equal.new.trail.records c.requires.unsettled.parts.sound c.in-Ok.ensures.noted
    c.told_equal.ensures.sound c.told_equal.ensures.numbers c.told_equal.ensures.made
    c.told_equal.ensures.undo
