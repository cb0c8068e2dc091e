use Rattle.std.proofs.Common.{[], ◌∷◌, ◌++◌, Result, Ok, Err, OnErr}
use Rattle.std.proofs.Common.{refl, ap, sym, subst, ◌∙◌}
use Rattle.esc_fact.specs.Legal.{IsClosedBase}
use Rattle.esc_search.specs.Proving.{IsReady}
use Rattle.esc_session.specs.Acts.{Joins, Rests}
use Rattle.esc_session.specs.Back.{IsAgain}
use Rattle.esc_session.specs.Between.{IsBetween}
use Rattle.esc_session.specs.PushingInside.{GivesStanding, joined}
use Rattle.esc_session.specs.declared.batch.Standing.TheVariants.{Behind}
use Rattle.esc_session.specs.declared.session.Session.{Session}
use Rattle.esc_session.proofs.Again.{again_here}
use Rattle.esc_session.proofs.Pushed.{batch_so, between_again, between_behind, between_so}
use Rattle.esc_session.proofs.Pushed.{closed_joined, joins_behind, joins_so, ready_joined, taken_is}
use Rattle.esc_session.proofs.session.Session.push.Goals as goal

on_err : {X Y : Type 0} {P : Type 0} (r : Result X Y) → P → OnErr r P
on_err (Ok x) h = tt
on_err (Err y) h = h

pub returns-in_err-join-clause-rests : goal.returns-in_err-join-clause-rests
returns-in_err-join-clause-rests c =
    on_err c.from_residual.result
    (subst (Rests c.args.self.now) (sym c.in_err-join.ensures.none) (record {
      base = refl;
      batches = refl;
      search = again_here c.args.self.now.search;
    }))

pub returns-then-not-open-clause-joins : goal.returns-then-not-open-clause-joins
returns-then-not-open-clause-joins c =
    let s = c.args.self.now in
    let fs = c.args.formulas in
    let is = c.in_ok-join.ensures.joins ∙ ap (joined s c.args.predicate) c.as_slice.ensures in
    subst (λ (t : Session). Joins s t c.args.predicate fs) (sym is)
    (joins_behind s c.args.predicate fs c.requires.between)

pub returns-then-not-open-clause-between : goal.returns-then-not-open-clause-between
returns-then-not-open-clause-between c =
    let s = c.args.self.now in
    let fs = c.args.formulas in
    let is = c.in_ok-join.ensures.joins ∙ ap (joined s c.args.predicate) c.as_slice.ensures in
    subst IsBetween (sym is)
    (between_behind s c.args.predicate fs c.requires.between c.requires.closed
    (sym c.if-not-open.ensures))

pub stand-requires-clause-closed : goal.stand-requires-clause-closed
stand-requires-clause-closed c =
    let s = c.args.self.now in
    let fs = c.args.formulas in
    let is = c.in_ok-join.ensures.joins ∙ ap (joined s c.args.predicate) c.as_slice.ensures in
    subst (λ (t : Session). IsClosedBase t.base) (sym is)
    (closed_joined s c.args.predicate fs c.requires.between c.requires.closed)

pub stand-requires-clause-ready : goal.stand-requires-clause-ready
stand-requires-clause-ready c =
    let s = c.args.self.now in
    let fs = c.args.formulas in
    let is = c.in_ok-join.ensures.joins ∙ ap (joined s c.args.predicate) c.as_slice.ensures in
    subst (λ (t : Session). IsReady t.base t.search) (sym is)
    (ready_joined s c.args.predicate fs c.requires.between c.search_laws.ensures.ready
    (sym c.if-not-open.ensures))

pub returns-in-Ok-clause-joins : goal.returns-in-Ok-clause-joins
returns-in-Ok-clause-joins c =
    let s = c.args.self.now in
    let fs = c.args.formulas in
    let w = c.stand.new.search in
    let so = batch_so s c.args.predicate fs c.requires.between in
    let is = c.in_ok-join.ensures.joins ∙ ap (joined s c.args.predicate) c.as_slice.ensures in
    let now = c.stand_newest.ensures s.batches (so Behind) (ap (λ (t : Session). t.batches) is)
    ∙ ap (λ (t : Session). record t {
      batches = s.batches ++ so c.in-Ok.standing ∷ [];
      search = w;
    }) is in
    subst (λ (t : Session). Joins s t c.args.predicate fs) (sym now)
    (joins_so s c.args.predicate fs c.requires.between w c.in-Ok.standing
    (subst (λ (t : Session). GivesStanding t.base t.search w c.in-Ok.standing) is
    c.in-Ok.ensures.stands))

pub returns-in-Ok-clause-between : goal.returns-in-Ok-clause-between
returns-in-Ok-clause-between c =
    let s = c.args.self.now in
    let fs = c.args.formulas in
    let w = c.stand.new.search in
    let so = batch_so s c.args.predicate fs c.requires.between in
    let is = c.in_ok-join.ensures.joins ∙ ap (joined s c.args.predicate) c.as_slice.ensures in
    let now = c.stand_newest.ensures s.batches (so Behind) (ap (λ (t : Session). t.batches) is)
    ∙ ap (λ (t : Session). record t {
      batches = s.batches ++ so c.in-Ok.standing ∷ [];
      search = w;
    }) is in
    subst IsBetween (sym now)
    (between_so s c.args.predicate fs c.requires.between w c.in-Ok.standing
    (subst (λ (t : Session). GivesStanding t.base t.search w c.in-Ok.standing) is
    c.in-Ok.ensures.stands)
    c.requires.closed (sym c.if-not-open.ensures)
    (c.stand.ensures.limits ∙ ap (λ (t : Session). t.search.limits) is))

pub returns-clause-between : goal.returns-clause-between
returns-clause-between c =
    let s = c.args.self.now in
    let fs = c.args.formulas in
    let w = c.stand.new.search in
    let is = c.in_ok-join.ensures.joins ∙ ap (joined s c.args.predicate) c.as_slice.ensures in
    subst IsBetween
    (sym (taken_is s c.args.predicate fs c.requires.between c.join.new.self c.take_newest.new.self w
    c.take_newest.result is c.take_newest.ensures.batches c.take_newest.ensures.rest))
    (between_again s c.args.predicate fs c.requires.between w
    (subst (λ (t : Session). IsAgain t.search w) is c.in-Err.ensures.again))
