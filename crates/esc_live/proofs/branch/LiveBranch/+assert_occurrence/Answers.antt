use Rattle.std.proofs.Common.{◌≡◌, ◌+◌, ◌*◌, ◌<◌, false, get_or, [], ◌∷◌, Ok, ap, sym, subst, ◌∙◌, arith}
use Rattle.std.proofs.lemmas.List.{get_or_default}
use Rattle.esc_book.specs.Atom.{expansion_of}
use Rattle.esc_book.specs.Book.{BookView}
use Rattle.esc_clause.specs.Expansion as expansion
use Rattle.esc_clause.specs.declared.occurrence.Occurrence.{Occurrence}
use Rattle.esc_egraph.specs.declared.state.State.TheVariants as State
use Rattle.esc_tableau.proofs.RunLaws.{err_is}
use Rattle.esc_live.specs.StandingInside.{Asserts}
use Rattle.esc_live.specs.View.{logged}
use Rattle.esc_live.proofs.LiveNotes.{live_both, live_nothing}
use Rattle.esc_live.proofs.OccurrenceSteps.{asserts_parts, never_closed, parts_fall, parts_live}
use Rattle.esc_live.proofs.OccurrenceSteps.{size_falls}
use Rattle.esc_live.proofs.Parts.{size_at, sizes_at}
use Rattle.esc_live.proofs.Reaching.{all_reached, closed_next, err_next, live_after, reaches_next}
use Rattle.esc_live.proofs.Reaching.{reaches_nothing, steps_both, steps_nothing}
use Rattle.esc_live.proofs.branch.LiveBranch.+assert_occurrence.Goals as goal

abbrev no_occurrence : Occurrence
no_occurrence = record { fact = 0; place = 0; positive = false }

-- ---- its parts

pub assert_occurrence-assert_all-requires : goal.assert_occurrence-assert_all-requires
assert_occurrence-assert_all-requires t c =
    let expands : expansion.expanded (logged c.args.self.now) c.args.at
    ≡ expansion.AllOf c.as_slice.result.now =
    sym c.in-Ok.ensures ∙ (ap expansion_of c.in-AllOf.is
    ∙ ap expansion.AllOf (sym c.as_slice.ensures)) in
    let falls = parts_fall c.args.self.now c.args.at c.requires.live c.as_slice.result.now expands
    in (
      omega arith,
      (
        c.requires.standing,
        (
          c.requires.given,
          parts_live c.args.self.now c.args.at c.requires.live c.as_slice.result.now expands,
        ),
      ),
    )

pub assert_occurrence-returns-in-AllOf-clause-ends :
    goal.assert_occurrence-returns-in-AllOf-clause-ends
assert_occurrence-returns-in-AllOf-clause-ends t c =
    let expands : expansion.expanded (logged c.args.self.now) c.args.at
    ≡ expansion.AllOf c.as_slice.result.now =
    sym c.in-Ok.ensures ∙ (ap expansion_of c.in-AllOf.is
    ∙ ap expansion.AllOf (sym c.as_slice.ensures)) in
    asserts_parts c.args.self.now c.args.at c.requires.live c.as_slice.result.now expands
    c.expansion_laws.ensures.sound c.assert_all.new.self c.assert_all.ensures.steps
    c.assert_all.result c.assert_all.ensures.ends

-- ---- its clauses

pub assert_occurrence-assert_clauses-requires-clause-expands :
    goal.assert_occurrence-assert_clauses-requires-clause-expands
assert_occurrence-assert_clauses-requires-clause-expands t c =
    sym c.in-Ok.ensures ∙ (ap expansion_of c.in-OneOfEach.is
    ∙ ap expansion.OneOfEach (sym c.as_slice-in-OneOfEach.ensures))

-- ---- a literal

pub assert_occurrence-assert_once-requires-clause-literal :
    goal.assert_occurrence-assert_once-requires-clause-literal
assert_occurrence-assert_once-requires-clause-literal t c =
    sym c.in-Ok.ensures ∙ ap expansion_of c.in-Literal.is

-- ---- it cannot be

pub assert_occurrence-returns-in-Never-clause-ends :
    goal.assert_occurrence-returns-in-Never-clause-ends
assert_occurrence-returns-in-Never-clause-ends t c =
    never_closed c.args.self.now c.args.at c.expansion_laws.ensures.sound
    (sym c.in-Ok.ensures ∙ ap expansion_of c.in-Never.is)

pub assert_occurrence-returns-in-Never-clause-steps :
    goal.assert_occurrence-returns-in-Never-clause-steps
assert_occurrence-returns-in-Never-clause-steps t c =
    steps_nothing c.args.self.now c.requires.given

pub assert_occurrence-returns-in-Never-clause-undo :
    goal.assert_occurrence-returns-in-Never-clause-undo
assert_occurrence-returns-in-Never-clause-undo t c =
    live_nothing c.args.trail.now.records c.args.self.now

-- ---- memory is wanting

pub assert_occurrence-returns-in_default-clause-undo :
    goal.assert_occurrence-returns-in_default-clause-undo
assert_occurrence-returns-in_default-clause-undo t c =
    live_nothing c.args.trail.now.records c.args.self.now

-- ---- in order

pub assert_all-parts-init : goal.assert_all-parts-init
assert_all-parts-init t c = record {
  reaches = reaches_nothing c.args.self.now c.requires.standing;
  steps = steps_nothing c.args.self.now c.requires.given;
  undo = live_nothing c.args.trail.now.records c.args.self.now;
}

pub assert_all-parts-preserved : goal.assert_all-parts-preserved
assert_all-parts-preserved t c =
    let p = get_or c.args.parts.now c.parts.part-index no_occurrence in
    let is = get_or_default c.args.parts.now c.parts.part-index no_occurrence p
    c.parts-test.true in
    let stays : c.assert_occurrence.result ≡ Ok State.Open = c.in_ok-assert_occurrence.was
    ∙ ap Ok c.in-Open.is in
    record {
      reaches = reaches_next c.args.self.now c.parts.self c.parts.invariant.steps c.args.parts.now
          c.parts.part-index p c.parts-test.true is
          c.parts.invariant.reaches c.assert_occurrence.new.self
          (subst (Asserts c.parts.self c.assert_occurrence.new.self (p ∷ []))
          stays c.assert_occurrence.ensures.ends);
      steps = steps_both c.args.self.now c.parts.self c.assert_occurrence.new.self
          c.parts.invariant.steps c.assert_occurrence.ensures.steps;
      undo = live_both _ _ _ _ _ _ c.parts.invariant.undo c.assert_occurrence.ensures.undo;
    }

pub assert_all-assert_occurrence-requires : goal.assert_all-assert_occurrence-requires
assert_all-assert_occurrence-requires t c =
    let p = get_or c.args.parts.now c.parts.part-index no_occurrence in
    let falls : 1 + 3 * size_at (logged c.parts.self) p
    < 2 + 3 * sizes_at (logged c.args.self.now) c.args.parts.now =
    subst (λ (b : BookView). 1 + 3 * size_at b.logged p
    < 2 + 3 * sizes_at (logged c.args.self.now) c.args.parts.now)
    (sym c.parts.invariant.steps.book)
    (size_falls (logged c.args.self.now) c.args.parts.now c.parts.part-index no_occurrence
    c.parts-test.true) in (
      omega arith,
      (
        c.parts.invariant.reaches.standing,
        (
          c.parts.invariant.steps.given,
          live_after c.args.self.now c.parts.self p c.parts.invariant.steps
              (c.requires.live c.parts.part-index no_occurrence c.parts-test.true),
        ),
      ),
    )

pub assert_all-returns-clause-ends : goal.assert_all-returns-clause-ends
assert_all-returns-clause-ends t c =
    all_reached c.args.self.now c.parts.self c.args.parts.now c.parts.part-index
    c.parts-test.false c.parts.invariant.reaches

pub assert_all-returns-in-Closed-clause-ends : goal.assert_all-returns-in-Closed-clause-ends
assert_all-returns-in-Closed-clause-ends t c =
    let p = get_or c.args.parts.now c.parts.part-index no_occurrence in
    let is = get_or_default c.args.parts.now c.parts.part-index no_occurrence p
    c.parts-test.true in
    let closes : c.assert_occurrence.result ≡ Ok State.Closed = c.in_ok-assert_occurrence.was
    ∙ ap Ok c.in-Closed.is in
    closed_next c.args.self.now c.parts.self c.parts.invariant.steps c.args.parts.now
    c.parts.part-index p c.parts-test.true is c.parts.invariant.reaches
    (subst (Asserts c.parts.self c.assert_occurrence.new.self (p ∷ []))
    closes c.assert_occurrence.ensures.ends)

pub assert_all-returns-in-Closed-clause-steps : goal.assert_all-returns-in-Closed-clause-steps
assert_all-returns-in-Closed-clause-steps t c =
    steps_both c.args.self.now c.parts.self c.assert_occurrence.new.self c.parts.invariant.steps
    c.assert_occurrence.ensures.steps

pub assert_all-returns-in-Closed-clause-undo : goal.assert_all-returns-in-Closed-clause-undo
assert_all-returns-in-Closed-clause-undo t c =
    live_both _ _ _ _ _ _ c.parts.invariant.undo c.assert_occurrence.ensures.undo

pub assert_all-returns-in_err-assert_occurrence-clause-ends :
    goal.assert_all-returns-in_err-assert_occurrence-clause-ends
assert_all-returns-in_err-assert_occurrence-clause-ends t c =
    let p = get_or c.args.parts.now c.parts.part-index no_occurrence in
    let is = get_or_default c.args.parts.now c.parts.part-index no_occurrence p
    c.parts-test.true in
    subst (Asserts c.args.self.now c.assert_occurrence.new.self c.args.parts.now)
    (sym (err_is c.from_residual.result c.in_err-assert_occurrence.field-0.0
    c.from_residual.ensures))
    (err_next c.args.self.now c.parts.self c.parts.invariant.steps c.args.parts.now
    c.parts.part-index p c.parts-test.true is
    c.parts.invariant.reaches c.assert_occurrence.new.self c.in_err-assert_occurrence.field-0.0
    (subst (Asserts c.parts.self c.assert_occurrence.new.self (p ∷ []))
    c.in_err-assert_occurrence.was c.assert_occurrence.ensures.ends))

pub assert_all-returns-in_err-assert_occurrence-clause-steps :
    goal.assert_all-returns-in_err-assert_occurrence-clause-steps
assert_all-returns-in_err-assert_occurrence-clause-steps t c =
    steps_both c.args.self.now c.parts.self c.assert_occurrence.new.self c.parts.invariant.steps
    c.assert_occurrence.ensures.steps

pub assert_all-returns-in_err-assert_occurrence-clause-undo :
    goal.assert_all-returns-in_err-assert_occurrence-clause-undo
assert_all-returns-in_err-assert_occurrence-clause-undo t c =
    live_both _ _ _ _ _ _ c.parts.invariant.undo c.assert_occurrence.ensures.undo
