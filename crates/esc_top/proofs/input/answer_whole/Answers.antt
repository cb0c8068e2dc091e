use Rattle.std.proofs.Common.{◌≡◌, ◌∙◌, Err, ap, arith}
use Rattle.esc_top.proofs.ReadingLemmas.{hungry}
use Rattle.esc_top.proofs.UnderwayLemmas.{broken_told, reached_memory, reached_syntax}
use Rattle.esc_top.proofs.UnderwayLemmas.{stops_broken, stops_count, underway_forgot}
use Rattle.esc_top.proofs.UnderwayLemmas.{underway_told}
use Rattle.esc_top.proofs.input.answer_whole.Goals as goal

pub returns-in_err-tell-in-Ok-Some-clause-told : goal.returns-in_err-tell-in-Ok-Some-clause-told
returns-in_err-tell-in-Ok-Some-clause-told g c = λ options left rest written h.
    let gives = rw c.in-Ok-Some.field-0-is at c.in-Ok-Some.ensures.some in
    stops_broken c.next.new.self c.tell.new.self c.from_residual.result c.from_residual.ensures.0
    (broken_told c.reading_laws.ensures.found_stays c.expressions.reader c.next.new.self
    c.expressions.desk c.tell.new.self
    c.in-Ok-Some.sexp c.in_err-tell-in-Ok-Some.field-0.0
    (c.expressions.invariant.told options left rest written h) gives
    c.in_err-tell-in-Ok-Some.ensures.answers)

pub returns-in_err-tell-in-Ok-Some-clause-few : goal.returns-in_err-tell-in-Ok-Some-clause-few
returns-in_err-tell-in-Ok-Some-clause-few g c =
    let gives = rw c.in-Ok-Some.field-0-is at c.in-Ok-Some.ensures.some in
    omega (arith, gives.shorter, gives.end, c.tell.ensures.answers.few, c.expressions.invariant.few)

pub returns-in-Ok-None-clause-told : goal.returns-in-Ok-None-clause-told
returns-in-Ok-None-clause-told g c = λ options left rest written h.
    let now = c.expressions.invariant.told options left rest written h in
    let none = rw c.in-Ok-None.field-0-is at c.in-Ok-None.ensures.none in (
      underway_forgot c.expressions.reader c.next.new.self c.expressions.desk now none.1,
      hungry
          c.expressions.reader c.next.new.self none.0 none.1,
    )

pub returns-in-Ok-None-clause-few : goal.returns-in-Ok-None-clause-few
returns-in-Ok-None-clause-few g c =
    let none = rw c.in-Ok-None.field-0-is at c.in-Ok-None.ensures.none in
    omega (arith, none.1.later, c.expressions.invariant.few)

pub returns-in-Err-Fault-clause-told : goal.returns-in-Err-Fault-clause-told
returns-in-Err-Fault-clause-told g c = λ options left rest written h.
    let now = c.expressions.invariant.told options left rest written h in
    reached_syntax c.expressions.reader c.expressions.desk c.in-Err-Fault.fault now
    (c.in-Err-Fault.ensures.fault c.in-Err-Fault.fault (ap Err c.in-Err-Fault.field-0-is)).0

pub returns-in-Err-Fault-clause-few : goal.returns-in-Err-Fault-clause-few
returns-in-Err-Fault-clause-few g c =
    let kept = (c.in-Err-Fault.ensures.fault c.in-Err-Fault.fault
    (ap Err c.in-Err-Fault.field-0-is)).1 in
    let place : c.next.new.self.place ≡ c.expressions.reader.place = ap (λ u. u.place) kept in
    omega (arith, place, c.expressions.invariant.few)

pub returns-in-Err-Memory-clause-told : goal.returns-in-Err-Memory-clause-told
returns-in-Err-Memory-clause-told g c = λ options left rest written h.
    reached_memory c.expressions.reader c.expressions.desk
    (c.expressions.invariant.told options left rest written h)

pub expressions-smaller : goal.expressions-smaller
expressions-smaller g c =
    let gives = rw c.in-Ok-Some.field-0-is at c.in-Ok-Some.ensures.some in
    omega (arith, gives.shorter)

pub expressions-preserved-in_ok-tell-in-Ok-Some : goal.expressions-preserved-in_ok-tell-in-Ok-Some
expressions-preserved-in_ok-tell-in-Ok-Some g c =
    let gives = rw c.in-Ok-Some.field-0-is at c.in-Ok-Some.ensures.some in
    let same = ap (λ u. u.finished) gives.rest in
    record {
      told = λ options left rest written h.
          underway_told c.reading_laws.ensures.found_stays c.expressions.reader c.next.new.self
          c.expressions.desk c.tell.new.self
          c.in-Ok-Some.sexp
          (c.expressions.invariant.told options left rest written h) gives
          c.in_ok-tell-in-Ok-Some.ensures.answers;
      order = c.in_ok-tell-in-Ok-Some.ensures.order;
      few = omega (
        arith,
        gives.shorter,
        gives.end,
        c.tell.ensures.answers.few,
        c.expressions.invariant.few,
      );
      end = gives.end ∙ c.expressions.invariant.end;
      finished = same ∙ c.expressions.invariant.finished;
      count = c.in_ok-tell-in-Ok-Some.ensures.cause.kept ∙ c.expressions.invariant.count;
    }

pub expressions-preserved-in_ok-tell-in-Ok-Some-2 :
    goal.expressions-preserved-in_ok-tell-in-Ok-Some-2
expressions-preserved-in_ok-tell-in-Ok-Some-2 g c =
    let gives = rw c.in-Ok-Some.field-0-is at c.in-Ok-Some.ensures.some in
    let same = ap (λ u. u.finished) gives.rest in
    record {
      told = λ options left rest written h.
          underway_told c.reading_laws.ensures.found_stays c.expressions.reader c.next.new.self
          c.expressions.desk c.tell.new.self
          c.in-Ok-Some.sexp
          (c.expressions.invariant.told options left rest written h) gives
          c.in_ok-tell-in-Ok-Some.ensures.answers;
      order = c.in_ok-tell-in-Ok-Some.ensures.order;
      few = omega (
        arith,
        gives.shorter,
        gives.end,
        c.tell.ensures.answers.few,
        c.expressions.invariant.few,
      );
      end = gives.end ∙ c.expressions.invariant.end;
      finished = same ∙ c.expressions.invariant.finished;
      count = c.in_ok-tell-in-Ok-Some.ensures.cause.kept ∙ c.expressions.invariant.count;
    }

pub expressions-preserved : goal.expressions-preserved
expressions-preserved g c =
    let gives = rw c.in-Ok-Some.field-0-is at c.in-Ok-Some.ensures.some in
    let same = ap (λ u. u.finished) gives.rest in
    record {
      told = λ options left rest written h.
          underway_told c.reading_laws.ensures.found_stays c.expressions.reader c.next.new.self
          c.expressions.desk c.tell.new.self
          c.in-Ok-Some.sexp
          (c.expressions.invariant.told options left rest written h) gives
          c.in_ok-tell-in-Ok-Some.ensures.answers;
      order = c.in_ok-tell-in-Ok-Some.ensures.order;
      few = omega (
        arith,
        gives.shorter,
        gives.end,
        c.tell.ensures.answers.few,
        c.expressions.invariant.few,
      );
      end = gives.end ∙ c.expressions.invariant.end;
      finished = same ∙ c.expressions.invariant.finished;
      count = c.in_ok-tell-in-Ok-Some.ensures.cause.kept ∙ c.expressions.invariant.count;
    }

pub returns-in_err-tell-in-Ok-Some-clause-reads : goal.returns-in_err-tell-in-Ok-Some-clause-reads
returns-in_err-tell-in-Ok-Some-clause-reads g c = λ n. stops_count c.from_residual.result n
    c.from_residual.ensures.0
