use Rattle.std.proofs.Common.{◌≡◌, ◌+◌, sym, ap, ◌∙◌}
use Rattle.std.specs.Prelude.{slice_index_or}
use Rattle.esc_sexp.specs.declared.parse.Step.{Step}
use Rattle.esc_sexp.specs.ParseInside.{standing, after, goes, steps}
use Rattle.esc_sexp.proofs.HasRead.{reading_step, read_step}
use Rattle.esc_sexp.proofs.reader.go_on.Goals as goal

pub bytes-preserved : goal.bytes-preserved
bytes-preserved c =
    let t = standing c.take.new.self in
    let step : goes t ≡ steps (standing c.bytes.parse) (c.args.place + c.bytes.i)
    (slice_index_or c.args.bytes.now c.bytes.i 0) =
    ap (λ (x : Step). after x t) (sym c.in-Goes.is) ∙ c.in_ok-take.ensures in (
      c.bytes.invariant.0 ∙ reading_step c.args.finished
          (standing c.bytes.parse) t c.args.place c.bytes.i c.args.bytes.now c.bytes-test.true step,
      λ q before place read. read_step q before c.args.place c.bytes.i c.args.bytes.now
          (standing c.bytes.parse) t c.bytes-test.true place step
          (c.bytes.invariant.1 q before place read),
    )
