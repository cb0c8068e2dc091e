use Rattle.std.proofs.Common.{◌+◌, Option, sym, ap, ◌∙◌, subst, arith}
use Rattle.esc_tableau.specs.BoundInside.{LeavingJams}
use Rattle.esc_tableau.specs.Grid.{table_of}
use Rattle.esc_tableau.specs.Rule.{bounding}
use Rattle.esc_tableau.specs.Table.{entry}
use Rattle.esc_tableau.specs.declared.rule.Bound.{Bound}
use Rattle.esc_tableau.proofs.BoundLaws.{LeastSoFar, so_far_past, so_far_more, so_far_jams}
use Rattle.esc_tableau.proofs.MoveLaws.{falls_parts}
use Rattle.esc_tableau.proofs.RuleLaws.{bounding_some}
use Rattle.esc_tableau.proofs.Signs.{falls_signs}
use Rattle.esc_tableau.proofs.grid.Grid.leaving.Goals as goal
use Rattle.esc_tableau.proofs.grid.Grid.leaving.Goals.{in-None, in-Some+in-Ok}

pub bound-requires-clause-nonzero : goal.bound-requires-clause-nonzero
bound-requires-clause-nonzero c =
    let t = table_of c.args.self.now in
    let m = c.args.entrant in
    (falls_signs m.up (entry t c.in-Some.row m.column)
    (falls_parts t m c.in-Some.row (bounding_some t m c.numbered-owner.result c.in-Some.row
    (sym c.in-Some.ensures)).falls).1).whole

pub returns-in-Err-clause-jams : goal.returns-in-Err-clause-jams
returns-in-Err-clause-jams c =
    let t = table_of c.args.self.now in
    let m = c.args.entrant in
    subst (LeavingJams t m) (sym c.numbered-owner.ensures)
    (so_far_jams t m c.loop-number.best c.loop-number.number c.in-Some.row c.loop-number.invariant
    (ap (bounding t m) (sym c.numbered-owner.ensures) ∙ sym c.in-Some.ensures) c.in-Err.ensures)

pub loop-number-preserved : goal.loop-number-preserved
loop-number-preserved c =
    let t = table_of c.args.self.now in
    let m = c.args.entrant in
    let kept = λ (o : Option Bound). LeastSoFar t m o (c.loop-number.number + 1) in
    elim c.match-bounding.branch [
      | in-None w ↦
          subst kept (sym w.best-is) (so_far_past t m c.loop-number.best c.loop-number.number
          c.loop-number.invariant (ap (bounding t m) (sym c.numbered-owner.ensures)
          ∙ sym w.in-None.ensures))
      | in-Some+in-Ok w ↦
          subst kept (sym w.best-is)
          (so_far_more t m c.loop-number.best c.loop-number.number w.in-Some.row w.in-Ok.bound
          c.loop-number.invariant (ap (bounding t m) (sym c.numbered-owner.ensures)
          ∙ sym w.in-Some.ensures) w.in-Ok.ensures.0 w.in-Ok.ensures.1)
    ]

pub returns-clause-fits : goal.returns-clause-fits
returns-clause-fits c = λ _ w r below. c.loop-number.invariant.fits w r (omega arith)
