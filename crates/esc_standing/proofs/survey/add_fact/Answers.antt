use Rattle.std.proofs.Common.{◌<◌, slice_index, length, sym, subst, take, None}
use Rattle.std.proofs.Common.{Some}
use Rattle.std.proofs.Common.{append-nil, arith}
use Rattle.esc_standing.specs.DrawsInside.{AreSmall, IsBehind, IsDrawOf}
use Rattle.esc_standing.specs.SurveyInside.{facts_at}
use Rattle.esc_standing.proofs.LiveFacts.{fact_is, formula_is, found_more, kept_is, nodes_are}
use Rattle.esc_standing.proofs.LiveFacts.{small_are}
use Rattle.esc_standing.proofs.LiveFacts.{behind_is, there, zip_long}
use Rattle.esc_standing.proofs.survey.add_fact.Goals as goal

pub bounds-formulas-number : goal.bounds-formulas-number
bounds-formulas-number c =
    subst (λ n. slice_index c.args.live.now c.args.place < n)
    (zip_long c.args.base.now c.args.log.now c.args.formulas.now c.requires.live.formulas_are)
    (there c.args.base.now c.args.graph.now c.args.log.now c.args.formulas.now c.args.live.now
    c.requires.live c.args.place c.requires.place c.index-log-number.result
    c.index-log-number.is)

pub draw_of-requires-clause-fact : goal.draw_of-requires-clause-fact
draw_of-requires-clause-fact c =
    fact_is c.args.base.now c.args.graph.now c.args.log.now c.args.formulas.now c.args.live.now
    c.requires.live c.args.place c.requires.place c.index-log-number.result
    c.index-log-number.is

pub draw_of-requires-clause-nodes : goal.draw_of-requires-clause-nodes
draw_of-requires-clause-nodes c =
    nodes_are c.args.base.now c.args.graph.now c.args.log.now c.args.formulas.now
    c.args.live.now c.requires.live c.args.place c.requires.place c.index-log-number.result
    c.index-log-number.is

pub draw_of-requires-clause-kept : goal.draw_of-requires-clause-kept
draw_of-requires-clause-kept c =
    kept_is c.args.base.now c.args.graph.now c.args.log.now c.args.formulas.now
    c.args.live.now c.requires.live c.args.place c.requires.place c.index-log-number.result
    c.index-log-number.is (length c.args.live.now) c.args.found.now c.requires.found

pub depth_of-depth-requires-clause-small : goal.depth_of-depth-requires-clause-small
depth_of-depth-requires-clause-small c =
    subst (λ ds. AreSmall ds c.as_slice-2.result.now) (sym c.as_slice.ensures)
    (subst (AreSmall c.args.found.now.depths) (sym c.as_slice-2.ensures)
    (small_are c.args.base.now c.args.graph.now c.args.log.now c.args.formulas.now
    c.args.live.now c.requires.live c.args.place c.requires.place c.index-log-number.result
    c.index-log-number.is (length c.args.live.now) c.args.found.now c.requires.found
    (omega (arith, c.well_formed))))

pub keep_formulas-requires-clause-is_fact : goal.keep_formulas-requires-clause-is_fact
keep_formulas-requires-clause-is_fact c =
    fact_is c.args.base.now c.args.graph.now c.args.log.now c.args.formulas.now c.args.live.now
    c.requires.live c.args.place c.requires.place c.index-log-number.result
    c.index-log-number.is

pub keep_formulas-requires-clause-named : goal.keep_formulas-requires-clause-named
keep_formulas-requires-clause-named c =
    formula_is c.args.base.now c.args.graph.now c.args.log.now c.args.formulas.now
    c.args.live.now c.requires.live c.args.place c.requires.place c.index-log-number.result
    c.index-log-number.is c.index-formulas-number.result c.index-formulas-number.is

pub returns-in_ok-push : goal.returns-in_ok-push
returns-in_ok-push c =
    let drawn : IsDrawOf c.args.base.now c.args.graph.now c.args.found.now.formulas.kept
    c.index-log-number.result (Some c.in-Some.draw) =
    subst (IsDrawOf c.args.base.now c.args.graph.now c.args.found.now.formulas.kept
    c.index-log-number.result) c.in-Some.is c.in_ok-draw.ensures in
    found_more c.args.base.now c.args.graph.now c.args.log.now c.args.formulas.now
    c.args.live.now c.requires.live c.args.place c.requires.place c.index-log-number.result
    c.index-log-number.is (length c.args.live.now) c.args.found.now c.requires.found
    c.index-formulas-number.result (Some c.in-Some.draw) c.depth_of-depth.result (record {
      depths = c.enter_terms.new.depths;
      formulas = c.keep_formulas.new.formulas;
      live = c.push.new.self;
    }) c.index-formulas-number.is drawn
    (c.depth_of-depth.ensures c.args.base.now c.args.graph.now
    (facts_at c.args.log.now (take c.args.place c.args.live.now)) (length c.args.live.now)
    c.index-log-number.result
    (subst (λ ds. IsBehind c.args.base.now c.args.graph.now
    (facts_at c.args.log.now (take c.args.place c.args.live.now)) (length c.args.live.now) ds
    c.as_slice-2.result.now c.index-log-number.result c.in_ok-draw.draw)
    (sym c.as_slice.ensures) (subst (λ ks. IsBehind c.args.base.now c.args.graph.now
    (facts_at c.args.log.now (take c.args.place c.args.live.now)) (length c.args.live.now)
    c.args.found.now.depths ks c.index-log-number.result c.in_ok-draw.draw)
    (sym c.as_slice-2.ensures) (behind_is c.args.base.now c.args.graph.now c.args.log.now
    c.args.formulas.now c.args.live.now c.requires.live c.args.place c.requires.place
    c.index-log-number.result c.index-log-number.is (length c.args.live.now) c.args.found.now
    c.requires.found c.in_ok-draw.draw c.in_ok-draw.ensures))))
    c.in_ok-keep_formulas.ensures c.in_ok-enter_terms.ensures.entered
    c.in_ok-push.ensures.ok

pub returns-in_default : goal.returns-in_default
returns-in_default c =
    let drawn : IsDrawOf c.args.base.now c.args.graph.now c.args.found.now.formulas.kept
    c.index-log-number.result None =
    subst (IsDrawOf c.args.base.now c.args.graph.now c.args.found.now.formulas.kept
    c.index-log-number.result) c.in_default.is c.in_ok-draw.ensures in
    found_more c.args.base.now c.args.graph.now c.args.log.now c.args.formulas.now
    c.args.live.now c.requires.live c.args.place c.requires.place c.index-log-number.result
    c.index-log-number.is (length c.args.live.now) c.args.found.now c.requires.found
    c.index-formulas-number.result None c.depth_of-depth.result (record {
      depths = c.enter_terms.new.depths;
      formulas = c.keep_formulas.new.formulas;
      live = c.args.found.now.live;
    }) c.index-formulas-number.is drawn
    (c.depth_of-depth.ensures c.args.base.now c.args.graph.now
    (facts_at c.args.log.now (take c.args.place c.args.live.now)) (length c.args.live.now)
    c.index-log-number.result
    (subst (λ ds. IsBehind c.args.base.now c.args.graph.now
    (facts_at c.args.log.now (take c.args.place c.args.live.now)) (length c.args.live.now) ds
    c.as_slice-2.result.now c.index-log-number.result c.in_ok-draw.draw)
    (sym c.as_slice.ensures) (subst (λ ks. IsBehind c.args.base.now c.args.graph.now
    (facts_at c.args.log.now (take c.args.place c.args.live.now)) (length c.args.live.now)
    c.args.found.now.depths ks c.index-log-number.result c.in_ok-draw.draw)
    (sym c.as_slice-2.ensures) (behind_is c.args.base.now c.args.graph.now c.args.log.now
    c.args.formulas.now c.args.live.now c.requires.live c.args.place c.requires.place
    c.index-log-number.result c.index-log-number.is (length c.args.live.now) c.args.found.now
    c.requires.found c.in_ok-draw.draw c.in_ok-draw.ensures))))
    c.in_ok-keep_formulas.ensures c.in_ok-enter_terms.ensures.entered
    (sym (append-nil c.args.found.now.live))
