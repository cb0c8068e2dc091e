use Rattle.std.proofs.Common.{◌≡◌, ◌<◌, [], map, length, get_or, refl, sym, ap, ◌∙◌, arith, below_more, true≢false}
use Rattle.std.proofs.lemmas.List.{get_or-map, length-map}
use Rattle.esc_rows.specs.Rows.{solved}
use Rattle.esc_rows.proofs.RowLemmas.{element_is, same_elimination, not_both}
use Rattle.esc_rows.proofs.eliminating.try_eliminate_rows.Goals as goal
use Rattle.esc_rows.proofs.eliminating.try_eliminate_rows.Goals.{then-place-kept+in_ok-try_eliminate, else-place-kept}

pub try_eliminate-requires-clause-lengths : goal.try_eliminate-requires-clause-lengths
try_eliminate-requires-clause-lengths c =
    let inside : c.loop-place.place < length c.args.rows.now = omega arith in
    let was : c.deref.result.now ≡ get_or (map (λ es. es.items) c.args.rows.now)
    c.loop-place.place [] =
    c.deref.ensures.value ∙ ap (λ es. es.items) c.index-rows-place.is
    ∙ sym (get_or-map (λ es. es.items) c.args.rows.now c.loop-place.place _ [] inside) in
    ap length was ∙ c.requires.widths c.loop-place.place inside

pub returns-in_err-try_eliminate : goal.returns-in_err-try_eliminate
returns-in_err-try_eliminate c =
    let inside : c.loop-place.place < length c.args.rows.now = omega arith in
    let also : c.loop-place.place < length c.args.constants.now = omega arith in
    let was : c.deref.result.now ≡ get_or (map (λ es. es.items) c.args.rows.now)
    c.loop-place.place [] =
    c.deref.ensures.value ∙ ap (λ es. es.items) c.index-rows-place.is
    ∙ sym (get_or-map (λ es. es.items) c.args.rows.now c.loop-place.place _ [] inside) in
    let own = element_is c.args.constants.now _ _ also c.index-constants-place.is in
    let failed = c.in_err-try_eliminate.ensures in (
      λ ok. absurd (not_both _ ok c.from_residual.ensures.0),
      λ fits. absurd (true≢false (sym (failed.1 (same_elimination c.args.column
          (solved c.args.own.now c.args.column) c.args.constant (sym was) (sym own)
          (fits c.loop-place.place (omega (arith, length-map c.args.rows.now (λ es. es.items)))
          c.if-place-kept.true))))),
    )

pub loop-place-preserved : goal.loop-place-preserved
loop-place-preserved c =
    elim c.if-place-kept.branch [
      | then-place-kept+in_ok-try_eliminate w ↦
          let inside : c.loop-place.place < length c.args.rows.now = omega arith in
          let also : c.loop-place.place < length c.args.constants.now = omega arith in
          let was : w.deref.result.now ≡ get_or (map (λ es. es.items) c.args.rows.now)
          c.loop-place.place [] =
          w.deref.ensures.value ∙ ap (λ es. es.items) c.index-rows-place.is
          ∙ sym (get_or-map (λ es. es.items) c.args.rows.now c.loop-place.place _ [] inside) in
          let own = element_is c.args.constants.now _ _ also w.index-constants-place.is in
          below_more _ _ c.loop-place.invariant
          (λ other. same_elimination c.args.column (solved c.args.own.now c.args.column)
          c.args.constant was own (w.in_ok-try_eliminate.ensures.0 refl))
      | else-place-kept w ↦ below_more _ _ c.loop-place.invariant
          (λ other. absurd (other w.if-place-kept.false))
    ]
