use Rattle.std.proofs.Common.{◌≡◌, ◌+◌, ◌<◌, List, [], map, length, get_or, refl, sym, ap, ap₂, ◌∙◌, subst, arith, le_refl}
use Rattle.std.proofs.lemmas.List.{get_or-map}
use Rattle.esc_frac.specs.Rational.{ℚ, zero_ℚ, ◌+ℚ◌, ◌*ℚ◌}
use Rattle.esc_rows.proofs.RowLemmas.{SummedBelow, SummedBelow_more, SummedBelow_past, element_is, same_step}
use Rattle.esc_rows.proofs.eliminating.eliminate_constants.Goals as goal
use Rattle.esc_rows.proofs.eliminating.eliminate_constants.Goals.{then-place-kept, else-place-kept}

pub moved_constant-requires : goal.moved_constant-requires
moved_constant-requires c =
    let rows : List (List ℚ) = map (λ es. es.items) c.args.rows.now in
    let inside : c.loop-place.place < length c.args.rows.now = omega arith in
    let within : c.loop-place.place < length c.loop-place.constants = omega arith in
    let was : c.index-rows-place.result.items ≡ get_or rows c.loop-place.place [] =
    ap (λ es. es.items) c.index-rows-place.is ∙ sym
    (get_or-map (λ es. es.items) c.args.rows.now c.loop-place.place _ [] inside) in
    let column : c.args.column < length c.index-rows-place.result.items = omega
    (arith, c.requires.widths c.loop-place.place inside, ap length was) in
    let factor : c.index.result.now ≡ get_or (get_or rows c.loop-place.place []) c.args.column
    zero_ℚ =
    element_is c.index-rows-place.result.items c.args.column _ column c.index.ensures
    ∙ ap (λ (es : List ℚ). get_or es c.args.column zero_ℚ) was in
    let own : c.index-constants-place.result ≡ get_or c.args.constants.now c.loop-place.place
    zero_ℚ =
    element_is c.loop-place.constants _ _ within c.index-constants-place.is
    ∙ c.loop-place.invariant.left c.loop-place.place (le_refl c.loop-place.place) in
    λ some. same_step (sym factor) (sym own) refl (c.requires.fits c.loop-place.place inside
    c.if-place-kept.true (λ e. some (ap (λ (x : ℚ). x.num) factor ∙ e)))

pub loop-place-preserved : goal.loop-place-preserved
loop-place-preserved c =
    let rows : List (List ℚ) = map (λ es. es.items) c.args.rows.now in
    let inside : c.loop-place.place < length c.args.rows.now = omega arith in
    let within : c.loop-place.place < length c.loop-place.constants = omega arith in
    let kept = λ (ks : List ℚ). SummedBelow rows c.args.column c.args.constant c.args.constants.now
    ks c.args.kept (c.loop-place.place + 1) in
    elim c.if-place-kept.branch [
      | then-place-kept w ↦
          let was : c.index-rows-place.result.items ≡ get_or rows c.loop-place.place [] =
          ap (λ es. es.items) c.index-rows-place.is
          ∙ sym (get_or-map (λ es. es.items) c.args.rows.now c.loop-place.place _ [] inside) in
          let column : c.args.column < length c.index-rows-place.result.items = omega
          (arith, c.requires.widths c.loop-place.place inside, ap length was) in
          let factor : w.index.result.now ≡ get_or (get_or rows c.loop-place.place []) c.args.column
          zero_ℚ =
          element_is c.index-rows-place.result.items c.args.column _ column w.index.ensures
          ∙ ap (λ (es : List ℚ). get_or es c.args.column zero_ℚ) was in
          let own : w.index-constants-place.result
          ≡ get_or c.args.constants.now c.loop-place.place zero_ℚ =
          element_is c.loop-place.constants _ _ within w.index-constants-place.is
          ∙ c.loop-place.invariant.left c.loop-place.place (le_refl c.loop-place.place) in
          subst kept (sym w.constants-is) (SummedBelow_more rows c.args.column c.args.constant
          c.args.constants.now c.loop-place.constants c.args.kept c.loop-place.place
          w.moved_constant.result within
          (w.moved_constant.ensures ∙ ap₂ (λ (x y : ℚ). x +ℚ y *ℚ c.args.constant) own factor)
          c.loop-place.invariant)
      | else-place-kept w ↦
          subst kept (sym w.constants-is) (SummedBelow_past rows c.args.column c.args.constant
          c.args.constants.now c.loop-place.constants c.args.kept c.loop-place.place
          w.if-place-kept.false c.loop-place.invariant)
    ]
