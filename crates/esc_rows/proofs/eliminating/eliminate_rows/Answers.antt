use Rattle.std.proofs.Common.{◌≡◌, ◌≢◌, pos, ◌+◌, ◌<◌, List, [], map, length, set, get_or, sym, ap, ◌∙◌, subst, arith, le_refl}
use Rattle.std.proofs.lemmas.List.{get_or-map, length-map, map-set, set-get_or}
use Rattle.std.specs.Vec.{with_items}
use Rattle.esc_frac.specs.Rational.{ℚ, zero_ℚ}
use Rattle.esc_rows.specs.Steps.{MultipleFits}
use Rattle.esc_rows.specs.Rows.{eliminated}
use Rattle.esc_rows.proofs.RowLemmas.{RewrittenBelow, RewrittenBelow_more, RewrittenBelow_past, items-with_items}
use Rattle.esc_rows.proofs.eliminating.eliminate_rows.Goals as goal
use Rattle.esc_rows.proofs.eliminating.eliminate_rows.Goals.{then-place-kept, else-place-kept}

pub eliminate-requires-clause-lengths : goal.eliminate-requires-clause-lengths
eliminate-requires-clause-lengths c =
    let inside : c.loop-place.place < length c.loop-place.rows = omega arith in
    let was : c.deref_mut.result.now ≡ get_or (map (λ es. es.items) c.args.rows.now)
    c.loop-place.place [] =
    c.deref_mut.ensures.value ∙ sym (get_or-map (λ es. es.items) c.loop-place.rows
    c.loop-place.place _ [] inside)
    ∙ c.loop-place.invariant.left c.loop-place.place (le_refl c.loop-place.place) in
    ap length was ∙ c.requires.widths c.loop-place.place (omega arith) c.if-place-kept.true

pub eliminate-requires-clause-inside : goal.eliminate-requires-clause-inside
eliminate-requires-clause-inside c = omega (
  arith,
  eliminate-requires-clause-lengths c,
  c.requires.inside,
)

pub eliminate-requires-clause-fits : goal.eliminate-requires-clause-fits
eliminate-requires-clause-fits c =
    let inside : c.loop-place.place < length c.loop-place.rows = omega arith in
    let was : c.deref_mut.result.now ≡ get_or (map (λ es. es.items) c.args.rows.now)
    c.loop-place.place [] =
    c.deref_mut.ensures.value ∙ sym (get_or-map (λ es. es.items) c.loop-place.rows
    c.loop-place.place _ [] inside)
    ∙ c.loop-place.invariant.left c.loop-place.place (le_refl c.loop-place.place) in
    subst (λ (row : List ℚ). (get_or row c.args.column zero_ℚ).num ≢ pos 0
    → MultipleFits (get_or row c.args.column zero_ℚ) (set row c.args.column zero_ℚ)
    c.args.other.now) (sym was)
    (c.requires.fits c.loop-place.place (omega arith) c.if-place-kept.true)

pub loop-place-preserved : goal.loop-place-preserved
loop-place-preserved c =
    let inside : c.loop-place.place < length c.loop-place.rows = omega arith in
    let f : List ℚ → List ℚ = λ es. eliminated es c.args.column c.args.other.now in
    elim c.if-place-kept.branch [
      | then-place-kept w ↦
          let old : List (List ℚ) = map (λ es. es.items) c.args.rows.now in
          let rows : List (List ℚ) = map (λ es. es.items) c.loop-place.rows in
          let was : w.deref_mut.result.now ≡ get_or old c.loop-place.place [] =
          w.deref_mut.ensures.value ∙ sym (get_or-map (λ es. es.items) c.loop-place.rows
          c.loop-place.place _ [] inside)
          ∙ c.loop-place.invariant.left c.loop-place.place (le_refl c.loop-place.place) in
          let written : map (λ es. es.items) c.if-place-kept.rows
          ≡ set rows c.loop-place.place (f (get_or old c.loop-place.place [])) =
          ap (map (λ es. es.items)) w.rows-is
          ∙ map-set (λ es. es.items) c.loop-place.rows c.loop-place.place
          (with_items (get_or c.loop-place.rows c.loop-place.place c.index-rows-place.result)
          w.eliminate.new.row)
          ∙ ap (set rows c.loop-place.place) (items-with_items
          (get_or c.loop-place.rows c.loop-place.place c.index-rows-place.result)
          w.eliminate.new.row (w.eliminate.auto.row ∙ ap length w.deref_mut.ensures.value)
          ∙ w.eliminate.ensures ∙ ap f was) in
          subst (λ (after : List (List ℚ)). RewrittenBelow f old after c.args.kept
          (c.loop-place.place + 1)) (sym written)
          (RewrittenBelow_more f old rows c.args.kept c.loop-place.place
          (omega (arith, length-map c.loop-place.rows (λ es. es.items))) w.if-place-kept.true
          c.loop-place.invariant)
      | else-place-kept w ↦
          let same = w.rows-is ∙ set-get_or c.loop-place.rows c.loop-place.place _ in
          subst (λ (after : List (List ℚ)). RewrittenBelow f (map (λ es. es.items) c.args.rows.now)
          after c.args.kept (c.loop-place.place + 1)) (sym (ap (map (λ es. es.items)) same))
          (RewrittenBelow_past f _ _ c.args.kept c.loop-place.place w.if-place-kept.false
          c.loop-place.invariant)
    ]
