use Rattle.std.proofs.Common.{◌≡◌, ◌+◌, ◌<◌, List, [], ◌∷◌, ◌++◌, map, length, set, get_or, sym, ap, ap₂, ◌∙◌, subst, arith, le_refl}
use Rattle.std.proofs.lemmas.List.{length-map, get_or-map, map-set, length-set, get_or-set_other}
use Rattle.std.specs.Vec.{vec_len, vec_capacity}
use Rattle.esc_frac.specs.Rational.{ℚ, zero_ℚ}
use Rattle.esc_rows.proofs.RowLemmas.{RewrittenBelow, RewrittenBelow_more, rewritten_all}
use Rattle.esc_rows.proofs.widening.widen.Goals as goal

pub push_reserved-requires : goal.push_reserved-requires
push_reserved-requires c = c.loop-row.invariant.room c.loop-row.row-index _
    (le_refl c.loop-row.row-index) (omega arith)

pub loop-row-preserved : goal.loop-row-preserved
loop-row-preserved c =
    let old : List (List ℚ) = map (λ es. es.items) c.args.rows.now in
    let rows : List (List ℚ) = map (λ es. es.items) c.loop-row.rows in
    let place = c.loop-row.row-index in
    let inside : place < length c.loop-row.rows = omega arith in
    let f : List ℚ → List ℚ = λ es. es ++ zero_ℚ ∷ [] in
    let was = sym (get_or-map (λ es. es.items) c.loop-row.rows place _ [] inside)
    ∙ c.loop-row.invariant.rows.left place (le_refl place) in
    let written : map (λ es. es.items) (set c.loop-row.rows place c.push_reserved.new.self)
    ≡ set rows place (f (get_or old place [])) =
    map-set (λ es. es.items) c.loop-row.rows place c.push_reserved.new.self
    ∙ ap (set rows place) (c.push_reserved.ensures.items
    ∙ ap₂ (λ (es : List ℚ) (x : ℚ). es ++ x ∷ []) was c.whole.ensures) in record {
      rows = subst (λ (after : List (List ℚ)). RewrittenBelow f old after (length c.args.rows.now)
          (place + 1)) (sym written)
          (RewrittenBelow_more f old rows (length c.args.rows.now) place
          (omega (arith, length-map c.loop-row.rows (λ es. es.items))) (omega arith)
          c.loop-row.invariant.rows);
      room = λ k d above below.
          subst (λ es. vec_len es < vec_capacity es)
          (sym (get_or-set_other c.loop-row.rows place k c.push_reserved.new.self d
          (omega arith)))
          (c.loop-row.invariant.room k d (omega arith)
          (omega (arith, length-set c.loop-row.rows place c.push_reserved.new.self)));
    }

pub returns : goal.returns
returns c =
    rewritten_all (λ es. es ++ zero_ℚ ∷ []) (map (λ es. es.items) c.args.rows.now)
    (map (λ es. es.items) c.loop-row.rows) (length c.args.rows.now) c.loop-row.row-index
    (length-map c.loop-row.rows (λ es. es.items) ∙ c.loop-row.auto.rows
    ∙ sym (length-map c.args.rows.now (λ es. es.items)))
    (omega (arith, length-map c.args.rows.now (λ es. es.items)))
    (omega (arith, length-map c.args.rows.now (λ es. es.items))) c.loop-row.invariant.rows
