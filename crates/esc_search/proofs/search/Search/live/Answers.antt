use Rattle.std.proofs.Common.{◌<◌, ◌∙◌, ◌++◌, ◌∷◌, [], ap, ap₂, arith, get_or, length, refl, sym}
use Rattle.std.specs.Prelude.{slice_get}
use Rattle.std.proofs.lemmas.Option.{slice_get_past, slice_get_read}
use Rattle.esc_search.proofs.LiveFacts.{filter_map-take_none, filter_map-take_some}
use Rattle.esc_search.proofs.search.Search.live.Goals as goal
use Rattle.esc_search.proofs.search.Search.live.Goals.{in-Some+in_ok-copied+in_ok-push, in_default}

pub places-preserved : goal.places-preserved
places-preserved c =
    let log = c.args.self.now.log in
    let places = c.live-place-items.result.now in
    let i = c.places.place-index in
    let place = get_or places i 0 in
    let before : i < length places = omega (arith, c.places-test.true) in
    elim c.match-get.branch [
      | in-Some+in_ok-copied+in_ok-push w ↦
          let fact = w.in-Some.fact.now in
          let found = w.in-Some.ensures.lookup.3 in
          let is = ap (λ facts. slice_get facts place) (sym c.list.ensures)
          ∙ slice_get_read c.list.result.now _ place fact refl found.0 (found.1 fact) in
          w.facts-is ∙ (w.in_ok-push.ensures.ok
          ∙ (ap₂ (λ facts f. facts ++ f ∷ []) c.places.invariant w.in_ok-copied.ensures
          ∙ sym (filter_map-take_some (slice_get log) places i 0 before fact is)))
      | in_default w ↦
          let is = ap (λ facts. slice_get facts place) (sym c.list.ensures)
          ∙ slice_get_past c.list.result.now place w.in_default.ensures.lookup.3 in
          w.facts-is ∙ (c.places.invariant
          ∙ sym (filter_map-take_none (slice_get log) places i 0 before is))
    ]
