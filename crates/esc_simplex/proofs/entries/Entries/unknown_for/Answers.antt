use Rattle.std.proofs.Common.{◌≡◌, ℕ, ◌<◌, List, length, get_or, sym, subst, ap, ◌∙◌, arith, true≢false}
use Rattle.std.proofs.lemmas.List.{get_or_default}
use Rattle.esc_index.specs.Places.{HasNone, IsLastBefore}
use Rattle.esc_simplex.specs.Senses.{StandsFor, senses_of, term}
use Rattle.esc_simplex.specs.declared.made.Made.{Made}
use Rattle.esc_simplex.specs.declared.made.Made.TheVariants.{Term}
use Rattle.esc_simplex.specs.KeyedInside.{made_key}
use Rattle.esc_simplex.proofs.Finding.{made_back, made_nowhere, stands_made}
use Rattle.esc_simplex.proofs.Keyed.{keyed_length}
use Rattle.esc_simplex.proofs.entries.Entries.unknown_for.Goals as goal

pub returns-then-is_for : goal.returns-then-is_for
returns-then-is_for c =
    let there : c.in-Some.place < length c.self.inside.list = omega (
      arith,
      c.in-Some.ensures.some.before,
      c.places.invariant.bound,
      keyed_length made_key c.self.inside.list c.self.inside.index c.self.invariant,
    ) in
    let read : get_or c.self.inside.list c.in-Some.place c.index-as_slice-place.result
    ≡ Term c.args.term.now =
    ap (λ (ms : List Made). get_or ms c.in-Some.place c.index-as_slice-place.result)
    (sym c.as_slice.ensures) ∙ sym c.index-as_slice-place.is
    ∙ c.is_for.ensures.0 c.if-is_for.true in
    subst (λ (u : ℕ). StandsFor (senses_of c.args.self.now) u (term c.args.term.now))
    (sym c.numbered.ensures)
    (subst (λ ms. StandsFor (senses_of ms) c.in-Some.place (term c.args.term.now)) c.self.view_is
    (stands_made c.self.inside.list c.args.term.now c.in-Some.place
    c.index-as_slice-place.result there read))

pub places-preserved : goal.places-preserved
places-preserved c =
    let last = c.in-Some.ensures.some in
    let there : c.in-Some.place < length c.self.inside.list = omega (
      arith,
      last.before,
      c.places.invariant.bound,
      keyed_length made_key c.self.inside.list c.self.inside.index c.self.invariant,
    ) in
    record {
      bound = omega (arith, last.before, c.places.invariant.bound);
      has = λ _. last.has;
      passed = made_back c.self.inside.list c.self.inside.index c.args.term.now c.places.end
          c.in-Some.place c.self.invariant
          (subst (λ key. IsLastBefore c.self.inside.index key c.places.end c.in-Some.place)
          c.term_key-key.ensures last) c.places.invariant.bound c.places.invariant.passed
          (λ m e. true≢false (sym (c.is_for.ensures.1 (c.index-as_slice-place.is
          ∙ ap (λ (ms : List Made). get_or ms c.in-Some.place c.index-as_slice-place.result)
          c.as_slice.ensures ∙ get_or_default c.self.inside.list c.in-Some.place
          c.index-as_slice-place.result m there ∙ e)) ∙ c.if-is_for.false));
    }

pub returns : goal.returns
returns c u for = made_nowhere c.self.inside.list c.self.inside.index c.args.term.now c.places.end
    c.self.invariant
    (subst (λ key. HasNone c.self.inside.index key 0 c.places.end) c.term_key-key.ensures
    c.in_default.ensures.none) c.places.invariant.passed u
    (subst (λ ms. StandsFor (senses_of ms) u (term c.args.term.now)) (sym c.self.view_is) for)
