use Rattle.std.proofs.Common.{◌≡◌, ◌+◌, ◌<◌, [], ◌∷◌, length, drop, refl, sym, ap, ◌∙◌, subst, arith, true≢false}
use Rattle.std.proofs.lemmas.List.{drop_more, drop_all}
use Rattle.esc_rows.proofs.RowLemmas.{not_both}
use Rattle.esc_tableau.specs.Changes.{Sum, sum, plus_parts, PartsFit}
use Rattle.esc_tableau.specs.Grid.{table_of}
use Rattle.esc_tableau.specs.declared.changing.Part.{Part}
use Rattle.esc_tableau.proofs.grid.Grid.add_parts.Goals as goal

pub loop-place-init : goal.loop-place-init
loop-place-init c = record { whole = refl; fits = (λ h. h, λ h. h) }

pub returns-in_err-total-clause-fits : goal.returns-in_err-total-clause-fits
returns-in_err-total-clause-fits c =
    let t = table_of c.args.self.now in
    let parts = c.args.parts.now in
    let place = c.loop-place.place in
    let inside : place < length parts = omega arith in
    let now = sum c.loop-place.entries c.loop-place.total in
    let split : drop place parts ≡ c.index-parts-place.result ∷ drop (place + 1) parts =
    drop_more parts place c.index-parts-place.result inside
    ∙ ap (λ (p : Part). p ∷ drop (place + 1) parts) (sym c.index-parts-place.is) in (
      λ ok. absurd (not_both _ ok c.from_residual.ensures.0),
      λ h. absurd (true≢false (sym (c.in_err-total.ensures.fits.1
          (subst (PartsFit t now) split (c.loop-place.invariant.fits.1 h)).0))),
    )

pub loop-place-preserved : goal.loop-place-preserved
loop-place-preserved c =
    let t = table_of c.args.self.now in
    let parts = c.args.parts.now in
    let place = c.loop-place.place in
    let inside : place < length parts = omega arith in
    let rest = drop (place + 1) parts in
    let part = c.index-parts-place.result in
    let now = sum c.loop-place.entries c.loop-place.total in
    let split : drop place parts ≡ part ∷ rest = drop_more parts place part inside
    ∙ ap (λ (p : Part). p ∷ rest) (sym c.index-parts-place.is) in
    let next = c.in_ok-total.ensures.ok in record {
      whole = ap (λ (s : Sum). plus_parts t s rest) next ∙ ap (plus_parts t now) (sym split)
          ∙ c.loop-place.invariant.whole;
      fits = (
        λ h. c.loop-place.invariant.fits.0 (subst (PartsFit t now) (sym split)
            (c.in_ok-total.ensures.fits.0 refl, subst (λ (s : Sum). PartsFit t s rest) next h)),
        λ h. subst (λ (s : Sum). PartsFit t s rest) (sym next)
            (subst (PartsFit t now) split (c.loop-place.invariant.fits.1 h)).1,
      );
    }

pub returns-clause-fits : goal.returns-clause-fits
returns-clause-fits c =
    let now = sum c.loop-place.entries c.loop-place.total in
    let none : drop c.loop-place.place c.args.parts.now
    ≡ [] = drop_all c.loop-place.place c.args.parts.now (omega arith) in (
      λ ok. c.loop-place.invariant.fits.0 (subst (PartsFit (table_of c.args.self.now) now)
          (sym none)
          tt),
      λ h. refl,
    )

pub returns-clause-ok : goal.returns-clause-ok
returns-clause-ok c =
    let now = sum c.loop-place.entries c.loop-place.total in
    let none : drop c.loop-place.place c.args.parts.now
    ≡ [] = drop_all c.loop-place.place c.args.parts.now (omega arith) in
    ap (plus_parts (table_of c.args.self.now) now) (sym none) ∙ c.loop-place.invariant.whole
