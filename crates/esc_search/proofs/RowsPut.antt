-- Rows that were copied fit where unknowns and restrictions are as they were, and what unknowns
-- stand for only grew.
use Rattle.std.proofs.Common.{◌≡◌, ℕ, ◌<◌, ◌≤◌, List, length, take, get_or, sym, ap, subst, ◌∙◌}
use Rattle.std.proofs.Common.{arith, length-append}
use Rattle.std.specs.Prelude.{◌↔◌}
use Rattle.std.specs.List.{All, Contains}
use Rattle.std.proofs.Math.Seq.{take-append_seam}
use Rattle.std.proofs.lemmas.List.{get_or-take, length-map, length-take, take-append-le, take-map}
use Rattle.esc_tableau.specs.Listed.{tabled}
use Rattle.esc_tableau.specs.Table.{IsRestricted, size}
use Rattle.esc_tableau.specs.declared.listed.Rows.{Rows}
use Rattle.esc_simplex.specs.Barred.{AreKeptRows}
use Rattle.esc_simplex.specs.Calls.{AreRowsFor}
use Rattle.esc_simplex.specs.Senses.{sense_of, senses_of, term_at, term_made}
use Rattle.esc_simplex.specs.SimplexUndo.{AreSame}
use Rattle.esc_simplex.specs.View.{IsBuiltAt, IsSimplex, senses_in}
use Rattle.esc_simplex.specs.declared.made.Made.{Made}
use Rattle.esc_simplex.specs.declared.simplex.Simplex.{Simplex}
use Rattle.esc_simplex.proofs.Grown.{map-places, meaning_among, none}
use Rattle.esc_play.specs.Play.{HasMore}

many_senses : (ms : List Made) → length (senses_of ms) ≡ length ms
unfolding senses_of
many_senses ms = length-map ms (sense_of ms)

module _ (v : Simplex) (is : IsSimplex v) (n : ℕ) (few : n ≤ length v.made) where
  fewer : length (take n v.made) ≡ n
  fewer = omega (arith, few, length-take n v.made)

  first_term : (u : ℕ) → u < n → term_at (take n v.made) u ≡ term_at v.made u
  first_term u b = ap term_made (get_or-take n v.made u none b)

  -- what the first unknowns stand for
  pub senses-take : senses_of (take n v.made) ≡ take n (senses_in v)
  unfolding senses_of
  senses-take =
      map-places (sense_of (take n v.made)) (sense_of v.made) (take n v.made) none
      (λ k b. meaning_among v.made (take n v.made) k (get_or (take n v.made) k none)
      (subst (IsBuiltAt v.made k) (sym (get_or-take n v.made k none (omega (arith, b, fewer))))
      (is.built k none (omega (arith, b, few, fewer))))
      (λ w l. first_term w (omega (arith, b, l, fewer))))
      ∙ sym (take-map (sense_of v.made) n v.made)

module _ (v w : Simplex) (v_is : IsSimplex v) (w_is : IsSimplex w) (same : AreSame v w)
    (more : HasMore (senses_in w) (senses_in v)) (rows : Rows) (fit : AreRowsFor w rows) where
  abbrev n : ℕ
  n = size (tabled rows)

  few_there : n ≤ length w.made
  few_there = omega (
    arith,
    fit.kept.rows.size,
    many_senses (take n w.made),
    length-take n w.made,
  )

  few_here : n ≤ length v.made
  few_here = omega (
    arith,
    few_there,
    many_senses w.made,
    many_senses v.made,
    ap length more.1,
    length-append (senses_in w) more.0,
  )

  first_same : take n (senses_in v) ≡ take n (senses_in w)
  first_same = ap (take n) more.1
      ∙ take-append-le n (senses_in w) more.0 (omega (arith, few_there, many_senses w.made))

  senses_same : senses_of (take n v.made) ≡ senses_of (take n w.made)
  senses_same = senses-take v v_is n few_here ∙ (first_same ∙ sym (senses-take w w_is n few_there))

  pub rows_still_fit : AreRowsFor v rows
  rows_still_fit = record {
    kept = subst (λ senses. AreKeptRows senses (tabled rows)) (sym senses_same) fit.kept;
    used = subst (All (λ u. u < n)) (sym same.unknowns) fit.used;
    restricted = λ u. subst (λ us. IsRestricted (tabled rows) u ↔ Contains us u)
        (sym same.restricted) (fit.restricted u);
    among = fit.among;
  }

  -- with the rows, unknowns stand for what they stood for
  pub senses_back : tabled rows ≡ w.tableau → senses_of (take n v.made) ≡ senses_in w
  senses_back copied =
      let all : n ≡ length (senses_in w) = ap size copied ∙ w_is.rows.size in
      senses-take v v_is n few_here ∙ (ap (λ k. take k (senses_in v)) all
      ∙ (ap (take (length (senses_in w))) more.1 ∙ take-append_seam (senses_in w) more.0))
