-- Rows of the first entries are put in place of a view's own.
use Rattle.std.proofs.Common.{◌≡◌, ℕ, ◌<◌, ◌≤◌, List, length, take, get_or, refl, sym, ap, ◌∙◌, subst, arith}
use Rattle.std.specs.List.{Contains}
use Rattle.std.proofs.lemmas.List.{get_or-take, length-map, length-take, take-map}
use Rattle.std.proofs.lemmas.List.Elements.{All-contains, Contains-get_or}
use Rattle.esc_tableau.specs.Listed.{tabled}
use Rattle.esc_tableau.specs.Table.{size}
use Rattle.esc_tableau.specs.declared.listed.Rows.{Rows}
use Rattle.esc_simplex.specs.Calls.{AreRowsFor}
use Rattle.esc_simplex.specs.Senses.{Sense, StandsFor, sense_at, sense_fraction, sense_of, senses_of, term, term_at, term_made}
use Rattle.esc_simplex.specs.SimplexUndo.{AreSame, IsWithinOn}
use Rattle.esc_simplex.specs.View.{IsBuiltAt, IsSimplex, sense_in, senses_in}
use Rattle.esc_simplex.specs.declared.made.Made.{Made}
use Rattle.esc_simplex.specs.declared.simplex.Simplex.{Simplex}
use Rattle.esc_simplex.proofs.Gapped.{many}
use Rattle.esc_simplex.proofs.Grown.{built_among, map-places, meaning_among, none, nought}
use Rattle.esc_simplex.proofs.Points.{point_of}

-- ---- the first entries

module _ (ms : List Made) (n : ℕ) (few : n ≤ length ms)
    (built : (u : ℕ) (other : Made) → u < length ms → IsBuiltAt ms u (get_or ms u other)) where
  fewer : length (take n ms) ≡ n
  fewer = omega (arith, length-take n ms)

  first_term : (u : ℕ) → u < n → term_at (take n ms) u ≡ term_at ms u
  first_term u b = ap term_made (get_or-take n ms u none b)

  first_senses : senses_of (take n ms) ≡ take n (senses_of ms)
  unfolding senses_of
  first_senses =
      map-places (sense_of (take n ms)) (sense_of ms) (take n ms) none
      (λ k b. meaning_among ms (take n ms) k (get_or (take n ms) k none)
      (subst (IsBuiltAt ms k) (sym (get_or-take n ms k none (omega (arith, b, fewer))))
      (built k none (omega (arith, b, fewer))))
      (λ w l. first_term w (omega (arith, b, l, fewer))))
      ∙ sym (take-map (sense_of ms) n ms)

  first_sense : (u : ℕ) → u < n → sense_at (senses_of (take n ms)) u ≡ sense_at (senses_of ms) u
  first_sense u b = ap (λ ss. sense_at ss u) first_senses
      ∙ get_or-take n (senses_of ms) u nought b

  many_senses : (ns : List Made) → length (senses_of ns) ≡ length ns
  unfolding senses_of
  many_senses ns = length-map ns (sense_of ns)

  first_stands : (u : ℕ) (s : Sense) → u < n → StandsFor (senses_of ms) u s
      → StandsFor (senses_of (take n ms)) u s
  first_stands u s b for = record {
    there = omega (arith, b, fewer, many_senses (take n ms));
    is = first_sense u b ∙ for.is;
  }

  stands_of_first : (u : ℕ) (s : Sense) → StandsFor (senses_of (take n ms)) u s
      → StandsFor (senses_of ms) u s
  stands_of_first u s for =
      let b : u < n = omega (arith, for.there, fewer, many_senses (take n ms)) in
      record {
        there = omega (arith, b, few, many_senses ms);
        is = sym (first_sense u b) ∙ for.is;
      }

  first_built : (u : ℕ) (other : Made) → u < length (take n ms)
      → IsBuiltAt (take n ms) u (get_or (take n ms) u other)
  first_built u other b =
      let inside : u < n = omega (arith, b, fewer) in
      subst (IsBuiltAt (take n ms) u) (sym (get_or-take n ms u other inside))
      (built_among ms (take n ms) u (λ w s l. first_stands w s (omega (arith, l, inside)))
      (get_or ms u other) (built u other (omega (arith, inside, few))))

-- ---- the view with them

module _ (v : Simplex) (h : IsSimplex v) (rows : Rows) (fit : AreRowsFor v rows) where
  abbrev n : ℕ
  n = size (tabled rows)

  abbrev pub put : Simplex
  put = record v { tableau = tabled rows; made = take n v.made }

  few : n ≤ length v.made
  few = omega (arith, fit.kept.rows.size, many put, length-take n v.made)

  used : (u : ℕ) → Contains v.unknowns u → u < n
  used u c = All-contains (λ w. w < n) v.unknowns u fit.used c

  pub put_simplex : IsSimplex put
  put_simplex = record {
    table = fit.kept.table;
    rows = fit.kept.rows;
    opaque_once = λ u w t e a b. h.opaque_once u w t e
        (stands_of_first v.made n few h.built u (term t) a)
        (stands_of_first v.made n few h.built w (term t) b);
    built = first_built v.made n few h.built;
    listed = λ k d b. omega (arith, fit.used k d b, fewer v.made n few h.built);
    listed_once = h.listed_once;
    bound = λ k d b.
        let held = (h.bound k d b).1 in (
          (h.bound k d b).0,
          record {
            listed = held.listed;
            stands = first_stands v.made n few h.built _ _ (used _ held.listed) held.stands;
          },
        );
    bound_once = h.bound_once;
    restricted = h.restricted;
    restricted_once = h.restricted_once;
    marked = fit.restricted;
    within = fit.kept.within;
  }

  kept_sense : (u : ℕ) → Contains v.unknowns u → sense_in put u ≡ sense_in v u
  kept_sense u c = first_sense v.made n few h.built u (used u c)

  pub put_same : AreSame put v
  put_same = record {
    unknowns = refl;
    senses = map-places (sense_in put) (sense_in v) v.unknowns 0
        (λ k b. kept_sense (get_or v.unknowns k 0) (Contains-get_or v.unknowns k 0 b));
    bound = refl;
    numbers = map-places _ _ v.bound (0, 0) (λ k b. ap (λ s. ((get_or v.bound k (0, 0)).0, s))
        (first_term v.made n few h.built (get_or v.bound k (0, 0)).1
        (used (get_or v.bound k (0, 0)).1 (h.bound k (0, 0) b).1.listed)));
    restricted = refl;
    restrictions = map-places (sense_in put) (sense_in v) v.restricted 0
        (λ k b. kept_sense (get_or v.restricted k 0) (h.restricted k 0 b));
    limit = refl;
    rows = record { forth = forth; back = back };
  }
    where
      forth : IsWithinOn v.unknowns (tabled rows) v.tableau
      forth p s =
          let found = fit.kept.rows.sound p s in (
            point_of (senses_in v) found.0,
            h.rows.complete (point_of (senses_in v) found.0) found.0 (λ u b. refl),
            λ k d b.
                let u = get_or v.unknowns k d in
                let c : Contains v.unknowns u = Contains-get_or v.unknowns k d b in
                ap (sense_fraction found.0) (sym (kept_sense u c))
                ∙ sym (found.1 u (omega (arith, used u c, fit.kept.rows.size))),
          )

      back : IsWithinOn v.unknowns v.tableau (tabled rows)
      back p s =
          let found = h.rows.sound p s in (
            point_of (senses_in put) found.0,
            fit.kept.rows.complete (point_of (senses_in put) found.0) found.0 (λ u b. refl),
            λ k d b.
                let u = get_or v.unknowns k d in
                let c : Contains v.unknowns u = Contains-get_or v.unknowns k d b in
                ap (sense_fraction found.0) (kept_sense u c)
                ∙ sym (found.1 u (omega (arith, used u c, few, many v))),
          )
