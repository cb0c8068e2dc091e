-- Rows with one gap more stand for the view, and what stops the steps on them is a stop of the
-- calls.
use Rattle.std.proofs.Common.{◌≡◌, inl, inr, ℕ, ◌<◌, Bool, false, Result, Ok, Err, IfErr, List, [], ◌∷◌, ◌++◌, length, get_or, pos, refl, sym, ap, ◌∙◌, arith}
use Rattle.std.proofs.lemmas.List.{get_or-map, length-map}
use Rattle.esc_term.specs.declared.term.Term.{Term}
use Rattle.esc_term.specs.declared.term.Term.TheVariants.{Num}
use Rattle.esc_frac.specs.Rational.{ℚ, zero_ℚ, ◌+ℚ◌}
use Rattle.esc_tableau.specs.Changes.{AddsRow, parts_value}
use Rattle.esc_tableau.specs.declared.changing.Part.{Part}
use Rattle.esc_tableau.specs.Table.{Table}
use Rattle.esc_simplex.specs.Barred.{AreGapParts, AreKeptRows, AreRowsAt, IsBarred}
use Rattle.esc_simplex.specs.Calls.{IsForTerm, gap_in}
use Rattle.esc_simplex.specs.Senses.{AreRowsOf, Sense, StandsFor, gap_of, sense_fraction, sense_of, senses_of, term, term_at, term_made}
use Rattle.esc_simplex.specs.Steps.{ExceedStops, KeepsSystem, gap_constant, gap_parts}
use Rattle.esc_simplex.specs.View.{IsSimplex, senses_in}
use Rattle.esc_simplex.specs.declared.made.Made.{Made}
use Rattle.esc_simplex.specs.declared.made.Made.TheVariants as made
use Rattle.esc_simplex.specs.declared.simplex.Simplex.{Simplex}
use Rattle.esc_simplex.specs.declared.stop.Stop.{Stop}
use Rattle.esc_simplex.proofs.Barring.{barred_on, barred_row}
use Rattle.esc_simplex.proofs.Kept.{simplex_kept}
use Rattle.esc_simplex.proofs.Parting.{made_there}
use Rattle.esc_simplex.proofs.Points.{point_of}
use Rattle.esc_simplex.proofs.Rowed.{gap_whole, old_sense, rows_with_row}
use Rattle.esc_simplex.proofs.SystemLaws.{keeps_back}

pub many : (v : Simplex) → length (senses_in v) ≡ length v.made
unfolding senses_of
many v = length-map v.made (sense_of v.made)

-- ---- the term of an unknown

unfoldable pub term_in : Sense → Term
term_in (term t) = t
term_in (gap_of g) = Num (pos 0)

pub is_made_for : (ms : List Made) (m : Made) (t : Term) → sense_of ms m ≡ term t → term_made m ≡ t
unfolding term_in
is_made_for ms (made.Term s) t e = ap term_in e
is_made_for ms (made.Gap u w strict) t e = absurd (cc)

-- an unknown for a term stands for the term that it was made for
pub stands_for_made : (v : Simplex) (u : ℕ) → IsForTerm v u
    → StandsFor (senses_in v) u (term (term_at v.made u))
unfolding senses_of
stands_for_made v u for =
    let there : u < length v.made = made_there v u for in
    let same : term_at v.made u ≡ for.0 =
    is_made_for v.made (get_or v.made u (made.Term (Num (pos 0)))) for.0
    (sym (get_or-map (sense_of v.made) v.made u (made.Term (Num (pos 0))) (term (Num (pos 0)))
    there) ∙ for.1.stands.is) in
    record { there = for.1.stands.there; is = for.1.stands.is ∙ ap term (sym same) }

-- ---- later rows

pub kept_later : (senses : List Sense) (t s : Table) → AreKeptRows senses t → KeepsSystem t s
    → AreKeptRows senses s
kept_later senses t s rows kept = record {
  table = kept.table;
  rows = record {
    size = kept.same.size ∙ rows.rows.size;
    sound = λ p h. rows.rows.sound p ((kept.same.solutions p).1 h);
    complete = λ p x h. (kept.same.solutions p).0 (rows.rows.complete p x h);
  };
  within = kept.within;
}

pub at_later : (w : Simplex) (t s : Table) → AreRowsAt w t → KeepsSystem t s → AreRowsAt w s
at_later w t s at kept = record {
  rows = record {
    forth = λ p h. let q = at.rows.forth p h in (q.0, (kept.same.solutions q.0).0 q.1, q.2);
    back = λ p h. at.rows.back p ((kept.same.solutions p).1 h);
  };
  restricted = λ u. (
    λ m. (at.restricted u).0 ((kept.same.restrictions u).1 m),
    λ c.
        (kept.same.restrictions u).0 ((at.restricted u).1 c),
  );
}

-- ---- one row more

module _ (v : Simplex) (h : IsSimplex v) (new : Table) (kept : KeepsSystem v.tableau new) where
  -- rows with one unknown more have the view's values for the others
  pub at_with_row : (t : Table) (s : Sense) (ps : List Part) (k : ℚ)
      → AreRowsOf (senses_in v ++ s ∷ []) t → AddsRow v.tableau t ps k
      → AreRowsAt (record v { tableau = new }) t
  at_with_row t s ps k rows adds = record {
    rows = record {
      forth = λ p holds.
          let found = h.rows.sound p ((kept.same.solutions p).1 holds) in
          let q = point_of (senses_in v ++ s ∷ []) found.0 in (
            q,
            rows.complete q found.0 (λ y b. refl),
            λ i d b.
                let y = get_or v.unknowns i d in
                let there : y < length (senses_in v) = below i d b in
                ap (sense_fraction found.0) (old_sense (senses_in v) s y there)
                ∙ sym (found.1 y there),
          );
      back = λ p holds. (
        p,
        (kept.same.solutions p).0 ((adds.solutions p).0 holds).0,
        λ i d b. refl,
      );
    };
    restricted = λ y. (
      λ m. (h.marked y).0 ((adds.restrictions y).1 m),
      λ c.
          (adds.restrictions y).0 ((h.marked y).1 c),
    );
  }
    where
      below : (i d : ℕ) → i < length v.unknowns → get_or v.unknowns i d < length (senses_in v)
      below i d b = omega (arith, h.listed i d b, many v)

-- ---- the row of a gap

module _ (v : Simplex) (h : IsSimplex v) (u w : ℕ) (upper : IsForTerm v u)
    (lower : IsForTerm v w) where
  pub gap_rows : (strict : Bool) (t : Table) (k : ℚ) → k ≡ gap_constant strict
      → AddsRow v.tableau t (gap_parts u w) k → AreRowsOf (senses_in v
      ++ gap_of (gap_in v u w strict) ∷ []) t
  gap_rows strict t k e adds =
      let first = stands_for_made v u upper in
      let second = stands_for_made v w lower in
      rows_with_row (senses_in v) v.tableau t (gap_parts u w) k (gap_of (gap_in v u w strict))
      h.rows adds
      (λ p x is. ap (λ q. parts_value p (gap_parts u w) +ℚ q) e
      ∙ gap_whole (senses_in v) u w (gap_in v u w strict) first.there first.is second.there
      second.is p x is)

  pub gap_row_parts : (strict : Bool) → AreGapParts (senses_in v) (gap_in v u w strict)
      (gap_parts u w)
  gap_row_parts strict = record {
    upper = u;
    lower = w;
    is_upper = stands_for_made v u upper;
    is_lower = stands_for_made v w lower;
    parts = refl;
  }

  module _ (new : Table) (kept : KeepsSystem v.tableau new) where
    barred_gap : (limit : ℕ) → limit ≡ v.limit → (s : Stop) → ExceedStops v.tableau u w limit s
        → IsBarred (record v { tableau = new }) (λ t. ⊥) (λ g. g ≡ gap_in v u w false) s
    barred_gap limit same s (inl stops) =
        barred_row (record v { tableau = new }) (λ t. ⊥) (λ g. g ≡ gap_in v u w false)
        (simplex_kept v h new kept) v.tableau (keeps_back v.tableau new h.table h.within
        kept.same)
        (gap_of (gap_in v u w false)) (gap_parts u w) zero_ℚ (gap_row_parts false, refl)
        (inl refl) s stops
    barred_gap limit same s (inr stops) =
        let rows = gap_rows false stops.start zero_ℚ refl stops.made.adds in
        let first : AreKeptRows (senses_in v ++ gap_of (gap_in v u w false) ∷ []) stops.start
        = record { table = stops.made.table; rows = rows; within = stops.made.within } in
        let first_at = at_with_row v h new kept stops.start (gap_of (gap_in v u w false))
        (gap_parts u w) zero_ℚ
        rows stops.made.adds in
        barred_on (record v { tableau = new }) (λ t. ⊥) (λ g. g ≡ gap_in v u w false) (senses_in v
        ++ gap_of (gap_in v u w false) ∷ []) (inr (gap_in v u w false, refl, refl))
        stops.start stops.now stops.unknown limit first first_at
        (kept_later (senses_in v ++ gap_of (gap_in v u w false) ∷ []) stops.start stops.now first
        stops.kept) (at_later (record v { tableau = new }) stops.start stops.now first_at
        stops.kept)
        (omega (arith, stops.is_new, stops.made.adds.size))
        (omega (arith, stops.is_new, stops.made.adds.size, stops.kept.same.size)) same s
        stops.stops

    pub exceed_barred : {V : Type 0} (r : Result V Stop)
        → IfErr r (ExceedStops v.tableau u w v.limit)
        → IfErr r (IsBarred (record v { tableau = new }) (λ t. ⊥) (λ g. g ≡ gap_in v u w false))
    exceed_barred (Ok x) stops = tt
    exceed_barred (Err s) stops = barred_gap v.limit refl s stops
