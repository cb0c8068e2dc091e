-- What stops the steps on a tableau is a stop of the calls.
use Rattle.std.proofs.Common.{◌≡◌, inl, ℕ, ◌<◌, List, Some, refl, sym, ◌∙◌, subst, subst₂, arith}
use Rattle.esc_term.specs.declared.term.Term.{Term}
use Rattle.esc_frac.specs.Rational.{ℚ}
use Rattle.esc_tableau.specs.Listed.{tabled}
use Rattle.esc_tableau.specs.Table.{Table, size}
use Rattle.esc_tableau.specs.declared.changing.Part.{Part}
use Rattle.esc_tableau.specs.declared.listed.Rows.{Rows}
use Rattle.esc_cover.specs.Assignment.{Gap}
use Rattle.esc_simplex.specs.Barred.{AreKeptRows, AreRowParts, AreRowsAt, AreSensesAt, IsBarred, KeepsRows, KeptRunIsSpent, KeptStepJams, MayBeMade, RowJams}
use Rattle.esc_simplex.specs.Senses.{Sense}
use Rattle.esc_simplex.specs.Steps.{KeepsSystem, MaximisingStops, RowStops}
use Rattle.esc_simplex.specs.View.{IsSimplex, senses_in}
use Rattle.esc_simplex.specs.declared.simplex.Simplex.{Simplex}
use Rattle.esc_simplex.specs.declared.stop.Stop.{Stop}
use Rattle.esc_simplex.specs.declared.stop.Stop.TheVariants as stop
use Rattle.esc_simplex.proofs.Kept.{rows_alike}

-- rows that stand for the view are kept, whatever else is so of them
pub keeps_rows : (w : Simplex) (Gaps : Gap → Type 0) (senses : List Sense) (rows : Rows) (t : Table)
    (So : List Sense → Table → Type 0)
    → AreSensesAt w Gaps senses → tabled rows ≡ t → AreKeptRows senses t → AreRowsAt w t
    → So senses t → KeepsRows w Gaps rows So
keeps_rows w Gaps senses rows t So are same kept at so = record {
  senses = senses;
  senses_are = are;
  kept = subst (AreKeptRows senses) (sym same) kept;
  at_view = subst (AreRowsAt w) (sym same) at;
  so = subst (So senses) (sym same) so;
}

-- rows with the view's own solutions
pub own_rows : (w : Simplex) → IsSimplex w → (t : Table) → KeepsSystem w.tableau t
    → AreKeptRows (senses_in w) t
own_rows w h t kept = record {
  table = kept.table;
  rows = record {
    size = kept.same.size ∙ h.rows.size;
    sound = λ p s. h.rows.sound p ((kept.same.solutions p).1 s);
    complete = λ p x s. (kept.same.solutions p).0 (h.rows.complete p x s);
  };
  within = kept.within;
}

pub own_rows_at : (w : Simplex) → IsSimplex w → (t : Table) → KeepsSystem w.tableau t
    → AreRowsAt w t
own_rows_at w h t kept = record {
  rows = rows_alike w.unknowns w.tableau t kept.same.solutions;
  restricted = λ u. (
    λ m. (h.marked u).0 ((kept.same.restrictions u).1 m),
    λ c.
        (kept.same.restrictions u).0 ((h.marked u).1 c),
  );
}

-- ---- a maximising that stops

module _ (w : Simplex) (Terms : Term → Type 0) (Gaps : Gap → Type 0) (senses : List Sense)
    (are : AreSensesAt w Gaps senses) where
  -- on rows of these unknowns
  pub barred_on : (start now : Table) (u limit : ℕ) → AreKeptRows senses start → AreRowsAt w start
      → AreKeptRows senses now → AreRowsAt w now
      → u < size start → u < size now → limit ≡ w.limit → (s : Stop)
      → MaximisingStops start now u limit s → IsBarred w Terms Gaps s
  barred_on start now u limit first first_at last last_at below also same (stop.Spill j) h =
      keeps_rows w Gaps senses j.rows now (λ es t. KeptStepJams (MayBeMade es Terms Gaps) es t
      j.unknown j.step) are h.0.rows last last_at
      (subst (λ o. KeptStepJams (MayBeMade senses Terms Gaps) senses now o j.step) (sym h.0.unknown)
      (also, h.1))
  barred_on start now u limit first first_at last last_at below also same (stop.Form t) h = absurd h
  barred_on start now u limit first first_at last last_at below also same (stop.Pivots j) h = (
    h.1 ∙ same,
    keeps_rows w Gaps senses j.rows start (λ es t. KeptRunIsSpent t j.unknown j.limit) are h.0.rows
        first first_at
        (subst (λ o. KeptRunIsSpent start o j.limit) (sym h.0.unknown)
        (subst (λ n. KeptRunIsSpent start (Some u) n) (sym h.1) (below, h.2))),
  )
  barred_on start now u limit first first_at last last_at below also same stop.Memory h = tt

-- on the view's own rows
pub barred_maximising : (w : Simplex) (Terms : Term → Type 0) (Gaps : Gap → Type 0) → IsSimplex w
    → (start : Table) (u limit : ℕ)
    → KeepsSystem w.tableau start → KeepsSystem w.tableau w.tableau → u < size w.tableau → limit
    ≡ w.limit → (s : Stop) → MaximisingStops start w.tableau u limit s → IsBarred w Terms Gaps s
barred_maximising w Terms Gaps h start u limit first itself below same s stops =
    barred_on w Terms Gaps (senses_in w) (inl refl) start w.tableau u limit
    (own_rows w h start first) (own_rows_at w h start first) (own_rows w h w.tableau itself)
    (own_rows_at w h w.tableau itself)
    (omega (arith, first.same.size, below)) below same s stops

-- ---- a row that is not made

pub barred_row : (w : Simplex) (Terms : Term → Type 0) (Gaps : Gap → Type 0) → IsSimplex w
    → (t : Table) → KeepsSystem w.tableau t → (e : Sense) (ps : List Part) (k : ℚ)
    → AreRowParts (senses_in w) e ps k → MayBeMade (senses_in w) Terms Gaps e → (s : Stop)
    → RowStops t ps k s → IsBarred w Terms Gaps s
barred_row w Terms Gaps h t kept e ps k parts may (stop.Spill j) stops =
    keeps_rows w Gaps (senses_in w) j.rows t (λ es r. KeptStepJams (MayBeMade es Terms Gaps) es r
    j.unknown j.step) (inl refl) stops.0.rows (own_rows w h t kept) (own_rows_at w h t kept)
    (subst₂ (λ o step. KeptStepJams (MayBeMade (senses_in w) Terms Gaps) (senses_in w) t o step)
    (sym stops.0.unknown) (sym stops.1) (e, may, jams))
  where
    jams : RowJams (senses_in w) t e
    jams = record { parts = ps; constant = k; made_of = parts; jams = stops.2 }
barred_row w Terms Gaps h t kept e ps k parts may (stop.Form u) stops = absurd stops
barred_row w Terms Gaps h t kept e ps k parts may (stop.Pivots j) stops = absurd stops
barred_row w Terms Gaps h t kept e ps k parts may stop.Memory stops = tt
