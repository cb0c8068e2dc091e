-- Views that keep their lists and restrictions are the same, and take the same rows.
use Rattle.std.proofs.Common.{◌≡◌, ℕ, ◌<◌, List, map, take, refl, sym, ap, ◌∙◌, subst}
use Rattle.std.specs.Prelude.{◌↔◌}
use Rattle.std.specs.List.{All, Contains}
use Rattle.esc_tableau.specs.Listed.{tabled}
use Rattle.esc_tableau.specs.Table.{IsRestricted, size}
use Rattle.esc_tableau.specs.declared.listed.Rows.{Rows}
use Rattle.esc_trail.specs.Undo.{CanRewind}
use Rattle.esc_trail.proofs.Rewinding.{rewind-alike}
use Rattle.esc_simplex.specs.Barred.{AreKeptRows}
use Rattle.esc_simplex.specs.Calls.{AreRowsFor, KeepsLists}
use Rattle.esc_simplex.specs.Senses.{IsPointOf, sense_at, senses_of, term_at}
use Rattle.esc_simplex.specs.SimplexUndo.{AreSame, IsWithinOn}
use Rattle.esc_simplex.specs.View.{IsSimplex, sense_in}
use Rattle.esc_simplex.specs.declared.simplex.Simplex.{Simplex}
use Rattle.simplex_cases.specs.Undoing.{lawful, restrictions_undo}
use Rattle.simplex_cases.specs.declared.undoing.Rec.{Rec}
use Rattle.simplex_cases.specs.declared.undoing.Restrictions.{Restrictions}

-- rows of unknowns that stand for the same have the same solutions
within : (v w : Simplex) (us : List ℕ) → IsSimplex v → IsSimplex w → v.made ≡ w.made
    → IsWithinOn us v.tableau w.tableau
within v w us h k made p s =
    let point = h.rows.sound p s in (
      p,
      k.rows.complete p point.0 (subst (λ ms. IsPointOf (senses_of ms) point.0 p) made point.1),
      λ i d b. refl,
    )

module _ (v w : Simplex) (keeps : KeepsLists v w) (restricted : w.restricted ≡ v.restricted) where
  pub same_kept : IsSimplex v → IsSimplex w → AreSame w v
  same_kept h k = record {
    unknowns = keeps.unknowns;
    senses = ap (λ ms. map (λ u. sense_at (senses_of ms) u) w.unknowns) keeps.made
        ∙ ap (map (sense_in v)) keeps.unknowns;
    bound = keeps.bound;
    numbers = ap (λ ms. map (λ pair. (pair.0, term_at ms pair.1)) w.bound) keeps.made
        ∙ ap (map (λ pair. (pair.0, term_at v.made pair.1))) keeps.bound;
    restricted = restricted;
    restrictions = ap (λ ms. map (λ u. sense_at (senses_of ms) u) w.restricted) keeps.made
        ∙ ap (map (sense_in v)) restricted;
    limit = keeps.limit;
    rows = record {
      forth = within w v w.unknowns k h keeps.made;
      back = within v w w.unknowns h k (sym keeps.made);
    };
  }

  pub fit_kept : (rows : Rows) → AreRowsFor v rows → AreRowsFor w rows
  fit_kept rows fit = record {
    kept = subst (λ ms. AreKeptRows (senses_of (take (size (tabled rows)) ms)) (tabled rows))
        (sym keeps.made) fit.kept;
    used = subst (All (λ u. u < size (tabled rows))) (sym keeps.unknowns) fit.used;
    restricted = λ u. subst (λ rs. IsRestricted (tabled rows) u ↔ Contains rs u) (sym restricted)
        (fit.restricted u);
    among = fit.among;
  }

-- and take the same records back
pub rewinds_alike : (v w : Restrictions) (recs : List Rec) → AreSame w.simplex v.simplex
    → CanRewind restrictions_undo v recs → CanRewind restrictions_undo w recs
rewinds_alike v w recs same can = (rewind-alike restrictions_undo lawful w v recs same can).0
