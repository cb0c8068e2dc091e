-- Other rows with the same solutions and restrictions, and one more restriction.
use Rattle.std.proofs.Common.{◌≡◌, ◌⊎◌, inl, inr, ℕ, List, [], ◌∷◌, ◌++◌, map, refl, sym, ap, ◌∙◌, subst, arith}
use Rattle.std.specs.Prelude.{◌↔◌}
use Rattle.std.specs.List.{Contains}
use Rattle.std.proofs.lemmas.List.{length_push}
use Rattle.std.proofs.lemmas.List.Elements.{All-push, Contains-append_left, Contains-push, Contains-push_cases}
use Rattle.esc_rows.specs.Rows.{Point}
use Rattle.esc_tableau.specs.Changes.{Restricts}
use Rattle.esc_tableau.specs.Table.{Table, IsRestricted, IsSolution, IsTable}
use Rattle.esc_simplex.specs.Steps.{KeepsSystem}
use Rattle.esc_simplex.specs.SimplexUndo.{AreSame, CanGoBack, HaveSameRows, freed, newest, simplex_back}
use Rattle.esc_simplex.specs.SimplexLaws.{freed_less, freed_more}
use Rattle.esc_simplex.specs.View.{IsSimplex}
use Rattle.esc_simplex.specs.declared.record.SimplexRec.TheVariants.{Restricted}
use Rattle.esc_simplex.specs.declared.simplex.Simplex.{Simplex}
use Rattle.esc_simplex.proofs.Lists.{once_push, take-push}

-- ---- rows with the same solutions

pub rows_alike : (us : List ℕ) (t s : Table) → ((p : Point) → IsSolution t p ↔ IsSolution s p)
    → HaveSameRows us t s
rows_alike us t s same = record {
  forth = λ p h. (p, (same p).0 h, λ k d b. refl);
  back = λ p h. (p, (same p).1 h, λ k d b. refl);
}

module _ (v : Simplex) (h : IsSimplex v) (t : Table) (kept : KeepsSystem v.tableau t) where
  pub simplex_kept : IsSimplex (record v { tableau = t })
  simplex_kept = record {
    table = kept.table;
    rows = record {
      size = kept.same.size ∙ h.rows.size;
      sound = λ p s. h.rows.sound p ((kept.same.solutions p).1 s);
      complete = λ p x s. (kept.same.solutions p).0 (h.rows.complete p x s);
    };
    opaque_once = h.opaque_once;
    built = h.built;
    listed = h.listed;
    listed_once = h.listed_once;
    bound = λ k d b. (
      (h.bound k d b).0,
      record {
        listed = (h.bound k d b).1.listed;
        stands
            = (h.bound k d b).1.stands;
      },
    );
    bound_once = h.bound_once;
    restricted = h.restricted;
    restricted_once = h.restricted_once;
    marked = λ u. (
      λ m. (h.marked u).0 ((kept.same.restrictions u).1 m),
      λ c.
          (kept.same.restrictions u).0 ((h.marked u).1 c),
    );
    within = kept.within;
  }

  pub same_kept : AreSame (record v { tableau = t }) v
  same_kept = record {
    unknowns = refl;
    senses = refl;
    bound = refl;
    numbers = refl;
    restricted = refl;
    restrictions = refl;
    limit = refl;
    rows = rows_alike v.unknowns t v.tableau (λ p.
        ((kept.same.solutions p).1, (kept.same.solutions p).0));
  }

-- ---- one more restriction

module _ (v : Simplex) (h : IsSimplex v) (t : Table) (u : ℕ) (ok : IsTable t)
    (more : Restricts v.tableau t u) (used : Contains v.unknowns u) (new : Contains v.restricted u
    → ⊥) where
  abbrev with_restriction : Simplex
  with_restriction = record v { tableau = t; restricted = v.restricted ++ u ∷ [] }

  marked_then : (w : ℕ) → IsRestricted t w ↔ Contains (v.restricted ++ u ∷ []) w
  marked_then w = (
    (λ m. forth ((more.restrictions w).0 m)),
    (λ c. (more.restrictions w).1 (back (Contains-push_cases v.restricted u w c))),
  )
    where
      forth : IsRestricted v.tableau w ⊎ (w ≡ u) → Contains (v.restricted ++ u ∷ []) w
      forth (inl m) = Contains-append_left v.restricted (u ∷ []) w ((h.marked w).0 m)
      forth (inr e) = subst (Contains (v.restricted ++ u ∷ [])) (sym e)
          (Contains-push v.restricted u)

      back : Contains v.restricted w ⊎ (u ≡ w) → IsRestricted v.tableau w ⊎ (w ≡ u)
      back (inl c) = inl ((h.marked w).1 c)
      back (inr e) = inr (sym e)

  pub simplex_restricted : IsSimplex with_restriction
  simplex_restricted = record {
    table = ok;
    rows = record {
      size = more.size ∙ h.rows.size;
      sound = λ p s. h.rows.sound p ((more.solutions p).1 s);
      complete = λ p x s. (more.solutions p).0 (h.rows.complete p x s);
    };
    opaque_once = h.opaque_once;
    built = h.built;
    listed = h.listed;
    listed_once = h.listed_once;
    bound = λ k d b. (
      (h.bound k d b).0,
      record {
        listed = (h.bound k d b).1.listed;
        stands
            = (h.bound k d b).1.stands;
      },
    );
    bound_once = h.bound_once;
    restricted = All-push (Contains v.unknowns) v.restricted u h.restricted used;
    restricted_once = once_push v.restricted u h.restricted_once new;
    marked = marked_then;
    within = more.within h.within;
  }

  pub can_unrestrict : CanGoBack with_restriction Restricted
  can_unrestrict = omega (arith, length_push v.restricted u)

  pub same_unrestricted : AreSame (simplex_back with_restriction Restricted) v
  same_unrestricted = record {
    unknowns = refl;
    senses = refl;
    bound = refl;
    numbers = refl;
    restricted = take-push v.restricted u;
    restrictions = ap (map _) (take-push v.restricted u);
    limit = refl;
    rows = rows_alike v.unknowns (freed t (newest (v.restricted ++ u ∷ []))) v.tableau (λ p. (
      λ s. (more.solutions p).1 (freed_less t (newest (v.restricted ++ u ∷ [])) p s),
      λ s. freed_more t (newest (v.restricted ++ u ∷ [])) p ((more.solutions p).0 s),
    ));
  }
