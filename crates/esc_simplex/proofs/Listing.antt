-- An unknown comes into use.
use Rattle.std.proofs.Common.{ℕ, ◌<◌, [], ◌∷◌, ◌++◌, length, map, get_or, refl, sym, ap, ◌∙◌, subst, arith}
use Rattle.std.specs.List.{Contains}
use Rattle.std.proofs.lemmas.List.{length_push, length-map, get_or-map}
use Rattle.std.proofs.lemmas.List.Elements.{All-contains, All-push, Contains-append_left, Contains-push}
use Rattle.esc_simplex.specs.Senses.{Sense, StandsFor, term}
use Rattle.esc_simplex.specs.SimplexUndo.{AreSame, CanGoBack, newest, simplex_back}
use Rattle.esc_simplex.specs.View.{IsInUse, IsSimplex, senses_in}
use Rattle.esc_simplex.specs.declared.record.SimplexRec.TheVariants.{Listed}
use Rattle.esc_simplex.specs.declared.simplex.Simplex.{Simplex}
use Rattle.esc_simplex.proofs.Kept.{rows_alike}
use Rattle.esc_simplex.proofs.Lists.{newest-push, once_push, take-push}

module _ (v : Simplex) (h : IsSimplex v) (u : ℕ) (there : u < length v.made)
    (new : Contains v.unknowns u → ⊥) where
  abbrev listed : Simplex
  listed = record v { unknowns = v.unknowns ++ u ∷ [] }

  in_use_more : (w : ℕ) (s : Sense) → IsInUse v w s → IsInUse listed w s
  in_use_more w s held = record {
    listed = Contains-append_left v.unknowns (u ∷ []) w held.listed;
    stands = held.stands;
  }

  pub in_use_now : (s : Sense) → StandsFor (senses_in v) u s → IsInUse listed u s
  in_use_now s stands = record { listed = Contains-push v.unknowns u; stands = stands }

  pub simplex_listed : IsSimplex listed
  simplex_listed = record {
    table = h.table;
    rows = h.rows;
    opaque_once = h.opaque_once;
    built = h.built;
    listed = All-push (λ w. w < length v.made) v.unknowns u h.listed there;
    listed_once = once_push v.unknowns u h.listed_once new;
    bound = λ k d b. ((h.bound k d b).0, in_use_more _ (term (h.bound k d b).0) (h.bound k d b).1);
    bound_once = h.bound_once;
    restricted = λ k d b. Contains-append_left v.unknowns (u ∷ []) (get_or v.restricted k d)
        (h.restricted k d b);
    restricted_once = h.restricted_once;
    marked = h.marked;
    within = h.within;
  }

  bound_used : (w : ℕ) → Contains (map (λ (pair : ℕ × ℕ). pair.1) v.bound) w → Contains v.unknowns w
  bound_used w c =
      let inside : c.0 < length v.bound = omega (
        arith,
        c.1,
        length-map v.bound
            (λ (pair : ℕ × ℕ). pair.1),
      ) in
      subst (Contains v.unknowns) (sym (get_or-map (λ (pair : ℕ × ℕ). pair.1) v.bound c.0 (0, 0) w
      inside) ∙ c.2) (h.bound c.0 (0, 0) inside).1.listed

  pub can_unlist : CanGoBack listed Listed
  can_unlist = (
    omega (arith, length_push v.unknowns u),
    λ c. new (subst (Contains v.unknowns) (newest-push v.unknowns u)
        (All-contains (Contains v.unknowns) v.restricted (newest (v.unknowns ++ u ∷ []))
        h.restricted c)),
    λ c. new (subst (Contains v.unknowns) (newest-push v.unknowns u)
        (bound_used (newest (v.unknowns ++ u ∷ [])) c)),
  )

  pub same_unlisted : AreSame (simplex_back listed Listed) v
  same_unlisted = record {
    unknowns = take-push v.unknowns u;
    senses = ap (map _) (take-push v.unknowns u);
    bound = refl;
    numbers = refl;
    restricted = refl;
    restrictions = refl;
    limit = refl;
    rows = rows_alike _ v.tableau v.tableau (λ p. (λ s. s, λ s. s));
  }
