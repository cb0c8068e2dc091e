-- A node is bound to an unknown.
use Rattle.std.proofs.Common.{◌≡◌, ◌⊎◌, inl, inr, ℕ, Bool, true, false, true≢false, cond, List, [], ◌∷◌, ◌++◌, map, Some, None, refl, sym, ap, ◌∙◌, subst, arith, ◌==◌}
use Rattle.std.specs.List.{All, Contains, find}
use Rattle.std.specs.Option.{option_map}
use Rattle.std.proofs.lemmas.Bool.{eq-eqb}
use Rattle.std.proofs.lemmas.List.{length_push, map-append}
use Rattle.std.proofs.lemmas.List.Elements.{All-push}
use Rattle.esc_term.specs.declared.term.Term.{Term}
use Rattle.esc_term.proofs.Members.{Contains-none, Contains-cases}
use Rattle.esc_simplex.specs.Calls.{IsForTerm}
use Rattle.esc_simplex.specs.Senses.{term}
use Rattle.esc_simplex.specs.SimplexUndo.{AreSame, CanGoBack, simplex_back}
use Rattle.esc_simplex.specs.View.{AreOnce, IsInUse, IsSimplex, bound_to}
use Rattle.esc_simplex.specs.declared.record.SimplexRec.TheVariants.{Bound}
use Rattle.esc_simplex.specs.declared.simplex.Simplex.{Simplex}
use Rattle.esc_simplex.proofs.Kept.{rows_alike}
use Rattle.esc_simplex.proofs.Lists.{once_push, take-push}

unbound : (bound : List (ℕ × ℕ)) (a : ℕ) → bound_to bound a ≡ None
    → Contains (map (λ pair. pair.0) bound) a → ⊥
unbound [] a e h = Contains-none a h
unbound (pair ∷ pairs) a e h = go (unbound pairs a) (pair.0 == a) refl
    (Contains-cases pair.0 (map (λ (p : ℕ × ℕ). p.0) pairs) a h)
  where
    go : (bound_to pairs a ≡ None → Contains (map (λ (p : ℕ × ℕ). p.0) pairs) a → ⊥) → (b : Bool)
        → (pair.0 == a) ≡ b → (pair.0 ≡ a) ⊎ Contains (map (λ (p : ℕ × ℕ). p.0) pairs) a → ⊥
    go rest true is cases = let first = ap (λ b. option_map (λ (p : ℕ × ℕ). p.1)
        (cond b (Some pair) (find (λ (p : ℕ × ℕ). p.0 == a) pairs))) is in let none = sym e
        ∙ first in cc
    go rest false is (inl same) = absurd (true≢false (sym (eq-eqb pair.0 a same) ∙ is))
    go rest false is (inr later) =
        let first = ap (λ b. option_map (λ (p : ℕ × ℕ). p.1)
        (cond b (Some pair) (find (λ (p : ℕ × ℕ). p.0 == a) pairs))) is in
        rest (sym first ∙ e) later

module _ (v : Simplex) (h : IsSimplex v) (a u : ℕ) (for : IsForTerm v u) (free : bound_to v.bound a
    ≡ None) where
  abbrev with_binding : Simplex
  with_binding = record v { bound = v.bound ++ (a, u) ∷ [] }

  bindings : All (λ pair. (t : Term) × IsInUse with_binding pair.1 (term t)) (v.bound
      ++ (a, u) ∷ [])
  bindings = All-push (λ (pair : ℕ × ℕ). (t : Term) × IsInUse with_binding pair.1 (term t))
      v.bound (a, u)
      (λ k d b. (
        (h.bound k d b).0,
        record {
          listed = (h.bound k d b).1.listed;
          stands
              = (h.bound k d b).1.stands;
        },
      ))
      (for.0, record { listed = for.1.listed; stands = for.1.stands })

  pub simplex_bound : IsSimplex with_binding
  simplex_bound = record {
    table = h.table;
    rows = h.rows;
    opaque_once = h.opaque_once;
    built = h.built;
    listed = h.listed;
    listed_once = h.listed_once;
    bound = bindings;
    bound_once = subst AreOnce (sym (map-append (λ (pair : ℕ × ℕ). pair.0) v.bound ((a, u) ∷ [])))
        (once_push (map (λ (pair : ℕ × ℕ). pair.0) v.bound) a h.bound_once
        (unbound v.bound a free));
    restricted = h.restricted;
    restricted_once = h.restricted_once;
    marked = h.marked;
    within = h.within;
  }

  pub can_unbind : CanGoBack with_binding Bound
  can_unbind = omega (arith, length_push v.bound (a, u))

  pub same_unbound : AreSame (simplex_back with_binding Bound) v
  same_unbound = record {
    unknowns = refl;
    senses = refl;
    bound = take-push v.bound (a, u);
    numbers = ap (map _) (take-push v.bound (a, u));
    restricted = refl;
    restrictions = refl;
    limit = refl;
    rows = rows_alike v.unknowns v.tableau v.tableau (λ p. (λ s. s, λ s. s));
  }
