-- No unknowns and no rows.
use Rattle.std.proofs.Common.{◌≡◌, pos, [], refl, sym, subst, arith}
use Rattle.esc_term.proofs.Members.{Contains-none}
use Rattle.esc_tableau.specs.Table.{IsTable, IsWithin, Table, sample, table}
use Rattle.esc_cover.specs.Assignment.{Assignment}
use Rattle.esc_simplex.specs.Senses.{senses_of}
use Rattle.esc_simplex.specs.View.{IsSimplex}
use Rattle.esc_simplex.specs.declared.simplex.Simplex.{Simplex}

nothing : Assignment
nothing = record { denominator = 1; positive = omega arith; numerator = λ t. pos 0 }

-- a view of empty lists and rows
abbrev pub emptied : Simplex → Simplex
emptied v = record v {
  tableau = table [] [] [] [];
  made = [];
  unknowns = [];
  bound = [];
  restricted = [];
}

pub simplex_empty : (v : Simplex) → IsTable (table [] [] [] [])
    → IsWithin (table [] [] [] []) (sample (table [] [] [] [])) → IsSimplex (emptied v)
unfolding senses_of
simplex_empty v ok within = record {
  table = ok;
  rows = record {
    size = refl;
    sound = λ p h. (nothing, λ u b. absurd (omega (arith, b)));
    complete = λ p x is r b. absurd (omega (arith, b));
  };
  opaque_once = λ u w t e a b. absurd (omega (arith, a.there));
  built = λ u other b. absurd (omega (arith, b));
  listed = λ k d b. absurd (omega (arith, b));
  listed_once = λ i j a b e. absurd (omega (arith, a));
  bound = λ k d b. absurd (omega (arith, b));
  bound_once = λ i j a b e. absurd (omega (arith, a));
  restricted = λ k d b. absurd (omega (arith, b));
  restricted_once = λ i j a b e. absurd (omega (arith, a));
  marked = λ u. (λ m. absurd (omega (arith, m)), λ c. absurd (Contains-none u c));
  within = within;
}

pub simplex_of_empty : (v : Simplex) → v.tableau ≡ table [] [] [] [] → v.made ≡ [] → v.unknowns ≡ []
    → v.bound ≡ [] → v.restricted ≡ [] → IsTable v.tableau → IsWithin v.tableau (sample v.tableau)
    → IsSimplex v
simplex_of_empty v rows made unknowns bound restricted ok within =
    subst IsSimplex (λ i. record v {
      tableau = sym rows i;
      made = sym made i;
      unknowns = sym
          unknowns i;
      bound = sym bound i;
      restricted = sym restricted i;
    })
    (simplex_empty v (subst IsTable rows ok) (subst (λ (t : Table). IsWithin t (sample t)) rows
    within))
