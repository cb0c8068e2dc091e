-- Views that keep their lists and restrictions mean the same.
use Rattle.std.proofs.Common.{◌≡◌, ℕ, true, false, ℤ, ◌≤ℤ◌, List, [], ◌∷◌, sym, subst, subst₂, arith}
use Rattle.std.specs.List.{Contains}
use Rattle.std.proofs.lemmas.Int.{ints}
use Rattle.esc_term.proofs.Members.{Contains-here, Contains-later}
use Rattle.esc_cover.specs.Assignment.{Assignment}
use Rattle.esc_simplex.specs.Barred.{IsBarred}
use Rattle.esc_simplex.specs.Calls.{ExceedShows, IsForTerm, KeepsLists, both_gaps, gap_in}
use Rattle.esc_simplex.specs.Senses.{StandsFor, senses_of, sense_value, term}
use Rattle.esc_simplex.specs.SimplexLaws.{barred_more}
use Rattle.esc_simplex.specs.View.{Allows, sense_in}
use Rattle.esc_simplex.specs.declared.made.Made.{Made}
use Rattle.esc_simplex.specs.declared.simplex.Simplex.{Simplex}
use Rattle.esc_simplex.specs.declared.stop.Stop.{Stop}

pub for_kept : (v w : Simplex) (u : ℕ) → KeepsLists v w → IsForTerm v u → IsForTerm w u
for_kept v w u keeps for = (
  for.0,
  record {
    listed = subst (λ us. Contains us u) (sym keeps.unknowns) for.1.listed;
    stands = subst (λ (ms : List Made). StandsFor (senses_of ms) u (term for.0)) (sym keeps.made)
        for.1.stands;
  },
)

pub parted_back : (v w : Simplex) (a b : ℕ) → KeepsLists v w → w.restricted ≡ v.restricted
    → ExceedShows w a b true → ExceedShows v a b true
parted_back v w a b keeps same = subst₂ (λ ms rs. ExceedShows
    (record v { made = ms; restricted = rs }) a b true) keeps.made same

pub below_back : (v w : Simplex) (a b : ℕ) → KeepsLists v w → w.restricted ≡ v.restricted
    → ExceedShows w a b false → ExceedShows v a b false
below_back v w a b keeps same = subst₂ (λ ms rs. ExceedShows
    (record v { made = ms; restricted = rs }) a b false) keeps.made same

pub equal_when : (v : Simplex) (a b : ℕ) → ExceedShows v a b false → ExceedShows v b a false
    → (x : Assignment) → Allows v x → sense_value x (sense_in v a) ≡ sense_value x (sense_in v b)
equal_when v a b first second x allowed = meet (first x allowed) (second x allowed)
  where
    meet : {m n : ℤ} → m ≤ℤ n → n ≤ℤ m → m ≡ n
    meet {m} {n} h k = omega (arith, ints, h, k)

-- ---- stops of one gap are stops of both

pub barred_first : (v w : Simplex) (a b : ℕ) (s : Stop)
    → IsBarred w (λ t. ⊥) (λ g. g ≡ gap_in v a b false) s
    → IsBarred w (λ t. ⊥) (Contains (both_gaps v a b)) s
barred_first v w a b s = barred_more w (λ t. ⊥) (λ t. ⊥) (λ g. g ≡ gap_in v a b false)
    (Contains (both_gaps v a b)) (λ t k. k)
    (λ g e. subst (Contains (both_gaps v a b)) (sym e)
    (Contains-here (gap_in v a b false) (gap_in v b a false ∷ []))) s

pub barred_second : (u v w : Simplex) (a b : ℕ) (s : Stop) → KeepsLists u v
    → IsBarred w (λ t. ⊥) (λ g. g ≡ gap_in v b a false) s
    → IsBarred w (λ t. ⊥) (Contains (both_gaps u a b)) s
barred_second u v w a b s keeps = barred_more w (λ t. ⊥) (λ t. ⊥) (λ g. g ≡ gap_in v b a false)
    (Contains (both_gaps u a b)) (λ t k. k)
    (λ g e. subst (Contains (both_gaps u a b)) (sym e)
    (subst (λ ms. Contains (both_gaps u a b) (gap_in (record v { made = ms }) b a false))
    (sym keeps.made)
    (Contains-later (gap_in u a b false) (gap_in u b a false ∷ []) (gap_in u b a false)
    (Contains-here (gap_in u b a false) [])))) s
