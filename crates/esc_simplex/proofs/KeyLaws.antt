-- Unknowns with different keys differ somewhere within the restrictions.
use Rattle.std.proofs.Common.{◌≡◌, ◌≢◌, ◌⊎◌, inl, inr, ℕ, suc, List, [], ◌∷◌, get_or, Result, Ok, Err, IfOk, Vec, Global, true≢false, true, false, sym, ap, ap₂, ◌∙◌, arith, if◌then◌else◌}
use Rattle.std.specs.List.{fold}
use Rattle.std.proofs.lemmas.Bool.{cases_Bool, cases_eq}
use Rattle.std.proofs.lemmas.Bool.Decides.{Decides-int_eq}
use Rattle.std.specs.Ordering.{int_eq}
use Rattle.std.proofs.lemmas.List.{get_or_default}
use Rattle.esc_frac.specs.Rational.{ℚ, is_zero, ratio}
use Rattle.esc_frac.specs.RationalLaws.{ratio-parts}
use Rattle.esc_term.specs.Digest.{mixed}
use Rattle.esc_tableau.specs.Moving.{AreMoving}
use Rattle.esc_tableau.specs.Rule.{slope}
use Rattle.esc_tableau.specs.Table.{Table, sample}
use Rattle.esc_tableau.proofs.MovingLaws.{moves_part}
use Rattle.esc_simplex.specs.Calls.{IsForTerm}
use Rattle.esc_simplex.specs.Keys.{ArePartedAt, KeysPart, MayMove, fraction_mixed, slope_mixed}
use Rattle.esc_simplex.specs.View.{IsSimplex}
use Rattle.esc_simplex.specs.declared.simplex.Simplex.{Simplex}
use Rattle.esc_simplex.proofs.Parting.{parted_at_sample, parted_in}

-- two fractions are one, or are not
cases_ℚ : (p q : ℚ) → (p ≡ q) ⊎ (p ≢ q)
cases_ℚ p q = go (cases_Bool (int_eq p.num q.num)) (cases_eq p.den q.den)
  where
    go : (int_eq p.num q.num ≡ true) ⊎ (int_eq p.num q.num ≡ false) → (p.den ≡ q.den) ⊎ (p.den
        ≢ q.den) → (p ≡ q) ⊎ (p ≢ q)
    go (inl n) (inl d) = inl (sym (ratio-parts p)
        ∙ ap₂ ratio ((Decides-int_eq p.num q.num).0 n) d ∙ ratio-parts q)
    go (inl n) (inr d) = inr (λ e. d (ap (λ (x : ℚ). x.den) e))
    go (inr n) d = inr (λ e. true≢false
        (sym ((Decides-int_eq p.num q.num).1 (ap (λ (x : ℚ). x.num) e)) ∙ n))

module _ (v : Simplex) (h : IsSimplex v) (u w : ℕ) (first : IsForTerm v u)
    (second : IsForTerm v w) (same : sample v.tableau u ≡ sample v.tableau w) where
  slopes_part : (cs : List ℕ) → MayMove v.tableau cs → (a b : ℕ)
      → fold (slope_mixed v.tableau u) a cs ≢ fold (slope_mixed v.tableau w) b cs
      → (a ≢ b) ⊎ ArePartedAt v u w
  slopes_part [] may a b other = inl other
  slopes_part (c ∷ cs) may a b other =
      go (cases_ℚ (slope v.tableau u c) (slope v.tableau w c))
      (slopes_part cs (λ k d inside. may (suc k) d (omega arith))
      (slope_mixed v.tableau u a c) (slope_mixed v.tableau w b c) other)
    where
      go : (slope v.tableau u c ≡ slope v.tableau w c) ⊎ (slope v.tableau u c
          ≢ slope v.tableau w c)
          → (slope_mixed v.tableau u a c ≢ slope_mixed v.tableau w b c) ⊎ ArePartedAt v u w
          → (a ≢ b) ⊎ ArePartedAt v u w
      go (inl e) (inl mixes) = inl (λ s. mixes (ap₂ (λ (q : ℚ) (n : ℕ). if is_zero q then n else
          fraction_mixed (mixed n c) q) e s))
      go (inl e) (inr parted) = inr parted
      go (inr differ) tail =
          let moves = may 0 c (omega arith) in
          inr (parted_in v h u w first second (moves_part v.tableau h.table h.within c moves.0
          moves.1 u w same differ))

pub keys_part : KeysPart
keys_part v h cs may u w first second s r other =
    go (cases_ℚ (sample v.tableau u) (sample v.tableau w))
  where
    go : (sample v.tableau u ≡ sample v.tableau w) ⊎ (sample v.tableau u ≢ sample v.tableau w)
        → (s ≢ r) ⊎ ArePartedAt v u w
    go (inr differ) = inr (parted_at_sample v h u w first second differ)
    go (inl same) = seeds (slopes_part v h u w first second same cs may
        (fraction_mixed s (sample v.tableau u)) (fraction_mixed r (sample v.tableau w)) other)
      where
        seeds : (fraction_mixed s (sample v.tableau u) ≢ fraction_mixed r (sample v.tableau w))
            ⊎ ArePartedAt v u w → (s ≢ r) ⊎ ArePartedAt v u w
        seeds (inl mixes) = inl (λ e. mixes (ap₂ fraction_mixed e same))
        seeds (inr parted) = inr parted

pub moving_may : {E : Type 0} (t : Table) (r : Result (Vec ℕ Global) E)
    → IfOk r (λ v. AreMoving t v.items) → IfOk r (λ v. MayMove t v.items)
moving_may t (Ok v) are = λ k d inside. (are (get_or v.items k d)).0
    (k, inside, get_or_default v.items k (get_or v.items k d) d inside)
moving_may t (Err e) are = tt
