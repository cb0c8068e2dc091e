-- Parts are smaller than their whole, by the size that the walk over a formula goes by.
use Rattle.std.proofs.Common.{◌≡◌, ℕ, ◌+◌, ◌*◌, ◌<◌, ◌⊎◌, inl, inr, List, map, sum}
use Rattle.std.proofs.Common.{ap, arith}
use denote.Hole.Carrier.{roll}
use Rattle.esc_term.specs.declared.term.Sym.{Sym}
use Rattle.esc_term.specs.declared.formula.Formula.{Formula}
use Rattle.esc_term.specs.declared.formula.Formula.TheVariants.{And, Or, Not, Implies, Iff}
use Rattle.esc_term.specs.declared.formula.Formula.TheVariants.{LabelPos, LabelNeg}
use Rattle.esc_term.specs.declared.formula.Formula.TheOpen.{Formula-F}
use Rattle.esc_term.specs.declared.formula.Formula.TheViews.{roll-Formula}
use Rattle.esc_term.specs.declared.formula.Formula.TheFolds.{fold-Formula, fold-roll-Formula}

-- ---- how much stands in a formula

abbrev pub formula_step : Formula-F ℕ Unit → ℕ
formula_step (Formula-F.And parts) = 1 + sum parts
formula_step (Formula-F.Or parts) = 1 + sum parts
formula_step (Formula-F.Not part) = 1 + part
formula_step (Formula-F.Implies left right) = 1 + (left + right)
formula_step (Formula-F.Iff left right) = 1 + (left + right)
formula_step (Formula-F.LabelPos name part) = 1 + part
formula_step (Formula-F.LabelNeg name part) = 1 + part
formula_step _ = 1

unfoldable pub formula_size : Formula → ℕ
formula_size = fold-Formula ℕ Unit formula_step (λ quant. tt)

formula_size-And : (fs : List Formula) → formula_size (And fs) ≡ 1 + sum (map formula_size fs)
unfolding formula_size roll-Formula roll
formula_size-And fs = fold-roll-Formula ℕ Unit formula_step (λ quant. tt) (Formula-F.And fs)

formula_size-Or : (fs : List Formula) → formula_size (Or fs) ≡ 1 + sum (map formula_size fs)
unfolding formula_size roll-Formula roll
formula_size-Or fs = fold-roll-Formula ℕ Unit formula_step (λ quant. tt) (Formula-F.Or fs)

formula_size-Not : (f : Formula) → formula_size (Not f) ≡ 1 + formula_size f
unfolding formula_size roll-Formula roll
formula_size-Not f = fold-roll-Formula ℕ Unit formula_step (λ quant. tt) (Formula-F.Not f)

formula_size-Implies : (f g : Formula) →
    formula_size (Implies f g) ≡ 1 + (formula_size f + formula_size g)
unfolding formula_size roll-Formula roll
formula_size-Implies f g = fold-roll-Formula ℕ Unit formula_step (λ quant. tt)
    (Formula-F.Implies f g)

formula_size-Iff : (f g : Formula) → formula_size (Iff f g) ≡ 1 + (formula_size f + formula_size g)
unfolding formula_size roll-Formula roll
formula_size-Iff f g = fold-roll-Formula ℕ Unit formula_step (λ quant. tt) (Formula-F.Iff f g)

formula_size-LabelPos : (name : Sym) (f : Formula) →
    formula_size (LabelPos name f) ≡ 1 + formula_size f
unfolding formula_size roll-Formula roll
formula_size-LabelPos name f = fold-roll-Formula ℕ Unit formula_step (λ quant. tt)
    (Formula-F.LabelPos name f)

formula_size-LabelNeg : (name : Sym) (f : Formula) →
    formula_size (LabelNeg name f) ≡ 1 + formula_size f
unfolding formula_size roll-Formula roll
formula_size-LabelNeg name f = fold-roll-Formula ℕ Unit formula_step (λ quant. tt)
    (Formula-F.LabelNeg name f)

-- ---- what falls

module _ (f : Formula) where
  pub falls-part : (g part : Formula) →
      (f ≡ Not g) ⊎
      (((name : Sym) × (f ≡ LabelPos name g)) ⊎ ((name : Sym) × (f ≡ LabelNeg name g))) → part ≡ g →
      2 * formula_size part < 2 * formula_size f
  falls-part g part (inl e) same =
      omega (arith, ap formula_size same, ap formula_size e, formula_size-Not g)
  falls-part g part (inr (inl (name, e))) same =
      omega (arith, ap formula_size same, ap formula_size e, formula_size-LabelPos name g)
  falls-part g part (inr (inr (name, e))) same =
      omega (arith, ap formula_size same, ap formula_size e, formula_size-LabelNeg name g)

  pub falls-parts : (gs parts : List Formula) → (f ≡ And gs) ⊎ (f ≡ Or gs) → parts ≡ gs →
      1 + 2 * sum (map formula_size parts) < 2 * formula_size f
  falls-parts gs parts (inl e) same =
      omega (
        arith,
        ap (λ hs. sum (map formula_size hs)) same,
        ap formula_size e,
        formula_size-And gs,
      )
  falls-parts gs parts (inr e) same =
      omega (
        arith,
        ap (λ hs. sum (map formula_size hs)) same,
        ap formula_size e,
        formula_size-Or gs,
      )

  pub falls-left : (g h part : Formula) → (f ≡ Implies g h) ⊎ (f ≡ Iff g h) → part ≡ g →
      2 * formula_size part < 2 * formula_size f
  falls-left g h part (inl e) same =
      omega (arith, ap formula_size same, ap formula_size e, formula_size-Implies g h)
  falls-left g h part (inr e) same =
      omega (arith, ap formula_size same, ap formula_size e, formula_size-Iff g h)

  pub falls-right : (g h part : Formula) → (f ≡ Implies g h) ⊎ (f ≡ Iff g h) → part ≡ h →
      2 * formula_size part < 2 * formula_size f
  falls-right g h part (inl e) same =
      omega (arith, ap formula_size same, ap formula_size e, formula_size-Implies g h)
  falls-right g h part (inr e) same =
      omega (arith, ap formula_size same, ap formula_size e, formula_size-Iff g h)
