-- Two parts are smaller than their whole.
use Rattle.std.proofs.Common.{◌≡◌, ◌⊎◌, inl, inr, ℕ, ◌+◌, ◌<◌, ap, arith}
use denote.Hole.Carrier.{roll}
use Rattle.esc_term.specs.declared.formula.Formula.{Formula}
use Rattle.esc_term.specs.declared.formula.Formula.TheVariants.{Implies, Iff}
use Rattle.esc_term.specs.declared.formula.Formula.TheOpen.{Formula-F}
use Rattle.esc_term.specs.declared.formula.Formula.TheViews.{roll-Formula}
use Rattle.esc_term.specs.declared.formula.Formula.TheFolds.{fold-roll-Formula}
use Rattle.esc_node_terms.proofs.FormulaSize.{formula_size, formula_step}

formula_size-Implies : (f g : Formula)
    → formula_size (Implies f g) ≡ 1 + (formula_size f + formula_size g)
unfolding formula_size roll-Formula roll
formula_size-Implies f g = fold-roll-Formula ℕ Unit formula_step (λ quant. tt)
    (Formula-F.Implies f g)

formula_size-Iff : (f g : Formula) → formula_size (Iff f g) ≡ 1 + (formula_size f + formula_size g)
unfolding formula_size roll-Formula roll
formula_size-Iff f g = fold-roll-Formula ℕ Unit formula_step (λ quant. tt) (Formula-F.Iff f g)

pub falls-two : (f h k p q : Formula) → (f ≡ Implies h k) ⊎ (f ≡ Iff h k) → p ≡ h → q ≡ k
    → formula_size p + formula_size q < formula_size f
falls-two f h k p q (inl e) first second =
    omega (
      arith,
      ap formula_size first,
      ap formula_size second,
      ap formula_size e,
      formula_size-Implies h k,
    )
falls-two f h k p q (inr e) first second =
    omega (
      arith,
      ap formula_size first,
      ap formula_size second,
      ap formula_size e,
      formula_size-Iff h k,
    )
