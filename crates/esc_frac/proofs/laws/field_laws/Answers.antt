use Rattle.std.proofs.Common.{pos}
use Rattle.esc_frac.proofs.FieldLaws.{+ℚ_comm, +ℚ_assoc, +ℚ-zero, +ℚ-neg_ℚ, *ℚ_comm, *ℚ_assoc, *ℚ-one, *ℚ-inverse_ℚ, *ℚ-+ℚ}
use Rattle.esc_frac.proofs.OrderLaws.{≤ℚ_refl, ≤ℚ_antisymm, ≤ℚ_trans, ≤ℚ_total, <ℚ-not, ≤ℚ-+ℚ, ≤ℚ-*ℚ}
use Rattle.esc_frac.proofs.WholeLaws.{whole_same, whole-+ℚ, whole-*ℚ, neg_ℚ-whole, whole-≤ℚ}
use Rattle.esc_frac.proofs.laws.field_laws.Goals as goal

pub returns-clause-field : goal.returns-clause-field
returns-clause-field c = record {
  sum_turned = +ℚ_comm;
  sum_grouped = +ℚ_assoc;
  sum_with_zero = +ℚ-zero;
  sum_with_negative = +ℚ-neg_ℚ;
  product_turned = *ℚ_comm;
  product_grouped = *ℚ_assoc;
  product_with_one = *ℚ-one;
  product_with_inverse = *ℚ-inverse_ℚ;
  distributed = *ℚ-+ℚ;
  zero_is_not_one = λ e. let nums = whole_same (pos 0) (pos 1) e in (cc);
}

pub returns-clause-order : goal.returns-clause-order
returns-clause-order c = record {
  reflexive = ≤ℚ_refl;
  antisymmetric = ≤ℚ_antisymm;
  transitive = ≤ℚ_trans;
  total = ≤ℚ_total;
  strict = <ℚ-not;
  sum = ≤ℚ-+ℚ;
  product = ≤ℚ-*ℚ;
}

pub returns-clause-whole : goal.returns-clause-whole
returns-clause-whole c = record {
  same = whole_same;
  sum = whole-+ℚ;
  product = whole-*ℚ;
  negative = neg_ℚ-whole;
  order = whole-≤ℚ;
}
