-- Where a row and its solved form hold, and what is left of another row.
use Rattle.std.proofs.Common.{◌≡◌, ◌≢◌, ℕ, ◌<◌, List, map, length, set, get_or, pos, sym, ap, ap₂, ◌∙◌, arith, length-set}
use Rattle.std.proofs.lemmas.List.{length-map, get_or-map}
use Rattle.esc_frac.specs.Rational.{ℚ, zero_ℚ, one_ℚ, ◌+ℚ◌, neg_ℚ, ◌*ℚ◌, inverse_ℚ, ◌/ℚ◌}
use Rattle.esc_frac.proofs.FieldLaws.{+ℚ_comm, +ℚ_assoc, +ℚ-zero, zero-+ℚ, +ℚ-neg_ℚ, +ℚ_cancel, *ℚ_comm, *ℚ_assoc, *ℚ-one, *ℚ-+ℚ, +ℚ-*ℚ, neg_ℚ-*ℚ, *ℚ-inverse_ℚ}
use Rattle.esc_rows.specs.Rows.{Point, combination, RowHolds, solved, eliminated}
use Rattle.esc_rows.proofs.RowLemmas.{length-solved}
use Rattle.esc_rows.proofs.Combinations.{zero-*ℚ, +ℚ_right_comm, +ℚ_interchange, combination-scaled, combination-set, combination-plus_multiple}

-- -(a / p) is a times the negative inverse of p
pub neg_ℚ-divided : (p a : ℚ) → neg_ℚ (a /ℚ p) ≡ a *ℚ neg_ℚ (inverse_ℚ p)
neg_ℚ-divided p a =
    ap neg_ℚ (*ℚ_comm a (inverse_ℚ p)) ∙ sym (neg_ℚ-*ℚ (inverse_ℚ p) a)
    ∙ *ℚ_comm (neg_ℚ (inverse_ℚ p)) a

-- a summand goes to the other side
pub +ℚ_moved : (a b d : ℚ) → a +ℚ neg_ℚ b ≡ d → a ≡ b +ℚ d
+ℚ_moved a b d h =
    +ℚ_cancel a (b +ℚ d) (neg_ℚ b)
    (h ∙ sym (+ℚ_right_comm b d (neg_ℚ b) ∙ ap (λ x. x +ℚ d) (+ℚ-neg_ℚ b) ∙ zero-+ℚ d))

pub +ℚ_moved_back : (a b d : ℚ) → a ≡ b +ℚ d → a +ℚ neg_ℚ b ≡ d
+ℚ_moved_back a b d h =
    ap (λ x. x +ℚ neg_ℚ b) h ∙ +ℚ_right_comm b d (neg_ℚ b) ∙ ap (λ x. x +ℚ d) (+ℚ-neg_ℚ b)
    ∙ zero-+ℚ d

pub *ℚ-neg_ℚ : (p q : ℚ) → p *ℚ neg_ℚ q ≡ neg_ℚ (p *ℚ q)
*ℚ-neg_ℚ p q = *ℚ_comm p (neg_ℚ q) ∙ neg_ℚ-*ℚ q p ∙ ap neg_ℚ (*ℚ_comm q p)

-- an inverse may be left out of both sides
pub inverse_cancel : (a b p : ℚ) → p.num ≢ pos 0 → a *ℚ inverse_ℚ p ≡ b *ℚ inverse_ℚ p → a ≡ b
inverse_cancel a b p some h = sym (undone a) ∙ ap (λ x. x *ℚ p) h ∙ undone b
  where
    undone : (x : ℚ) → x *ℚ inverse_ℚ p *ℚ p ≡ x
    undone x = *ℚ_assoc x (inverse_ℚ p) p ∙ ap (λ y. x *ℚ y) (*ℚ_comm (inverse_ℚ p) p
        ∙ *ℚ-inverse_ℚ p some) ∙ *ℚ-one x

-- the solved row's sum: the value of the column's own unknown, and what the owner has above the
-- row's sum, over p
pub combination-solved : (v : Point) (es : List ℚ) (cs : List ℕ) (c o : ℕ) → c < length es
    → length es ≡ length cs → (get_or es c zero_ℚ).num ≢ pos 0
    → combination v (solved es c) (set cs c o) ≡ v (get_or cs c 0)
    +ℚ (v o +ℚ neg_ℚ (combination v es cs)) *ℚ inverse_ℚ (get_or es c zero_ℚ)
combination-solved v es cs c o h l some =
    let p : ℚ = get_or es c zero_ℚ in
    let inverse : ℚ = inverse_ℚ p in
    let x : ℚ = v (get_or cs c 0) in
    let s : ℚ = combination v es cs in
    let f : ℚ → ℚ = λ a. neg_ℚ (a /ℚ p) in
    let own : get_or (map f es) c zero_ℚ *ℚ x ≡ neg_ℚ x =
    ap (λ y. y *ℚ x) (get_or-map f es c zero_ℚ zero_ℚ h ∙ ap neg_ℚ (*ℚ-inverse_ℚ p some))
    ∙ neg_ℚ-*ℚ one_ℚ x ∙ ap neg_ℚ (*ℚ_comm one_ℚ x ∙ *ℚ-one x) in
    let replaced = combination-set v (map f es) cs c inverse o (rw length-map h)
    (length-map es f ∙ l) in
    let rest : combination v (map f es) cs +ℚ inverse *ℚ v o ≡ (v o +ℚ neg_ℚ s) *ℚ inverse =
    ap₂ (λ y z. y +ℚ z) (combination-scaled v (neg_ℚ inverse) f (neg_ℚ-divided p) es cs
    ∙ *ℚ-neg_ℚ s inverse ∙ sym (neg_ℚ-*ℚ s inverse)) (*ℚ_comm inverse (v o))
    ∙ +ℚ_comm (neg_ℚ s *ℚ inverse) (v o *ℚ inverse)
    ∙ sym (+ℚ-*ℚ (v o) (neg_ℚ s) inverse) in
    +ℚ_moved _ x _ (ap (λ y. combination v (solved es c) (set cs c o) +ℚ y) (sym own)
    ∙ replaced ∙ rest)

module _ (v : Point) (es : List ℚ) (cs : List ℕ) (c o : ℕ) (k : ℚ) (h : c < length es)
    (l : length es ≡ length cs) (some : (get_or es c zero_ℚ).num ≢ pos 0) where
  -- where a row holds, so does the solved one
  pub RowHolds-solved : RowHolds v cs o es k → RowHolds v (set cs c o) (get_or cs c 0) (solved es c)
      (neg_ℚ (k /ℚ get_or es c zero_ℚ))
  RowHolds-solved holds =
      let x : ℚ = v (get_or cs c 0) in
      let inverse : ℚ = inverse_ℚ (get_or es c zero_ℚ) in
      let above : v o +ℚ neg_ℚ (combination v es cs)
      ≡ k = +ℚ_moved_back (v o) (combination v es cs) k holds in
      sym (
      ap (λ y. y +ℚ neg_ℚ (k *ℚ inverse)) (combination-solved v es cs c o h l some
      ∙ ap (λ y. x +ℚ y *ℚ inverse) above)
      ∙ +ℚ_assoc x (k *ℚ inverse) (neg_ℚ (k *ℚ inverse))
      ∙ ap (λ y. x +ℚ y) (+ℚ-neg_ℚ (k *ℚ inverse))
      ∙ +ℚ-zero x
      )

  -- and the other way round
  pub RowHolds_from_solved : RowHolds v (set cs c o) (get_or cs c 0) (solved es c)
      (neg_ℚ (k /ℚ get_or es c zero_ℚ)) → RowHolds v cs o es k
  RowHolds_from_solved holds =
      let x : ℚ = v (get_or cs c 0) in
      let inverse : ℚ = inverse_ℚ (get_or es c zero_ℚ) in
      let above : ℚ = v o +ℚ neg_ℚ (combination v es cs) in
      let taken : x +ℚ neg_ℚ x ≡ above *ℚ inverse +ℚ neg_ℚ (k *ℚ inverse) =
      +ℚ_moved_back x x _ (holds ∙ ap (λ y. y +ℚ neg_ℚ (k *ℚ inverse))
      (combination-solved v es cs c o h l some)
      ∙ +ℚ_assoc x (above *ℚ inverse) (neg_ℚ (k *ℚ inverse))) in
      let equal : above *ℚ inverse ≡ k *ℚ inverse =
      +ℚ_cancel (above *ℚ inverse) (k *ℚ inverse) (neg_ℚ (k *ℚ inverse)) (sym taken ∙ +ℚ-neg_ℚ x
      ∙ sym (+ℚ-neg_ℚ (k *ℚ inverse))) in
      +ℚ_moved (v o) (combination v es cs) k (inverse_cancel above k (get_or es c zero_ℚ)
      some equal)

  -- where the solved row holds, another row's sum and constant stay what they were
  pub combination-eliminated : (others : List ℚ) (m : ℚ) → length others ≡ length cs
      → RowHolds v (set cs c o) (get_or cs c 0) (solved es c) (neg_ℚ (k /ℚ get_or es c zero_ℚ))
      → combination v (eliminated others c (solved es c)) (set cs c o)
      +ℚ (m +ℚ get_or others c zero_ℚ *ℚ neg_ℚ (k /ℚ get_or es c zero_ℚ))
      ≡ combination v others cs +ℚ m
  combination-eliminated others m width holds =
      let e : ℚ = get_or others c zero_ℚ in
      let constant : ℚ = neg_ℚ (k /ℚ get_or es c zero_ℚ) in
      let row : List ℚ = solved es c in
      let columns : List ℕ = set cs c o in
      let left : ℚ = combination v (set others c zero_ℚ) columns in
      let lent : length (set others c zero_ℚ) ≡ length columns = length-set others c zero_ℚ ∙ width
      ∙ sym (length-set cs c o) in
      let rows : length row ≡ length columns = length-solved es c ∙ l ∙ sym (length-set cs c o) in
      let inside : c < length others = omega (arith, width, l) in
      let without : left +ℚ e *ℚ v (get_or cs c 0) ≡ combination v others cs =
      combination-set v others cs c zero_ℚ o inside width
      ∙ ap (λ y. combination v others cs +ℚ y) (zero-*ℚ (v o))
      ∙ +ℚ-zero (combination v others cs) in
      ap (λ y. y +ℚ (m +ℚ e *ℚ constant)) (combination-plus_multiple v e (set others c zero_ℚ) row
      columns lent rows)
      ∙ +ℚ_interchange left (e *ℚ combination v row columns) m (e *ℚ constant)
      ∙ ap (λ y. left +ℚ m +ℚ y) (sym (*ℚ-+ℚ e (combination v row columns) constant)
      ∙ ap (λ y. e *ℚ y) (sym holds))
      ∙ +ℚ_right_comm left m (e *ℚ v (get_or cs c 0))
      ∙ ap (λ y. y +ℚ m) without
