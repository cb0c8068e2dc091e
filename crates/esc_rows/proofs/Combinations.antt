-- The laws of a sum of entries times values.
use Rattle.std.proofs.Common.{◌≡◌, ℕ, zero, suc, ◌<◌, List, [], ◌∷◌, map, length, set, get_or, sym, ap, ap₂, ◌∙◌, arith}
use Rattle.esc_frac.specs.Rational.{ℚ, zero_ℚ, ◌+ℚ◌, ◌*ℚ◌}
use Rattle.esc_frac.proofs.FieldLaws.{+ℚ_comm, +ℚ_assoc, zero-+ℚ, *ℚ_comm, *ℚ_assoc, *ℚ-zero, *ℚ-+ℚ, +ℚ-*ℚ}
use Rattle.esc_rows.specs.Rows.{Point, combination, plus_multiple}

pub zero-*ℚ : (p : ℚ) → zero_ℚ *ℚ p ≡ zero_ℚ
zero-*ℚ p = *ℚ_comm zero_ℚ p ∙ *ℚ-zero p

-- the second summand goes last
pub +ℚ_right_comm : (p q r : ℚ) → p +ℚ q +ℚ r ≡ p +ℚ r +ℚ q
+ℚ_right_comm p q r = +ℚ_assoc p q r ∙ ap (λ x. p +ℚ x) (+ℚ_comm q r) ∙ sym (+ℚ_assoc p r q)

pub +ℚ_interchange : (p q r s : ℚ) → (p +ℚ q) +ℚ (r +ℚ s) ≡ (p +ℚ r) +ℚ (q +ℚ s)
+ℚ_interchange p q r s =
    sym (+ℚ_assoc (p +ℚ q) r s) ∙ ap (λ x. x +ℚ s) (+ℚ_right_comm p q r) ∙ +ℚ_assoc (p +ℚ r) q s

-- a common factor comes out
pub combination-scaled : (v : Point) (s : ℚ) (f : ℚ → ℚ) → ((a : ℚ) → f a ≡ a *ℚ s)
    → (es : List ℚ) (cs : List ℕ) → combination v (map f es) cs ≡ combination v es cs *ℚ s
combination-scaled v s f h [] cs = sym (zero-*ℚ s)
combination-scaled v s f h (e ∷ es) [] = sym (zero-*ℚ s)
combination-scaled v s f h (e ∷ es) (c ∷ cs) =
    ap₂ (λ x y. x *ℚ v c +ℚ y) (h e) (combination-scaled v s f h es cs)
    ∙ ap (λ x. x +ℚ combination v es cs *ℚ s) (*ℚ_assoc e s (v c)
    ∙ ap (λ x. e *ℚ x) (*ℚ_comm s (v c)) ∙ sym (*ℚ_assoc e (v c) s))
    ∙ sym (+ℚ-*ℚ (e *ℚ v c) (combination v es cs) s)

-- an entry and its column are replaced
pub combination-set : (v : Point) (es : List ℚ) (cs : List ℕ) (i : ℕ) (x : ℚ) (u : ℕ) → i
    < length es → length es ≡ length cs → combination v (set es i x) (set cs i u)
    +ℚ get_or es i zero_ℚ *ℚ v (get_or cs i 0) ≡ combination v es cs +ℚ x *ℚ v u
combination-set v [] cs i x u h l = absurd (omega arith)
combination-set v (e ∷ es) [] i x u h l = absurd (omega arith)
combination-set v (e ∷ es) (c ∷ cs) zero x u h l = turned (x *ℚ v u) (combination v es cs)
    (e *ℚ v c)
  where
    turned : (a b d : ℚ) → a +ℚ b +ℚ d ≡ d +ℚ b +ℚ a
    turned a b d = +ℚ_comm (a +ℚ b) d ∙ ap (λ y. d +ℚ y) (+ℚ_comm a b) ∙ sym (+ℚ_assoc d b a)
combination-set v (e ∷ es) (c ∷ cs) (suc i) x u h l =
    +ℚ_assoc (e *ℚ v c) (combination v (set es i x) (set cs i u))
    (get_or es i zero_ℚ *ℚ v (get_or cs i 0))
    ∙ ap (λ y. e *ℚ v c +ℚ y) (combination-set v es cs i x u (omega arith) (omega arith))
    ∙ sym (+ℚ_assoc (e *ℚ v c) (combination v es cs) (x *ℚ v u))

-- a multiple of another row is added
pub combination-plus_multiple : (v : Point) (e : ℚ) (bs ns : List ℚ) (cs : List ℕ) → length bs
    ≡ length cs → length ns ≡ length cs → combination v (plus_multiple e bs ns) cs
    ≡ combination v bs cs +ℚ e *ℚ combination v ns cs
combination-plus_multiple v e [] [] [] h k = sym (zero-+ℚ (e *ℚ zero_ℚ) ∙ *ℚ-zero e)
combination-plus_multiple v e [] (n ∷ ns) [] h k = absurd (omega arith)
combination-plus_multiple v e [] ns (c ∷ cs) h k = absurd (omega arith)
combination-plus_multiple v e (a ∷ bs) [] [] h k = absurd (omega arith)
combination-plus_multiple v e (a ∷ bs) [] (c ∷ cs) h k = absurd (omega arith)
combination-plus_multiple v e (a ∷ bs) (n ∷ ns) [] h k = absurd (omega arith)
combination-plus_multiple v e (a ∷ bs) (n ∷ ns) (c ∷ cs) h k =
    ap₂ (λ x y. x +ℚ y) (+ℚ-*ℚ a (e *ℚ n) (v c) ∙ ap (λ x. a *ℚ v c +ℚ x) (*ℚ_assoc e n (v c)))
    (combination-plus_multiple v e bs ns cs (omega arith) (omega arith))
    ∙ +ℚ_interchange (a *ℚ v c) (e *ℚ (n *ℚ v c)) (combination v bs cs) (e *ℚ combination v ns cs)
    ∙ ap (λ x. a *ℚ v c +ℚ combination v bs cs +ℚ x)
    (sym (*ℚ-+ℚ e (n *ℚ v c) (combination v ns cs)))
