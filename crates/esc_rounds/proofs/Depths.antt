-- How deep the deepest of some nodes lies.
use Rattle.std.proofs.Common.{◌≡◌, ℕ, suc, ◌+◌, ◌<◌, ◌≤◌, inl, inr, Bool, true, false, not, ◌||◌}
use Rattle.std.proofs.Common.{List, []}
use Rattle.std.proofs.Common.{◌∷◌, length, get_or, map, refl, ap, sym, subst, ◌∙◌, arith}
use Rattle.std.specs.Prelude.{nat_le, max}
use Rattle.std.specs.List.{fold, list_any}
use Rattle.std.proofs.lemmas.Bool.{cases_lt}
use Rattle.std.proofs.lemmas.Bool.Decides.{leb_tells}
use Rattle.std.specs.Prelude.{nat_lt, slice_index}
use Rattle.std.specs.Option.{option_map_or}
use Rattle.std.proofs.lemmas.Option.{slice_get-get_or}
use Rattle.esc_rounds.specs.Due.{depth_of_formula, is_within}
use Rattle.esc_rounds.specs.Standing.{IsDrawable, Standing}
use Rattle.esc_rounds.specs.declared.draw.Draw.{Draw}
use Rattle.esc_rounds.specs.declared.draw.Draw.TheVariants.{Instance}
use Rattle.esc_rounds.specs.declared.kept.Kept.{Kept}

le_true : (a b : ℕ) → a ≤ b → nat_le a b ≡ true
le_true a b l = elim (leb_tells a b) [ inl h ↦ h.0 | inr h ↦ absurd (omega (arith, h.1, l)) ]

le_false : (a b : ℕ) → b < a → nat_le a b ≡ false
le_false a b l = elim (leb_tells a b) [ inl h ↦ absurd (omega (arith, h.1, l)) | inr h ↦ h.0 ]

start_least : (m : ℕ) (xs : List ℕ) → m ≤ fold max m xs
start_least m [] = omega arith
start_least m (x ∷ xs) = let l = start_least (max m x) xs in omega (arith, l)

pub deep_is : (limit k m : ℕ) (xs : List ℕ) → k ≡ m → limit ≤ m
    → false ≡ nat_le (1 + fold max k xs) limit
deep_is limit k m xs e l =
    let least = start_least k xs in
    sym (le_false (1 + fold max k xs) limit (omega (arith, least, l, e)))

pub above_is : (f : ℕ → ℕ) (limit k m : ℕ) (ns : List ℕ) → k ≡ m → m < limit
    → not (list_any (λ n. nat_le limit (f n)) ns) ≡ nat_le (1 + fold max k (map f ns)) limit
above_is f limit k m [] e l = sym (le_true (1 + k) limit (omega (arith, l, e)))
above_is f limit k m (n ∷ ns) e l =
    elim (cases_lt (f n) limit) [
      | inl less ↦
          ap (λ b. not (b || list_any (λ n. nat_le limit (f n)) ns))
          (le_false limit (f n) less)
          ∙ above_is f limit (max k (f n)) (max k (f n)) ns refl (omega (arith, less, l, e))
      | inr more ↦
          ap (λ b. not (b || list_any (λ n. nat_le limit (f n)) ns)) (le_true limit (f n) more)
          ∙ deep_is limit (max k (f n)) (max k (f n)) (map f ns) refl (omega (arith, more))
    ]

-- ---- instances

module _ (s : Standing) (limit f : ℕ) (d : Kept) (ns : List ℕ) (draw : Draw) where
  formula_depth : f < length s.formulas → depth_of_formula s f ≡ (get_or s.formulas f d).depth
  formula_depth l =
      ap (λ o. option_map_or (λ (k : Kept). k.depth) o 0) (slice_get-get_or s.formulas f d l)

  pub instance_within : (b : Bool) → IsDrawable s.graph s.formulas draw → draw ≡ Instance f ns
      → (get_or s.formulas f d).depth < limit
      → b ≡ list_any (λ n. nat_le limit (slice_index s.depths n)) ns
      → not b ≡ is_within s limit draw
  instance_within b drawable is less any =
      let l : f < length s.formulas =
      (subst (IsDrawable s.graph s.formulas) is drawable).0 in
      let depth : depth_of_formula s f ≡ (get_or s.formulas f d).depth = formula_depth l in
      ap not any
      ∙ (above_is (slice_index s.depths) limit (max 0 (depth_of_formula s f))
      (depth_of_formula s f) ns (omega arith) (omega (arith, depth, less))
      ∙ ap (is_within s limit) (sym is))

  pub instance_beyond : IsDrawable s.graph s.formulas draw → draw ≡ Instance f ns
      → limit ≤ (get_or s.formulas f d).depth
      → nat_lt (get_or s.formulas f d).depth limit ≡ is_within s limit draw
  instance_beyond drawable is more =
      let l : f < length s.formulas =
      (subst (IsDrawable s.graph s.formulas) is drawable).0 in
      let depth : depth_of_formula s f ≡ (get_or s.formulas f d).depth = formula_depth l in
      le_false (suc (get_or s.formulas f d).depth) limit (omega (arith, more))
      ∙ (deep_is limit (max 0 (depth_of_formula s f)) (depth_of_formula s f)
      (map (slice_index s.depths) ns) (omega arith) (omega (arith, depth, more))
      ∙ ap (is_within s limit) (sym is))
