-- The depth of a draw as it is counted.
use Rattle.std.proofs.Common.{◌≡◌, ℕ, ◌<◌, ◌+◌, ◌^◌, List, [], ◌∷◌, length, get_or, map, ap, sym}
use Rattle.std.proofs.Common.{subst, ◌∙◌, arith, suc, zero}
use Rattle.std.specs.Prelude.{max, slice_index}
use Rattle.std.specs.List.{All, fold}
use Rattle.std.specs.Option.{option_map_or}
use Rattle.std.proofs.lemmas.Option.{slice_get-get_or}
use Rattle.esc_rounds.specs.declared.draw.Draw.{Draw}
use Rattle.esc_rounds.specs.declared.draw.Draw.TheVariants.{Witness, Instance}
use Rattle.esc_rounds.specs.declared.kept.Kept.{Kept}
use Rattle.esc_standing.specs.DrawsInside.{AreSmall, IsThere, depth_drawn, formula_depth}

fold_less : (b m : ℕ) (xs : List ℕ) → m < b → All (λ x. x < b) xs → fold max m xs < b
fold_less b m [] l all = l
fold_less b m (x ∷ xs) l all =
    let here = all 0 x (omega arith) in
    fold_less b (max m x) xs (omega (arith, l, here)) (λ k d h. all (suc k) d (omega (arith, h)))

nodes_less : (b : ℕ) (ds ns : List ℕ) → All (λ d. d < b) ds → All (λ n. n < length ds) ns
    → All (λ x. x < b) (map (slice_index ds) ns)
nodes_less b ds [] small there k d l = absurd (omega (arith, l))
nodes_less b ds (n ∷ ns) small there zero d l = small n 0 (there 0 n (omega arith))
nodes_less b ds (n ∷ ns) small there (suc k) d l =
    nodes_less b ds ns small (λ j e h. there (suc j) e (omega (arith, h))) k d (omega (arith, l))

module _ (ds : List ℕ) (ks : List Kept) (f : ℕ) (d : Kept) where
  pub formula_at_is : f < length ks → (get_or ks f d).depth ≡ formula_depth ks f
  formula_at_is l =
      sym (ap (λ o. option_map_or (λ (k : Kept). k.depth) o 0) (slice_get-get_or ks f d l))

  pub witness_is : (draw : Draw) → IsThere ds ks draw → draw ≡ Witness f
      → (get_or ks f d).depth ≡ depth_drawn ds ks draw
  witness_is draw there is =
      formula_at_is (subst (IsThere ds ks) is there) ∙ ap (depth_drawn ds ks) (sym is)

  pub instance_is : (draw : Draw) (ns : List ℕ) (n : ℕ) → IsThere ds ks draw
      → draw ≡ Instance f ns
      → n ≡ fold max (get_or ks f d).depth (map (slice_index ds) ns)
      → 1 + n ≡ depth_drawn ds ks draw
  instance_is draw ns n there is e =
      ap (λ m. 1 + m) (e ∙ ap (λ m. fold max m (map (slice_index ds) ns))
      (formula_at_is (subst (IsThere ds ks) is there).0))
      ∙ ap (depth_drawn ds ks) (sym is)

  pub instance_small : (draw : Draw) (ns : List ℕ) (n : ℕ) → IsThere ds ks draw → AreSmall ds ks
      → draw ≡ Instance f ns
      → n ≡ fold max (get_or ks f d).depth (map (slice_index ds) ns) → n < 2 ^ 63
  instance_small draw ns n there small is e =
      let at = subst (IsThere ds ks) is there in
      subst (λ m. m < 2 ^ 63) (sym e)
      (fold_less (2 ^ 63) (get_or ks f d).depth (map (slice_index ds) ns)
      (small.formulas f d at.0) (nodes_less (2 ^ 63) ds ns small.depths at.1))
