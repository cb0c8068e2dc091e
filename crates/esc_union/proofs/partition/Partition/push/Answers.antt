use Rattle.std.proofs.Common.{◌≡◌, [], ◌∷◌, ◌++◌, length, map, arith, ap, ◌∙◌}
use Rattle.std.proofs.lemmas.Grind.{common_steps}
use Rattle.std.proofs.lemmas.List.{map-append}
use Rattle.esc_union.proofs.Holding.{IsHeld-push}
use Rattle.esc_union.proofs.partition.Partition.push.Goals as goal

pub invariant_of-self-2 : goal.invariant_of-self-2
invariant_of-self-2 c =
    let roots : c.push-3.new.self.items ≡ c.self.inside.roots.items
    ++ (length c.self.inside.roots.items ∷ []) = grind (arith, common_steps) in
    let one : c.push.new.self.items ≡ length c.self.inside.roots.items
    ∷ [] = grind (arith, common_steps) in
    let lists : c.push-2.new.self.items ≡ c.self.inside.members.items
    ++ (c.push.new.self ∷ []) = grind (arith, common_steps) in
    let members : map (λ v. v.items) c.push-2.new.self.items
    ≡ map (λ v. v.items) c.self.inside.members.items
    ++ ((length c.self.inside.roots.items ∷ []) ∷ []) =
    ap (λ vs. map (λ v. v.items) vs) lists ∙ (map-append (λ v. v.items) c.self.inside.members.items
    (c.push.new.self ∷ [])
    ∙ ap (λ xs. map (λ v. v.items) c.self.inside.members.items ++ (xs ∷ [])) one) in
    rw (roots, members) (IsHeld-push _ _ _ _ c.self.invariant)
