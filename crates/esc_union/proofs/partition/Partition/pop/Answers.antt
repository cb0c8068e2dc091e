use Rattle.std.proofs.Common.{◌≡◌, ℕ, ◌-◌, ◌+◌, ◌<◌, length, map, take, arith, ap, sym, subst, ◌∙◌, vec_len, All}
use Rattle.std.proofs.lemmas.List.{take-map, length-map}
use Rattle.esc_union.specs.Merges.{Merged}
use Rattle.esc_union.proofs.Holding.{IsHeld-pop}
use Rattle.esc_union.proofs.partition.Partition.pop.Goals as goal

pub invariant_of-self : goal.invariant_of-self
invariant_of-self c =
    let n : ℕ = vec_len c.self.inside.roots - 1 in
    let count : length c.self.inside.roots.items ≡ vec_len c.self.inside.roots = omega
    (arith, c.self.inside.roots.ok.0) in
    let some : n + 1 ≡ length c.self.inside.roots.items = omega
    (arith, count, c.requires.there, ap (λ (h : Merged). h.count) c.self.view_is) in
    let as_long : vec_len c.self.inside.members - 1 ≡ n =
    omega (
      arith,
      count,
      c.self.inside.members.ok.0,
      c.self.invariant.as_long,
      length-map
          c.self.inside.members.items (λ v. v.items),
    ) in
    let members : map (λ v. v.items) c.pop-2.new.self.items
    ≡ take n (map (λ v. v.items) c.self.inside.members.items) =
    ap (λ vs. map (λ v. v.items) vs) (c.pop-2.ensures.rest
    ∙ ap (λ k. take k c.self.inside.members.items) as_long)
    ∙ sym (take-map (λ v. v.items) n c.self.inside.members.items) in
    rw (c.pop.ensures.rest, members) (IsHeld-pop _ _ _ _ c.self.invariant n some
    (subst (λ (h : Merged). All (λ m. (m.0 + 1 < h.count) × (m.1 + 1 < h.count)) h.merges)
    (sym c.self.view_is) c.requires.alone))
