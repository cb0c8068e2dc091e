use Rattle.std.proofs.Common.{rules, ◌≡◌, ℕ, ◌<◌, [], ◌∷◌, ◌++◌, length, All, refl, ap, arith, sym, subst, ◌∙◌}
use Rattle.std.proofs.lemmas.Grind.{common_steps}
use Rattle.std.proofs.lemmas.List.Elements.{All-push}
use Rattle.esc_union.specs.Merges.{AreMerges}
use Rattle.esc_egraph.specs.Graph.{Graph}
use Rattle.esc_egraph.specs.SidesInside.{IsSided}
use Rattle.esc_egraph.proofs.GraphNotes.{notes_forbidden}
use Rattle.esc_egraph.proofs.Sound.{sound_paired}
use Rattle.esc_egraph.proofs.graph.EGraph.add_forbidden.Goals as goal

pub push-requires-clause-merged : goal.push-requires-clause-merged
push-requires-clause-merged g c =
    subst (λ n. AreMerges n c.self.inside.parts.classes.merges)
    (sym c.self.invariant.as_many) c.self.invariant.graph.merged

pub push-requires-clause-sided : goal.push-requires-clause-sided
push-requires-clause-sided g c =
    subst (λ ps. IsSided c.self.inside.parts.classes.merges ps c.self.inside.parts.sides)
    (sym (c.as_slice.ensures.value ∙ c.reserve.ensures.items)) c.self.invariant.sided

pub invariant_of-self-2 : goal.invariant_of-self-2
invariant_of-self-2 g c =
    let pairs : c.push-2.new.self.items ≡ c.self.inside.parts.forbidden.items
    ++ ((c.args.a, c.args.b) ∷ []) = grind (arith, common_steps) in
    let a_low : c.args.a < length c.self.inside.parts.nodes = omega
    (arith, c.requires.a_is_there, ap (λ (h : Graph). length h.nodes) c.self.view_is) in
    let b_low : c.args.b < length c.self.inside.parts.nodes = omega
    (arith, c.requires.b_is_there, ap (λ (h : Graph). length h.nodes) c.self.view_is) in
    sound_paired c.self.inside.parts _ c.self.invariant
    (subst (λ ps. All (λ (x : ℕ × ℕ). (x.0 < length c.self.inside.parts.nodes)
    × (x.1 < length c.self.inside.parts.nodes)) ps) (sym pairs)
    (All-push (λ (x : ℕ × ℕ). (x.0 < length c.self.inside.parts.nodes)
    × (x.1 < length c.self.inside.parts.nodes)) c.self.inside.parts.forbidden.items
    (c.args.a, c.args.b) c.self.invariant.graph.paired (a_low, b_low)))
    refl refl
    (subst (λ ps. IsSided c.self.inside.parts.classes.merges ps c.push.new.self)
    (ap (λ ps. ps ++ ((c.args.a, c.args.b) ∷ [])) (c.as_slice.ensures.value
    ∙ c.reserve.ensures.items) ∙ sym pairs) c.in_ok-push.ensures.ok) refl refl refl refl refl

pub returns-clause-undo : goal.returns-clause-undo
returns-clause-undo g c =
    notes_forbidden g.R.CarriesNodes.carried_node _ _ _ _ c.args.a c.args.b (search rules) cc
