use Rattle.std.proofs.Common.{◌≡◌, ℕ, ◌<◌, [], ◌∷◌, ◌++◌, inl, inr, length, refl, sym, subst, ◌∙◌}
use Rattle.esc_nodes.specs.Nodes.{Shape, shape, shape_at}
use Rattle.esc_union.specs.Merges.{class_number}
use Rattle.esc_egraph.specs.Graph.{number_of}
use Rattle.esc_egraph.specs.Congruence.{AreAlike}
use Rattle.esc_egraph.specs.PartsInside.{graph_in}
use Rattle.esc_egraph.proofs.Entering.{none_alike}
use Rattle.esc_egraph.proofs.Made.{IsExtended, extended_alone, extended_joined}
use Rattle.esc_egraph.proofs.Making.{shape_parts, is_made, is_met}
use Rattle.esc_egraph.proofs.parts.Parts.node.Given.{Over}
use Rattle.esc_egraph.proofs.parts.Parts.node.Goals as goal
use Rattle.esc_egraph.proofs.parts.Parts.node.Goals.{Joined-find_alike, in-Some-find_alike+in_ok-append_to-in-Some-find_alike, in-None+in_ok-append-in-None}

parts : (g : Over) (c : Joined-find_alike g) →
    (let s : Shape = record { top = c.args.top; args = c.arguments-args.result.now } in s)
    ≡ shape c.args.top c.args.args.now
parts g c = shape_parts c.args.top c.args.args.now c.arguments-args.result.now
    c.arguments-args.ensures

absent : (g : Over) (c : Joined-find_alike g) → (k : ℕ) → k < length c.args.self.now.nodes
    → shape_at c.args.self.now.nodes k ≡ shape c.args.top c.args.args.now → ⊥
absent g c k l e = c.in_default.ensures.none k l (e ∙ sym (parts g c))

joined : (g : Over) (c : Joined-find_alike g) (k : ℕ) → k < length c.args.self.now.nodes →
    AreAlike (class_number c.args.self.now.classes.merges) (shape_at c.args.self.now.nodes k)
    (record { top = c.args.top; args = c.arguments-args.result.now }) →
    IsExtended c.args.self.now.nodes (number_of (graph_in c.args.self.now))
    (class_number (c.args.self.now.classes.merges ++ ((length c.args.self.now.nodes, k) ∷ [])))
    (shape c.args.top c.args.args.now)
joined g c k l alike =
    extended_joined c.args.self.now.nodes c.args.self.now.classes.merges
    (shape c.args.top c.args.args.now) k c.requires.sound.graph.merged l
    (subst (λ s. AreAlike (class_number c.args.self.now.classes.merges)
    (shape_at c.args.self.now.nodes k) s) (parts g c) alike)

alone : (g : Over) (c : Joined-find_alike g) →
    ((k : ℕ) → k < length c.args.self.now.nodes →
    AreAlike (class_number c.args.self.now.classes.merges) (shape_at c.args.self.now.nodes k)
    (record { top = c.args.top; args = c.arguments-args.result.now }) → ⊥) →
    IsExtended c.args.self.now.nodes (number_of (graph_in c.args.self.now))
    (class_number c.args.self.now.classes.merges) (shape c.args.top c.args.args.now)
alone g c none =
    extended_alone c.args.self.now.nodes c.args.self.now.classes.merges
    (shape c.args.top c.args.args.now) c.requires.sound.graph.merged
    (λ k l alike. none k l (subst (λ s. AreAlike (class_number c.args.self.now.classes.merges)
    (shape_at c.args.self.now.nodes k) s) (sym (parts g c)) alike))

pub returns-clause-node : goal.returns-clause-node
returns-clause-node g c =
    inr (elim c.match-find_alike.branch [
      | in-Some-find_alike+in_ok-append_to-in-Some-find_alike w ↦
          rw w.self-is (is_made (graph_in c.args.self.now) (graph_in w.append_to.new.self)
          c.args.top c.args.args.now
          (c.args.self.now.classes.merges ++ ((
            length c.args.self.now.nodes,
            w.in-Some-find_alike.other,
          ) ∷ []))
          c.requires.sound.graph c.requires.met c.requires.args_are_there (absent g c)
          (joined g c w.in-Some-find_alike.other w.in-Some-find_alike.ensures.some.0
          w.in-Some-find_alike.ensures.some.1)
          (rw (← parts g c) w.in_ok-append_to-in-Some-find_alike.ensures.ok)
          c.new-node.result (c.new-node.ensures ∙ c.count.ensures.count)
          (inr (w.in-Some-find_alike.other, w.in-Some-find_alike.ensures.some.0, refl)))
      | in-None+in_ok-append-in-None w ↦
          rw w.self-is (is_made (graph_in c.args.self.now) (graph_in w.append.new.self) c.args.top
          c.args.args.now c.args.self.now.classes.merges
          c.requires.sound.graph c.requires.met c.requires.args_are_there (absent g c)
          (alone g c (none_alike c.args.self.now.nodes c.args.self.now.classes.merges
          c.args.self.now.table _ (c.requires.sound.tabled c.requires.whole)
          w.in-None.ensures.none))
          (rw (← parts g c) w.in_ok-append-in-None.ensures.ok)
          c.new-node.result (c.new-node.ensures ∙ c.count.ensures.count) (inl refl))
    ])

pub returns-clause-met : goal.returns-clause-met
returns-clause-met g c =
    elim c.match-find_alike.branch [
      | in-Some-find_alike+in_ok-append_to-in-Some-find_alike w ↦
          rw w.self-is (is_met (graph_in c.args.self.now) (graph_in w.append_to.new.self) c.args.top
          c.args.args.now
          (c.args.self.now.classes.merges ++ ((
            length c.args.self.now.nodes,
            w.in-Some-find_alike.other,
          ) ∷ []))
          c.requires.sound.graph c.requires.met c.requires.args_are_there (absent g c)
          (joined g c w.in-Some-find_alike.other w.in-Some-find_alike.ensures.some.0
          w.in-Some-find_alike.ensures.some.1)
          (rw (← parts g c) w.in_ok-append_to-in-Some-find_alike.ensures.ok))
      | in-None+in_ok-append-in-None w ↦
          rw w.self-is (is_met (graph_in c.args.self.now) (graph_in w.append.new.self) c.args.top
          c.args.args.now c.args.self.now.classes.merges
          c.requires.sound.graph c.requires.met c.requires.args_are_there (absent g c)
          (alone g c (none_alike c.args.self.now.nodes c.args.self.now.classes.merges
          c.args.self.now.table _ (c.requires.sound.tabled c.requires.whole)
          w.in-None.ensures.none))
          (rw (← parts g c) w.in_ok-append-in-None.ensures.ok))
    ]
