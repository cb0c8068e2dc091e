use Rattle.std.proofs.Common.{◌≡◌, ℕ, ◌+◌, ◌-◌, [], ◌∷◌, ◌++◌, length, map, take, refl, ap, arith, sym, subst, ◌∙◌}
use Rattle.std.proofs.lemmas.Grind.{common_steps}
use Rattle.std.proofs.lemmas.List.{length-append, length-map, take_at}
use Rattle.esc_nodes.specs.Nodes.{Shape, AreTerms}
use Rattle.esc_union.specs.Merges.{class_number}
use Rattle.esc_egraph.specs.KeysInside.{key_of}
use Rattle.esc_egraph.specs.declared.step.Step.{Step}
use Rattle.esc_egraph.proofs.Entering.{own_entries, own_low, own_table, whole_made}
use Rattle.esc_egraph.proofs.Sound.{sound_made, sound_same}
use Rattle.esc_egraph.proofs.parts.Parts.make.Goals as goal

pub returns-in_err-push_entries-clause-sound : goal.returns-in_err-push_entries-clause-sound
returns-in_err-push_entries-clause-sound c =
    sound_same c.args.self.now _ c.requires.sound refl refl refl refl c.reserve-2.ensures.items
    c.in_err-push_entries.ensures.no_uses
    c.in_err-push_entries.ensures.no_table c.reserve.ensures.items refl

pub returns-in-Err-clause-sound : goal.returns-in-Err-clause-sound
returns-in-Err-clause-sound c =
    let added : c.push_entries.new.uses ≡ c.args.self.now.uses
    ++ map (λ a. (a, c.in_ok-step.step.nodes)) c.args.args.now
    = c.in_ok-push_entries.ensures.uses in
    let count : length c.args.self.now.uses ≡ c.len.result - length c.args.args.now =
    omega (
      arith,
      c.len.ensures,
      ap length added,
      length-append c.args.self.now.uses (map (λ a. (a, c.in_ok-step.step.nodes)) c.args.args.now),
      length-map {B = ℕ × ℕ} c.args.args.now (λ a. (a, c.in_ok-step.step.nodes)),
    ) in
    sound_same c.args.self.now _ c.requires.sound c.in-Err.ensures.no_nodes
    c.in-Err.ensures.no_classes refl refl c.reserve-2.ensures.items
    (c.truncate.ensures ∙ (ap (take (c.len.result - length c.args.args.now)) added
    ∙ take_at c.args.self.now.uses (map (λ a. (a, c.in_ok-step.step.nodes)) c.args.args.now)
    (c.len.result - length c.args.args.now) count))
    (c.truncate-in-Err.ensures ∙ (ap (take c.in_ok-step.step.table)
    (c.in_ok-push_entries.ensures.table ∙ own_table c.args.enters c.args.self.now.table
    (c.signature_key-key.result, c.in_ok-step.step.nodes))
    ∙ take_at c.args.self.now.table (own_entries c.args.enters
    (c.signature_key-key.result, c.in_ok-step.step.nodes)) c.in_ok-step.step.table
    (sym (ap (λ (s : Step). s.table) c.in_ok-step.ensures))))
    c.reserve.ensures.items refl

pub returns-clause-sound : goal.returns-clause-sound
returns-clause-sound c =
    let s : Shape = record { top = c.args.top; args = c.args.args.now } in
    let number : c.in_ok-step.step.nodes ≡ length c.args.self.now.nodes = ap
    (λ (t : Step). t.nodes) c.in_ok-step.ensures in
    let key : c.signature_key-key.result ≡ key_of (class_number c.args.self.now.classes.merges) s
    = c.signature_key-key.ensures in
    let numerals : c.push-2.new.self.items ≡ c.args.self.now.numerals.items
    ++ (c.place_of.result ∷ []) = grind (arith, common_steps) in
    let steps : c.push.new.self.items ≡ c.args.self.now.steps.items
    ++ (c.in_ok-step.step ∷ []) = grind (arith, common_steps) in
    sound_made c.args.self.now _ s c.place_of.result c.in_ok-step.step
    (own_entries c.args.enters (
      key_of (class_number c.args.self.now.classes.merges) s,
      length
          c.args.self.now.nodes,
    ))
    c.requires.sound (subst AreTerms c.in_default.ensures.nodes c.in_default.ensures.terms)
    c.place_of.ensures c.in_ok-step.ensures
    (own_low c.args.enters (
      key_of (class_number c.args.self.now.classes.merges) s,
      length
          c.args.self.now.nodes,
    ) (length c.args.self.now.nodes + 1) (omega arith))
    (λ w. whole_made c.args.self.now.nodes s c.args.self.now.classes.merges c.args.self.now.table
    c.args.enters c.requires.enters (c.requires.sound.tabled w))
    c.in_default.ensures.nodes c.in_default.ensures.classes refl refl numerals
    (c.in_ok-push_entries.ensures.uses ∙ ap (λ n. c.args.self.now.uses
    ++ map (λ a. (a, n)) c.args.args.now) number)
    (c.in_ok-push_entries.ensures.table
    ∙ (own_table c.args.enters c.args.self.now.table
    (c.signature_key-key.result, c.in_ok-step.step.nodes)
    ∙ (ap (λ k. c.args.self.now.table ++ own_entries c.args.enters (k, c.in_ok-step.step.nodes))
    key
    ∙ ap (λ n. c.args.self.now.table ++ own_entries c.args.enters
    (key_of (class_number c.args.self.now.classes.merges) s, n)) number)))
    steps refl
