use Rattle.std.proofs.Common.{◌≡◌, ◌⊎◌, inl, [], ◌∷◌, Err, IfErr, OnErr, None, refl, sym, ap, ◌∙◌}
use Rattle.std.proofs.Common.{subst}
use Rattle.std.specs.List.{Contains}
use Rattle.esc_term.proofs.Members.{Contains-here}
use Rattle.esc_tableau.proofs.RunLaws.{err_is}
use Rattle.esc_trail.proofs.Noting.{notes_both, notes_nothing}
use Rattle.esc_simplex.specs.Barred.{IsBarred}
use Rattle.esc_simplex.specs.SimplexUndo.{simplex_undo}
use Rattle.esc_simplex.specs.SimplexLaws.{simplex_lawful}
use Rattle.esc_simplex.specs.View.{Allows, bound_to, numbers_in, senses_in}
use Rattle.esc_simplex.specs.declared.simplex.Simplex.{Simplex}
use Rattle.esc_simplex.proofs.Making.{allows_alike}
use Rattle.esc_sharing.specs.Admitted.{AdmitsWith}
use Rattle.esc_sharing.specs.Nodes.{node_term}
use Rattle.esc_sharing.specs.Numbers.{AddsMade, IsGapOf, number_terms, with_number}
use Rattle.esc_sharing.specs.Stops.{UnlessMemory}
use Rattle.esc_sharing.proofs.AddedNumber.{adds_bound, adds_term, admits_alike, admits_bound}
use Rattle.esc_sharing.proofs.AddedNumber.{numbers_bound}
use Rattle.esc_sharing.proofs.BoundNodes.{none_when, some_is_number, unbound_is_none}
use Rattle.esc_sharing.proofs.BoundNodes.{with_number_there}
use Rattle.esc_sharing.proofs.Restricting.{adds_nothing, numbers_later, unless_memory}
use Rattle.esc_sharing.proofs.arithmetic.SimplexTheory.add_node.Goals as goal

-- it is bound

pub returns-then-is_some-clause-ok : goal.returns-then-is_some-clause-ok
returns-then-is_some-clause-ok g c =
    let v = c.args.self.now in
    sym (with_number_there (numbers_in v) c.args.a (node_term c.args.graph.now c.args.a)
    ((some_is_number v c.args.a c.unknown_of.result c.unknown_of.ensures c.is_some.result
    c.is_some.ensures).0 c.if-is_some.true))

pub returns-then-is_some-clause-admits : goal.returns-then-is_some-clause-admits
returns-then-is_some-clause-admits g c =
    admits_alike c.args.self.now c.args.self.now (λ x. ((λ h. h), (λ h. h)))

pub returns-then-is_some-clause-made : goal.returns-then-is_some-clause-made
returns-then-is_some-clause-made g c = adds_nothing _ _ _ refl

pub returns-then-is_some-clause-undo : goal.returns-then-is_some-clause-undo
returns-then-is_some-clause-undo g c = notes_nothing simplex_undo g.R.Carries.carried
    c.args.trail.now.records c.args.trail.now.records c.args.self.now c.args.self.now refl
    (simplex_lawful.reflexive c.args.self.now)

-- there is no memory for the term

pub returns-in_default-clause-err : goal.returns-in_default-clause-err
returns-in_default-clause-err g c = inl refl

pub returns-in_default-clause-admits : goal.returns-in_default-clause-admits
returns-in_default-clause-admits g c =
    admits_alike c.args.self.now c.args.self.now (λ x. ((λ h. h), (λ h. h)))

pub returns-in_default-clause-made : goal.returns-in_default-clause-made
returns-in_default-clause-made g c = adds_nothing _ _ _ refl

pub returns-in_default-clause-undo : goal.returns-in_default-clause-undo
returns-in_default-clause-undo g c = notes_nothing simplex_undo g.R.Carries.carried
    c.args.trail.now.records c.args.trail.now.records c.args.self.now c.args.self.now refl
    (simplex_lawful.reflexive c.args.self.now)

-- there is no unknown

pub returns-in_err-unknown-clause-err : goal.returns-in_err-unknown-clause-err
returns-in_err-unknown-clause-err g c =
    let v = c.args.self.now in
    subst (λ r. OnErr r ((numbers_in c.unknown.new.self ≡ numbers_in v)
    ⊎ (numbers_in c.unknown.new.self
    ≡ with_number (numbers_in v) c.args.a (node_term c.args.graph.now c.args.a))))
    (sym (err_is c.from_residual.result c.in_err-unknown.field-0.0 c.from_residual.ensures))
    (inl (numbers_later v c.unknown.new.self _ c.unknown.ensures.makes c.requires.sound))

pub returns-in_err-unknown-clause-admits : goal.returns-in_err-unknown-clause-admits
returns-in_err-unknown-clause-admits g c =
    let v = c.args.self.now in
    admits_alike v c.unknown.new.self (allows_alike v c.unknown.new.self _
    c.unknown.ensures.makes c.requires.sound c.unknown.ensures.restricted)

pub returns-in_err-unknown-clause-made : goal.returns-in_err-unknown-clause-made
returns-in_err-unknown-clause-made g c =
    let v = c.args.self.now in
    subst (λ t. AddsMade (senses_in v) (senses_in c.unknown.new.self)
    (number_terms (with_number (numbers_in v) c.args.a t))) c.in-Ok.ensures
    (adds_term v c.unknown.new.self c.requires.sound c.args.a c.in-Ok.term
    c.unknown.ensures.makes (unbound_is_none v c.args.a (none_when v c.args.a
    c.unknown_of.result c.unknown_of.ensures c.is_some.result c.is_some.ensures
    c.if-is_some.false)))

pub returns-in_err-unknown-clause-stop : goal.returns-in_err-unknown-clause-stop
returns-in_err-unknown-clause-stop g c =
    let v = c.args.self.now in
    let terms = number_terms (with_number (numbers_in v) c.args.a
    (node_term c.args.graph.now c.args.a)) in
    subst (λ r. IfErr r (UnlessMemory (IsBarred c.unknown.new.self
    (Contains (node_term c.args.graph.now c.args.a ∷ [])) (IsGapOf terms))))
    (sym (err_is c.from_residual.result c.in_err-unknown.field-0.0 c.from_residual.ensures))
    (unless_memory {V = Unit {0}} c.unknown.new.self (λ t. t ≡ c.in-Ok.term)
    (Contains (node_term c.args.graph.now c.args.a ∷ [])) (λ f. ⊥) (IsGapOf terms)
    (λ t e. subst (Contains (node_term c.args.graph.now c.args.a ∷ []))
    (sym (e ∙ c.in-Ok.ensures)) (Contains-here (node_term c.args.graph.now c.args.a) []))
    (λ f k. absurd k) (Err c.in_err-unknown.field-0.0) c.in_err-unknown.ensures.stop)

-- the unknown is bound to the node

pub bind-requires-clause-u : goal.bind-requires-clause-u
bind-requires-clause-u g c = (c.in-Ok.term, c.in_ok-unknown.ensures.ok)

pub bind-requires-clause-unbound : goal.bind-requires-clause-unbound
bind-requires-clause-unbound g c = subst (λ pairs. bound_to pairs c.args.a ≡ None)
    (sym c.unknown.ensures.makes.bound) (none_when c.args.self.now c.args.a c.unknown_of.result
    c.unknown_of.ensures c.is_some.result c.is_some.ensures c.if-is_some.false)

pub returns-clause-err : goal.returns-clause-err
returns-clause-err g c = inl (ap numbers_in c.in-Err.ensures.err
    ∙ numbers_later c.args.self.now c.unknown.new.self _ c.unknown.ensures.makes
    c.requires.sound)

pub returns-clause-admits : goal.returns-clause-admits
returns-clause-admits g c =
    let v = c.args.self.now in
    subst (λ s. AdmitsWith (Allows v) (Allows s) []) (sym c.in-Err.ensures.err)
    (admits_alike v c.unknown.new.self (allows_alike v c.unknown.new.self _
    c.unknown.ensures.makes c.requires.sound c.unknown.ensures.restricted))

pub returns-clause-made : goal.returns-clause-made
returns-clause-made g c =
    let v = c.args.self.now in
    subst (λ (s : Simplex). AddsMade (senses_in v) (senses_in s)
    (number_terms (with_number (numbers_in v) c.args.a (node_term c.args.graph.now c.args.a))))
    (sym c.in-Err.ensures.err)
    (subst (λ t. AddsMade (senses_in v) (senses_in c.unknown.new.self)
    (number_terms (with_number (numbers_in v) c.args.a t))) c.in-Ok.ensures
    (adds_term v c.unknown.new.self c.requires.sound c.args.a c.in-Ok.term
    c.unknown.ensures.makes (unbound_is_none v c.args.a (none_when v c.args.a
    c.unknown_of.result c.unknown_of.ensures c.is_some.result c.is_some.ensures
    c.if-is_some.false))))

pub returns-clause-undo : goal.returns-clause-undo
returns-clause-undo g c = notes_both simplex_undo simplex_lawful
    g.R.Carries.carried c.args.trail.now.records c.unknown.new.trail.records
    c.bind.new.trail.records c.args.self.now c.unknown.new.self c.bind.new.self
    c.unknown.ensures.undo c.bind.ensures.undo

pub returns-in-Ok-bind-clause-ok : goal.returns-in-Ok-bind-clause-ok
returns-in-Ok-bind-clause-ok g c =
    let v = c.args.self.now in
    subst (λ t. numbers_in c.bind.new.self ≡ with_number (numbers_in v) c.args.a t)
    c.in-Ok.ensures
    (numbers_bound v c.unknown.new.self c.requires.sound c.args.a c.in-Ok.term
    c.unknown.ensures.makes (unbound_is_none v c.args.a (none_when v c.args.a
    c.unknown_of.result c.unknown_of.ensures c.is_some.result c.is_some.ensures
    c.if-is_some.false)) c.bind.new.self c.in_ok-unknown.unknown c.in-Ok-bind.ensures.ok
    c.in_ok-unknown.ensures.ok)

pub returns-in-Ok-bind-clause-admits : goal.returns-in-Ok-bind-clause-admits
returns-in-Ok-bind-clause-admits g c =
    let v = c.args.self.now in
    admits_bound v c.unknown.new.self c.requires.sound c.args.a c.in-Ok.term
    c.unknown.ensures.makes (unbound_is_none v c.args.a (none_when v c.args.a
    c.unknown_of.result c.unknown_of.ensures c.is_some.result c.is_some.ensures
    c.if-is_some.false)) c.bind.new.self c.in_ok-unknown.unknown c.in-Ok-bind.ensures.ok
    c.unknown.ensures.restricted

pub returns-in-Ok-bind-clause-made : goal.returns-in-Ok-bind-clause-made
returns-in-Ok-bind-clause-made g c =
    let v = c.args.self.now in
    subst (λ t. AddsMade (senses_in v) (senses_in c.bind.new.self)
    (number_terms (with_number (numbers_in v) c.args.a t))) c.in-Ok.ensures
    (adds_bound v c.unknown.new.self c.requires.sound c.args.a c.in-Ok.term
    c.unknown.ensures.makes (unbound_is_none v c.args.a (none_when v c.args.a
    c.unknown_of.result c.unknown_of.ensures c.is_some.result c.is_some.ensures
    c.if-is_some.false)) c.bind.new.self c.in_ok-unknown.unknown c.in-Ok-bind.ensures.ok)

pub returns-in-Ok-bind-clause-undo : goal.returns-in-Ok-bind-clause-undo
returns-in-Ok-bind-clause-undo g c = notes_both simplex_undo simplex_lawful
    g.R.Carries.carried c.args.trail.now.records c.unknown.new.trail.records
    c.bind.new.trail.records c.args.self.now c.unknown.new.self c.bind.new.self
    c.unknown.ensures.undo c.bind.ensures.undo
