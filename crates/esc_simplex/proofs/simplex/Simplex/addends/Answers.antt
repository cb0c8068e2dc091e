use Rattle.std.proofs.Common.{◌≡◌, ◌+◌, refl, sym, subst}
use Rattle.esc_linear.specs.Forms.{form, opaque_form}
use Rattle.esc_linear.specs.declared.form.Part.{Part as Addend}
use Rattle.esc_simplex.proofs.Addends.{Adding, adding_makes, adding_starts, adding_step, adding_undo}
use Rattle.esc_simplex.proofs.simplex.Simplex.addends.Goals as goal

pub parts-init : goal.parts-init
parts-init g c = subst (Adding g.R.Carries.carried c.args.trail.now.records
    c.args.trail.now.records c.args.self.now c.args.self.now c.args.parts.now 0)
    (sym c.new-addends.ensures)
    (adding_starts g.R.Carries.carried c.args.trail.now.records c.args.self.now c.args.parts.now
    c.requires.simplex)

pub opaque_unknown-requires : goal.opaque_unknown-requires
opaque_unknown-requires g c = record {
  simplex = c.parts.invariant.simplex;
  opaque = subst (λ (a : Addend). form a.term ≡ opaque_form a.term) (sym c.part-item.is)
      (c.requires.opaque c.parts.part-index c.part-item.result c.parts-test.true);
}

pub returns-in_err-unknown-clause-makes : goal.returns-in_err-unknown-clause-makes
returns-in_err-unknown-clause-makes g c = adding_makes g.R.Carries.carried
    c.args.trail.now.records c.parts.trail.records c.opaque_unknown.new.trail.records
    c.args.self.now c.parts.self c.opaque_unknown.new.self c.args.parts.now c.parts.part-index
    c.parts.addends c.parts.invariant c.part-item.result c.parts-test.true c.part-item.is
    c.opaque_unknown.ensures.makes

pub returns-in_err-unknown-clause-undo : goal.returns-in_err-unknown-clause-undo
returns-in_err-unknown-clause-undo g c = adding_undo g.R.Carries.carried
    c.args.trail.now.records c.parts.trail.records c.opaque_unknown.new.trail.records
    c.args.self.now c.parts.self c.opaque_unknown.new.self c.args.parts.now c.parts.part-index
    c.parts.addends c.parts.invariant c.part-item.result c.parts-test.true c.part-item.is
    c.opaque_unknown.ensures.makes c.opaque_unknown.ensures.undo

pub returns-in_err-push-clause-makes : goal.returns-in_err-push-clause-makes
returns-in_err-push-clause-makes g c = adding_makes g.R.Carries.carried
    c.args.trail.now.records c.parts.trail.records c.opaque_unknown.new.trail.records
    c.args.self.now c.parts.self c.opaque_unknown.new.self c.args.parts.now c.parts.part-index
    c.parts.addends c.parts.invariant c.part-item.result c.parts-test.true c.part-item.is
    c.opaque_unknown.ensures.makes

pub returns-in_err-push-clause-undo : goal.returns-in_err-push-clause-undo
returns-in_err-push-clause-undo g c = adding_undo g.R.Carries.carried
    c.args.trail.now.records c.parts.trail.records c.opaque_unknown.new.trail.records
    c.args.self.now c.parts.self c.opaque_unknown.new.self c.args.parts.now c.parts.part-index
    c.parts.addends c.parts.invariant c.part-item.result c.parts-test.true c.part-item.is
    c.opaque_unknown.ensures.makes c.opaque_unknown.ensures.undo

pub parts-preserved : goal.parts-preserved
parts-preserved g c = subst (Adding g.R.Carries.carried c.args.trail.now.records
    c.opaque_unknown.new.trail.records c.args.self.now c.opaque_unknown.new.self
    c.args.parts.now (c.parts.part-index + 1)) (sym c.in_ok-push.ensures.ok)
    (adding_step g.R.Carries.carried
    c.args.trail.now.records c.parts.trail.records c.opaque_unknown.new.trail.records
    c.args.self.now c.parts.self c.opaque_unknown.new.self c.args.parts.now c.parts.part-index
    c.parts.addends c.parts.invariant c.part-item.result c.parts-test.true c.part-item.is
    c.opaque_unknown.ensures.makes c.opaque_unknown.ensures.restricted
    c.opaque_unknown.ensures.simplex c.opaque_unknown.ensures.undo
    (record { unknown = c.in_ok-unknown.unknown; factor = c.part-item.result.factor })
    c.in_ok-unknown.ensures.ok refl)
