use Rattle.std.proofs.Common.{ap, sym, ◌∙◌}
use Rattle.esc_term.specs.declared.formula.Formula.TheVariants as formula
use Rattle.esc_cover.proofs.CoverLevels.{cover-Eq}
use Rattle.esc_sharing.specs.Nodes.{node_term}
use Rattle.esc_context.specs.JudgingInside.{classes_for, cover_by, literals_for}
use Rattle.esc_context.proofs.NoNodes.{is_forced_apart-no_left, is_forced_apart-no_right}
use Rattle.esc_context.proofs.NoNodes.{together-no_left, together-no_right}
use Rattle.esc_context.proofs.judge.Judge.said_equal.Goals as goal

pub returns-in_default-clause-holds : goal.returns-in_default-clause-holds
returns-in_default-clause-holds c =
    let j = c.args.self.now in
    sym (ap (λ d. d.holds) (cover-Eq (literals_for j) (classes_for j) c.args.left.now
    c.args.right.now)
    ∙ together-no_left j.saying.graph.now c.args.left.now c.args.right.now
    c.in_default.ensures.none)

pub returns-in_default-clause-fails : goal.returns-in_default-clause-fails
returns-in_default-clause-fails c =
    let j = c.args.self.now in
    sym (ap (λ d. d.fails) (cover-Eq (literals_for j) (classes_for j) c.args.left.now
    c.args.right.now)
    ∙ is_forced_apart-no_left j.saying.graph.now c.args.left.now c.args.right.now
    c.requires.judge.saying.graph j.saying.groups.now (literals_for j) c.requires.judge.held
    c.in_default.ensures.none)

pub returns-in_default-node_of-clause-holds : goal.returns-in_default-node_of-clause-holds
returns-in_default-node_of-clause-holds c =
    let j = c.args.self.now in
    sym (ap (λ d. d.holds) (cover-Eq (literals_for j) (classes_for j) c.args.left.now
    c.args.right.now)
    ∙ together-no_right j.saying.graph.now c.args.left.now c.args.right.now
    c.in_default-node_of.ensures.none)

pub returns-in_default-node_of-clause-fails : goal.returns-in_default-node_of-clause-fails
returns-in_default-node_of-clause-fails c =
    let j = c.args.self.now in
    sym (ap (λ d. d.fails) (cover-Eq (literals_for j) (classes_for j) c.args.left.now
    c.args.right.now)
    ∙ is_forced_apart-no_right j.saying.graph.now c.args.left.now c.args.right.now
    c.requires.judge.saying.graph j.saying.groups.now (literals_for j) c.requires.judge.held
    c.in_default-node_of.ensures.none)

pub returns-clause-holds : goal.returns-clause-holds
returns-clause-holds c =
    let j = c.args.self.now in
    let said = c.equal.ensures (literals_for j) c.requires.judge in
    said.holds
    ∙ (ap (λ s. (cover_by j (formula.Eq s (node_term j.saying.graph.now
    c.in-Some-node_of.b))).holds) c.in-Some.ensures.some.1
    ∙ ap (λ t. (cover_by j (formula.Eq c.args.left.now t)).holds)
    c.in-Some-node_of.ensures.some.1)

pub returns-clause-fails : goal.returns-clause-fails
returns-clause-fails c =
    let j = c.args.self.now in
    let said = c.equal.ensures (literals_for j) c.requires.judge in
    said.fails
    ∙ (ap (λ s. (cover_by j (formula.Eq s (node_term j.saying.graph.now
    c.in-Some-node_of.b))).fails) c.in-Some.ensures.some.1
    ∙ ap (λ t. (cover_by j (formula.Eq c.args.left.now t)).fails)
    c.in-Some-node_of.ensures.some.1)
