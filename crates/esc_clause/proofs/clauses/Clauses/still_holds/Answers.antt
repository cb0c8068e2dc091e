use Rattle.std.proofs.Common.{ap, sym, not, ◌∙◌, arith}
use Rattle.std.proofs.lemmas.Bool.{OnTrue_from}
use Rattle.esc_cover.proofs.TestLemmas.{and_both}
use Rattle.esc_clause.proofs.Looking.{satisfied_at}
use Rattle.esc_clause.specs.Refinement.{is_yes}
use Rattle.esc_clause.proofs.clauses.Clauses.still_holds.Goals as goal

pub returns : goal.returns
returns g c =
    OnTrue_from c.is_yes.result _ (λ yes.
    satisfied_at _ c.args.members.now c.args.hint (omega arith)
    (and_both _ _ (ap not c.if-member.false)
    (ap is_yes (sym c.judge.ensures) ∙ sym c.is_yes.ensures ∙ yes)))
