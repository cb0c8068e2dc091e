use Rattle.std.proofs.Common.{ap, sym, ◌∙◌, arith}
use Rattle.esc_cover.proofs.TestLemmas.{and_both}
use Rattle.esc_clause.specs.Refinement.{is_yes}
use Rattle.esc_clause.proofs.Looking.{satisfied_at}
use Rattle.esc_clause.proofs.clauses.Clauses.scan.Goals as goal

pub returns-in-Yes : goal.returns-in-Yes
returns-in-Yes g c =
    satisfied_at _ c.args.members.now c.members.place (omega arith)
    (and_both _ _ c.if-not-member.true (ap is_yes (sym c.judge.ensures ∙ c.in-Yes.is)))
