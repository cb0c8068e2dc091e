use Rattle.std.proofs.Common.{sym, ◌∙◌, arith}
use Rattle.esc_clause.proofs.Looking.{AllFail-found}
use Rattle.esc_clause.proofs.clauses.Clauses.first_left.Goals as goal

pub returns-then-stays : goal.returns-then-stays
returns-then-stays g c =
    sym (AllFail-found _ c.args.members.now c.members.place c.members.invariant (omega arith)
    (sym c.stays.ensures ∙ c.if-stays.true))
