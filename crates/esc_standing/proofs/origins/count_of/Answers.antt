use Rattle.std.proofs.Common.{ap, ◌∙◌, inl, inr}
use Rattle.esc_standing.proofs.KeepingCalls.{count_is, either_form}
use Rattle.esc_standing.proofs.origins.count_of.Goals as goal

pub unreachable-requires : goal.unreachable-requires
unreachable-requires c =
    either_form c.requires.0 c.quantified_at.result.now
    (c.quantified_at.ensures c.requires.0 c.requires.1) c.in_default.not-Forall
    c.in_default.not-Exists

pub returns-in-Forall : goal.returns-in-Forall
returns-in-Forall c q at =
    ap (λ p. p.count) c.get.ensures
    ∙ count_is q c.quantified_at.result.now c.in-Forall.quant (c.quantified_at.ensures q at)
    (inl c.in-Forall.is)

pub returns-in-Exists : goal.returns-in-Exists
returns-in-Exists c q at =
    ap (λ p. p.count) c.get-in-Exists.ensures
    ∙ count_is q c.quantified_at.result.now c.in-Exists.quant (c.quantified_at.ensures q at)
    (inr c.in-Exists.is)
