-- What holds of triggers.
use Rattle.std.specs.Prelude.{ℕ, Bool, ◌&&◌, nat_lt, IsTrue, List}
use Rattle.std.specs.List.{flat_map, list_all}
use Rattle.esc_term.specs.declared.term.Term.{Term}
use Rattle.esc_term.specs.declared.formula.Quant.{Quant}
use Rattle.esc_term.specs.Formula.{binds_quant}
use Rattle.esc_trigger.specs.Candidates.{is_application}
use Rattle.esc_trigger.specs.Triggers.{triggers}
use Rattle.esc_trigger.specs.Variables.{holds_all, variables_of}

-- applications that hold each variable of the quantifier, and no other
abbrev pub is_trigger : ℕ → List Term → Bool
is_trigger count trigger =
    list_all is_application trigger && holds_all count trigger
    && list_all (λ k. nat_lt k count) (flat_map variables_of trigger)

-- what the triggers of a closed formula are like
abbrev pub TriggersHoldAll : Type 0
TriggersHoldAll =
    (quant : Quant) → IsTrue (binds_quant quant 0)
    → IsTrue (list_all (is_trigger quant.count) (triggers quant))
