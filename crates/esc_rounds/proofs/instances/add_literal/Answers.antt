use Rattle.std.proofs.Common.{◌≡◌, ◌<◌, Some, false, not, refl, length, get_or, ap, sym, subst}
use Rattle.std.proofs.Common.{arith, ◌∙◌}
use Rattle.std.specs.Prelude.{slice_get}
use Rattle.std.proofs.lemmas.Option.{slice_get-get_or}
use Rattle.esc_rounds.specs.ListingInside.{listed_in}
use Rattle.esc_rounds.specs.Standing.{Standing, standing_of}
use Rattle.esc_rounds.specs.declared.kept.Kept.{Kept}
use Rattle.esc_rounds.specs.declared.kept.Literal.{Literal}
use Rattle.esc_rounds.proofs.Bounds.{first_trigger, passed_literal, passed_triggers}
use Rattle.esc_rounds.proofs.Steps.{beq_differ, beq_same, trigger_is, trigger_step}
use Rattle.esc_rounds.proofs.instances.add_literal.Goals as goal
use mathlib.Core.Bool.{beq}

pub returns-then-literal-kept-clause-listed : goal.returns-then-literal-kept-clause-listed
returns-then-literal-kept-clause-listed c =
    let s : Standing = standing_of c.args.branch.now in
    let literal : Literal =
    get_or s.literals c.args.number (record { formula = 0; holds = false }) in
    let formula : Kept = c.index-branch-literal.result in
    let below = c.requires.ready.literals c.args.number (record { formula = 0; holds = false })
    c.requires.number in
    let kept : slice_get s.formulas literal.formula ≡ Some formula =
    slice_get-get_or s.formulas literal.formula formula below
    ∙ ap Some (sym c.index-branch-literal.is) in
    passed_literal s c.args.listing.now.live.keys c.args.limit c.args.number literal formula
    (listed_in c.args.listing.now)
    (slice_get-get_or s.literals c.args.number _ c.requires.number) kept
    (beq_differ literal.holds formula.universal
    (ap (λ (k : Kept). not (beq literal.holds k.universal)) c.index-branch-literal.is
    ∙ c.if-literal-kept.true)) c.requires.listed

pub triggers-init : goal.triggers-init
triggers-init c = (
  refl,
  first_trigger (standing_of c.args.branch.now) c.args.listing.now.live.keys c.args.limit
      c.args.number (listed_in c.args.listing.now) c.requires.listed,
)

pub add_trigger-requires-clause-trigger : goal.add_trigger-requires-clause-trigger
add_trigger-requires-clause-trigger c =
    let s : Standing = standing_of c.args.branch.now in
    let literal : Literal =
    get_or s.literals c.args.number (record { formula = 0; holds = false }) in
    let formula : Kept = c.index-branch-literal.result in
    let below = c.requires.ready.literals c.args.number (record { formula = 0; holds = false })
    c.requires.number in
    let kept : slice_get s.formulas literal.formula ≡ Some formula =
    slice_get-get_or s.formulas literal.formula formula below
    ∙ ap Some (sym c.index-branch-literal.is) in
    let listed : c.as_slice-trigger-items.result.now ≡ formula.triggers =
    c.as_slice-trigger-items.ensures
    ∙ ap (λ (k : Kept). k.triggers) (sym c.index-branch-literal.is) in
    trigger_is s literal.formula c.triggers.trigger-index formula c.trigger-item.result
    c.requires.ready.triggers kept below c.index-branch-literal.is
    (subst (λ ts. c.triggers.trigger-index < length ts) listed c.triggers-test.true)
    (c.trigger-item.is
    ∙ ap (λ ts. get_or ts c.triggers.trigger-index c.trigger-item.result) listed)

pub triggers-preserved : goal.triggers-preserved
triggers-preserved c =
    let s : Standing = standing_of c.args.branch.now in
    let literal : Literal =
    get_or s.literals c.args.number (record { formula = 0; holds = false }) in
    let formula : Kept = c.index-branch-literal.result in
    let below = c.requires.ready.literals c.args.number (record { formula = 0; holds = false })
    c.requires.number in
    let kept : slice_get s.formulas literal.formula ≡ Some formula =
    slice_get-get_or s.formulas literal.formula formula below
    ∙ ap Some (sym c.index-branch-literal.is) in
    let listed : c.as_slice-trigger-items.result.now ≡ formula.triggers =
    c.as_slice-trigger-items.ensures
    ∙ ap (λ (k : Kept). k.triggers) (sym c.index-branch-literal.is) in
    let numbered : slice_get formula.triggers c.triggers.trigger-index
    ≡ Some c.trigger-item.result =
    subst (λ ts. slice_get ts c.triggers.trigger-index ≡ Some c.trigger-item.result) listed
    (slice_get-get_or c.as_slice-trigger-items.result.now c.triggers.trigger-index
    c.trigger-item.result c.triggers-test.true ∙ ap Some (sym c.trigger-item.is)) in
    let universal : literal.holds ≡ formula.universal =
    beq_same literal.holds formula.universal
    (ap (λ (k : Kept). not (beq literal.holds k.universal)) c.index-branch-literal.is
    ∙ c.if-literal-kept.false) in
    let same : c.triggers.listing.live.keys ≡ c.args.listing.now.live.keys = cc in (
      c.in_ok-add_trigger.ensures.live ∙ c.triggers.invariant.0,
      trigger_step s c.args.listing.now.live.keys c.triggers.listing.live.keys c.args.limit same
          (listed_in c.triggers.listing) (listed_in c.add_trigger.new.listing) c.args.number
          c.triggers.trigger-index c.args.standing.now literal formula c.trigger-item.result
          c.requires.standing (slice_get-get_or s.literals c.args.number _ c.requires.number) kept
          universal numbered c.in_ok-add_trigger.ensures.listed c.triggers.invariant.1,
    )

pub returns-clause-listed : goal.returns-clause-listed
returns-clause-listed c =
    let s : Standing = standing_of c.args.branch.now in
    let literal : Literal =
    get_or s.literals c.args.number (record { formula = 0; holds = false }) in
    let formula : Kept = c.index-branch-literal.result in
    let below = c.requires.ready.literals c.args.number (record { formula = 0; holds = false })
    c.requires.number in
    let kept : slice_get s.formulas literal.formula ≡ Some formula =
    slice_get-get_or s.formulas literal.formula formula below
    ∙ ap Some (sym c.index-branch-literal.is) in
    let listed : c.as_slice-trigger-items.result.now ≡ formula.triggers =
    c.as_slice-trigger-items.ensures
    ∙ ap (λ (k : Kept). k.triggers) (sym c.index-branch-literal.is) in
    let end : c.triggers.trigger-index ≡ length c.as_slice-trigger-items.result.now = omega arith in
    passed_triggers s c.args.listing.now.live.keys c.args.limit c.args.number
    c.triggers.trigger-index literal formula (listed_in c.triggers.listing)
    (slice_get-get_or s.literals c.args.number _ c.requires.number) kept
    (end ∙ ap length listed) c.triggers.invariant.1
