use Rattle.std.proofs.Common.{◌≡◌, true, inl, inr, [], ap, arith, ◌∙◌}
use Rattle.esc_term.specs.Formula.{is_closed, terms_of}
use Rattle.esc_node_terms.proofs.FormulaSize.{falls-left, falls-part, falls-parts, falls-right}
use Rattle.esc_node_terms.proofs.FormulaSize.{formula_size}
use Rattle.esc_node_terms.proofs.FormulaParts.{both_are_closed, both_are_ground}
use Rattle.esc_node_terms.proofs.FormulaParts.{part_is_closed, parts_are_closed, places_are_ground}
use Rattle.esc_node_terms.proofs.TermSize.{falls-item}
use Rattle.esc_node_terms.proofs.Walking.{each_passes}
use Rattle.esc_sharing.specs.SharingUndo.{part_carried}
use Rattle.esc_outcome.specs.JamLaws.{shared_in}
use Rattle.esc_play.specs.WalkingInside.{sides_in}
use Rattle.esc_play.proofs.Bringing.{brings_as, brings_more, brings_nothing, passes_as}
use Rattle.esc_play.proofs.Bringing.{passes_both, walks_both, walks_nothing}
use Rattle.esc_play.proofs.FormulaForms.{has-Distinct, has-Eq, has-Less, has-both, has-none}
use Rattle.esc_play.proofs.FormulaForms.{has-part, has-parts}
use Rattle.esc_play.proofs.walk.+add_formula.Goals as goal

-- ---- what the parts ask for

pub add_formula-add_formulas-requires : goal.add_formula-add_formulas-requires
add_formula-add_formulas-requires g t c κs =
    let falls = falls-parts c.args.formula.now c.in-And.parts c.as_slice-in-And.result.now
    c.in-And.is c.as_slice-in-And.ensures in
    let closed = parts_are_closed c.args.formula.now c.requires.closed c.in-And.parts
    c.as_slice-in-And.result.now c.in-And.is c.as_slice-in-And.ensures in
    λ lives. (omega arith, (λ a m. lives a m, (c.requires.shared, closed)))

pub add_formula-add_formula-requires-in-Not : goal.add_formula-add_formula-requires-in-Not
add_formula-add_formula-requires-in-Not g t c κs =
    let falls = falls-part c.args.formula.now c.in-Not.part c.get-in-Not.result.now c.in-Not.is
    c.get-in-Not.ensures in
    let closed = part_is_closed c.args.formula.now c.requires.closed c.in-Not.part
    c.get-in-Not.result.now c.in-Not.is c.get-in-Not.ensures in
    λ lives. (omega arith, (λ a m. lives a m, (c.requires.shared, closed)))

pub add_formula-add_formula-requires : goal.add_formula-add_formula-requires
add_formula-add_formula-requires g t c κs =
    let falls = falls-left c.args.formula.now c.in-Implies.left c.in-Implies.right c.get.result.now
    c.in-Implies.is c.get.ensures in
    let both = both_are_closed c.args.formula.now c.requires.closed c.in-Implies.left
    c.in-Implies.right c.in-Implies.is in
    let closed : is_closed c.get.result.now ≡ true = ap is_closed c.get.ensures ∙ both.0 in
    λ lives. (omega arith, (λ a m. lives a m, (c.requires.shared, closed)))

pub add_formula-add_formula-requires-in-Implies : goal.add_formula-add_formula-requires-in-Implies
add_formula-add_formula-requires-in-Implies g t c κs =
    let falls = falls-right c.args.formula.now c.in-Implies.left c.in-Implies.right
    c.get-in-Implies.result.now c.in-Implies.is c.get-in-Implies.ensures in
    let both = both_are_closed c.args.formula.now c.requires.closed c.in-Implies.left
    c.in-Implies.right c.in-Implies.is in
    let closed : is_closed c.get-in-Implies.result.now ≡ true =
    ap is_closed c.get-in-Implies.ensures ∙ both.1 in
    λ lives. (
      omega arith,
      (λ a m. lives a m, (c.in_ok-add_formula-in-Implies.ensures.brings.shared, closed)),
    )

pub add_formulas-add_formula-requires : goal.add_formulas-add_formula-requires
add_formulas-add_formula-requires g t c κs =
    let falls = falls-item formula_size c.args.formulas.now c.formulas.formula-index
    c.formula-item.result c.formulas-test.true c.formula-item.is in
    let closed = each_passes is_closed c.args.formulas.now c.formulas.formula-index
    c.formula-item.result c.formulas-test.true c.formula-item.is c.requires.closed in
    λ lives. (omega arith, (λ a m. lives a m, (c.formulas.invariant.brings.shared, closed)))

-- ---- the sides of atoms

pub add_formula-add_two-requires-clause-left : goal.add_formula-add_two-requires-clause-left
add_formula-add_two-requires-clause-left g t c =
    (both_are_ground c.args.formula.now c.requires.closed c.in-Eq.left c.in-Eq.right
    (inl c.in-Eq.is)).0

pub add_formula-add_two-requires-clause-right : goal.add_formula-add_two-requires-clause-right
add_formula-add_two-requires-clause-right g t c =
    (both_are_ground c.args.formula.now c.requires.closed c.in-Eq.left c.in-Eq.right
    (inl c.in-Eq.is)).1

pub add_formula-add_two-requires-in-Less-clause-left :
    goal.add_formula-add_two-requires-in-Less-clause-left
add_formula-add_two-requires-in-Less-clause-left g t c =
    (both_are_ground c.args.formula.now c.requires.closed c.in-Less.left c.in-Less.right
    (inr c.in-Less.is)).0

pub add_formula-add_two-requires-in-Less-clause-right :
    goal.add_formula-add_two-requires-in-Less-clause-right
add_formula-add_two-requires-in-Less-clause-right g t c =
    (both_are_ground c.args.formula.now c.requires.closed c.in-Less.left c.in-Less.right
    (inr c.in-Less.is)).1

pub add_formula-add_places-requires-clause-ground :
    goal.add_formula-add_places-requires-clause-ground
add_formula-add_places-requires-clause-ground g t c =
    places_are_ground c.args.formula.now c.requires.closed c.in-Distinct.terms c.as_slice.result.now
    c.in-Distinct.is c.as_slice.ensures

-- ---- what they bring

pub add_formula-returns-in-Eq-clause-brings : goal.add_formula-returns-in-Eq-clause-brings
add_formula-returns-in-Eq-clause-brings g t c =
    let has = has-Eq c.args.formula.now c.in-Eq.left c.in-Eq.right c.in-Eq.is in
    passes_as c.add_two.result (shared_in c.args.sharing.now)
    (shared_in c.add_two.new.sharing)
    c.args.numbers.now.items c.add_two.new.numbers.items _ (terms_of c.args.formula.now) _
    (sides_in c.args.formula.now) c.add_two.ensures.brings has.terms_are has.sides_are

pub add_formula-returns-in-Less-clause-brings : goal.add_formula-returns-in-Less-clause-brings
add_formula-returns-in-Less-clause-brings g t c =
    let has = has-Less c.args.formula.now c.in-Less.left c.in-Less.right c.in-Less.is in
    passes_as c.add_two-in-Less.result (shared_in c.args.sharing.now)
    (shared_in c.add_two-in-Less.new.sharing)
    c.args.numbers.now.items c.add_two-in-Less.new.numbers.items _ (terms_of c.args.formula.now) _
    (sides_in c.args.formula.now) c.add_two-in-Less.ensures.brings has.terms_are has.sides_are

pub add_formula-returns-in-Distinct-clause-brings :
    goal.add_formula-returns-in-Distinct-clause-brings
add_formula-returns-in-Distinct-clause-brings g t c =
    let has = has-Distinct c.args.formula.now c.in-Distinct.terms c.as_slice.result.now
    c.in-Distinct.is c.as_slice.ensures in
    passes_as c.add_places.result (shared_in c.args.sharing.now)
    (shared_in c.add_places.new.sharing)
    c.args.numbers.now.items c.add_places.new.numbers.items _ (terms_of c.args.formula.now) _
    (sides_in c.args.formula.now) c.add_places.ensures.brings has.terms_are has.sides_are

pub add_formula-returns-in-Not-clause-brings : goal.add_formula-returns-in-Not-clause-brings
add_formula-returns-in-Not-clause-brings g t c =
    let has = has-part c.args.formula.now c.in-Not.part c.get-in-Not.result.now c.in-Not.is
    c.get-in-Not.ensures in
    passes_as c.add_formula-in-Not.result (shared_in c.args.sharing.now)
    (shared_in c.add_formula-in-Not.new.sharing)
    c.args.numbers.now.items c.add_formula-in-Not.new.numbers.items _
    (terms_of c.args.formula.now) _
    (sides_in c.args.formula.now) c.add_formula-in-Not.ensures.brings has.terms_are has.sides_are

pub add_formula-returns-in-And-clause-brings : goal.add_formula-returns-in-And-clause-brings
add_formula-returns-in-And-clause-brings g t c =
    let has = has-parts c.args.formula.now c.in-And.parts c.as_slice-in-And.result.now
    c.in-And.is c.as_slice-in-And.ensures in
    passes_as c.add_formulas.result (shared_in c.args.sharing.now)
    (shared_in c.add_formulas.new.sharing)
    c.args.numbers.now.items c.add_formulas.new.numbers.items _ (terms_of c.args.formula.now) _
    (sides_in c.args.formula.now) c.add_formulas.ensures.brings has.terms_are has.sides_are

pub add_formula-returns-in-True-clause-brings : goal.add_formula-returns-in-True-clause-brings
add_formula-returns-in-True-clause-brings g t c =
    let has = has-none c.args.formula.now c.in-True.is in
    brings_as (shared_in c.args.sharing.now) (shared_in c.args.sharing.now) c.args.numbers.now.items
    c.args.numbers.now.items [] (terms_of c.args.formula.now) [] (sides_in c.args.formula.now)
    (brings_nothing (shared_in c.args.sharing.now) c.args.numbers.now.items c.requires.shared)
    has.terms_are has.sides_are

pub add_formula-returns-in-True-2-clause-brings : goal.add_formula-returns-in-True-2-clause-brings
add_formula-returns-in-True-2-clause-brings g t c =
    let has = has-none c.args.formula.now c.in-True.is in
    brings_as (shared_in c.args.sharing.now) (shared_in c.args.sharing.now) c.args.numbers.now.items
    c.args.numbers.now.items [] (terms_of c.args.formula.now) [] (sides_in c.args.formula.now)
    (brings_nothing (shared_in c.args.sharing.now) c.args.numbers.now.items c.requires.shared)
    has.terms_are has.sides_are

pub add_formula-returns-in-True-3-clause-brings : goal.add_formula-returns-in-True-3-clause-brings
add_formula-returns-in-True-3-clause-brings g t c =
    let has = has-none c.args.formula.now c.in-True.is in
    brings_as (shared_in c.args.sharing.now) (shared_in c.args.sharing.now) c.args.numbers.now.items
    c.args.numbers.now.items [] (terms_of c.args.formula.now) [] (sides_in c.args.formula.now)
    (brings_nothing (shared_in c.args.sharing.now) c.args.numbers.now.items c.requires.shared)
    has.terms_are has.sides_are

pub add_formula-returns-in-True-4-clause-brings : goal.add_formula-returns-in-True-4-clause-brings
add_formula-returns-in-True-4-clause-brings g t c =
    let has = has-none c.args.formula.now c.in-True.is in
    brings_as (shared_in c.args.sharing.now) (shared_in c.args.sharing.now) c.args.numbers.now.items
    c.args.numbers.now.items [] (terms_of c.args.formula.now) [] (sides_in c.args.formula.now)
    (brings_nothing (shared_in c.args.sharing.now) c.args.numbers.now.items c.requires.shared)
    has.terms_are has.sides_are

pub add_formula-returns-in_ok-add_formula-in-Implies-clause-brings :
    goal.add_formula-returns-in_ok-add_formula-in-Implies-clause-brings
add_formula-returns-in_ok-add_formula-in-Implies-clause-brings g t c =
    let has = has-both c.args.formula.now c.in-Implies.left c.in-Implies.right c.get.result.now
    c.get-in-Implies.result.now c.in-Implies.is c.get.ensures c.get-in-Implies.ensures in
    passes_as c.add_formula-in-Implies.result (shared_in c.args.sharing.now)
    (shared_in c.add_formula-in-Implies.new.sharing) c.args.numbers.now.items
    c.add_formula-in-Implies.new.numbers.items _ (terms_of c.args.formula.now) _
    (sides_in c.args.formula.now)
    (passes_both c.add_formula-in-Implies.result (shared_in c.args.sharing.now)
    (shared_in c.add_formula.new.sharing) (shared_in c.add_formula-in-Implies.new.sharing)
    c.args.numbers.now.items c.add_formula.new.numbers.items
    c.add_formula-in-Implies.new.numbers.items (terms_of c.get.result.now)
    (terms_of c.get-in-Implies.result.now) (sides_in c.get.result.now)
    (sides_in c.get-in-Implies.result.now) c.in_ok-add_formula-in-Implies.ensures.brings
    c.add_formula-in-Implies.ensures.brings) has.terms_are has.sides_are

-- ---- what they leave

pub add_formula-returns-in_ok-add_formula-in-Implies-clause-walks :
    goal.add_formula-returns-in_ok-add_formula-in-Implies-clause-walks
add_formula-returns-in_ok-add_formula-in-Implies-clause-walks g t c =
    walks_both (part_carried g.R.CarriesNodes.carried_node g.R.CarriesGroups.carried_group
    g.R.CarriesShare.carried_share g.R.Carries.carried) c.args.trail.now.records
    c.add_formula.new.trail.records c.add_formula-in-Implies.new.trail.records
    c.args.sharing.now c.add_formula.new.sharing c.add_formula-in-Implies.new.sharing
    c.add_formula.ensures.walks c.add_formula-in-Implies.ensures.walks

pub add_formula-returns-in-True-clause-walks : goal.add_formula-returns-in-True-clause-walks
add_formula-returns-in-True-clause-walks g t c =
    walks_nothing (part_carried g.R.CarriesNodes.carried_node g.R.CarriesGroups.carried_group
    g.R.CarriesShare.carried_share g.R.Carries.carried) c.args.trail.now.records
    c.args.sharing.now

pub add_formula-returns-in-True-2-clause-walks : goal.add_formula-returns-in-True-2-clause-walks
add_formula-returns-in-True-2-clause-walks g t c =
    walks_nothing (part_carried g.R.CarriesNodes.carried_node g.R.CarriesGroups.carried_group
    g.R.CarriesShare.carried_share g.R.Carries.carried) c.args.trail.now.records
    c.args.sharing.now

pub add_formula-returns-in-True-3-clause-walks : goal.add_formula-returns-in-True-3-clause-walks
add_formula-returns-in-True-3-clause-walks g t c =
    walks_nothing (part_carried g.R.CarriesNodes.carried_node g.R.CarriesGroups.carried_group
    g.R.CarriesShare.carried_share g.R.Carries.carried) c.args.trail.now.records
    c.args.sharing.now

pub add_formula-returns-in-True-4-clause-walks : goal.add_formula-returns-in-True-4-clause-walks
add_formula-returns-in-True-4-clause-walks g t c =
    walks_nothing (part_carried g.R.CarriesNodes.carried_node g.R.CarriesGroups.carried_group
    g.R.CarriesShare.carried_share g.R.Carries.carried) c.args.trail.now.records
    c.args.sharing.now

-- ---- in order

pub add_formulas-formulas-init : goal.add_formulas-formulas-init
add_formulas-formulas-init g t c =
    record {
      brings = brings_nothing (shared_in c.args.sharing.now) c.args.numbers.now.items
          c.requires.shared;
      walks = walks_nothing (part_carried g.R.CarriesNodes.carried_node
          g.R.CarriesGroups.carried_group
          g.R.CarriesShare.carried_share g.R.Carries.carried) c.args.trail.now.records
          c.args.sharing.now;
    }

pub add_formulas-formulas-preserved : goal.add_formulas-formulas-preserved
add_formulas-formulas-preserved g t c =
    record {
      brings = brings_more c.args.formulas.now c.formulas.formula-index c.formula-item.result
          c.formulas-test.true c.formula-item.is (shared_in c.args.sharing.now)
          (shared_in c.formulas.sharing) (shared_in c.add_formula.new.sharing)
          c.args.numbers.now.items c.formulas.numbers.items c.add_formula.new.numbers.items
          terms_of sides_in c.formulas.invariant.brings c.in_ok-add_formula.ensures.brings;
      walks = walks_both (part_carried g.R.CarriesNodes.carried_node g.R.CarriesGroups.carried_group
          g.R.CarriesShare.carried_share g.R.Carries.carried) c.args.trail.now.records
          c.formulas.trail.records c.add_formula.new.trail.records c.args.sharing.now
          c.formulas.sharing c.add_formula.new.sharing c.formulas.invariant.walks
          c.add_formula.ensures.walks;
    }

pub add_formulas-returns-in_err-add_formula-clause-walks :
    goal.add_formulas-returns-in_err-add_formula-clause-walks
add_formulas-returns-in_err-add_formula-clause-walks g t c =
    walks_both (part_carried g.R.CarriesNodes.carried_node g.R.CarriesGroups.carried_group
    g.R.CarriesShare.carried_share g.R.Carries.carried) c.args.trail.now.records
    c.formulas.trail.records c.add_formula.new.trail.records c.args.sharing.now
    c.formulas.sharing c.add_formula.new.sharing c.formulas.invariant.walks
    c.add_formula.ensures.walks
