-- What follows from formulas by way of literals.
use Rattle.std.proofs.Common.{◌≡◌, Bool, true, false, List, sym, ◌∙◌}
use Rattle.std.specs.Prelude.{if◌then◌else◌}
use Rattle.std.specs.List.{All}
use Rattle.std.proofs.lemmas.Bool.Decides.{Decides-int_eq}
use Rattle.std.proofs.lemmas.List.Elements.{All-weaker}
use Rattle.esc_term.specs.declared.term.Term.{Term}
use Rattle.esc_term.specs.declared.formula.Formula.{Formula}
use Rattle.esc_term.specs.declared.formula.Formula.TheVariants.{Eq, Not}
use Rattle.esc_term.specs.declared.formula.Item.{Item}
use Rattle.esc_term.specs.Interpretation.{truth}
use Rattle.esc_term.specs.Model.{Model, read_in, value_in}
use Rattle.esc_term.specs.Refuted.{AllTrue, Follows}
use Rattle.esc_term.proofs.Models.{Follows-from_models, Follows-in_models}
use Rattle.esc_term.proofs.TruthLevels.{truth-Eq, truth-Not}
use Rattle.esc_cover.specs.Laws.{HoldsIn}
use Rattle.esc_cover.proofs.TestLemmas.{not_true}
use Rattle.esc_sharing.specs.Shared.{AreEqualInModels}
use Rattle.esc_outcome.specs.Causes.{AllFollow, stated}
use Rattle.esc_outcome.specs.JamLaws.{ToldFollows}

-- an item whose statement is true has its sign
stated_holds : (M : Model) (item : Item) → truth (read_in M) (stated item) ≡ true → HoldsIn M item
stated_holds M item = go item.positive
  where
    go : (b : Bool) → truth (read_in M) (if b then item.formula else Not item.formula) ≡ true
        → truth (read_in M) item.formula ≡ b
    go true h = h
    go false h =
        not_true (truth (read_in M) item.formula)
        (sym (truth-Not (read_in M) item.formula) ∙ h)

module _ (fs : List Formula) (literals : List Item) (follow : AllFollow fs literals) where
  pub all_hold : (M : Model) → AllTrue (read_in M) fs → All (HoldsIn M) literals
  all_hold M all =
      All-weaker (λ (item : Item). Follows fs (stated item)) (HoldsIn M)
      (λ item h. stated_holds M item (Follows-in_models fs (stated item) h M all)) literals follow

  equal_follows : (pair : Term × Term) → AreEqualInModels literals pair
      → Follows fs (Eq pair.0 pair.1)
  equal_follows pair equal =
      Follows-from_models fs (Eq pair.0 pair.1) (λ M all.
      truth-Eq (read_in M) pair.0 pair.1
      ∙ (Decides-int_eq (value_in M pair.0) (value_in M pair.1)).1 (equal M (all_hold M all)))

pub told_follows : ToldFollows
told_follows fs literals told follow equal =
    All-weaker (AreEqualInModels literals) (λ pair. Follows fs (Eq pair.0 pair.1))
    (equal_follows fs literals follow) told equal
