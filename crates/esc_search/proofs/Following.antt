-- What follows from the formulas of a search.
use Rattle.std.proofs.Common.{◌≡◌, Bool, true, false, List, [], ◌∷◌, ◌++◌, Option, Some, None}
use Rattle.std.proofs.Common.{sym, ap, subst, ◌∙◌}
use Rattle.std.specs.Prelude.{IsSome, IsSomeAnd, if◌then◌else◌, not, slice_get}
use Rattle.std.specs.List.{All, cons_option, filter_map}
use Rattle.std.specs.Option.{option_map}
use Rattle.std.proofs.lemmas.List.Elements.{All-append, All-contains, All-head}
use Rattle.std.proofs.lemmas.List.Elements.{filter_map-append}
use Rattle.esc_term.specs.declared.formula.Formula.{Formula}
use Rattle.esc_term.specs.declared.formula.Formula.TheVariants.{Not}
use Rattle.esc_term.specs.declared.formula.Item.{Item}
use Rattle.esc_term.specs.Interpretation.{truth}
use Rattle.esc_term.specs.Model.{Model, read_in}
use Rattle.esc_term.specs.Refuted.{AllTrue, Follows}
use Rattle.esc_term.proofs.Models.{Follows-from_models}
use Rattle.esc_term.proofs.TruthLevels.{truth-Not}
use Rattle.esc_cover.specs.Laws.{HoldsIn}
use Rattle.esc_cover.proofs.TestLemmas.{not_true}
use Rattle.esc_clause.specs.Laws.{IsSo}
use Rattle.esc_clause.specs.Occurrences.{formula_at, signed}
use Rattle.esc_clause.specs.Refinement.{are_alike}
use Rattle.esc_clause.specs.declared.decision.Decision.{Decision}
use Rattle.esc_sharing.proofs.Lists.{All-append_left, All-append_right, All-each}
use Rattle.esc_live.specs.Promises.{decided_as}
use Rattle.esc_outcome.specs.Causes.{AllFollow, stated}
use Rattle.esc_outcome.specs.Tree.{IsOccurrence, IsTree, path_formulas, path_of}
use Rattle.esc_outcome.specs.Tree.{said_by}
use Rattle.esc_outcome.specs.declared.branch.Split.{Split}
use Rattle.esc_outcome.proofs.Paths.{path_below}

-- ---- items

stated_true : (M : Model) (item : Item) → HoldsIn M item → truth (read_in M) (stated item) ≡ true
stated_true M item = go item.positive
  where
    go : (b : Bool) → truth (read_in M) item.formula ≡ b
        → truth (read_in M) (if b then item.formula else Not item.formula) ≡ true
    go true h = h
    go false h = truth-Not (read_in M) item.formula ∙ ap not h

-- what holds in each model of formulas follows from them
pub all_follow : (fs : List Formula) (literals : List Item)
    → ((M : Model) → AllTrue (read_in M) fs → All (HoldsIn M) literals) → AllFollow fs literals
all_follow fs literals hold =
    All-each (λ (item : Item). Follows fs (stated item)) literals (λ item there.
    Follows-from_models fs (stated item) (λ M all.
    stated_true M item (All-contains (HoldsIn M) literals item (hold M all) there)))

-- ---- decisions

said_so : (M : Model) (b : Bool) (o : Option Formula) → IsSome o
    → AllTrue (read_in M)
    (cons_option (option_map (λ f. if b then f else Not f) o) [])
    → IsSomeAnd (option_map (signed b) o) (HoldsIn M)
said_so M b None there all = absurd (cc)
said_so M b (Some f) there all =
    go b (All-head (λ (g : Formula). truth (read_in M) g ≡ true) (if b then f else Not f) [] all)
  where
    go : (c : Bool) → truth (read_in M) (if c then f else Not f) ≡ true
        → truth (read_in M) f ≡ c
    go true h = h
    go false h = not_true (truth (read_in M) f) (sym (truth-Not (read_in M) f) ∙ h)

pub record IsSoBelow (M : Model) (gs fs : List Formula) (splits : List Split) (d : Decision)
    (split : Split) : Type 0 where
  pub above : AllTrue (read_in M) (gs ++ path_formulas fs splits split.under)
  pub here : IsSo (HoldsIn M) fs (decided_as d)

-- a model of these formulas and of a side of a split is one of where it stands, and what is decided
-- is so in it
pub so_below : (M : Model) (gs fs : List Formula) (splits : List Split) (k : _) (split : Split)
    (holds : Bool) → IsTree splits → slice_get splits k ≡ Some split → IsOccurrence fs split.at
    → AllTrue (read_in M) (gs ++ path_formulas fs splits (Some (k, holds)))
    → IsSoBelow M gs fs splits (record { at = split.at; holds = holds }) split
so_below M gs fs splits k split holds tree is there all =
    let d : Decision = record { at = split.at; holds = holds } in
    let above = path_of splits split.under in
    let IsTrueIn : Formula → Type 0 = λ g. truth (read_in M) g ≡ true in
    let below = subst (λ path. AllTrue (read_in M) (gs ++ filter_map (said_by fs) path))
    (path_below splits k split holds tree is) all in
    let decided = subst (AllTrue (read_in M)) (filter_map-append (said_by fs) above (d ∷ []))
    (All-append_right IsTrueIn gs (filter_map (said_by fs) (above ++ (d ∷ []))) below) in
    record {
      above = All-append IsTrueIn gs (filter_map (said_by fs) above)
          (All-append_left IsTrueIn gs (filter_map (said_by fs) (above ++ (d ∷ []))) below)
          (All-append_left IsTrueIn (filter_map (said_by fs) above)
          (filter_map (said_by fs) (d ∷ [])) decided);
      here = said_so M (are_alike holds split.at.positive) (formula_at fs split.at) there
          (All-append_right IsTrueIn (filter_map (said_by fs) above)
          (filter_map (said_by fs) (d ∷ [])) decided);
    }
