-- What is decided on the paths of a tree, and which sides are refuted.
use Rattle.std.proofs.Common.{◌≡◌, ℕ, Bool, true, false, List, [], ◌∷◌, ◌++◌, Option, Some, None}
use Rattle.std.proofs.Common.{append-nil, append_assoc, refl, sym, ap, ap₂, subst, ◌∙◌, inl, inr}
use Rattle.std.specs.Prelude.{IsSome, slice_get, if◌then◌else◌}
use Rattle.std.specs.List.{All, Contains, cons_option, filter_map, fold}
use Rattle.std.specs.Option.{option_and_then, option_map, option_map_or}
use Rattle.std.proofs.lemmas.List.Elements.{All-contains, All-head, All-nil, All-push, All-tail}
use Rattle.std.proofs.lemmas.List.Elements.{Contains-append_cases, Contains-append_left}
use Rattle.std.proofs.lemmas.List.Elements.{Contains-append_right, Contains-get_or}
use Rattle.std.proofs.lemmas.List.Elements.{filter_map-append}
use Rattle.std.proofs.lemmas.Option.{slice_get_cases}
use Rattle.esc_term.specs.declared.formula.Formula.{Formula}
use Rattle.esc_term.specs.declared.formula.Formula.TheVariants.{Not}
use Rattle.esc_term.specs.Refuted.{Refuted}
use Rattle.esc_term.proofs.Refutations.{among_more, split as split_refutes}
use Rattle.esc_clause.specs.Occurrences.{formula_at, occurrences_of}
use Rattle.esc_clause.specs.Refinement.{are_alike}
use Rattle.esc_clause.specs.declared.decision.Decision.{Decision}
use Rattle.esc_clause.specs.declared.occurrence.Occurrence.{Occurrence}
use Rattle.esc_sharing.proofs.Lists.{All-each}
use Rattle.esc_outcome.specs.Tree.{IsOccurrence, IsRefutedAt, IsTree, Placed, Side, formulas_at}
use Rattle.esc_outcome.specs.Tree.{path_among, path_behind, path_formulas, path_of, placed, said_by}
use Rattle.esc_outcome.specs.Tree.{with_split}
use Rattle.esc_outcome.specs.TreeLaws.{DecidedStays, RefutedByMore, RefutedStays, RootCloses}
use Rattle.esc_outcome.specs.TreeLaws.{SidesClose}
use Rattle.esc_outcome.specs.declared.branch.Split.{Split}
use Rattle.esc_outcome.proofs.Paths.{path_below, paths_stay, slice_get_append_left}

-- ---- what holds of each occurrence

module _ (P : Occurrence → Type 0) where
  pub record HasAll (p : Placed) : Type 0 where
    pub at : P p.at
    pub above : All (λ (d : Decision). P d.at) p.above

  pub path_all : (ps : List Placed) → All HasAll ps → (side : Side)
      → All (λ (d : Decision). P d.at) (path_among ps side)
  path_all ps all None = All-nil (λ (d : Decision). P d.at)
  path_all ps all (Some side) =
      elim (slice_get_cases ps side.0).1 [
        | inl found ↦
            let here : Contains ps found.0 =
            subst (Contains ps) found.3 (Contains-get_or ps side.0 found.0 found.1) in
            let is = All-contains HasAll ps found.0 all here in
            subst (λ o. All (λ (d : Decision). P d.at) (option_map_or (path_behind side.1) o []))
            (sym found.2)
            (All-push (λ (d : Decision). P d.at) found.0.above
            (record { at = found.0.at; holds = side.1 }) is.above is.at)
        | inr past ↦
            subst (λ o. All (λ (d : Decision). P d.at) (option_map_or (path_behind side.1) o []))
            (sym past.1) (All-nil (λ (d : Decision). P d.at))
      ]

  fold_all : (ps : List Placed) (more : List Split) → All HasAll ps
      → All (λ (s : Split). P s.at) more → All HasAll (fold with_split ps more)
  fold_all ps [] all each = all
  fold_all ps (s ∷ more) all each =
      fold_all (with_split ps s) more
      (All-push HasAll ps (record { at = s.at; above = path_among ps s.under }) all
      (record {
        at = All-head (λ (t : Split). P t.at) s more each;
        above = path_all ps all s.under;
      })) (All-tail (λ (t : Split). P t.at) s more each)

  -- of each decision where it holds of each split
  pub placed_all : (splits : List Split) → All (λ (s : Split). P s.at) splits
      → All HasAll (placed splits)
  unfolding placed
  placed_all splits each = fold_all [] splits (All-nil HasAll) each

  pub path_each : (splits : List Split) (side : Side) → All (λ (s : Split). P s.at) splits
      → All (λ (d : Decision). P d.at) (path_of splits side)
  path_each splits side each = path_all (placed splits) (placed_all splits each) side

-- ---- more formulas

pub not_none : {X : Type 0} (o : Option X) → o ≡ None → IsSome o → ⊥
not_none None e h = cc
not_none (Some f) e h = cc

pub formula_at-more : (fs more : List Formula) (at : Occurrence) → IsOccurrence fs at
    → formula_at (fs ++ more) at ≡ formula_at fs at
formula_at-more fs more at there =
    elim (slice_get_cases fs at.fact).1 [
      | inl found ↦
          ap (option_and_then (λ f. slice_get (occurrences_of f) at.place))
          (slice_get_append_left fs more at.fact found.1)
      | inr past ↦ absurd (no_formula (slice_get fs at.fact) past.1 there)
    ]
  where
    no_formula : (o : Option Formula) → o ≡ None
        → IsSome (option_and_then (λ f. slice_get (occurrences_of f) at.place) o) → ⊥
    no_formula None e h = cc
    no_formula (Some f) e h = cc

said_by-more : (fs more : List Formula) (ds : List Decision)
    → All (λ (d : Decision). IsOccurrence fs d.at) ds
    → filter_map (said_by (fs ++ more)) ds ≡ filter_map (said_by fs) ds
said_by-more fs more [] all = refl
said_by-more fs more (d ∷ ds) all =
    ap₂ (λ o rest. cons_option (option_map (λ f. if are_alike d.holds d.at.positive then f
    else Not f) o) rest)
    (formula_at-more fs more d.at (All-head (λ (e : Decision). IsOccurrence fs e.at) d ds all))
    (said_by-more fs more ds (All-tail (λ (e : Decision). IsOccurrence fs e.at) d ds all))

pub decided_stays : DecidedStays
decided_stays fs more splits side occur =
    said_by-more fs more (path_of splits side) (path_each (IsOccurrence fs) splits side occur)

-- ---- refuted sides

pub refuted_by_more : RefutedByMore
refuted_by_more fs more splits side occur refuted =
    let decided = path_formulas fs splits side in
    subst (λ ds. Refuted ((fs ++ more) ++ ds)) (sym (decided_stays fs more splits side occur))
    (among_more (fs ++ decided) ((fs ++ more) ++ decided)
    (All-each (Contains ((fs ++ more) ++ decided)) (fs ++ decided) (λ f h.
    elim (Contains-append_cases fs decided f h) [
      | inl first ↦ Contains-append_left (fs ++ more) decided f
          (Contains-append_left fs more f first)
      | inr second ↦ Contains-append_right (fs ++ more) decided f second
    ])) refuted)

pub refuted_stays : RefutedStays
refuted_stays fs splits more side among refuted =
    subst (λ path. Refuted (fs ++ filter_map (said_by fs) path))
    (sym (paths_stay splits more side among)) refuted

pub root_closes : RootCloses
root_closes fs splits refuted = subst Refuted (append-nil fs) refuted

module _ (fs : List Formula) (splits : List Split) (k : ℕ) (split : Split) (tree : IsTree splits)
    (is : slice_get splits k ≡ Some split) (f : Formula) (there : formula_at fs split.at ≡ Some f)
  where
    -- the formulas on a side of a split are those where it stands, and what is decided there
    formulas_below : (holds : Bool) → formulas_at fs splits (Some (k, holds))
        ≡ formulas_at fs splits split.under
        ++ ((if are_alike holds split.at.positive then f else Not f) ∷ [])
    formulas_below holds =
        let above = path_of splits split.under in
        let d : Decision = record { at = split.at; holds = holds } in
        ap (λ path. fs ++ filter_map (said_by fs) path) (path_below splits k split holds tree is)
        ∙ (ap (λ list. fs ++ list) (filter_map-append (said_by fs) above (d ∷ [])
        ∙ ap (λ o. filter_map (said_by fs) above ++ cons_option (option_map (λ g.
        if are_alike holds split.at.positive then g else Not g) o) []) there)
        ∙ sym (append_assoc fs (filter_map (said_by fs) above) _))

    refuted_below : (holds positive : Bool) → split.at.positive ≡ positive
        → IsRefutedAt fs splits (Some (k, holds))
        → Refuted (formulas_at fs splits split.under
        ++ ((if are_alike holds positive then f else Not f) ∷ []))
    refuted_below holds positive sign refuted =
        subst Refuted (formulas_below holds ∙ ap (λ b. formulas_at fs splits split.under
        ++ ((if are_alike holds b then f else Not f) ∷ [])) sign) refuted

    close : (positive : Bool) → split.at.positive ≡ positive
        → IsRefutedAt fs splits (Some (k, true)) → IsRefutedAt fs splits (Some (k, false))
        → IsRefutedAt fs splits split.under
    close true sign first second =
        split_refutes (formulas_at fs splits split.under) f (refuted_below true true sign first)
        (refuted_below false true sign second)
    close false sign first second =
        split_refutes (formulas_at fs splits split.under) f (refuted_below false false sign second)
        (refuted_below true false sign first)

pub sides_close : SidesClose
sides_close fs splits k split tree is there first second = go (formula_at fs split.at) refl
  where
    go : (o : Option Formula) → formula_at fs split.at ≡ o → IsRefutedAt fs splits split.under
    go None e = absurd (not_none (formula_at fs split.at) e there)
    go (Some f) e = close fs splits k split tree is f e split.at.positive refl first second
