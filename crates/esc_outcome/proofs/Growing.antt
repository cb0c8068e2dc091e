-- Trees of splits that grow.
use Rattle.std.proofs.Common.{◌≡◌, ◌≢◌, ℕ, ◌<◌, ◌≤◌, true, false, List, [], ◌∷◌, ◌++◌, Some, None}
use Rattle.std.proofs.Common.{length, map, get_or, sym, ap, subst, ◌∙◌, inl, inr, arith}
use Rattle.std.specs.Prelude.{IsSome, slice_get}
use Rattle.std.specs.List.{All, Contains}
use Rattle.std.specs.Option.{option_map_or}
use Rattle.std.proofs.lemmas.List.{get_or_push, length_push, map_push}
use Rattle.std.proofs.lemmas.List.Elements.{All-contains, All-map, All-push, All-weaker}
use Rattle.std.proofs.lemmas.List.Elements.{Contains-get_or}
use Rattle.std.proofs.lemmas.List.Quantifiers.{all_pairs_push}
use Rattle.std.proofs.lemmas.Option.{get_or_from_slice_get, slice_get-get_or, slice_get_cases}
use Rattle.std.proofs.lemmas.Option.{slice_get_within}
use Rattle.esc_term.specs.declared.formula.Formula.{Formula}
use Rattle.esc_clause.specs.Refinement.{is_same_place}
use Rattle.esc_clause.specs.declared.decision.Decision.{Decision}
use Rattle.esc_clause.specs.declared.occurrence.Occurrence.{Occurrence}
use Rattle.esc_outcome.specs.Tree.{AreDifferent, ComesInTurn, IsFree, IsOccurrence, IsRefutedAt}
use Rattle.esc_outcome.specs.Tree.{IsSideAmong, IsTree, IsUndecidedAt, NamesOnce, Placed, Side}
use Rattle.esc_outcome.specs.Tree.{SplitTree, named_by, path_among, path_behind, path_of, placed}
use Rattle.esc_outcome.specs.TreeLaws.{NewSidesAreFree, TreeGrows, TreeStays}
use Rattle.esc_outcome.specs.declared.branch.Split.{Split}
use Rattle.esc_outcome.proofs.Decided.{formula_at-more, refuted_by_more, refuted_stays}
use Rattle.esc_outcome.proofs.Paths.{placed-append, slice_get_append_left}

-- ---- places

pub IsSideAmong-more : (n m : ℕ) (side : Side) → IsSideAmong n side → n ≤ m → IsSideAmong m side
IsSideAmong-more n m None among h = tt
IsSideAmong-more n m (Some side) among h = omega (arith, among, h)

-- each split stands at a side of the tree
pub all_among : (splits : List Split) → IsTree splits
    → All (λ (s : Split). IsSideAmong (length splits) s.under) splits
all_among splits tree k d below =
    IsSideAmong-more k (length splits) (get_or splits k d).under
    (tree.rooted k (get_or splits k d) (slice_get-get_or splits k d below)) (omega (arith, below))

-- ---- in turn

pub turn_for : (Done More : Side → Type 0) (n : ℕ)
    → ((side : Side) → IsSideAmong n side → Done side → More side) → (side : Side)
    → IsSideAmong n side → ComesInTurn Done side → ComesInTurn More side
turn_for Done More n more None among turn = tt
turn_for Done More n more (Some side) among turn =
    λ other. more (Some (side.0, true)) among (turn other)

-- ---- the occurrences of a path

path_different : (ps : List Placed) → All (λ (p : Placed). AreDifferent (named_by p)) ps
    → (side : Side) → AreDifferent (map (λ (d : Decision). d.at) (path_among ps side))
path_different ps all None = λ i j d before below. absurd (omega (arith, below))
path_different ps all (Some side) =
    let occurrences = map (λ (d : Decision). d.at) in
    elim (slice_get_cases ps side.0).1 [
      | inl found ↦
          let here : Contains ps found.0 =
          subst (Contains ps) found.3 (Contains-get_or ps side.0 found.0 found.1) in
          subst AreDifferent
          (sym (ap (λ o. occurrences (option_map_or (path_behind side.1) o [])) found.2
          ∙ map_push (λ (d : Decision). d.at) found.0.above
          (record { at = found.0.at; holds = side.1 })))
          (All-contains (λ (p : Placed). AreDifferent (named_by p)) ps found.0 all here)
      | inr past ↦
          subst AreDifferent
          (sym (ap (λ o. occurrences (option_map_or (path_behind side.1) o [])) past.1))
          (λ i j d before below. absurd (omega (arith, below)))
    ]

-- ---- a new split

module _ (fs : List Formula) (splits : List Split) (split : Split)
    (old : SplitTree (IsRefutedAt fs splits) fs splits)
    (among : IsSideAmong (length splits) split.under)
    (turn : ComesInTurn (IsRefutedAt fs splits) split.under) (free : IsFree splits split.under)
    (there : IsOccurrence fs split.at) (new : IsUndecidedAt splits split.under split.at) where
  abbrev grown : List Split
  grown = splits ++ split ∷ []

  rooted : (k : ℕ) (s : Split) → slice_get grown k ≡ Some s → IsSideAmong k s.under
  rooted k s is =
      elim (slice_get_cases splits k).1 [
        | inl found ↦
            old.tree.rooted k s
            (sym (slice_get_append_left splits (split ∷ []) k found.1) ∙ is)
        | inr past ↦
            let within = slice_get_within grown k s is in
            let here : length splits ≡ k =
            omega (arith, within, past.0, length_push splits split) in
            let same : split ≡ s =
            sym (get_or_push splits split split k here)
            ∙ get_or_from_slice_get grown k s split is in
            subst (λ (t : Split). IsSideAmong k t.under) same
            (subst (λ n. IsSideAmong n split.under) here among)
      ]

  once : NamesOnce grown
  once = subst (All (λ (p : Placed). AreDifferent (named_by p)))
      (sym (placed-append splits (split ∷ [])))
      (All-push (λ (p : Placed). AreDifferent (named_by p)) (placed splits) _ old.once
      (all_pairs_push (λ (a b : Occurrence). is_same_place a b ≡ false)
      (map (λ (d : Decision). d.at) (path_of splits split.under)) split.at
      (path_different (placed splits) old.once split.under)
      (All-map (λ (o : Occurrence). is_same_place o split.at ≡ false) (λ (d : Decision). d.at)
      (path_of splits split.under) new)))

  turns : All (λ (s : Split). ComesInTurn (IsRefutedAt fs grown) s.under) grown
  turns =
      let more = turn_for (IsRefutedAt fs splits) (IsRefutedAt fs grown) (length splits)
      (refuted_stays fs splits (split ∷ [])) in
      All-push (λ (s : Split). ComesInTurn (IsRefutedAt fs grown) s.under) splits split
      (λ k d below. more (get_or splits k d).under (all_among splits old.tree k d below)
      (old.in_turn k d below))
      (more split.under among turn)

  pub tree_grown : SplitTree (IsRefutedAt fs grown) fs grown
  tree_grown = record {
    tree = record {
      rooted = rooted;
      alone = all_pairs_push (λ (a b : Split). a.under ≢ b.under) splits split old.tree.alone free;
    };
    once = once;
    occur = All-push (λ (s : Split). IsOccurrence fs s.at) splits split old.occur there;
    in_turn = turns;
  }

pub tree_grows : TreeGrows
tree_grows fs splits split old among turn free there new =
    tree_grown fs splits split old among turn free there new

pub tree_stays : TreeStays
tree_stays fs more splits old = record {
  tree = old.tree;
  once = old.once;
  occur = All-weaker (λ (s : Split). IsOccurrence fs s.at)
      (λ (s : Split). IsOccurrence (fs ++ more) s.at)
      (λ s h. subst IsSome (sym (formula_at-more fs more s.at h)) h) splits old.occur;
  in_turn = λ k d below.
      turn_for (IsRefutedAt fs splits) (IsRefutedAt (fs ++ more) splits) (length splits)
      (λ side among. refuted_by_more fs more splits side old.occur) (get_or splits k d).under
      (all_among splits old.tree k d below) (old.in_turn k d below);
}

pub new_sides_are_free : NewSidesAreFree
new_sides_are_free splits split holds tree among =
    All-push (λ (s : Split). s.under ≢ Some (length splits, holds)) splits split
    (λ k d below. elsewhere (get_or splits k d).under (all_among splits tree k d below))
    (elsewhere split.under among)
  where
    elsewhere : (side : Side) → IsSideAmong (length splits) side
        → side ≢ Some (length splits, holds)
    elsewhere side is same =
        let below : length splits < length splits = subst (IsSideAmong (length splits)) same is in
        omega (arith, below)
