-- How a branch of a search grows.
use Rattle.std.proofs.Common.{◌≡◌, ◌⊎◌, ℕ, ◌<◌, ◌≤◌, ◌^◌, true, IsTrue, List, [], ◌∷◌, ◌++◌, Some}
use Rattle.std.proofs.Common.{None, length, get_or, refl, sym, ap, ap₂, subst, subst₂, inl, inr}
use Rattle.std.proofs.Common.{arith}
use Rattle.std.specs.List.{Contains}
use Rattle.std.proofs.lemmas.List.{get_or_append_left, get_or_push, length-append, length_push}
use Rattle.std.proofs.lemmas.List.Elements.{All-cons, All-get_or, All-head, All-push, All-tail}
use Rattle.std.proofs.lemmas.List.Elements.{All-weaker, Contains-append_left, filter_map-append}
use Rattle.esc_term.specs.declared.formula.Formula.{Formula}
use Rattle.esc_clause.specs.declared.occurrence.Occurrence.{Occurrence}
use Rattle.esc_fact.specs.Fact.{formula_of, formulas_of}
use Rattle.esc_fact.specs.Legal.{IsLegalFront, is_first}
use Rattle.esc_fact.specs.declared.base.Base.{Base}
use Rattle.esc_fact.specs.declared.fact.Fact.{Fact}
use Rattle.esc_outcome.specs.Grown.{EachIsMade, Grown, IsDoneIn, IsMadeBy, IsPlace, IsShallowAmong}
use Rattle.esc_outcome.specs.Grown.{makers_of}
use Rattle.esc_outcome.specs.GrownLaws.{GrownByFact, GrownBySplit, GrownElsewhere, IsMadeOn}
use Rattle.esc_outcome.specs.GrownLaws.{SplitsRunOutEarly, with_fact, with_split_of}
use Rattle.esc_outcome.specs.Tree.{IsFree, IsOccurrence, IsRefutedAt, IsSideAmong, IsUndecidedAt}
use Rattle.esc_outcome.specs.Tree.{Side, SplitTree, path_of}
use Rattle.esc_outcome.specs.TreeLaws.{occurrences_in}
use Rattle.esc_outcome.specs.declared.branch.Branch.{Branch}
use Rattle.esc_outcome.specs.declared.branch.Split.{Split}
use Rattle.esc_outcome.proofs.Decided.{path_each, refuted_by_more, refuted_stays}
use Rattle.esc_outcome.proofs.Growing.{IsSideAmong-more, tree_grows, tree_stays, turn_for}
use Rattle.esc_outcome.proofs.Paths.{paths_stay}
use Rattle.esc_outcome.proofs.SmallTrees.{tree_is_small}

-- ---- lists

pub some_behind : {X : Type 0} (xs ys : List X) (y : X) → [] ≡ xs ++ (y ∷ ys) → ⊥
some_behind xs ys y e =
    let none = ap length e in
    omega (arith, none, length-append xs (y ∷ ys))

-- where a list with one more is parted: at the last element, or before it
pub push_parts : {X : Type 0} (xs before after : List X) (x y : X)
    → xs ++ (x ∷ []) ≡ before ++ (y ∷ after)
    → ((after ≡ []) × (y ≡ x) × (before ≡ xs)) ⊎ ((rest : List X) × (xs ≡ before ++ (y ∷ rest)))
push_parts [] [] after x y e = inl (cc, cc, refl)
push_parts [] (b ∷ bs) after x y e =
    let rest : [] ≡ bs ++ (y ∷ after) = cc in
    absurd (some_behind bs after y rest)
push_parts (z ∷ zs) [] after x y e =
    let same : z ≡ y = cc in
    inr (zs, ap (λ w. w ∷ zs) same)
push_parts (z ∷ zs) (b ∷ bs) after x y e =
    let same : z ≡ b = cc in
    let rest : zs ++ (x ∷ []) ≡ bs ++ (y ∷ after) = cc in
    elim (push_parts zs bs after x y rest) [
      | inl last ↦ inl (last.0, last.1, ap₂ (λ w ws. w ∷ ws) (sym same) last.2)
      | inr early ↦ inr (early.0, ap₂ (λ w ws. w ∷ ws) same early.1)
    ]

-- ---- places

place_for : (Done More : Side → Type 0) (old new : List Split) → length old ≤ length new
    → ((side : Side) → IsSideAmong (length old) side → Done side → More side) → (side : Side)
    → IsPlace Done old side → IsPlace More new side
place_for Done More old new longer more side place = record {
  there = IsSideAmong-more (length old) (length new) side place.there longer;
  in_turn = turn_for Done More (length old) more side place.there place.in_turn;
}

module _ (base : Base) (depth : ℕ) (branch : Branch) (grown : Grown base depth branch) where
  abbrev fs : List Formula
  fs = formulas_of base branch.log

  -- the place where a fact was added
  side_there : (k : ℕ) → k < length branch.log
      → IsSideAmong (length branch.splits) (get_or branch.sides k None)
  side_there k below =
      (All-get_or (IsPlace (IsDoneIn base branch) branch.splits) branch.sides k None
      (omega (arith, below, grown.one_side_each))
      (All-tail (IsPlace (IsDoneIn base branch) branch.splits) branch.under branch.sides
      grown.places)).there

  -- ---- one more split

  module _ (at : Occurrence) (free : IsFree branch.splits branch.under)
      (there : IsOccurrence fs at) (new : IsUndecidedAt branch.splits branch.under at) where
    abbrev split : Split
    split = record { under = branch.under; at = at }

    here : IsPlace (IsDoneIn base branch) branch.splits branch.under
    here = All-head (IsPlace (IsDoneIn base branch) branch.splits) branch.under branch.sides
        grown.places

    place_kept : (side : Side) → IsPlace (IsDoneIn base branch) branch.splits side
        → IsPlace (IsDoneIn base (with_split_of branch at)) (branch.splits ++ split ∷ []) side
    place_kept =
        place_for (IsDoneIn base branch) (IsDoneIn base (with_split_of branch at)) branch.splits
        (branch.splits ++ split ∷ []) (omega (arith, length_push branch.splits split))
        (refuted_stays fs branch.splits (split ∷ []))

    made_kept : EachIsMade base (with_split_of branch at)
    made_kept before after fact e =
        let below : length before < length branch.log =
        omega (arith, ap length e, length-append before (fact ∷ after)) in
        let side = get_or branch.sides (length before) None in
        subst (λ way. IsMadeBy (formulas_of base before) way (makers_of base fact))
        (sym (paths_stay branch.splits (split ∷ []) side (side_there (length before) below)))
        (grown.made before after fact e)

    pub grown_split : Grown base depth (with_split_of branch at)
    grown_split = record {
      log = grown.log;
      splits = tree_grows fs branch.splits split grown.splits here.there here.in_turn free there
          new;
      one_side_each = grown.one_side_each;
      places = All-cons
          (IsPlace (IsDoneIn base (with_split_of branch at)) (branch.splits ++ split ∷ []))
          (Some (length branch.splits, true)) branch.sides
          (record {
            there = omega (arith, length_push branch.splits split);
            in_turn = λ other. absurd (cc);
          })
          (All-weaker (IsPlace (IsDoneIn base branch) branch.splits)
          (IsPlace (IsDoneIn base (with_split_of branch at)) (branch.splits ++ split ∷ []))
          place_kept branch.sides
          (All-tail (IsPlace (IsDoneIn base branch) branch.splits) branch.under branch.sides
          grown.places));
      made = made_kept;
      shallow = grown.shallow;
    }

  -- ---- another side

  pub grown_elsewhere : (side : Side) → IsPlace (IsDoneIn base branch) branch.splits side
      → Grown base depth (record branch { under = side })
  grown_elsewhere side place = record {
    log = grown.log;
    splits = grown.splits;
    one_side_each = grown.one_side_each;
    places = All-cons (IsPlace (IsDoneIn base branch) branch.splits) side branch.sides place
        (All-tail (IsPlace (IsDoneIn base branch) branch.splits) branch.under branch.sides
        grown.places);
    made = grown.made;
    shallow = grown.shallow;
  }

  -- ---- one more fact

  module _ (fact : Fact) (front : IsLegalFront base (branch.log ++ fact ∷ []))
      (is_made : IsMadeOn base branch fact)
      (is_shallow : IsTrue (is_first fact)
      ⊎ IsShallowAmong base depth (branch.log ++ fact ∷ []) fact) where
    abbrev more : List Formula
    more = formulas_of base (fact ∷ [])

    abbrev gs : List Formula
    gs = formulas_of base (branch.log ++ fact ∷ [])

    longer : gs ≡ fs ++ more
    longer = filter_map-append (formula_of base) branch.log (fact ∷ [])

    -- what makes the fact is met at the place that these sides name for it
    abbrev EachIsMadeAt : List Side → List Fact → Fact → Type 0
    EachIsMadeAt sides before f =
        IsMadeBy (formulas_of base before)
        (path_of branch.splits (get_or sides (length before) None)) (makers_of base f)

    place_more : (side : Side) → IsPlace (IsDoneIn base branch) branch.splits side
        → IsPlace (IsDoneIn base (with_fact branch fact)) branch.splits side
    place_more =
        place_for (IsDoneIn base branch) (IsDoneIn base (with_fact branch fact)) branch.splits
        branch.splits (omega arith) (λ side among refuted.
        subst (λ hs. IsRefutedAt hs branch.splits side) (sym longer)
        (refuted_by_more fs more branch.splits side grown.splits.occur refuted))

    under_here : IsPlace (IsDoneIn base (with_fact branch fact)) branch.splits branch.under
    under_here =
        place_more branch.under
        (All-head (IsPlace (IsDoneIn base branch) branch.splits) branch.under branch.sides
        grown.places)

    -- the last fact is made where the branch is, since all splits are of what stands before it
    made_last : EachIsMadeAt (branch.sides ++ branch.under ∷ []) branch.log fact
    made_last =
        subst (λ side. IsMadeBy fs (path_of branch.splits side) (makers_of base fact))
        (sym (get_or_push branch.sides branch.under None (length branch.log) grown.one_side_each))
        (record {
          earlier = path_each (IsOccurrence fs) branch.splits branch.under grown.splits.occur;
          met = is_made;
        })

    made_before : (before rest : List Fact) (f : Fact) → branch.log ≡ before ++ (f ∷ rest)
        → EachIsMadeAt (branch.sides ++ branch.under ∷ []) before f
    made_before before rest f e =
        let below : length before < length branch.sides =
        omega (arith, ap length e, length-append before (f ∷ rest), grown.one_side_each) in
        subst (λ side. IsMadeBy (formulas_of base before) (path_of branch.splits side)
        (makers_of base f))
        (sym (get_or_append_left branch.sides (branch.under ∷ []) None (length before) below))
        (grown.made before rest f e)

    made_more : EachIsMade base (with_fact branch fact)
    made_more before after f e =
        elim (push_parts branch.log before after fact f e) [
          | inl last ↦
              subst₂ (EachIsMadeAt (branch.sides ++ branch.under ∷ [])) (sym last.2) (sym last.1)
              made_last
          | inr early ↦ made_before before early.0 f early.1
        ]

    shallow_more : (f : Fact) → IsTrue (is_first f) ⊎ IsShallowAmong base depth branch.log f
        → IsTrue (is_first f) ⊎ IsShallowAmong base depth (branch.log ++ fact ∷ []) f
    shallow_more f (inl first) = inl first
    shallow_more f (inr shallow) = inr (record {
      list = shallow.list;
      legal = shallow.legal;
      logged = All-weaker (Contains branch.log) (Contains (branch.log ++ fact ∷ []))
          (Contains-append_left branch.log (fact ∷ [])) shallow.list shallow.logged;
      there = shallow.there;
      shallow = shallow.shallow;
    })

    pub grown_fact : Grown base depth (with_fact branch fact)
    grown_fact = record {
      log = front;
      splits = subst (λ hs. SplitTree (IsRefutedAt hs branch.splits) hs branch.splits) (sym longer)
          (tree_stays fs more branch.splits grown.splits);
      one_side_each = omega (
        arith,
        length_push branch.sides branch.under,
        length_push branch.log fact,
        grown.one_side_each,
      );
      places = All-cons (IsPlace (IsDoneIn base (with_fact branch fact)) branch.splits)
          branch.under (branch.sides ++ branch.under ∷ []) under_here
          (All-push (IsPlace (IsDoneIn base (with_fact branch fact)) branch.splits) branch.sides
          branch.under (All-weaker (IsPlace (IsDoneIn base branch) branch.splits)
          (IsPlace (IsDoneIn base (with_fact branch fact)) branch.splits) place_more branch.sides
          (All-tail (IsPlace (IsDoneIn base branch) branch.splits) branch.under branch.sides
          grown.places)) under_here);
      made = made_more;
      shallow = All-push
          (λ f. IsTrue (is_first f) ⊎ IsShallowAmong base depth (branch.log ++ fact ∷ []) f)
          branch.log fact (All-weaker
          (λ f. IsTrue (is_first f) ⊎ IsShallowAmong base depth branch.log f)
          (λ f. IsTrue (is_first f) ⊎ IsShallowAmong base depth (branch.log ++ fact ∷ []) f)
          shallow_more branch.log grown.shallow) is_shallow;
    }

pub grown_by_split : GrownBySplit
grown_by_split base depth branch at grown free there new =
    grown_split base depth branch grown at free there new

pub grown_is_elsewhere : GrownElsewhere
grown_is_elsewhere base depth branch side grown place =
    grown_elsewhere base depth branch grown side place

pub grown_by_fact : GrownByFact
grown_by_fact base depth branch fact grown front is_made is_shallow =
    grown_fact base depth branch grown fact front is_made is_shallow

pub splits_run_out_early : SplitsRunOutEarly
splits_run_out_early base limits branch next out =
    let fs = formulas_of base branch.log in
    subst (λ n. n < 2 ^ occurrences_in fs) out.spent
    (tree_is_small fs branch.splits out.grown.splits.tree out.grown.splits.once
    out.grown.splits.occur)
