-- A group is asserted.
use Rattle.std.proofs.Common.{◌≡◌, ℕ, ◌<◌, inl, inr, List, [], ◌∷◌, ◌++◌, map, refl, ap}
use Rattle.std.proofs.Common.{sym}
use Rattle.std.proofs.Common.{subst}
use Rattle.std.specs.List.{All, Contains}
use Rattle.std.proofs.lemmas.List.{append-nil, map-append}
use Rattle.std.proofs.lemmas.List.Elements.{All-push, Contains-append_cases, Contains-append_left}
use Rattle.std.proofs.lemmas.List.Elements.{Contains-append_right}
use Rattle.std.specs.Prelude.{Result, Ok, Err}
use Rattle.esc_term.specs.declared.term.Term.{Term}
use Rattle.esc_nodes.specs.Terms.{terms_of}
use Rattle.esc_cover.specs.Assignment.{Assignment}
use Rattle.esc_union.specs.Merges.{SameClass}
use Rattle.esc_egraph.specs.Graph.{number_of}
use Rattle.esc_egraph.specs.declared.state.State.{State}
use Rattle.esc_egraph.specs.declared.state.State.TheVariants.{Open, Closed}
use Rattle.esc_distinct.specs.Groups.{AreBroken}
use Rattle.esc_simplex.specs.Senses.{Sense}
use Rattle.esc_simplex.specs.declared.stop.Stop.{Stop}
use Rattle.esc_simplex.specs.declared.stop.Stop.TheVariants as stop
use Rattle.esc_trail.specs.Undo.{IsLawful, Notes, Undo}
use Rattle.esc_egraph.specs.declared.record.EgraphRec.{EgraphRec}
use Rattle.esc_distinct.specs.GroupsUndo.{groups_undo}
use Rattle.esc_distinct.specs.declared.record.GroupRec.{GroupRec}
use Rattle.esc_sharing.specs.Calls.{Adds, AssertEnds}
use Rattle.esc_sharing.specs.Literals.{group_item}
use Rattle.esc_sharing.specs.Nodes.{node_count}
use Rattle.esc_sharing.specs.SettlingInside.{IsUnsettled, JoinsDemanded, Keeps}
use Rattle.esc_sharing.specs.Calls.{StepEnds}
use Rattle.esc_sharing.specs.Shared.{HaveNoModel, IsShared, Shared, items_in, literals_in, seen}
use Rattle.esc_sharing.specs.Numbers.{number_terms}
use Rattle.esc_sharing.specs.SharingUndo.{part_carried}
use Rattle.esc_sharing.specs.declared.record.ShareRec.{ShareRec}
use Rattle.esc_sharing.proofs.SharingNotes.{groups_note, made_nothing, tells_nothing}
use Rattle.esc_sharing.specs.declared.literal.Lit.{Lit}
use Rattle.esc_sharing.specs.declared.record.PartRec.{PartRec}
use Rattle.esc_sharing.specs.declared.sharing.Sharing.{Sharing}
use Rattle.esc_sharing.proofs.Demanded.{AreAmong, demanded_by_more}
use Rattle.esc_sharing.proofs.Least.{demanded_by_least}
use Rattle.esc_sharing.proofs.NoModel.{broken_no_model}
use Rattle.esc_sharing.proofs.Whole.{settled}

pub open_not_closed : (let s : State = Open in s) ≡ Closed → ⊥
open_not_closed e = cc

-- ---- the view with the group

module _ (v : Shared) (is : IsShared v) (group : List ℕ)
    (within : All (λ n. n < node_count v.graph) group) where
  abbrev pub grouped : Shared
  grouped = record v { groups = v.groups ++ (group ∷ []) }

  members : All (All (λ n. n < node_count v.graph)) (v.groups ++ (group ∷ []))
  members = All-push (All (λ n. n < node_count v.graph)) v.groups group is.parts.members within

  among : AreAmong (literals_in v) (literals_in grouped)
  among item h =
      elim (Contains-append_cases (items_in v) (map (group_item v.graph) v.groups) item h) [
        | inl asserted ↦ Contains-append_left (items_in v)
            (map (group_item v.graph) (v.groups ++ (group ∷ []))) item asserted
        | inr kept ↦ Contains-append_right (items_in v)
            (map (group_item v.graph) (v.groups ++ (group ∷ []))) item
            (subst (λ items. Contains items item)
            (sym (map-append (group_item v.graph) v.groups (group ∷ [])))
            (Contains-append_left (map (group_item v.graph) v.groups)
            (map (group_item v.graph) (group ∷ [])) item kept))
      ]

  demanded : JoinsDemanded grouped
  demanded = demanded_by_more (literals_in v) (literals_in grouped) v.graph.nodes _
      (number_of v.graph) among (demanded_by_least v is.parts.graph is.least)

  pub group_open : (AreBroken (number_of v.graph) (v.groups ++ (group ∷ [])) → ⊥)
      → IsUnsettled grouped (SameClass (number_of v.graph))
  group_open unbroken = record {
    parts = record {
      sound = is.parts.sound;
      graph = is.parts.graph;
      met = is.parts.met;
      sides = is.parts.sides;
      equations = is.parts.equations;
      forbidden = is.parts.forbidden;
      members = members;
      unbroken = unbroken;
      numbers = is.parts.numbers;
      told = is.parts.told;
    };
    exact = is.exact;
    some = is.some;
    demanded = demanded;
    known_equal = λ a b an bn same x admitted. is.agree.one_value x admitted a b an bn same;
  }

  pub group_closed : AreBroken (number_of v.graph) (v.groups ++ (group ∷ []))
      → HaveNoModel (literals_in grouped)
  group_closed broken =
      broken_no_model grouped demanded is.parts.graph is.parts.forbidden members (inr broken)

-- ---- what steps leave, as what a call adds

module _ {T Q W : Type 0} (undo : Undo T Q) (carry : PartRec Q → W) (is_sound : T → Type 0)
    (admits : T → Assignment → Type 0) (numbers_of : T → List (ℕ × Term))
    (made_of : T → List Sense) (lits : List Lit) (more : List (List ℕ)) (before after : List W)
    (entry exit : Sharing T)
    (keeps : Keeps undo carry is_sound numbers_of made_of lits more before after entry exit) where
  pub keeps_adds : Adds (seen is_sound admits numbers_of entry)
      (seen is_sound admits numbers_of exit) lits more
  keeps_adds = record {
    asserted = keeps.asserted;
    groups = keeps.groups;
    told = keeps.told;
    terms = ap terms_of keeps.nodes;
  }

  pub step_asserts : (result : Result State Stop)
      → StepEnds (seen is_sound admits numbers_of exit)
      (IsShared (seen is_sound admits numbers_of exit)) result
      → AssertEnds (seen is_sound admits numbers_of entry) (seen is_sound admits numbers_of exit)
      lits more result
  step_asserts (Ok Open) ends = (keeps_adds, ends)
  step_asserts (Ok Closed) ends = (keeps_adds, ends)
  step_asserts (Err (stop.Spill j)) ends = (keeps_adds, ends)
  step_asserts (Err (stop.Form t)) ends = (keeps_adds, ends)
  step_asserts (Err (stop.Pivots j)) ends = (keeps_adds, ends)
  step_asserts (Err stop.Memory) ends = tt

-- ---- a call that asserts a group

module _ (v : Shared) (is : IsShared v) (group : List ℕ)
    (within : All (λ n. n < node_count v.graph) group) (groups : List (List ℕ))
    (pushed : groups ≡ v.groups ++ (group ∷ [])) where
  pub group_members : All (All (λ n. n < node_count v.graph)) groups
  group_members = subst (All (All (λ n. n < node_count v.graph))) (sym pushed)
      (All-push (All (λ n. n < node_count v.graph)) v.groups group is.parts.members within)

  -- neither classes nor the theory change
  pub group_shared : (AreBroken (number_of v.graph) groups → ⊥)
      → IsShared (record v { groups = groups })
  group_shared unbroken =
      subst (λ list. IsShared (record v { groups = list })) (sym pushed)
      (settled (grouped v is group within) (SameClass (number_of v.graph))
      (group_open v is group within
      (λ broken. unbroken (subst (AreBroken (number_of v.graph)) (sym pushed) broken)))
      is.agree.one_value is.agree.parted)

  pub group_no_model : AreBroken (number_of v.graph) groups
      → HaveNoModel (literals_in (record v { groups = groups }))
  group_no_model broken =
      subst (λ list. HaveNoModel (literals_in (record v { groups = list }))) (sym pushed)
      (group_closed v is group within
      (subst (AreBroken (number_of v.graph)) pushed broken))

module _ {T Q W : Type 0} (undo : Undo T Q) (law : IsLawful undo) (nodes : EgraphRec → W)
    (groups : GroupRec → W) (lists : ShareRec → W) (theory : Q → W) (is_sound : T → Type 0)
    (numbers_of : T → List (ℕ × Term)) (made_of : T → List Sense) where
  pub keeps_grouped : (before after : List W) (v : Sharing T) (exit : List (List ℕ))
      (group : List ℕ) → exit ≡ v.groups ++ (group ∷ []) → is_sound v.theory
      → Notes groups_undo groups before after v.groups exit
      → Keeps undo (part_carried nodes groups lists theory) is_sound numbers_of made_of []
      (group ∷ []) before after v (record v { groups = exit })
  keeps_grouped before after v exit group pushed sound notes = record {
    sound = sound;
    numbers = refl;
    made = made_nothing (made_of v.theory) (number_terms (numbers_of v.theory));
    asserted = sym (append-nil v.asserted);
    groups = pushed;
    told = tells_nothing v.told;
    nodes = refl;
    undo = groups_note undo law nodes groups lists theory v before after v.groups exit notes;
  }
