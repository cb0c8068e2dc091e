-- The classes of two nodes of a sharing are joined: what the step answers and leaves.
use Rattle.std.proofs.Common.{◌≡◌, ℕ, ◌<◌, ◌⊎◌, inl, inr, List, [], ◌∷◌, ◌++◌, length, refl}
use Rattle.std.proofs.Common.{ap, sym, subst, ◌∙◌, arith, length-append}
use Rattle.std.specs.Prelude.{Result, Ok}
use Rattle.std.proofs.lemmas.List.{append-nil}
use Rattle.esc_term.specs.declared.term.Term.{Term}
use Rattle.esc_cover.specs.Assignment.{Assignment}
use Rattle.esc_trail.specs.Undo.{IsLawful, Notes, Undo}
use Rattle.esc_union.specs.Merges.{SameClass, class_number}
use Rattle.esc_egraph.specs.Congruence.{EqualWith, IsBroken, IsLeast, IsMet}
use Rattle.esc_egraph.specs.Graph.{Adds, Graph, IsGraph, number_of}
use Rattle.esc_egraph.specs.GraphUndo.{graph_undo}
use Rattle.esc_egraph.specs.declared.record.EgraphRec.{EgraphRec}
use Rattle.esc_egraph.specs.declared.state.State.{State}
use Rattle.esc_egraph.specs.declared.state.State.TheVariants.{Open, Closed}
use Rattle.esc_distinct.specs.Groups.{AreBroken}
use Rattle.esc_distinct.specs.declared.record.GroupRec.{GroupRec}
use Rattle.esc_simplex.specs.Senses.{Sense}
use Rattle.esc_sharing.specs.Admitted.{AreEqualBy, AreTwoNumbers}
use Rattle.esc_sharing.specs.Nodes.{node_count, node_term}
use Rattle.esc_sharing.specs.SettlingInside.{IsUnsettled, Keeps}
use Rattle.esc_sharing.specs.Calls.{StepEnds}
use Rattle.esc_sharing.specs.Shared.{HaveNoModel, Shared, literals_in, seen}
use Rattle.esc_sharing.specs.SharingUndo.{part_carried}
use Rattle.esc_sharing.specs.declared.record.ShareRec.{ShareRec}
use Rattle.esc_sharing.specs.declared.sharing.Sharing.{Sharing}
use Rattle.esc_sharing.proofs.Joining.{found_closed, found_open, joined_now, joined_view}
use Rattle.esc_sharing.proofs.Least.{number_of_node}
use Rattle.esc_sharing.proofs.SharingNotes.{keeps_graph}
use Rattle.esc_sharing.proofs.ToldPairs.{JoinedBy}

-- what an Ok holds
pub ok_state : {E : Type 0} (s t : State) → (let r : Result State E = Ok s in r) ≡ Ok t → s ≡ t
ok_state s t e = cc

-- what both answers of a step show
pub step_ends : (w : Shared) (Done : Type 0) (state : State) → (state ≡ Open → Done)
    → (state ≡ Closed → HaveNoModel (literals_in w)) → StepEnds w Done (Ok state)
step_ends w Done Open opens closes = opens refl
step_ends w Done Closed opens closes = closes refl

adds_fewer : (old more : List (ℕ × ℕ)) → (more ≡ [] → ⊥) → length old < length (old ++ more)
adds_fewer old [] none = absurd (none refl)
adds_fewer old (m ∷ ms) none = omega (arith, length-append old (m ∷ ms))

module _ {T : Type 0} (is_sound : T → Type 0) (admits : T → Assignment → Type 0)
    (numbers_of : T → List (ℕ × Term)) (entry exit : Sharing T) (a b : ℕ)
    (Known : ℕ → ℕ → Type 0)
    (is : IsUnsettled (seen is_sound admits numbers_of entry) Known)
    (two : AreTwoNumbers entry.graph (numbers_of entry.theory) a b)
    (equal : AreEqualBy (admits entry.theory) (node_term entry.graph a) (node_term entry.graph b))
    (rest : exit ≡ record entry { graph = exit.graph })
    (others : exit.graph ≡ record entry.graph { merges = exit.graph.merges })
    (least : IsLeast entry.graph.nodes (EqualWith (number_of entry.graph) a b)
    (number_of exit.graph)) where
  abbrev v : Shared
  v = seen is_sound admits numbers_of entry

  abbrev merges : List (ℕ × ℕ)
  merges = exit.graph.merges

  abbrev joined : Sharing T
  joined = record entry { graph = record entry.graph { merges = merges } }

  exit_is : exit ≡ joined
  exit_is = rest ∙ ap (λ (g : Graph). let s : Sharing T = record entry { graph = g } in s) others

  al : a < node_count entry.graph
  al = (number_of_node v is.parts.numbers a two.first).0

  bl : b < node_count entry.graph
  bl = (number_of_node v is.parts.numbers b two.second).0

  at_exit : (P : Shared → Type 0) → P (joined_view v merges)
      → P (seen is_sound admits numbers_of exit)
  at_exit P holds =
      subst (λ (s : Sharing T). P (seen is_sound admits numbers_of s)) (sym exit_is) holds

  pub join_open : IsGraph exit.graph → IsMet exit.graph
      → (AreBroken (number_of exit.graph) entry.groups → ⊥)
      → (Now : ℕ → ℕ → Type 0) → ((c d : ℕ) → Now c d → JoinedBy Known a b c d)
      → IsUnsettled (seen is_sound admits numbers_of exit) Now
  join_open graph met unbroken Now joined =
      at_exit (λ w. IsUnsettled w Now)
      (found_open v merges a b al bl least Known is two.first two.second equal
      (subst IsGraph others graph) (subst IsMet others met) unbroken Now joined)

  pub join_closed : IsGraph exit.graph
      → IsBroken exit.graph ⊎ AreBroken (number_of exit.graph) entry.groups
      → HaveNoModel (literals_in (seen is_sound admits numbers_of exit))
  join_closed graph broken =
      at_exit (λ w. HaveNoModel (literals_in w))
      (found_closed v merges a b al bl least Known is two.first two.second equal
      (subst IsGraph others graph)
      (elim broken [ inl inside ↦ inl (subst IsBroken others inside) | inr twice ↦ inr twice ]))

  -- there is a merge more
  pub join_fewer : Adds entry.graph.merges merges → length entry.graph.merges < length merges
  join_fewer (more, grown) =
      subst (λ list. length entry.graph.merges < length list) (sym grown)
      (adds_fewer entry.graph.merges more (λ none. two.different
      (subst (λ list. SameClass (class_number list) a b)
      (grown ∙ (ap (λ list. entry.graph.merges ++ list) none ∙ append-nil entry.graph.merges))
      (joined_now v merges a b al bl least))))

module _ {T Q W : Type 0} (undo : Undo T Q) (law : IsLawful undo) (nodes : EgraphRec → W)
    (groups : GroupRec → W) (lists : ShareRec → W) (theory : Q → W) (is_sound : T → Type 0)
    (numbers_of : T → List (ℕ × Term)) (made_of : T → List Sense) (entry exit : Sharing T)
    (rest : exit ≡ record entry { graph = exit.graph })
    (others : exit.graph ≡ record entry.graph { merges = exit.graph.merges }) where
  pub join_keeps : (before after : List W) → is_sound entry.theory
      → Notes graph_undo nodes before after entry.graph exit.graph
      → Keeps undo (part_carried nodes groups lists theory) is_sound numbers_of made_of [] []
      before after entry exit
  join_keeps before after sound notes =
      subst (λ w. Keeps undo (part_carried nodes groups lists theory) is_sound numbers_of made_of []
      [] before after entry w) (sym rest)
      (keeps_graph undo law nodes groups lists theory is_sound numbers_of made_of before after entry
      exit.graph sound (ap (λ (g : Graph). g.nodes) others) notes)
