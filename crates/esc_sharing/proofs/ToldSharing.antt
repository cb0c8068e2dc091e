-- A pair is told to the theory of a sharing: what the step answers and leaves.
use Rattle.std.proofs.Common.{◌≡◌, ℕ, List, [], ◌∷◌, ◌++◌, sym, ap, subst, ◌∙◌}
use Rattle.std.specs.Prelude.{IsErr, Result, Ok, Err}
use Rattle.esc_term.specs.declared.term.Term.{Term}
use Rattle.esc_cover.specs.Assignment.{Assignment}
use Rattle.esc_trail.specs.Undo.{IsLawful, Notes, Undo}
use Rattle.esc_egraph.specs.declared.record.EgraphRec.{EgraphRec}
use Rattle.esc_egraph.specs.declared.state.State.{State}
use Rattle.esc_egraph.specs.declared.state.State.TheVariants.{Open, Closed}
use Rattle.esc_distinct.specs.declared.record.GroupRec.{GroupRec}
use Rattle.esc_simplex.specs.Senses.{Sense}
use Rattle.esc_simplex.specs.declared.stop.Stop.{Stop}
use Rattle.esc_simplex.specs.declared.stop.Stop.TheVariants as stop
use Rattle.esc_sharing.specs.Admitted.{RestrictEnds, both_gaps}
use Rattle.esc_sharing.specs.Nodes.{node_term}
use Rattle.esc_sharing.specs.Numbers.{AddsMade, number_terms}
use Rattle.esc_sharing.specs.SettlingInside.{IsUnsettled, Keeps}
use Rattle.esc_sharing.specs.Calls.{StepEnds}
use Rattle.esc_sharing.specs.Shared.{AreToldIn, HaveNoModel, IsUnderway, Shared, literals_in, seen}
use Rattle.esc_sharing.specs.SharingUndo.{part_carried}
use Rattle.esc_sharing.specs.declared.record.ShareRec.{ShareRec}
use Rattle.esc_sharing.specs.declared.record.ShareRec.TheVariants.{Told}
use Rattle.esc_sharing.specs.declared.sharing.Sharing.{Sharing}
use Rattle.esc_sharing.proofs.SharingNotes.{keeps_theory, keeps_then, keeps_told}
use Rattle.esc_sharing.proofs.ToldPairs.{JoinedBy, told_closed, told_open, told_underway}

-- a step that is given up leaves a view that is underway
pub ends_err : (w : Shared) (Done : Type 0) (result : Result State Stop) → IsErr result
    → IsUnderway w → StepEnds w Done result
ends_err w Done (Ok state) e underway = cc
ends_err w Done (Err (stop.Spill j)) e underway = underway
ends_err w Done (Err (stop.Form t)) e underway = underway
ends_err w Done (Err (stop.Pivots j)) e underway = underway
ends_err w Done (Err stop.Memory) e underway = tt

module _ {T Q W : Type 0} (undo : Undo T Q) (law : IsLawful undo) (nodes : EgraphRec → W)
    (groups : GroupRec → W) (lists : ShareRec → W) (theory : Q → W) (is_sound : T → Type 0)
    (numbers_of : T → List (ℕ × Term)) (made_of : T → List Sense)
    (entry between : Sharing T) (exit : T) (a b : ℕ)
    (pushed : between ≡ record entry { told = entry.told ++ ((a, b) ∷ []) }) where
  pub tell_keeps : (first middle last : List W) → is_sound entry.theory
      → middle ≡ first ++ (lists Told ∷ []) → is_sound exit
      → numbers_of exit ≡ numbers_of between.theory
      → AddsMade (made_of between.theory) (made_of exit) (number_terms (numbers_of between.theory))
      → Notes undo theory middle last between.theory exit
      → Keeps undo (part_carried nodes groups lists theory) is_sound numbers_of made_of [] [] first
      last entry (record between { theory = exit })
  tell_keeps first middle last sound noted sound_after numbers made notes =
      keeps_then undo law nodes groups lists theory is_sound numbers_of made_of [] [] first middle
      last entry between (record between { theory = exit })
      (subst (λ w. Keeps undo (part_carried nodes groups lists theory) is_sound numbers_of
      made_of [] [] first middle entry w) (sym pushed)
      (keeps_told undo law nodes groups lists theory is_sound numbers_of made_of first middle entry
      (a, b) sound noted))
      (keeps_theory undo law nodes groups lists theory is_sound numbers_of made_of middle last
      between exit sound_after numbers made notes)

module _ {T : Type 0} (is_sound : T → Type 0) (admits : T → Assignment → Type 0)
    (numbers_of : T → List (ℕ × Term)) (entry between : Sharing T) (exit : T) (a b : ℕ)
    (Known : ℕ → ℕ → Type 0) (is : IsUnsettled (seen is_sound admits numbers_of entry) Known)
    (pair : AreToldIn entry.graph (numbers_of entry.theory) (a, b))
    (pushed : between ≡ record entry { told = entry.told ++ ((a, b) ∷ []) })
    (numbers : numbers_of exit ≡ numbers_of between.theory) (sound : is_sound exit)
    (result : Result State Stop)
    (ends : RestrictEnds (admits between.theory) (admits exit)
    (both_gaps (node_term between.graph a, node_term between.graph b)) result) where
  -- the view at the end, with the numbers and lists of the one at the start
  abbrev after : List (ℕ × Term) → Shared
  after ns = record {
    graph = entry.graph;
    groups = entry.groups;
    asserted = entry.asserted;
    told = entry.told ++ ((a, b) ∷ []);
    numbers = ns;
    admits = admits exit;
    sound = is_sound exit;
  }

  at_entry : RestrictEnds (admits entry.theory) (admits exit)
      (both_gaps (node_term entry.graph a, node_term entry.graph b)) result
  at_entry = subst (λ (s : Sharing T). RestrictEnds (admits s.theory) (admits exit)
      (both_gaps (node_term s.graph a, node_term s.graph b)) result) pushed ends

  same_numbers : numbers_of exit ≡ numbers_of entry.theory
  same_numbers = numbers ∙ ap (λ (s : Sharing T). numbers_of s.theory) pushed

  -- what holds of that view holds of the one at the end
  at_exit : (P : Shared → Type 0) → P (after (numbers_of entry.theory))
      → P (seen is_sound admits numbers_of (record between { theory = exit }))
  at_exit P holds =
      subst (λ (s : Sharing T). P (seen is_sound admits numbers_of (record s { theory = exit })))
      (sym pushed) (subst (λ ns. P (after ns)) (sym same_numbers) holds)

  pub tell_open : result ≡ Ok Open
      → (Now : ℕ → ℕ → Type 0) → ((c d : ℕ) → Now c d → JoinedBy Known a b c d)
      → IsUnsettled (seen is_sound admits numbers_of (record between { theory = exit })) Now
  tell_open e Now joined =
      let open_ends : RestrictEnds (admits entry.theory) (admits exit)
      (both_gaps (node_term entry.graph a, node_term entry.graph b)) (Ok Open) =
      subst (RestrictEnds (admits entry.theory) (admits exit)
      (both_gaps (node_term entry.graph a, node_term entry.graph b))) e at_entry in
      at_exit (λ w. IsUnsettled w Now)
      (told_open (seen is_sound admits numbers_of entry) Known is a b pair (admits exit)
      (is_sound exit) sound open_ends.0 open_ends.1 Now joined)

  pub tell_closed : result ≡ Ok Closed
      → HaveNoModel (literals_in (seen is_sound admits numbers_of
      (record between { theory = exit })))
  tell_closed e =
      let closed_ends : RestrictEnds (admits entry.theory) (admits exit)
      (both_gaps (node_term entry.graph a, node_term entry.graph b)) (Ok Closed) =
      subst (RestrictEnds (admits entry.theory) (admits exit)
      (both_gaps (node_term entry.graph a, node_term entry.graph b))) e at_entry in
      at_exit (λ w. HaveNoModel (literals_in w))
      (told_closed (seen is_sound admits numbers_of entry) Known is a b pair (admits exit)
      (is_sound exit) sound closed_ends.1)

  pub tell_given_up : (why : Stop) → result ≡ Err why
      → IsUnderway (seen is_sound admits numbers_of (record between { theory = exit }))
  tell_given_up why e =
      at_exit IsUnderway
      (told_underway (seen is_sound admits numbers_of entry) Known is a b pair (admits exit)
      (is_sound exit) sound
      (subst (RestrictEnds (admits entry.theory) (admits exit)
      (both_gaps (node_term entry.graph a, node_term entry.graph b))) e at_entry))
