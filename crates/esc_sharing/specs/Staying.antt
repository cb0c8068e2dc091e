-- What a sharing promises, it promises again where records were taken back.
use Rattle.std.specs.Prelude.{ℕ, ◌≤◌, List, drop, length}
use Rattle.esc_term.specs.declared.term.Term.{Term}
use Rattle.esc_cover.specs.Assignment.{Assignment}
use Rattle.esc_trail.specs.Undo.{CanRewind, Notes, Undo, rewind}
use Rattle.esc_sharing.specs.Shared.{IsShared, seen}
use Rattle.esc_sharing.specs.SharingUndo.{AreSame, part_carried, sharing_undo}
use Rattle.esc_sharing.specs.declared.record.PartRec.{PartRec}
use Rattle.esc_sharing.specs.declared.record.PartRec.TheVariants.{Nodes, Groups, Lists, Theory}
use Rattle.esc_sharing.specs.declared.sharing.Sharing.{Sharing}

-- by how the theory takes records back, what holds of it between any two calls, what it admits, and
-- its arithmetic nodes
module _ {T Q : Type 0} (undo : Undo T Q) (sound : T → Type 0) (admits : T → Assignment → Type 0)
    (numbers : T → List (ℕ × Term)) where
  -- a sharing that is the same as one that promises all, in what taking back restores
  abbrev pub PromiseStays : Type 0
  PromiseStays = (v w : Sharing T) → AreSame undo v w → sound w.theory
      → IsShared (seen sound admits numbers v) → IsShared (seen sound admits numbers w)

  -- the sharing can be taken back to its first records, so many, and promises all there
  pub record StandsAt (s : Sharing T) (recs : List (PartRec Q)) (mark : ℕ) : Type 0 where
    pub within : mark ≤ length recs
    pub rewinds : CanRewind (sharing_undo undo) s (drop mark recs)
    pub shared : IsShared (seen sound admits numbers (rewind (sharing_undo undo) s (drop mark recs)))

  -- so it is after each call that notes its changes, whatever the call answers
  abbrev pub MarkStays : Type 0
  MarkStays = (v w : Sharing T) (before after : List (PartRec Q)) (mark : ℕ)
      → Notes (sharing_undo undo) (part_carried (λ rec. Nodes rec) (λ rec. Groups rec)
      (λ rec. Lists rec) (λ rec. Theory rec)) before after v w → sound w.theory
      → StandsAt v before mark → StandsAt w after mark
