-- Scripts that can be taken back after a call as before it.
use Rattle.std.proofs.Common.{◌≡◌, ◌≤◌, ℕ, List, [], ◌∷◌, ◌++◌, drop, take, length, sym}
use Rattle.std.proofs.Common.{ap, get_or, subst, ◌∙◌, arith}
use Rattle.std.specs.Prelude.{Bool, IsTrue, Ok, Result, Some}
use Rattle.std.specs.List.{All}
use Rattle.std.proofs.lemmas.List.{drop_all, drop-append-le, length-take-le, take-append-drop}
use Rattle.std.proofs.lemmas.List.Elements.{All-nil, All-push, All-pop, All-weaker}
use Rattle.esc_term.specs.declared.term.Term.{Term}
use Rattle.esc_cover.specs.Assignment.{Assignment}
use Rattle.esc_trail.specs.Undo.{CanRewind, Notes, Undo, rewind}
use Rattle.esc_trail.proofs.Rewinding.{CanRewind-split, rewind-append}
use Rattle.esc_egraph.specs.declared.state.State.{State}
use Rattle.esc_egraph.specs.declared.state.State.TheVariants.{Open}
use Rattle.esc_simplex.specs.declared.stop.Stop.{Stop}
use Rattle.esc_sharing.specs.Calls.{AddEnds, AssertEnds}
use Rattle.esc_sharing.specs.Shared.{IsShared, Shared, seen}
use Rattle.esc_sharing.specs.SharingUndo.{part_carried, sharing_undo}
use Rattle.esc_sharing.specs.Staying.{MarkStays, StandsAt}
use Rattle.esc_sharing.specs.declared.literal.Lit.{Lit}
use Rattle.esc_sharing.specs.declared.record.PartRec.{PartRec}
use Rattle.esc_sharing.specs.declared.record.PartRec.TheVariants.{Nodes, Groups, Lists, Theory}
use Rattle.esc_sharing.specs.declared.record.ShareRec.TheVariants.{Asserted, Told}
use Rattle.esc_sharing.specs.declared.sharing.Sharing.{Sharing}
use Rattle.sharing_cases.specs.Undoable.{AreRising, IsUndoable}
use Rattle.sharing_cases.specs.declared.script.Script.{Script}
use Rattle.sharing_cases.proofs.Rising.{rising_pop, rising_push}

-- by how the theory takes records back, what holds of it, what it admits, and its arithmetic nodes
module _ {T Q : Type 0} (undo : Undo T Q) (sound : T → Type 0) (admits : T → Assignment → Type 0)
    (numbers : T → List (ℕ × Term)) where
  abbrev undo_of : Undo (Sharing T) (PartRec Q)
  undo_of = sharing_undo undo

  abbrev shared_in : Sharing T → Shared
  shared_in s = seen sound admits numbers s

  abbrev Stands : Sharing T → List (PartRec Q) → ℕ → Type 0
  Stands = StandsAt undo sound admits numbers

  abbrev CanGoOn : Script T Q → Type 0
  CanGoOn = IsUndoable undo sound admits numbers

  -- ---- after a call

  abbrev NotesIn : Script T Q → Script T Q → Type 0
  NotesIn s t = Notes undo_of (part_carried (λ rec. Nodes rec) (λ rec. Groups rec)
      (λ rec. Lists rec) (λ rec. Theory rec)) s.trail.records t.trail.records s.owner t.owner

  module _ (stays : MarkStays undo sound admits numbers) where
    undoable_more : (s t : Script T Q) → sound t.owner.theory → NotesIn s t
        → t.levels.items ≡ s.levels.items → (IsTrue t.goes → IsShared (shared_in t.owner))
        → CanGoOn s → CanGoOn t
    undoable_more s t is_sound notes levels goes before = record {
      holds = is_sound;
      levels = subst (All (Stands t.owner t.trail.records)) (sym levels)
          (All-weaker (Stands s.owner s.trail.records) (Stands t.owner t.trail.records)
          (λ m h. stays s.owner t.owner s.trail.records t.trail.records m notes is_sound h)
          s.levels.items before.levels);
      rising = subst AreRising (sym levels) before.rising;
      goes = goes;
    }

    -- ---- after a call whose answer tells whether all is open

    pub undoable_added : (s t : Script T Q) (term : Term) (side : Bool)
        (answer : Result (ℕ × State) Stop) → sound t.owner.theory → NotesIn s t
        → t.levels.items ≡ s.levels.items
        → AddEnds (shared_in s.owner) (shared_in t.owner) term side answer
        → (IsTrue t.goes → (node : ℕ) × (answer ≡ Ok (node, Open))) → CanGoOn s → CanGoOn t
    undoable_added s t term side answer is_sound notes levels ends goes =
        undoable_more s t is_sound notes levels (λ h.
        (subst (AddEnds (shared_in s.owner) (shared_in t.owner) term side) (goes h).1 ends).3)

    pub undoable_asserted : (s t : Script T Q) (lits : List Lit) (groups : List (List ℕ))
        (answer : Result State Stop) → sound t.owner.theory → NotesIn s t
        → t.levels.items ≡ s.levels.items
        → AssertEnds (shared_in s.owner) (shared_in t.owner) lits groups answer
        → (IsTrue t.goes → answer ≡ Ok Open) → CanGoOn s → CanGoOn t
    undoable_asserted s t lits groups answer is_sound notes levels ends goes =
        undoable_more s t is_sound notes levels (λ h.
        (subst (AssertEnds (shared_in s.owner) (shared_in t.owner) lits groups) (goes h) ends).1)

  -- ---- marks

  -- none is above the length of the trail
  pub undoable_marked : (s t : Script T Q) → t.owner ≡ s.owner → t.trail.records ≡ s.trail.records
      → t.levels.items ≡ s.levels.items ++ length s.trail.records ∷ [] → IsTrue s.goes
      → t.goes ≡ s.goes → CanGoOn s → CanGoOn t
  undoable_marked s t owner records levels goes same before = record {
    holds = subst (λ o. sound o.theory) (sym owner) before.holds;
    levels = subst (All (Stands t.owner t.trail.records)) (sym levels)
        (subst (λ o. All (Stands o t.trail.records) more) (sym owner)
        (subst (λ rs. All (Stands s.owner rs) more) (sym records)
        (All-push (Stands s.owner s.trail.records) s.levels.items (length s.trail.records)
        before.levels here)));
    rising = subst AreRising (sym levels) (rising_push s.levels.items (length s.trail.records)
        before.rising (All-weaker (Stands s.owner s.trail.records)
        (λ k. k ≤ length s.trail.records) (λ k h. h.within) s.levels.items before.levels));
    goes = λ h. subst (λ o. IsShared (shared_in o)) (sym owner) (before.goes goes);
  }
    where
      more : List ℕ
      more = s.levels.items ++ length s.trail.records ∷ []

      none : drop (length s.trail.records) s.trail.records ≡ []
      none = drop_all (length s.trail.records) s.trail.records (omega arith)

      here : Stands s.owner s.trail.records (length s.trail.records)
      here = record {
        within = omega arith;
        rewinds = subst (CanRewind undo_of s.owner) (sym none) tt;
        shared = subst (λ rs. IsShared (shared_in (rewind undo_of s.owner rs))) (sym none)
            (before.goes goes);
      }

  -- an older mark, seen from where a newer one was gone back to
  module _ (o : Sharing T) (recs : List (PartRec Q)) (m k : ℕ)
      (newer : m ≤ length recs) (older : k ≤ m) where
    inside : k ≤ length (take m recs)
    inside = omega (arith, length-take-le m recs newer)

    parts : drop k recs ≡ drop k (take m recs) ++ drop m recs
    parts = ap (drop k) (sym (take-append-drop m recs))
        ∙ drop-append-le k (take m recs) (drop m recs) inside

    stands_at : Stands o recs k → Stands (rewind undo_of o (drop m recs)) (take m recs) k
    stands_at h = record {
      within = inside;
      rewinds = (CanRewind-split undo_of o (drop k (take m recs)) (drop m recs)
          (subst (CanRewind undo_of o) parts h.rewinds)).1;
      shared = subst (λ v. IsShared (shared_in v))
          (rewind-append undo_of o (drop k (take m recs)) (drop m recs))
          (subst (λ rs. IsShared (shared_in (rewind undo_of o rs))) parts h.shared);
    }

  -- the newest mark
  pub newest_stands : (s : Script T Q) (ms : List ℕ) (m : ℕ) → s.levels.items ≡ ms ++ m ∷ []
      → CanGoOn s → Stands s.owner s.trail.records m
  newest_stands s ms m levels before = (All-pop (Stands s.owner s.trail.records) s.levels.items
      ms (Some m) levels before.levels).1

  -- what holds of the theory holds where records are taken back
  module _ (keeps : (v : T) (rec : Q) → undo.can v rec → sound v → sound (undo.back v rec)) where
    back_sound : (s : Sharing T) (rec : PartRec Q) → undo_of.can s rec → sound s.theory
        → sound (undo_of.back s rec).theory
    back_sound s (Nodes rec) can h = h
    back_sound s (Groups rec) can h = h
    back_sound s (Lists Asserted) can h = h
    back_sound s (Lists Told) can h = h
    back_sound s (Theory rec) can h = keeps s.theory rec can h

    rewound_sound : (s : Sharing T) (recs : List (PartRec Q)) → CanRewind undo_of s recs
        → sound s.theory → sound (rewind undo_of s recs).theory
    rewound_sound s [] can h = h
    rewound_sound s (rec ∷ recs) can h =
        back_sound (rewind undo_of s recs) rec can.1 (rewound_sound s recs can.0 h)

    -- where it was gone back to
    pub undoable_at : (s t : Script T Q) (m : ℕ) → s.levels.items ≡ t.levels.items ++ m ∷ []
        → t.owner ≡ rewind undo_of s.owner (drop m s.trail.records)
        → t.trail.records ≡ take m s.trail.records → CanGoOn s → CanGoOn t
    undoable_at s t m levels owner records before = record {
      holds = subst (λ o. sound o.theory) (sym owner)
          (rewound_sound s.owner (drop m s.trail.records) at.1.rewinds before.holds);
      levels = subst (λ o. All (Stands o t.trail.records) t.levels.items) (sym owner)
          (subst (λ rs. All (Stands there rs) t.levels.items) (sym records) all);
      rising = rising.0;
      goes = λ h. subst (λ o. IsShared (shared_in o)) (sym owner) at.1.shared;
    }
      where
        there : Sharing T
        there = rewind undo_of s.owner (drop m s.trail.records)

        at : All (Stands s.owner s.trail.records) t.levels.items
            × Stands s.owner s.trail.records m
        at = All-pop (Stands s.owner s.trail.records) s.levels.items t.levels.items (Some m) levels
            before.levels

        rising : AreRising t.levels.items × All (λ k. k ≤ m) t.levels.items
        rising = rising_pop t.levels.items m (subst AreRising levels before.rising)

        all : All (Stands there (take m s.trail.records)) t.levels.items
        all k d under = stands_at s.owner s.trail.records m (get_or t.levels.items k d) at.1.within
            (rising.1 k d under) (at.0 k d under)

  -- without records and marks
  pub undoable_new : (s : Script T Q) → IsShared (shared_in s.owner) → s.levels.items ≡ []
      → CanGoOn s
  undoable_new s shared none = record {
    holds = shared.parts.sound;
    levels = subst (All (Stands s.owner s.trail.records)) (sym none)
        (All-nil (Stands s.owner s.trail.records));
    rising = subst AreRising (sym none) tt;
    goes = λ h. shared;
  }
