-- Scripts that can be taken back after a call as before it.
use Rattle.std.proofs.Common.{◌≡◌, ℕ, [], drop, take, sym, subst}
use Rattle.esc_trail.specs.Undo.{CanRewind, Notes, rewind}
use Rattle.esc_simplex.specs.SimplexUndo.{AreSame, simplex_undo}
use Rattle.esc_simplex.specs.View.{IsSimplex}
use Rattle.simplex_cases.specs.Undoable.{IsUndoable}
use Rattle.simplex_cases.specs.Undoing.{record_of, restrictions_undo}
use Rattle.simplex_cases.specs.declared.script.Script.{Script}
use Rattle.simplex_cases.proofs.Kept.{rewinds_alike}
use Rattle.simplex_cases.proofs.Rewound.{older_rewind, rewinds_more, rewound_sound, newer_rewind}

-- without records
pub undoable_new : (s : Script) → IsSimplex s.owner.simplex → s.trail.records ≡ [] → IsUndoable s
undoable_new s sound none = record {
  sound = sound;
  rewinds = subst (CanRewind restrictions_undo s.owner) (sym none) tt;
}

-- after a call that noted records
pub undoable_more : (s t : Script) → IsSimplex t.owner.simplex
    → Notes simplex_undo record_of s.trail.records t.trail.records s.owner.simplex t.owner.simplex
    → IsUndoable s → IsUndoable t
undoable_more s t sound notes before = record {
  sound = sound;
  rewinds = rewinds_more s.owner t.owner s.trail.records t.trail.records notes before.rewinds;
}

-- after one that noted none
pub undoable_same : (s t : Script) → IsSimplex t.owner.simplex
    → AreSame t.owner.simplex s.owner.simplex → t.trail.records ≡ s.trail.records
    → IsUndoable s → IsUndoable t
undoable_same s t sound same records before = record {
  sound = sound;
  rewinds = subst (CanRewind restrictions_undo t.owner) (sym records)
      (rewinds_alike s.owner t.owner s.trail.records same before.rewinds);
}

-- at a mark
pub undoable_at : (s t : Script) (m : ℕ)
    → t.owner ≡ rewind restrictions_undo s.owner (drop m s.trail.records)
    → t.trail.records ≡ take m s.trail.records → IsUndoable s → IsUndoable t
undoable_at s t m owner records before =
    let newer = newer_rewind s.owner s.trail.records m before.rewinds in
    record {
      sound = subst (λ o. IsSimplex o.simplex) (sym owner)
          (rewound_sound s.owner (drop m s.trail.records) newer before.sound);
      rewinds = subst (λ o. CanRewind restrictions_undo o t.trail.records) (sym owner)
          (subst (CanRewind restrictions_undo
          (rewind restrictions_undo s.owner (drop m s.trail.records))) (sym records)
          (older_rewind s.owner s.trail.records m before.rewinds));
    }
