-- Calls that begin or end at views that are the same.
use Rattle.std.proofs.Common.{List, ◌∙◌}
use Rattle.esc_trail.specs.Undo.{Notes}
use Rattle.esc_simplex.specs.Calls.{KeepsLists}
use Rattle.esc_simplex.specs.SimplexUndo.{AreSame, simplex_undo}
use Rattle.esc_simplex.specs.SimplexLaws.{simplex_lawful}
use Rattle.esc_simplex.specs.declared.record.SimplexRec.{SimplexRec}
use Rattle.esc_simplex.specs.declared.simplex.Simplex.{Simplex}

pub notes_from_same : {Whole : Type 0} (carry : SimplexRec → Whole) (before after : List Whole)
    (v w exit : Simplex) → AreSame w v → Notes simplex_undo carry before after w exit
    → Notes simplex_undo carry before after v exit
notes_from_same carry before after v w exit same noted = record {
  recs = noted.recs;
  noted = noted.noted;
  undoable = noted.undoable;
  undone = simplex_lawful.transitive _ w v noted.undone same;
}

pub keeps_lists_both : (u v w : Simplex) → KeepsLists u v → KeepsLists v w → KeepsLists u w
keeps_lists_both u v w h k = record {
  unknowns = k.unknowns ∙ h.unknowns;
  bound = k.bound
      ∙ h.bound;
  made = k.made ∙ h.made;
  limit = k.limit ∙ h.limit;
}
