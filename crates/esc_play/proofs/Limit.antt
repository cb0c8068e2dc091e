-- Taking records back leaves the limit of pivots as it is.
use Rattle.std.proofs.Common.{◌≡◌, List, [], ◌∷◌, refl, sym, ◌∙◌}
use Rattle.esc_trail.specs.Undo.{Notes, rewind}
use Rattle.esc_simplex.specs.SimplexUndo.{simplex_undo}
use Rattle.esc_simplex.specs.declared.record.SimplexRec.{SimplexRec}
use Rattle.esc_simplex.specs.declared.record.SimplexRec.TheVariants.{Listed, Bound, Restricted}
use Rattle.esc_simplex.specs.declared.simplex.Simplex.{Simplex}
use Rattle.esc_sharing.specs.SharingUndo.{sharing_undo}
use Rattle.esc_sharing.specs.declared.record.PartRec.{PartRec}
use Rattle.esc_sharing.specs.declared.record.PartRec.TheVariants.{Nodes, Groups, Lists, Theory}
use Rattle.esc_sharing.specs.declared.record.ShareRec.TheVariants.{Asserted, Told}
use Rattle.esc_sharing.specs.declared.sharing.Sharing.{Sharing}

limit-back : (s : Sharing Simplex) (rec : PartRec SimplexRec)
    → ((sharing_undo simplex_undo).back s rec).theory.limit ≡ s.theory.limit
limit-back s (Nodes rec) = refl
limit-back s (Groups rec) = refl
limit-back s (Lists Asserted) = refl
limit-back s (Lists Told) = refl
limit-back s (Theory Listed) = refl
limit-back s (Theory Bound) = refl
limit-back s (Theory Restricted) = refl

limit-rewind : (s : Sharing Simplex) (recs : List (PartRec SimplexRec))
    → (rewind (sharing_undo simplex_undo) s recs).theory.limit ≡ s.theory.limit
limit-rewind s [] = refl
limit-rewind s (rec ∷ recs) =
    limit-back (rewind (sharing_undo simplex_undo) s recs) rec ∙ limit-rewind s recs

pub limit-noted : {W : Type 0} (carry : PartRec SimplexRec → W) (before after : List W)
    (entry exit : Sharing Simplex) → Notes (sharing_undo simplex_undo) carry before after entry exit
    → exit.theory.limit ≡ entry.theory.limit
limit-noted carry before after entry exit notes =
    sym (limit-rewind exit notes.recs) ∙ notes.undone.theory.limit
