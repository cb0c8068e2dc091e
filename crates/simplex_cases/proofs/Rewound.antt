-- Records of restrictions that can be taken back.
use Rattle.std.proofs.Common.{ℕ, List, [], ◌∷◌, drop, take, refl, sym, subst, arith}
use Rattle.std.proofs.lemmas.List.{take-append-drop}
use Rattle.esc_trail.specs.Undo.{CanRewind, Notes, rewind}
use Rattle.esc_trail.proofs.Noting.{IsPart, keeps_mark, notes_within}
use Rattle.esc_trail.proofs.Rewinding.{CanRewind-split}
use Rattle.esc_simplex.specs.SimplexUndo.{simplex_undo}
use Rattle.esc_simplex.specs.View.{IsSimplex}
use Rattle.esc_simplex.specs.declared.simplex.Simplex.{Simplex}
use Rattle.esc_simplex.proofs.BackIsSound.{back_is_sound}
use Rattle.simplex_cases.specs.Undoing.{lawful, record_of, restrictions_undo}
use Rattle.simplex_cases.specs.declared.undoing.Rec.{Rec}
use Rattle.simplex_cases.specs.declared.undoing.Restrictions.{Restrictions}

abbrev restrictions_of : Simplex → Restrictions
restrictions_of v = record { simplex = v }

is_part : IsPart simplex_undo restrictions_undo restrictions_of record_of
is_part = record {
  back_there = λ v rec. refl;
  can_there = λ v rec can. can;
  same_there = λ v w same. same;
}

-- those that a call noted, and those before it
pub rewinds_more : (v w : Restrictions) (before after : List Rec)
    → Notes simplex_undo record_of before after v.simplex w.simplex
    → CanRewind restrictions_undo v before → CanRewind restrictions_undo w after
rewinds_more v w before after notes can =
    (keeps_mark restrictions_undo lawful (λ rec. rec) (λ rec. refl) 0 before after v w
    (notes_within simplex_undo restrictions_undo restrictions_of record_of is_part record_of
    (λ rec. rec) (λ rec. refl) before after v.simplex w.simplex notes) (omega arith) can).undoable

-- what holds between any two calls holds where records were taken back
pub rewound_sound : (v : Restrictions) (recs : List Rec) → CanRewind restrictions_undo v recs
    → IsSimplex v.simplex → IsSimplex (rewind restrictions_undo v recs).simplex
rewound_sound v [] can h = h
rewound_sound v (rec ∷ recs) can h =
    back_is_sound (rewind restrictions_undo v recs).simplex rec.simplex can.1
    (rewound_sound v recs can.0 h)

-- those after a mark can be taken back, and then those before it
module _ (v : Restrictions) (recs : List Rec) (m : ℕ)
    (can : CanRewind restrictions_undo v recs) where
  parts : CanRewind restrictions_undo v (drop m recs)
      × CanRewind restrictions_undo (rewind restrictions_undo v (drop m recs)) (take m recs)
  parts = CanRewind-split restrictions_undo v (take m recs) (drop m recs)
      (subst (CanRewind restrictions_undo v) (sym (take-append-drop m recs)) can)

  pub newer_rewind : CanRewind restrictions_undo v (drop m recs)
  newer_rewind = parts.0

  pub older_rewind : CanRewind restrictions_undo (rewind restrictions_undo v (drop m recs))
      (take m recs)
  older_rewind = parts.1
