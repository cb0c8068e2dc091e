-- What a part of a branch notes, the branch notes.
use Rattle.std.proofs.Common.{◌≡◌, ◌-◌, ◌<◌, List, [], ◌∷◌, ◌++◌, length, take, refl, ap, arith}
use Rattle.std.proofs.Common.{length-append, subst, sym}
use Rattle.esc_trail.specs.Undo.{Notes}
use Rattle.esc_trail.proofs.Ends.{take-append_last}
use Rattle.esc_trail.proofs.Noting.{IsPart, notes_both, notes_nothing, notes_one, notes_within}
use Rattle.esc_book.specs.Book.{BookView}
use Rattle.esc_book.specs.BookUndo.{book_undo}
use Rattle.esc_book.specs.declared.record.BookRec.{BookRec}
use Rattle.esc_book.specs.declared.record.BookRec.TheVariants as book
use Rattle.esc_clause.specs.ClauseContext.{ClauseContext}
use Rattle.esc_clause.specs.ClausesUndo.{clauses_undo}
use Rattle.esc_clause.specs.declared.record.ClauseRec.{ClauseRec}
use Rattle.esc_clause.specs.declared.occurrence.Occurrence.{Occurrence}
use Rattle.esc_simplex.specs.declared.record.SimplexRec.{SimplexRec}
use Rattle.esc_simplex.specs.declared.simplex.Simplex.{Simplex}
use Rattle.esc_sharing.specs.SharingUndo.{part_carried}
use Rattle.esc_sharing.specs.declared.record.PartRec.{PartRec}
use Rattle.esc_sharing.specs.declared.record.PartRec.TheVariants as part
use Rattle.esc_sharing.specs.declared.sharing.Sharing.{Sharing}
use Rattle.esc_live.specs.LiveUndo.{live_lawful, live_undo, shared_undo}
use Rattle.esc_live.specs.declared.branch.LiveBranch.{LiveBranch}
use Rattle.esc_live.specs.declared.record.LiveRec.{LiveRec}
use Rattle.esc_live.specs.declared.record.LiveRec.TheVariants.{Shared, Clauses, Book, Literal}

abbrev pub LiveNotes : List LiveRec → List LiveRec → LiveBranch → LiveBranch → Type 0
LiveNotes = Notes live_undo (λ rec. rec)

pub live_nothing : (before : List LiveRec) (v : LiveBranch) → LiveNotes before before v v
live_nothing before v =
    notes_nothing live_undo (λ rec. rec) before before v v refl (live_lawful.reflexive v)

-- nothing changed
pub notes_same : (before after : List LiveRec) (v w : LiveBranch) → after ≡ before → w ≡ v
    → LiveNotes before after v w
notes_same before after v w kept same =
    notes_nothing live_undo (λ rec. rec) before after v w kept
    (subst (λ x. live_undo.same x v) (sym same) (live_lawful.reflexive v))

pub live_both : (first middle last : List LiveRec) (u v w : LiveBranch)
    → LiveNotes first middle u v → LiveNotes middle last v w → LiveNotes first last u w
live_both = notes_both live_undo live_lawful (λ rec. rec)

-- ---- the sharing

abbrev pub shared_carried : PartRec SimplexRec → LiveRec
shared_carried = part_carried (λ rec. Shared (part.Nodes rec)) (λ rec. Shared (part.Groups rec))
    (λ rec. Shared (part.Lists rec)) (λ rec. Shared (part.Theory rec))

carried_alike : (rec : PartRec SimplexRec) → shared_carried rec ≡ Shared rec
carried_alike (part.Nodes rec) = refl
carried_alike (part.Groups rec) = refl
carried_alike (part.Lists rec) = refl
carried_alike (part.Theory rec) = refl

module _ (v : LiveBranch) (before after : List LiveRec) where
  shared_part : IsPart shared_undo live_undo (λ s. record v { sharing = s }) Shared
  shared_part = record {
    back_there = λ s rec. refl;
    can_there = λ s rec can. can;
    same_there = λ s t h. record {
      sharing = h;
      clauses = refl;
      live = refl;
      pages = refl;
      literals = refl;
      alloc = refl;
    };
  }

  pub shared_notes : (t : Sharing Simplex)
      → Notes shared_undo shared_carried before after v.sharing t
      → LiveNotes before after v (record v { sharing = t })
  shared_notes t =
      notes_within shared_undo live_undo (λ s. record v { sharing = s }) Shared shared_part
      shared_carried (λ rec. rec) carried_alike before after v.sharing t

  clauses_part : IsPart clauses_undo live_undo (λ c. record v { clauses = c }) Clauses
  clauses_part = record {
    back_there = λ c rec. refl;
    can_there = λ c rec can. can;
    same_there = λ c d h. record {
      sharing = (live_lawful.reflexive v).sharing;
      clauses = h;
      live = refl;
      pages = refl;
      literals = refl;
      alloc = refl;
    };
  }

  pub clauses_notes : (c : ClauseContext)
      → Notes clauses_undo (λ rec. Clauses rec) before after v.clauses c
      → LiveNotes before after v (record v { clauses = c })
  clauses_notes c =
      notes_within clauses_undo live_undo (λ d. record v { clauses = d }) Clauses clauses_part
      (λ rec. Clauses rec) (λ rec. rec) (λ rec. refl) before after v.clauses c

  book_part : IsPart book_undo live_undo (λ b. record v { book = b }) Book
  book_part = record {
    back_there = λ b rec. refl;
    can_there = book_can;
    same_there = λ b c h. record {
      sharing = (live_lawful.reflexive v).sharing;
      clauses = refl;
      live = ap (λ (x : BookView). x.live) h;
      pages = ap (λ (x : BookView). x.pages) h;
      literals = refl;
      alloc = refl;
    };
  }
    where
      book_can : (b : BookView) (rec : BookRec) → book_undo.can b rec
          → live_undo.can (record v { book = b }) (Book rec)
      book_can b book.Live can = can

  pub book_notes : (b : BookView)
      → Notes book_undo (λ rec. Book rec) before after v.book b
      → LiveNotes before after v (record v { book = b })
  book_notes b =
      notes_within book_undo live_undo (λ c. record v { book = c }) Book book_part
      (λ rec. Book rec) (λ rec. rec) (λ rec. refl) before after v.book b

  pub literal_notes : (w : LiveBranch) (at : Occurrence)
      → w ≡ record v { literals = v.literals ++ at ∷ [] } → after ≡ before ++ Literal ∷ []
      → LiveNotes before after v w
  literal_notes w at is noted =
      rw is (notes_one live_undo (λ rec. rec) before after v
      (record v { literals = v.literals ++ at ∷ [] }) Literal noted
      (omega (arith, length-append v.literals (at ∷ [])))
      (record {
        sharing = (live_lawful.reflexive v).sharing;
        clauses = refl;
        live = refl;
        pages = refl;
        literals = take-append_last v.literals at;
        alloc = refl;
      }))
