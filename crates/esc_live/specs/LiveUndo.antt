-- How a branch takes records back: a record goes to its own part, and the others stay.
use Rattle.std.proofs.Common.{refl, sym, ap, subst, ◌∙◌}
use Rattle.std.specs.Prelude.{◌≡◌, ℕ, ◌-◌, ◌<◌, List, length, take}
use Rattle.esc_trail.specs.Undo.{IsLawful, Undo}
use Rattle.esc_book.specs.BookUndo.{book_undo}
use Rattle.esc_clause.specs.ClausesUndo.{clauses_undo}
use Rattle.esc_sharing.specs.SharingUndo.{sharing_lawful, sharing_undo}
use Rattle.esc_simplex.specs.SimplexLaws.{simplex_lawful}
use Rattle.esc_simplex.specs.SimplexUndo.{simplex_undo}
use Rattle.esc_simplex.specs.declared.record.SimplexRec.{SimplexRec}
use Rattle.esc_simplex.specs.declared.simplex.Simplex.{Simplex}
use Rattle.esc_sharing.specs.declared.record.PartRec.{PartRec}
use Rattle.esc_sharing.specs.declared.sharing.Sharing.{Sharing}
use Rattle.esc_book.specs.Book.{Page}
use Rattle.esc_book.specs.declared.record.BookRec.TheVariants.{Live}
use Rattle.esc_clause.specs.declared.occurrence.Occurrence.{Occurrence}
use Rattle.esc_live.specs.declared.branch.LiveBranch.{LiveBranch}
use Rattle.esc_live.specs.declared.record.LiveRec.{LiveRec}
use Rattle.esc_live.specs.declared.record.LiveRec.TheVariants.{Shared, Clauses, Book, Literal}

abbrev pub shared_undo : Undo (Sharing Simplex) (PartRec SimplexRec)
shared_undo = sharing_undo simplex_undo

abbrev pub live_back : LiveBranch → LiveRec → LiveBranch
live_back v (Shared rec) = record v { sharing = shared_undo.back v.sharing rec }
live_back v (Clauses rec) = record v { clauses = clauses_undo.back v.clauses rec }
live_back v (Book rec) = record v { book = book_undo.back v.book rec }
live_back v Literal = record v { literals = take (length v.literals - 1) v.literals }

abbrev pub CanGoBack : LiveBranch → LiveRec → Type 0
CanGoBack v (Shared rec) = shared_undo.can v.sharing rec
CanGoBack v (Clauses rec) = clauses_undo.can v.clauses rec
CanGoBack v (Book rec) = book_undo.can v.book rec
CanGoBack v Literal = 0 < length v.literals

-- equal but for the log, which nothing takes back, and the sharing, which agrees in what it restores
pub record AreSame (v w : LiveBranch) : Type 0 where
  pub sharing : shared_undo.same v.sharing w.sharing
  pub clauses : v.clauses ≡ w.clauses
  pub live : v.book.live ≡ w.book.live
  pub pages : v.book.pages ≡ w.book.pages
  pub literals : v.literals ≡ w.literals
  pub alloc : v.alloc ≡ w.alloc

abbrev pub live_undo : Undo LiveBranch LiveRec
live_undo = record { back = live_back; can = CanGoBack; same = AreSame }

-- ---- it is lawful

abbrev shared_lawful : IsLawful shared_undo
shared_lawful = sharing_lawful simplex_undo simplex_lawful

same_can : (v w : LiveBranch) (rec : LiveRec) → AreSame v w → CanGoBack w rec → CanGoBack v rec
same_can v w (Shared rec) h can = shared_lawful.can_alike v.sharing w.sharing rec h.sharing can
same_can v w (Clauses rec) h can = subst (λ c. clauses_undo.can c rec) (sym h.clauses) can
same_can v w (Book Live) h can = subst (λ (xs : List ℕ). 0 < length xs) (sym h.live) can
same_can v w Literal h can = subst (λ (xs : List Occurrence). 0 < length xs) (sym h.literals) can

same_back : (v w : LiveBranch) (rec : LiveRec) → AreSame v w → CanGoBack w rec
    → AreSame (live_back v rec) (live_back w rec)
same_back v w (Shared rec) h can = record {
  sharing = shared_lawful.back_alike v.sharing w.sharing rec h.sharing can;
  clauses = h.clauses;
  live = h.live;
  pages = h.pages;
  literals = h.literals;
  alloc = h.alloc;
}
same_back v w (Clauses rec) h can = record {
  sharing = h.sharing;
  clauses = ap (λ c. clauses_undo.back c rec) h.clauses;
  live = h.live;
  pages = h.pages;
  literals = h.literals;
  alloc = h.alloc;
}
same_back v w (Book Live) h can = record {
  sharing = h.sharing;
  clauses = h.clauses;
  live = ap (λ (xs : List ℕ). take (length xs - 1) xs) h.live;
  pages = ap (λ (xs : List Page). take (length xs - 1) xs) h.pages;
  literals = h.literals;
  alloc = h.alloc;
}
same_back v w Literal h can = record {
  sharing = h.sharing;
  clauses = h.clauses;
  live = h.live;
  pages = h.pages;
  literals = ap (λ (xs : List Occurrence). take (length xs - 1) xs) h.literals;
  alloc = h.alloc;
}

pub live_lawful : IsLawful live_undo
live_lawful = record {
  reflexive = λ v. record {
    sharing = shared_lawful.reflexive v.sharing;
    clauses = refl;
    live = refl;
    pages = refl;
    literals = refl;
    alloc = refl;
  };
  symmetric = λ v w h. record {
    sharing = shared_lawful.symmetric v.sharing w.sharing h.sharing;
    clauses = sym h.clauses;
    live = sym h.live;
    pages = sym h.pages;
    literals = sym h.literals;
    alloc = sym h.alloc;
  };
  transitive = λ u v w h k. record {
    sharing = shared_lawful.transitive u.sharing v.sharing w.sharing h.sharing k.sharing;
    clauses = h.clauses ∙ k.clauses;
    live = h.live ∙ k.live;
    pages = h.pages ∙ k.pages;
    literals = h.literals ∙ k.literals;
    alloc = h.alloc ∙ k.alloc;
  };
  can_alike = same_can;
  back_alike = same_back;
}
