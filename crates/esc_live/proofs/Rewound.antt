-- Taking records back leaves the log, the limit, and the arithmetic given by the log.
use Rattle.std.proofs.Common.{◌≡◌, ℕ, ◌-◌, List, [], ◌∷◌, length, map, take, refl, sym, subst, ap, ◌∙◌}
use Rattle.std.specs.List.{All}
use Rattle.std.proofs.lemmas.List.{take-map}
use Rattle.std.proofs.lemmas.List.Elements.{All-take}
use Rattle.esc_term.specs.declared.formula.Formula.{Formula}
use Rattle.esc_term.specs.declared.term.Term.{Term}
use Rattle.esc_trail.specs.Undo.{CanRewind, rewind}
use Rattle.esc_book.specs.declared.record.BookRec.TheVariants as book
use Rattle.esc_simplex.proofs.BackIsSound.{back_is_sound}
use Rattle.esc_simplex.specs.Senses.{term_at}
use Rattle.esc_simplex.specs.SimplexUndo.{CanGoBack, simplex_back}
use Rattle.esc_simplex.specs.View.{IsSimplex, numbers_in, senses_in}
use Rattle.esc_simplex.specs.declared.record.SimplexRec.{SimplexRec}
use Rattle.esc_simplex.specs.declared.record.SimplexRec.TheVariants.{Listed, Bound, Restricted}
use Rattle.esc_simplex.specs.declared.simplex.Simplex.{Simplex}
use Rattle.esc_sharing.specs.Numbers.{number_terms}
use Rattle.esc_sharing.specs.declared.record.PartRec.TheVariants as part
use Rattle.esc_sharing.specs.declared.record.ShareRec.TheVariants.{Asserted, Told}
use Rattle.esc_outcome.specs.Jam.{IsNumberOf}
use Rattle.esc_outcome.specs.JamLaws.{IsGivenBy}
use Rattle.esc_live.specs.Laws.{LeavesLog, RewoundIsGiven}
use Rattle.esc_live.specs.LiveUndo as live
use Rattle.esc_live.specs.LiveUndo.{live_back, live_undo}
use Rattle.esc_live.specs.Promises.{IsGiven}
use Rattle.esc_live.specs.declared.branch.LiveBranch.{LiveBranch}
use Rattle.esc_live.specs.declared.record.LiveRec.{LiveRec}
use Rattle.esc_live.proofs.LiveNotes.{LiveNotes}
use Rattle.esc_live.specs.declared.record.LiveRec.TheVariants.{Shared, Clauses, Book, Literal}

abbrev number_for : Simplex → ℕ × ℕ → ℕ × Term
number_for v pair = (pair.0, term_at v.made pair.1)

fewer_terms : (v : Simplex) (n : ℕ)
    → number_terms (map (number_for v) (take n v.bound)) ≡ take n (number_terms (numbers_in v))
fewer_terms v n =
    ap number_terms (sym (take-map (number_for v) n v.bound))
    ∙ sym (take-map (λ (number : ℕ × Term). number.1) n (map (number_for v) v.bound))

given_back : (fs : List Formula) (v : Simplex) (rec : SimplexRec) → IsGivenBy fs v
    → IsGivenBy fs (simplex_back v rec)
given_back fs v Listed given = record { numbers = given.numbers; made = given.made }
given_back fs v Bound given = record {
  numbers = subst (All (IsNumberOf fs)) (sym (fewer_terms v (length v.bound - 1)))
      (All-take (IsNumberOf fs) (length v.bound - 1) (number_terms (numbers_in v)) given.numbers);
  made = given.made;
}
given_back fs v Restricted given = record { numbers = given.numbers; made = given.made }

limit_back : (v : Simplex) (rec : SimplexRec) → (simplex_back v rec).limit ≡ v.limit
limit_back v Listed = refl
limit_back v Bound = refl
limit_back v Restricted = refl

means_back : (v : Simplex) (rec : SimplexRec) → senses_in (simplex_back v rec) ≡ senses_in v
means_back v Listed = refl
means_back v Bound = refl
means_back v Restricted = refl

kept_given : (v w : LiveBranch) → w.sharing.theory ≡ v.sharing.theory
    → w.book.logged ≡ v.book.logged → IsGiven v → LeavesLog v w
kept_given v w theory logged given = record {
  given = record {
    sound = subst (λ (t : Simplex). IsSimplex t) (sym theory) given.sound;
    given = subst (λ fs. IsGivenBy fs w.sharing.theory) (sym logged)
        (subst (IsGivenBy v.book.logged) (sym theory) given.given);
  };
  log = logged;
  means = ap (λ (t : Simplex). senses_in t) theory;
  limit = ap (λ (t : Simplex). t.limit) theory;
}

one_back : (v : LiveBranch) (rec : LiveRec) → live.CanGoBack v rec → IsGiven v
    → LeavesLog v (live_back v rec)
one_back v (Shared (part.Nodes rec)) can given = kept_given v _ refl refl given
one_back v (Shared (part.Groups rec)) can given = kept_given v _ refl refl given
one_back v (Shared (part.Lists Asserted)) can given = kept_given v _ refl refl given
one_back v (Shared (part.Lists Told)) can given = kept_given v _ refl refl given
one_back v (Shared (part.Theory rec)) can given = record {
  given = record {
    sound = back_is_sound v.sharing.theory rec can given.sound;
    given = given_back v.book.logged v.sharing.theory rec given.given;
  };
  log = refl;
  means = means_back v.sharing.theory rec;
  limit = limit_back v.sharing.theory rec;
}
one_back v (Clauses rec) can given = kept_given v _ refl refl given
one_back v (Book book.Live) can given = kept_given v _ refl refl given
one_back v Literal can given = kept_given v _ refl refl given

pub rewound_is_given : RewoundIsGiven
rewound_is_given v [] can given = kept_given v v refl refl given
rewound_is_given v (rec ∷ recs) can given =
    let earlier = rewound_is_given v recs can.0 given in
    let last = one_back (rewind live_undo v recs) rec can.1 earlier.given in
    record {
      given = last.given;
      log = last.log ∙ earlier.log;
      means = last.means ∙ earlier.means;
      limit = last.limit ∙ earlier.limit;
    }

-- ---- the limit alone

one_limit : (v : LiveBranch) (rec : LiveRec)
    → (live_back v rec).sharing.theory.limit ≡ v.sharing.theory.limit
one_limit v (Shared (part.Nodes rec)) = refl
one_limit v (Shared (part.Groups rec)) = refl
one_limit v (Shared (part.Lists Asserted)) = refl
one_limit v (Shared (part.Lists Told)) = refl
one_limit v (Shared (part.Theory rec)) = limit_back v.sharing.theory rec
one_limit v (Clauses rec) = refl
one_limit v (Book book.Live) = refl
one_limit v Literal = refl

all_limit : (v : LiveBranch) (recs : List LiveRec)
    → (rewind live_undo v recs).sharing.theory.limit ≡ v.sharing.theory.limit
all_limit v [] = refl
all_limit v (rec ∷ recs) = one_limit (rewind live_undo v recs) rec ∙ all_limit v recs

pub limit_noted : (before after : List LiveRec) (v w : LiveBranch) → LiveNotes before after v w
    → w.sharing.theory.limit ≡ v.sharing.theory.limit
limit_noted before after v w notes =
    sym (all_limit w notes.recs) ∙ notes.undone.sharing.theory.limit
