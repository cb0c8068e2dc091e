-- A formula came at the end of the log, or nothing changed.
use Rattle.std.proofs.Common.{◌≡◌, ◌⊎◌, inl, inr, true, List, [], ◌∷◌, ◌++◌, ap, sym, subst, ◌∙◌}
use Rattle.std.specs.Prelude.{IsTrue, Result, Ok, Err, OnOk, OnErr}
use Rattle.std.specs.List.{All, Contains}
use Rattle.std.proofs.lemmas.List.Elements.{All-push, Contains-append_left}
use Rattle.esc_term.specs.declared.formula.Formula.{Formula}
use Rattle.esc_term.specs.Formula.{is_closed}
use Rattle.esc_term.specs.Model.{Model}
use Rattle.esc_book.specs.Book.{BookView}
use Rattle.esc_sharing.proofs.Lists.{All-each}
use Rattle.esc_outcome.proofs.Giving.{given_by_more}
use Rattle.esc_simplex.specs.SimplexLaws.{simplex_lawful}
use Rattle.esc_simplex.specs.SimplexUndo.{simplex_undo}
use Rattle.esc_sharing.specs.SharingUndo.{sharing_lawful}
use Rattle.esc_live.specs.LiveUndo.{shared_undo}
use Rattle.esc_live.specs.Promises.{IsBranch, IsGiven, IsSoundIn}
use Rattle.esc_live.specs.declared.branch.LiveBranch.{LiveBranch}
use Rattle.esc_live.proofs.BackAt.{branch_grown, sound_grown}

pub one_of : {X E A B : Type 0} (r : Result X E) → OnOk r A → OnErr r B → A ⊎ B
one_of (Ok x) a b = inl a
one_of (Err e) a b = inr b

module _ (v : LiveBranch) (f : Formula) where
  abbrev pub with_log : List Formula → BookView
  with_log fs = record v.book { logged = fs }

  abbrev more_log : BookView
  more_log = record v.book { logged = v.book.logged ++ f ∷ [] }

  module _ (b : BookView) (at : (b ≡ record v.book { logged = v.book.logged ++ f ∷ [] })
      ⊎ (b ≡ v.book)) where
    abbrev w : LiveBranch
    w = record v { book = b }

    book_rest : b ≡ with_log b.logged
    book_rest = elim at [
      | inl e ↦ e ∙ ap with_log (sym (ap (λ (x : BookView). x.logged) e))
      | inr e ↦ e ∙ ap with_log (sym (ap (λ (x : BookView). x.logged) e))
    ]

    pub logged_rest : w ≡ record v { book = record v.book { logged = b.logged } }
    logged_rest = ap (λ x. let y : LiveBranch = record v { book = x } in y) book_rest

    pub logged_given : IsGiven v → IsGiven w
    logged_given given = elim at [
      | inl e ↦ subst (λ (x : BookView). IsGiven (record v { book = x })) (sym e) (record {
        sound = given.sound;
        given = given_by_more v.book.logged (v.book.logged ++ f ∷ []) v.sharing.theory
            (All-each (Contains (v.book.logged ++ f ∷ [])) v.book.logged
            (λ g h. Contains-append_left v.book.logged (f ∷ []) g h)) given.given;
      })
      | inr e ↦ subst (λ (x : BookView). IsGiven (record v { book = x })) (sym e) given
    ]

    pub logged_branch : IsTrue (is_closed f) → IsBranch v → IsBranch w
    logged_branch closed is = elim at [
      | inl e ↦ subst (λ (x : BookView). IsBranch (record v { book = x })) (sym e)
          (branch_grown v is (f ∷ []) v.sharing
          ((sharing_lawful simplex_undo simplex_lawful).reflexive v.sharing)
          is.shared.shared.parts.sound
          (All-push (λ g. IsTrue (is_closed g)) v.book.logged f is.closed closed))
      | inr e ↦ subst (λ (x : BookView). IsBranch (record v { book = x })) (sym e) is
    ]

    pub logged_sound : IsBranch v → (M : Model) → IsSoundIn M v → IsSoundIn M w
    logged_sound is M so = elim at [
      | inl e ↦ subst (λ (x : BookView). IsSoundIn M (record v { book = x })) (sym e)
          (sound_grown v is (f ∷ []) v.sharing M so)
      | inr e ↦ subst (λ (x : BookView). IsSoundIn M (record v { book = x })) (sym e) so
    ]
