-- Uses of which each is new to those before it have different names, and the other way round.
use Rattle.std.proofs.Common.{◌≡◌, ◌≢◌, ◌∙◌, ◌<◌, ◌||◌, ℕ, Bool, true, false, zero, suc, refl, sym}
use Rattle.std.proofs.Common.{subst, arith, List, [], ◌∷◌, ◌++◌, length, get_or, append-nil}
use Rattle.std.proofs.Common.{append_assoc, true≢false}
use Rattle.std.proofs.lemmas.Bool.{false≢true}
use Rattle.std.proofs.lemmas.List.{get_or_append_left, get_or_at, length-append}
use Rattle.std.proofs.lemmas.List.Quantifiers.{all_pairs_push}
use Rattle.std.proofs.lemmas.Slice.Eq.{bytes_eq-Decides}
use Rattle.std.specs.List.{AllPairs}
use Rattle.std.specs.Str.{bytes_eq}
use Rattle.clap.specs.Walk.{has_row}
use Rattle.esc_words.specs.Uses.{Use, name_of}
use Rattle.esc_words.proofs.Rows.{rows_for}
use Rattle.esc_words.proofs.Steps.{AreFresh}
use Rattle.esc_words.proofs.Walks.{IsNew}

abbrev pub Differ : Use → Use → Type 0
Differ a b = name_of a ≢ name_of b

apart_by-new : (done : List Use) (one : Use) → IsNew done one → (k : ℕ) (d : Use) → k < length done
    → Differ (get_or done k d) one
apart_by-new [] one new k d lt = absurd (omega arith)
apart_by-new (u ∷ us) one new k d lt =
    go (bytes_eq (name_of u) (name_of one)) refl new k lt (apart_by-new us one)
  where
    go : (b : Bool) → bytes_eq (name_of u) (name_of one) ≡ b
        → (b || has_row (name_of one) (rows_for us)) ≡ false → (n : ℕ) → n < length (u ∷ us)
        → (IsNew us one → (m : ℕ) (e : Use) → m < length us → Differ (get_or us m e) one)
        → Differ (get_or (u ∷ us) n d) one
    go true is e n below behind = absurd (true≢false e)
    go false is e zero below behind = λ same.
        absurd (false≢true (sym is ∙ (bytes_eq-Decides (name_of u) (name_of one)).1 same))
    go false is e (suc n) below behind = behind e n d (omega arith)

new_by-apart : (done : List Use) (one : Use)
    → ((k : ℕ) (d : Use) → k < length done → Differ (get_or done k d) one) → IsNew done one
new_by-apart [] one apart = refl
new_by-apart (u ∷ us) one apart =
    go (bytes_eq (name_of u) (name_of one)) refl
    (new_by-apart us one (λ k d lt. apart (suc k) d (omega arith)))
  where
    go : (b : Bool) → bytes_eq (name_of u) (name_of one) ≡ b → IsNew us one
        → (b || has_row (name_of one) (rows_for us)) ≡ false
    go true is behind = absurd (apart 0 u (omega arith)
        ((bytes_eq-Decides (name_of u) (name_of one)).0 is))
    go false is behind = behind

differ_by-fresh : (done uses : List Use) → AllPairs Differ done → AreFresh done uses
    → AllPairs Differ (done ++ uses)
differ_by-fresh done [] differ fresh = subst (AllPairs Differ) (sym (append-nil done)) differ
differ_by-fresh done (one ∷ uses) differ fresh =
    subst (AllPairs Differ) (append_assoc done (one ∷ []) uses)
    (differ_by-fresh (done ++ one ∷ []) uses
    (all_pairs_push Differ done one differ (apart_by-new done one fresh.0)) fresh.1)

fresh_by-differ : (done uses : List Use) → AllPairs Differ (done ++ uses) → AreFresh done uses
fresh_by-differ done [] differ = tt
fresh_by-differ done (one ∷ uses) differ = (
  new_by-apart done one (λ k d lt.
      subst (λ u. Differ u one) (get_or_append_left done (one ∷ uses) d k lt)
      (subst (Differ (get_or (done ++ one ∷ uses) k d))
      (get_or_at done one uses d (length done) refl)
      (differ k (length done) d lt (shorter done one uses)))),
  fresh_by-differ (done ++ one ∷ []) uses
      (subst (AllPairs Differ) (sym (append_assoc done (one ∷ []) uses)) differ),
)
  where
    shorter : (xs : List Use) (y : Use) (ys : List Use) → length xs < length (xs ++ y ∷ ys)
    shorter xs y ys = simp length-append (omega arith)

pub once_by-fresh : (uses : List Use) → AreFresh [] uses → AllPairs Differ uses
once_by-fresh uses fresh = differ_by-fresh [] uses (λ i j d below lt. absurd (omega arith)) fresh

pub fresh_by-once : (uses : List Use) → AllPairs Differ uses → AreFresh [] uses
fresh_by-once uses once = fresh_by-differ [] uses once
