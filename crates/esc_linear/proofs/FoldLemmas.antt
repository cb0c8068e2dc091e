-- A loop that makes the steps of a fold: whatever answers the rest of it answers the whole.
use Rattle.std.proofs.Common.{◌≡◌, ℕ, ◌+◌, ◌<◌, ◌≤◌, List, ◌∷◌, ◌++◌, drop, length, get_or, Result, Ok, Err, sym, subst, ap, ◌∙◌}
use Rattle.std.specs.List.{fold}
use Rattle.std.specs.Result.{IsErrAnd}
use Rattle.std.proofs.lemmas.List.{drop_more, drop_all}
use Rattle.esc_linear.specs.declared.form.FormJam.{FormJam}
use Rattle.esc_linear.specs.Steps.{Step, fold_steps, Yields}
use Rattle.esc_linear.proofs.StepLemmas.{goes_on, handed_on, ends}

module _ {S X : Type 0} (step : S → X → S) (own : S → X → List Step) where
  -- the fold over a list, answered
  abbrev pub IsFolded : Result S FormJam → S → List X → Type 0
  IsFolded r s xs = Yields r (fold_steps step own s xs) (fold step s xs)

  -- i items are done, and t is what they gave
  pub record Goes (s : S) (xs : List X) (i : ℕ) (t : S) : Type 0 where
    pub on : (r : Result S FormJam) → IsFolded r t (drop i xs) → IsFolded r s xs

  pub starts : (s : S) (xs : List X) → Goes s xs 0 s
  starts s xs = record { on = λ r h. h }

  at_item : (r : Result S FormJam) (xs : List X) (i : ℕ) (t : S) (x : X) → i < length xs → x
      ≡ get_or xs i x
      → Yields r (own t x ++ fold_steps step own (step t x) (drop (i + 1) xs))
      (fold step (step t x) (drop (i + 1) xs)) → IsFolded r t (drop i xs)
  unfolding fold_steps
  at_item r xs i t x within is h = subst (λ ys. IsFolded r t ys) (ap (λ y. y ∷ drop (i + 1) xs) is
      ∙ sym (drop_more xs i x within)) h

  -- an item more, whose steps fit
  pub goes : (s : S) (xs : List X) (i : ℕ) (t u : S) (x : X) → i < length xs → x ≡ get_or xs i x
      → Yields (Ok u) (own t x) (step t x) → Goes s xs i t → Goes s xs (i + 1) u
  unfolding Yields
  goes s xs i t u x within is answered h = record {
    on = λ r k. h.on r (at_item r xs i t x within is
        (goes_on r (own t x) _ _ answered.0 (subst (λ v. IsFolded r v (drop (i + 1) xs))
        answered.1 k)));
  }

  -- an item whose steps were not answered
  pub stops : {B : Type 0} (s : S) (xs : List X) (i : ℕ) (t : S) (x : X) (r : Result S FormJam)
      (q : Result B FormJam) (w : B) (e : FormJam) → i < length xs → x ≡ get_or xs i x
      → IsErrAnd r (λ f. f ≡ e) → q ≡ Err e
      → Yields q (own t x) w → Goes s xs i t → IsFolded r s xs
  stops s xs i t x r q w e within is error was answered h =
      h.on r (at_item r xs i t x within is (handed_on r q e (own t x) _ _ _ error was answered))

  pub done : (s : S) (xs : List X) (i : ℕ) (t : S) → length xs ≤ i → Goes s xs i t
      → IsFolded (Ok t) s xs
  unfolding fold_steps
  done s xs i t all h = h.on (Ok t) (subst (λ ys. IsFolded (Ok t) t ys) (sym (drop_all i xs all))
      (ends t))
