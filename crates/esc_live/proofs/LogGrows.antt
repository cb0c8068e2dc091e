-- More formulas in the log: what is said of those that there were stays.
use Rattle.std.proofs.Common.{◌≡◌, ℕ, zero, suc, ◌<◌, Bool, List, [], ◌∷◌, ◌++◌, Option, Some, None}
use Rattle.std.proofs.Common.{length, refl, ap, sym, subst, ◌∙◌, Any, arith}
use Rattle.std.specs.Prelude.{slice_get}
use Rattle.std.specs.List.{All, Contains, cons_option, filter_map}
use Rattle.std.specs.Option.{IsSome, IsSomeAnd, option_and_then, option_map, option_map_or}
use Rattle.std.proofs.lemmas.List.Elements.{All-contains, All-head, All-tail}
use Rattle.esc_term.specs.declared.term.Term.{Term}
use Rattle.esc_term.specs.declared.formula.Formula.{Formula, out-Formula}
use Rattle.esc_term.specs.declared.formula.Item.{Item}
use Rattle.esc_clause.specs.Expansion.{AllOf, clauses_in, clauses_of, expanded, expanded_form}
use Rattle.esc_clause.specs.Laws.{IsSo}
use Rattle.esc_clause.specs.Occurrences.{formula_at, item_at, occurrences_of, signed}
use Rattle.esc_clause.specs.declared.occurrence.Occurrence.{Occurrence}
use Rattle.esc_live.specs.Expanded.{IsExpanded}
use Rattle.esc_live.specs.Expanded.IsExpanded.{covered, parts, split}
use Rattle.esc_live.proofs.Parts.{IsPartIn, parts_are}

pub get_grows : {X : Type 0} (xs ys : List X) (k : ℕ) (x : X) → slice_get xs k ≡ Some x
    → slice_get (xs ++ ys) k ≡ Some x
get_grows [] ys k x e = absurd (cc)
get_grows (z ∷ zs) ys zero x e = e
get_grows (z ∷ zs) ys (suc k) x e = get_grows zs ys k x e

pub get_shrinks : {X : Type 0} (xs ys : List X) (k : ℕ) (x : X) → k < length xs
    → slice_get (xs ++ ys) k ≡ Some x → slice_get xs k ≡ Some x
get_shrinks [] ys k x l e = absurd (omega (arith, l))
get_shrinks (z ∷ zs) ys zero x l e = e
get_shrinks (z ∷ zs) ys (suc k) x l e = get_shrinks zs ys k x (omega (arith, l)) e

pub get_within : {X : Type 0} (xs : List X) (k : ℕ) → k < length xs
    → (x : X) × (slice_get xs k ≡ Some x)
get_within [] k l = absurd (omega (arith, l))
get_within (z ∷ zs) zero l = (z, refl)
get_within (z ∷ zs) (suc k) l = get_within zs k (omega (arith, l))

pub filter_map-alike : {X Y : Type 0} (P : X → Type 0) (f g : X → Option Y)
    → ((x : X) → P x → f x ≡ g x) → (xs : List X) → All P xs → filter_map f xs ≡ filter_map g xs
filter_map-alike P f g alike [] all = refl
filter_map-alike P f g alike (x ∷ xs) all =
    ap (λ o. cons_option o (filter_map f xs)) (alike x (All-head P x xs all))
    ∙ ap (cons_option (g x)) (filter_map-alike P f g alike xs (All-tail P x xs all))

some_is : {X : Type 0} (o : Option X) → IsSome o → (x : X) × (o ≡ Some x)
some_is (Some x) h = (x, refl)
some_is None h = absurd (cc)

module _ (fs more : List Formula) where
  formula_grows : (at : Occurrence) (f : Formula) → formula_at fs at ≡ Some f
      → formula_at (fs ++ more) at ≡ Some f
  formula_grows at f there = go (slice_get fs at.fact) refl there
    where
      go : (o : Option Formula) → slice_get fs at.fact ≡ o
          → option_and_then (λ g. slice_get (occurrences_of g) at.place) o ≡ Some f
          → formula_at (fs ++ more) at ≡ Some f
      go None is e = absurd (cc)
      go (Some g) is e =
          ap (option_and_then (λ h. slice_get (occurrences_of h) at.place))
          (get_grows fs more at.fact g is) ∙ e

  pub formula_same : (at : Occurrence) → IsSome (formula_at fs at)
      → formula_at (fs ++ more) at ≡ formula_at fs at
  formula_same at there =
      let found = some_is (formula_at fs at) there in
      formula_grows at found.0 found.1 ∙ sym found.1

  pub there_grows : (at : Occurrence) → IsSome (formula_at fs at)
      → IsSome (formula_at (fs ++ more) at)
  there_grows at there = subst IsSome (sym (formula_same at there)) there

  pub item_same : (at : Occurrence) → IsSome (formula_at fs at)
      → item_at (fs ++ more) at ≡ item_at fs at
  item_same at there = ap (option_map (signed at.positive)) (formula_same at there)

  pub expanded_same : (at : Occurrence) → IsSome (formula_at fs at)
      → expanded (fs ++ more) at ≡ expanded fs at
  expanded_same at there =
      ap (λ o. option_map_or (λ f. expanded_form at (out-Formula f) at.positive) o (AllOf []))
      (formula_same at there)

  pub clauses_same : (at : Occurrence) → IsSome (formula_at fs at)
      → clauses_of (fs ++ more) at ≡ clauses_of fs at
  clauses_same at there = ap clauses_in (expanded_same at there)

  so_there : (P : Item → Type 0) (at : Occurrence) → IsSo P fs at → IsSome (formula_at fs at)
  so_there P at so = go (formula_at fs at) so
    where
      go : (o : Option Formula) → IsSomeAnd (option_map (signed at.positive) o) P → IsSome o
      go (Some f) h = refl
      go None h = absurd h

  pub so_grows : (P : Item → Type 0) (at : Occurrence) → IsSo P fs at → IsSo P (fs ++ more) at
  so_grows P at so = subst (λ o. IsSomeAnd o P) (sym (item_same at (so_there P at so))) so

  pub any_grows : (P : Item → Type 0) (c : List Occurrence) → Any (IsSo P fs) c
      → Any (IsSo P (fs ++ more)) c
  any_grows P c (k, x, l, is, h) = (k, x, l, is, so_grows P x h)

  pub expanded_grows : (literals : List Item) (classes : List (List Term))
      (clauses : List (List Occurrence)) (at : Occurrence) → IsSome (formula_at fs at)
      → IsExpanded fs literals classes clauses at
      → IsExpanded (fs ++ more) literals classes clauses at
  expanded_grows literals classes clauses at there (covered _ so) =
      covered at (so_grows _ at so)
  expanded_grows literals classes clauses at there (parts _ ps e each) =
      parts at ps (expanded_same at there ∙ e)
      (λ p h. expanded_grows literals classes clauses p
      (All-contains (IsPartIn fs at.fact) ps p (parts_are fs at ps there e).parts h).there
      (each p h))
  expanded_grows literals classes clauses at there (split _ cs e each) =
      split at cs (expanded_same at there ∙ e) each
