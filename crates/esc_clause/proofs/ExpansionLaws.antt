-- Expansion is sound in models, and complete for what literals and classes cover.
use Rattle.std.proofs.Common.{◌≡◌, ◌⊎◌, inl, inr, ℤ, Bool, true, false, not, ◌&&◌, ◌||◌}
use Rattle.std.proofs.Common.{if◌then◌else◌, List, [], ◌∷◌, Some, None, Option, Any, map, refl, ap}
use Rattle.std.proofs.Common.{sym, subst, ◌∙◌}
use Rattle.std.proofs.lemmas.List.Elements.{All-weaker}
use Rattle.std.proofs.lemmas.List.Folds.{list_any-append}
use Rattle.std.specs.List.{list_all, list_any}
use Rattle.std.specs.Option.{IsSome, IsSomeAnd, option_map, option_map_or}
use Rattle.std.specs.Ordering.{int_eq}
use Rattle.esc_term.specs.declared.term.Term.{Term}
use Rattle.esc_term.specs.declared.formula.Formula.{Formula, out-Formula}
use Rattle.esc_term.specs.declared.formula.Formula.TheVariants as formula
use Rattle.esc_term.specs.declared.formula.Formula.TheViews.{roll-out-Formula}
use Rattle.esc_term.specs.declared.formula.Item.{Item}
use Rattle.esc_term.specs.Interpretation.{Interpretation, all_apart, truth}
use Rattle.esc_term.specs.Model.{read_in}
use Rattle.esc_term.proofs.TruthLevels.{truth-True, truth-False, truth-Eq, truth-Distinct}
use Rattle.esc_cover.specs.Classes.{together}
use Rattle.esc_cover.specs.Atoms.{pair_equations}
use Rattle.esc_cover.specs.Cover.{Cover, cover, some_two}
use Rattle.esc_cover.specs.Laws.{HoldsIn}
use Rattle.esc_cover.proofs.CoverLevels as covers
use Rattle.esc_cover.proofs.CoverOrder.{cover-parts}
use Rattle.esc_cover.proofs.TestLemmas.{not_true}
use Rattle.esc_cover.proofs.TruthCover.{truth_cover, truth_cover-parts}
use Rattle.esc_clause.specs.Expansion.{Expansion, AllOf, OneOfEach, Never, Literal, expanded_form}
use Rattle.esc_clause.specs.Laws.{ExpansionIsComplete, ExpansionIsSo, ExpansionIsSound, IsCovered}
use Rattle.esc_clause.specs.Laws.{IsSo}
use Rattle.esc_clause.specs.Occurrences.{formula_at, item_at, signed}
use Rattle.esc_clause.proofs.Expanding.{GoesByPairs, IsSaid, said_parts}
use Rattle.esc_clause.proofs.Gathering.{said_whole}

-- ---- distinctions

equations_hold : (says : Formula → Cover) (test : Term → Term → Bool)
    → ((s t : Term) → (says (formula.Eq s t)).holds ≡ test s t) → (t : Term) (us : List Term) →
    list_any (λ p. (says p).holds) (map (λ u. formula.Eq t u) us) ≡ list_any (test t) us
equations_hold says test is t [] = refl
equations_hold says test is t (u ∷ us) =
    ap (λ b. b || list_any (λ p. (says p).holds) (map (λ u. formula.Eq t u) us)) (is t u)
    ∙ ap (λ b. test t u || b) (equations_hold says test is t us)

pairs_hold : (says : Formula → Cover) (test : Term → Term → Bool)
    → ((s t : Term) → (says (formula.Eq s t)).holds ≡ test s t) → (ts : List Term) →
    list_any (λ p. (says p).holds) (pair_equations ts) ≡ some_two test ts
pairs_hold says test is [] = refl
pairs_hold says test is (t ∷ ts) =
    list_any-append (λ p. (says p).holds) (map (λ u. formula.Eq t u) ts) (pair_equations ts)
    ∙ (ap (λ b. b || list_any (λ p. (says p).holds) (pair_equations ts))
    (equations_hold says test is t ts)
    ∙ ap (λ b. list_any (test t) ts || b) (pairs_hold says test is ts))

not_and_not : (a b : Bool) → not (not a && b) ≡ (a || not b)
not_and_not true b = refl
not_and_not false b = refl

not_and : (a b : Bool) → not (a && b) ≡ (not a || not b)
not_and true b = refl
not_and false b = refl

not_all_other : (value : Term → ℤ) (t : Term) (us : List Term)
    → not (list_all (λ m. not (int_eq (value t) m)) (map value us))
    ≡ list_any (λ u. int_eq (value t) (value u)) us
not_all_other value t [] = refl
not_all_other value t (u ∷ us) =
    not_and_not (int_eq (value t) (value u))
    (list_all (λ m. not (int_eq (value t) m)) (map value us))
    ∙ ap (λ b. int_eq (value t) (value u) || b) (not_all_other value t us)

not_all_apart : (value : Term → ℤ) (ts : List Term)
    → not (all_apart (map value ts)) ≡ some_two (λ s t. int_eq (value s) (value t)) ts
not_all_apart value [] = refl
not_all_apart value (t ∷ ts) =
    not_and (list_all (λ m. not (int_eq (value t) m)) (map value ts)) (all_apart (map value ts))
    ∙ (ap (λ b. b || not (all_apart (map value ts))) (not_all_other value t ts)
    ∙ ap (λ b. list_any (λ u. int_eq (value t) (value u)) ts || b) (not_all_apart value ts))

truth_cover-pairs : (I : Interpretation) → GoesByPairs (truth_cover I)
truth_cover-pairs I = record {
  true_fails = λ e. let t : truth I formula.True ≡ true = truth-True I in
      let f : truth I formula.True ≡ false = not_true (truth I formula.True) e in cc;
  false_holds = λ e. let f : truth I formula.False ≡ false = truth-False I in cc;
  distinct =
      λ ts. ap not (truth-Distinct I ts)
      ∙ (not_all_apart I.value ts
      ∙ sym (pairs_hold (truth_cover I) (λ s t. int_eq (I.value s) (I.value t)) (truth-Eq I) ts));
}

cover-pairs : (literals : List Item) (classes : List (List Term))
    → GoesByPairs (cover literals classes)
cover-pairs literals classes = record {
  true_fails = λ e. let f : (cover literals classes formula.True).fails ≡ false =
      ap (λ c. c.fails) (covers.cover-True literals classes) in cc;
  false_holds = λ e. let f : (cover literals classes formula.False).holds ≡ false =
      ap (λ c. c.holds) (covers.cover-False literals classes) in cc;
  distinct = λ ts. ap (λ c. c.fails) (covers.cover-Distinct literals classes ts)
      ∙ sym (pairs_hold (cover literals classes) (together classes)
      (λ s t. ap (λ c. c.holds) (covers.cover-Eq literals classes s t)) ts);
}

-- ---- models

said_of : (b positive : Bool) → b ≡ positive → (if positive then b else not b) ≡ true
said_of b true e = e
said_of b false e = ap not e

of_said : (b positive : Bool) → (if positive then b else not b) ≡ true → b ≡ positive
of_said b true e = e
of_said b false e = not_true b e

some_kept : (P Q : Item → Type 0) → ((i : Item) → P i → Q i) → (o : Option Item)
    → IsSomeAnd o P → IsSomeAnd o Q
some_kept P Q kept None h = h
some_kept P Q kept (Some i) h = kept i h

expansion_kept : (P Q : Item → Type 0) → ((i : Item) → P i → Q i)
    → (fs : List Formula) (x : Expansion) → ExpansionIsSo P fs x → ExpansionIsSo Q fs x
expansion_kept P Q kept fs (AllOf parts) so =
    All-weaker (IsSo P fs) (IsSo Q fs) (λ o h. some_kept P Q kept (item_at fs o) h) parts so
expansion_kept P Q kept fs (OneOfEach clauses) so =
    All-weaker (Any (IsSo P fs)) (Any (IsSo Q fs))
    (λ c any. (any.0, any.1, any.2, any.3, some_kept P Q kept (item_at fs any.1) any.4)) clauses so
expansion_kept P Q kept fs Never so = so
expansion_kept P Q kept fs Literal so = tt

-- ---- the laws

pub expansion_is_sound : ExpansionIsSound
expansion_is_sound M fs at so = found (formula_at fs at) refl so
  where
    found : (o : Option Formula) → formula_at fs at ≡ o
        → IsSomeAnd (option_map (signed at.positive) o) (HoldsIn M) →
        ExpansionIsSo (HoldsIn M) fs (option_map_or
        (λ f. expanded_form at (out-Formula f) at.positive) o (AllOf []))
    found None e h = absurd h
    found (Some f) e h =
        expansion_kept (IsSaid (truth_cover (read_in M))) (HoldsIn M)
        (λ i. of_said (truth (read_in M) i.formula) i.positive) fs
        (expanded_form at (out-Formula f) at.positive)
        (said_parts (truth_cover (read_in M)) (truth_cover-parts (read_in M))
        (truth_cover-pairs (read_in M)) fs at (out-Formula f) at.positive
        (e ∙ ap (λ g. Some g) (sym (roll-out-Formula f)))
        (subst (λ g. IsSaid (truth_cover (read_in M)) (signed at.positive g))
        (sym (roll-out-Formula f)) (said_of (truth (read_in M) f) at.positive h)))

pub expansion_is_complete : ExpansionIsComplete
expansion_is_complete literals classes twice fs at is so = found (formula_at fs at) refl is so
  where
    found : (o : Option Formula) → formula_at fs at ≡ o
        → IsSome (option_map (signed at.positive) o) →
        ExpansionIsSo (IsCovered literals classes) fs
        (option_map_or (λ f. expanded_form at (out-Formula f) at.positive) o (AllOf [])) →
        IsSomeAnd (option_map (signed at.positive) o) (IsCovered literals classes)
        ⊎ (option_map_or (λ f. expanded_form at (out-Formula f) at.positive) o (AllOf []) ≡ Literal)
    found None e is so = cc
    found (Some f) e is so =
        elim (said_whole (cover literals classes) (cover-parts literals classes)
        (cover-pairs literals classes) twice fs at (out-Formula f) at.positive
        (e ∙ ap (λ g. Some g) (sym (roll-out-Formula f))) so) [
          | inl h ↦ inl (subst (λ g. IsSaid (cover literals classes) (signed at.positive g))
              (roll-out-Formula f) h)
          | inr h ↦ inr h
        ]
