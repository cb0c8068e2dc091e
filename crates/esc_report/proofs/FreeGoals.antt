-- Goals without arithmetic have a base without it.
use Rattle.std.proofs.Common.{◌≡◌, Bool, ◌&&◌, true, not, List, [], ◌∷◌, ◌++◌, sym, subst, ap}
use Rattle.std.proofs.Common.{ap₂, ◌∙◌}
use Rattle.std.specs.List.{Contains, filter, flat_map, list_all}
use Rattle.std.proofs.lemmas.Grind.{flat_map-append}
use Rattle.std.proofs.lemmas.List.Folds.{list_all-append}
use Rattle.esc_term.specs.declared.term.Term.{Term, out-Term}
use Rattle.esc_term.specs.declared.term.Term.TheVariants.{Num}
use Rattle.esc_term.specs.declared.formula.Formula.{Formula, out-Formula}
use Rattle.esc_term.specs.declared.formula.Formula.TheVariants.{Not}
use Rattle.esc_term.specs.Formula.{terms_of}
use Rattle.esc_term.specs.Term.{firsts, is_ground, truth_term}
use Rattle.esc_term.proofs.GroundTerms.{terms_of-Not}
use Rattle.esc_cover.specs.Classes.{active_terms}
use Rattle.esc_cover.specs.Laws.{is_free_form, is_free_of_arithmetic, is_order_form}
use Rattle.esc_cover.proofs.AtomsLevels.{atoms_of-Not}
use Rattle.esc_cover.proofs.TestLemmas.{and_left, and_right}
use Rattle.esc_report.specs.Laws.{FreeGoalIsPlainAndFree, PlainGoalIsPlain}
use Rattle.esc_report.specs.PlainFormulas.{is_plain_formula}

free-Not : (f : Formula) → is_free_of_arithmetic (Not f) ≡ is_free_of_arithmetic f
free-Not f =
    ap₂ (λ ts atoms. list_all (λ t. is_free_form (out-Term t)) ts
    && list_all (λ atom. not (is_order_form (out-Formula atom))) atoms)
    (terms_of-Not f) (atoms_of-Not f)

module _ (assumed : List Formula) (goal : Formula) where
  -- a test of the goal and of its negation alike passes with what is assumed
  with_negated : (p : Formula → Bool) → p (Not goal) ≡ p goal
      → list_all p (assumed ++ goal ∷ []) ≡ true → list_all p (assumed ++ Not goal ∷ []) ≡ true
  with_negated p same h =
      list_all-append p assumed (Not goal ∷ [])
      ∙ (ap (λ b. list_all p assumed && (b && true)) same
      ∙ (sym (list_all-append p assumed (goal ∷ [])) ∙ h))

  active-Not : active_terms (assumed ++ Not goal ∷ []) ≡ active_terms (assumed ++ goal ∷ [])
  active-Not =
      ap (λ ts. firsts (filter is_ground (truth_term ∷ ts)))
      (flat_map-append terms_of assumed (Not goal ∷ [])
      ∙ (ap (λ ts. flat_map terms_of assumed ++ (ts ++ [])) (terms_of-Not goal)
      ∙ sym (flat_map-append terms_of assumed (goal ∷ []))))

  module _ (plain : list_all is_plain_formula (assumed ++ goal ∷ []) ≡ true) where
    both : (list_all is_plain_formula assumed && (is_plain_formula goal && true)) ≡ true
    both = sym (list_all-append is_plain_formula assumed (goal ∷ [])) ∙ plain

    pub assumed_plain : list_all is_plain_formula assumed ≡ true
    assumed_plain = and_left _ _ both

    pub goal_plain : is_plain_formula goal ≡ true
    goal_plain = and_left _ _ (and_right _ _ both)

pub free_goal_is_plain_and_free : PlainGoalIsPlain → FreeGoalIsPlainAndFree
free_goal_is_plain_and_free plain assumed goal is = record {
  plain = plain assumed goal (assumed_plain assumed goal is.plain)
      (goal_plain assumed goal is.plain);
  free = with_negated assumed goal is_free_of_arithmetic (free-Not goal) is.free;
  numerals = λ n h.
      is.numerals n
      (subst (λ (ts : List Term). Contains ts (Num n)) (active-Not assumed goal) h);
}
