-- An open sharing admits just the assignments that do what its literals and its classes ask.
use Rattle.std.proofs.Common.{◌≡◌, ℕ, true, ap, sym, subst, ◌∙◌}
use Rattle.esc_term.specs.declared.term.Term.{Term}
use Rattle.esc_cover.specs.Assignment.{Assignment, Suits, value}
use Rattle.esc_cover.specs.Classes.{together}
use Rattle.esc_cover.specs.Counterexample.{AllParted}
use Rattle.esc_cover.proofs.TestLemmas.{not_both}
use Rattle.esc_sharing.specs.ModelLaws.{AdmitsWhatSuits}
use Rattle.esc_sharing.specs.Nodes.{classes_in, node_term, same_in, terms_in}
use Rattle.esc_sharing.specs.Numbers.{number_terms}
use Rattle.esc_sharing.specs.Shared.{AreToldIn, IsShared, Shared, literals_in, told_in}
use Rattle.esc_node_terms.proofs.ClassTests.{same_in-equivalence, together_at}
use Rattle.esc_sharing.proofs.Exactness.{GivesOneValue, satisfying_admitted}
use Rattle.esc_sharing.proofs.Least.{admitted_suits, node_of_number, number_of_node}
use Rattle.esc_sharing.proofs.Lists.{All-each, Contains-of_map}
use Rattle.esc_cover.proofs.ClassLemmas.{of_together}
use Rattle.std.proofs.lemmas.List.Elements.{All-contains}

module _ (v : Shared) (shared : IsShared v) where
  -- terms that stand in one class pass the test on nodes
  same_of_together : (s t : Term) → together (classes_in v.graph) s t ≡ true
      → same_in v.graph s t ≡ true
  unfolding classes_in
  same_of_together s t e =
      (of_together (same_in v.graph) (same_in-equivalence v.graph) (terms_in v.graph) s t e).2

  admitted : (x : Assignment) → v.admits x
      → Suits (literals_in v) (number_terms v.numbers) (together (classes_in v.graph)) x
  admitted x h =
      let suits = admitted_suits v shared.parts shared.exact shared.agree x h in
      record {
        satisfies = suits.satisfies;
        agrees = λ s t hs ht e. suits.agrees s t hs ht (same_of_together s t e);
      }

  told_one : (x : Assignment)
      → Suits (literals_in v) (number_terms v.numbers) (together (classes_in v.graph)) x
      → GivesOneValue x (told_in v)
  told_one x suits =
      All-each (λ (pair : Term × Term). value x pair.0 ≡ value x pair.1) (told_in v) (λ pair h.
      let found = Contains-of_map (λ (p : ℕ × ℕ). (node_term v.graph p.0, node_term v.graph p.1))
      v.told pair h in
      let told = All-contains (AreToldIn v.graph v.numbers) v.told found.0 shared.parts.told
      found.1 in
      let first = number_of_node v shared.parts.numbers found.0.0 told.first in
      let second = number_of_node v shared.parts.numbers found.0.1 told.second in
      subst (λ (p : Term × Term). value x p.0 ≡ value x p.1) found.2
      (suits.agrees _ _ first.1 second.1
      (together_at v.graph shared.parts.graph found.0.0 found.0.1 first.0 second.0 told.together)))

  parted : AllParted (literals_in v) (number_terms v.numbers) (classes_in v.graph)
  parted s t hs ht e =
      let left = node_of_number v shared.parts.numbers s hs in
      let right = node_of_number v shared.parts.numbers t ht in
      let found = shared.agree.parted left.0 right.0 (record {
        first = left.1;
        second = right.1;
        different = λ same. not_both (together (classes_in v.graph) s t)
            (ap (λ u. together (classes_in v.graph) u t) (sym left.3)
            ∙ (ap (together (classes_in v.graph) (node_term v.graph left.0)) (sym right.3)
            ∙ together_at v.graph shared.parts.graph left.0 right.0 left.2 right.2 same)) e;
      }) in (
        found.0,
        admitted found.0 found.1,
        λ equal. found.2 (ap (value found.0) left.3 ∙ (equal ∙ ap (value found.0) (sym right.3))),
      )

pub admits_what_suits : (v : Shared) → IsShared v → AdmitsWhatSuits v
admits_what_suits v shared = record {
  suits = λ x. (
    admitted v shared x,
    λ h. satisfying_admitted v shared.exact x h.satisfies (told_one v shared x h),
  );
  parted = parted v shared;
}
