-- A node is bound to an unknown of its term.
use Rattle.std.proofs.Common.{◌≡◌, inl, inr, ℕ, List, [], ◌∷◌, ◌++◌, map, sym, ap, ap₂}
use Rattle.std.proofs.Common.{subst, ◌∙◌}
use Rattle.std.specs.List.{Contains}
use Rattle.std.proofs.lemmas.List.{map-append}
use Rattle.std.proofs.lemmas.List.Elements.{All-nil, Contains-push}
use Rattle.esc_term.specs.declared.term.Term.{Term}
use Rattle.esc_term.proofs.Members.{Contains-here, Contains-in_flat_map, Contains-later}
use Rattle.esc_linear.specs.Forms.{form}
use Rattle.esc_simplex.specs.Calls.{IsOfTerm, Makes}
use Rattle.esc_simplex.specs.MakingInside.{AllowsAlike, IsUp}
use Rattle.esc_simplex.specs.Senses.{Sense, gap_of, term, term_at}
use Rattle.esc_simplex.specs.View.{Allows, IsInUse, IsSimplex, numbers_in, senses_in}
use Rattle.esc_simplex.specs.declared.simplex.Simplex.{Simplex}
use Rattle.esc_simplex.proofs.Gapped.{stands_for_made, term_in}
use Rattle.esc_simplex.proofs.Making.{allows_alike}
use Rattle.esc_sharing.specs.Admitted.{AdmitsWith}
use Rattle.esc_sharing.specs.Numbers.{AddsMade, IsNumber, MayStandFor, number_terms, with_number}
use Rattle.esc_sharing.proofs.BoundNodes.{with_number_new}
use Rattle.esc_sharing.proofs.Lists.{Contains-map}
use Rattle.esc_sharing.proofs.Restricting.{adds_made, numbers_later}

pub admits_alike : (v w : Simplex) → AllowsAlike v w → AdmitsWith (Allows v) (Allows w) []
admits_alike v w alike x = (
  λ a. ((alike x).0 a, All-nil (λ f. IsUp f x)),
  λ a. (alike x).1 a.0,
)

-- ---- what is made for a term

pub of_term : (terms : List Term) (t : Term) → Contains terms t → (s : Sense) → IsOfTerm t s
    → MayStandFor terms s
of_term terms t h (term s) (inl e) =
    Contains-in_flat_map (λ (r : Term). r ∷ map (λ p. p.term) (form r).parts) terms t s h
    (subst (Contains (t ∷ map (λ p. p.term) (form t).parts)) (sym e)
    (Contains-here t (map (λ p. p.term) (form t).parts)))
of_term terms t h (term s) (inr part) =
    Contains-in_flat_map (λ (r : Term). r ∷ map (λ p. p.term) (form r).parts) terms t s h
    (Contains-later t (map (λ p. p.term) (form t).parts) s part)
of_term terms t h (gap_of g) k = absurd k

pub new_is_number : (numbers : List (ℕ × Term)) (a : ℕ) (t : Term) → (IsNumber numbers a → ⊥)
    → Contains (number_terms (with_number numbers a t)) t
new_is_number numbers a t new =
    subst (λ ns. Contains (number_terms ns) t) (sym (with_number_new numbers a t new))
    (Contains-map (λ (n : ℕ × Term). n.1) (numbers ++ (a, t) ∷ []) (a, t)
    (Contains-push numbers (a, t)))

module _ (v m : Simplex) (h : IsSimplex v) (a : ℕ) (t : Term) (makes : Makes v m (IsOfTerm t))
    (new : IsNumber (numbers_in v) a → ⊥) where
  abbrev terms_then : List Term
  terms_then = number_terms (with_number (numbers_in v) a t)

  pub adds_term : AddsMade (senses_in v) (senses_in m) terms_then
  adds_term = adds_made v m (IsOfTerm t) terms_then makes
      (of_term terms_then t (new_is_number (numbers_in v) a t new))

  module _ (w : Simplex) (u : ℕ) (bound : w ≡ record m { bound = m.bound ++ (a, u) ∷ [] }) where
    pub adds_bound : AddsMade (senses_in v) (senses_in w) terms_then
    adds_bound = subst (λ (s : Simplex). AddsMade (senses_in v) (senses_in s) terms_then)
        (sym bound) adds_term

    pub admits_bound : m.restricted ≡ v.restricted → AdmitsWith (Allows v) (Allows w) []
    admits_bound same = subst (λ s. AdmitsWith (Allows v) (Allows s) []) (sym bound)
        (admits_alike v m (allows_alike v m (IsOfTerm t) makes h same))

    module _ (used : IsInUse m u (term t)) where
      term_is : term_at m.made u ≡ t
      unfolding term_in
      term_is = ap term_in (sym (stands_for_made m u (t, used)).is ∙ used.stands.is)

      pub numbers_bound : numbers_in w ≡ with_number (numbers_in v) a t
      numbers_bound = ap numbers_in bound
          ∙ map-append (λ (pair : ℕ × ℕ). (pair.0, term_at m.made pair.1)) m.bound ((a, u) ∷ [])
          ∙ ap₂ (λ ns s. ns ++ (a, s) ∷ []) (numbers_later v m (IsOfTerm t) makes h) term_is
          ∙ sym (with_number_new (numbers_in v) a t new)
