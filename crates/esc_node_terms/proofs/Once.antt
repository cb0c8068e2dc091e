-- A term that comes to a list unless it is there.
use Rattle.std.proofs.Common.{◌≡◌, ℕ, pos, ◌<◌, Bool, true, false, if◌then◌else◌, ◌⊎◌, inl, inr}
use Rattle.std.proofs.Common.{List, [], ◌∷◌, ◌++◌, length, refl, ap, sym, subst, ◌∙◌, arith}
use Rattle.std.specs.List.{Contains, fold}
use Rattle.std.proofs.lemmas.List.{get_or_append_left, length_push}
use Rattle.esc_term.specs.declared.term.Term.{Term}
use Rattle.esc_term.specs.declared.term.Term.TheVariants as term
use Rattle.esc_term.specs.Term.{with_once}
use Rattle.esc_cover.specs.Classes.{has}
use Rattle.esc_cover.proofs.TestLemmas.{has-at, has-found}
use Rattle.esc_nodes.specs.Terms.{at_place}

pub with_once-there : (seen : List Term) (t : Term) → Contains seen t → with_once seen t ≡ seen
unfolding with_once
with_once-there seen t h = ap (λ b. if b then seen else seen ++ t ∷ []) (has-at seen t h)

pub with_once-absent : (seen : List Term) (t : Term) → (Contains seen t → ⊥) →
    with_once seen t ≡ seen ++ t ∷ []
unfolding with_once
with_once-absent seen t absent = go (has seen t) refl
  where
    go : (b : Bool) → has seen t ≡ b → (if b then seen else seen ++ t ∷ []) ≡ seen ++ t ∷ []
    go true is = absurd (absent (has-found seen t is))
    go false is = refl

once_cases : (seen : List Term) (t : Term) →
    (with_once seen t ≡ seen) ⊎ (with_once seen t ≡ seen ++ t ∷ [])
unfolding with_once
once_cases seen t = go (has seen t) refl
  where
    go : (b : Bool) → has seen t ≡ b →
        ((if b then seen else seen ++ t ∷ []) ≡ seen) ⊎
        ((if b then seen else seen ++ t ∷ []) ≡ seen ++ t ∷ [])
    go true is = inl refl
    go false is = inr refl

-- what was there keeps its place
pub places_stay : (seen ts : List Term) (k : ℕ) → k < length seen →
    (k < length (fold with_once seen ts)) × (at_place (fold with_once seen ts) k ≡ at_place seen k)
places_stay seen [] k l = (l, refl)
places_stay seen (t ∷ ts) k l =
    elim (once_cases seen t) [
      | inl same ↦ subst
          (λ us. (k < length (fold with_once us ts))
          × (at_place (fold with_once us ts) k ≡ at_place seen k)) (sym same)
          (places_stay seen ts k l)
      | inr more ↦
          let rest = places_stay (seen ++ t ∷ []) ts k (omega (arith, l, length_push seen t)) in
          subst (λ us. (k < length (fold with_once us ts))
          × (at_place (fold with_once us ts) k ≡ at_place seen k)) (sym more)
          (rest.0, rest.1 ∙ get_or_append_left seen (t ∷ []) (term.Num (pos 0)) k l)
    ]
