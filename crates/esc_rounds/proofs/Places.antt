-- The order by places, number by number.
use Rattle.std.proofs.Common.{◌≡◌, ℕ, suc, ◌+◌, ◌<◌, ◌≤◌, ◌⊎◌, inl, inr, List, [], ◌∷◌, ◌++◌}
use Rattle.std.proofs.Common.{length}
use Rattle.std.proofs.Common.{refl, ap, sym, subst, ◌∙◌, arith}
use Rattle.std.proofs.lemmas.Bool.{cases_eq, cases_lt}
use Rattle.esc_match.specs.Order.{IsBefore}

abbrev pub Less : List ℕ → List ℕ → Type 0
Less [] qs = ⊥
Less (p ∷ ps) [] = ⊥
Less (p ∷ ps) (q ∷ qs) = (p < q) ⊎ ((p ≡ q) × Less ps qs)

pub less-before : (ps qs : List ℕ) → Less ps qs → IsBefore ps qs
less-before [] qs none = absurd none
less-before (p ∷ ps) [] none = absurd none
less-before (p ∷ ps) (q ∷ qs) (inl l) = record {
  front = [];
  lesser = p;
  greater = q;
  ps_rest = ps;
  qs_rest = qs;
  first = refl;
  second = refl;
  less = l;
}
less-before (p ∷ ps) (q ∷ qs) (inr (e, rest)) =
    let b = less-before ps qs rest in record {
      front = p ∷ b.front;
      lesser = b.lesser;
      greater = b.greater;
      ps_rest = b.ps_rest;
      qs_rest = b.qs_rest;
      first = ap (λ xs. p ∷ xs) b.first;
      second = ap (λ x. x ∷ qs) (sym e) ∙ ap (λ xs. p ∷ xs) b.second;
      less = b.less;
    }

pub less_at : (front : List ℕ) (m n : ℕ) (ps qs : List ℕ) → m < n
    → Less (front ++ m ∷ ps) (front ++ n ∷ qs)
less_at [] m n ps qs l = inl l
less_at (f ∷ front) m n ps qs l = inr (refl, less_at front m n ps qs l)

pub before-less : (ps qs : List ℕ) → IsBefore ps qs → Less ps qs
before-less ps qs b =
    subst (λ xs. Less xs qs) (sym b.first)
    (subst (Less (b.front ++ b.lesser ∷ b.ps_rest)) (sym b.second)
    (less_at b.front b.lesser b.greater b.ps_rest b.qs_rest b.less))

pub less_none : (ps : List ℕ) → Less ps [] → ⊥
less_none [] none = none
less_none (p ∷ ps) none = none

pub less_or_not : (ps qs : List ℕ) → Less ps qs ⊎ (Less ps qs → ⊥)
less_or_not [] qs = inr (λ none. none)
less_or_not (p ∷ ps) [] = inr (λ none. none)
less_or_not (p ∷ ps) (q ∷ qs) =
    elim (cases_lt p q) [
      | inl l ↦ inl (inl l)
      | inr ge ↦ elim (cases_eq p q) [
        | inl e ↦ elim (less_or_not ps qs) [
          | inl rest ↦ inl (inr (e, rest))
          | inr not ↦ inr (λ h. elim h [ inl l ↦ absurd (omega (arith, l, ge)) | inr r ↦ not r.1 ])
        ]
        | inr ne ↦ inr (λ h. elim h [ inl l ↦ absurd (omega (arith, l, ge)) | inr r ↦ ne r.0 ])
      ]
    ]

-- what is not before a bound comes after what is
pub less_through : (ps bs qs : List ℕ) → Less ps bs → (Less qs bs → ⊥) → length bs ≤ length qs
    → Less ps qs
less_through [] bs qs none not long = absurd none
less_through (p ∷ ps) [] qs none not long = absurd none
less_through (p ∷ ps) (b ∷ bs) [] less not long = absurd (omega (arith, long))
less_through (p ∷ ps) (b ∷ bs) (q ∷ qs) (inl l) not long =
    elim (cases_lt q b) [
      | inl below ↦ absurd (not (inl below))
      | inr ge ↦ inl (omega (arith, l, ge))
    ]
less_through (p ∷ ps) (b ∷ bs) (q ∷ qs) (inr (e, rest)) not long =
    elim (cases_lt q b) [
      | inl below ↦ absurd (not (inl below))
      | inr ge ↦ elim (cases_eq q b) [
        | inl same ↦ inr (
          e ∙ sym same,
          less_through ps bs qs rest (λ h. not (inr (same, h)))
              (omega (arith, long)),
        )
        | inr ne ↦ inl (omega (arith, e, ge, ne))
      ]
    ]

-- what is before the next bound is before this one, or goes on from it
pub less_next : (front : List ℕ) (n : ℕ) (ps : List ℕ) → Less ps (front ++ (n + 1) ∷ [])
    → Less ps (front ++ n ∷ []) ⊎ ((qs : List ℕ) × (ps ≡ front ++ n ∷ qs))
less_next [] n [] none = absurd none
less_next [] n (p ∷ ps) (inl l) =
    elim (cases_lt p n) [
      | inl below ↦ inl (inl below)
      | inr ge ↦
          let e : p ≡ n = omega (arith, l, ge) in
          inr (ps, ap (λ x. x ∷ ps) e)
    ]
less_next [] n (p ∷ ps) (inr (e, rest)) = absurd (less_none ps rest)
less_next (f ∷ front) n [] none = absurd none
less_next (f ∷ front) n (p ∷ ps) (inl l) = inl (inl l)
less_next (f ∷ front) n (p ∷ ps) (inr (e, rest)) =
    elim (less_next front n ps rest) [
      | inl below ↦ inl (inr (e, below))
      | inr (qs, is) ↦ inr (qs, ap (λ x. x ∷ ps) e ∙ ap (λ xs. f ∷ xs) is)
    ]

pub less_grown : (front : List ℕ) (n : ℕ) (ps : List ℕ) → Less ps (front ++ n ∷ [])
    → Less ps (front ++ (n + 1) ∷ [])
less_grown [] n [] none = absurd none
less_grown [] n (p ∷ ps) (inl l) = inl (omega (arith, l))
less_grown [] n (p ∷ ps) (inr (e, rest)) = absurd (less_none ps rest)
less_grown (f ∷ front) n [] none = absurd none
less_grown (f ∷ front) n (p ∷ ps) (inl l) = inl l
less_grown (f ∷ front) n (p ∷ ps) (inr (e, rest)) = inr (e, less_grown front n ps rest)

pub less_behind : (front ps qs : List ℕ) → Less ps qs → Less (front ++ ps) (front ++ qs)
less_behind [] ps qs less = less
less_behind (f ∷ front) ps qs less = inr (refl, less_behind front ps qs less)

pub next_length : (front : List ℕ) (m n : ℕ) → length (front ++ m ∷ []) ≡ length (front ++ n ∷ [])
next_length [] m n = refl
next_length (f ∷ front) m n = ap suc (next_length front m n)

pub less_not : (ps : List ℕ) → Less ps ps → ⊥
less_not [] none = none
less_not (p ∷ ps) (inl l) = omega (arith, l)
less_not (p ∷ ps) (inr (e, rest)) = less_not ps rest
