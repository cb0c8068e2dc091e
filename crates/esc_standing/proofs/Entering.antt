-- How depths are entered, term by term.
use Rattle.std.proofs.Common.{◌≡◌, ℕ, ◌<◌, ◌==◌, ◌⊎◌, inl, inr, Bool, true, false, ◌&&◌, ◌||◌}
use Rattle.std.proofs.Common.{if◌then◌else◌, List, [], ◌∷◌, ◌++◌, length, refl, ap, sym, subst}
use Rattle.std.proofs.Common.{◌∙◌, arith}
use Rattle.std.specs.List.{fold}
use Rattle.std.specs.Prelude.{slice_index, slice_set}
use Rattle.std.specs.List.{Contains, filter}
use Rattle.std.proofs.lemmas.Bool.{cases_eq}
use Rattle.std.proofs.lemmas.Bool.Decides.{eqb_tells}
use Rattle.std.proofs.lemmas.List.{get_or-set_same, get_or-set_other, length-set}
use Rattle.std.proofs.lemmas.List.Folds.{list_any-append}
use Rattle.esc_term.specs.declared.term.Term.{Term}
use Rattle.esc_term.specs.declared.formula.Formula.{Formula}
use Rattle.esc_term.specs.Equal.{same_term}
use Rattle.esc_term.specs.Formula.{ground_terms_of, terms_of}
use Rattle.esc_term.specs.Term.{is_ground, with_once}
use Rattle.esc_cover.specs.Classes.{has}
use Rattle.esc_cover.proofs.ActiveTerms.{firsts_have}
use Rattle.esc_cover.proofs.TestLemmas.{has-at, has-found, has_none, kept, of_kept}
use Rattle.esc_term.proofs.Members.{Contains-cases, Contains-here, Contains-later, Contains-none}
use Rattle.std.proofs.lemmas.List.Elements.{Contains-push_cases}
use Rattle.esc_nodes.specs.Laws.{TermsAreGround, TermsAreOnce}
use Rattle.esc_nodes.specs.Nodes.{AreTerms, Shape}
use Rattle.esc_nodes.specs.Terms.{term_of}
use Rattle.esc_standing.specs.DepthsInside.{Enters, EntersTerms, entered}

eq_true : (a b : ℕ) → a ≡ b → (a == b) ≡ true
eq_true a b e = elim (eqb_tells a b) [ inl h ↦ h.0 | inr h ↦ absurd (h.1 e) ]

eq_false : (a b : ℕ) → (a ≡ b → ⊥) → (a == b) ≡ false
eq_false a b ne = elim (eqb_tells a b) [ inl h ↦ absurd (ne h.1) | inr h ↦ h.0 ]

-- ---- one after another

entered-both : (b c : Bool) (depth unset old : ℕ)
    → entered c depth unset (entered b depth unset old) ≡ entered (b || c) depth unset old
entered-both true c depth unset old = go (old == unset) refl
  where
    go : (e : Bool) → (old == unset) ≡ e
        → entered c depth unset (if e then depth else old) ≡ (if e then depth else old)
    go true is = same (c && (depth == unset))
      where
        same : (x : Bool) → (if x then depth else depth) ≡ depth
        same true = refl
        same false = refl
    go false is = fails c
      where
        fails : (d : Bool) → (if d && (old == unset) then depth else old) ≡ old
        fails true = ap (λ e. if e then depth else old) is
        fails false = refl
entered-both false c depth unset old = refl

module _ (nodes : List Shape) (depth unset : ℕ) where
  pub enters_none : (old : List ℕ) → Enters nodes [] depth unset old old
  enters_none old = record { many = refl; each = λ n l. refl }

  pub enters_more : (ts : List Term) (t : Term) (old middle new : List ℕ)
      → Enters nodes ts depth unset old middle → Enters nodes (t ∷ []) depth unset middle new
      → Enters nodes (ts ++ t ∷ []) depth unset old new
  enters_more ts t old middle new first second = record {
    many = second.many ∙ first.many;
    each = λ n l.
        second.each n l
        ∙ (ap (entered (has (t ∷ []) (term_of nodes n)) depth unset) (first.each n l)
        ∙ (entered-both (has ts (term_of nodes n)) (has (t ∷ []) (term_of nodes n)) depth unset
        (slice_index old n)
        ∙ ap (λ b. entered b depth unset (slice_index old n))
        (sym (list_any-append (same_term (term_of nodes n)) ts (t ∷ [])))));
  }

  -- ---- one term

  module _ (t : Term) (old : List ℕ) where
    pub enters_absent : ((n : ℕ) → n < length nodes → term_of nodes n ≡ t → ⊥)
        → Enters nodes (t ∷ []) depth unset old old
    enters_absent absent = record {
      many = refl;
      each = λ n l. ap (λ b. entered b depth unset (slice_index old n))
          (sym (has_none (t ∷ []) (term_of nodes n) (λ c. elim (Contains-cases t []
          (term_of nodes n) c) [
            | inl same ↦ absent n l (sym same)
            | inr none ↦ Contains-none (term_of nodes n) none
          ])));
    }

    module _ (once : TermsAreOnce) (are : AreTerms nodes) (m : ℕ) (there : m < length nodes)
        (is : term_of nodes m ≡ t) where
      other_node : (n : ℕ) → n < length nodes → (n ≡ m → ⊥)
          → has (t ∷ []) (term_of nodes n) ≡ false
      other_node n l ne =
          has_none (t ∷ []) (term_of nodes n) (λ c. elim (Contains-cases t [] (term_of nodes n)
          c) [
            | inl same ↦ ne (once nodes are n m l there (sym same ∙ sym is))
            | inr none ↦ Contains-none (term_of nodes n) none
          ])

      own_node : (n : ℕ) → n ≡ m → has (t ∷ []) (term_of nodes n) ≡ true
      own_node n e = has-at (t ∷ []) (term_of nodes n)
          (subst (Contains (t ∷ [])) (sym is ∙ ap (term_of nodes) (sym e)) (Contains-here t []))

      pub enters_set : slice_index old m ≡ unset → length old ≡ length nodes
          → Enters nodes (t ∷ []) depth unset old (slice_set old m depth)
      enters_set bare many = record {
        many = length-set old m depth;
        each = λ n l. elim (cases_eq n m) [
          | inl e ↦
              ap (slice_index (slice_set old m depth)) e
              ∙ (get_or-set_same old m depth 0 (omega (arith, there, many))
              ∙ sym (ap (λ b. entered b depth unset (slice_index old n)) (own_node n e)
              ∙ ap (λ b. if b then depth else slice_index old n)
              (eq_true (slice_index old n) unset (ap (slice_index old) e ∙ bare))))
          | inr ne ↦
              get_or-set_other old m n depth 0 ne
              ∙ ap (λ b. entered b depth unset (slice_index old n)) (sym (other_node n l ne))
        ];
      }

      pub enters_kept : (slice_index old m ≡ unset → ⊥)
          → Enters nodes (t ∷ []) depth unset old old
      enters_kept set = record {
        many = refl;
        each = λ n l. elim (cases_eq n m) [
          | inl e ↦
              sym (ap (λ b. entered b depth unset (slice_index old n)) (own_node n e)
              ∙ ap (λ b. if b then depth else slice_index old n)
              (ap (λ k. k == unset) (ap (slice_index old) e)
              ∙ eq_false (slice_index old m) unset set))
          | inr ne ↦
              ap (λ b. entered b depth unset (slice_index old n)) (sym (other_node n l ne))
        ];
      }

-- ---- the terms of a formula

same_truth : (a b : Bool) → (a ≡ true → b ≡ true) → (b ≡ true → a ≡ true) → a ≡ b
same_truth true b f g = sym (f refl)
same_truth false true f g = g refl
same_truth false false f g = refl

of_once : (seen : List Term) (u t : Term) → Contains (with_once seen u) t
    → Contains seen t ⊎ (u ≡ t)
unfolding with_once
of_once seen u t = go (has seen u)
  where
    go : (b : Bool) → Contains (if b then seen else seen ++ u ∷ []) t
        → Contains seen t ⊎ (u ≡ t)
    go true h = inl h
    go false h = Contains-push_cases seen u t h

of_firsts : (ts seen : List Term) (t : Term) → Contains (fold with_once seen ts) t
    → Contains seen t ⊎ Contains ts t
of_firsts [] seen t h = inl h
of_firsts (u ∷ us) seen t h =
    elim (of_firsts us (with_once seen u) t h) [
      | inl early ↦ elim (of_once seen u t early) [
        | inl before ↦ inl before
        | inr same ↦ inr (subst (Contains (u ∷ us)) same (Contains-here u us))
      ]
      | inr later ↦ inr (Contains-later u us t later)
    ]

pub enters_formula : TermsAreGround → (nodes : List Shape) → AreTerms nodes → (f : Formula)
    (depth unset : ℕ) (old new : List ℕ) → Enters nodes (ground_terms_of f) depth unset old new
    → EntersTerms nodes f depth unset old new
enters_formula ground nodes are f depth unset old new all = record {
  many = all.many;
  each = λ n l. all.each n l
      ∙ ap (λ b. entered b depth unset (slice_index old n)) (same n l);
}
  where
    found : (t : Term) → Contains (ground_terms_of f) t → Contains (terms_of f) t
    found t c = elim (of_firsts (filter is_ground (terms_of f)) [] t c) [
      | inl none ↦ absurd (Contains-none t none)
      | inr later ↦ (of_kept is_ground (terms_of f) t later).0
    ]

    same : (n : ℕ) → n < length nodes
        → has (ground_terms_of f) (term_of nodes n) ≡ has (terms_of f) (term_of nodes n)
    same n l = same_truth _ _
        (λ e. has-at (terms_of f) (term_of nodes n)
        (found (term_of nodes n) (has-found (ground_terms_of f) (term_of nodes n) e)))
        (λ e. has-at (ground_terms_of f) (term_of nodes n)
        (firsts_have (filter is_ground (terms_of f)) [] (term_of nodes n)
        (kept is_ground (terms_of f) (term_of nodes n)
        (has-found (terms_of f) (term_of nodes n) e) (ground nodes are n l))))
