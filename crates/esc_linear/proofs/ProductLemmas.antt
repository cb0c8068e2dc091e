-- Products of forms, one after another.
use Rattle.std.proofs.Common.{◌≡◌, ◌↔◌, ℕ, ◌+◌, ◌<◌, ◌≤◌, Bool, IsTrue, true, false, cond, not, List, [], ◌∷◌, ◌++◌, drop, length, get_or, Result, Ok, refl, sym, ap, subst, subst₂, ◌∙◌, append-nil, append_assoc}
use Rattle.std.specs.List.{fold}
use Rattle.std.proofs.lemmas.Bool.{le-ltb}
use Rattle.std.proofs.lemmas.List.{drop_more, drop_all}
use Rattle.std.proofs.lemmas.List.Elements.{All-nil}
use Rattle.esc_term.specs.declared.term.Term.{Term}
use Rattle.esc_frac.specs.Rational.{ℚ, is_zero, ◌*ℚ◌}
use Rattle.esc_linear.specs.declared.form.Form.{Form}
use Rattle.esc_linear.specs.declared.form.FormJam.{FormJam}
use Rattle.esc_linear.specs.declared.form.Part.{Part}
use Rattle.esc_linear.specs.Forms.{part, constant_form, with_factor, is_constant, varying, with_constant, factor_of, scaled, scaled_parts, scaled_first, times}
use Rattle.esc_linear.specs.Steps.{Step, StepFits, AllFit, multiplies, fold_steps, constant_steps, factor_steps, scaled_part_steps, scaled_steps, scaled_first_steps, times_steps, Yields}
use Rattle.esc_linear.proofs.StepLemmas.{goes_on}

-- the parts so far, and one more times the factor
abbrev pub with_scaled : ℚ → List Part → Part → List Part
with_scaled q ps p = ps ++ with_factor p.term (p.factor *ℚ q) []

abbrev pub scaling : ℚ → List Part → Part → List Step
scaling q ps p = multiplies p.factor q ∷ []

before_rest : (p : Part) (q : ℚ) (ps : List Part) → with_factor p.term q [] ++ ps
    ≡ with_factor p.term q ps
before_rest p q ps = go (is_zero q)
  where
    go : (b : Bool) → cond b [] (part p.term q ∷ []) ++ ps ≡ cond b ps (part p.term q ∷ ps)
    go true = refl
    go false = refl

scaled-from : (q : ℚ) (done ps : List Part) → fold (with_scaled q) done ps ≡ done
    ++ scaled_parts ps q
unfolding scaled_parts
scaled-from q done [] = sym (append-nil done)
scaled-from q done (p ∷ ps) =
    scaled-from q (with_scaled q done p) ps
    ∙ append_assoc done (with_factor p.term (p.factor *ℚ q) []) (scaled_parts ps q)
    ∙ ap (λ rest. done ++ rest) (before_rest p (p.factor *ℚ q) (scaled_parts ps q))

pub scaled-folded : (q : ℚ) (ps : List Part) → fold (with_scaled q) [] ps ≡ scaled_parts ps q
scaled-folded q ps = scaled-from q [] ps

pub scaling-folded : (q : ℚ) (done ps : List Part) → fold_steps (with_scaled q) (scaling q) done ps
    ≡ scaled_part_steps ps q
unfolding fold_steps
scaling-folded q done [] = refl
scaling-folded q done (p ∷ ps) = ap (λ rest. multiplies p.factor q
    ∷ rest) (scaling-folded q (with_scaled q done p) ps)

-- the parts with one more
pub none_scaled : (ps : List Part) (p : Part) (q : ℚ) → is_zero (p.factor *ℚ q) ≡ true → ps
    ≡ with_scaled q ps p
none_scaled ps p q e = sym (ap (λ b. ps ++ cond b [] (part p.term (p.factor *ℚ q) ∷ [])) e
    ∙ append-nil ps)

pub one_scaled : (ps : List Part) (p : Part) (q : ℚ) (s : Term) → is_zero (p.factor *ℚ q) ≡ false
    → s ≡ p.term → ps ++ part s (p.factor *ℚ q) ∷ [] ≡ with_scaled q ps p
one_scaled ps p q s e same =
    ap (λ u. ps ++ part u (p.factor *ℚ q) ∷ []) same
    ∙ sym (ap (λ b. ps ++ cond b [] (part p.term (p.factor *ℚ q) ∷ [])) e)

-- ---- the forms that are no constants

pub constant_by : (b : Bool) (ps : List Part) → (IsTrue b ↔ (ps ≡ [])) → is_constant ps ≡ b
unfolding is_constant
constant_by true [] h = refl
constant_by false [] h = sym (h.1 refl)
constant_by true (p ∷ ps) h = let none = h.0 refl in absurd (cc)
constant_by false (p ∷ ps) h = refl

at_item : (fs : List Form) (i : ℕ) (f : Form) → i < length fs → f ≡ get_or fs i f → drop i fs ≡ f
    ∷ drop (i + 1) fs
at_item fs i f within is = drop_more fs i f within ∙ ap (λ g. g ∷ drop (i + 1) fs) (sym is)

pub varying-constant : (fs : List Form) (i : ℕ) (f : Form) → i < length fs → f ≡ get_or fs i f
    → is_constant f.parts ≡ true → varying (drop i fs) ≡ varying (drop (i + 1) fs)
varying-constant fs i f within is e =
    ap varying (at_item fs i f within is) ∙ ap (λ b. cond (not b) (f ∷ varying (drop (i + 1) fs))
    (varying (drop (i + 1) fs))) e

pub varying-other : (fs : List Form) (i : ℕ) (f : Form) → i < length fs → f ≡ get_or fs i f
    → is_constant f.parts ≡ false → varying (drop i fs) ≡ f ∷ varying (drop (i + 1) fs)
varying-other fs i f within is e =
    ap varying (at_item fs i f within is) ∙ ap (λ b. cond (not b) (f ∷ varying (drop (i + 1) fs))
    (varying (drop (i + 1) fs))) e

pub varying-none : (fs : List Form) (i : ℕ) → length fs ≤ i → varying (drop i fs) ≡ []
varying-none fs i all = ap varying (drop_all i fs all)

-- ---- the whole product

pub no_constant : (q : ℚ) (f : Form) (b : Bool) → is_constant f.parts ≡ b → b ≡ false
    → Yields (Ok q) (constant_steps q f) (with_constant q f)
unfolding Yields
no_constant q f b test e = (
  subst AllFit (sym (ap (λ t. cond t (multiplies q f.constant ∷ []) []) (test ∙ e)))
      (All-nil StepFits),
  sym (ap (λ t. cond t (q *ℚ f.constant) q) (test ∙ e)),
)

pub a_constant : (r : Result ℚ FormJam) (q : ℚ) (f : Form) (b : Bool) → is_constant f.parts ≡ b → b
    ≡ true → Yields r (multiplies q f.constant ∷ []) (q *ℚ f.constant)
    → Yields r (constant_steps q f) (with_constant q f)
a_constant r q f b test e h =
    subst (λ t. Yields r (cond t (multiplies q f.constant ∷ []) []) (cond t (q *ℚ f.constant) q))
    (sym (test ∙ e)) h

pub product_of_one : (r : Result Form FormJam) (fs rest : List Form) (f : Form) (q : ℚ) → varying fs
    ≡ f ∷ rest → Yields (Ok q) (factor_steps fs) (factor_of fs)
    → Yields r (scaled_steps f q) (scaled f q)
    → Yields r (factor_steps fs ++ scaled_first_steps (varying fs) (factor_of fs))
    (scaled_first (varying fs) (factor_of fs))
unfolding scaled_first scaled_first_steps Yields
product_of_one r fs rest f q e factor h =
    goes_on r (factor_steps fs) (scaled_first_steps (varying fs) (factor_of fs)) _ factor.0
    (subst₂ (λ gs p. Yields r (scaled_first_steps gs p) (scaled_first gs p)) (sym e) factor.1 h)

pub product_of_none : (x : Form) (fs : List Form) (q : ℚ) → varying fs ≡ []
    → Yields (Ok q) (factor_steps fs) (factor_of fs) → x ≡ constant_form q
    → Yields (Ok x) (factor_steps fs ++ scaled_first_steps (varying fs) (factor_of fs))
    (scaled_first (varying fs) (factor_of fs))
unfolding scaled_first scaled_first_steps Yields
product_of_none x fs q e factor is =
    goes_on (Ok x) (factor_steps fs) (scaled_first_steps (varying fs) (factor_of fs)) _ factor.0
    (subst₂ (λ gs p. Yields (Ok x) (scaled_first_steps gs p) (scaled_first gs p)) (sym e) factor.1
    (All-nil StepFits, is))

pub opaque_product : (x other : Form) (fs : List Form) → 2 ≤ length (varying fs) → x ≡ other
    → Yields (Ok x) (times_steps fs) (times other fs)
unfolding Yields
opaque_product x other fs several is =
    let test = le-ltb (length (varying fs)) 2 several in (
      subst AllFit (sym (ap (λ b. cond b (factor_steps fs
          ++ scaled_first_steps (varying fs) (factor_of fs)) []) test)) (All-nil StepFits),
      is ∙ sym (ap (λ b. cond b (scaled_first (varying fs) (factor_of fs)) other) test),
    )
