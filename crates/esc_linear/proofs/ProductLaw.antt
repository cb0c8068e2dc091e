-- The form of a product is its linear meaning, and so is that of each term.
use Rattle.std.proofs.Common.{◌≡◌, ◌≢◌, Bool, true, false, cond, not, nat_lt, ℤ, pos, ◌+ℤ◌, ◌*ℤ◌, List, [], ◌∷◌, map, length, suc, refl, sym, ap, ap₂, subst, ◌∙◌, arith}
use Rattle.std.specs.List.{All, Contains, filter}
use Rattle.std.specs.Ordering.{int_eq}
use Rattle.std.proofs.lemmas.Bool.{ltb-true}
use Rattle.std.proofs.lemmas.Bool.Decides.{Decides-int_eq}
use Rattle.std.proofs.lemmas.Int.{ints}
use Rattle.std.proofs.lemmas.List.Elements.{All-head, All-tail}
use denote.Hole.Carrier.{roll}
use Rattle.esc_term.specs.declared.term.Head.{Head}
use Rattle.esc_term.specs.declared.term.Head.TheVariants.{Add, Sub, Mul, Name, Skolem}
use Rattle.esc_term.specs.declared.term.Term.{Term}
use Rattle.esc_term.specs.declared.term.Term.TheVariants.{Num, Var, App}
use Rattle.esc_term.specs.declared.term.Term.TheOpen.{Term-F}
use Rattle.esc_term.specs.declared.term.Term.TheViews.{roll-Term}
use Rattle.esc_term.specs.declared.term.Term.TheFolds.{map-Term, ind-Term}
use Rattle.esc_term.specs.Interpretation.{product_of}
use Rattle.esc_term.specs.Term.{subterms}
use Rattle.esc_term.proofs.Pairs.{map-map, first-pairs}
use Rattle.esc_frac.specs.Rational.{ℚ, whole, zero_ℚ, one_ℚ, ◌+ℚ◌, ◌*ℚ◌}
use Rattle.esc_frac.proofs.FieldLaws.{+ℚ-zero, *ℚ_comm, *ℚ-one, *ℚ-zero}
use Rattle.esc_frac.proofs.WholeLaws.{whole_same, whole-*ℚ}
use Rattle.esc_linear.specs.declared.form.Part.{Part}
use Rattle.esc_linear.specs.Forms.{opaque_form, is_constant, varying, factor_of, scaled_first, form}
use Rattle.esc_linear.specs.Laws.{weighted, only, coefficient, Apart, IsLin}
use Rattle.esc_linear.specs.Lin.{Lin, unknown, varies, product_coefficient, lin}
use Rattle.esc_linear.proofs.Additive.{product-whole, HasConstant, Meets}
use Rattle.esc_linear.proofs.AllLemmas.{all_of_pairs, any_none, any_some}
use Rattle.esc_linear.proofs.FormLevels.{form-Num, form-Var, form-App}
use Rattle.esc_linear.proofs.LinLevels.{lin-Num, lin-Var, lin-App}
use Rattle.esc_linear.proofs.LinLaw.{Meant, pairs, constants_of, lins_of, only-itself, opaque-meant, sum-meant, negative-meant, difference-meant, args-inside, args-opaque, AllTerms-first, AllTerms-none, IsNormal-first, IsNormal-constant}
use Rattle.esc_linear.proofs.PartLemmas.{differ_when, weighted-scaled_parts}
use Rattle.esc_linear.proofs.ValueLaw.{weighted-none}

-- ---- a constant has no coefficients

constant_no : (t : Term) → Meant t → is_constant (form t).parts ≡ true → (o : Term)
    → (lin t).coefficient o ≡ pos 0
constant_no t l is o = sym (whole_same (pos 0) ((lin t).coefficient o)
    (sym (weighted-none (only o) (form t).parts is) ∙ l.coefficients o))

weighted-apart : (o : Term) (ps : List Part) → All (λ (p : Part). p.term ≢ o) ps
    → weighted (only o) ps ≡ zero_ℚ
unfolding weighted
weighted-apart o [] h = refl
weighted-apart o (p ∷ ps) h =
    ap₂ (λ b x. p.factor *ℚ cond b one_ℚ zero_ℚ +ℚ x)
    (differ_when o p.term (λ e. All-head (λ (p : Part). p.term ≢ o) p ps h (sym e)))
    (weighted-apart o ps (All-tail (λ (p : Part). p.term ≢ o) p ps h))
    ∙ +ℚ-zero (p.factor *ℚ zero_ℚ) ∙ *ℚ-zero p.factor

weighted-first : (p : Part) (ps : List Part) → Apart (p ∷ ps) → weighted (only p.term) (p ∷ ps)
    ≡ p.factor
unfolding weighted Apart
weighted-first p ps (others, apart) =
    ap₂ (λ x y. p.factor *ℚ x +ℚ y) (only-itself p.term) (weighted-apart p.term ps others)
    ∙ +ℚ-zero (p.factor *ℚ one_ℚ) ∙ *ℚ-one p.factor

nonzero_test : (n : ℤ) → n ≢ pos 0 → not (int_eq n (pos 0)) ≡ true
nonzero_test n h = go (int_eq n (pos 0)) refl
  where
    go : (b : Bool) → int_eq n (pos 0) ≡ b → not b ≡ true
    go true e = absurd (h ((Decides-int_eq n (pos 0)).0 e))
    go false e = refl

zero_test : (n : ℤ) → n ≡ pos 0 → not (int_eq n (pos 0)) ≡ false
zero_test n e = ap not ((Decides-int_eq n (pos 0)).1 e)

-- the form of a term is a constant where no coefficient differs from 0
varies-is : (t : Term) → Meant t → varies (t, lin t) ≡ not (is_constant (form t).parts)
unfolding is_constant
varies-is t l = go (form t).parts refl
  where
    go : (ps : List Part) → (form t).parts ≡ ps → varies (t, lin t) ≡ not (is_constant ps)
    go [] e = any_none (λ o. not (int_eq ((lin t).coefficient o) (pos 0))) (subterms t)
        (λ o. zero_test ((lin t).coefficient o) (constant_no t l (ap is_constant e) o))
    go (p ∷ ps) e =
        let inside = subst (λ (rs : List Part). All (λ (r : Part). Contains (subterms t) r.term) rs)
        e l.inside in
        let apart = subst Apart e l.normal.apart in
        let nonzero = subst (λ (rs : List Part). All (λ (r : Part). r.factor ≢ zero_ℚ) rs) e
        l.normal.nonzero in
        let is : whole ((lin t).coefficient p.term) ≡ p.factor = sym (l.coefficients p.term)
        ∙ ap (weighted (only p.term)) e ∙ weighted-first p ps apart in
        any_some (λ o. not (int_eq ((lin t).coefficient o) (pos 0))) (subterms t) p.term
        (All-head (λ (r : Part). Contains (subterms t) r.term) p ps inside)
        (nonzero_test ((lin t).coefficient p.term)
        (λ none. All-head (λ (r : Part). r.factor ≢ zero_ℚ) p ps nonzero (sym is
        ∙ ap whole none)))

count-is : (ts : List Term) → All Meant ts → length (filter varies (pairs ts))
    ≡ length (varying (map form ts))
count-is [] h = refl
count-is (t ∷ ts) h =
    ap (λ b. length (cond b ((t, lin t) ∷ filter varies (pairs ts)) (filter varies (pairs ts))))
    (varies-is t (All-head Meant t ts h))
    ∙ go (count-is ts (All-tail Meant t ts h)) (is_constant (form t).parts)
  where
    go : length (filter varies (pairs ts)) ≡ length (varying (map form ts)) → (b : Bool)
        → length (cond (not b) ((t, lin t) ∷ filter varies (pairs ts)) (filter varies (pairs ts)))
        ≡ length (cond (not b) (form t ∷ varying (map form ts)) (varying (map form ts)))
    go later true = later
    go later false = ap suc later

-- ---- the constant and the coefficients of a product

abbrev constant_at : Term → ℤ
constant_at t = (lin t).constant

abbrev constants_product : List Term → ℤ
constants_product ts = product_of (map constant_at ts)

abbrev product_at : Term → List Term → ℤ
product_at o ts = product_coefficient (map lin ts) o

lin_constants : (ts : List Term) → map (λ (L : Lin). L.constant) (map lin ts) ≡ map constant_at ts
lin_constants ts = map-map lin (λ (L : Lin). L.constant) ts

-- one more
product_at-more : (o t : Term) (ts : List Term) → product_at o (t ∷ ts)
    ≡ (lin t).coefficient o *ℤ constants_product ts +ℤ constant_at t *ℤ product_at o ts
product_at-more o t ts = ap (λ ns. (lin t).coefficient o *ℤ product_of ns +ℤ constant_at t *ℤ
    product_at o ts) (lin_constants ts)

left_none : (k m c n : ℤ) → k ≡ pos 0 → c *ℤ n ≡ k *ℤ m +ℤ c *ℤ n
left_none k m c n e = added (c *ℤ n) ∙ ap (λ x. x *ℤ m +ℤ c *ℤ n) (sym e)
  where
    times_zero : (x : ℤ) → pos 0 *ℤ x ≡ pos 0
    times_zero x = omega (arith, ints)

    added : (x : ℤ) → x ≡ pos 0 *ℤ m +ℤ x
    added x = omega (arith, ints, times_zero m)

right_none : (k m c n : ℤ) → n ≡ pos 0 → k *ℤ m +ℤ c *ℤ n ≡ k *ℤ m
right_none k m c n e = ap (λ x. k *ℤ m +ℤ c *ℤ x) e ∙ added (k *ℤ m)
  where
    zero_times : (x : ℤ) → x *ℤ pos 0 ≡ pos 0
    zero_times x = omega (arith, ints)

    added : (x : ℤ) → x +ℤ c *ℤ pos 0 ≡ x
    added x = omega (arith, ints, zero_times c)

-- constants alone have no coefficient
product_at-none : (o : Term) (ts : List Term) → All Meant ts → varying (map form ts) ≡ []
    → product_at o ts ≡ pos 0
product_at-none o [] h none = refl
product_at-none o (t ∷ ts) h none = go (product_at-none o ts (All-tail Meant t ts h))
    (is_constant (form t).parts) refl none
  where
    go : (varying (map form ts) ≡ [] → product_at o ts ≡ pos 0) → (b : Bool)
        → is_constant (form t).parts ≡ b → cond (not b) (form t ∷ varying (map form ts))
        (varying (map form ts)) ≡ [] → product_at o (t ∷ ts) ≡ pos 0
    go more true is e =
        product_at-more o t ts
        ∙ sym (left_none ((lin t).coefficient o) (constants_product ts) (constant_at t)
        (product_at o ts) (constant_no t (All-head Meant t ts h) is o))
        ∙ ap (λ x. constant_at t *ℤ x) (more e) ∙ zero_times (constant_at t)
      where
        zero_times : (x : ℤ) → x *ℤ pos 0 ≡ pos 0
        zero_times x = omega (arith, ints)
    go more false is e = absurd (cc)

has : (t : Term) → Meant t → HasConstant constant_at t
has t l is = l.constant

constant-meets : (t : Term) (ts : List Term) → Meant t → All Meant ts
    → Meets constant_at (λ f. f.constant) constants_product t ts
constant-meets t ts l h = record {
  constant = λ is. refl;
  other = λ none. ap (λ x. x *ℚ whole (constants_product ts)) l.constant
      ∙ whole-*ℚ (constant_at t) (constants_product ts);
}

coefficient-meets : (o t : Term) (ts : List Term) → Meant t → All Meant ts
    → Meets constant_at (λ f. coefficient f o) (product_at o) t ts
coefficient-meets o t ts l h = record {
  constant = λ is.
      left_none ((lin t).coefficient o) (constants_product ts) (constant_at t) (product_at o ts)
      (constant_no t l is o)
      ∙ sym (product_at-more o t ts);
  other = λ none.
      ap (λ x. x *ℚ whole (constants_product ts)) (l.coefficients o)
      ∙ whole-*ℚ ((lin t).coefficient o) (constants_product ts)
      ∙ ap whole (sym (right_none ((lin t).coefficient o) (constants_product ts) (constant_at t)
      (product_at o ts) (product_at-none o ts h none)) ∙ sym (product_at-more o t ts));
}

one-times : (q : ℚ) → one_ℚ *ℚ q ≡ q
one-times q = *ℚ_comm one_ℚ q ∙ *ℚ-one q

abbrev product_lin : List (Term × Lin) → Lin
product_lin args = record {
  constant = product_of (map (λ (arg : Term × Lin). arg.1.constant) args);
  coefficient = product_coefficient (map (λ (arg : Term × Lin). arg.1) args);
}

product-meant : (ts : List Term) → All Meant ts → Meant (App Mul ts)
unfolding weighted
product-meant ts h = go (nat_lt (length (varying (map form ts))) 2) refl
  where
    go : (b : Bool) → nat_lt (length (varying (map form ts))) 2 ≡ b → Meant (App Mul ts)
    go true e =
        let few = ltb-true (length (varying (map form ts))) 2 e in
        let is : form (App Mul ts) ≡ scaled_first (varying (map form ts))
        (factor_of (map form ts)) =
        form-App Mul ts ∙ ap (λ t. cond t (scaled_first (varying (map form ts))
        (factor_of (map form ts))) (opaque_form (App Mul ts))) e in
        let l : lin (App Mul ts) ≡ product_lin (pairs ts) =
        lin-App Mul ts ∙ ap (λ t. cond t (product_lin (pairs ts))
        (unknown (App Mul (map (λ (arg : Term × Lin). arg.0) (pairs ts)))))
        (ap (λ n. nat_lt n 2) (count-is ts h) ∙ e) in
        subst (λ f. IsLin (App Mul ts) f) (sym is) record {
          normal = IsNormal-first (factor_of (map form ts)) ts h;
          constant =
              product-whole constant_at (λ f. f.constant) constants_product Meant (λ a q. refl)
              (λ q. sym (*ℚ-one q)) has constant-meets one_ℚ ts h few
              ∙ one-times (whole (constants_product ts))
              ∙ ap (λ ns. whole (product_of ns)) (sym (constants_of ts))
              ∙ ap (λ (M : Lin). whole M.constant) (sym l);
          coefficients = λ o.
              product-whole constant_at (λ f. coefficient f o) (product_at o) Meant
              (λ a q. weighted-scaled_parts (only o) a.parts q) (λ q. sym (*ℚ-zero q)) has
              (coefficient-meets o) one_ℚ ts h few
              ∙ one-times (whole (product_at o ts))
              ∙ ap (λ Ls. whole (product_coefficient Ls o)) (sym (lins_of ts))
              ∙ ap (λ (M : Lin). whole (M.coefficient o)) (sym l);
          inside = AllTerms-first (Contains (subterms (App Mul ts))) (factor_of (map form ts)) ts
              (args-inside Mul ts h);
          opaque = AllTerms-first (λ o. form o ≡ opaque_form o) (factor_of (map form ts)) ts
              (args-opaque ts h);
        }
    go false e =
        opaque-meant (App Mul ts)
        (form-App Mul ts ∙ ap (λ t. cond t (scaled_first (varying (map form ts))
        (factor_of (map form ts))) (opaque_form (App Mul ts))) e)
        (lin-App Mul ts ∙ ap (λ t. cond t (product_lin (pairs ts))
        (unknown (App Mul (map (λ (arg : Term × Lin). arg.0) (pairs ts)))))
        (ap (λ n. nat_lt n 2) (count-is ts h) ∙ e)
        ∙ ap (λ us. unknown (App Mul us)) (first-pairs lin ts))

-- ---- each term

App-opaque : (head : Head) (ts : List Term) → form (App head ts) ≡ opaque_form (App head ts)
    → lin (App head ts) ≡ unknown (App head (map (λ (arg : Term × Lin). arg.0) (pairs ts)))
    → Meant (App head ts)
App-opaque head ts e l = opaque-meant (App head ts) e (l
    ∙ ap (λ us. unknown (App head us)) (first-pairs lin ts))

App-meant : (head : Head) (ts : List Term) → All Meant ts → Meant (App head ts)
App-meant Add ts h = sum-meant ts h
App-meant Sub [] h = App-opaque Sub [] (form-App Sub []) (lin-App Sub [])
App-meant Sub (s ∷ []) h = negative-meant s h
App-meant Sub (s ∷ t ∷ []) h = difference-meant s t h
App-meant Sub (s ∷ t ∷ u ∷ us) h = App-opaque Sub (s ∷ t ∷ u ∷ us) (form-App Sub (s ∷ t ∷ u ∷ us))
    (lin-App Sub (s ∷ t ∷ u ∷ us))
App-meant Mul ts h = product-meant ts h
App-meant (Name f) ts h = App-opaque (Name f) ts (form-App (Name f) ts) (lin-App (Name f) ts)
App-meant (Skolem n i) ts h = App-opaque (Skolem n i) ts (form-App (Skolem n i) ts)
    (lin-App (Skolem n i) ts)

numeral-meant : (n : ℤ) → Meant (Num n)
unfolding weighted
numeral-meant n = subst (λ f. IsLin (Num n) f) (sym (form-Num n)) record {
  normal = IsNormal-constant (whole n);
  constant = ap (λ (M : Lin). whole M.constant) (sym (lin-Num n));
  coefficients = λ o. ap (λ (M : Lin). whole (M.coefficient o)) (sym (lin-Num n));
  inside = AllTerms-none (Contains (subterms (Num n)));
  opaque = AllTerms-none (λ o. form o ≡ opaque_form o);
}

meant_at : (y : Term-F ((t : Term) × Meant t)) → Meant
    (roll-Term (map-Term ((t : Term) × Meant t) Term (λ e. e.0) y))
unfolding roll-Term roll
meant_at (Term-F.Num n) = numeral-meant n
meant_at (Term-F.Var k) = opaque-meant (Var k) (form-Var k) (lin-Var k)
meant_at (Term-F.App head es) = App-meant head (map (λ e. e.0) es) (all_of_pairs Meant es)

pub form-meant : (t : Term) → Meant t
form-meant = ind-Term Meant (λ x y is. subst (λ z. Meant (roll-Term z)) is (meant_at y))
