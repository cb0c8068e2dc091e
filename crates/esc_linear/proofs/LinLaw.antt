-- The form of a term is its linear meaning.
use Rattle.std.proofs.Common.{◌≡◌, ◌≢◌, Bool, true, false, cond, not, ℤ, pos, ◌+ℤ◌, ◌-ℤ◌, neg_ℤ, List, [], ◌∷◌, map, refl, sym, ap, subst, ◌∙◌, arith}
use Rattle.std.specs.List.{All, Contains, fold, flat_map}
use Rattle.std.proofs.lemmas.Int.{ints}
use Rattle.std.proofs.lemmas.List.Elements.{All-nil, All-cons, All-head, All-tail, Contains-append_left}
use Rattle.esc_term.specs.declared.term.Head.{Head}
use Rattle.esc_term.specs.declared.term.Head.TheVariants.{Add, Sub}
use Rattle.esc_term.specs.declared.term.Term.{Term}
use Rattle.esc_term.specs.declared.term.Term.TheVariants.{App}
use Rattle.esc_term.specs.Equal.{same_term, same_term-is}
use Rattle.esc_term.specs.Interpretation.{sum_of}
use Rattle.esc_term.specs.Term.{subterms}
use Rattle.esc_term.proofs.Members.{Contains-here, Contains-later, Contains-in_flat_map}
use Rattle.esc_term.proofs.Pairs.{map-map}
use Rattle.esc_term.proofs.TermLevels.{subterms-App, subterms-self}
use Rattle.esc_frac.specs.Rational.{ℚ, whole, zero_ℚ, one_ℚ, ◌*ℚ◌}
use Rattle.esc_frac.proofs.FieldLaws.{+ℚ-zero, *ℚ_comm, *ℚ-one}
use Rattle.esc_frac.proofs.WholeLaws.{whole_same}
use Rattle.esc_linear.specs.declared.form.Form.{Form}
use Rattle.esc_linear.specs.declared.form.Part.{Part}
use Rattle.esc_linear.specs.Forms.{part, constant_form, opaque_form, plus, negative, less, is_constant, varying, scaled_first, form}
use Rattle.esc_linear.specs.Laws.{weighted, only, coefficient, Apart, IsNormal, IsLin}
use Rattle.esc_linear.specs.Lin.{Lin, unknown, lin}
use Rattle.esc_linear.proofs.Additive.{total-whole, less-whole}
use Rattle.esc_linear.proofs.AllLemmas.{all_by}
use Rattle.esc_linear.proofs.FormLemmas.{IsNormal-plus, IsNormal-scaled}
use Rattle.esc_linear.proofs.FormLevels.{form-App}
use Rattle.esc_linear.proofs.LinLevels.{lin-App}
use Rattle.esc_linear.proofs.PartLemmas.{AllTerms, AllTerms-with_parts, AllTerms-negative, AllTerms-scaled_parts, weighted-with_parts, weighted-negative}

-- what is shown of each term
abbrev pub Meant : Term → Type 0
Meant t = IsLin t (form t)

abbrev pub pairs : List Term → List (Term × Lin)
pairs ts = map (λ t. (t, lin t)) ts

pub constants_of : (ts : List Term) → map (λ (arg : Term × Lin). arg.1.constant) (pairs ts)
    ≡ map (λ t. (lin t).constant) ts
constants_of ts = map-map (λ t. (t, lin t)) (λ (arg : Term × Lin). arg.1.constant) ts

coefficients_of : (o : Term) (ts : List Term) → map (λ (arg : Term × Lin). arg.1.coefficient o)
    (pairs ts) ≡ map (λ t. (lin t).coefficient o) ts
coefficients_of o ts = map-map (λ t. (t, lin t)) (λ (arg : Term × Lin). arg.1.coefficient o) ts

pub lins_of : (ts : List Term) → map (λ (arg : Term × Lin). arg.1) (pairs ts) ≡ map lin ts
lins_of ts = map-map (λ t. (t, lin t)) (λ (arg : Term × Lin). arg.1) ts

-- ---- an opaque term

pub only-itself : (o : Term) → only o o ≡ one_ℚ
only-itself o = ap (λ b. cond b one_ℚ zero_ℚ) ((same_term-is o o).1 refl)

coefficient-opaque : (o t : Term) → coefficient (opaque_form t) o
    ≡ whole ((unknown t).coefficient o)
unfolding weighted
coefficient-opaque o t =
    +ℚ-zero (one_ℚ *ℚ only o t) ∙ *ℚ_comm one_ℚ (only o t) ∙ *ℚ-one (only o t) ∙ go (same_term o t)
  where
    go : (b : Bool) → cond b one_ℚ zero_ℚ ≡ whole (cond b (pos 1) (pos 0))
    go true = refl
    go false = refl

one-zero : one_ℚ ≢ zero_ℚ
one-zero e = let nums = whole_same (pos 1) (pos 0) e in (cc)

normal-opaque : (t : Term) → IsNormal (opaque_form t)
unfolding Apart
normal-opaque t = record {
  apart = (All-nil (λ (q : Part). q.term ≢ t), tt);
  nonzero = All-cons (λ (p : Part). p.factor ≢ zero_ℚ) (part t one_ℚ) [] one-zero
      (All-nil (λ (p : Part). p.factor ≢ zero_ℚ));
}

pub opaque-meant : (t : Term) → form t ≡ opaque_form t → lin t ≡ unknown t → Meant t
opaque-meant t e l = subst (λ f. IsLin t f) (sym e) record {
  normal = normal-opaque t;
  constant = ap (λ (L : Lin). whole L.constant) (sym l);
  coefficients = λ o. coefficient-opaque o t ∙ ap (λ (L : Lin). whole (L.coefficient o)) (sym l);
  inside = All-cons (λ (p : Part). Contains (subterms t) p.term) (part t one_ℚ) [] (subterms-self t)
      (All-nil (λ (p : Part). Contains (subterms t) p.term));
  opaque = All-cons (λ (p : Part). form p.term ≡ opaque_form p.term) (part t one_ℚ) [] e
      (All-nil (λ (p : Part). form p.term ≡ opaque_form p.term));
}

-- ---- the terms of the forms of arguments

abbrev pub AllParts : (Term → Type 0) → Term → Type 0
AllParts P t = AllTerms P (form t).parts

inside-from : (head : Head) (ts us : List Term) → ((u : Term) → Contains us u → Contains ts u)
    → All Meant us → All (AllParts (Contains (subterms (App head ts)))) us
inside-from head ts [] within h = All-nil (AllParts (Contains (subterms (App head ts))))
inside-from head ts (u ∷ us) within h =
    All-cons (AllParts (Contains (subterms (App head ts)))) u us
    (all_by (λ (p : Part). Contains (subterms u) p.term)
    (λ (p : Part). Contains (subterms (App head ts)) p.term) (λ p k. deeper p.term k)
    (form u).parts (All-head Meant u us h).inside)
    (inside-from head ts us (λ w k. within w (Contains-later u us w k)) (All-tail Meant u us h))
  where
    deeper : (o : Term) → Contains (subterms u) o → Contains (subterms (App head ts)) o
    deeper o k =
        subst (λ os. Contains os o) (sym (subterms-App head ts))
        (Contains-append_left (flat_map subterms ts) (App head ts
        ∷ []) o (Contains-in_flat_map subterms ts u o (within u (Contains-here u us)) k))

pub args-inside : (head : Head) (ts : List Term) → All Meant ts
    → All (AllParts (Contains (subterms (App head ts)))) ts
args-inside head ts h = inside-from head ts ts (λ u k. k) h

pub args-opaque : (ts : List Term) → All Meant ts → All (AllParts (λ o. form o ≡ opaque_form o)) ts
args-opaque ts h = all_by Meant (AllParts (λ o. form o ≡ opaque_form o)) (λ t l. l.opaque) ts h

AllTerms-total : (P : Term → Type 0) (c : Form) (ts : List Term) → AllTerms P c.parts
    → All (AllParts P) ts → AllTerms P (fold plus c (map form ts)).parts
AllTerms-total P c [] all h = all
AllTerms-total P c (t ∷ ts) all h =
    AllTerms-total P (plus c (form t)) ts (AllTerms-with_parts P c.parts (form t).parts all
    (All-head (AllParts P) t ts h)) (All-tail (AllParts P) t ts h)

IsNormal-total : (c : Form) (ts : List Term) → IsNormal c → IsNormal (fold plus c (map form ts))
IsNormal-total c [] h = h
IsNormal-total c (t ∷ ts) h = IsNormal-total (plus c (form t)) ts (IsNormal-plus c (form t) h)

pub IsNormal-constant : (q : ℚ) → IsNormal (constant_form q)
unfolding Apart
IsNormal-constant q = record { apart = tt; nonzero = All-nil (λ (p : Part). p.factor ≢ zero_ℚ) }

pub AllTerms-none : (P : Term → Type 0) → AllTerms P []
AllTerms-none P = All-nil (λ (p : Part). P p.term)

pub AllTerms-first : (P : Term → Type 0) (q : ℚ) (ts : List Term) → All (AllParts P) ts
    → AllTerms P (scaled_first (varying (map form ts)) q).parts
unfolding scaled_first
AllTerms-first P q [] h = AllTerms-none P
AllTerms-first P q (t ∷ ts) h = go (AllTerms-first P q ts (All-tail (AllParts P) t ts h))
    (is_constant (form t).parts)
  where
    go : AllTerms P (scaled_first (varying (map form ts)) q).parts → (b : Bool)
        → AllTerms P (scaled_first (cond (not b) (form t ∷ varying (map form ts))
        (varying (map form ts))) q).parts
    go later true = later
    go later false = AllTerms-scaled_parts P (form t).parts q (All-head (AllParts P) t ts h)

pub IsNormal-first : (q : ℚ) (ts : List Term) → All Meant ts
    → IsNormal (scaled_first (varying (map form ts)) q)
unfolding scaled_first
IsNormal-first q [] h = IsNormal-constant q
IsNormal-first q (t ∷ ts) h = go (IsNormal-first q ts (All-tail Meant t ts h))
    (is_constant (form t).parts)
  where
    go : IsNormal (scaled_first (varying (map form ts)) q) → (b : Bool)
        → IsNormal (scaled_first (cond (not b) (form t ∷ varying (map form ts))
        (varying (map form ts))) q)
    go later true = later
    go later false = IsNormal-scaled (form t) q (All-head Meant t ts h).normal

-- ---- sums

pub sum-meant : (ts : List Term) → All Meant ts → Meant (App Add ts)
unfolding weighted
sum-meant ts h = subst (λ f. IsLin (App Add ts) f) (sym (form-App Add ts)) record {
  normal = IsNormal-total (constant_form zero_ℚ) ts (IsNormal-constant zero_ℚ);
  constant =
      total-whole (λ f. f.constant) (λ a b. refl) (λ t. (lin t).constant) refl ts
      (all_by Meant (λ t. (form t).constant ≡ whole (lin t).constant) (λ t l. l.constant) ts h)
      ∙ ap (λ ns. whole (sum_of ns)) (sym (constants_of ts))
      ∙ ap (λ (L : Lin). whole L.constant) (sym (lin-App Add ts));
  coefficients = λ o.
      total-whole (λ f. coefficient f o) (λ a b. weighted-with_parts (only o) a.parts b.parts)
      (λ t. (lin t).coefficient o) refl ts
      (all_by Meant (λ t. coefficient (form t) o ≡ whole ((lin t).coefficient o))
      (λ t l. l.coefficients o) ts h)
      ∙ ap (λ ns. whole (sum_of ns)) (sym (coefficients_of o ts))
      ∙ ap (λ (L : Lin). whole (L.coefficient o)) (sym (lin-App Add ts));
  inside = AllTerms-total (Contains (subterms (App Add ts))) (constant_form zero_ℚ) ts
      (AllTerms-none (Contains (subterms (App Add ts)))) (args-inside Add ts h);
  opaque = AllTerms-total (λ o. form o ≡ opaque_form o) (constant_form zero_ℚ) ts
      (AllTerms-none (λ o. form o ≡ opaque_form o)) (args-opaque ts h);
}

-- ---- differences

AllTerms-less : (P : Term → Type 0) (a b : Form) → AllTerms P a.parts → AllTerms P b.parts
    → AllTerms P (less a b).parts
AllTerms-less P a b h k = AllTerms-with_parts P a.parts (negative b).parts h
    (AllTerms-negative P b.parts k)

from_zero : (n : ℤ) → pos 0 +ℤ neg_ℤ n ≡ neg_ℤ n
from_zero n = omega (arith, ints)

taken : (m n : ℤ) → m +ℤ neg_ℤ n ≡ m -ℤ n
taken m n = omega (arith, ints)

pub negative-meant : (s : Term) → All Meant (s ∷ []) → Meant (App Sub (s ∷ []))
unfolding weighted
negative-meant s h = subst (λ f. IsLin (App Sub (s ∷ [])) f) (sym (form-App Sub (s ∷ []))) record {
  normal = IsNormal-plus (constant_form zero_ℚ) (negative (form s)) (IsNormal-constant zero_ℚ);
  constant =
      less-whole (λ f. f.constant) (λ a b. refl) (λ a. refl) (constant_form zero_ℚ) (form s) (pos 0)
      (lin s).constant refl (All-head Meant s [] h).constant
      ∙ ap whole (from_zero (lin s).constant) ∙ ap (λ (L : Lin). whole L.constant)
      (sym (lin-App Sub (s ∷ [])));
  coefficients = λ o.
      less-whole (λ f. coefficient f o) (λ a b. weighted-with_parts (only o) a.parts b.parts)
      (λ a. weighted-negative (only o) a.parts) (constant_form zero_ℚ) (form s) (pos 0)
      ((lin s).coefficient o) refl ((All-head Meant s [] h).coefficients o)
      ∙ ap whole (from_zero ((lin s).coefficient o))
      ∙ ap (λ (L : Lin). whole (L.coefficient o)) (sym (lin-App Sub (s ∷ [])));
  inside =
      AllTerms-less (Contains (subterms (App Sub (s ∷ [])))) (constant_form zero_ℚ) (form s)
      (AllTerms-none (Contains (subterms (App Sub (s ∷ [])))))
      (All-head (AllParts (Contains (subterms (App Sub (s ∷ []))))) s []
      (args-inside Sub (s ∷ []) h));
  opaque = AllTerms-less (λ o. form o ≡ opaque_form o) (constant_form zero_ℚ) (form s)
      (AllTerms-none (λ o. form o ≡ opaque_form o)) (All-head Meant s [] h).opaque;
}

pub difference-meant : (s t : Term) → All Meant (s ∷ t ∷ []) → Meant (App Sub (s ∷ t ∷ []))
difference-meant s t h =
    let first = All-head Meant s (t ∷ []) h in
    let second = All-head Meant t [] (All-tail Meant s (t ∷ []) h) in
    let P : Term → Type 0 = Contains (subterms (App Sub (s ∷ t ∷ []))) in
    let within = args-inside Sub (s ∷ t ∷ []) h in
    subst (λ f. IsLin (App Sub (s ∷ t ∷ [])) f) (sym (form-App Sub (s ∷ t ∷ []))) record {
      normal = IsNormal-plus (form s) (negative (form t)) first.normal;
      constant =
          less-whole (λ f. f.constant) (λ a b. refl) (λ a. refl) (form s) (form t) (lin s).constant
          (lin t).constant first.constant second.constant
          ∙ ap whole (taken (lin s).constant (lin t).constant)
          ∙ ap (λ (L : Lin). whole L.constant) (sym (lin-App Sub (s ∷ t ∷ [])));
      coefficients = λ o.
          less-whole (λ f. coefficient f o) (λ a b. weighted-with_parts (only o) a.parts b.parts)
          (λ a. weighted-negative (only o) a.parts) (form s) (form t) ((lin s).coefficient o)
          ((lin t).coefficient o) (first.coefficients o) (second.coefficients o)
          ∙ ap whole (taken ((lin s).coefficient o) ((lin t).coefficient o))
          ∙ ap (λ (L : Lin). whole (L.coefficient o)) (sym (lin-App Sub (s ∷ t ∷ [])));
      inside = AllTerms-less P (form s) (form t) (All-head (AllParts P) s (t ∷ []) within)
          (All-head (AllParts P) t [] (All-tail (AllParts P) s (t ∷ []) within));
      opaque = AllTerms-less (λ o. form o ≡ opaque_form o) (form s) (form t) first.opaque
          second.opaque;
    }
