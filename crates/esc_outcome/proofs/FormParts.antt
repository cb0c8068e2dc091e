-- What the form of a term is made of: the term, or what stands in its sums, differences and
-- products.
use Rattle.std.proofs.Common.{◌≡◌, Bool, true, false, cond, nat_lt, List, [], ◌∷◌, map, length, sym}
use Rattle.std.proofs.Common.{subst}
use Rattle.std.specs.List.{All, fold}
use Rattle.std.proofs.lemmas.List.Elements.{All-cons, All-head, All-nil, All-tail}
use denote.Hole.Carrier.{roll}
use Rattle.esc_term.specs.declared.term.Head.{Head}
use Rattle.esc_term.specs.declared.term.Head.TheVariants.{Add, Sub, Mul, Name, Skolem}
use Rattle.esc_term.specs.declared.term.Term.{Term}
use Rattle.esc_term.specs.declared.term.Term.TheVariants.{Num, Var, App}
use Rattle.esc_term.specs.declared.term.Term.TheOpen.{Term-F}
use Rattle.esc_term.specs.declared.term.Term.TheViews.{roll-Term}
use Rattle.esc_term.specs.declared.term.Term.TheFolds.{map-Term, ind-Term}
use Rattle.esc_frac.specs.Rational.{whole, zero_ℚ, one_ℚ}
use Rattle.esc_linear.specs.declared.form.Form.{Form}
use Rattle.esc_linear.specs.declared.form.Part.{Part}
use Rattle.esc_linear.specs.Forms.{constant_form, factor_of, form, opaque_form, part, plus}
use Rattle.esc_linear.specs.Forms.{scaled_first, varying}
use Rattle.esc_linear.proofs.AllLemmas.{all_of_pairs}
use Rattle.esc_linear.proofs.FormLevels.{form-App, form-Num, form-Var}
use Rattle.esc_linear.proofs.LinLaw.{AllParts, AllTerms-first, AllTerms-none}
use Rattle.esc_linear.proofs.PartLemmas.{AllTerms, AllTerms-negative, AllTerms-with_parts}
use Rattle.esc_linear.proofs.PartLemmas.{negative_part}

-- with a sum, a difference or a product, what it is made of
pub record HasOperands (P : Term → Type 0) : Type 0 where
  pub sum : (ts : List Term) → P (App Add ts) → All P ts
  pub difference : (ts : List Term) → P (App Sub ts) → All P ts
  pub product : (ts : List Term) → P (App Mul ts) → All P ts

module _ (P : Term → Type 0) (operands : HasOperands P) where
  abbrev Within : Term → Type 0
  Within t = P t → AllParts P t

  args_within : (ts : List Term) → All Within ts → All P ts → All (AllParts P) ts
  args_within [] h k = All-nil (AllParts P)
  args_within (t ∷ ts) h k =
      All-cons (AllParts P) t ts (All-head Within t ts h (All-head P t ts k))
      (args_within ts (All-tail Within t ts h) (All-tail P t ts k))

  of_form : (t : Term) (f : Form) → form t ≡ f → AllTerms P f.parts → AllParts P t
  of_form t f e h = subst (λ (g : Form). AllTerms P g.parts) (sym e) h

  opaque_within : (t : Term) → form t ≡ opaque_form t → P t → AllParts P t
  opaque_within t e h =
      of_form t (opaque_form t) e
      (All-cons (λ (p : Part). P p.term) (part t one_ℚ) [] h (AllTerms-none P))

  total_within : (c : Form) (ts : List Term) → AllTerms P c.parts → All (AllParts P) ts
      → AllTerms P (fold plus c (map form ts)).parts
  total_within c [] all h = all
  total_within c (t ∷ ts) all h =
      total_within (plus c (form t)) ts
      (AllTerms-with_parts P c.parts (form t).parts all (All-head (AllParts P) t ts h))
      (All-tail (AllParts P) t ts h)

  negative_within : (t : Term) → AllParts P t → AllTerms P (map negative_part (form t).parts)
  negative_within t h = AllTerms-negative P (form t).parts h

  difference_within : (ts : List Term) → All (AllParts P) ts → P (App Sub ts)
      → AllParts P (App Sub ts)
  difference_within [] h is = opaque_within (App Sub []) (form-App Sub []) is
  difference_within (s ∷ []) h is =
      of_form (App Sub (s ∷ [])) _ (form-App Sub (s ∷ []))
      (AllTerms-with_parts P [] _ (AllTerms-none P)
      (negative_within s (All-head (AllParts P) s [] h)))
  difference_within (s ∷ t ∷ []) h is =
      of_form (App Sub (s ∷ t ∷ [])) _ (form-App Sub (s ∷ t ∷ []))
      (AllTerms-with_parts P (form s).parts _ (All-head (AllParts P) s (t ∷ []) h)
      (negative_within t (All-head (AllParts P) t [] (All-tail (AllParts P) s (t ∷ []) h))))
  difference_within (s ∷ t ∷ u ∷ us) h is =
      opaque_within (App Sub (s ∷ t ∷ u ∷ us)) (form-App Sub (s ∷ t ∷ u ∷ us)) is

  product_within : (ts : List Term) → All (AllParts P) ts → P (App Mul ts)
      → AllParts P (App Mul ts)
  product_within ts h is =
      of_form (App Mul ts) _ (form-App Mul ts) (go (nat_lt (length (varying (map form ts))) 2))
    where
      go : (b : Bool) → AllTerms P (cond b (scaled_first (varying (map form ts))
          (factor_of (map form ts))) (opaque_form (App Mul ts))).parts
      go true = AllTerms-first P (factor_of (map form ts)) ts h
      go false = All-cons (λ (p : Part). P p.term) (part (App Mul ts) one_ℚ) [] is
          (AllTerms-none P)

  App_within : (head : Head) (ts : List Term) → All Within ts → Within (App head ts)
  App_within Add ts h is =
      of_form (App Add ts) _ (form-App Add ts)
      (total_within (constant_form zero_ℚ) ts (AllTerms-none P)
      (args_within ts h (operands.sum ts is)))
  App_within Sub ts h is = difference_within ts (args_within ts h (operands.difference ts is)) is
  App_within Mul ts h is = product_within ts (args_within ts h (operands.product ts is)) is
  App_within (Name f) ts h is = opaque_within (App (Name f) ts) (form-App (Name f) ts) is
  App_within (Skolem n i) ts h is =
      opaque_within (App (Skolem n i) ts) (form-App (Skolem n i) ts) is

  within_at : (y : Term-F ((t : Term) × Within t))
      → Within (roll-Term (map-Term ((t : Term) × Within t) Term (λ e. e.0) y))
  unfolding roll-Term roll
  within_at (Term-F.Num n) is =
      of_form (Num n) (constant_form (whole n)) (form-Num n) (AllTerms-none P)
  within_at (Term-F.Var k) is = opaque_within (Var k) (form-Var k) is
  within_at (Term-F.App head es) is =
      App_within head (map (λ e. e.0) es) (all_of_pairs Within es) is

  -- the form of such a term is made of such terms
  pub parts_within : (t : Term) → P t → AllParts P t
  parts_within = ind-Term Within (λ x y is. subst (λ z. Within (roll-Term z)) is (within_at y))
