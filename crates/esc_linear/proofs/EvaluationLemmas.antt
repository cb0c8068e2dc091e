-- The forms of several terms, one after another, and the answer for each form of term.
use Rattle.std.proofs.Common.{◌≡◌, ℕ, ℤ, Bool, true, false, cond, List, [], ◌∷◌, ◌++◌, map, length, append_assoc, append-nil, Result, Ok, Err, IfOk, refl, sym, ap, subst, subst₂, ◌∙◌}
use Rattle.std.specs.List.{flat_map, fold}
use Rattle.std.proofs.lemmas.List.{length-map}
use Rattle.std.proofs.lemmas.List.Elements.{All-nil}
use Rattle.esc_term.specs.declared.term.Head.{Head}
use Rattle.esc_term.specs.declared.term.Head.TheVariants.{Add, Sub, Mul, Name, Skolem}
use Rattle.esc_term.specs.declared.term.Term.{Term}
use Rattle.esc_term.specs.declared.term.Term.TheVariants.{Num, Var, App}
use Rattle.esc_frac.specs.Rational.{whole}
use Rattle.esc_linear.specs.declared.form.Form.{Form}
use Rattle.esc_linear.specs.declared.form.FormJam.{FormJam}
use Rattle.esc_linear.specs.Forms.{constant_form, opaque_form, applied, form}
use Rattle.esc_linear.specs.Laws.{IsLin}
use Rattle.esc_linear.specs.Steps.{Step, StepFits, AllFit, fold_steps, looks_into, combined_steps, steps, Yields}
use Rattle.esc_linear.proofs.FormLevels.{form-Num, form-Var, form-App, steps-Num, steps-Var, steps-App}
use Rattle.esc_linear.proofs.StepLemmas.{goes_on}

abbrev pub with_form : List Form → Term → List Form
with_form fs t = fs ++ form t ∷ []

abbrev pub own_steps : List Form → Term → List Step
own_steps fs t = steps t

forms-from : (done : List Form) (ts : List Term) → fold with_form done ts ≡ done ++ map form ts
forms-from done [] = sym (append-nil done)
forms-from done (t ∷ ts) = forms-from (with_form done t) ts
    ∙ append_assoc done (form t ∷ []) (map form ts)

pub forms-folded : (ts : List Term) → fold with_form [] ts ≡ map form ts
forms-folded ts = forms-from [] ts

pub steps-folded : (done : List Form) (ts : List Term) → fold_steps with_form own_steps done ts
    ≡ flat_map steps ts
unfolding fold_steps
steps-folded done [] = refl
steps-folded done (t ∷ ts) = ap (λ rest. steps t ++ rest) (steps-folded (with_form done t) ts)

pub pushed : (fs us : List Form) (f : Form) (t : Term) → us ≡ fs ++ f ∷ []
    → Yields (Ok f) (steps t) (form t) → Yields (Ok us) (own_steps fs t) (with_form fs t)
unfolding Yields
pushed fs us f t is answered = (answered.0, is ∙ ap (λ g. fs ++ g ∷ []) answered.1)

-- ---- each form of term

pub numeral : (x : Form) (t : Term) (n : ℤ) → t ≡ Num n → x ≡ constant_form (whole n)
    → Yields (Ok x) (steps t) (form t)
unfolding Yields
numeral x t n is e = (
  subst AllFit (sym (ap steps is ∙ steps-Num n)) (All-nil StepFits),
  e ∙ sym (ap form is ∙ form-Num n),
)

pub variable : (r : Result Form FormJam) (t : Term) (k : ℕ) → t ≡ Var k
    → Yields r [] (opaque_form t) → Yields r (steps t) (form t)
variable r t k is h =
    subst₂ (λ made value. Yields r made value) (sym (ap steps is ∙ steps-Var k)) (ap opaque_form is
    ∙ sym (form-Var k) ∙ ap form (sym is)) h

pub applied-opaque : (head : Head) (other : Form) (fs : List Form) → looks_into head (length fs)
    ≡ false → applied head other fs ≡ other
applied-opaque Add other fs e = absurd (cc)
applied-opaque Mul other fs e = absurd (cc)
applied-opaque Sub other [] e = refl
applied-opaque Sub other (f ∷ []) e = absurd (cc)
applied-opaque Sub other (f ∷ g ∷ []) e = absurd (cc)
applied-opaque Sub other (f ∷ g ∷ h ∷ fs) e = refl
applied-opaque (Name f) other fs e = refl
applied-opaque (Skolem n i) other fs e = refl

looked : (head : Head) (args : List Term) (b : Bool) → b ≡ looks_into head (length args)
    → looks_into head (length (map form args)) ≡ b
looked head args b e = ap (looks_into head) (length-map args form) ∙ sym e

pub not_looked_into : (r : Result Form FormJam) (t : Term) (head : Head) (args : List Term)
    (b : Bool) → t ≡ App head args → b ≡ looks_into head (length args) → b ≡ false
    → Yields r [] (opaque_form t) → Yields r (steps t) (form t)
not_looked_into r t head args b is e outside h =
    let test = looked head args b e ∙ outside in
    subst₂ (λ made value. Yields r made value)
    (sym (ap steps is ∙ steps-App head args ∙ ap (λ s. cond s (flat_map steps args
    ++ combined_steps head (map form args)) []) test))
    (ap opaque_form is ∙ sym (applied-opaque head (opaque_form (App head args)) (map form args)
    test) ∙ sym (form-App head args) ∙ ap form (sym is)) h

pub looked_into : (r : Result Form FormJam) (t : Term) (head : Head) (args : List Term) (b : Bool)
    → t ≡ App head args → b ≡ looks_into head (length args) → b ≡ true
    → Yields r (flat_map steps args ++ combined_steps head (map form args))
    (applied head (opaque_form t) (map form args)) → Yields r (steps t) (form t)
looked_into r t head args b is e yes_it_does h =
    let test = looked head args b e ∙ yes_it_does in
    subst₂ (λ made value. Yields r made value)
    (sym (ap steps is ∙ steps-App head args ∙ ap (λ s. cond s (flat_map steps args
    ++ combined_steps head (map form args)) []) test))
    (ap (λ u. applied head (opaque_form u) (map form args)) is ∙ sym (form-App head args)
    ∙ ap form (sym is)) h

-- by the answers of the arguments and of what combines them
pub all_combined : (r : Result Form FormJam) (t : Term) (head : Head) (args : List Term)
    (fs : List Form) (b : Bool) → t ≡ App head args → b ≡ looks_into head (length args) → b ≡ true
    → Yields (Ok fs) (flat_map steps args) (map form args)
    → Yields r (combined_steps head fs) (applied head (opaque_form t) fs)
    → Yields r (steps t) (form t)
unfolding Yields
all_combined r t head args fs b is e yes_it_does inside h =
    looked_into r t head args b is e yes_it_does
    (goes_on r (flat_map steps args) _ _ inside.0 (subst
    (λ gs. Yields r (combined_steps head gs) (applied head (opaque_form t) gs)) inside.1 h))

-- an answer is the linear meaning
pub linear_answer : (r : Result Form FormJam) (t : Term) → Yields r (steps t) (form t)
    → IsLin t (form t) → IfOk r (IsLin t)
unfolding Yields
linear_answer (Ok f) t answered l = subst (IsLin t) (sym answered.1) l
linear_answer (Err e) t answered l = tt
