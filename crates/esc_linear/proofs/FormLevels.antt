-- The form of a term and the steps to it, at each form of term.
use Rattle.std.proofs.Common.{◌≡◌, ℕ, ℤ, List, [], ◌∷◌, map, refl, ap, ap₂, ◌∙◌}
use Rattle.std.specs.List.{flat_map}
use Rattle.esc_term.specs.declared.term.Head.{Head}
use Rattle.esc_term.specs.declared.term.Term.{Term}
use Rattle.esc_term.specs.declared.term.Term.TheVariants.{Num, Var, App}
use Rattle.esc_term.specs.declared.term.Term.TheOpen.{Term-F}
use denote.Hole.Carrier.{roll}
use Rattle.esc_term.specs.declared.term.Term.TheViews.{roll-Term}
use Rattle.esc_term.specs.declared.term.Term.TheFolds.{para-roll-Term}
use Rattle.esc_term.proofs.Pairs.{flat_map-pairs, first-pairs}
use Rattle.esc_frac.specs.Rational.{whole}
use Rattle.esc_linear.specs.declared.form.Form.{Form}
use Rattle.esc_linear.specs.Forms.{constant_form, opaque_form, applied, form_step, form}
use Rattle.esc_linear.specs.Steps.{Step, applied_steps, steps_step, steps}

pub map-pairs : {X A B : Type 0} (f : X → A) (g : X → B) (xs : List X)
    → map (λ (p : X × A). g p.0) (map (λ x. (x, f x)) xs) ≡ map g xs
map-pairs f g [] = refl
map-pairs f g (x ∷ xs) = ap (λ ys. g x ∷ ys) (map-pairs f g xs)

pub second-pairs : {X A : Type 0} (f : X → A) (xs : List X)
    → map (λ (p : X × A). p.1) (map (λ x. (x, f x)) xs) ≡ map f xs
second-pairs f [] = refl
second-pairs f (x ∷ xs) = ap (λ ys. f x ∷ ys) (second-pairs f xs)

pub form-Num : (n : ℤ) → form (Num n) ≡ constant_form (whole n)
unfolding form roll-Term roll
form-Num n = para-roll-Term Form form_step (Term-F.Num n)

pub form-Var : (k : ℕ) → form (Var k) ≡ opaque_form (Var k)
unfolding form roll-Term roll
form-Var k = para-roll-Term Form form_step (Term-F.Var k)

pub form-App : (head : Head) (args : List Term) → form (App head args)
    ≡ applied head (opaque_form (App head args)) (map form args)
unfolding form roll-Term roll
form-App head args =
    para-roll-Term Form form_step (Term-F.App head args)
    ∙ ap₂ (λ ts fs. applied head (opaque_form (App head ts)) fs) (first-pairs form args)
    (second-pairs form args)

pub steps-Num : (n : ℤ) → steps (Num n) ≡ []
unfolding steps roll-Term roll
steps-Num n = para-roll-Term (List Step) steps_step (Term-F.Num n)

pub steps-Var : (k : ℕ) → steps (Var k) ≡ []
unfolding steps roll-Term roll
steps-Var k = para-roll-Term (List Step) steps_step (Term-F.Var k)

pub steps-App : (head : Head) (args : List Term) → steps (App head args)
    ≡ applied_steps head (flat_map steps args) (map form args)
unfolding steps roll-Term roll
steps-App head args =
    para-roll-Term (List Step) steps_step (Term-F.App head args)
    ∙ ap₂ (applied_steps head) (flat_map-pairs steps args) (map-pairs steps form args)
