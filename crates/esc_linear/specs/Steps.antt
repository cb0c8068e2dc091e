-- The calculation of a form, step by step: each addition and each multiplication of two fractions
-- that it makes, in their order.
use Rattle.std.specs.Prelude.{◌≡◌, ℕ, ◌==◌, Bool, true, false, ◌||◌, nat_lt, if◌then◌else◌, List, [], ◌∷◌, ◌++◌, map, length, Result, Ok, Err}
use Rattle.std.specs.List.{All, flat_map}
use Rattle.esc_term.specs.declared.term.Head.{Head}
use Rattle.esc_term.specs.declared.term.Head.TheVariants.{Add, Sub, Mul}
use Rattle.esc_term.specs.declared.term.Term.{Term}
use Rattle.esc_term.specs.declared.term.Term.TheOpen.{Term-F}
use Rattle.esc_term.specs.declared.term.Term.TheFolds.{para-Term}
use Rattle.esc_term.specs.Equal.{same_term}
use Rattle.esc_frac.specs.Fits.{SumFits, ProductFits}
use Rattle.esc_frac.specs.Rational.{ℚ, zero_ℚ, one_ℚ}
use Rattle.esc_linear.specs.declared.form.Form.{Form}
use Rattle.esc_linear.specs.declared.form.FormJam.{FormJam}
use Rattle.esc_linear.specs.declared.form.FormJam.TheVariants.{Spill, Memory}
use Rattle.esc_linear.specs.declared.form.Part.{Part}
use Rattle.esc_linear.specs.Forms.{constant_form, with_one, plus, negative, is_constant, with_constant, varying, factor_of, form}

pub data Step : Type 0 where
  adds : (p q : ℚ) → Step
  multiplies : (p q : ℚ) → Step

-- each number of the step is in range
unfoldable pub StepFits : Step → Type 0
StepFits (adds p q) = SumFits p q
StepFits (multiplies p q) = ProductFits p q

abbrev pub AllFit : List Step → Type 0
AllFit = All StepFits

-- those of a fold: of each item in turn, at what the items before it gave
unfoldable pub fold_steps : {S X : Type 0} → (S → X → S) → (S → X → List Step) → S → List X
    → List Step
fold_steps step own s [] = []
fold_steps step own s (x ∷ xs) = own s x ++ fold_steps step own (step s x) xs

-- ---- sums and differences

-- adding q times the term: one addition, where the term is there
unfoldable pub part_steps : List Part → Term → ℚ → List Step
part_steps [] t q = []
part_steps (p ∷ ps) t q = if same_term p.term t then adds p.factor q ∷ [] else part_steps ps t q

abbrev pub parts_steps : List Part → List Part → List Step
parts_steps = fold_steps with_one (λ ps (q : Part). part_steps ps q.term q.factor)

-- the coefficients, and then the constants
abbrev pub plus_steps : Form → Form → List Step
plus_steps a b = parts_steps a.parts b.parts ++ adds a.constant b.constant ∷ []

-- to subtract is to add the negative
abbrev pub less_steps : Form → Form → List Step
less_steps a b = plus_steps a (negative b)

abbrev pub total_steps : List Form → List Step
total_steps = fold_steps plus plus_steps (constant_form zero_ℚ)

-- ---- products

abbrev pub constant_steps : ℚ → Form → List Step
constant_steps q f = if is_constant f.parts then multiplies q f.constant ∷ [] else []

abbrev pub factor_steps : List Form → List Step
factor_steps = fold_steps with_constant constant_steps one_ℚ

abbrev pub scaled_part_steps : List Part → ℚ → List Step
scaled_part_steps ps q = map (λ (p : Part). multiplies p.factor q) ps

-- the coefficients, and then the constant
abbrev pub scaled_steps : Form → ℚ → List Step
scaled_steps f q = scaled_part_steps f.parts q ++ multiplies f.constant q ∷ []

unfoldable pub scaled_first_steps : List Form → ℚ → List Step
scaled_first_steps [] q = []
scaled_first_steps (f ∷ fs) q = scaled_steps f q

-- an opaque product takes no steps of its own
abbrev pub times_steps : List Form → List Step
times_steps fs = if nat_lt (length (varying fs)) 2 then factor_steps fs
    ++ scaled_first_steps (varying fs) (factor_of fs) else []

-- ---- the form of a term

-- whether arithmetic looks into an application of this head to so many arguments
abbrev pub looks_into : Head → ℕ → Bool
looks_into Add count = true
looks_into Sub count = (count == 1) || (count == 2)
looks_into Mul count = true
looks_into head count = false

abbrev pub combined_steps : Head → List Form → List Step
combined_steps Add fs = total_steps fs
combined_steps Sub (f ∷ []) = less_steps (constant_form zero_ℚ) f
combined_steps Sub (f ∷ g ∷ []) = less_steps f g
combined_steps Mul fs = times_steps fs
combined_steps head fs = []

-- those of an application: first those of its arguments, which are given with their forms
abbrev pub applied_steps : Head → List Step → List Form → List Step
applied_steps head inside fs = if looks_into head (length fs) then inside
    ++ combined_steps head fs else []

abbrev pub steps_step : Term-F (Term × List Step) → List Step
steps_step (Term-F.Num n) = []
steps_step (Term-F.Var k) = []
steps_step (Term-F.App head args) = applied_steps head (flat_map (λ arg. arg.1) args)
    (map (λ arg. form arg.0) args)

unfoldable pub steps : Term → List Step
steps = para-Term (List Step) steps_step

-- ---- what a call answers

-- the value where all steps fit; a spill only where one does not
unfoldable pub Yields : {A : Type 0} → Result A FormJam → List Step → A → Type 0
Yields (Ok x) made value = AllFit made × (x ≡ value)
Yields (Err Spill) made value = ¬ (AllFit made)
Yields (Err Memory) made value = Unit
