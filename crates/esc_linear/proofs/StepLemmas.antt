-- Answers of a call whose steps are those of one part and then those of the rest.
use Rattle.std.proofs.Common.{◌≡◌, List, [], ◌∷◌, ◌++◌, Result, Ok, Err, refl}
use Rattle.std.specs.Result.{IsErrAnd}
use Rattle.std.proofs.lemmas.List.Elements.{All-nil, All-cons, All-head, All-tail, All-append}
use Rattle.esc_linear.specs.declared.form.FormJam.{FormJam}
use Rattle.esc_linear.specs.declared.form.FormJam.TheVariants.{Spill, Memory}
use Rattle.esc_linear.specs.Steps.{Step, StepFits, AllFit, Yields}

pub AllFit-front : (xs ys : List Step) → AllFit (xs ++ ys) → AllFit xs
AllFit-front [] ys h = All-nil StepFits
AllFit-front (x ∷ xs) ys h = All-cons StepFits x xs (All-head StepFits x (xs ++ ys) h)
    (AllFit-front xs ys (All-tail StepFits x (xs ++ ys) h))

pub AllFit-back : (xs ys : List Step) → AllFit (xs ++ ys) → AllFit ys
AllFit-back [] ys h = h
AllFit-back (x ∷ xs) ys h = AllFit-back xs ys (All-tail StepFits x (xs ++ ys) h)

pub AllFit-one : (x : Step) → StepFits x → AllFit (x ∷ [])
AllFit-one x h = All-cons StepFits x [] h (All-nil StepFits)

-- the rest answers, where the first steps fit
pub goes_on : {A : Type 0} (r : Result A FormJam) (xs ys : List Step) (v : A) → AllFit xs
    → Yields r ys v → Yields r (xs ++ ys) v
unfolding Yields
goes_on (Ok x) xs ys v h k = (All-append StepFits xs ys h k.0, k.1)
goes_on (Err Spill) xs ys v h k = λ all. k (AllFit-back xs ys all)
goes_on (Err Memory) xs ys v h k = tt

-- memory may always be lacking
pub no_memory : {A : Type 0} (r : Result A FormJam) (xs : List Step) (v : A)
    → IsErrAnd r (λ e. e ≡ Memory) → Yields r xs v
unfolding Yields
no_memory (Ok x) xs v h = absurd h
no_memory (Err Spill) xs v h = absurd (cc)
no_memory (Err Memory) xs v h = tt

-- a step that does not fit
pub spilled : {A : Type 0} (r : Result A FormJam) (xs : List Step) (v : A)
    → IsErrAnd r (λ e. e ≡ Spill) → ¬ (AllFit xs) → Yields r xs v
unfolding Yields
spilled (Ok x) xs v h k = absurd h
spilled (Err Spill) xs v h k = k
spilled (Err Memory) xs v h k = absurd (cc)

-- what stopped the first steps stops the whole
pub handed_on : {A B : Type 0} (r : Result A FormJam) (s : Result B FormJam) (e : FormJam)
    (xs ys : List Step) (v : A) (w : B) → IsErrAnd r (λ f. f ≡ e) → s ≡ Err e → Yields s xs w
    → Yields r (xs ++ ys) v
unfolding Yields
handed_on r (Ok y) e xs ys v w h is k = absurd (cc)
handed_on (Ok x) (Err f) e xs ys v w h is k = absurd h
handed_on (Err Spill) (Err Spill) e xs ys v w h is k = λ all. k (AllFit-front xs ys all)
handed_on (Err Memory) (Err Spill) e xs ys v w h is k = absurd (cc)
handed_on (Err Spill) (Err Memory) e xs ys v w h is k = absurd (cc)
handed_on (Err Memory) (Err Memory) e xs ys v w h is k = tt

-- nothing is left to do
pub ends : {A : Type 0} (x : A) → Yields (Ok x) [] x
unfolding Yields
ends x = (All-nil StepFits, refl)

pub ruleset answering = (no_memory, spilled)
