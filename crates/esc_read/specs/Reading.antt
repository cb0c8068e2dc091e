-- What reading gives, by the variables in scope and the numbers of the names: a value, or the first
-- refusal.
use Rattle.std.specs.Prelude.{◌≡◌, ℕ, Bool, if◌then◌else◌, List, [], ◌∷◌, ◌++◌, length, Option}
use Rattle.std.specs.Prelude.{Some, slice_get, Result, Ok, Err, IfOk, OnOk}
use Rattle.std.specs.List.{position}
use Rattle.std.specs.Str.{bytes_eq}
use Rattle.esc_term.specs.declared.term.Sym.{Sym}
use Rattle.esc_read.specs.declared.fault.FormKind.{FormKind}
use Rattle.esc_read.specs.declared.fault.FormKind.TheVariants.{WrongCount}
use Rattle.esc_read.specs.declared.fault.FormFault.{FormFault}
use Rattle.esc_read.specs.declared.fault.FormStop.{FormStop}
use Rattle.esc_read.specs.declared.fault.FormStop.TheVariants.{Fault, Memory}

-- a number for each spelling
abbrev pub Numbering : Type 0
Numbering = List ℕ → ℕ

-- the spellings of variables, the innermost first
abbrev pub Variables : Type 0
Variables = List (List ℕ)

abbrev pub Outcome : Type 0 → Type 0
Outcome A = Result A FormFault

-- what is read where these variables are in scope
abbrev pub Reading : Type 0 → Type 0
Reading A = Variables → Numbering → Outcome A

-- ---- readings

unfoldable pub give : {A : Type 0} → A → Reading A
give a scope number = Ok a

unfoldable pub refuse : {A : Type 0} → FormKind → ℕ → Reading A
refuse kind place scope number = Err (record { kind = kind; place = place })

-- the number of a name
unfoldable pub name_number : List ℕ → Reading Sym
name_number text scope number = Ok (record { 0 = number text })

-- how many variables stand inside the innermost of this name
unfoldable pub depth_of : List ℕ → Reading (Option ℕ)
depth_of text scope number = Ok (position (bytes_eq text) scope)

-- with these variables inside those in scope
unfoldable pub within : {A : Type 0} → Variables → Reading A → Reading A
within own reading scope number = reading (own ++ scope) number

abbrev pub and_then : {A B : Type 0} → Outcome A → (A → Outcome B) → Outcome B
and_then (Ok a) next = next a
and_then (Err fault) next = Err fault

-- one after another, up to the first refusal
infixl 10 ◌>>=◌
unfoldable pub ◌>>=◌ : {A B : Type 0} → Reading A → (A → Reading B) → Reading B
◌>>=◌ first next scope number = and_then (first scope number) (λ a. next a scope number)

infixr 11 ◌<$>◌
abbrev pub ◌<$>◌ : {A B : Type 0} → (A → B) → Reading A → Reading B
f <$> reading = reading >>= (λ a. give (f a))

-- those of a list, from the front
abbrev pub each : {A : Type 0} → List (Reading A) → Reading (List A)
each [] = give []
each (r ∷ rs) = do
  a ← r
  rest ← each rs
  give (a ∷ rest)

-- a list at this place that must have a right count of arguments
abbrev pub counted : {A : Type 0} → Bool → ℕ → Reading A → Reading A
counted right place reading = if right then reading else refuse WrongCount place

-- ---- what a call says that reads

-- the numbering gives each name of the table its place
abbrev pub Numbers : List (List ℕ) → Numbering → Type 0
Numbers names number = (i : ℕ) (text : List ℕ) → slice_get names i ≡ Some text → number text ≡ i

-- the table has grown at its end alone
pub record Extends (before after : List (List ℕ)) : Type 0 where
  pub more : List (List ℕ)
  pub is : after ≡ before ++ more

-- the value and the refusal are those of the outcome; want of memory says nothing
abbrev pub Tells : {A : Type 0} → Outcome A → Result A FormStop → Type 0
Tells outcome (Ok a) = outcome ≡ Ok a
Tells outcome (Err (Fault fault)) = outcome ≡ Err fault
Tells outcome (Err Memory) = Unit {0}

-- the names were numbered by a table that grew, and by the numbers of that table the outcome is
-- this
pub record ReadsBy {A : Type 0} (before after : List (List ℕ)) (result : Result A FormStop)
    (outcome : Numbering → Outcome A) : Type 0 where
  pub grown : Extends before after
  pub told : (number : Numbering) → Numbers after number → Tells (outcome number) result

-- ---- what a call of a reader says

-- the names that have numbers, and the variables in scope
pub record Context : Type 0 where
  pub names : List (List ℕ)
  pub scope : Variables

-- the reading of the variables in scope, which are the same again behind a value
pub record ReadsIn {A : Type 0} (before after : Context) (result : Result A FormStop)
    (reading : Reading A) : Type 0 where
  pub reads : ReadsBy before.names after.names result (reading before.scope)
  pub kept : OnOk result (after.scope ≡ before.scope)

-- a reading that looks at no name and no variable
pub record Plain {A : Type 0} (result : Result A FormStop) (reading : Reading A) : Type 0 where
  pub told : (scope : Variables) (number : Numbering) → Tells (reading scope number) result

-- the result with these variables in place of their count
abbrev pub counting : Variables → Result ℕ FormStop → Result Variables FormStop
counting own (Ok count) = Ok own
counting own (Err stop) = Err stop

-- the variables that are read are in scope, inside those before; the result counts them
pub record Declares (before after : Context) (result : Result ℕ FormStop)
    (reading : Reading Variables) : Type 0 where
  pub own : Variables
  pub count : IfOk result (λ n. n ≡ length own)
  pub same : after.names ≡ before.names
  pub inside : OnOk result (after.scope ≡ own ++ before.scope)
  pub told : Plain (counting own result) reading
