-- How terms are printed. A depth is the number of variables that are bound outside.
use Rattle.std.specs.Prelude.{ℕ, ◌+◌, ◌-◌, ◌^◌, min, if◌then◌else◌, nat_eq, nat_lt}
use Rattle.std.specs.Prelude.{List, ◌++◌, codes, decimal, length}
use Rattle.std.specs.Fmt.{signed_decimal}
use Rattle.std.specs.List.{flat_map}
use Rattle.esc_term.specs.declared.term.Head.{Head}
use Rattle.esc_term.specs.declared.term.Head.TheVariants as head
use Rattle.esc_term.specs.declared.term.Term.{Term}
use Rattle.esc_term.specs.declared.term.Term.TheOpen.{Term-F}
use Rattle.esc_term.specs.declared.term.Term.TheFolds.{fold-Term}
use Rattle.esc_print.specs.Names.{name_text}

unfoldable pub blank : List ℕ
blank = codes " "

unfoldable pub opening : List ℕ
opening = codes "("

unfoldable pub closing : List ℕ
closing = codes ")"

-- each text after a blank
unfoldable pub spaced : {X : Type 0} → (X → List ℕ) → List X → List ℕ
spaced text xs = flat_map (λ x. blank ++ text x) xs

-- the depth under so many more variables. It is counted up to 2 ^ 128 - 1, far past the depths
-- whose variables have a number that is printed.
abbrev pub deeper : ℕ → ℕ → ℕ
deeper depth count = min (depth + count) (2 ^ 128 - 1)

-- the variable that is bound at a depth, by that number where it is below 2 ^ 64
abbrev pub bound_text : ℕ → List ℕ
bound_text depth = if nat_lt depth (2 ^ 64) then codes "@v." ++ decimal depth else codes "@v"

-- a variable by its place from the inside, which is bound nowhere where the depth is not above it
abbrev pub variable_text : ℕ → ℕ → List ℕ
variable_text depth place =
    if nat_lt place depth then bound_text (depth - 1 - place) else codes "@v"

abbrev pub head_text : List (List ℕ) → Head → List ℕ
head_text names (head.Name name) = name_text names name
head_text names (head.Skolem number index) =
    codes "@sk." ++ (decimal number ++ (codes "." ++ decimal index))
head_text names head.Add = codes "+"
head_text names head.Sub = codes "-"
head_text names head.Mul = codes "*"

-- a head before arguments that are printed as the function says
abbrev pub applied_text : {X : Type 0} → List ℕ → (X → List ℕ) → List X → List ℕ
applied_text head text args =
    if nat_eq (length args) 0 then head else opening ++ (head ++ (spaced text args ++ closing))

-- one level, where each argument is its text
abbrev pub term_step : List (List ℕ) → ℕ → Term-F (List ℕ) → List ℕ
term_step names depth (Term-F.Num n) = signed_decimal n
term_step names depth (Term-F.Var place) = variable_text depth place
term_step names depth (Term-F.App head args) = applied_text (head_text names head) (λ arg. arg) args

unfoldable pub term_text : List (List ℕ) → ℕ → Term → List ℕ
term_text names depth = fold-Term (List ℕ) (term_step names depth)
