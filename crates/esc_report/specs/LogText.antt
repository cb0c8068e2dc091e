-- The text of the facts by which a goal is valid.
use Rattle.std.specs.Prelude.{ℕ, ◌+◌, List, [], ◌∷◌, ◌++◌, codes, decimal}
use Rattle.std.specs.List.{flat_map}
use Rattle.esc_term.specs.declared.term.Term.{Term}
use Rattle.esc_term.specs.declared.formula.Formula.{Formula}
use Rattle.esc_fact.specs.declared.fact.Fact.{Fact}
use Rattle.esc_fact.specs.declared.fact.Fact.TheVariants as fact
use Rattle.esc_print.specs.Formulas.{formula_text}
use Rattle.esc_print.specs.Terms.{blank, closing, term_text}
use Rattle.esc_report.specs.Listed.{terms_text}

unfoldable pub log_opening : List ℕ
log_opening = codes "Facts:\n"

-- a word and a number
abbrev pub numbered_text : List ℕ → ℕ → List ℕ
numbered_text word number = word ++ decimal number

-- a term behind a blank
abbrev pub next_term_text : List (List ℕ) → Term → List ℕ
next_term_text names t = blank ++ term_text names 0 t

-- three terms behind a word
abbrev pub three_terms_text : List (List ℕ) → List ℕ → Term → Term → Term → List ℕ
three_terms_text names word m i x =
    word ++ (term_text names 0 m ++ (next_term_text names i ++ next_term_text names x))

-- how the fact is drawn
abbrev pub fact_text : List (List ℕ) → Fact → List ℕ
fact_text names (fact.Given k) = numbered_text (codes "given ") k
fact_text names fact.NegGoal = codes "goal"
fact_text names (fact.Inst number outer terms) =
    codes "instance " ++ (decimal number ++ (blank ++ (terms_text names outer
    ++ (blank ++ terms_text names terms))))
fact_text names (fact.Skolem number outer) =
    codes "skolem " ++ (decimal number ++ (blank ++ terms_text names outer))
fact_text names (fact.Map1 m i x) = three_terms_text names (codes "map1 (") m i x ++ closing
fact_text names (fact.Map2 m i x j) =
    three_terms_text names (codes "map2 (") m i x ++ (next_term_text names j ++ closing)

-- a fact at its place in the log, with its formula
pub record Entry : Type 0 where
  pub place : ℕ
  pub fact : Fact
  pub formula : Formula

abbrev pub entry : ℕ → Fact → Formula → Entry
entry place fact formula = record { place = place; fact = fact; formula = formula }

-- those from a place on
abbrev pub entries_from : ℕ → List Fact → List Formula → List Entry
entries_from place [] formulas = []
entries_from place (fact ∷ facts) [] = []
entries_from place (fact ∷ facts) (formula ∷ formulas) =
    entry place fact formula ∷ entries_from (place + 1) facts formulas

unfoldable pub margin : List ℕ
margin = codes "  "

-- the formula of a fact, to the end of its line
unfoldable pub formula_end : List (List ℕ) → Formula → List ℕ
formula_end names f = codes ": " ++ (formula_text names f ++ codes "\n")

unfoldable pub entry_text : List (List ℕ) → Entry → List ℕ
entry_text names e =
    margin ++ (decimal e.place ++ (blank ++ (fact_text names e.fact
    ++ formula_end names e.formula)))

-- each fact on a line of its own, at its place from 0
abbrev pub entries_text : List (List ℕ) → List Fact → List Formula → List ℕ
entries_text names facts formulas = flat_map (entry_text names) (entries_from 0 facts formulas)

abbrev pub log_text : List (List ℕ) → List Fact → List Formula → List ℕ
log_text names facts formulas = log_opening ++ entries_text names facts formulas
