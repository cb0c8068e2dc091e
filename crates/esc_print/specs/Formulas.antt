-- How formulas are printed, each at the depth where it stands, and as it is or denied.
use Rattle.std.specs.Prelude.{ℕ, zero, suc, Bool, true, false, not, if◌then◌else◌, nat_eq}
use Rattle.std.specs.Prelude.{List, [], ◌∷◌, ◌++◌, codes, length}
use Rattle.esc_term.specs.declared.term.Sym.{Sym}
use Rattle.esc_term.specs.declared.term.Term.{Term}
use Rattle.esc_term.specs.declared.formula.Formula.{Formula}
use Rattle.esc_term.specs.declared.formula.Formula.TheOpen.{Formula-F, Quant-F}
use Rattle.esc_term.specs.declared.formula.Formula.TheFolds.{fold-Formula, fold-Quant}
use Rattle.esc_term.specs.declared.formula.Item.{Item}
use Rattle.esc_term.specs.declared.formula.Quant.{Quant}
use Rattle.esc_print.specs.Names.{name_text}
use Rattle.esc_print.specs.Terms.{blank, bound_text, closing, deeper, spaced, term_text}

-- the variables of a quantifier, from the outermost, with single blanks between them
unfoldable pub variables_text : ℕ → ℕ → List ℕ
variables_text depth zero = []
variables_text depth (suc zero) = bound_text depth
variables_text depth (suc (suc n)) =
    variables_text depth (suc n) ++ (blank ++ bound_text (deeper depth (suc n)))

-- a list behind its word, or nothing where it is empty
abbrev pub note_text : {X : Type 0} → List ℕ → (X → List ℕ) → List X → List ℕ
note_text word text xs = if nat_eq (length xs) 0 then [] else word ++ (spaced text xs ++ closing)

-- two texts behind a word
abbrev pub both_text : List ℕ → List ℕ → List ℕ → List ℕ
both_text word left right = word ++ ((blank ++ left) ++ ((blank ++ right) ++ closing))

module _ (names : List (List ℕ)) where
  abbrev pub pair_text : List ℕ → ℕ → Term → Term → List ℕ
  pair_text word depth left right =
      both_text word (term_text names depth left) (term_text names depth right)

  -- a pattern of one term is that term
  unfoldable pub pattern_text : ℕ → List Term → List ℕ
  pattern_text depth (term ∷ []) = term_text names depth term
  pattern_text depth terms = codes "(MPAT" ++ (spaced (term_text names depth) terms ++ closing)

  -- what follows the variables of a quantifier, at the depth inside it
  abbrev pub inside_text : ℕ → List (List Term) → List Term → List ℕ → List ℕ
  inside_text depth patterns exempt body =
      note_text (codes " (PATS") (pattern_text depth) patterns
      ++ (note_text (codes " (NOPATS") (term_text names depth) exempt
      ++ ((blank ++ body) ++ closing))

  -- one level, where each part is its text at a depth, as it is (false) or denied (true)
  abbrev pub plain_step : Formula-F (ℕ → Bool → List ℕ) (ℕ → List ℕ) → ℕ → List ℕ
  plain_step Formula-F.True depth = codes "TRUE"
  plain_step Formula-F.False depth = codes "FALSE"
  plain_step (Formula-F.And parts) depth =
      codes "(AND" ++ (spaced (λ part. part depth false) parts ++ closing)
  plain_step (Formula-F.Or parts) depth =
      codes "(OR" ++ (spaced (λ part. part depth false) parts ++ closing)
  plain_step (Formula-F.Not part) depth = part depth true
  plain_step (Formula-F.Implies left right) depth =
      both_text (codes "(IMPLIES") (left depth false) (right depth false)
  plain_step (Formula-F.Iff left right) depth =
      both_text (codes "(IFF") (left depth false) (right depth false)
  plain_step (Formula-F.Forall quant) depth = codes "(FORALL (" ++ quant depth
  plain_step (Formula-F.Exists quant) depth = codes "(EXISTS (" ++ quant depth
  plain_step (Formula-F.Eq left right) depth = pair_text (codes "(EQ") depth left right
  plain_step (Formula-F.Less left right) depth = pair_text (codes "(<") depth left right
  plain_step (Formula-F.Distinct terms) depth =
      codes "(DISTINCT" ++ (spaced (term_text names depth) terms ++ closing)
  plain_step (Formula-F.LabelPos name part) depth =
      both_text (codes "(LBLPOS") (name_text names name) (part depth false)
  plain_step (Formula-F.LabelNeg name part) depth =
      both_text (codes "(LBLNEG") (name_text names name) (part depth false)

  abbrev pub denied_step : Formula-F (ℕ → Bool → List ℕ) (ℕ → List ℕ) → ℕ → List ℕ
  denied_step (Formula-F.Eq left right) depth = pair_text (codes "(NEQ") depth left right
  denied_step (Formula-F.Less left right) depth = pair_text (codes "(<=") depth right left
  denied_step other depth = codes "(NOT" ++ ((blank ++ plain_step other depth) ++ closing)

  abbrev pub formula_step : Formula-F (ℕ → Bool → List ℕ) (ℕ → List ℕ) → ℕ → Bool → List ℕ
  formula_step formula depth denied =
      if denied then denied_step formula depth else plain_step formula depth

  abbrev pub quant_step : Quant-F (ℕ → Bool → List ℕ) (ℕ → List ℕ) → ℕ → List ℕ
  quant_step quant depth =
      let inside = deeper depth quant.count in
      variables_text depth quant.count
      ++ (closing ++ inside_text inside quant.patterns quant.exempt (quant.body inside false))

  unfoldable pub text_of : Formula → ℕ → Bool → List ℕ
  text_of = fold-Formula (ℕ → Bool → List ℕ) (ℕ → List ℕ) formula_step quant_step

  unfoldable pub quant_text : Quant → ℕ → List ℕ
  quant_text = fold-Quant (ℕ → Bool → List ℕ) (ℕ → List ℕ) formula_step quant_step

  abbrev pub formula_text : Formula → List ℕ
  formula_text formula = text_of formula 0 false

  -- a literal that fails is printed as the formula's denial
  abbrev pub literal_text : Item → List ℕ
  literal_text item = text_of item.formula 0 (not item.positive)
