-- Lists in parentheses, with single blanks between what stands in them.
use Rattle.std.specs.Prelude.{ℕ, List, [], ◌∷◌, ◌++◌}
use Rattle.esc_term.specs.declared.term.Term.{Term}
use Rattle.esc_print.specs.Terms.{closing, opening, spaced, term_text}

-- single blanks between the texts
unfoldable pub joined : {X : Type 0} → (X → List ℕ) → List X → List ℕ
joined text [] = []
joined text (x ∷ xs) = text x ++ spaced text xs

abbrev pub listed : {X : Type 0} → (X → List ℕ) → List X → List ℕ
listed text xs = opening ++ (joined text xs ++ closing)

-- terms that stand outside all quantifiers
abbrev pub terms_text : List (List ℕ) → List Term → List ℕ
terms_text names = listed (term_text names 0)
