-- How lists are held whose entries are found by a number.
use Rattle.std.specs.Prelude.{◌≡◌, ℕ, ◌%◌, ◌^◌, List, map}
use Rattle.esc_term.specs.Digest.{term_mixed}
use Rattle.esc_term.specs.declared.term.Term.{Term}
use Rattle.esc_simplex.specs.declared.made.Made.{Made}
use Rattle.esc_simplex.specs.declared.made.Made.TheVariants as made

-- the index has the keys of the entries, in their order
abbrev pub HasKeys : {X : Type 0} → (X → ℕ) → List X → List (ℕ × ℕ) → Type 0
HasKeys key xs entries = map (λ entry. entry.0) entries ≡ map key xs

-- unknowns are found by themselves
abbrev pub itself : ℕ → ℕ
itself u = u

-- pairs are found by their nodes
abbrev pub bound_node : ℕ × ℕ → ℕ
bound_node pair = pair.0

-- the number by which an entry that was made for the term is found, in 32 bits
unfoldable pub term_key : Term → ℕ
term_key t = term_mixed 0 t % 2 ^ 32

-- gaps are found by their upper unknown
abbrev pub made_key : Made → ℕ
made_key (made.Term t) = term_key t
made_key (made.Gap u w strict) = u
