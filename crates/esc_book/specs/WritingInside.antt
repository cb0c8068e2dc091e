-- How a table is written.
use Rattle.std.specs.Prelude.{◌≡◌, ℕ, ◌+◌, List, ◌++◌, drop, length, map}
use Rattle.std.specs.List.{All, flat_map}
use Rattle.esc_term.specs.declared.formula.Formula.{Formula}
use Rattle.esc_term.specs.declared.formula.Formula.TheViews.{out-Formula}
use Rattle.esc_egraph.specs.Graph.{Graph}
use Rattle.esc_book.specs.Book.{HasNodes, form_at, heads_of, laid, own, pairs_form, told, told_kind}
use Rattle.esc_book.specs.declared.entry.Entry.{Entry}
use Rattle.esc_book.specs.declared.entry.Kind.{Kind}

-- the entries of these formulas came behind the others, from this place up to that
pub record Writes (g : Graph) (fs : List Formula) (start : ℕ) (old new : List Entry) (end : ℕ) :
    Type 0 where
  pub more : List Entry
  pub behind : new ≡ old ++ more
  pub is : map (told g) more ≡ laid start (length old) fs
  pub nodes : All (λ e. HasNodes g e.kind) more
  pub ends : end ≡ start + length (flat_map own fs)

-- the formula is of this kind
pub record IsKindOf (g : Graph) (f : Formula) (kind : Kind) : Type 0 where
  pub form : told_kind g kind ≡ form_at (out-Formula f)
  pub nodes : HasNodes g kind

-- what stands behind a formula in its table
abbrev pub inside_of : Formula → List Formula
inside_of f = drop 1 (heads_of f)

-- the place behind a formula and its pairs
abbrev pub behind_own : ℕ → Formula → ℕ
behind_own inside f = inside + length (pairs_form (out-Formula f))
