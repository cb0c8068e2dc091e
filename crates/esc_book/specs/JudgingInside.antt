-- What is said of the formulas of entries.
use Rattle.std.specs.Prelude.{◌≡◌, ℕ, ◌+◌, Bool, true, false, ◌&&◌, ◌||◌, if◌then◌else◌, List}
use Rattle.std.specs.Prelude.{length, Some, slice_get}
use Rattle.std.specs.List.{flat_map}
use Rattle.esc_term.specs.declared.formula.Formula.{Formula}
use Rattle.esc_term.specs.declared.formula.Formula.TheVariants as formula
use Rattle.esc_clause.specs.declared.truth.Truth.{Truth}
use Rattle.esc_clause.specs.declared.truth.Truth.TheVariants.{Yes, No, Open}
use Rattle.esc_cover.specs.Cover.{Cover, cover}
use Rattle.esc_egraph.specs.Graph.{Graph}
use Rattle.esc_book.specs.Book.{BookView, IsPage, Page, heads_of}
use Rattle.esc_book.specs.Judging.{classes_for, literals_for}
use Rattle.esc_book.specs.ReadingInside.{AreThere}
use Rattle.esc_book.specs.declared.entry.Kind.{Kind}
use Rattle.esc_book.specs.declared.entry.Kind.TheVariants as kind
use Rattle.esc_book.specs.declared.judge.BookJudge.{BookJudge}

-- the table is that of the live fact at the place of the log
pub record IsPageOf (v : BookView) (fact : ℕ) (page : Page) : Type 0 where
  pub index : ℕ
  pub live : slice_get v.live index ≡ Some fact
  pub written : slice_get v.pages index ≡ Some page

-- what is said of a formula
abbrev pub cover_by : BookJudge → Formula → Cover
cover_by j f = cover (literals_for j) (classes_for j) f

-- the entry at a place of the table is that of a formula
pub record IsEntryAt (g : Graph) (page : Page) (i : ℕ) : Type 0 where
  pub whole : Formula
  pub is_page : IsPage g whole page
  pub part : Formula
  pub there : slice_get (heads_of whole) i ≡ Some part

-- between two places of a table stand the entries of formulas side by side
pub record AreBetween (hs : List Formula) (from to : ℕ) (parts : List Formula) : Type 0 where
  pub there : AreThere hs from parts
  pub ends : to ≡ from + length (flat_map heads_of parts)

-- that there are such formulas
pub record HasEntries (g : Graph) (page : Page) (from to : ℕ) : Type 0 where
  pub whole : Formula
  pub is_page : IsPage g whole page
  pub parts : List Formula
  pub between : AreBetween (heads_of whole) from to parts

-- all of these formulas, or one of them
abbrev pub of_parts : Bool → List Formula → Formula
of_parts all parts = if all then formula.And parts else formula.Or parts

-- what is said of both formulas together, or of one or the other
abbrev pub joined : Bool → Cover → Cover → Cover
joined all c d = if all then (record { holds = c.holds && d.holds; fails = c.fails || d.fails })
    else (record { holds = c.holds || d.holds; fails = c.fails && d.fails })

-- what is said of none
abbrev pub of_none : Bool → Cover
of_none all = record { holds = all; fails = if all then false else true }

-- with this sign the formula is so, or with the other, or neither
abbrev pub truth_by : Cover → Bool → Truth
truth_by c true = if c.holds then Yes else (if c.fails then No else Open)
truth_by c false = if c.fails then Yes else (if c.holds then No else Open)

-- a formula of this kind has no parts
abbrev pub HasNoParts : Kind → Type 0
HasNoParts kind.Conjunction = ⊥
HasNoParts kind.Disjunction = ⊥
HasNoParts kind.Negation = ⊥
HasNoParts kind.Implication = ⊥
HasNoParts kind.Equivalence = ⊥
HasNoParts kind.Labelled = ⊥
HasNoParts kind = Unit {0}
