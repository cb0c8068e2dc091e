-- What contracts see of a book: the log, the facts of it that are live, and for each of these a
-- flat table of the occurrences in its formula.
use Rattle.std.specs.Prelude.{◌≡◌, ℕ, ◌+◌, ◌<◌, ◌==◌, Bool, true, false, List, [], ◌∷◌, ◌++◌, map}
use Rattle.std.specs.Prelude.{length, Some, slice_get}
use Rattle.std.specs.List.{All, AllPairs, Contains, filter_map, flat_map, list_any}
use Rattle.std.specs.Option.{IsSome}
use Rattle.esc_term.specs.declared.term.Term.{Term}
use Rattle.esc_term.specs.declared.formula.Formula.{Formula}
use Rattle.esc_term.specs.declared.formula.Formula.TheVariants as formula
use Rattle.esc_term.specs.declared.formula.Formula.TheOpen.{Formula-F}
use Rattle.esc_term.specs.declared.formula.Formula.TheFolds.{para-Formula}
use Rattle.esc_term.specs.declared.formula.Formula.TheViews.{out-Formula}
use Rattle.esc_term.specs.declared.formula.Quant.{Quant}
use Rattle.esc_cover.specs.Atoms.{pair_equations}
use Rattle.esc_term.specs.declared.formula.Item.{Item}
use Rattle.esc_clause.specs.Occurrences.{formula_at, item_at}
use Rattle.esc_clause.specs.declared.occurrence.Occurrence.{Occurrence}
use Rattle.esc_egraph.specs.Graph.{Graph}
use Rattle.esc_sharing.specs.Nodes.{node_count, node_term, terms_in}
use Rattle.esc_book.specs.declared.entry.Entry.{Entry}
use Rattle.esc_book.specs.declared.entry.Kind.{Kind}
use Rattle.esc_book.specs.declared.entry.Kind.TheVariants as kind

-- ---- what is written of one formula

abbrev pub heads_step : Formula-F (Formula × List Formula) (Quant × Unit) → List Formula
heads_step Formula-F.True = formula.True ∷ []
heads_step Formula-F.False = formula.False ∷ []
heads_step (Formula-F.And parts) =
    formula.And (map (λ part. part.0) parts) ∷ flat_map (λ part. part.1) parts
heads_step (Formula-F.Or parts) =
    formula.Or (map (λ part. part.0) parts) ∷ flat_map (λ part. part.1) parts
heads_step (Formula-F.Not part) = formula.Not part.0 ∷ part.1
heads_step (Formula-F.Implies left right) =
    formula.Implies left.0 right.0 ∷ (left.1 ++ right.1)
heads_step (Formula-F.Iff left right) = formula.Iff left.0 right.0 ∷ (left.1 ++ right.1)
heads_step (Formula-F.Forall quant) = formula.Forall quant.0 ∷ []
heads_step (Formula-F.Exists quant) = formula.Exists quant.0 ∷ []
heads_step (Formula-F.Eq s t) = formula.Eq s t ∷ []
heads_step (Formula-F.Less s t) = formula.Less s t ∷ []
heads_step (Formula-F.Distinct ts) = formula.Distinct ts ∷ []
heads_step (Formula-F.LabelPos name part) = formula.LabelPos name part.0 ∷ part.1
heads_step (Formula-F.LabelNeg name part) = formula.LabelNeg name part.0 ∷ part.1

-- the subformulas in the order of the occurrences, without the pairs of distinctions
unfoldable pub heads_of : Formula → List Formula
heads_of = para-Formula (List Formula) Unit heads_step (λ quant. tt)

abbrev pub pairs_form : Formula-F Formula Quant → List Formula
pairs_form (Formula-F.Distinct ts) = pair_equations ts
pairs_form form = []

-- the formula, and the equations of its pairs where it is a distinction
abbrev pub own : Formula → List Formula
own f = f ∷ pairs_form (out-Formula f)

-- what a formula is, but for its parts
pub data Form : Type 0 where
  Constant : Bool → Form
  Conjunction : Form
  Disjunction : Form
  Negation : Form
  Implication : Form
  Equivalence : Form
  Labelled : Form
  Equation : Term → Term → Form
  Order : Term → Term → Form
  Distinction : List Term → Form
  Quantified : Formula → Form

abbrev pub form_at : Formula-F Formula Quant → Form
form_at Formula-F.True = Constant true
form_at Formula-F.False = Constant false
form_at (Formula-F.And parts) = Conjunction
form_at (Formula-F.Or parts) = Disjunction
form_at (Formula-F.Not part) = Negation
form_at (Formula-F.Implies left right) = Implication
form_at (Formula-F.Iff left right) = Equivalence
form_at (Formula-F.Forall quant) = Quantified (formula.Forall quant)
form_at (Formula-F.Exists quant) = Quantified (formula.Exists quant)
form_at (Formula-F.Eq s t) = Equation s t
form_at (Formula-F.Less s t) = Order s t
form_at (Formula-F.Distinct ts) = Distinction ts
form_at (Formula-F.LabelPos name part) = Labelled
form_at (Formula-F.LabelNeg name part) = Labelled

-- an entry, with terms for their nodes
pub record Outline : Type 0 where
  -- the place of the occurrence
  pub begin : ℕ
  -- the place in the table of the first entry behind those of the formula
  pub next : ℕ
  pub form : Form

-- the entries of formulas one behind the other, where the first has this place, and stands at this
-- place of the table
abbrev pub laid : ℕ → ℕ → List Formula → List Outline
laid begin index [] = []
laid begin index (f ∷ fs) =
    record { begin = begin; next = index + length (heads_of f); form = form_at (out-Formula f) }
    ∷ laid (begin + length (own f)) (index + 1) fs

-- the table of a formula
abbrev pub page_of : Formula → List Outline
page_of f = laid 0 0 (heads_of f)

-- ---- over the nodes of a graph

abbrev pub told_kind : Graph → Kind → Form
told_kind g (kind.Constant is_true) = Constant is_true
told_kind g kind.Conjunction = Conjunction
told_kind g kind.Disjunction = Disjunction
told_kind g kind.Negation = Negation
told_kind g kind.Implication = Implication
told_kind g kind.Equivalence = Equivalence
told_kind g kind.Labelled = Labelled
told_kind g (kind.Equation a b) = Equation (node_term g a) (node_term g b)
told_kind g (kind.Order a b) = Order (node_term g a) (node_term g b)
told_kind g (kind.Distinction nodes) = Distinction (map (node_term g) nodes)
told_kind g (kind.Quantified f) = Quantified f

abbrev pub told : Graph → Entry → Outline
told g e = record { begin = e.begin; next = e.next; form = told_kind g e.kind }

-- what a kind says nodes are, are nodes
abbrev pub HasNodes : Graph → Kind → Type 0
HasNodes g (kind.Equation a b) = (a < node_count g) × (b < node_count g)
HasNodes g (kind.Order a b) = (a < node_count g) × (b < node_count g)
HasNodes g (kind.Distinction nodes) = All (λ a. a < node_count g) nodes
HasNodes g kind = Unit {0}

-- an entry for each occurrence, in order, but for the pairs of distinctions
abbrev pub Page : Type 0
Page = List Entry

-- the table is that of the formula
pub record IsPage (g : Graph) (f : Formula) (page : Page) : Type 0 where
  pub is : map (told g) page ≡ page_of f
  pub nodes : All (λ e. HasNodes g e.kind) page

-- ---- the book

-- the formulas of the log, the places of the live facts in the order in which they became live, and
-- the table of each
pub record BookView : Type 0 where
  pub logged : List Formula
  pub live : List ℕ
  pub pages : List Page

-- each live fact is in the log, none is live twice, and each table is that of its fact's formula
pub record IsBook (g : Graph) (v : BookView) : Type 0 where
  pub within : All (λ place. place < length v.logged) v.live
  pub once : AllPairs (λ p q. p ≡ q → ⊥) v.live
  pub as_many : length v.pages ≡ length v.live
  pub written : (i place : ℕ) (f : Formula) (page : Page) → slice_get v.live i ≡ Some place
      → slice_get v.logged place ≡ Some f → slice_get v.pages i ≡ Some page → IsPage g f page

-- the fact at a place of the log is live
abbrev pub is_live : BookView → ℕ → Bool
is_live v place = list_any (λ p. p == place) v.live

-- the occurrence is one of a live fact
pub record IsLiveOccurrence (v : BookView) (at : Occurrence) : Type 0 where
  pub live : Contains v.live at.fact
  pub there : IsSome (formula_at v.logged at)

-- the formulas of the live facts
abbrev pub live_formulas : BookView → List Formula
live_formulas v = filter_map (slice_get v.logged) v.live

-- the items of those occurrences that are there
abbrev pub items_of : BookView → List Occurrence → List Item
items_of v = filter_map (item_at v.logged)

-- more terms leave a book as it is
abbrev pub BookStays : Type 0
BookStays = (g h : Graph) (v : BookView) (more : List Term) → IsBook g v
    → terms_in h ≡ terms_in g ++ more → IsBook h v
