-- A branch while an occurrence is being asserted: facts and decisions are still to be expanded.
use Rattle.std.specs.Prelude.{◌≡◌, Bool, true, false, IsTrue, List, [], ◌∷◌, ◌++◌, map, Result, Ok}
use Rattle.std.specs.Prelude.{Err, Option, Some}
use Rattle.std.specs.List.{All, Contains, flat_map}
use Rattle.std.specs.Option.{IsSomeAnd}
use Rattle.esc_term.specs.declared.formula.Formula.{Formula, out-Formula}
use Rattle.esc_term.specs.declared.formula.Item.{Item}
use Rattle.esc_term.specs.Formula.{is_closed}
use Rattle.esc_term.specs.Model.{Model}
use Rattle.esc_cover.specs.Assignment.{asked}
use Rattle.esc_cover.specs.Counterexample.{AreLiteralsOf, is_literal_form}
use Rattle.esc_cover.specs.Laws.{HoldsIn}
use Rattle.esc_clause.specs.ClauseContext.{Clause, left_in, new_clause}
use Rattle.esc_clause.specs.Laws.{IsSo}
use Rattle.esc_clause.specs.Occurrences.{formula_at, item_at}
use Rattle.esc_clause.specs.declared.occurrence.Occurrence.{Occurrence}
use Rattle.esc_book.specs.Book.{IsBook}
use Rattle.esc_egraph.specs.declared.state.State.{State}
use Rattle.esc_egraph.specs.declared.state.State.TheVariants.{Open, Closed}
use Rattle.esc_simplex.specs.View.{numbers_in}
use Rattle.esc_simplex.specs.declared.simplex.Simplex.{Simplex}
use Rattle.esc_simplex.specs.declared.stop.Stop.{Stop}
use Rattle.esc_simplex.specs.declared.stop.Stop.TheVariants as stop
use Rattle.esc_sharing.specs.Nodes.{terms_in}
use Rattle.esc_sharing.specs.Shared.{HaveNoModel, IsShared, IsUnderway, items_in, literals_in}
use Rattle.esc_sharing.specs.Unquantified.{is_quantified}
use Rattle.esc_sharing.specs.declared.sharing.Sharing.{Sharing}
use Rattle.esc_outcome.specs.JamLaws.{IsGivenBy, shared_in}
use Rattle.esc_outcome.specs.Stopping.{IsStopped}
use Rattle.esc_play.specs.Play.{PlayEnds}
use Rattle.esc_live.specs.Calls.{AddsLiterals, IsStoppedAt, MeansMore}
use Rattle.esc_live.specs.Promises.{IsGiven, IsMade, IsSharedOn, IsSoundIn, WasExpanded}
use Rattle.esc_live.specs.View.{literals_on, logged}
use Rattle.esc_live.specs.declared.branch.LiveBranch.{LiveBranch}
use Rattle.std.specs.Prelude.{◌⊎◌, ◌↔◌, ℕ, if◌then◌else◌}
use Rattle.esc_term.specs.declared.term.Term.{Term}
use Rattle.esc_term.specs.declared.formula.Formula.TheVariants.{Less}
use Rattle.esc_term.specs.declared.formula.Formula.TheOpen.{Formula-F}
use Rattle.esc_term.specs.declared.formula.Quant.{Quant}
use Rattle.esc_sharing.specs.Numbers.{number_terms}
use Rattle.esc_sharing.specs.declared.literal.Lit.{Lit}
use Rattle.esc_sharing.specs.declared.literal.Lit.TheVariants.{Equal, Apart, Below, AtMost}

-- all that a branch promises but of decisions, and but that facts and decisions were expanded
pub record IsStanding (v : LiveBranch) : Type 0 where
  pub closed : All (λ f. IsTrue (is_closed f)) (logged v)
  pub book : IsBook v.sharing.graph v.book
  pub shared : IsSharedOn v
  pub clauses : All (IsMade v) (left_in v.clauses)

-- what asserting leaves, however it ends
pub record Steps (v w : LiveBranch) : Type 0 where
  pub book : w.book ≡ v.book
  pub literals : AddsLiterals v w
  pub decisions : w.clauses.decisions ≡ v.clauses.decisions
  pub given : IsGiven w
  pub means : MeansMore v w
  pub limit : w.sharing.theory.limit ≡ v.sharing.theory.limit

-- the branch is so in the model, and so are the occurrences
pub record AreSoIn (M : Model) (v : LiveBranch) (ats : List Occurrence) : Type 0 where
  pub branch : IsSoundIn M v
  pub each : All (IsSo (HoldsIn M) (logged v)) ats

-- the occurrences were expanded, and so is still what was expanded before
pub record Reaches (v w : LiveBranch) (ats : List Occurrence) : Type 0 where
  pub standing : IsStanding w
  pub expanded : All (WasExpanded w) ats
  pub stays : (at : Occurrence) → WasExpanded v at → WasExpanded w at
  pub sound : (M : Model) → AreSoIn M v ats → IsSoundIn M w

-- the arithmetic stopped
pub record StopsAsserting (v w : LiveBranch) (ats : List Occurrence) (why : Stop) : Type 0 where
  pub stopped : IsStoppedAt w why
  pub sound : (M : Model) → AreSoIn M v ats → All (HoldsIn M) (literals_on w)

-- how asserting occurrences ends
abbrev pub Asserts : LiveBranch → LiveBranch → List Occurrence → Result State Stop → Type 0
Asserts v w ats (Ok Open) = Reaches v w ats
Asserts v w ats (Ok Closed) = (M : Model) → AreSoIn M v ats → ⊥
Asserts v w ats (Err stop.Memory) = Unit {0}
Asserts v w ats (Err why) = StopsAsserting v w ats why

-- ---- a literal comes to the sharing

-- the item is a literal there, and nothing else came; of a quantified one the sharing knows nothing
pub record SharesItem (s t : Sharing Simplex) (item : Item) : Type 0 where
  pub literals : (other : Item) → is_quantified other ≡ false
      → Contains (literals_in (shared_in t)) other
      ↔ (Contains (literals_in (shared_in s)) other ⊎ (item ≡ other))
  pub asks : flat_map asked (items_in (shared_in t))
      ≡ flat_map asked (items_in (shared_in s)) ++ asked item
  pub terms : terms_in t.graph ≡ terms_in s.graph
  pub numbers : numbers_in t.theory ≡ numbers_in s.theory

-- the formulas of literals that ask for as much, and that gave the arithmetic its terms, have the
-- stop for a jam
abbrev pub StopsSharing : Sharing Simplex → Sharing Simplex → Item → Stop → Type 0
StopsSharing s t item why = (formulas : List Formula) (literals : List Item)
    → IsGivenBy formulas s.theory → AreLiteralsOf formulas literals
    → flat_map asked literals ≡ flat_map asked (items_in (shared_in s)) ++ asked item
    → IsStopped formulas t literals why

pub record GivesUpSharing (s t : Sharing Simplex) (item : Item) (why : Stop) : Type 0 where
  pub shares : SharesItem s t item
  pub stops : StopsSharing s t item why

abbrev pub ShareEnds : Sharing Simplex → Sharing Simplex → Item → Result State Stop → Type 0
ShareEnds s t item (Ok Open) = SharesItem s t item × IsShared (shared_in t)
ShareEnds s t item (Ok Closed) = SharesItem s t item × HaveNoModel (literals_in (shared_in t))
ShareEnds s t item (Err stop.Memory) = Unit {0}
ShareEnds s t item (Err why) = GivesUpSharing s t item why

-- whatever formulas gave the arithmetic its terms give them after
abbrev pub StaysGiven : Simplex → Simplex → Type 0
StaysGiven v w = (formulas : List Formula) → IsGivenBy formulas v → IsGivenBy formulas w

-- an item stands there that may be a literal
abbrev pub IsLiteralAt : List Formula → Occurrence → Type 0
IsLiteralAt fs at = IsSomeAnd (item_at fs at)
    (λ item. IsTrue (is_literal_form (out-Formula item.formula) item.positive))

-- the sides of an order there are arithmetic
abbrev pub HasNumbers : LiveBranch → Occurrence → Type 0
HasNumbers v at = (s t : Term) → formula_at (logged v) at ≡ Some (Less s t)
    → Contains (terms_in v.sharing.graph) s → Contains (terms_in v.sharing.graph) t
    → Contains (number_terms (numbers_in v.sharing.theory)) s
    × Contains (number_terms (numbers_in v.sharing.theory)) t

abbrev pub equation_lit : ℕ → ℕ → Bool → Lit
equation_lit a b positive = if positive then Equal a b else Apart a b

-- not less is that the second is at most the first
abbrev pub order_lit : ℕ → ℕ → Bool → Lit
order_lit a b positive = if positive then Below a b else AtMost b a

abbrev pub sides_form : Formula-F Formula Quant → List Term
sides_form (Formula-F.Eq s t) = s ∷ t ∷ []
sides_form (Formula-F.Distinct ts) = ts
sides_form form = []

-- the terms that an equation or a distinction is of
abbrev pub item_sides : Item → List Term
item_sides item = sides_form (out-Formula item.formula)

-- the sharing gets the item there
pub record Comes (v w : LiveBranch) (at : Occurrence) (result : Result State Stop) : Type 0 where
  pub item : Item
  pub there : item_at (logged v) at ≡ Some item
  pub sides : All (Contains (terms_in v.sharing.graph)) (item_sides item)
  pub ends : ShareEnds v.sharing w.sharing item result

-- ---- clauses

-- clauses came behind the others, and nothing else changed
pub record AddsClauses (v w : LiveBranch) : Type 0 where
  pub more : List Clause
  pub rest : w ≡ record v {
    clauses = record v.clauses { clauses = v.clauses.clauses ++ more };
  }

-- these did
abbrev pub WithClauses : LiveBranch → LiveBranch → List (List Occurrence) → Type 0
WithClauses v w clauses = w ≡ record v {
  clauses = record v.clauses { clauses = v.clauses.clauses ++ map new_clause clauses };
}

-- ---- a fact becomes live

-- the terms of a fact came in play, or the arithmetic stopped, or no model makes all literals hold
abbrev pub Brings : LiveBranch → LiveBranch → Formula → Result State Stop → Type 0
Brings v w f (Ok Open) = PlayEnds (shared_in v.sharing) (shared_in w.sharing) f (Ok Open)
Brings v w f (Ok Closed) = (M : Model) → IsSoundIn M v → ⊥
Brings v w f (Err stop.Memory) = Unit {0}
Brings v w f (Err why) = IsStoppedAt w why
    × ((M : Model) → IsSoundIn M v → All (HoldsIn M) (literals_on w))
