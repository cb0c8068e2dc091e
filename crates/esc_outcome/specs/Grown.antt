-- What holds of a branch that a search has come to.
use Rattle.std.specs.Prelude.{◌≡◌, ◌⊎◌, ◌≤◌, ℕ, IsTrue, List, [], ◌∷◌, ◌++◌, Any, length, map, None}
use Rattle.std.specs.Prelude.{slice_get, slice_index_or}
use Rattle.std.specs.List.{All, Contains, filter_map}
use Rattle.std.specs.Option.{option_map_or}
use Rattle.esc_term.specs.declared.term.Term.{Term}
use Rattle.esc_term.specs.declared.formula.Formula.{Formula}
use Rattle.esc_term.specs.declared.formula.Formula.TheVariants.{Eq}
use Rattle.esc_term.specs.Formula.{substituted_quant}
use Rattle.esc_term.specs.Refuted.{Follows}
use Rattle.esc_term.specs.Term.{substituted_term}
use Rattle.esc_clause.specs.declared.decision.Decision.{Decision}
use Rattle.esc_cover.specs.Classes.{active_terms}
use Rattle.esc_fact.specs.Base.{Quantified, quantified_in}
use Rattle.esc_fact.specs.Depth.{deep}
use Rattle.esc_fact.specs.Fact.{formulas_of, select, store}
use Rattle.esc_fact.specs.Legal.{IsLegal, IsLegalFront, is_first}
use Rattle.esc_fact.specs.declared.base.Base.{Base}
use Rattle.esc_fact.specs.declared.fact.Fact.{Fact}
use Rattle.esc_fact.specs.declared.fact.Fact.TheVariants as fact
use Rattle.esc_trigger.specs.Triggers.{triggers}
use Rattle.esc_outcome.specs.Tree.{ComesInTurn, IsOccurrence, IsRefutedAt, IsSideAmong, Side}
use Rattle.esc_outcome.specs.Tree.{SplitTree, path_of, said_by}
use Rattle.esc_outcome.specs.declared.branch.Branch.{Branch}
use Rattle.esc_outcome.specs.declared.branch.Split.{Split}

-- ---- what a fact is made by

-- the triggers of a closed quantified formula with terms for its variables
abbrev pub triggers_at : List Term → List Term → Quantified → List (List Term)
triggers_at outer terms q =
    map (map (substituted_term terms 0)) (triggers (substituted_quant outer q.quant 0))

-- the terms that can make a fact: one list of them is enough
abbrev pub makers_of : Base → Fact → List (List Term)
makers_of base (fact.Given k) = [] ∷ []
makers_of base fact.NegGoal = [] ∷ []
makers_of base (fact.Inst number outer terms) =
    option_map_or (triggers_at outer terms) (slice_get (quantified_in base) number) []
makers_of base (fact.Skolem number outer) = [] ∷ []
makers_of base (fact.Map1 m i x) = (store m i x ∷ []) ∷ []
makers_of base (fact.Map2 m i x j) =
    (select (store m i x) j ∷ []) ∷ (store m i x ∷ select m j ∷ []) ∷ []

-- by the formulas and what is decided, the term equals one that is in play
abbrev pub IsMet : List Formula → List Formula → Term → Type 0
IsMet fs decided t =
    (u : Term) × Contains (active_terms fs) u × Follows (fs ++ decided) (Eq t u)

-- each term of one of the lists is met
abbrev pub AreMet : List Formula → List Formula → List (List Term) → Type 0
AreMet fs decided = Any (All (IsMet fs decided))

-- the formulas meet the terms of one of the lists with what is decided of them on a way
pub record IsMadeBy (fs : List Formula) (way : List Decision) (makers : List (List Term)) : Type 0
  where
    -- nothing is decided there of a fact that they make, or of one after it
    pub earlier : All (λ d. IsOccurrence fs d.at) way
    pub met : AreMet fs (filter_map (said_by fs) way) makers

-- ---- how deep a fact lies

-- some facts of the log are a legal list, in which none is too deep and this one stands
pub record IsShallowAmong (base : Base) (depth : ℕ) (log : List Fact) (fact : Fact) : Type 0 where
  pub list : List Fact
  pub legal : IsLegal base list
  pub logged : All (Contains log) list
  pub there : Contains list fact
  pub shallow : All (λ d. d.depth ≤ depth) (deep base list)

-- ---- branches

-- a side in the tree, where the sides before it are done
pub record IsPlace (done : Side → Type 0) (splits : List Split) (side : Side) : Type 0 where
  pub there : IsSideAmong (length splits) side
  pub in_turn : ComesInTurn done side

-- for each fact of the log, the facts before it met what makes it at the place where it was added
abbrev pub EachIsMade : Base → Branch → Type 0
EachIsMade base branch =
    (before after : List Fact) (fact : Fact) → branch.log ≡ before ++ fact ∷ after
    → IsMadeBy (formulas_of base before)
    (path_of branch.splits (slice_index_or branch.sides (length before) None))
    (makers_of base fact)

-- a side is done when the formulas of the log are refuted there
abbrev pub IsDoneIn : Base → Branch → Side → Type 0
IsDoneIn base branch = IsRefutedAt (formulas_of base branch.log) branch.splits

pub record Grown (base : Base) (depth : ℕ) (branch : Branch) : Type 0 where
  pub log : IsLegalFront base branch.log
  pub splits : SplitTree (IsDoneIn base branch) (formulas_of base branch.log) branch.splits
  pub one_side_each : length branch.sides ≡ length branch.log
  pub places : All (IsPlace (IsDoneIn base branch) branch.splits) (branch.under ∷ branch.sides)
  pub made : EachIsMade base branch
  pub shallow : All (λ fact. IsTrue (is_first fact) ⊎ IsShallowAmong base depth branch.log fact)
      branch.log
