-- Terms that come to a number, and a theory that has no others.
use Rattle.std.specs.Prelude.{◌≡◌, ◌≢◌, ℕ, ◌-◌, ◌<◌, ℤ, pos, ◌*ℤ◌, List, [], map, length, take}
use Rattle.std.specs.List.{All, Contains}
use Rattle.esc_term.specs.declared.term.Term.{Term}
use Rattle.esc_frac.specs.Rational.{ℚ}
use Rattle.esc_linear.specs.Forms.{form}
use Rattle.esc_linear.specs.Steps.{AllFit, steps}
use Rattle.esc_cover.specs.Assignment.{Assignment, value}
use Rattle.esc_trail.specs.Undo.{Undo}
use Rattle.esc_union.specs.Merges.{SameClass}
use Rattle.esc_egraph.specs.Graph.{Graph, number_of}
use Rattle.esc_simplex.specs.declared.stop.Stop.{Stop}
use Rattle.esc_simplex.specs.declared.stop.Stop.TheVariants as stop
use Rattle.esc_sharing.specs.Nodes.{node_count}
use Rattle.sharing_cases.specs.declared.constants.Constant.{Constant}
use Rattle.sharing_cases.specs.declared.constants.ConstantRec.{ConstantRec}
use Rattle.sharing_cases.specs.declared.constants.ConstantRec.TheVariants.{Added}
use Rattle.sharing_cases.specs.declared.constants.Constants.{Constants}

-- each assignment gives the term this number
abbrev pub IsWorth : Term → ℤ → Type 0
IsWorth t n = (x : Assignment) → value x t ≡ n *ℤ pos x.denominator

-- its form does not fit, or other terms stand in it
abbrev pub IsNoConstant : Term → Type 0
IsNoConstant t = AllFit (steps t) → (form t).parts ≡ [] → ⊥

-- the stop is that of one of the terms, which is no constant
abbrev pub IsRefused : List Term → Stop → Type 0
IsRefused terms (stop.Form t) = Contains terms t × IsNoConstant t
IsRefused terms stop = ⊥

-- ---- the theory

abbrev pub number_of_constant : Constant → ℕ × Term
number_of_constant c = (c.node, c.term)

abbrev pub numbers_in : Constants → List (ℕ × Term)
numbers_in v = map number_of_constant v.list

-- each has the number that its term comes to
abbrev pub AreWorth : Constants → Type 0
AreWorth v = All (λ (c : Constant). IsWorth c.term c.value.num) v.list

abbrev pub IsNoNode : List Constant → ℕ → Type 0
IsNoNode cs a = All (λ (c : Constant). c.node ≢ a) cs

-- the node is that of a constant with this number
pub record IsFound (cs : List Constant) (a : ℕ) (n : ℚ) : Type 0 where
  pub constant : Constant
  pub among : Contains cs constant
  pub node : constant.node ≡ a
  pub value : constant.value ≡ n

-- ---- one number, and two classes

abbrev pub AreThere : Graph → List Constant → Type 0
AreThere g cs = All (λ (c : Constant). c.node < node_count g) cs

pub record AreMissed (g : Graph) (c d : Constant) : Type 0 where
  pub value : c.value.num ≡ d.value.num
  pub different : SameClass (number_of g) c.node d.node → ⊥

abbrev pub NoneIsMissed : Graph → List Constant → Constant → Type 0
NoneIsMissed g cs c = All (λ d. AreMissed g c d → ⊥) cs

-- the node is missed with that of the constant
pub record IsMissedWith (g : Graph) (cs : List Constant) (c : Constant) (b : ℕ) : Type 0 where
  pub other : Constant
  pub among : Contains cs other
  pub node : other.node ≡ b
  pub missed : AreMissed g c other

-- two of them are missed
pub record AreFoundMissed (g : Graph) (cs : List Constant) (pair : ℕ × ℕ) : Type 0 where
  pub first : Constant
  pub among : Contains cs first
  pub node : first.node ≡ pair.0
  pub other : IsMissedWith g cs first pair.1

-- ---- records

-- the list without the last
abbrev pub constants_back : Constants → ConstantRec → Constants
constants_back v Added = record v { list = take (length v.list - 1) v.list }

abbrev pub CanTake : Constants → ConstantRec → Type 0
CanTake v Added = 0 < length v.list

abbrev pub constants_undo : Undo Constants ConstantRec
constants_undo = record { back = constants_back; can = CanTake; same = λ v w. v ≡ w }
