-- What the steps answer by which unknowns are made and restricted.
use Rattle.std.specs.Prelude.{◌≡◌, ◌↔◌, ℕ, pos, ◌≤ℤ◌, List, map, Option, Some, None, Result, Ok, Err}
use Rattle.std.specs.List.{Contains}
use Rattle.esc_term.specs.declared.term.Term.{Term}
use Rattle.esc_linear.specs.Forms.{form, opaque_form}
use Rattle.esc_linear.specs.Steps.{AllFit, steps}
use Rattle.esc_linear.specs.declared.form.Form.{Form}
use Rattle.esc_linear.specs.declared.form.Part.{Part as Addend}
use Rattle.esc_tableau.specs.declared.changing.Part.{Part}
use Rattle.esc_egraph.specs.declared.state.State.{State}
use Rattle.esc_egraph.specs.declared.state.State.TheVariants.{Open, Closed}
use Rattle.esc_cover.specs.Assignment.{Assignment, Gap, gap_value}
use Rattle.esc_simplex.specs.Calls.{GapIsRestricted}
use Rattle.esc_simplex.specs.Senses.{Sense, StandsFor, gap_of, senses_of, term}
use Rattle.esc_simplex.specs.View.{Allows, IsInUse}
use Rattle.esc_simplex.specs.declared.made.Made.{Made}
use Rattle.esc_simplex.specs.declared.simplex.Simplex.{Simplex}
use Rattle.esc_simplex.specs.declared.stop.Stop.{Stop}
use Rattle.esc_simplex.specs.declared.stop.Stop.TheVariants as stop

-- an unknown that stands for the term, or there is none
abbrev pub FindsTerm : List Made → Term → Option ℕ → Type 0
FindsTerm ms t (Some u) = StandsFor (senses_of ms) u (term t)
FindsTerm ms t None = (u : ℕ) → StandsFor (senses_of ms) u (term t) → ⊥

-- arithmetic looks into the term that this is, where it is one
abbrev pub IsLookedInto : Sense → Type 0
IsLookedInto s = (t : Term) → s ≡ term t → form t ≡ opaque_form t → ⊥

-- the term's form, or the stop where a step of it does not fit
abbrev pub FormEnds : Term → Result Form Stop → Type 0
FormEnds t (Ok f) = AllFit (steps t) × (f ≡ form t)
FormEnds t (Err (stop.Spill j)) = ⊥
FormEnds t (Err (stop.Form s)) = (s ≡ t) × (¬ AllFit (steps t))
FormEnds t (Err (stop.Pivots j)) = ⊥
FormEnds t (Err stop.Memory) = Unit {0}

-- one of the terms that the form is made of
abbrev pub IsAmong : List Addend → Sense → Type 0
IsAmong ps (term t) = Contains (map (λ p. p.term) ps) t
IsAmong ps (gap_of g) = ⊥

-- a part of a row: the unknown in use of a part's term, with its factor
pub record IsUsedAddend (v : Simplex) (p : Part) (a : Addend) : Type 0 where
  pub used : IsInUse v p.unknown (term a.term)
  pub factor : p.factor ≡ a.factor

-- ---- restricting a gap

abbrev pub IsUp : Gap → Assignment → Type 0
IsUp g x = pos 0 ≤ℤ gap_value x g

-- the restrictions allow what they did, and the gap is not negative too
abbrev pub AllowsAlso : Simplex → Simplex → Gap → Type 0
AllowsAlso v w g = (x : Assignment) → Allows w x ↔ (Allows v x × IsUp g x)

abbrev pub AllowsAlike : Simplex → Simplex → Type 0
AllowsAlike v w = (x : Assignment) → Allows w x ↔ Allows v x

-- the gap is restricted, or the restrictions allow it nowhere to be at least 0
abbrev pub GapRestrictedEnds : Simplex → Simplex → Gap → Result State Stop → Type 0
GapRestrictedEnds v w g (Ok Open) = AllowsAlso v w g × ((x : Assignment) × Allows v x × IsUp g x)
GapRestrictedEnds v w g (Ok Closed) = AllowsAlike v w
    × ((x : Assignment) → Allows v x → IsUp g x → ⊥)
GapRestrictedEnds v w g (Err stop) = AllowsAlike v w

-- its unknown is restricted, last, or nothing is
abbrev pub GapRestricts : Simplex → Simplex → Gap → Result State Stop → Type 0
GapRestricts v w g (Ok Open) = GapIsRestricted v w g
GapRestricts v w g (Ok Closed) = w.restricted ≡ v.restricted
GapRestricts v w g (Err stop) = w.restricted ≡ v.restricted
