-- Which facts the literals and the matches of triggers call for, and in what order.
use Rattle.std.specs.Prelude.{◌≡◌, ◌≢◌, ℕ, ◌<◌, Some, List, [], ◌∷◌, length, slice_get}
use Rattle.std.specs.List.{All}
use Rattle.esc_term.specs.declared.term.Term.{Term}
use Rattle.esc_match.specs.Match.{TriggerMatch}
use Rattle.esc_match.specs.Matches.{class_in}
use Rattle.esc_maps.specs.Chosen.{StandsForClass}
use Rattle.esc_maps.specs.MapMatches.{IsMapMatch, place_of_match}
use Rattle.esc_rounds.specs.Standing.{Standing}
use Rattle.esc_rounds.specs.declared.draw.Draw.{Draw}
use Rattle.esc_rounds.specs.declared.draw.Draw.TheVariants.{Witness, Map, Instance}
use Rattle.esc_rounds.specs.declared.kept.Kept.{Kept}
use Rattle.esc_rounds.specs.declared.kept.Literal.{Literal}

-- the literal of this number is the formula of this number
pub record IsLiteral (s : Standing) (i f : ℕ) (literal : Literal) (formula : Kept) : Type 0 where
  pub there : slice_get s.literals i ≡ Some literal
  pub formula_is : literal.formula ≡ f
  pub kept : slice_get s.formulas f ≡ Some formula

-- it is an existential formula that holds, or a universal one that fails
pub record CallsWitness (s : Standing) (i f : ℕ) : Type 0 where
  pub literal : Literal
  pub formula : Kept
  pub is : IsLiteral s i f literal formula
  pub existential : literal.holds ≢ formula.universal

-- It is a universal formula that holds, or an existential one that fails. Its trigger of this
-- number matches, by some node, with these nodes, one for each variable, which stand for their
-- classes.
pub record CallsInstance (s : Standing) (i k f : ℕ) (nodes matched : List ℕ) : Type 0 where
  pub literal : Literal
  pub formula : Kept
  pub is : IsLiteral s i f literal formula
  pub universal : literal.holds ≡ formula.universal
  pub trigger : List Term
  pub numbered : slice_get formula.triggers k ≡ Some trigger
  pub many : length nodes ≡ formula.count
  pub stand : All (StandsForClass s.graph s.depths) nodes
  pub match : TriggerMatch s.graph (class_in s.graph nodes) trigger matched
  pub some : 0 < length matched

-- The place at which a fact is called for: witnesses by their literals, then facts about maps by
-- their nodes, then instances by their literals, triggers and matches.
abbrev pub CalledAt : Standing → Draw → List ℕ → Type 0
CalledAt s (Witness f) place = (i : ℕ) × CallsWitness s i f × (place ≡ 0 ∷ i ∷ [])
CalledAt s (Map m) place = IsMapMatch s.graph s.depths m × (place ≡ 1 ∷ place_of_match m)
CalledAt s (Instance f ns) place =
    (i k : ℕ) × (matched : List ℕ) × CallsInstance s i k f ns matched
    × (place ≡ 2 ∷ i ∷ k ∷ matched)
