-- What a standing and draws say of the live facts and the literals of a branch.
use Rattle.std.specs.Prelude.{◌≡◌, ◌≢◌, ℕ, ◌<◌, Bool, true, false, IsTrue, Option, Some, List}
use Rattle.std.specs.Prelude.{length}
use Rattle.std.specs.Prelude.{map}
use Rattle.std.specs.Prelude.{slice_get, slice_index}
use Rattle.std.specs.List.{All, AllPairs, AllZip, filter, list_all}
use Rattle.std.specs.Option.{option_and_then, option_map}
use Rattle.esc_term.specs.declared.term.Term.{Term}
use Rattle.esc_term.specs.declared.formula.Formula.{Formula}
use Rattle.esc_term.specs.declared.formula.Formula.TheOpen.{Formula-F}
use Rattle.esc_term.specs.declared.formula.Formula.TheViews.{out-Formula}
use Rattle.esc_term.specs.declared.formula.Quant.{Quant}
use Rattle.esc_term.specs.declared.formula.Item.{Item}
use Rattle.esc_term.specs.Formula.{substituted_quant}
use Rattle.esc_term.specs.Term.{is_ground}
use Rattle.esc_cover.specs.Classes.{active_terms}
use Rattle.esc_nodes.specs.Terms.{term_of, terms_of}
use Rattle.esc_egraph.specs.Graph.{IsGraph}
use Rattle.esc_trigger.specs.Triggers.{triggers}
use Rattle.esc_fact.specs.Base.{Quantified, quantified_in}
use Rattle.esc_fact.specs.Depth.{deep, depth_of_atom, depth_of_term}
use Rattle.esc_fact.specs.Fact.{closed_at, formulas_of, store}
use Rattle.esc_fact.specs.Legal.{HasAtom, HasTerm, made_facts}
use Rattle.esc_fact.specs.declared.base.Base.{Base}
use Rattle.esc_fact.specs.declared.fact.Fact.{Fact}
use Rattle.esc_fact.specs.declared.fact.Fact.TheVariants as fact
use Rattle.esc_maps.specs.declared.map_match.MapMatch.TheVariants as map
use Rattle.esc_rounds.specs.Origins.{first_origin}
use Rattle.esc_rounds.specs.Standing.{Standing}
use Rattle.esc_rounds.specs.declared.draw.Draw.{Draw}
use Rattle.esc_rounds.specs.declared.draw.Draw.TheVariants.{Witness, Map, Instance}
use Rattle.esc_rounds.specs.declared.kept.Kept.{Kept}
use Rattle.esc_rounds.specs.declared.kept.Literal.{Literal}

-- the closed formula with this number and these outer terms
abbrev pub closed_with : Base → ℕ → List Term → Option Formula
closed_with base number outer =
    option_map (λ q. closed_at q outer) (slice_get (quantified_in base) number)

abbrev pub formula_kept : Base → Kept → Option Formula
formula_kept base k = closed_with base k.number k.outer

-- what is kept of a quantified formula is that of its first occurrence in the live facts
pub record IsKept (base : Base) (facts : List Fact) (k : Kept) : Type 0 where
  pub q : Quantified
  pub numbered : slice_get (quantified_in base) k.number ≡ Some q
  pub first : first_origin base facts (closed_at q k.outer)
      ≡ Some (record { number = k.number; outer = k.outer })
  pub atom : HasAtom base facts (closed_at q k.outer)
  pub as_many : length k.outer ≡ q.outer
  pub grounded : IsTrue (list_all is_ground k.outer)
  pub universal : k.universal ≡ q.universal
  pub count : k.count ≡ q.quant.count
  pub triggers_are : k.triggers ≡ triggers (substituted_quant k.outer q.quant 0)
  pub depth : k.depth ≡ depth_of_atom (deep base facts) (closed_at q k.outer)

abbrev pub is_quantified_form : Formula-F Formula Quant → Bool
is_quantified_form (Formula-F.Forall quant) = true
is_quantified_form (Formula-F.Exists quant) = true
is_quantified_form form = false

abbrev pub is_quantified : Item → Bool
is_quantified item = is_quantified_form (out-Formula item.formula)

-- the formula at this place
abbrev pub formula_at : Base → Standing → ℕ → Option Formula
formula_at base s f = option_and_then (formula_kept base) (slice_get s.formulas f)

-- the literal has this formula and sign
abbrev pub IsLiteralOf : Base → Standing → Item → Literal → Type 0
IsLiteralOf base s item literal =
    (formula_at base s literal.formula ≡ Some item.formula) × (literal.holds ≡ item.positive)

-- the draw is that of a live fact, which may go by another number of its formula
abbrev pub IsDrawn : Base → Standing → Fact → Draw → Type 0
IsDrawn base s (fact.Skolem n us) (Witness f) = closed_with base n us ≡ formula_at base s f
IsDrawn base s (fact.Map1 m i x) (Map (map.Write w)) =
    (w < length s.graph.nodes) × (term_of s.graph.nodes w ≡ store m i x)
IsDrawn base s (fact.Map2 m i x j) (Map (map.Read w p)) =
    (w < length s.graph.nodes) × (p < length s.graph.nodes)
    × (term_of s.graph.nodes w ≡ store m i x) × (term_of s.graph.nodes p ≡ j)
IsDrawn base s (fact.Inst n us ts) (Instance f ns) =
    (closed_with base n us ≡ formula_at base s f) × All (λ p. p < length s.graph.nodes) ns
    × (map (term_of s.graph.nodes) ns ≡ ts)
IsDrawn base s _ _ = ⊥

pub record IsStanding (base : Base) (facts : List Fact) (items : List Item) (s : Standing)
    (live : List Draw) : Type 0 where
  pub graph : IsGraph s.graph
  -- the nodes are the active terms, in order
  pub nodes : terms_of s.graph.nodes ≡ active_terms (formulas_of base facts)
  pub depths : (n : ℕ) → n < length s.graph.nodes → HasTerm base facts (term_of s.graph.nodes n)
      → slice_index s.depths n ≡ depth_of_term (deep base facts) (term_of s.graph.nodes n)
  -- a term that stands in no fact lies deeper than all others
  pub bare : (n m : ℕ) → n < length s.graph.nodes → m < length s.graph.nodes
      → (HasTerm base facts (term_of s.graph.nodes n) → ⊥)
      → HasTerm base facts (term_of s.graph.nodes m)
      → slice_index s.depths m < slice_index s.depths n
  pub formulas : All (IsKept base facts) s.formulas
  pub differ : AllPairs (λ k l. formula_kept base k ≢ formula_kept base l) s.formulas
  -- the literals are the quantified ones, in order
  pub literals : AllZip (IsLiteralOf base s) (filter is_quantified items) s.literals
  -- the draws are those of the live facts besides the ones of the base, in order
  pub drawn : AllZip (IsDrawn base s) (made_facts facts) live
