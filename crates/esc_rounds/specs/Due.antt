-- Which facts are still due, and the list of a round.
use Rattle.std.specs.Prelude.{◌≡◌, ℕ, ◌+◌, ◌↔◌, Bool, true, nat_le, IsTrue, List, [], ◌∷◌, ◌++◌}
use Rattle.std.specs.Prelude.{map, max}
use Rattle.std.specs.Prelude.{Any, slice_get, slice_index}
use Rattle.std.specs.List.{Contains}
use Rattle.std.specs.Option.{option_map_or}
use Rattle.esc_nodes.specs.Nodes.{shape_at}
use Rattle.esc_egraph.specs.Graph.{Graph, number_of}
use Rattle.esc_fact.specs.Depth.{greatest}
use Rattle.esc_match.specs.Order.{IsInOrder}
use Rattle.esc_maps.specs.declared.map_match.MapMatch.TheVariants as map
use Rattle.esc_rounds.specs.Called.{CalledAt}
use Rattle.esc_rounds.specs.Standing.{Standing}
use Rattle.esc_rounds.specs.declared.draw.Draw.{Draw}
use Rattle.esc_rounds.specs.declared.draw.Draw.TheVariants.{Witness, Map, Instance}
use Rattle.esc_rounds.specs.declared.kind.Kind.{Kind}
use Rattle.esc_rounds.specs.declared.kind.Kind.TheVariants as kind

-- ---- live

-- the kind of a fact, with the quantified formula that it has
abbrev pub kind_of : Draw → Kind
kind_of (Witness f) = kind.Witness f
kind_of (Map (map.Write w)) = kind.Write
kind_of (Map (map.Read w j)) = kind.Read
kind_of (Instance f ns) = kind.Instance f

-- the nodes of the terms of a fact
abbrev pub terms_at : Graph → Draw → List ℕ
terms_at g (Witness f) = []
terms_at g (Map (map.Write w)) = (shape_at g.nodes w).args
terms_at g (Map (map.Read w j)) = (shape_at g.nodes w).args ++ j ∷ []
terms_at g (Instance f ns) = ns

abbrev pub classes_of : Graph → Draw → List ℕ
classes_of g d = map (number_of g) (terms_at g d)

-- a fact of its kind and formula with terms of the same classes is live
abbrev pub IsLive : Graph → List Draw → Draw → Type 0
IsLive g live d =
    Any (λ e. (kind_of e ≡ kind_of d) × (classes_of g e ≡ classes_of g d)) live

-- ---- depth

abbrev pub depth_of_formula : Standing → ℕ → ℕ
depth_of_formula s f = option_map_or (λ k. k.depth) (slice_get s.formulas f) 0

abbrev pub depth_of : Standing → Draw → ℕ
depth_of s (Witness f) = depth_of_formula s f
depth_of s (Map (map.Write w)) = 1 + slice_index s.depths w
depth_of s (Map (map.Read w j)) = 1 + max (slice_index s.depths w) (slice_index s.depths j)
depth_of s (Instance f ns) = 1 + greatest (depth_of_formula s f ∷ map (slice_index s.depths) ns)

-- a witness is as deep as its formula, which lies within the limit
abbrev pub is_within : Standing → ℕ → Draw → Bool
is_within s limit (Witness f) = true
is_within s limit d = nat_le (depth_of s d) limit

-- ---- due

-- a fact that is called for, is not live for congruent terms, and lies within the limit
pub record IsDue (s : Standing) (live : List Draw) (limit : ℕ) (d : Draw) : Type 0 where
  pub place : List ℕ
  pub called : CalledAt s d place
  pub absent : IsLive s.graph live d → ⊥
  pub within : IsTrue (is_within s limit d)

-- the list has exactly the facts that are due, each once, in the order of their first places
pub record IsRound (s : Standing) (live : List Draw) (limit : ℕ) (list : List Draw) : Type 0
  where
    pub exact : (d : Draw) → Contains list d ↔ IsDue s live limit d
    pub ordered : IsInOrder (CalledAt s) list

-- nothing is due
abbrev pub Saturated : Standing → List Draw → ℕ → Type 0
Saturated s live limit = (d : Draw) → IsDue s live limit d → ⊥
