-- How the list of a round grows.
use Rattle.std.specs.Prelude.{◌≡◌, ℕ, Bool, true, false, not, ◌&&◌, if◌then◌else◌, IsTrue, List, []}
use Rattle.std.specs.Prelude.{◌∷◌, ◌++◌, ◌↔◌, map, slice_get, slice_index}
use Rattle.std.specs.List.{Contains, fold, list_any}
use Rattle.std.specs.Option.{option_map_or}
use Rattle.esc_term.specs.declared.term.Term.{Term}
use Rattle.esc_egraph.specs.Graph.{Graph}
use Rattle.esc_match.specs.Matches.{AreMatches}
use Rattle.esc_match.specs.Order.{IsBefore, Precedes}
use Rattle.esc_match.specs.declared.substitution.Substitution.{Substitution}
use Rattle.esc_rounds.specs.Called.{CalledAt}
use Rattle.esc_rounds.specs.Due.{is_within}
use Rattle.esc_rounds.specs.KeyInside.{key_of, same_key}
use Rattle.esc_rounds.specs.Standing.{Standing}
use Rattle.esc_rounds.specs.declared.draw.Draw.{Draw}
use Rattle.esc_rounds.specs.declared.draw.Draw.TheVariants.{Witness, Instance}
use Rattle.esc_rounds.specs.declared.key.Key.{Key}
use Rattle.esc_rounds.specs.declared.kept.Literal.{Literal}
use Rattle.esc_rounds.specs.declared.listing.Listing.{Listing}

-- what is listed, and the keys of it
pub record Listed : Type 0 where
  pub keys : List Key
  pub list : List Draw

abbrev pub listed_in : Listing → Listed
listed_in l = record { keys = l.keys.keys; list = l.list }

abbrev pub has_key : List Key → Key → Bool
has_key keys k = list_any (same_key k) keys

abbrev pub pushed : Standing → Listed → Draw → Listed
pushed s old d =
    record { keys = old.keys ++ key_of s.graph d ∷ []; list = old.list ++ d ∷ [] }

-- the list with the draw if it is due, where these are the keys of what is live
unfoldable pub with_due : Standing → List Key → ℕ → Listed → Draw → Listed
with_due s live limit old d =
    if is_within s limit d && not (has_key live (key_of s.graph d))
    && not (has_key old.keys (key_of s.graph d)) then pushed s old d else old

abbrev pub with_all_due : Standing → List Key → ℕ → Listed → List Draw → Listed
with_all_due s live limit = fold (with_due s live limit)

-- the keys are those of the draws
abbrev pub AreKeysOf : Graph → List Draw → List Key → Type 0
AreKeysOf g draws keys =
    (k : Key) → Contains keys k ↔ ((d : Draw) × Contains draws d × (key_of g d ≡ k))

-- ---- what is called for

abbrev pub count_at : Standing → ℕ → ℕ
count_at s f = option_map_or (λ k. k.count) (slice_get s.formulas f) 0

abbrev pub same_bool : Bool → Bool → Bool
same_bool true b = b
same_bool false b = not b

abbrev pub universal_at : Standing → ℕ → Bool
universal_at s f = option_map_or (λ k. k.universal) (slice_get s.formulas f) false

-- the witness that the literal calls for, if it is existential
abbrev pub witnesses_of : Standing → Literal → List Draw
witnesses_of s literal =
    if same_bool literal.holds (universal_at s literal.formula) then []
    else Witness literal.formula ∷ []

-- the instance at the nodes that stand for the classes of these
abbrev pub instance_at : ℕ → List ℕ → Substitution → Draw
instance_at f standing m = Instance f (map (slice_index standing) m.nodes)

-- the instances of the matches of a trigger are considered
pub record IsTriggerDone (s : Standing) (live : List Key) (limit : ℕ) (standing : List ℕ)
    (f count : ℕ) (trigger : List Term) (old new : Listed) : Type 0 where
  pub found : List Substitution
  pub are : AreMatches s.graph count trigger (λ n. true) (map (λ m. m.nodes) found)
  pub done : new ≡ with_all_due s live limit old (map (instance_at f standing) found)

-- ---- what is listed so far

-- the draw is called for at a place before the bound
abbrev pub CalledBefore : Standing → List ℕ → Draw → Type 0
CalledBefore s bound d = (place : List ℕ) × CalledAt s d place × IsBefore place bound

abbrev pub ArePreceding : Standing → List Draw → Type 0
ArePreceding s [] = Unit {0}
ArePreceding s (d ∷ ds) =
    ((e : Draw) → Contains ds e → Precedes (CalledAt s) d e) × ArePreceding s ds

-- the list has exactly what is due of what is called for before the bound, in order
pub record IsListedTo (s : Standing) (live : List Key) (limit : ℕ) (bound : List ℕ)
    (now : Listed) : Type 0 where
  pub exact : (d : Draw) → Contains now.list d ↔ (CalledBefore s bound d
      × (Contains live (key_of s.graph d) → ⊥) × IsTrue (is_within s limit d))
  pub ordered : ArePreceding s now.list
  pub keyed : now.keys ≡ map (key_of s.graph) now.list
