-- What the theory admits, in terms of literals and told pairs: an assignment is admitted exactly
-- where it satisfies the literals and gives told pairs one value.
use Rattle.std.proofs.Common.{◌≡◌, ℕ, pos, ◌≤ℤ◌, true, false, List, [], ◌∷◌}
use Rattle.std.proofs.Common.{map, sym, subst, arith}
use Rattle.std.specs.List.{All, flat_map}
use Rattle.std.proofs.lemmas.Int.{ints}
use Rattle.std.proofs.lemmas.List.Elements.{All-append, All-cons, All-contains, All-head, All-map}
use Rattle.std.proofs.lemmas.List.Elements.{All-nil, All-tail, All-weaker, Contains-append_left}
use Rattle.esc_term.specs.declared.term.Term.{Term}
use Rattle.esc_term.specs.declared.formula.Item.{Item}
use Rattle.esc_cover.specs.Assignment.{Assignment, Gap, NoneNegative, Satisfies, asked}
use Rattle.esc_cover.specs.Assignment.{asked_form, gap, gap_value, value}
use Rattle.esc_node_terms.proofs.LiteralForms.{out-Distinct}
use Rattle.esc_sharing.specs.Admitted.{both_gaps}
use Rattle.esc_sharing.specs.Literals.{group_item}
use Rattle.esc_sharing.specs.Nodes.{node_term}
use Rattle.esc_sharing.specs.Shared.{AdmitsAll, Shared, items_in, literals_in, told_in}
use Rattle.esc_sharing.proofs.Lists.{All-each, All-flat_map, flat_map-All}

-- ---- told pairs

module _ (x : Assignment) where
  abbrev NotNegative : Gap → Type 0
  NotNegative g = pos 0 ≤ℤ gap_value x g

  pub both_gaps-equal : (s t : Term) → value x s ≡ value x t → NoneNegative x (both_gaps (s, t))
  both_gaps-equal s t e =
      All-cons NotNegative (gap s t false) (gap t s false ∷ []) (omega (arith, ints, e))
      (All-cons NotNegative (gap t s false) [] (omega (arith, ints, e)) (All-nil NotNegative))

  pub equal-both_gaps : (s t : Term) → NoneNegative x (both_gaps (s, t)) → value x s ≡ value x t
  equal-both_gaps s t none =
      omega (
        arith,
        ints,
        All-head NotNegative (gap s t false) (gap t s false ∷ []) none,
        All-head NotNegative (gap t s false) []
            (All-tail NotNegative (gap s t false) (gap t s false ∷ []) none),
      )

  -- each told pair has one value
  abbrev pub GivesOneValue : List (Term × Term) → Type 0
  GivesOneValue told = All (λ pair. value x pair.0 ≡ value x pair.1) told

  pub told_equal : (told : List (Term × Term)) → NoneNegative x (flat_map both_gaps told)
      → GivesOneValue told
  told_equal told none =
      All-weaker (λ (pair : Term × Term). NoneNegative x (both_gaps pair))
      (λ pair. value x pair.0 ≡ value x pair.1) (λ pair h. equal-both_gaps pair.0 pair.1 h) told
      (flat_map-All NotNegative both_gaps told none)

  pub equal_told : (told : List (Term × Term)) → GivesOneValue told
      → NoneNegative x (flat_map both_gaps told)
  equal_told told one =
      All-flat_map NotNegative both_gaps told
      (All-weaker (λ (pair : Term × Term). value x pair.0 ≡ value x pair.1)
      (λ pair. NoneNegative x (both_gaps pair)) (λ pair h. both_gaps-equal pair.0 pair.1 h) told
      one)

-- ---- literals

group_asks_nothing : (x : Assignment) (v : Shared) (group : List ℕ)
    → NoneNegative x (asked (group_item v.graph group))
group_asks_nothing x v group =
    subst (λ form. NoneNegative x (asked_form form true))
    (sym (out-Distinct (map (node_term v.graph) group))) (All-nil (NotNegative x))

module _ (v : Shared) (exact : AdmitsAll v) where
  -- what is admitted satisfies the literals
  pub admitted_satisfies : (x : Assignment) → v.admits x → Satisfies x (literals_in v)
  admitted_satisfies x admitted =
      All-append (λ (item : Item). NoneNegative x (asked item)) (items_in v)
      (map (group_item v.graph) v.groups)
      (flat_map-All (NotNegative x) asked (items_in v) ((exact x).0 admitted).0)
      (All-map (λ (item : Item). NoneNegative x (asked item)) (group_item v.graph) v.groups
      (All-each (λ (group : List ℕ). NoneNegative x (asked (group_item v.graph group))) v.groups
      (λ group h. group_asks_nothing x v group)))

  pub admitted_told : (x : Assignment) → v.admits x → GivesOneValue x (told_in v)
  admitted_told x admitted = told_equal x (told_in v) ((exact x).0 admitted).1

  -- and what satisfies them and gives told pairs one value is admitted
  pub satisfying_admitted : (x : Assignment) → Satisfies x (literals_in v)
      → GivesOneValue x (told_in v) → v.admits x
  satisfying_admitted x satisfies one =
      (exact x).1 (
        All-flat_map (NotNegative x) asked (items_in v)
            (All-each (λ (item : Item). NoneNegative x (asked item)) (items_in v)
            (λ item h. All-contains (λ (other : Item). NoneNegative x (asked other))
            (literals_in v) item satisfies (Contains-append_left (items_in v)
            (map (group_item v.graph) v.groups) item h))),
        equal_told x (told_in v) one,
      )
