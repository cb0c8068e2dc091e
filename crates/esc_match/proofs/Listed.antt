-- The substitutions of the ways of a trigger are its matches.
use Rattle.std.proofs.Common.{◌≡◌, ℕ, zero, suc, ◌-◌, ◌<◌, ◌==◌, Bool, true, nat_lt, inl, inr}
use Rattle.std.proofs.Common.{List, [], ◌∷◌, length, get_or, map, reverse, ap, sym}
use Rattle.std.proofs.Common.{subst, ◌∙◌, arith}
use Rattle.std.specs.Prelude.{Some}
use Rattle.std.specs.List.{Any, Contains, flat_map, list_all, list_any}
use Rattle.std.proofs.lemmas.Bool.{cases_eq, eqb-true, ltb-true}
use Rattle.std.proofs.lemmas.List.{get_or-reverse}
use Rattle.std.proofs.lemmas.List.Elements.{All-map, Contains-get_or}
use Rattle.std.proofs.lemmas.List.Folds.{Any-from_list_any, list_any-from_Any}
use Rattle.esc_term.specs.declared.term.Term.{Term}
use Rattle.esc_term.proofs.Members.{Contains-here, Contains-none}
use Rattle.esc_cover.proofs.TestLemmas.{all_at, and_left, and_right, any_found}
use Rattle.esc_egraph.specs.Graph.{Graph, IsGraph, number_of}
use Rattle.esc_egraph.specs.Congruence.{AllSame}
use Rattle.esc_trigger.specs.Candidates.{is_application}
use Rattle.esc_trigger.specs.Laws.{is_trigger}
use Rattle.esc_trigger.specs.Variables.{has_all_below, has_number, holds_all, variables_of}
use Rattle.esc_match.specs.declared.substitution.Substitution.{Substitution}
use Rattle.esc_match.specs.declared.way.Way.{Way}
use Rattle.esc_match.specs.Match.{TriggerMatch}
use Rattle.esc_match.specs.Matches.{AreMatches, class_in, WantedMatch}
use Rattle.esc_match.specs.Order.{IsBefore, Precedes}
use Rattle.esc_match.specs.SubstitutionsInside.{first_substitutions, nodes_for, or_zero}
use Rattle.esc_match.specs.SubstitutionsInside.{substitution_of}
use Rattle.esc_match.specs.WaysInside.{class_bound, new_way, trigger_ways}
use Rattle.esc_match.proofs.Firsts.{are_firsts, AreFirsts, FirstBefore}
use Rattle.esc_match.proofs.Growth.{single}
use Rattle.esc_match.proofs.Orders.{Contains-map, in_order-map, in_order-pairs, in_order-weaker}
use Rattle.esc_match.proofs.Steps.{Agrees, bound_nothing, Grows, IsBound, IsGood}
use Rattle.esc_match.proofs.Substitutions.{length-nodes_for, nodes_for-all, nodes_for-same}
use Rattle.esc_match.proofs.Substitutions.{get_or-nodes_for, reverse-nodes_for}
use Rattle.esc_match.proofs.Triggers.{trigger_finds, trigger_grows, trigger_rises, Triggered}

number_there : (count : ℕ) (ns : List ℕ) → has_all_below count ns ≡ true → (k : ℕ) → k < count
    → Contains ns k
unfolding has_all_below
number_there zero ns all k l = absurd (omega (arith, l))
number_there (suc n) ns all k l =
    elim (cases_eq k n) [
      | inl same ↦
          let here = and_left (has_number ns n) (has_all_below n ns) all in
          let found = any_found (λ m. m == n) ns here in
          subst (Contains ns) (eqb-true found.0 n found.2 ∙ sym same) found.1
      | inr apart ↦
          number_there n ns (and_right (has_number ns n) (has_all_below n ns) all) k
          (omega (arith, l, apart))
    ]

module _ (g : Graph) (graph : IsGraph g) (count : ℕ) (trigger : List Term) (wants : ℕ → Bool)
    (is : is_trigger count trigger ≡ true) where
  -- ---- the trigger

  applied : list_all is_application trigger ≡ true
  applied = and_left _ _ (and_left _ _ is)

  full : holds_all count trigger ≡ true
  full = and_right _ _ (and_left _ _ is)

  within : list_all (λ k. nat_lt k count) (flat_map variables_of trigger) ≡ true
  within = and_right _ _ is

  variable_below : (k : ℕ) → Contains (flat_map variables_of trigger) k → k < count
  variable_below k h =
      ltb-true k count
      (all_at (λ j. nat_lt j count) (flat_map variables_of trigger) k within h)

  variable_there : (k : ℕ) → k < count → Contains (flat_map variables_of trigger) k
  variable_there k l = number_there count (flat_map variables_of trigger) full k l

  -- ---- its ways

  ways : List Way
  ways = trigger_ways g trigger (new_way ∷ [])

  goes : (v : Way) → Contains (trigger_ways g trigger (new_way ∷ [])) v
      → Grows g (Triggered g trigger) (flat_map variables_of trigger) new_way v
  goes v h =
      let found = trigger_grows g graph trigger (new_way ∷ []) v h in
      subst (λ w. Grows g (Triggered g trigger) (flat_map variables_of trigger) w v)
      (sym (single new_way found.0 found.1)) found.2

  good : (v : Way) → Contains (trigger_ways g trigger (new_way ∷ [])) v → IsGood g v
  good v h = (goes v h).good (λ k c e. absurd (cc (sym (bound_nothing k) ∙ e)))

  bound_there : (v : Way) → Contains (trigger_ways g trigger (new_way ∷ [])) v → (k : ℕ)
      → k < count → IsBound v k
  bound_there v h k l = ((goes v h).keys k).1 (inr (variable_there k l))

  bound_below : (v : Way) → Contains (trigger_ways g trigger (new_way ∷ [])) v → (k : ℕ)
      → IsBound v k → k < count
  bound_below v h k b = elim (((goes v h).keys k).0 b) [
    | inl none ↦ absurd (cc (sym (bound_nothing k) ∙ none.1))
    | inr named ↦ variable_below k named
  ]

  -- the class of a variable is that of its node
  class_of_bound : (v : Way) → Contains (trigger_ways g trigger (new_way ∷ [])) v → (k c : ℕ)
      → class_bound v.bound k ≡ Some c → class_in g (nodes_for count v.bound) k ≡ c
  class_of_bound v h k c e =
      ap (number_of g) (reverse-nodes_for count v.bound k (bound_below v h k (c, e)) ∙ ap or_zero e)
      ∙ (good v h k c e).1

  agrees : (v : Way) → Contains (trigger_ways g trigger (new_way ∷ [])) v
      → Agrees (class_in g (nodes_for count v.bound)) v
  agrees v h k c e = class_of_bound v h k c e

  way_matches : (v : Way) → Contains (trigger_ways g trigger (new_way ∷ [])) v
      → list_any wants v.matched ≡ true
      → WantedMatch g count trigger wants (nodes_for count v.bound) v.matched
  way_matches v h wanted =
      let goes_on = goes v h in
      let matches : TriggerMatch g (class_in g (nodes_for count v.bound)) trigger goes_on.more =
      (goes_on.sound (class_in g (nodes_for count v.bound)) (agrees v h)).0 in
      record {
        many = length-nodes_for count v.bound;
        there = nodes_for-all (λ n. n < length g.nodes) count v.bound (λ k l.
            let b = bound_there v h k l in
            subst (λ o. or_zero o < length g.nodes) (sym b.1) (good v h k b.0 b.1).0);
        match = subst (TriggerMatch g (class_in g (nodes_for count v.bound)) trigger)
            (sym goes_on.matched) matches;
        wanted = Any-from_list_any wants v.matched wanted;
      }

  -- the way of a match
  record WayOf (members matched : List ℕ) : Type 0 where
    way : Way
    there : Contains (trigger_ways g trigger (new_way ∷ [])) way
    same : way.matched ≡ matched
    agreeing : Agrees (class_in g members) way
    wanted : list_any wants way.matched ≡ true

  way_of : (members matched : List ℕ) → WantedMatch g count trigger wants members matched
      → WayOf members matched
  way_of members matched m =
      let found =
      trigger_finds g graph trigger applied (new_way ∷ []) new_way (Contains-here new_way [])
      (class_in g members) matched m.match (λ k c e. absurd (cc (sym (bound_nothing k) ∙ e))) in
      record {
        way = found.0;
        there = found.1;
        same = found.2;
        agreeing = found.3;
        wanted = ap (list_any wants) found.2 ∙ list_any-from_Any wants matched m.wanted;
      }

  -- ---- what is listed

  found : List Substitution
  found = first_substitutions count wants (trigger_ways g trigger (new_way ∷ []))

  firsts : AreFirsts count wants (trigger_ways g trigger (new_way ∷ []))
      (first_substitutions count wants (trigger_ways g trigger (new_way ∷ [])))
  firsts =
      are_firsts count wants (trigger_ways g trigger (new_way ∷ []))
      (trigger_rises g graph trigger (new_way ∷ []) (λ y h. absurd (Contains-none y h), tt))

  sound_at : (s : Substitution)
      → Contains (first_substitutions count wants (trigger_ways g trigger (new_way ∷ []))) s
      → (matched : List ℕ) × WantedMatch g count trigger wants s.nodes matched
  sound_at s h =
      let from = firsts.from s h in
      subst (λ t. (matched : List ℕ) × WantedMatch g count trigger wants t.nodes matched) from.3
      (from.0.matched, way_matches from.0 from.1 from.2)

  -- nodes whose classes a way has are in the classes of its nodes
  same_nodes : (members : List ℕ) → length members ≡ count → (v : Way)
      → Contains (trigger_ways g trigger (new_way ∷ [])) v → Agrees (class_in g members) v
      → AllSame (number_of g) members (nodes_for count v.bound)
  same_nodes members many v h agreeing = record {
    lengths = many ∙ sym (length-nodes_for count v.bound);
    places = λ k l.
        let in_count : k < count = omega (arith, l, many) in
        let b = bound_there v h (count - 1 - k) (omega (arith, in_count)) in
        let back : get_or (reverse members) (count - 1 - k) 0 ≡ get_or members k 0 =
        get_or-reverse members (count - 1 - k) 0 (omega (arith, l, many))
        ∙ ap (λ i. get_or members i 0) (omega (arith, l, many)) in
        let mine : number_of g (get_or members k 0) ≡ b.0 =
        ap (number_of g) (sym back) ∙ agreeing (count - 1 - k) b.0 b.1 in
        let other : get_or (nodes_for count v.bound) k 0 ≡ b.0 =
        get_or-nodes_for count v.bound k in_count ∙ ap or_zero b.1 in
        mine ∙ (sym (good v h (count - 1 - k) b.0 b.1).1 ∙ ap (number_of g) (sym other));
  }

  complete_at : (members matched : List ℕ) → WantedMatch g count trigger wants members matched
      → Any (AllSame (number_of g) members) (map (λ s. s.nodes)
      (first_substitutions count wants (trigger_ways g trigger (new_way ∷ []))))
  complete_at members matched m =
      let w = way_of members matched m in
      let listed =
      Contains-map (λ s. s.nodes)
      (first_substitutions count wants (trigger_ways g trigger (new_way ∷ [])))
      (substitution_of count w.way) (firsts.all w.way w.there w.wanted) in (
        listed.0,
        nodes_for count w.way.bound,
        listed.1,
        listed.2,
        same_nodes members m.many w.way w.there w.agreeing,
      )

  -- a way that has the classes of another's nodes has its nodes
  same_as : (u v : Way) → Contains (trigger_ways g trigger (new_way ∷ [])) u
      → Contains (trigger_ways g trigger (new_way ∷ [])) v
      → Agrees (class_in g (nodes_for count u.bound)) v
      → substitution_of count v ≡ substitution_of count u
  same_as u v hu hv agreeing =
      ap (λ ns. record { nodes = ns }) (nodes_for-same count v.bound u.bound (λ k l.
      let one = bound_there v hv k l in
      let two = bound_there u hu k l in
      one.1 ∙ (ap (λ c. Some c) (sym (agreeing k one.0 one.1)
      ∙ class_of_bound u hu k two.0 two.1) ∙ sym two.1)))

  precedes : (a b : Substitution)
      → Contains (first_substitutions count wants (trigger_ways g trigger (new_way ∷ []))) a
      → Contains (first_substitutions count wants (trigger_ways g trigger (new_way ∷ []))) b
      → FirstBefore count wants (trigger_ways g trigger (new_way ∷ [])) a b
      → Precedes (WantedMatch g count trigger wants) a.nodes b.nodes
  precedes a b ha hb before =
      let from = firsts.from b hb in (
        before.0.matched,
        subst (λ s. WantedMatch g count trigger wants s.nodes before.0.matched) before.3
            (way_matches before.0 before.1 before.2),
        λ places m.
            let w = way_of b.nodes places m in
            let agreeing : Agrees (class_in g (nodes_for count from.0.bound)) w.way =
            subst (λ s. Agrees (class_in g s.nodes) w.way) (sym from.3) w.agreeing in
            subst (IsBefore before.0.matched) w.same
            (before.4 w.way w.there w.wanted
            (same_as from.0 w.way from.1 w.there agreeing ∙ from.3)),
      )

  pub are_matches : AreMatches g count trigger wants (map (λ s. s.nodes)
      (first_substitutions count wants (trigger_ways g trigger (new_way ∷ []))))
  are_matches = record {
    sound = All-map (λ members. (matched : List ℕ)
        × WantedMatch g count trigger wants members matched) (λ s. s.nodes)
        (first_substitutions count wants (trigger_ways g trigger (new_way ∷ [])))
        (λ k d l. sound_at
        (get_or (first_substitutions count wants (trigger_ways g trigger (new_way ∷ []))) k d)
        (Contains-get_or
        (first_substitutions count wants (trigger_ways g trigger (new_way ∷ []))) k d l));
    complete = complete_at;
    ordered = in_order-pairs (Precedes (WantedMatch g count trigger wants))
        (map (λ s. s.nodes)
        (first_substitutions count wants (trigger_ways g trigger (new_way ∷ []))))
        (in_order-map (Precedes (WantedMatch g count trigger wants)) (λ s. s.nodes)
        (first_substitutions count wants (trigger_ways g trigger (new_way ∷ [])))
        (in_order-weaker (FirstBefore count wants (trigger_ways g trigger (new_way ∷ [])))
        (λ a b. Precedes (WantedMatch g count trigger wants) a.nodes b.nodes)
        (first_substitutions count wants (trigger_ways g trigger (new_way ∷ [])))
        precedes firsts.order));
  }
