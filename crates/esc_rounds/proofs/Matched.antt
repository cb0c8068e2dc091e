-- The instances of the matches of one trigger.
use Rattle.std.proofs.Common.{◌≡◌, ℕ, suc, ◌<◌, true, IsTrue, List, [], ◌∷◌}
use Rattle.std.proofs.Common.{length, get_or, map, Some, refl, ap, sym, subst, ◌∙◌, arith}
use Rattle.std.specs.Prelude.{slice_get, slice_index}
use Rattle.std.specs.List.{All, AllPairs, Any, Contains}
use Rattle.std.proofs.lemmas.List.{get_or-map, get_or_default, length-map}
use Rattle.std.proofs.lemmas.List.Elements.{All-contains, All-map, All-weaker}
use Rattle.esc_term.specs.declared.term.Term.{Term}
use Rattle.esc_egraph.specs.Congruence.{AllSame}
use Rattle.esc_egraph.specs.Graph.{number_of}
use Rattle.esc_match.specs.Match.{TriggerMatch}
use Rattle.esc_match.specs.Matches.{AreMatches, WantedMatch, class_in}
use Rattle.esc_match.specs.Order.{Precedes}
use Rattle.esc_match.specs.declared.substitution.Substitution.{Substitution}
use Rattle.esc_match.proofs.Coarser.{matches_are_congruent}
use Rattle.esc_match.proofs.Orders.{Contains-map, Contains-of_map, InOrder, in_order-map}
use Rattle.esc_match.proofs.Orders.{in_order-weaker}
use Rattle.esc_maps.specs.Chosen.{StandFor, StandsForClass}
use Rattle.esc_maps.specs.MapMatches.{place_of_match}
use Rattle.esc_rounds.specs.Called.{CalledAt, IsLiteral}
use Rattle.esc_rounds.specs.ListingInside.{instance_at}
use Rattle.esc_rounds.specs.Standing.{Standing}
use Rattle.esc_rounds.specs.declared.draw.Draw.{Draw}
use Rattle.esc_rounds.specs.declared.draw.Draw.TheVariants.{Witness, Map, Instance}
use Rattle.esc_rounds.specs.declared.kept.Kept.{Kept}
use Rattle.esc_rounds.specs.declared.kept.Literal.{Literal}
use Rattle.esc_rounds.proofs.Calls.{same_literal, stand_once}
use Rattle.esc_rounds.proofs.Groups.{AreCalledIn}

-- ---- lists in order

pub in_order-from_pairs : {A : Type 0} (R : A → A → Type 0) (xs : List A) → AllPairs R xs
    → InOrder R xs
in_order-from_pairs R [] pairs = tt
in_order-from_pairs R (x ∷ xs) pairs = (
  λ y c. subst (R x) c.2 (pairs 0 (suc c.0) y (omega arith) (omega (arith, c.1))),
  in_order-from_pairs R xs (λ i j d before l. pairs (suc i) (suc j) d (omega (arith, before))
      (omega (arith, l))),
)

in_order-of_map : {A B : Type 0} (R : B → B → Type 0) (f : A → B) (xs : List A)
    → InOrder R (map f xs) → InOrder (λ x y. R (f x) (f y)) xs
in_order-of_map R f [] order = tt
in_order-of_map R f (x ∷ xs) order = (
  λ y c. order.0 (f y) (Contains-map f xs y c),
  in_order-of_map R f xs order.1,
)

-- ---- nodes that stand for others

same_back : (number : ℕ → ℕ) (ns ms : List ℕ) → AllSame number ns ms → AllSame number ms ns
same_back number ns ms same = record {
  lengths = sym same.lengths;
  places = λ k l. sym (same.places k (subst (λ n. k < n) (sym same.lengths) l));
}

numbers_same : (number : ℕ → ℕ) (ns ms : List ℕ) → AllSame number ns ms
    → map number ns ≡ map number ms
numbers_same number [] [] same = refl
numbers_same number [] (m ∷ ms) same = absurd (omega (arith, same.lengths))
numbers_same number (n ∷ ns) [] same = absurd (omega (arith, same.lengths))
numbers_same number (n ∷ ns) (m ∷ ms) same =
    let head : number n ≡ number m = same.places 0 (omega arith) in
    let rest : map number ns ≡ map number ms =
    numbers_same number ns ms (record {
      lengths = omega (arith, same.lengths);
      places = λ k l. same.places (suc k) (omega (arith, l));
    }) in
    cc

module _ (s : Standing) (standing : List ℕ) (stand : StandFor s.graph s.depths standing) where
  abbrev IsThere : ℕ → Type 0
  IsThere n = n < length s.graph.nodes

  abbrev stood : List ℕ → List ℕ
  stood ns = map (slice_index standing) ns

  stood_same : (ns : List ℕ) → All IsThere ns → AllSame (number_of s.graph) ns (stood ns)
  stood_same ns there = record {
    lengths = sym (length-map ns (slice_index standing));
    places = λ k l.
        sym (stand.same (get_or ns k 0) (there k 0 l))
        ∙ ap (number_of s.graph) (sym (get_or-map (slice_index standing) ns k 0 0 l));
  }

  stood_stand : (ns : List ℕ) → All IsThere ns → All (StandsForClass s.graph s.depths) (stood ns)
  stood_stand ns there =
      All-map (StandsForClass s.graph s.depths) (slice_index standing) ns
      (All-weaker IsThere (λ n. StandsForClass s.graph s.depths (slice_index standing n))
      stand.stand ns there)

  stood_is : (ns ms : List ℕ) → All (StandsForClass s.graph s.depths) ns → All IsThere ms
      → AllSame (number_of s.graph) ns ms → stood ms ≡ ns
  stood_is ns ms all there same =
      stand_once s.graph s.depths (stood ms) ns (stood_stand ms there) all
      (sym (numbers_same (number_of s.graph) ms (stood ms) (stood_same ms there))
      ∙ sym (numbers_same (number_of s.graph) ns ms same))

  -- ---- one trigger of one literal

  module _ (i k f : ℕ) (literal : Literal) (formula : Kept) (trigger : List Term)
      (is : IsLiteral s i f literal formula) (universal : literal.holds ≡ formula.universal)
      (numbered : slice_get formula.triggers k ≡ Some trigger) where
    abbrev IsMatch : List ℕ → List ℕ → Type 0
    IsMatch ns matched = WantedMatch s.graph formula.count trigger (λ n. true) ns matched

    abbrev At : Draw → List ℕ → Type 0
    At d q = CalledAt s d (2 ∷ i ∷ k ∷ q)

    call_of : (m : Substitution) (matched : List ℕ) → IsMatch m.nodes matched
        → At (instance_at f standing m) matched
    call_of m matched match = (
      i,
      k,
      matched,
      record {
        literal = literal;
        formula = formula;
        is = is;
        universal = universal;
        trigger = trigger;
        numbered = numbered;
        many = length-map m.nodes (slice_index standing) ∙ match.many;
        stand = stood_stand m.nodes match.there;
        match = matches_are_congruent s.graph trigger m.nodes (stood m.nodes) matched
            (stood_same m.nodes match.there) match.match;
        some = let l = match.wanted.2 in omega (arith, l);
      },
      refl,
    )

    match_of : (g : ℕ) (ns q : List ℕ) → At (Instance g ns) q
        → (g ≡ f) × IsMatch ns q × All (StandsForClass s.graph s.depths) ns
    match_of g ns q c =
        let calls = c.3 in
        let place : 2 ∷ i ∷ k ∷ q ≡ 2 ∷ c.0 ∷ c.1 ∷ c.2 = c.4 in
        let i_is : i ≡ c.0 = cc in
        let k_is : k ≡ c.1 = cc in
        let q_is : q ≡ c.2 = cc in
        let same = same_literal s i c.0 g literal calls.literal formula calls.formula is.there
        (subst (λ n. slice_get s.formulas n ≡ Some formula) (sym is.formula_is) is.kept) i_is
        calls.is in
        let f_is : g ≡ f = same.0 ∙ is.formula_is in
        let formula_is : calls.formula ≡ formula = same.2 in
        let trigger_its : slice_get calls.formula.triggers c.1 ≡ Some calls.trigger =
        calls.numbered in
        let triggers_is : calls.formula.triggers ≡ formula.triggers =
        ap (λ (x : Kept). x.triggers) formula_is in
        let trigger_is : calls.trigger ≡ trigger = cc in
        let count_is : calls.formula.count ≡ formula.count = ap (λ (x : Kept). x.count) formula_is
        in (
          f_is,
          record {
            many = calls.many ∙ count_is;
            there = All-weaker (StandsForClass s.graph s.depths) IsThere (λ n stands. stands.there)
                ns
                calls.stand;
            match = subst (λ m. TriggerMatch s.graph (class_in s.graph ns) trigger m) (sym q_is)
                (subst (λ t. TriggerMatch s.graph (class_in s.graph ns) t c.2) trigger_is
                calls.match);
            wanted = subst (Any (λ n. IsTrue true)) (sym q_is) (
              0,
              get_or c.2 0 0,
              calls.some,
              get_or_default c.2 0 (get_or c.2 0 0) 0 calls.some,
              refl,
            );
          },
          calls.stand,
        )

    module _ (found : List Substitution) (are : AreMatches s.graph formula.count trigger (λ n. true)
        (map (λ m. m.nodes) found)) where
      sound_at : (m : Substitution) → Contains found m
          → (matched : List ℕ) × IsMatch m.nodes matched
      sound_at m c =
          All-contains (λ ns. (matched : List ℕ) × IsMatch ns matched)
          (map (λ (x : Substitution). x.nodes) found) m.nodes are.sound
          (Contains-map (λ (x : Substitution). x.nodes) found m c)

      pub trigger_called : AreCalledIn s (2 ∷ i ∷ []) k (map (instance_at f standing) found)
      trigger_called = record {
        from = λ d c.
            let h = Contains-of_map (instance_at f standing) found d c in
            let m = sound_at h.0 h.1 in
            (m.0, subst (λ x. At x m.0) h.2 (call_of h.0 m.0 m.1));
        all = has;
        ordered = in_order-map (Precedes At) (instance_at f standing) found
            (in_order-weaker (λ a b. Precedes IsMatch a.nodes b.nodes)
            (λ a b. Precedes At (instance_at f standing a) (instance_at f standing b)) found
            (λ a b ca cb first. (
              first.0,
              call_of a first.0 first.1,
              λ q at.
                  let there = (sound_at b cb).1.there in
                  let match = match_of f (stood b.nodes) q at in
                  first.2 q (record {
                    many = (sound_at b cb).1.many;
                    there = there;
                    match = matches_are_congruent s.graph trigger (stood b.nodes) b.nodes q
                        (same_back (number_of s.graph) b.nodes (stood b.nodes) (stood_same b.nodes
                        there))
                        match.1.match;
                    wanted = match.1.wanted;
                  }),
            ))
            (in_order-of_map (Precedes IsMatch) (λ (x : Substitution). x.nodes) found
            (in_order-from_pairs (Precedes IsMatch) (map (λ (x : Substitution). x.nodes) found)
            are.ordered)));
      }
        where
          has : (d : Draw) (q : List ℕ) → At d q → Contains (map (instance_at f standing) found) d
          has (Witness g) q c =
              let place : 2 ∷ i ∷ k ∷ q ≡ 0 ∷ c.0 ∷ [] = c.2 in
              cc
          has (Map m) q c =
              let place : 2 ∷ i ∷ k ∷ q ≡ 1 ∷ place_of_match m = c.1 in
              cc
          has (Instance g ns) q c =
              let match = match_of g ns q c in
              let any = are.complete ns q match.1 in
              let h = Contains-of_map (λ (x : Substitution). x.nodes) found any.1
              (any.0, any.2, any.3) in
              let there : All IsThere h.0.nodes = (sound_at h.0 h.1).1.there in
              let nodes : stood h.0.nodes ≡ ns =
              stood_is ns h.0.nodes match.2 there
              (subst (AllSame (number_of s.graph) ns) (sym h.2) any.4) in
              let whole : instance_at f standing h.0 ≡ Instance g ns =
              ap (Instance f) nodes ∙ ap (λ x. Instance x ns) (sym match.0) in
              subst (Contains (map (instance_at f standing) found)) whole
              (Contains-map (instance_at f standing) found h.0 h.1)

  pub stood_there : (ns nodes : List ℕ) → All IsThere ns → nodes ≡ stood ns → All IsThere nodes
  stood_there ns nodes there is =
      subst (All IsThere) (sym is)
      (All-weaker (StandsForClass s.graph s.depths) IsThere (λ n stands. stands.there) (stood ns)
      (stood_stand ns there))
