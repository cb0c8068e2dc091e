-- How a list goes from one kind of fact to the next.
use Rattle.std.proofs.Common.{◌≡◌, ◌≢◌, ℕ, zero, suc, ◌+◌, ◌<◌, ◌≤◌, ◌⊎◌, inl, inr, Bool, true}
use Rattle.std.proofs.Common.{false}
use Rattle.std.proofs.Common.{if◌then◌else◌, List, [], ◌∷◌, length, map, Some}
use Rattle.std.proofs.Common.{refl, ap, sym, subst, ◌∙◌, arith, true≢false}
use Rattle.std.specs.Prelude.{slice_get}
use Rattle.std.specs.List.{Contains}
use Rattle.std.specs.Option.{option_map_or}
use Rattle.esc_term.proofs.Members.{Contains-cases, Contains-here, Contains-none}
use Rattle.esc_match.specs.Order.{IsBefore, Precedes}
use Rattle.esc_match.proofs.Orders.{Contains-map, Contains-of_map, in_order-map}
use Rattle.esc_match.proofs.Orders.{in_order-weaker, in_order-pairs}
use Rattle.esc_maps.specs.MapMatches.{AreMapMatches, place_of_match}
use Rattle.esc_maps.specs.declared.map_match.MapMatch.{MapMatch}
use Rattle.esc_maps.specs.declared.map_match.MapMatch.TheVariants as map_match
use Rattle.esc_maps.specs.Chosen.{StandsForClass}
use Rattle.std.proofs.lemmas.Bool.{cases_eq}
use Rattle.std.proofs.lemmas.List.Elements.{All-weaker}
use Rattle.esc_rounds.specs.Called.{CalledAt, IsLiteral}
use Rattle.esc_rounds.specs.Due.{IsRound, classes_of, kind_of}
use Rattle.esc_rounds.specs.KeyInside.{key_of}
use Rattle.esc_rounds.specs.ListingInside.{AreKeysOf, IsListedTo, Listed, same_bool}
use Rattle.esc_rounds.specs.ListingInside.{universal_at, witnesses_of}
use Rattle.esc_rounds.specs.Standing.{IsDrawable, Standing}
use Rattle.esc_rounds.specs.declared.draw.Draw.{Draw}
use Rattle.esc_rounds.specs.declared.draw.Draw.TheVariants.{Witness, Map, Instance}
use Rattle.esc_rounds.specs.declared.key.Key.{Key}
use Rattle.esc_rounds.specs.declared.kept.Kept.{Kept}
use Rattle.esc_rounds.specs.declared.kept.Literal.{Literal}
use Rattle.esc_rounds.proofs.Calls.{IsPlace, called_place, same_literal}
use Rattle.esc_rounds.proofs.Groups.{AreCalledIn, listed_same}
use Rattle.esc_rounds.proofs.Matched.{in_order-from_pairs}
use Rattle.esc_rounds.proofs.Places.{Less, before-less, less-before, less_none}

-- a list has an element at each place that is there
pub get-there : {A : Type 0} (xs : List A) (i : ℕ) (x : A) → slice_get xs i ≡ Some x → i < length xs
get-there [] i x e = cc
get-there (y ∷ xs) zero x e = omega arith
get-there (y ∷ xs) (suc i) x e = let l = get-there xs i x e in omega (arith, l)

same_bool-true : (a b : Bool) → same_bool a b ≡ true → a ≡ b
same_bool-true true b e = sym e
same_bool-true false true e = absurd (true≢false (sym e))
same_bool-true false false e = refl

same_bool-false : (a b : Bool) → same_bool a b ≡ false → a ≢ b
same_bool-false true b e same = true≢false (same ∙ e)
same_bool-false false true e same = true≢false (sym same)
same_bool-false false false e same = true≢false e

module _ (s : Standing) where
  -- nothing is called for at first
  pub listed_none : (live : List Key) (limit : ℕ)
      → IsListedTo s live limit (0 ∷ 0 ∷ []) (record { keys = []; list = [] })
  listed_none live limit = record {
    exact = λ d. (
      λ c. absurd (Contains-none d c),
      λ h. absurd (none h.0.0 (called_place s d h.0.0 h.0.1)
          (before-less h.0.0 (0 ∷ 0 ∷ []) h.0.2)),
    );
    ordered = tt;
    keyed = refl;
  }
    where
      none : (p : List ℕ) → IsPlace p → Less p (0 ∷ 0 ∷ []) → ⊥
      none p (inl h) less = first (subst (λ q. Less q (0 ∷ 0 ∷ [])) h.1 less)
        where
          first : Less (0 ∷ h.0 ∷ []) (0 ∷ 0 ∷ []) → ⊥
          first (inl l) = omega (arith, l)
          first (inr (e, inl l)) = omega (arith, l)
          first (inr (e, inr (f, rest))) = rest
      none p (inr (inl h)) less = first (subst (λ q. Less q (0 ∷ 0 ∷ [])) h.3 less)
        where
          first : Less (1 ∷ h.0 ∷ h.1 ∷ h.2) (0 ∷ 0 ∷ []) → ⊥
          first (inl l) = omega (arith, l)
          first (inr (e, rest)) = omega (arith, e)
      none p (inr (inr h)) less = first (subst (λ q. Less q (0 ∷ 0 ∷ [])) h.3 less)
        where
          first : Less (2 ∷ h.0 ∷ h.1 ∷ h.2) (0 ∷ 0 ∷ []) → ⊥
          first (inl l) = omega (arith, l)
          first (inr (e, rest)) = omega (arith, e)

  -- ---- witnesses

  pub witness_called : (i : ℕ) (literal : Literal) (formula : Kept)
      → slice_get s.literals i ≡ Some literal → slice_get s.formulas literal.formula ≡ Some formula
      → AreCalledIn s (0 ∷ []) i (witnesses_of s literal)
  witness_called i literal formula there kept =
      go (same_bool literal.holds (universal_at s literal.formula)) refl
    where
      at : universal_at s literal.formula ≡ formula.universal
      at = ap (λ o. option_map_or (λ (k : Kept). k.universal) o false) kept

      its : (f : ℕ) (q : List ℕ) → CalledAt s (Witness f) (0 ∷ i ∷ q)
          → (f ≡ literal.formula) × (literal.holds ≢ formula.universal)
      its f q c =
          let place : 0 ∷ i ∷ q ≡ 0 ∷ c.0 ∷ [] = c.2 in
          let i_is : i ≡ c.0 = cc in
          let same = same_literal s i c.0 f literal c.1.literal formula c.1.formula there kept i_is
          c.1.is in (
            same.0,
            λ e. c.1.existential (ap (λ (l : Literal). l.holds) same.1
                ∙ (e ∙ sym (ap (λ (k : Kept). k.universal) same.2))),
          )

      go : (b : Bool) → same_bool literal.holds (universal_at s literal.formula) ≡ b
          → AreCalledIn s (0 ∷ []) i (if b then [] else Witness literal.formula ∷ [])
      go true e = record {
        from = λ d c. absurd (Contains-none d c);
        all = has;
        ordered = tt;
      }
        where
          has : (d : Draw) (q : List ℕ) → CalledAt s d (0 ∷ i ∷ q) → Contains [] d
          has (Witness f) q c =
              absurd ((its f q c).1 (same_bool-true literal.holds (universal_at s literal.formula) e
              ∙ at))
          has (Map m) q c = let place : 0 ∷ i ∷ q ≡ 1 ∷ place_of_match m = c.1 in cc
          has (Instance f ns) q c =
              let place : 0 ∷ i ∷ q ≡ 2 ∷ c.0 ∷ c.1 ∷ c.2 = c.4 in cc
      go false e = record {
        from = λ d c. elim (Contains-cases (Witness literal.formula) [] d c) [
          | inl same ↦ subst (λ x. (q : List ℕ) × CalledAt s x (0 ∷ i ∷ q)) same (
            [],
            (
              i,
              record {
                literal = literal;
                formula = formula;
                is = record { there = there; formula_is = refl; kept = kept };
                existential = λ f. same_bool-false literal.holds (universal_at s literal.formula) e
                    (f ∙ sym at);
              },
              refl,
            ),
          )
          | inr none ↦ absurd (Contains-none d none)
        ];
        all = has;
        ordered = (λ y c. absurd (Contains-none y c), tt);
      }
        where
          has : (d : Draw) (q : List ℕ) → CalledAt s d (0 ∷ i ∷ q)
              → Contains (Witness literal.formula ∷ []) d
          has (Witness f) q c =
              subst (λ n. Contains (Witness literal.formula ∷ []) (Witness n)) (sym (its f q c).0)
              (Contains-here (Witness literal.formula) [])
          has (Map m) q c = let place : 0 ∷ i ∷ q ≡ 1 ∷ place_of_match m = c.1 in cc
          has (Instance f ns) q c =
              let place : 0 ∷ i ∷ q ≡ 2 ∷ c.0 ∷ c.1 ∷ c.2 = c.4 in cc

  -- behind the last literal come the facts about maps
  pub witnesses_passed : (live : List Key) (limit count : ℕ) (now : Listed)
      → count ≡ length s.literals → IsListedTo s live limit (0 ∷ count ∷ []) now
      → IsListedTo s live limit (1 ∷ []) now
  witnesses_passed live limit count now e =
      listed_same s live limit (0 ∷ count ∷ []) (1 ∷ []) now
      (λ d p c less. to p (called_place s d p c) less) from
    where
      to : (p : List ℕ) → IsPlace p → Less p (0 ∷ count ∷ []) → Less p (1 ∷ [])
      to p (inl h) less = subst (λ q. Less q (1 ∷ [])) (sym h.1) (inl (omega arith))
      to p (inr (inl h)) less = absurd (none (subst (λ q. Less q (0 ∷ count ∷ [])) h.3 less))
        where
          none : Less (1 ∷ h.0 ∷ h.1 ∷ h.2) (0 ∷ count ∷ []) → ⊥
          none (inl l) = omega (arith, l)
          none (inr (f, rest)) = omega (arith, f)
      to p (inr (inr h)) less = absurd (none (subst (λ q. Less q (0 ∷ count ∷ [])) h.3 less))
        where
          none : Less (2 ∷ h.0 ∷ h.1 ∷ h.2) (0 ∷ count ∷ []) → ⊥
          none (inl l) = omega (arith, l)
          none (inr (f, rest)) = omega (arith, f)

      from : (d : Draw) (p : List ℕ) → CalledAt s d p → Less p (1 ∷ []) → Less p (0 ∷ count ∷ [])
      from (Witness f) p c less =
          let l = get-there s.literals c.0 c.1.literal c.1.is.there in
          subst (λ q. Less q (0 ∷ count ∷ [])) (sym c.2)
          (inr (refl, inl (omega (arith, l, e))))
      from (Map m) p c less = absurd (not_one m (subst (λ q. Less q (1 ∷ [])) c.1 less))
        where
          not_one : (m : MapMatch) → Less (1 ∷ place_of_match m) (1 ∷ []) → ⊥
          not_one m (inl l) = omega (arith, l)
          not_one m (inr (f, rest)) = less_none (place_of_match m) rest
      from (Instance f ns) p c less = absurd (not_one (subst (λ q. Less q (1 ∷ [])) c.4 less))
        where
          not_one : Less (2 ∷ c.0 ∷ c.1 ∷ c.2) (1 ∷ []) → ⊥
          not_one (inl l) = omega (arith, l)
          not_one (inr (g, rest)) = omega (arith, g)

  -- ---- facts about maps

  pub maps_called : (found : List MapMatch) → AreMapMatches s.graph s.depths found
      → AreCalledIn s [] 1 (map Map found)
  maps_called found are = record {
    from = λ d c.
        let h = Contains-of_map Map found d c in
        subst (λ x. (q : List ℕ) × CalledAt s x (1 ∷ q)) h.2
        (place_of_match h.0, ((are.exact h.0).0 h.1, refl));
    all = has;
    ordered = in_order-map (Precedes (λ d q. CalledAt s d (1 ∷ q))) Map found
        (in_order-weaker (λ a b. IsBefore (place_of_match a) (place_of_match b))
        (λ a b. Precedes (λ d q. CalledAt s d (1 ∷ q)) (Map a) (Map b)) found
        (λ a b ca cb before. (
          place_of_match a,
          ((are.exact a).0 ca, refl),
          λ q at.
              let place : 1 ∷ q ≡ 1 ∷ place_of_match b = at.1 in
              let q_is : place_of_match b ≡ q = cc in
              subst (IsBefore (place_of_match a)) q_is before,
        ))
        (in_order-from_pairs (λ a b. IsBefore (place_of_match a) (place_of_match b)) found
        are.ordered));
  }
    where
      has : (d : Draw) (q : List ℕ) → CalledAt s d (1 ∷ q) → Contains (map Map found) d
      has (Witness f) q c = let place : 1 ∷ q ≡ 0 ∷ c.0 ∷ [] = c.2 in cc
      has (Map m) q c = Contains-map Map found m ((are.exact m).1 c.0)
      has (Instance f ns) q c = let place : 1 ∷ q ≡ 2 ∷ c.0 ∷ c.1 ∷ c.2 = c.4 in cc

  -- ---- instances

  -- the parts of a place of an instance
  abbrev pub IsInstanceAt : Draw → List ℕ → Type 0
  IsInstanceAt d p = (i k : ℕ) × (r : List ℕ) × (p ≡ 2 ∷ i ∷ k ∷ r)
      × ((literal : Literal) × (formula : Kept) × (f : ℕ) × IsLiteral s i f literal formula
      × (literal.holds ≡ formula.universal) × (k < length formula.triggers))

  -- what is called for is an instance, or stands before all instances
  instance_or_less : (d : Draw) (p : List ℕ) → CalledAt s d p
      → IsInstanceAt d p ⊎ ((n : ℕ) (ns : List ℕ) → 2 ≤ n → Less p (n ∷ ns))
  instance_or_less (Witness f) p c =
      inr (λ n ns l. subst (λ q. Less q (n ∷ ns)) (sym c.2) (inl (omega (arith, l))))
  instance_or_less (Map m) p c =
      inr (λ n ns l. subst (λ q. Less q (n ∷ ns)) (sym c.1) (inl (omega (arith, l))))
  instance_or_less (Instance f ns) p c =
      inl (
        c.0,
        c.1,
        c.2,
        c.4,
        (
          c.3.literal,
          c.3.formula,
          f,
          c.3.is,
          c.3.universal,
          get-there c.3.formula.triggers c.1 c.3.trigger c.3.numbered,
        ),
      )

  -- two bounds part the places alike where they part those of instances alike
  instances_same : (live : List Key) (limit a b : ℕ) (xs ys : List ℕ) (now : Listed) → 2 ≤ a
      → 2 ≤ b → ((d : Draw) (p : List ℕ) → IsInstanceAt d p → Less p (a ∷ xs) → Less p (b ∷ ys))
      → ((d : Draw) (p : List ℕ) → IsInstanceAt d p → Less p (b ∷ ys) → Less p (a ∷ xs))
      → IsListedTo s live limit (a ∷ xs) now → IsListedTo s live limit (b ∷ ys) now
  instances_same live limit a b xs ys now high higher to from =
      listed_same s live limit (a ∷ xs) (b ∷ ys) now
      (λ d p c less. elim (instance_or_less d p c) [
        | inl is ↦ to d p is less
        | inr early ↦ early b ys higher
      ])
      (λ d p c less. elim (instance_or_less d p c) [
        | inl is ↦ from d p is less
        | inr early ↦ early a xs high
      ])

  -- ---- the bounds of instances

  starts : (i k n : ℕ) (r ns : List ℕ) → Less (2 ∷ i ∷ k ∷ r) (2 ∷ n ∷ ns)
      → (i < n) ⊎ ((i ≡ n) × Less (k ∷ r) ns)
  starts i k n r ns (inl l) = absurd (omega (arith, l))
  starts i k n r ns (inr (e, inl l)) = inl l
  starts i k n r ns (inr (e, inr rest)) = inr rest

  pub first_literal : (live : List Key) (limit : ℕ) (now : Listed)
      → IsListedTo s live limit (2 ∷ []) now → IsListedTo s live limit (2 ∷ 0 ∷ []) now
  first_literal live limit now =
      instances_same live limit 2 2 [] (0 ∷ []) now (omega arith) (omega arith)
      (λ d p is less. absurd (none is.0 is.1 is.2
      (subst (λ q. Less q (2 ∷ [])) is.3 less)))
      (λ d p is less. elim (starts is.0 is.1 0 is.2 []
      (subst (λ q. Less q (2 ∷ 0 ∷ [])) is.3 less)) [
        | inl l ↦ absurd (omega (arith, l))
        | inr rest ↦ absurd rest.1
      ])
    where
      none : (i k : ℕ) (r : List ℕ) → Less (2 ∷ i ∷ k ∷ r) (2 ∷ []) → ⊥
      none i k r (inl l) = omega (arith, l)
      none i k r (inr (e, rest)) = rest

  pub first_trigger : (live : List Key) (limit i : ℕ) (now : Listed)
      → IsListedTo s live limit (2 ∷ i ∷ []) now → IsListedTo s live limit (2 ∷ i ∷ 0 ∷ []) now
  first_trigger live limit i now =
      instances_same live limit 2 2 (i ∷ []) (i ∷ 0 ∷ []) now (omega arith) (omega arith)
      (λ d p is less. subst (λ q. Less q (2 ∷ i ∷ 0 ∷ [])) (sym is.3)
      (elim (starts is.0 is.1 i is.2 [] (subst (λ q. Less q (2 ∷ i ∷ [])) is.3 less)) [
        | inl l ↦ inr (refl, inl l)
        | inr rest ↦ absurd rest.1
      ]))
      (λ d p is less. subst (λ q. Less q (2 ∷ i ∷ [])) (sym is.3)
      (elim (starts is.0 is.1 i is.2 (0 ∷ []) (subst (λ q. Less q (2 ∷ i ∷ 0 ∷ [])) is.3 less)) [
        | inl l ↦ inr (refl, inl l)
        | inr rest ↦ absurd (zero_none is.1 is.2 rest.1)
      ]))
    where
      zero_none : (k : ℕ) (r : List ℕ) → Less (k ∷ r) (0 ∷ []) → ⊥
      zero_none k r (inl l) = omega (arith, l)
      zero_none k r (inr (e, rest)) = less_none r rest

  -- behind the triggers of a literal that is universal, if it is, comes the next literal
  next_literal : (live : List Key) (limit i : ℕ) (ns : List ℕ) (now : Listed)
      → ((k : ℕ) (r : List ℕ) → Less (k ∷ r) ns → Unit {0})
      → ((d : Draw) (p : List ℕ) → (at : IsInstanceAt d p) → at.0 ≡ i → Less (at.1 ∷ at.2) ns)
      → IsListedTo s live limit (2 ∷ i ∷ ns) now → IsListedTo s live limit (2 ∷ (i + 1) ∷ []) now
  next_literal live limit i ns now any passed =
      instances_same live limit 2 2 (i ∷ ns) ((i + 1) ∷ []) now (omega arith) (omega arith)
      (λ d p is less. subst (λ q. Less q (2 ∷ (i + 1) ∷ [])) (sym is.3)
      (elim (starts is.0 is.1 i is.2 ns (subst (λ q. Less q (2 ∷ i ∷ ns)) is.3 less)) [
        | inl l ↦ inr (refl, inl (omega (arith, l)))
        | inr rest ↦ inr (refl, inl (let e = rest.0 in omega (arith, e)))
      ]))
      (λ d p is less. subst (λ q. Less q (2 ∷ i ∷ ns)) (sym is.3)
      (elim (starts is.0 is.1 (i + 1) is.2 []
      (subst (λ q. Less q (2 ∷ (i + 1) ∷ [])) is.3 less)) [
        | inl l ↦ elim (cases_eq is.0 i) [
          | inl e ↦ inr (refl, inr (e, passed d p is e))
          | inr ne ↦ inr (refl, inl (omega (arith, l, ne)))
        ]
        | inr rest ↦ absurd rest.1
      ]))

  pub passed_literal : (live : List Key) (limit i : ℕ) (literal : Literal) (formula : Kept)
      (now : Listed) → slice_get s.literals i ≡ Some literal
      → slice_get s.formulas literal.formula ≡ Some formula → literal.holds ≢ formula.universal
      → IsListedTo s live limit (2 ∷ i ∷ []) now → IsListedTo s live limit (2 ∷ (i + 1) ∷ []) now
  passed_literal live limit i literal formula now there kept existential =
      next_literal live limit i [] now (λ k r less. tt)
      (λ d p at e.
      let h = at.4 in
      let same = same_literal s i at.0 h.2 literal h.0 formula h.1 there kept (sym e) h.3 in
      existential (ap (λ (l : Literal). l.holds) (sym same.1)
      ∙ (h.4 ∙ ap (λ (k : Kept). k.universal) same.2)))

  pub passed_triggers : (live : List Key) (limit i count : ℕ) (literal : Literal) (formula : Kept)
      (now : Listed) → slice_get s.literals i ≡ Some literal
      → slice_get s.formulas literal.formula ≡ Some formula → count ≡ length formula.triggers
      → IsListedTo s live limit (2 ∷ i ∷ count ∷ []) now
      → IsListedTo s live limit (2 ∷ (i + 1) ∷ []) now
  passed_triggers live limit i count literal formula now there kept many =
      next_literal live limit i (count ∷ []) now (λ k r less. tt)
      (λ d p at e.
      let h = at.4 in
      let same = same_literal s i at.0 h.2 literal h.0 formula h.1 there kept (sym e) h.3 in
      let fits : length h.1.triggers ≡ length formula.triggers =
      ap (λ (k : Kept). length k.triggers) same.2 in
      let l = h.5 in
      inl (omega (arith, l, fits, many)))

  pub passed_literals : (live : List Key) (limit count : ℕ) (now : Listed)
      → count ≡ length s.literals → IsListedTo s live limit (2 ∷ count ∷ []) now
      → IsListedTo s live limit (3 ∷ []) now
  passed_literals live limit count now e =
      instances_same live limit 2 3 (count ∷ []) [] now (omega arith) (omega arith)
      (λ d p is less. subst (λ q. Less q (3 ∷ [])) (sym is.3) (inl (omega arith)))
      (λ d p is less. subst (λ q. Less q (2 ∷ count ∷ [])) (sym is.3)
      (let l = get-there s.literals is.0 is.4.0 is.4.3.there in
      inr (refl, inl (omega (arith, l, e)))))

  -- ---- the round

  pub is_round : (live : List Draw) (keys : List Key) (limit : ℕ) (now : Listed)
      → AreKeysOf s.graph live keys → IsListedTo s keys limit (3 ∷ []) now
      → IsRound s live limit now.list
  is_round live keys limit now are is = record {
    exact = λ d. (
      λ c.
          let h = (is.exact d).0 c in
          record {
            place = h.0.0;
            called = h.0.1;
            absent = λ any. h.1 ((are (key_of s.graph d)).1 (
              any.1,
              (any.0, any.2, any.3),
              key_is any.1 d any.4.0 any.4.1,
            ));
            within = h.2;
          },
      λ due. (is.exact d).1 (
        (
          due.place,
          due.called,
          less-before due.place (3 ∷ [])
              (last due.place (called_place s d due.place due.called)),
        ),
        λ c. due.absent (
            let h = (are (key_of s.graph d)).0 c in (
              h.1.0,
              h.0,
              h.1.1,
              h.1.2,
              (ap (λ (k : Key). k.kind) h.2, ap (λ (k : Key). k.classes) h.2),
            )),
        due.within,
      ),
    );
    ordered = in_order-pairs (Precedes (CalledAt s)) now.list is.ordered;
  }
    where
      key_is : (a b : Draw) → kind_of a ≡ kind_of b
          → classes_of s.graph a ≡ classes_of s.graph b → key_of s.graph a ≡ key_of s.graph b
      key_is a b kinds classes = cc

      last : (p : List ℕ) → IsPlace p → Less p (3 ∷ [])
      last p (inl h) = subst (λ q. Less q (3 ∷ [])) (sym h.1) (inl (omega arith))
      last p (inr (inl h)) = subst (λ q. Less q (3 ∷ [])) (sym h.3) (inl (omega arith))
      last p (inr (inr h)) = subst (λ q. Less q (3 ∷ [])) (sym h.3) (inl (omega arith))

  -- what is called for can be drawn
  pub called_drawable : (d : Draw) (p : List ℕ) → CalledAt s d p
      → IsDrawable s.graph s.formulas d
  called_drawable (Witness f) p c = get-there s.formulas f c.1.formula c.1.is.kept
  called_drawable (Map (map_match.Write w)) p c = (c.0.1.there, c.0.0)
  called_drawable (Map (map_match.Read w j)) p c = (c.0.0.1.there, c.0.0.0, c.0.1.there)
  called_drawable (Instance f ns) p c = (
    get-there s.formulas f c.3.formula c.3.is.kept,
    All-weaker (StandsForClass s.graph s.depths) (λ n. n < length s.graph.nodes)
        (λ n stands. stands.there) ns c.3.stand,
  )
