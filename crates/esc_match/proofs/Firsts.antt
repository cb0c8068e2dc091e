-- Of ways in order, the substitutions of those with a wanted node, each at its first place.
use Rattle.std.proofs.Common.{◌≡◌, ℕ, Bool, true, false, if◌then◌else◌, inl, inr, List, []}
use Rattle.std.proofs.Common.{◌∷◌, ◌++◌, refl, ap, sym, subst, ◌∙◌, append-nil, true≢false}
use Rattle.std.specs.List.{Contains, fold, list_any}
use Rattle.std.proofs.lemmas.List.{append_assoc}
use Rattle.std.proofs.lemmas.List.Elements.{Contains-append_left}
use Rattle.std.proofs.lemmas.List.Elements.{Contains-push, Contains-push_cases}
use Rattle.std.proofs.lemmas.Map.Views.{Contains-from_any, list_any-from_Contains}
use Rattle.esc_term.proofs.Members.{Contains-cases, Contains-here, Contains-none}
use Rattle.indexmap.specs.IndexSet.{insert_key}
use Rattle.esc_match.specs.declared.substitution.Substitution.{Substitution}
use Rattle.esc_match.specs.declared.way.Way.{Way}
use Rattle.esc_match.specs.Equal.{same_substitution, same_substitution-is}
use Rattle.esc_match.specs.Equal.{same_substitution-equivalence}
use Rattle.esc_match.specs.SubstitutionsInside.{substitution_of, with_way}
use Rattle.esc_match.proofs.Orders.{InOrder, in_order-across, in_order-append, in_order-weaker}
use Rattle.esc_match.proofs.Steps.{Earlier}

module _ (count : ℕ) (wants : ℕ → Bool) where
  -- the way has a wanted node
  abbrev pub IsWanted : Way → Type 0
  IsWanted w = list_any wants w.matched ≡ true

  -- a way with the first substitution is before each with the second
  abbrev pub FirstBefore : List Way → Substitution → Substitution → Type 0
  FirstBefore ways a b =
      (w : Way) × Contains ways w × IsWanted w × (substitution_of count w ≡ a)
      × ((v : Way) → Contains ways v → IsWanted v → substitution_of count v ≡ b → Earlier w v)

  pub record AreFirsts (ways : List Way) (found : List Substitution) : Type 0 where
    pub from : (s : Substitution) → Contains found s
        → (w : Way) × Contains ways w × IsWanted w × (substitution_of count w ≡ s)
    pub all : (w : Way) → Contains ways w → IsWanted w → Contains found (substitution_of count w)
    pub order : InOrder (FirstBefore ways) found

  module _ (ways : List Way) (found : List Substitution) (w : Way) (are : AreFirsts ways found)
      (later : (v : Way) → Contains ways v → Earlier v w) where
    from_more : (s : Substitution) → Contains found s
        → (v : Way) × Contains (ways ++ w ∷ []) v × IsWanted v × (substitution_of count v ≡ s)
    from_more s h =
        let old = are.from s h in
        (old.0, Contains-append_left ways (w ∷ []) old.0 old.1, old.2, old.3)

    before_more : (a b : Substitution) → FirstBefore ways a b → FirstBefore (ways ++ w ∷ []) a b
    before_more a b is = (
      is.0,
      Contains-append_left ways (w ∷ []) is.0 is.1,
      is.2,
      is.3,
      λ v h wanted e. elim (Contains-push_cases ways w v h) [
        | inl old ↦ is.4 v old wanted e
        | inr new ↦ subst (Earlier is.0) new (later is.0 is.1)
      ],
    )

    order_more : InOrder (FirstBefore (ways ++ w ∷ [])) found
    order_more =
        in_order-weaker (FirstBefore ways) (FirstBefore (ways ++ w ∷ [])) found
        (λ a b ha hb. before_more a b) are.order

    unwanted : list_any wants w.matched ≡ false → AreFirsts (ways ++ w ∷ []) found
    unwanted e = record {
      from = from_more;
      all = λ v h wanted. elim (Contains-push_cases ways w v h) [
        | inl old ↦ are.all v old wanted
        | inr new ↦ absurd (true≢false
            (sym wanted ∙ (ap (λ u. list_any wants u.matched) (sym new) ∙ e)))
      ];
      order = order_more;
    }

    present : Contains found (substitution_of count w) → AreFirsts (ways ++ w ∷ []) found
    present there = record {
      from = from_more;
      all = λ v h wanted. elim (Contains-push_cases ways w v h) [
        | inl old ↦ are.all v old wanted
        | inr new ↦ subst (λ u. Contains found (substitution_of count u)) new there
      ];
      order = order_more;
    }

    absent : IsWanted w → (Contains found (substitution_of count w) → ⊥)
        → AreFirsts (ways ++ w ∷ []) (found ++ substitution_of count w ∷ [])
    absent wanted none = record {
      from = λ s h. elim (Contains-push_cases found (substitution_of count w) s h) [
        | inl old ↦ from_more s old
        | inr new ↦ (w, Contains-push ways w, wanted, new)
      ];
      all = λ v h wants_v. elim (Contains-push_cases ways w v h) [
        | inl old ↦ Contains-append_left found (substitution_of count w ∷ [])
            (substitution_of count v) (are.all v old wants_v)
        | inr new ↦ subst
            (λ u. Contains (found ++ substitution_of count w ∷ []) (substitution_of count u)) new
            (Contains-push found (substitution_of count w))
      ];
      order = in_order-append (FirstBefore (ways ++ w ∷ [])) found (substitution_of count w ∷ [])
          order_more (λ y h. absurd (Contains-none y h), tt)
          (λ a b ha hb.
          let old = are.from a ha in
          let is : substitution_of count w ≡ b = elim
          (Contains-cases (substitution_of count w) [] b hb) [
            | inl e ↦ e
            | inr nowhere ↦ absurd (Contains-none b nowhere)
          ] in (
            old.0,
            Contains-append_left ways (w ∷ []) old.0 old.1,
            old.2,
            old.3,
            λ v h wants_v e. elim (Contains-push_cases ways w v h) [
              | inl before ↦ absurd
                  (none (subst (Contains found) (e ∙ sym is) (are.all v before wants_v)))
              | inr new ↦ subst (Earlier old.0) new (later old.0 old.1)
            ],
          ));
    }

    with_next : AreFirsts (ways ++ w ∷ []) (with_way count wants found w)
    unfolding with_way
    with_next = go (list_any wants w.matched) refl
      where
        go : (b : Bool) → list_any wants w.matched ≡ b
            → AreFirsts (ways ++ w ∷ [])
            (if b then insert_key same_substitution found (substitution_of count w) else found)
        go false e = unwanted e
        go true e = test (list_any (same_substitution (substitution_of count w)) found) refl
          where
            test : (b : Bool)
                → list_any (same_substitution (substitution_of count w)) found ≡ b
                → AreFirsts (ways ++ w ∷ [])
                (if b then found else found ++ substitution_of count w ∷ [])
            test true is =
                present (Contains-from_any (λ x y. (same_substitution-is x y).0)
                (substitution_of count w) found is)
            test false is =
                absent e (λ h. true≢false
                (sym (list_any-from_Contains same_substitution-equivalence (substitution_of count w)
                found h) ∙ is))

  fold_firsts : (ws ways : List Way) (found : List Substitution) → InOrder Earlier (ways ++ ws)
      → AreFirsts ways found → AreFirsts (ways ++ ws) (fold (with_way count wants) found ws)
  fold_firsts [] ways found order are =
      subst (λ vs. AreFirsts vs found) (sym (append-nil ways)) are
  fold_firsts (w ∷ ws) ways found order are =
      let assoc : ways ++ w ∷ [] ++ ws ≡ ways ++ (w ∷ ws) = append_assoc ways (w ∷ []) ws in
      subst (λ vs. AreFirsts vs (fold (with_way count wants) (with_way count wants found w) ws))
      assoc
      (fold_firsts ws (ways ++ w ∷ []) (with_way count wants found w)
      (subst (InOrder Earlier) (sym assoc) order)
      (with_next ways found w are
      (λ v h. in_order-across Earlier ways (w ∷ ws) order v w h (Contains-here w ws))))

  pub are_firsts : (ws : List Way) → InOrder Earlier ws
      → AreFirsts ws (fold (with_way count wants) [] ws)
  are_firsts ws order = fold_firsts ws [] [] order (record {
    from = λ s h. absurd (Contains-none s h);
    all = λ w h wanted. absurd (Contains-none w h);
    order = tt;
  })
