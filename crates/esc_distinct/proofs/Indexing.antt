-- The places of a group's nodes, with one node more.
use Rattle.std.proofs.Common.{◌≡◌, ℕ, ◌+◌, ◌<◌, ◌≤◌, Bool, true, false, cond, List, Option, Some}
use Rattle.std.proofs.Common.{None, nat_eq, slice_index, inl, inr, IfSome, IsSome, MatchOption}
use Rattle.std.proofs.Common.{refl, ap, sym, subst, ◌∙◌, arith}
use Rattle.std.proofs.lemmas.Bool.{cases_lt, eqb-true, eqb-false}
use Rattle.esc_distinct.specs.GroupsInside.{AreEnds, AreIndexed}
use Rattle.esc_distinct.specs.declared.group.Places.{Places}

pub indexed_none : (group : List ℕ) (at : ℕ → Option Places) → ((n : ℕ) → at n ≡ None) →
    AreIndexed group 0 at
indexed_none group at none = record {
  ends = λ n. subst (λ o. IfSome o (AreEnds group 0 n)) (sym (none n)) tt;
  all = λ i l. absurd (omega (arith, l));
}

nothing_is_none : IsSome {T = Places} None → ⊥
nothing_is_none h = cc

last_place : (i end : ℕ) → i < end + 1 → end ≤ i → i ≡ end
last_place i end l h = omega (arith, l, h)

module _ (group : List ℕ) (end node first : ℕ) (at new : ℕ → Option Places)
    (is : AreIndexed group end at) (here : slice_index group end ≡ node)
    (begins : MatchOption (at node) (first ≡ end) (λ p. first ≡ p.first))
    (put : (q : ℕ) → new q ≡ cond (nat_eq node q) (Some (record { first = first; last = end }))
    (at q)) where
  -- the node's places now
  with_last : (o : Option Places) → at node ≡ o →
      MatchOption o (first ≡ end) (λ p. first ≡ p.first) →
      AreEnds group (end + 1) node (record { first = first; last = end })
  with_last None e f = record {
    first_is = ap (slice_index group) f ∙ here;
    last_is = here;
    last_there = omega arith;
    between = λ i l same. elim (cases_lt i end) [
      | inl before ↦ absurd (nothing_is_none (subst IsSome (ap at same ∙ e) (is.all i before)))
      | inr after ↦ (omega (arith, f, after), omega (arith, l))
    ];
  }
  with_last (Some p) e f =
      let old : AreEnds group end node p = subst (λ o. IfSome o (AreEnds group end node)) e
      (is.ends node) in
      record {
        first_is = ap (slice_index group) f ∙ old.first_is;
        last_is = here;
        last_there = omega arith;
        between = λ i l same. elim (cases_lt i end) [
          | inl before ↦ (omega (arith, f, (old.between i before same).0), omega (arith, before))
          | inr after ↦ (
            omega (
              arith,
              f,
              old.last_there,
              (old.between p.last old.last_there old.last_is).0,
              after,
            ),
            omega (arith, l),
          )
        ];
      }

  kept : (q : ℕ) → (node ≡ q → ⊥) → (o : Option Places) → IfSome o (AreEnds group end q) →
      IfSome o (AreEnds group (end + 1) q)
  kept q ne None a = tt
  kept q ne (Some p) a = record {
    first_is = a.first_is;
    last_is = a.last_is;
    last_there = omega (arith, a.last_there);
    between = λ i l same. elim (cases_lt i end) [
      | inl before ↦ a.between i before same
      | inr after ↦ absurd
          (ne (sym here ∙ (ap (slice_index group) (sym (last_place i end l after)) ∙ same)))
    ];
  }

  ends_now : (q : ℕ) (b : Bool) → nat_eq node q ≡ b →
      IfSome (cond b (Some (record { first = first; last = end })) (at q))
      (AreEnds group (end + 1) q)
  ends_now q true e =
      subst (λ n. AreEnds group (end + 1) n (record { first = first; last = end }))
      (eqb-true node q e) (with_last (at node) refl begins)
  ends_now q false e = kept q (eqb-false node q e) (at q) (is.ends q)

  is_there : (q : ℕ) (b : Bool) → nat_eq node q ≡ b → (b ≡ false → IsSome (at q)) →
      IsSome (cond b (Some (record { first = first; last = end })) (at q))
  is_there q true e h = refl
  is_there q false e h = h refl

  pub indexed_step : AreIndexed group (end + 1) new
  indexed_step = record {
    ends = λ q. subst (λ o. IfSome o (AreEnds group (end + 1) q)) (sym (put q))
        (ends_now q (nat_eq node q) refl);
    all = λ i l. subst IsSome (sym (put (slice_index group i)))
        (is_there (slice_index group i) (nat_eq node (slice_index group i)) refl
        (λ e. elim (cases_lt i end) [
          | inl before ↦ is.all i before
          | inr after ↦ absurd
              (eqb-false node (slice_index group i) e (sym here
              ∙ ap (slice_index group) (sym (last_place i end l after))))
        ]));
  }
