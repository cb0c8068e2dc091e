-- Leaders of classes.
use Rattle.std.proofs.Common.{◌≡◌, ◌≢◌, ℕ, ◌+◌, ◌<◌, inl, inr, List, length, get_or, refl, ap, sym}
use Rattle.std.proofs.Common.{subst, ◌∙◌, arith, get_or-set_other, get_or-set_same}
use Rattle.std.proofs.Math.ListN.{set, length-set}
use Rattle.std.proofs.lemmas.Bool.{cases_eq, cases_lt}
use Rattle.esc_union.specs.Merges.{SameClass}
use Rattle.esc_egraph.specs.Graph.{Graph, number_of}
use Rattle.esc_maps.specs.Chosen.{IsShallower, IsShallowest, StandFor, StandsForClass}
use Rattle.esc_maps.specs.Maps.{AreAlikeWrites, StandsForWrites}
use Rattle.esc_maps.specs.ChosenInside.{AreLed, StandSoFar}

-- ---- shallower nodes

pub shallower_not : (depths : List ℕ) (a : ℕ) → IsShallower depths a a → ⊥
shallower_not depths a (inl less) = omega (arith, less)
shallower_not depths a (inr same) = omega (arith, same.1)

pub shallower_through : (depths : List ℕ) (a b c : ℕ) → IsShallower depths a b
    → IsShallower depths b c → IsShallower depths a c
shallower_through depths a b c (inl ab) (inl bc) = inl (omega (arith, ab, bc))
shallower_through depths a b c (inl ab) (inr bc) = inl (omega (arith, ab, bc.0))
shallower_through depths a b c (inr ab) (inl bc) = inl (omega (arith, ab.0, bc))
shallower_through depths a b c (inr ab) (inr bc) =
    inr (omega (arith, ab.0, bc.0), omega (arith, ab.1, bc.1))

-- ---- leaders

pub led_none : (g : Graph) (depths leaders : List ℕ) → length leaders ≡ length g.nodes
    → ((k : ℕ) → k < length leaders → get_or leaders k 0 ≡ k) → AreLed g depths leaders 0
led_none g depths leaders count is = record {
  as_many = count;
  there = λ r l. let e = is r (omega (arith, l, count)) in omega (arith, l, e);
  own = λ r l root. ap (number_of g) (is r (omega (arith, l, count)));
  least = λ r m l root none. absurd (omega (arith, none));
}

module _ (g : Graph) (depths leaders : List ℕ) (node root : ℕ) (led : AreLed g depths leaders node)
    (node_there : node < length g.nodes) (root_there : root < length g.nodes)
    (numbered : root ≡ number_of g node) where
  led_kept : (IsShallower depths node (get_or leaders root 0) → ⊥)
      → AreLed g depths leaders (node + 1)
  led_kept not = record {
    as_many = led.as_many;
    there = led.there;
    own = led.own;
    least = λ r m l is_root m_less same shallower. elim (cases_eq m node) [
      | inl e ↦
          let at : root ≡ r = numbered ∙ (ap (number_of g) (sym e) ∙ (same ∙ is_root)) in
          not (subst (λ k. IsShallower depths k (get_or leaders root 0)) e
          (subst (λ k. IsShallower depths m (get_or leaders k 0)) (sym at) shallower))
      | inr ne ↦ led.least r m l is_root (omega (arith, m_less, ne)) same shallower
    ];
  }

  led_set : IsShallower depths node (get_or leaders root 0)
      → AreLed g depths (set leaders root node) (node + 1)
  led_set is =
      let lt : root < length leaders = omega (arith, root_there, led.as_many) in
      let at : get_or (set leaders root node) root 0 ≡ node = rw get_or-set_same in
      let off = λ (r : ℕ) (ne : r ≢ root).
      let e : get_or (set leaders root node) r 0 ≡ get_or leaders r 0 = rw get_or-set_other in e
      in record {
        as_many = length-set leaders root node ∙ led.as_many;
        there = λ r l. elim (cases_eq r root) [
          | inl e ↦ subst (λ k. get_or (set leaders root node) k 0 < length g.nodes) (sym e)
              (subst (λ k. k < length g.nodes) (sym at) node_there)
          | inr ne ↦ subst (λ k. k < length g.nodes) (sym (off r ne)) (led.there r l)
        ];
        own = λ r l is_root. elim (cases_eq r root) [
          | inl e ↦ ap (number_of g)
              (ap (λ k. get_or (set leaders root node) k 0) e ∙ at)
              ∙ (sym numbered ∙ (sym e ∙ sym is_root))
          | inr ne ↦ ap (number_of g) (off r ne) ∙ led.own r l is_root
        ];
        least = λ r m l is_root m_less same shallower. elim (cases_eq r root) [
          | inl e ↦
              let below : IsShallower depths m node = subst (IsShallower depths m) at
              (subst (λ k. IsShallower depths m (get_or (set leaders root node) k 0)) e shallower)
              in
              elim (cases_eq m node) [
                | inl f ↦ shallower_not depths node (subst (λ k. IsShallower depths k node) f below)
                | inr ne ↦ led.least r m l is_root (omega (arith, m_less, ne)) same
                    (subst (λ k. IsShallower depths m (get_or leaders k 0)) (sym e)
                    (shallower_through depths m node (get_or leaders root 0) below is))
              ]
          | inr ne ↦ elim (cases_eq m node) [
            | inl f ↦ absurd (ne (sym is_root ∙ (sym same ∙ (ap (number_of g) f ∙ sym numbered))))
            | inr differ ↦ led.least r m l is_root (omega (arith, m_less, differ)) same
                (subst (IsShallower depths m) (off r ne) shallower)
          ]
        ];
      }

-- ---- standing nodes

pub stands : (g : Graph) (depths leaders standing : List ℕ)
    → AreLed g depths leaders (length g.nodes)
    → StandSoFar g leaders standing (length g.nodes) → StandFor g depths standing
stands g depths leaders standing led so_far = record {
  as_many = so_far.as_many;
  stand = λ n l.
      let root = number_of g n in
      let e = so_far.led n l in
      subst (λ k. IsShallowest g depths (λ m. SameClass (number_of g) m k) k) (sym e) (record {
        there = led.there root (so_far.numbered n l);
        among = refl;
        least = λ m m_there same shallower.
            led.least root m (so_far.numbered n l) (so_far.own n l) m_there
            (same ∙ led.own root (so_far.numbered n l) (so_far.own n l)) shallower;
      });
  same = λ n l.
      ap (number_of g) (so_far.led n l)
      ∙ (led.own (number_of g n) (so_far.numbered n l) (so_far.own n l) ∙ (so_far.own n l));
}

-- ---- one node stands for a class

shallower_one : (depths : List ℕ) (a b : ℕ) → (IsShallower depths a b → ⊥)
    → (IsShallower depths b a → ⊥) → a ≡ b
shallower_one depths a b not not_back =
    elim (cases_lt (get_or depths a 0) (get_or depths b 0)) [
      | inl less ↦ absurd (not (inl less))
      | inr more ↦ elim (cases_lt (get_or depths b 0) (get_or depths a 0)) [
        | inl less ↦ absurd (not_back (inl less))
        | inr most ↦
            let e : get_or depths a 0 ≡ get_or depths b 0 = omega (arith, more, most) in
            elim (cases_lt a b) [
              | inl before ↦ absurd (not (inr (e, before)))
              | inr after ↦ elim (cases_lt b a) [
                | inl before ↦ absurd (not_back (inr (sym e, before)))
                | inr same ↦ omega (arith, after, same)
              ]
            ]
      ]
    ]

pub stands_once : (g : Graph) (depths : List ℕ) (a b : ℕ) → StandsForClass g depths a
    → StandsForClass g depths b → SameClass (number_of g) a b → a ≡ b
stands_once g depths a b first second same =
    shallower_one depths a b (second.least a first.there same)
    (first.least b second.there (sym same))

pub writes_once : (g : Graph) (depths : List ℕ) (a b : ℕ) → StandsForWrites g depths a
    → StandsForWrites g depths b → AreAlikeWrites g a b → AreAlikeWrites g b a → a ≡ b
writes_once g depths a b first second alike back =
    shallower_one depths a b (second.1.least a first.1.there alike)
    (first.1.least b second.1.there back)
