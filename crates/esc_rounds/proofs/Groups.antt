-- How a list grows by the draws that are called for at places behind one front.
use Rattle.std.proofs.Common.{◌≡◌, ℕ, ◌+◌, ◌≤◌, ◌↔◌, ◌⊎◌, inl, inr, Bool, true, false, not, IsTrue}
use Rattle.std.proofs.Common.{◌&&◌, if◌then◌else◌, List, [], ◌∷◌, ◌++◌, length, map, refl, ap, sym}
use Rattle.std.proofs.Common.{subst, ◌∙◌, arith, append-nil, true≢false}
use Rattle.std.specs.List.{Contains}
use Rattle.std.proofs.lemmas.List.{append_assoc, map-append}
use Rattle.std.proofs.lemmas.List.Elements.{Contains-append_left, Contains-append_right}
use Rattle.std.proofs.lemmas.List.Elements.{Contains-push, Contains-push_cases}
use Rattle.std.proofs.lemmas.Map.Views.{Contains-from_any, list_any-from_Contains}
use Rattle.esc_term.proofs.Members.{Contains-cases, Contains-here, Contains-none}
use Rattle.esc_match.specs.Order.{Precedes}
use Rattle.esc_match.proofs.Orders.{Contains-map, Contains-of_map, InOrder, in_order-across}
use Rattle.esc_match.proofs.Orders.{in_order-append}
use Rattle.esc_rounds.specs.Called.{CalledAt}
use Rattle.esc_rounds.specs.Due.{is_within}
use Rattle.esc_rounds.specs.KeyInside.{key_of, same_key-is, same_key-equivalence}
use Rattle.esc_rounds.specs.ListingInside.{CalledBefore, IsListedTo, Listed, has_key, pushed}
use Rattle.esc_rounds.specs.ListingInside.{with_all_due, with_due}
use Rattle.esc_rounds.specs.Standing.{Standing}
use Rattle.esc_rounds.specs.declared.draw.Draw.{Draw}
use Rattle.esc_rounds.specs.declared.key.Key.{Key}
use Rattle.esc_rounds.proofs.Places.{Less, before-less, less-before, less_at, less_behind}
use Rattle.esc_rounds.proofs.Places.{less_grown, less_next, less_or_not, less_through, next_length}

-- no draw that is called for has the key of another
abbrev pub KeysDiffer : Standing → Type 0
KeysDiffer s = (a b : Draw) (p q : List ℕ) → CalledAt s a p → CalledAt s b q
    → key_of s.graph a ≡ key_of s.graph b → a ≡ b

-- a place at which something is called for is as long as the bound, or before it
abbrev pub Fits : Standing → List ℕ → Type 0
Fits s bound = (d : Draw) (q : List ℕ) → CalledAt s d q → (length bound ≤ length q) ⊎ Less q bound

-- the draws are those that are called for at places behind a front, in order
pub record AreCalledIn (s : Standing) (front : List ℕ) (n : ℕ) (draws : List Draw) : Type 0 where
  pub from : (d : Draw) → Contains draws d → (q : List ℕ) × CalledAt s d (front ++ n ∷ q)
  pub all : (d : Draw) (q : List ℕ) → CalledAt s d (front ++ n ∷ q) → Contains draws d
  pub ordered : InOrder (Precedes (λ d q. CalledAt s d (front ++ n ∷ q))) draws

-- nothing changes where two bounds part the places alike
pub listed_same : (s : Standing) (live : List Key) (limit : ℕ) (bound next : List ℕ) (now : Listed)
    → ((d : Draw) (p : List ℕ) → CalledAt s d p → Less p bound → Less p next)
    → ((d : Draw) (p : List ℕ) → CalledAt s d p → Less p next → Less p bound)
    → IsListedTo s live limit bound now → IsListedTo s live limit next now
listed_same s live limit bound next now to from is = record {
  exact = λ d. (
    λ c.
        let h = (is.exact d).0 c in (
          (
            h.0.0,
            h.0.1,
            less-before h.0.0 next
                (to d h.0.0 h.0.1 (before-less h.0.0 bound h.0.2)),
          ),
          h.1,
          h.2,
        ),
    λ h. (is.exact d).1 (
      (
        h.0.0,
        h.0.1,
        less-before h.0.0 bound
            (from d h.0.0 h.0.1 (before-less h.0.0 next h.0.2)),
      ),
      h.1,
      h.2,
    ),
  );
  ordered = is.ordered;
  keyed = is.keyed;
}

module _ (s : Standing) (live : List Key) (limit : ℕ) (front : List ℕ) (n : ℕ)
    (unique : KeysDiffer s) (fits : Fits s (front ++ n ∷ [])) where
  abbrev At : Draw → List ℕ → Type 0
  At d q = CalledAt s d (front ++ n ∷ q)

  abbrev Keeps : Draw → Type 0
  Keeps d = (Contains live (key_of s.graph d) → ⊥) × IsTrue (is_within s limit d)

  abbrev Before : Draw → Type 0
  Before d = CalledBefore s (front ++ n ∷ []) d

  -- so far, with the first draws behind the front
  pub record IsGrown (done : List Draw) (now : Listed) : Type 0 where
    pub exact : (d : Draw) → Contains now.list d ↔ ((Before d ⊎ Contains done d) × Keeps d)
    pub ordered : InOrder (Precedes (CalledAt s)) now.list
    pub keyed : now.keys ≡ map (key_of s.graph) now.list

  module _ (done : List Draw) (x : Draw) (now : Listed) (grown : IsGrown done now)
      (order : (d : Draw) → Contains done d → Precedes At d x)
      (done_called : (d : Draw) → Contains done d → (q : List ℕ) × At d q)
      (called : (q : List ℕ) × At x q) where
    -- a draw that is listed is called for
    listed_called : (d : Draw) → Contains now.list d → (p : List ℕ) × CalledAt s d p
    listed_called d c = elim ((grown.exact d).0 c).0 [
      | inl before ↦ (before.0, before.1)
      | inr in_done ↦ let q = done_called d in_done in (front ++ n ∷ q.0, q.1)
    ]

    skipped : (Keeps x → Contains now.list x) → IsGrown (done ++ x ∷ []) now
    skipped has = record {
      exact = λ d. (
        λ c. let h = (grown.exact d).0 c in (
          elim h.0 [
            | inl before ↦ inl before
            | inr in_done ↦ inr (Contains-append_left done (x ∷ []) d in_done)
          ],
          h.1,
        ),
        λ h. elim h.0 [
          | inl before ↦ (grown.exact d).1 (inl before, h.1)
          | inr among ↦ elim (Contains-push_cases done x d among) [
            | inl in_done ↦ (grown.exact d).1 (inr in_done, h.1)
            | inr e ↦ subst (Contains now.list) e (has (subst Keeps (sym e) h.1))
          ]
        ],
      );
      ordered = grown.ordered;
      keyed = grown.keyed;
    }

    -- one with its key is the draw
    found : Contains now.keys (key_of s.graph x) → Contains now.list x
    found c =
        let h = Contains-of_map (key_of s.graph) now.list (key_of s.graph x)
        (subst (λ ks. Contains ks (key_of s.graph x)) grown.keyed c) in
        let p = listed_called h.0 h.1 in
        subst (Contains now.list) (unique h.0 x p.0 (front ++ n ∷ called.0) p.1 called.1 h.2) h.1

    -- what is listed is called for before the draw, where the draw is not listed
    precedes : Keeps x → (Contains now.list x → ⊥) → (d : Draw) → Contains now.list d
        → Precedes (CalledAt s) d x
    precedes keeps absent d c =
        let late = λ (q : List ℕ) (at : CalledAt s x q) (less : Less q (front ++ n ∷ [])).
        absent ((grown.exact x).1
        (inl (q, at, less-before q (front ++ n ∷ []) less), keeps)) in
        elim ((grown.exact d).0 c).0 [
          | inl before ↦ (
            before.0,
            before.1,
            λ q at. elim (fits x q at) [
              | inl long ↦ less-before before.0 q
                  (less_through before.0 (front ++ n ∷ []) q
                  (before-less before.0 (front ++ n ∷ []) before.2) (late q at) long)
              | inr less ↦ absurd (late q at less)
            ],
          )
          | inr in_done ↦
              let first = order d in_done in (
                front ++ n ∷ first.0,
                first.1,
                λ q at.
                    elim (less_or_not q (front ++ (n + 1) ∷ [])) [
                      | inl under ↦ elim (less_next front n q under) [
                        | inl less ↦ absurd (late q at less)
                        | inr (rest, is) ↦
                            let behind : Less (front ++ n ∷ first.0) (front ++ n ∷ rest) =
                            less_behind front (n ∷ first.0) (n ∷ rest)
                            (inr (
                              refl,
                              before-less first.0 rest
                                  (first.2 rest (subst (CalledAt s x) is at)),
                            )) in
                            less-before (front ++ n ∷ first.0) q
                            (subst (Less (front ++ n ∷ first.0)) (sym is) behind)
                      ]
                      | inr beyond ↦ elim (fits x q at) [
                        | inl long ↦ less-before (front ++ n ∷ first.0) q
                            (less_through (front ++ n ∷ first.0) (front ++ (n + 1) ∷ []) q
                            (less_at front n (n + 1) first.0 [] (omega arith)) beyond
                            (subst (λ k. k ≤ length q) (next_length front n (n + 1)) long))
                        | inr less ↦ absurd (late q at less)
                      ]
                    ],
              )
        ]

    listed : Keeps x → (Contains now.list x → ⊥) → IsGrown (done ++ x ∷ []) (pushed s now x)
    listed keeps absent = record {
      exact = λ d. (
        λ c. elim (Contains-push_cases now.list x d c) [
          | inl old ↦ let h = (grown.exact d).0 old in (
            elim h.0 [
              | inl before ↦ inl before
              | inr in_done ↦ inr (Contains-append_left done (x ∷ []) d in_done)
            ],
            h.1,
          )
          | inr e ↦ (
            inr (subst (Contains (done ++ x ∷ [])) e (Contains-push done x)),
            subst Keeps e keeps,
          )
        ],
        λ h. elim h.0 [
          | inl before ↦ Contains-append_left now.list (x ∷ []) d
              ((grown.exact d).1 (inl before, h.1))
          | inr among ↦ elim (Contains-push_cases done x d among) [
            | inl in_done ↦ Contains-append_left now.list (x ∷ []) d
                ((grown.exact d).1 (inr in_done, h.1))
            | inr e ↦ subst (Contains (now.list ++ x ∷ [])) e (Contains-push now.list x)
          ]
        ],
      );
      ordered = in_order-append (Precedes (CalledAt s)) now.list (x ∷ []) grown.ordered
          (λ y c. absurd (Contains-none y c), tt)
          (λ a b ca cb. elim (Contains-cases x [] b cb) [
            | inl e ↦ subst (Precedes (CalledAt s) a) e (precedes keeps absent a ca)
            | inr none ↦ absurd (Contains-none b none)
          ]);
      keyed = ap (λ ks. ks ++ key_of s.graph x ∷ []) grown.keyed
          ∙ sym (map-append (key_of s.graph) now.list (x ∷ []));
    }

    pub grown_next : IsGrown (done ++ x ∷ []) (with_due s live limit now x)
    unfolding with_due
    grown_next =
        go (is_within s limit x) refl (has_key live (key_of s.graph x)) refl
        (has_key now.keys (key_of s.graph x)) refl
      where
        go : (a : Bool) → is_within s limit x ≡ a → (b : Bool)
            → has_key live (key_of s.graph x) ≡ b → (c : Bool)
            → has_key now.keys (key_of s.graph x) ≡ c
            → IsGrown (done ++ x ∷ []) (if a && not b && not c then pushed s now x else now)
        go false within b in_live c in_keys =
            skipped (λ keeps. absurd (true≢false (sym keeps.1 ∙ within)))
        go true within true in_live c in_keys =
            skipped (λ keeps. absurd (keeps.0
            (Contains-from_any (λ j k. (same_key-is j k).0) (key_of s.graph x) live in_live)))
        go true within false in_live true in_keys =
            skipped (λ keeps. found
            (Contains-from_any (λ j k. (same_key-is j k).0) (key_of s.graph x) now.keys in_keys))
        go true within false in_live false in_keys =
            listed (
              λ c. true≢false
                  (sym (list_any-from_Contains same_key-equivalence (key_of s.graph x) live c)
                  ∙ in_live),
              within,
            )
            (λ c. true≢false
            (sym (list_any-from_Contains same_key-equivalence (key_of s.graph x) now.keys
            (subst (λ ks. Contains ks (key_of s.graph x)) (sym grown.keyed)
            (Contains-map (key_of s.graph) now.list x c))) ∙ in_keys))

  grown_all : (rest done : List Draw) (now : Listed) → InOrder (Precedes At) (done ++ rest)
      → ((d : Draw) → Contains (done ++ rest) d → (q : List ℕ) × At d q) → IsGrown done now
      → IsGrown (done ++ rest) (with_all_due s live limit now rest)
  grown_all [] done now order called grown =
      subst (λ ds. IsGrown ds now) (sym (append-nil done)) grown
  grown_all (x ∷ rest) done now order called grown =
      let assoc : done ++ x ∷ [] ++ rest ≡ done ++ (x ∷ rest) = append_assoc done (x ∷ []) rest in
      subst (λ ds. IsGrown ds (with_all_due s live limit (with_due s live limit now x) rest)) assoc
      (grown_all rest (done ++ x ∷ []) (with_due s live limit now x)
      (subst (InOrder (Precedes At)) (sym assoc) order)
      (λ d c. called d (subst (λ ds. Contains ds d) assoc c))
      (grown_next done x now grown
      (λ d c. in_order-across (Precedes At) done (x ∷ rest) order d x c (Contains-here x rest))
      (λ d c. called d (Contains-append_left done (x ∷ rest) d c))
      (called x (Contains-append_right done (x ∷ rest) x (Contains-here x rest)))))

  -- all draws behind the front are considered
  pub listed_group : (draws : List Draw) (now : Listed) → AreCalledIn s front n draws
      → IsListedTo s live limit (front ++ n ∷ []) now
      → IsListedTo s live limit (front ++ (n + 1) ∷ []) (with_all_due s live limit now draws)
  listed_group draws now are is =
      let grown = grown_all draws [] now are.ordered are.from (record {
        exact = λ d. (
          λ c. let h = (is.exact d).0 c in (inl h.0, (h.1, h.2)),
          λ h. elim h.0 [
            | inl before ↦ (is.exact d).1 (before, h.1.0, h.1.1)
            | inr none ↦ absurd (Contains-none d none)
          ],
        );
        ordered = is.ordered;
        keyed = is.keyed;
      }) in record {
        exact = λ d. (
          λ c.
              let h = (grown.exact d).0 c in (
                elim h.0 [
                  | inl before ↦ (
                    before.0,
                    before.1,
                    less-before before.0 (front ++ (n + 1) ∷ [])
                        (less_grown front n before.0
                        (before-less before.0 (front ++ n ∷ []) before.2)),
                  )
                  | inr among ↦
                      let q = are.from d among in (
                        front ++ n ∷ q.0,
                        q.1,
                        less-before (front ++ n ∷ q.0) (front ++ (n + 1) ∷ [])
                            (less_at front n (n + 1) q.0 [] (omega arith)),
                      )
                ],
                h.1.0,
                h.1.1,
              ),
          λ h. (grown.exact d).1 (
            elim (less_next front n h.0.0 (before-less h.0.0 (front ++ (n + 1) ∷ []) h.0.2)) [
              | inl less ↦ inl (h.0.0, h.0.1, less-before h.0.0 (front ++ n ∷ []) less)
              | inr (q, at) ↦ inr (are.all d q (subst (CalledAt s d) at h.0.1))
            ],
            (h.1, h.2),
          ),
        );
        ordered = grown.ordered;
        keyed = grown.keyed;
      }
