-- Reads of maps by the classes of the maps.
use Rattle.std.proofs.Common.{◌≡◌, ℕ, suc, ◌+◌, ◌<◌, ◌↔◌, ◌⊎◌, inl, inr, List, [], ◌∷◌, ◌++◌}
use Rattle.std.proofs.Common.{length}
use Rattle.std.proofs.Common.{drop, get_or, map, take, refl, ap, sym, subst, ◌∙◌, arith, drop-cons}
use lib.Dec.{eqb}
use Rattle.std.specs.List.{Contains, dedup}
use Rattle.std.specs.List.Sorted.{IsPermutation, IsSorted}
use Rattle.std.specs.Ordering.{nat_cmp}
use Rattle.std.proofs.lemmas.List.Kept.{Contains-dedup_nat, Contains-from_dedup}
use Rattle.std.proofs.lemmas.List.Sorted.{Contains-permutation, IsPermutation-sym}
use Rattle.std.proofs.lemmas.Map.Keys.{IsStrictlyIncreasing-dedup, below_from_sorted}
use Rattle.std.proofs.lemmas.Map.Keys.{sorted_from_strictly_increasing}
use Rattle.std.proofs.lemmas.Bool.{cases_eq, cases_lt}
use Rattle.std.proofs.lemmas.List.{get_or_default, take-append-drop}
use Rattle.std.proofs.lemmas.List.Elements.{Contains-append_cases, Contains-append_left}
use Rattle.std.proofs.lemmas.List.Elements.{Contains-append_right, Contains-push}
use Rattle.std.proofs.lemmas.List.Elements.{Contains-push_cases}
use Rattle.esc_term.proofs.Members.{Contains-here, Contains-none}
use Rattle.esc_index.specs.Places.{HasNone, IsLastBefore, entry_at}
use Rattle.esc_nodes.specs.Nodes.{Shape, shape_at}
use Rattle.esc_egraph.specs.Congruence.{IsCongruence}
use Rattle.esc_egraph.specs.Graph.{Graph, number_of}
use Rattle.esc_match.proofs.Orders.{Contains-map, Contains-of_map, in_order-across}
use Rattle.esc_match.proofs.Orders.{in_order-append}
use Rattle.esc_match.proofs.Orders.{in_order-map, in_order-pairs, in_order-weaker}
use Rattle.esc_maps.proofs.Leading.{stands_once}
use Rattle.esc_maps.proofs.Writing.{alike_itself}
use Rattle.esc_maps.specs.Chosen.{StandFor, StandsForClass}
use Rattle.esc_maps.specs.MapMatches.{AreMapMatches, IsMapMatch}
use Rattle.esc_maps.specs.Maps.{IsMapOf, IsReadAt, IsWrite, StandsForWrites, read_of}
use Rattle.esc_maps.specs.ReadsInside.{AreAdded, AreReads, AreReadsOf, AreThose}
use Rattle.esc_maps.specs.ReadsInside.{IsEntered, IsMatchBefore, Rises}
use Rattle.esc_maps.specs.declared.map_match.MapMatch.{MapMatch}
use Rattle.esc_maps.specs.declared.map_match.MapMatch.TheVariants.{Read, Write}

pub pair_is : (p : ℕ × ℕ) (a b : ℕ) → p.0 ≡ a → p.1 ≡ b → p ≡ (a, b)
pair_is (x, y) a b e f = cc

-- ---- entries

module _ (g : Graph) (standing : List ℕ) where
  pub reads_none : AreReads g standing 0 []
  reads_none = record {
    all = λ n m j none. absurd (omega (arith, none));
    only = λ e c. absurd (Contains-none e c);
  }

  module _ (count : ℕ) (entries : List (ℕ × ℕ)) (are : AreReads g standing count entries) where
    pub reads_less : ((m j : ℕ) → shape_at g.nodes count ≡ read_of m j → ⊥)
        → AreReads g standing (count + 1) entries
    reads_less not = record {
      all = λ n m j l is. elim (cases_eq n count) [
        | inl e ↦ absurd (not m j (subst (λ k. shape_at g.nodes k ≡ read_of m j) e is))
        | inr ne ↦ are.all n m j (omega (arith, l, ne)) is
      ];
      only = λ e c.
          let h = are.only e c in
          (h.0, h.1, h.2, omega (arith, h.3), h.4, h.5);
    }

    pub reads_more : (m j : ℕ) → shape_at g.nodes count ≡ read_of m j
        → AreReads g standing (count + 1) (entries ++ (number_of g m, get_or standing j 0) ∷ [])
    reads_more m j at = record {
      all = λ n k i l is. elim (cases_eq n count) [
        | inl e ↦
            let same : read_of m j ≡ read_of k i =
            sym at ∙ subst (λ p. shape_at g.nodes p ≡ read_of k i) e is in
            let args : m ∷ j ∷ [] ≡ k ∷ i ∷ [] = ap (λ (s : Shape). s.args) same in
            let first : m ≡ k = cc in
            let second : j ≡ i = cc in
            subst (λ p. Contains (entries ++ (number_of g m, get_or standing j 0) ∷ [])
            (number_of g p, get_or standing i 0)) first
            (subst (λ p. Contains (entries ++ (number_of g m, get_or standing j 0) ∷ [])
            (number_of g m, get_or standing p 0)) second
            (Contains-push entries (number_of g m, get_or standing j 0)))
        | inr ne ↦ Contains-append_left entries ((number_of g m, get_or standing j 0) ∷ [])
            (number_of g k, get_or standing i 0) (are.all n k i (omega (arith, l, ne)) is)
      ];
      only = λ e c. elim (Contains-push_cases entries (number_of g m, get_or standing j 0) e c) [
        | inl old ↦
            let h = are.only e old in
            (h.0, h.1, h.2, omega (arith, h.3), h.4, h.5)
        | inr new ↦ (count, m, j, omega arith, at, sym new)
      ];
    }

-- ---- what is entered under a number

module _ (entries : List (ℕ × ℕ)) (class : ℕ) (old : List ℕ) where
  pub added_none : AreAdded entries class old old (length entries)
  added_none = record {
    within = omega arith;
    has = λ l. absurd (omega (arith, l));
    kept = λ j c. c;
    only = λ j c. inl c;
    all = λ p low high. absurd (omega (arith, low, high));
  }

  module _ (new : List ℕ) (end : ℕ) (are : AreAdded entries class old new end) where
    pub added_next : (place node : ℕ) → IsLastBefore entries class end place
        → node ≡ (entry_at entries place).1
        → AreAdded entries class old (new ++ node ∷ []) place
    added_next place node last is =
        let there : place < length entries = omega (arith, last.before, are.within) in
        record {
          within = omega (arith, there);
          has = λ l. last.has;
          kept = λ j c. Contains-append_left new (node ∷ []) j (are.kept j c);
          only = λ j c. elim (Contains-push_cases new node j c) [
            | inl before ↦ are.only j before
            | inr e ↦ inr (
              place,
              there,
              get_or_default entries place (class, j) (0, 0) there
                  ∙ pair_is (entry_at entries place) class j last.has (sym is ∙ e),
            )
          ];
          all = λ p low high key. elim (cases_eq p place) [
            | inl e ↦ subst (Contains (new ++ node ∷ []))
                (is ∙ ap (λ k. (entry_at entries k).1) (sym e)) (Contains-push new node)
            | inr ne ↦ elim (cases_lt p end) [
              | inr after ↦ Contains-append_left new (node ∷ []) (entry_at entries p).1
                  (are.all p after high key)
              | inl before ↦ absurd (last.last p (omega (arith, low, ne)) before key)
            ]
          ];
        }

    pub added_done : HasNone entries class 0 end → (j : ℕ)
        → Contains new j ↔ (Contains old j ⊎ Contains entries (class, j))
    added_done none j = (
      are.only j,
      λ either. elim either [
        | inl c ↦ are.kept j c
        | inr c ↦
            let e : entry_at entries c.0 ≡ (class, j) =
            get_or_default entries c.0 (0, 0) (class, j) c.1 ∙ c.2 in
            let key : (entry_at entries c.0).0 ≡ class = ap (λ (x : ℕ × ℕ). x.0) e in
            elim (cases_lt c.0 end) [
              | inr after ↦ subst (Contains new) (ap (λ (x : ℕ × ℕ). x.1) e)
                  (are.all c.0 after c.1 key)
              | inl before ↦ absurd (none c.0 (omega arith) before key)
            ]
      ],
    )

-- ---- sorted places

rises_from : (xs : List ℕ)
    → ((i j : ℕ) → i < j → j < length xs → get_or xs i 0 < get_or xs j 0) → Rises xs
rises_from [] rising = tt
rises_from (x ∷ xs) rising = (
  λ y c.
      let above : x < get_or xs c.0 0 = rising 0 (suc c.0) (omega arith) (omega (arith, c.1)) in
      omega (arith, above, get_or_default xs c.0 0 y c.1, c.2),
  rises_from xs (λ i j before l. rising (suc i) (suc j) (omega (arith, before)) (omega (arith, l))),
)

-- numbers once they are sorted and each is left once
pub places_once : (Is : ℕ → Type 0) (xs ys zs : List ℕ) → ((j : ℕ) → Contains xs j ↔ Is j)
    → IsPermutation xs ys → IsSorted nat_cmp ys → zs ≡ dedup eqb ys → AreThose Is zs
places_once Is xs ys zs are moved sorted e =
    subst (AreThose Is) (sym e) (record {
      exact = λ j. (
        λ c. (are j).0 (Contains-permutation ys xs j (IsPermutation-sym xs ys moved)
            (Contains-from_dedup eqb ys j c)),
        λ is. Contains-dedup_nat ys j (Contains-permutation xs ys j moved ((are j).1 is)),
      );
      rises = rises_from (dedup eqb ys) (λ i j before l.
          below_from_sorted (dedup eqb ys) i j 0
          (sorted_from_strictly_increasing (dedup eqb ys) (IsStrictlyIncreasing-dedup ys sorted))
          before l);
    })

-- ---- the places of a write

abbrev pub ArgsAreOlder : Graph → Type 0
ArgsAreOlder g = (n k d : ℕ) → n < length g.nodes → k < length (shape_at g.nodes n).args
    → get_or (shape_at g.nodes n).args k d < n

pub place_there : (g : Graph) → ArgsAreOlder g → (n m p count : ℕ) → count ≡ length g.nodes
    → n < length g.nodes → shape_at g.nodes n ≡ read_of m p → p < count
place_there g older n m p count e l is =
    let args : (shape_at g.nodes n).args ≡ m ∷ p ∷ [] = ap (λ (s : Shape). s.args) is in
    let lt : 1 < length (shape_at g.nodes n).args =
    subst (λ xs. 1 < length xs) (sym args) (omega arith) in
    let less : p < n = subst (λ xs. get_or xs 1 0 < n) args (older n 1 0 l lt) in
    omega (arith, less, l, e)

module _ (g : Graph) (depths standing : List ℕ) (stand : StandFor g depths standing)
    (closed : IsCongruence g.nodes (number_of g)) (entries : List (ℕ × ℕ))
    (are : AreReads g standing (length g.nodes) entries) (args_below : ArgsAreOlder g) (w : ℕ)
    (w_there : w < length g.nodes)
    (write : IsWrite g w) where
  -- a read under a number, where the write is of its map
  read_under : (class j : ℕ) → Contains entries (class, j)
      → ((m : ℕ) → class ≡ number_of g m → IsMapOf g w m)
      → StandsForClass g depths j × IsReadAt g w j
  read_under class j c of =
      let h = are.only (class, j) c in
      let n = h.0 in
      let m = h.1 in
      let p = h.2 in
      let there : p < length g.nodes = place_there g args_below n m p (length g.nodes) refl h.3 h.4
      in
      let first : class ≡ number_of g m = ap (λ (x : ℕ × ℕ). x.0) h.5 in
      let second : j ≡ get_or standing p 0 = ap (λ (x : ℕ × ℕ). x.1) h.5 in (
        subst (StandsForClass g depths) (sym second) (stand.stand p there),
        record {
          write = w;
          write_there = w_there;
          alike = alike_itself g w;
          read = n;
          read_there = h.3;
          map = m;
          place = p;
          is = h.4;
          of = of m first;
          at = sym (stand.same p there) ∙ ap (number_of g) (sym second);
        },
      )

  -- a node that is entered stands for its class, in which the write is read
  pub entered_read : (j : ℕ) → IsEntered g entries w j → StandsForClass g depths j × IsReadAt g w j
  entered_read j (inl c) = read_under (number_of g w) j c (λ m e. inl e)
  entered_read j (inr c) =
      let arg : get_or (shape_at g.nodes w).args 0 0 ≡ write.0 =
      ap (λ (s : Shape). get_or s.args 0 0) write.3 in
      read_under (number_of g (get_or (shape_at g.nodes w).args 0 0)) j c
      (λ m e. inr (write.0, write.1, write.2, write.3, ap (number_of g) (sym arg) ∙ e))

  pub read_entered : (j : ℕ) → StandsForClass g depths j → IsReadAt g w j → IsEntered g entries w j
  read_entered j stands read =
      let there : read.place < length g.nodes =
      place_there g args_below read.read read.map read.place (length g.nodes) refl read.read_there
      read.is in
      let at : get_or standing read.place 0 ≡ j =
      stands_once g depths (get_or standing read.place 0) j (stand.stand read.place there) stands
      (stand.same read.place there ∙ read.at) in
      let c : Contains entries (number_of g read.map, j) =
      subst (λ p. Contains entries (number_of g read.map, p)) at
      (are.all read.read read.map read.place read.read_there read.is) in
      elim read.of [
        | inl same ↦ inl (subst (λ p. Contains entries (p, j))
            (sym same ∙ closed read.write w read.write_there w_there read.alike) c)
        | inr of ↦
            let args : (shape_at g.nodes read.write).args ≡ of.0 ∷ of.1 ∷ of.2 ∷ [] =
            ap (λ (s : Shape). s.args) of.3 in
            let lt : 0 < length (shape_at g.nodes read.write).args =
            subst (λ xs. 0 < length xs) (sym args) (omega arith) in
            inr (subst (λ p. Contains entries (p, j))
            (sym of.4 ∙ (ap (λ xs. number_of g (get_or xs 0 0)) (sym args)
            ∙ read.alike.args.places 0 lt)) c)
      ]

-- what is entered under two numbers
pub entered_under : (g : Graph) (entries : List (ℕ × ℕ)) (w first second : ℕ)
    (none one two : List ℕ) → none ≡ [] → first ≡ number_of g w
    → second ≡ number_of g (get_or (shape_at g.nodes w).args 0 0)
    → ((j : ℕ) → Contains one j ↔ (Contains none j ⊎ Contains entries (first, j)))
    → ((j : ℕ) → Contains two j ↔ (Contains one j ⊎ Contains entries (second, j)))
    → (j : ℕ) → Contains two j ↔ IsEntered g entries w j
entered_under g entries w first second none one two empty e f to_one to_two j = (
  λ c. elim ((to_two j).0 c) [
    | inl before ↦ elim ((to_one j).0 before) [
      | inl nothing ↦ absurd (Contains-none j (subst (λ xs. Contains xs j) empty nothing))
      | inr under ↦ inl (subst (λ k. Contains entries (k, j)) e under)
    ]
    | inr under ↦ inr (subst (λ k. Contains entries (k, j)) f under)
  ],
  λ either. elim either [
    | inl under ↦ (to_two j).1 (inl ((to_one j).1
        (inr (subst (λ k. Contains entries (k, j)) (sym e) under))))
    | inr under ↦ (to_two j).1 (inr (subst (λ k. Contains entries (k, j)) (sym f) under))
  ],
)

pub those_same : (Is Js : ℕ → Type 0) (nodes : List ℕ) → ((n : ℕ) → Is n → Js n)
    → ((n : ℕ) → Js n → Is n) → AreThose Is nodes → AreThose Js nodes
those_same Is Js nodes to from those = record {
  exact = λ n. (λ c. to n ((those.exact n).0 c), λ is. (those.exact n).1 (from n is));
  rises = those.rises;
}

pub rises_before : (xs : List ℕ) (k : ℕ) → k < length xs → Rises xs → (v : ℕ)
    → Contains (take k xs) v → v < get_or xs k 0
rises_before xs k l rises v c =
    in_order-across (λ m n. m < n) (take k xs) (drop k xs)
    (subst Rises (sym (take-append-drop k xs)) rises) v (get_or xs k 0) c
    (subst (λ ys. Contains ys (get_or xs k 0)) (sym (drop-cons xs k 0 l))
    (Contains-here (get_or xs k 0) (drop (suc k) xs)))

-- ---- the places of several writes

before_read : (w v i j : ℕ) → w < v → IsMatchBefore (Read w i) (Read v j)
before_read w v i j less = record {
  front = 1 ∷ [];
  lesser = w;
  greater = v;
  ps_rest = i ∷ [];
  qs_rest = j ∷ [];
  first = refl;
  second = refl;
  less = less;
}

before_place : (w i j : ℕ) → i < j → IsMatchBefore (Read w i) (Read w j)
before_place w i j less = record {
  front = 1 ∷ w ∷ [];
  lesser = i;
  greater = j;
  ps_rest = [];
  qs_rest = [];
  first = refl;
  second = refl;
  less = less;
}

before_write : (w v : ℕ) → w < v → IsMatchBefore (Write w) (Write v)
before_write w v less = record {
  front = 0 ∷ [];
  lesser = w;
  greater = v;
  ps_rest = [];
  qs_rest = [];
  first = refl;
  second = refl;
  less = less;
}

before_kind : (w v j : ℕ) → IsMatchBefore (Write w) (Read v j)
before_kind w v j = record {
  front = [];
  lesser = 0;
  greater = 1;
  ps_rest = w ∷ [];
  qs_rest = v ∷ j ∷ [];
  first = refl;
  second = refl;
  less = omega arith;
}

module _ (g : Graph) (depths : List ℕ) where
  pub reads_of_none : AreReadsOf g depths [] []
  reads_of_none = record {
    exact = λ m. (λ c. absurd (Contains-none m c), λ h. absurd (Contains-none h.0 h.3));
    ordered = tt;
  }

  pub reads_of_more : (writes : List ℕ) (found : List MapMatch) (w : ℕ) (places : List ℕ)
      → AreReadsOf g depths writes found → ((v : ℕ) → Contains writes v → v < w)
      → AreThose (λ j. StandsForClass g depths j × IsReadAt g w j) places
      → AreReadsOf g depths (writes ++ w ∷ []) (found ++ map (Read w) places)
  reads_of_more writes found w places are below those = record {
    exact = λ m. (
      λ c. elim (Contains-append_cases found (map (Read w) places) m c) [
        | inl old ↦
            let h = (are.exact m).0 old in
            (h.0, h.1, h.2, Contains-append_left writes (w ∷ []) h.0 h.3, h.4, h.5)
        | inr new ↦
            let h = Contains-of_map (Read w) places m new in
            let is = (those.exact h.0).0 h.1 in
            (w, h.0, sym h.2, Contains-push writes w, is.0, is.1)
      ],
      λ h. elim (Contains-push_cases writes w h.0 h.3) [
        | inl old ↦ Contains-append_left found (map (Read w) places) m
            ((are.exact m).1 (h.0, h.1, h.2, old, h.4, h.5))
        | inr e ↦ Contains-append_right found (map (Read w) places) m
            (subst (Contains (map (Read w) places)) (ap (λ v. Read v h.1) e ∙ sym h.2)
            (Contains-map (Read w) places h.1
            ((those.exact h.1).1 (h.4, subst (λ v. IsReadAt g v h.1) (sym e) h.5))))
      ],
    );
    ordered = in_order-append IsMatchBefore found (map (Read w) places) are.ordered
        (in_order-map IsMatchBefore (Read w) places
        (in_order-weaker (λ m n. m < n) (λ i j. IsMatchBefore (Read w i) (Read w j)) places
        (λ i j ci cj. before_place w i j) those.rises))
        (λ a b ca cb.
        let h = (are.exact a).0 ca in
        let k = Contains-of_map (Read w) places b cb in
        subst (λ x. IsMatchBefore x b) (sym h.2) (subst (IsMatchBefore (Read h.0 h.1)) k.2
        (before_read h.0 w h.1 k.0 (below h.0 h.3))));
  }

  -- all of them
  pub are_map_matches : (writes : List ℕ) (reads : List MapMatch)
      → AreThose (StandsForWrites g depths) writes → AreReadsOf g depths writes reads
      → AreMapMatches g depths (map Write writes ++ reads)
  are_map_matches writes reads those are = record {
    exact = λ m. (
      λ c. elim (Contains-append_cases (map Write writes) reads m c) [
        | inl first ↦
            let h = Contains-of_map Write writes m first in
            subst (IsMapMatch g depths) h.2 ((those.exact h.0).0 h.1)
        | inr second ↦
            let h = (are.exact m).0 second in
            subst (IsMapMatch g depths) (sym h.2) ((those.exact h.0).0 h.3, h.4, h.5)
      ],
      has m,
    );
    ordered = in_order-pairs IsMatchBefore (map Write writes ++ reads)
        (in_order-append IsMatchBefore (map Write writes) reads
        (in_order-map IsMatchBefore Write writes
        (in_order-weaker (λ m n. m < n) (λ w v. IsMatchBefore (Write w) (Write v)) writes
        (λ w v cw cv. before_write w v) those.rises))
        are.ordered
        (λ a b ca cb.
        let h = Contains-of_map Write writes a ca in
        let k = (are.exact b).0 cb in
        subst (λ x. IsMatchBefore x b) h.2
        (subst (IsMatchBefore (Write h.0)) (sym k.2) (before_kind h.0 k.0 k.1))));
  }
    where
      has : (m : MapMatch) → IsMapMatch g depths m → Contains (map Write writes ++ reads) m
      has (Write w) is =
          Contains-append_left (map Write writes) reads (Write w)
          (Contains-map Write writes w ((those.exact w).1 is))
      has (Read w j) is =
          Contains-append_right (map Write writes) reads (Read w j)
          ((are.exact (Read w j)).1 (w, j, refl, (those.exact w).1 is.0, is.1, is.2))
