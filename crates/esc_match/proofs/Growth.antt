-- Ways grow exactly where terms match, in order.
use Rattle.std.proofs.Common.{◌≡◌, ℕ, ℤ, ◌<◌, ◌==◌, Bool, true, false, inl, inr, List, []}
use Rattle.std.proofs.Common.{if◌then◌else◌, ◌∷◌, ◌++◌, length, map, refl, ap, sym, subst, ◌∙◌}
use Rattle.std.proofs.Common.{append-nil, arith}
use Rattle.std.specs.Prelude.{Option, Some, None}
use Rattle.std.specs.List.{Contains, flat_map}
use Rattle.std.proofs.lemmas.Bool.{eq-eqb, eqb-true}
use Rattle.std.proofs.lemmas.List.{append_assoc}
use Rattle.std.proofs.lemmas.List.Elements.{All-contains}
use denote.Hole.Carrier.{roll}
use Rattle.esc_term.specs.declared.term.Head.{Head}
use Rattle.esc_term.specs.declared.term.Term.{Term}
use Rattle.esc_term.specs.declared.term.Term.TheVariants.{Num, Var, App}
use Rattle.esc_term.specs.declared.term.Term.TheOpen.{Term-F}
use Rattle.esc_term.specs.declared.term.Term.TheViews.{roll-Term}
use Rattle.esc_term.specs.declared.term.Term.TheFolds.{map-Term, ind-Term}
use Rattle.esc_term.proofs.Members.{Contains-cases, Contains-flat_map, Contains-here}
use Rattle.esc_term.proofs.Members.{Contains-in_flat_map, Contains-later, Contains-none}
use Rattle.esc_term.proofs.Wholes.{of_member}
use Rattle.esc_nodes.specs.Nodes.{shape_at}
use Rattle.esc_nodes.specs.declared.top.Top.TheVariants as top
use Rattle.esc_egraph.specs.Graph.{Graph, IsGraph, number_of}
use Rattle.esc_trigger.specs.Variables.{variables_of}
use Rattle.esc_trigger.proofs.TermLevels.{variables_of-App, variables_of-Num, variables_of-Var}
use Rattle.esc_match.specs.declared.way.Way.{Way}
use Rattle.esc_match.specs.Match.{Match, MatchAll}
use Rattle.esc_match.specs.Match as fits
use Rattle.esc_match.specs.WaysInside.{class_bound, grown, grown_at, grown_at_class, grown_by_all}
use Rattle.esc_match.specs.WaysInside.{grown_by_parts, grown_by_variable, grown_if_any, visited}
use Rattle.esc_match.specs.WaysInside.{visited_with}
use Rattle.esc_match.proofs.ClassLists.{class_candidate, class_candidate_found, class_candidates}
use Rattle.esc_match.proofs.ClassLists.{class_candidates_rise}
use Rattle.esc_match.proofs.GrownLevels.{grown-App, grown-Num, grown-Var}
use Rattle.esc_match.proofs.Inside.{match-App, match-cons}
use Rattle.esc_match.proofs.Inside.{match-none, match-Num, match-Var}
use Rattle.esc_match.proofs.Orders.{InOrder, in_order-flat_map}
use Rattle.esc_match.proofs.Own.{number_own}
use Rattle.esc_match.proofs.Steps.{Agrees, bound_cases, bound_left, bound_one, bound_right, Earlier}
use Rattle.esc_match.proofs.Steps.{Finds, further, Grows, in_turn, IsBound, joined, stays}

pub single : {X : Type 0} (x y : X) → Contains (x ∷ []) y → x ≡ y
single x y h = elim (Contains-cases x [] y h) [
  | inl e ↦ e
  | inr none ↦ absurd (Contains-none y none)
]

single_order : {X : Type 0} (R : X → X → Type 0) (x : X) → InOrder R (x ∷ [])
single_order R x = (λ y h. absurd (Contains-none y h), tt)

-- what a term matches at a node
abbrev pub At : Graph → Term → ℕ → (ℕ → ℕ) → List ℕ → Type 0
At g t n class more = Match g class t n more

abbrev pub AllAt : Graph → List Term → List ℕ → (ℕ → ℕ) → List ℕ → Type 0
AllAt g ts ns class more = MatchAll g class ts ns more

-- the ways of a term are those in which it matches, in order
pub record IsGrown (g : Graph) (t : Term) : Type 0 where
  pub grows : (n : ℕ) (w v : Way) → n < length g.nodes → Contains (grown g t n w) v
      → Grows g (At g t n) (variables_of t) w v
  pub finds : (n : ℕ) (w : Way) → Finds (At g t n) w (grown g t n w)
  pub rises : (n : ℕ) (w : Way) → n < length g.nodes → InOrder Earlier (grown g t n w)

-- ---- a variable

module _ (g : Graph) (graph : IsGraph g) (k n : ℕ) (w : Way) where
  new_grows : n < length g.nodes → class_bound w.bound k ≡ None
      → Grows g (At g (Var k) n) (k ∷ []) w
      (visited_with w (record { variable = k; class = number_of g n }) n)
  new_grows there none =
      let added : class_bound (w.bound ++ record { variable = k; class = number_of g n } ∷ []) k
      ≡ Some (number_of g n) =
      bound_right w.bound (record { variable = k; class = number_of g n } ∷ []) k none
      ∙ bound_one k (number_of g n) in
      record {
        more = n ∷ [];
        matched = refl;
        sound = λ class a. (
          fits.variable (Var k) n (n ∷ []) k refl (sym (a k (number_of g n) added)) refl,
          λ j c e. a j c
              (bound_left w.bound (record { variable = k; class = number_of g n } ∷ []) j c e),
        );
        keys = λ j. (
          (λ b. elim (bound_cases w.bound k (number_of g n) j b.0 b.1) [
            | inl old ↦ inl (b.0, old)
            | inr new ↦ inr (subst (Contains (k ∷ [])) new.0 (Contains-here k []))
          ]),
          (λ either. elim either [
            | inl old ↦ (
              old.0,
              bound_left w.bound
                  (record { variable = k; class = number_of g n } ∷ []) j old.0 old.1,
            )
            | inr named ↦ subst
                (IsBound (visited_with w (record { variable = k; class = number_of g n }) n))
                (single k j named) (number_of g n, added)
          ]),
        );
        good = λ is j c e. elim (bound_cases w.bound k (number_of g n) j c e) [
          | inl old ↦ is j c old
          | inr new ↦ subst (λ d. (d < length g.nodes) × (number_of g d ≡ d)) new.1
              (number_own g graph n there)
        ];
      }

  old_grows : (c : ℕ) → class_bound w.bound k ≡ Some c → c ≡ number_of g n
      → Grows g (At g (Var k) n) (k ∷ []) w (visited w n)
  old_grows c is same = record {
    more = n ∷ [];
    matched = refl;
    sound = λ class a. (
      fits.variable (Var k) n (n ∷ []) k refl (sym same ∙ sym (a k c is)) refl,
      a,
    );
    keys = λ j. (
      λ b. inl b,
      λ either. elim either [
        | inl old ↦ old
        | inr named ↦ subst (IsBound w) (single k j named) (c, is)
      ],
    );
    good = λ good. good;
  }

  variable_grows : (v : Way) → n < length g.nodes → Contains (grown_by_variable g k n w) v
      → Grows g (At g (Var k) n) (k ∷ []) w v
  unfolding grown_by_variable
  variable_grows v there h = go (class_bound w.bound k) refl h
    where
      go : (o : Option ℕ) → class_bound w.bound k ≡ o → Contains (grown_at_class g k n w o) v
          → Grows g (At g (Var k) n) (k ∷ []) w v
      go None is h =
          subst (Grows g (At g (Var k) n) (k ∷ []) w)
          (single (visited_with w (record { variable = k; class = number_of g n }) n) v h)
          (new_grows there is)
      go (Some c) is h = test (c == number_of g n) refl h
        where
          test : (b : Bool) → (c == number_of g n) ≡ b
              → Contains (if b then visited w n ∷ [] else []) v
              → Grows g (At g (Var k) n) (k ∷ []) w v
          test true e h =
              subst (Grows g (At g (Var k) n) (k ∷ []) w) (single (visited w n) v h)
              (old_grows c is (eqb-true c (number_of g n) e))
          test false e h = absurd (Contains-none v h)

  variable_finds : Finds (At g (Var k) n) w (grown_by_variable g k n w)
  unfolding grown_by_variable
  variable_finds class more fit agrees =
      let inside = match-Var g class k n more fit in
      let placed : w.matched ++ n ∷ [] ≡ w.matched ++ more =
      ap (λ ns. w.matched ++ ns) (sym inside.1) in
      go inside.0 placed (class_bound w.bound k) refl
    where
      go : number_of g n ≡ class k → w.matched ++ n ∷ [] ≡ w.matched ++ more → (o : Option ℕ)
          → class_bound w.bound k ≡ o
          → (v : Way) × Contains (grown_at_class g k n w o) v × (v.matched ≡ w.matched ++ more)
          × Agrees class v
      go same placed None is = (
        visited_with w (record { variable = k; class = number_of g n }) n,
        Contains-here (visited_with w (record { variable = k; class = number_of g n }) n) [],
        placed,
        λ j c e. elim (bound_cases w.bound k (number_of g n) j c e) [
          | inl old ↦ agrees j c old
          | inr new ↦ ap class (sym new.0) ∙ (sym same ∙ new.1)
        ],
      )
      go same placed (Some c) is =
          let tested : (c == number_of g n) ≡ true =
          eq-eqb c (number_of g n) (sym (agrees k c is) ∙ sym same) in (
            visited w n,
            subst (λ (b : Bool). Contains (if b then visited w n ∷ [] else []) (visited w n))
                (sym tested) (Contains-here (visited w n) []),
            placed,
            agrees,
          )

  variable_rises : InOrder Earlier (grown_by_variable g k n w)
  unfolding grown_by_variable
  variable_rises = go (class_bound w.bound k)
    where
      go : (o : Option ℕ) → InOrder Earlier (grown_at_class g k n w o)
      go None =
          single_order Earlier (visited_with w (record { variable = k; class = number_of g n }) n)
      go (Some c) = test (c == number_of g n)
        where
          test : (b : Bool) → InOrder Earlier (if b then visited w n ∷ [] else [])
          test true = single_order Earlier (visited w n)
          test false = tt

-- ---- a numeral

module _ (g : Graph) (v : ℤ) (n : ℕ) (w : Way) where
  numeral_grows : (u : Way)
      → Contains (grown_if_any (class_candidates g (top.Num v) n) n w) u
      → Grows g (At g (Num v) n) [] w u
  numeral_grows u h = go (class_candidates g (top.Num v) n) refl h
    where
      go : (ms : List ℕ) → class_candidates g (top.Num v) n ≡ ms
          → Contains (grown_if_any ms n w) u → Grows g (At g (Num v) n) [] w u
      go [] is h = absurd (Contains-none u h)
      go (m ∷ ms) is h =
          let found =
          class_candidate g (top.Num v) n m
          (subst (λ xs. Contains xs m) (sym is) (Contains-here m ms)) in
          subst (Grows g (At g (Num v) n) [] w) (single (visited w n) u h) (record {
            more = n ∷ [];
            matched = refl;
            sound = λ class a. (
              fits.numeral (Num v) n (n ∷ []) v m refl found.0 found.1 found.2 refl,
              a,
            );
            keys = λ j. (
              λ b. inl b,
              λ either. elim either [
                | inl old ↦ old
                | inr none ↦ absurd (Contains-none j none)
              ],
            );
            good = λ good. good;
          })

  numeral_finds : Finds (At g (Num v) n) w (grown_if_any (class_candidates g (top.Num v) n) n w)
  numeral_finds class more fit agrees =
      let inside = match-Num g class v n more fit in
      let found =
      class_candidate_found g (top.Num v) n inside.0.node inside.0.there inside.0.topped
      inside.0.same in (
        visited w n,
        go (class_candidates g (top.Num v) n) inside.0.node found,
        ap (λ ns. w.matched ++ ns) (sym inside.1),
        agrees,
      )
    where
      go : (ms : List ℕ) (m : ℕ) → Contains ms m → Contains (grown_if_any ms n w) (visited w n)
      go [] m h = absurd (Contains-none m h)
      go (x ∷ ms) m h = Contains-here (visited w n) []

  numeral_rises : InOrder Earlier (grown_if_any (class_candidates g (top.Num v) n) n w)
  numeral_rises = go (class_candidates g (top.Num v) n)
    where
      go : (ms : List ℕ) → InOrder Earlier (grown_if_any ms n w)
      go [] = tt
      go (m ∷ ms) = single_order Earlier (visited w n)

-- ---- terms with nodes, place by place

module _ (g : Graph) where
  parts-cons : (t : Term) (ts : List Term) (n : ℕ) (ns : List ℕ) (ws : List Way)
      → grown_by_all g (t ∷ ts) (n ∷ ns) ws ≡ grown_by_all g ts ns (flat_map (grown g t n) ws)
  unfolding grown_by_parts
  parts-cons t ts n ns ws = refl

  parts-nil : (ws : List Way) → grown_by_all g [] [] ws ≡ ws
  unfolding grown_by_parts
  parts-nil ws = refl

  parts-short : (n : ℕ) (ns : List ℕ) (ws : List Way) → grown_by_all g [] (n ∷ ns) ws ≡ []
  unfolding grown_by_parts
  parts-short n ns ws = refl

  parts-long : (t : Term) (ts : List Term) (ws : List Way) → grown_by_all g (t ∷ ts) [] ws ≡ []
  unfolding grown_by_parts
  parts-long t ts ws = refl

  pub all_grows : (ts : List Term) → ((t : Term) → Contains ts t → IsGrown g t) → (ns : List ℕ)
      → ((n : ℕ) → Contains ns n → n < length g.nodes) → (ws : List Way) (v : Way)
      → Contains (grown_by_all g ts ns ws) v
      → (w : Way) × Contains ws w × Grows g (AllAt g ts ns) (flat_map variables_of ts) w v
  all_grows [] each [] there ws v h = (
    v,
    subst (λ xs. Contains xs v) (parts-nil ws) h,
    stays g (AllAt g [] []) v (λ class. fits.none [] [] [] refl refl refl),
  )
  all_grows [] each (n ∷ ns) there ws v h =
      absurd (Contains-none v (subst (λ xs. Contains xs v) (parts-short n ns ws) h))
  all_grows (t ∷ ts) each [] there ws v h =
      absurd (Contains-none v (subst (λ xs. Contains xs v) (parts-long t ts ws) h))
  all_grows (t ∷ ts) each (n ∷ ns) there ws v h =
      let rest =
      all_grows ts (λ u k. each u (Contains-later t ts u k)) ns
      (λ m k. there m (Contains-later n ns m k)) (flat_map (grown g t n) ws) v
      (subst (λ xs. Contains xs v) (parts-cons t ts n ns ws) h) in
      let first = Contains-flat_map (grown g t n) ws rest.0 rest.1 in (
        first.0,
        first.1,
        joined g (At g t n) (AllAt g ts ns) (AllAt g (t ∷ ts) (n ∷ ns)) (variables_of t)
            (flat_map variables_of ts) first.0 rest.0 v
            (λ class ms rest one others.
            fits.more (t ∷ ts) (n ∷ ns) (ms ++ rest) t ts n ns ms rest refl refl one others refl)
            ((each t (Contains-here t ts)).grows n first.0 rest.0 (there n (Contains-here n ns))
            first.2) rest.2,
      )

  pub all_finds : (ts : List Term) → ((t : Term) → Contains ts t → IsGrown g t) → (ns : List ℕ)
      (ws : List Way) (w : Way) → Contains ws w
      → Finds (AllAt g ts ns) w (grown_by_all g ts ns ws)
  all_finds [] each [] ws w h class more fit agrees = (
    w,
    subst (λ xs. Contains xs w) (sym (parts-nil ws)) h,
    sym (append-nil w.matched)
        ∙ ap (λ ns. w.matched ++ ns) (sym (match-none g class [] more fit).1),
    agrees,
  )
  all_finds [] each (n ∷ ns) ws w h class more fit agrees =
      absurd (cc (match-none g class (n ∷ ns) more fit).0)
  all_finds (t ∷ ts) each [] ws w h class more fit agrees =
      absurd (cc (match-cons g class t ts [] more fit).is)
  all_finds (t ∷ ts) each (n ∷ ns) ws w h class more fit agrees =
      let inside = match-cons g class t ts (n ∷ ns) more fit in
      let node : inside.node ≡ n = cc inside.is in
      let nodes : inside.nodes ≡ ns = cc inside.is in
      let one =
      (each t (Contains-here t ts)).finds n w class inside.first
      (subst (λ m. Match g class t m inside.first) node inside.match) agrees in
      let rest =
      all_finds ts (λ u k. each u (Contains-later t ts u k)) ns (flat_map (grown g t n) ws) one.0
      (Contains-in_flat_map (grown g t n) ws w one.0 h one.1) class inside.rest
      (subst (λ ms. MatchAll g class ts ms inside.rest) nodes inside.others) one.3 in (
        rest.0,
        subst (λ xs. Contains xs rest.0) (sym (parts-cons t ts n ns ws)) rest.1,
        in_turn w.matched one.0.matched rest.0.matched inside.first inside.rest more one.2 rest.2
            inside.whole,
        rest.3,
      )

  pub all_rise : (ts : List Term) → ((t : Term) → Contains ts t → IsGrown g t) → (ns : List ℕ)
      → ((n : ℕ) → Contains ns n → n < length g.nodes) → (ws : List Way) → InOrder Earlier ws
      → InOrder Earlier (grown_by_all g ts ns ws)
  all_rise [] each [] there ws order = subst (InOrder Earlier) (sym (parts-nil ws)) order
  all_rise [] each (n ∷ ns) there ws order =
      subst (InOrder Earlier) (sym (parts-short n ns ws)) tt
  all_rise (t ∷ ts) each [] there ws order =
      subst (InOrder Earlier) (sym (parts-long t ts ws)) tt
  all_rise (t ∷ ts) each (n ∷ ns) there ws order =
      let here = each t (Contains-here t ts) in
      let in_range = there n (Contains-here n ns) in
      subst (InOrder Earlier) (sym (parts-cons t ts n ns ws))
      (all_rise ts (λ u k. each u (Contains-later t ts u k)) ns
      (λ m k. there m (Contains-later n ns m k)) (flat_map (grown g t n) ws)
      (in_order-flat_map Earlier Earlier (grown g t n) ws order
      (λ w k. here.rises n w in_range)
      (λ w x a b hw hx before ha hb.
      further g (At g t n) (At g t n) (variables_of t) (variables_of t) w x a b before
      (here.grows n w a in_range ha) (here.grows n x b in_range hb))))

-- ---- an application at candidates

module _ (g : Graph) (graph : IsGraph g) where
  pub args_there : (m : ℕ) → m < length g.nodes → (n : ℕ) → Contains (shape_at g.nodes m).args n
      → n < length g.nodes
  args_there m l n h =
      let below : n < m =
      All-contains (λ a. a < m) (shape_at g.nodes m).args n (graph.terms.older m l) h in
      omega (arith, below, l)

  module _ (ts : List Term) (each : (t : Term) → Contains ts t → IsGrown g t)
      (candidates : List ℕ) (there : (m : ℕ) → Contains candidates m → m < length g.nodes) where
    -- the candidate that a way goes on to
    pub at_grows : (w v : Way) → Contains (grown_at g (map (grown g) ts) candidates w) v
        → (m : ℕ) × Contains candidates m
        × Grows g (AllAt g ts (shape_at g.nodes m).args) (flat_map variables_of ts) (visited w m) v
    at_grows w v h =
        let found =
        Contains-flat_map (λ m. grown_by_all g ts (shape_at g.nodes m).args (visited w m ∷ []))
        candidates v h in
        let inside =
        all_grows g ts each (shape_at g.nodes found.0).args
        (args_there found.0 (there found.0 found.1)) (visited w found.0 ∷ []) v found.2 in (
          found.0,
          found.1,
          subst (λ x. Grows g (AllAt g ts (shape_at g.nodes found.0).args)
              (flat_map variables_of ts) x v)
              (sym (single (visited w found.0) inside.0 inside.1)) inside.2,
        )

    pub at_finds : (w : Way) (m : ℕ) → Contains candidates m → (class : ℕ → ℕ) (inside : List ℕ)
        → MatchAll g class ts (shape_at g.nodes m).args inside → Agrees class w
        → (v : Way) × Contains (grown_at g (map (grown g) ts) candidates w) v
        × (v.matched ≡ w.matched ++ m ∷ inside) × Agrees class v
    at_finds w m h class inside fit agrees =
        let found =
        all_finds g ts each (shape_at g.nodes m).args (visited w m ∷ []) (visited w m)
        (Contains-here (visited w m) []) class inside fit agrees in (
          found.0,
          Contains-in_flat_map
              (λ m. grown_by_all g ts (shape_at g.nodes m).args (visited w m ∷ []))
              candidates m found.0 h found.1,
          found.2 ∙ append_assoc w.matched (m ∷ []) inside,
          found.3,
        )

    -- the place of the candidate, and what follows
    placed : (w v : Way) (m : ℕ)
        → (is : Grows g (AllAt g ts (shape_at g.nodes m).args) (flat_map variables_of ts)
        (visited w m) v) → v.matched ≡ w.matched ++ m ∷ is.more
    placed w v m is = is.matched ∙ append_assoc w.matched (m ∷ []) is.more

    pub at_rise : InOrder (λ a b. a < b) candidates → (w : Way)
        → InOrder Earlier (grown_at g (map (grown g) ts) candidates w)
    at_rise order w =
        in_order-flat_map (λ a b. a < b) Earlier
        (λ m. grown_by_all g ts (shape_at g.nodes m).args (visited w m ∷ [])) candidates order
        (λ m h. all_rise g ts each (shape_at g.nodes m).args (args_there m (there m h))
        (visited w m ∷ []) (single_order Earlier (visited w m)))
        (λ m n a b hm hn less ha hb.
        let first =
        all_grows g ts each (shape_at g.nodes m).args (args_there m (there m hm))
        (visited w m ∷ []) a ha in
        let second =
        all_grows g ts each (shape_at g.nodes n).args (args_there n (there n hn))
        (visited w n ∷ []) b hb in
        let one : Grows g (AllAt g ts (shape_at g.nodes m).args) (flat_map variables_of ts)
        (visited w m) a =
        subst (λ x. Grows g (AllAt g ts (shape_at g.nodes m).args)
        (flat_map variables_of ts) x a) (sym (single (visited w m) first.0 first.1)) first.2 in
        let two : Grows g (AllAt g ts (shape_at g.nodes n).args) (flat_map variables_of ts)
        (visited w n) b =
        subst (λ x. Grows g (AllAt g ts (shape_at g.nodes n).args)
        (flat_map variables_of ts) x b) (sym (single (visited w n) second.0 second.1)) second.2
        in
        record {
          front = w.matched;
          lesser = m;
          greater = n;
          ps_rest = one.more;
          qs_rest = two.more;
          first = placed w a m one;
          second = placed w b n two;
          less = less;
        })

    -- what fits with the candidate's place is what fits inside, if the candidate does
    pub at_whole : (Fits : (ℕ → ℕ) → List ℕ → Type 0) (w v : Way) (m : ℕ)
        → ((class : ℕ → ℕ) (inside : List ℕ) → MatchAll g class ts (shape_at g.nodes m).args inside
        → Fits class (m ∷ inside))
        → Grows g (AllAt g ts (shape_at g.nodes m).args) (flat_map variables_of ts) (visited w m) v
        → Grows g Fits (flat_map variables_of ts) w v
    at_whole Fits w v m whole is = record {
      more = m ∷ is.more;
      matched = placed w v m is;
      sound = λ class a.
          let inside = is.sound class a in
          (whole class is.more inside.0, inside.1);
      keys = is.keys;
      good = is.good;
    }

-- ---- each term

module _ (g : Graph) (graph : IsGraph g) where
  application_grown : (head : Head) (ts : List Term)
      → ((t : Term) → Contains ts t → IsGrown g t) → IsGrown g (App head ts)
  application_grown head ts each = record {
    grows = λ n w v there h.
        let in_range : (m : ℕ) → Contains (class_candidates g (top.App head) n) m
        → m < length g.nodes = λ m k. (class_candidate g (top.App head) n m k).0 in
        let found =
        at_grows g graph ts each (class_candidates g (top.App head) n) in_range w v
        (subst (λ xs. Contains xs v) (grown-App g head ts n w) h) in
        let is = class_candidate g (top.App head) n found.0 found.1 in
        subst (λ names. Grows g (At g (App head ts) n) names w v)
        (sym (variables_of-App head ts))
        (at_whole g graph ts each (class_candidates g (top.App head) n) in_range
        (At g (App head ts) n) w v found.0
        (λ class inside fit. fits.application (App head ts) n (found.0 ∷ inside) head ts found.0
        inside refl is.0 is.1 is.2 fit refl) found.2);
    finds = λ n w class more fit agrees.
        let in_range : (m : ℕ) → Contains (class_candidates g (top.App head) n) m
        → m < length g.nodes = λ m k. (class_candidate g (top.App head) n m k).0 in
        let inside = match-App g class head ts n more fit in
        let found =
        at_finds g graph ts each (class_candidates g (top.App head) n) in_range w inside.node
        (class_candidate_found g (top.App head) n inside.node inside.there inside.topped
        inside.same) class inside.inside inside.args agrees in (
          found.0,
          subst (λ xs. Contains xs found.0) (sym (grown-App g head ts n w)) found.1,
          found.2 ∙ ap (λ ms. w.matched ++ ms) (sym inside.whole),
          found.3,
        );
    rises = λ n w there.
        subst (InOrder Earlier) (sym (grown-App g head ts n w))
        (at_rise g graph ts each (class_candidates g (top.App head) n)
        (λ m k. (class_candidate g (top.App head) n m k).0)
        (class_candidates_rise g (top.App head) n) w);
  }

  grown_form : (y : Term-F ((t : Term) × IsGrown g t))
      → IsGrown g (roll-Term (map-Term ((t : Term) × IsGrown g t) Term (λ e. e.0) y))
  unfolding roll-Term roll
  grown_form (Term-F.Num v) = record {
    grows = λ n w u there h.
        subst (λ names. Grows g (At g (Num v) n) names w u) (sym (variables_of-Num v))
        (numeral_grows g v n w u (subst (λ xs. Contains xs u) (grown-Num g v n w) h));
    finds = λ n w. subst (Finds (At g (Num v) n) w) (sym (grown-Num g v n w))
        (numeral_finds g v n w);
    rises = λ n w there. subst (InOrder Earlier) (sym (grown-Num g v n w)) (numeral_rises g v n w);
  }
  grown_form (Term-F.Var k) = record {
    grows = λ n w u there h.
        subst (λ names. Grows g (At g (Var k) n) names w u) (sym (variables_of-Var k))
        (variable_grows g graph k n w u there
        (subst (λ xs. Contains xs u) (grown-Var g k n w) h));
    finds = λ n w. subst (Finds (At g (Var k) n) w) (sym (grown-Var g k n w))
        (variable_finds g graph k n w);
    rises = λ n w there. subst (InOrder Earlier) (sym (grown-Var g k n w))
        (variable_rises g graph k n w);
  }
  grown_form (Term-F.App head es) =
      application_grown head (map (λ e. e.0) es) (of_member (IsGrown g) es)

  pub is_grown : (t : Term) → IsGrown g t
  is_grown = ind-Term (IsGrown g) (λ x y is. subst (λ z. IsGrown g (roll-Term z)) is (grown_form y))
