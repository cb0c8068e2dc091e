-- The ways of a trigger are those in which it matches, in order.
use Rattle.std.proofs.Common.{◌≡◌, ℕ, ◌<◌, true, List, [], ◌∷◌, ◌++◌, length, map}
use Rattle.std.proofs.Common.{refl, ap, sym, subst, ◌∙◌, append-nil}
use Rattle.std.specs.List.{All, Contains, flat_map, list_all}
use Rattle.std.proofs.lemmas.List.Elements.{All-cons, All-head, All-nil, All-tail}
use denote.Hole.Carrier.{roll}
use Rattle.esc_term.specs.declared.term.Head.{Head}
use Rattle.esc_term.specs.declared.term.Term.{Term}
use Rattle.esc_term.specs.declared.term.Term.TheVariants.{App}
use Rattle.esc_term.specs.declared.term.Term.TheOpen.{Term-F}
use Rattle.esc_term.specs.declared.term.Term.TheViews.{out-Term, roll-Term, roll-out-Term}
use Rattle.esc_term.proofs.Members.{Contains-flat_map, Contains-in_flat_map, Contains-none}
use Rattle.esc_cover.proofs.TestLemmas.{and_left, and_right}
use Rattle.esc_nodes.specs.declared.top.Top.TheVariants as top
use Rattle.esc_egraph.specs.Graph.{Graph, IsGraph}
use Rattle.esc_trigger.specs.Candidates.{is_application, is_application_form}
use Rattle.esc_trigger.specs.Variables.{variables_of}
use Rattle.esc_trigger.proofs.TermLevels.{variables_of-App}
use Rattle.esc_match.specs.declared.way.Way.{Way}
use Rattle.esc_match.specs.Match.{Match, MatchAll, TriggerMatch}
use Rattle.esc_match.specs.Match as fits
use Rattle.esc_match.specs.WaysInside.{grown, grown_anywhere, grown_at, grown_by_form, trigger_ways}
use Rattle.esc_match.proofs.ClassLists.{all_candidates, candidate, candidate_found}
use Rattle.esc_match.proofs.ClassLists.{candidates_rise}
use Rattle.esc_match.proofs.Growth.{at_finds, at_grows, at_rise, at_whole, is_grown}
use Rattle.esc_match.proofs.Inside.{match-App, match-cons, match-none}
use Rattle.esc_match.proofs.Orders.{InOrder, in_order-flat_map}
use Rattle.esc_match.proofs.Steps.{Earlier, Finds, further, Grows, in_turn, joined}
use Rattle.esc_match.proofs.Steps.{stays}

-- the term matches the class of some node
abbrev Anywhere : Graph → Term → (ℕ → ℕ) → List ℕ → Type 0
Anywhere g t class more = (n : ℕ) × (n < length g.nodes) × Match g class t n more

-- anything matches
abbrev Free : Graph → (ℕ → ℕ) → List ℕ → Type 0
Free g class more = Unit {0}

abbrev pub Triggered : Graph → List Term → (ℕ → ℕ) → List ℕ → Type 0
Triggered g ts class more = TriggerMatch g class ts more

module _ (g : Graph) (graph : IsGraph g) where
  in_range : (head : Head) (m : ℕ) → Contains (all_candidates g (top.App head)) m
      → m < length g.nodes
  in_range head m h = (candidate g (top.App head) m h).0

  -- ---- one term

  form_grows : (form : Term-F Term) (ws : List Way) (v : Way)
      → Contains (grown_by_form g form ws) v
      → (w : Way) × Contains ws w
      × Grows g (Anywhere g (roll-Term form)) (variables_of (roll-Term form)) w v
  unfolding roll-Term roll
  form_grows (Term-F.Num x) ws v h = absurd (Contains-none v h)
  form_grows (Term-F.Var k) ws v h = absurd (Contains-none v h)
  form_grows (Term-F.App head ps) ws v h =
      let found =
      Contains-flat_map (grown_at g (map (grown g) ps) (all_candidates g (top.App head))) ws v h in
      let inside =
      at_grows g graph ps (λ t k. is_grown g graph t) (all_candidates g (top.App head))
      (in_range head) found.0 v found.2 in
      let is = candidate g (top.App head) inside.0 inside.1 in (
        found.0,
        found.1,
        subst (λ names. Grows g (Anywhere g (App head ps)) names found.0 v)
            (sym (variables_of-App head ps))
            (at_whole g graph ps (λ t k. is_grown g graph t) (all_candidates g (top.App head))
            (in_range head) (Anywhere g (App head ps)) found.0 v inside.0
            (λ class more fit. (
              inside.0,
              is.0,
              fits.application (App head ps) inside.0 (inside.0 ∷ more) head ps inside.0 more refl
                  is.0 is.1 refl fit refl,
            )) inside.2),
      )

  form_finds : (form : Term-F Term) → is_application_form form ≡ true → (ws : List Way) (w : Way)
      → Contains ws w → Finds (Anywhere g (roll-Term form)) w (grown_by_form g form ws)
  unfolding roll-Term roll
  form_finds (Term-F.Num x) e ws w h class more fit agrees = absurd (cc e)
  form_finds (Term-F.Var k) e ws w h class more fit agrees = absurd (cc e)
  form_finds (Term-F.App head ps) e ws w h class more fit agrees =
      let inside = match-App g class head ps fit.0 more fit.2 in
      let found =
      at_finds g graph ps (λ t k. is_grown g graph t) (all_candidates g (top.App head))
      (in_range head) w inside.node
      (candidate_found g (top.App head) inside.node inside.there inside.topped) class inside.inside
      inside.args agrees in (
        found.0,
        Contains-in_flat_map
            (grown_at g (map (grown g) ps) (all_candidates g (top.App head))) ws w found.0 h
            found.1,
        found.2 ∙ ap (λ ms. w.matched ++ ms) (sym inside.whole),
        found.3,
      )

  form_rises : (form : Term-F Term) (ws : List Way) → InOrder Earlier ws
      → InOrder Earlier (grown_by_form g form ws)
  form_rises (Term-F.Num x) ws order = tt
  form_rises (Term-F.Var k) ws order = tt
  form_rises (Term-F.App head ps) ws order =
      in_order-flat_map Earlier Earlier
      (grown_at g (map (grown g) ps) (all_candidates g (top.App head))) ws order
      (λ w h. at_rise g graph ps (λ t k. is_grown g graph t) (all_candidates g (top.App head))
      (in_range head) (candidates_rise g (top.App head)) w)
      (λ w x a b hw hx before ha hb.
      further g (Free g) (Free g) (flat_map variables_of ps) (flat_map variables_of ps) w x a b
      before (free w a ha) (free x b hb))
    where
      free : (w v : Way)
          → Contains (grown_at g (map (grown g) ps) (all_candidates g (top.App head)) w) v
          → Grows g (Free g) (flat_map variables_of ps) w v
      free w v h =
          let inside =
          at_grows g graph ps (λ t k. is_grown g graph t) (all_candidates g (top.App head))
          (in_range head) w v h in
          at_whole g graph ps (λ t k. is_grown g graph t) (all_candidates g (top.App head))
          (in_range head) (Free g) w v inside.0 (λ class more fit. tt) inside.2

  -- ---- terms

  trigger_ways-cons : (t : Term) (ts : List Term) (ws : List Way)
      → trigger_ways g (t ∷ ts) ws ≡ trigger_ways g ts (grown_anywhere g t ws)
  unfolding trigger_ways
  trigger_ways-cons t ts ws = refl

  trigger_ways-nil : (ws : List Way) → trigger_ways g [] ws ≡ ws
  unfolding trigger_ways
  trigger_ways-nil ws = refl

  pub trigger_grows : (ts : List Term) (ws : List Way) (v : Way)
      → Contains (trigger_ways g ts ws) v
      → (w : Way) × Contains ws w × Grows g (Triggered g ts) (flat_map variables_of ts) w v
  trigger_grows [] ws v h = (
    v,
    subst (λ xs. Contains xs v) (trigger_ways-nil ws) h,
    stays g (Triggered g []) v (λ class. record {
      nodes = [];
      there = All-nil (λ n. n < length g.nodes);
      match = fits.none [] [] [] refl refl refl;
    }),
  )
  trigger_grows (t ∷ ts) ws v h =
      let rest =
      trigger_grows ts (grown_anywhere g t ws) v
      (subst (λ xs. Contains xs v) (trigger_ways-cons t ts ws) h) in
      let first =
      subst (λ u. (w : Way) × Contains ws w
      × Grows g (Anywhere g u) (variables_of u) w rest.0) (roll-out-Term t)
      (form_grows (out-Term t) ws rest.0 rest.1) in (
        first.0,
        first.1,
        joined g (Anywhere g t) (Triggered g ts) (Triggered g (t ∷ ts)) (variables_of t)
            (flat_map variables_of ts) first.0 rest.0 v
            (λ class ms rest one others. record {
              nodes = one.0 ∷ others.nodes;
              there = All-cons (λ n. n < length g.nodes) one.0 others.nodes one.1 others.there;
              match = fits.more (t ∷ ts) (one.0 ∷ others.nodes) (ms ++ rest) t ts one.0 others.nodes
                  ms rest refl refl one.2 others.match refl;
            }) first.2 rest.2,
      )

  pub trigger_finds : (ts : List Term) → list_all is_application ts ≡ true → (ws : List Way)
      (w : Way) → Contains ws w → Finds (Triggered g ts) w (trigger_ways g ts ws)
  trigger_finds [] all ws w h class more fit agrees = (
    w,
    subst (λ xs. Contains xs w) (sym (trigger_ways-nil ws)) h,
    sym (append-nil w.matched)
        ∙ ap (λ ns. w.matched ++ ns) (sym (match-none g class fit.nodes more fit.match).1),
    agrees,
  )
  trigger_finds (t ∷ ts) all ws w h class more fit agrees =
      let inside = match-cons g class t ts fit.nodes more fit.match in
      let there : All (λ n. n < length g.nodes) (inside.node ∷ inside.nodes) =
      subst (All (λ n. n < length g.nodes)) inside.is fit.there in
      let one =
      (subst (λ u. Finds (Anywhere g u) w (grown_anywhere g t ws)) (roll-out-Term t)
      (form_finds (out-Term t) (and_left (is_application t) (list_all is_application ts) all) ws w
      h)) class inside.first
      (inside.node, All-head (λ n. n < length g.nodes) inside.node inside.nodes there, inside.match)
      agrees in
      let rest =
      trigger_finds ts (and_right (is_application t) (list_all is_application ts) all)
      (grown_anywhere g t ws) one.0 one.1 class inside.rest (record {
        nodes = inside.nodes;
        there = All-tail (λ n. n < length g.nodes) inside.node inside.nodes there;
        match = inside.others;
      }) one.3 in (
        rest.0,
        subst (λ xs. Contains xs rest.0) (sym (trigger_ways-cons t ts ws)) rest.1,
        in_turn w.matched one.0.matched rest.0.matched inside.first inside.rest more one.2 rest.2
            inside.whole,
        rest.3,
      )

  pub trigger_rises : (ts : List Term) (ws : List Way) → InOrder Earlier ws
      → InOrder Earlier (trigger_ways g ts ws)
  trigger_rises [] ws order = subst (InOrder Earlier) (sym (trigger_ways-nil ws)) order
  trigger_rises (t ∷ ts) ws order =
      subst (InOrder Earlier) (sym (trigger_ways-cons t ts ws))
      (trigger_rises ts (grown_anywhere g t ws) (form_rises (out-Term t) ws order))
