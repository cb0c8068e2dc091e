-- What makes the facts of a round, and when it still does.
use Rattle.std.proofs.Common.{◌≡◌, ℕ, true, List, [], ◌∷◌, ◌++◌, map, get_or, inl, inr}
use Rattle.std.proofs.Common.{Option, Some, None, refl, sym, ap, subst, subst₂, ◌∙◌}
use Rattle.std.specs.List.{All, Any, Contains, cons_option, filter_map}
use Rattle.std.specs.Option.{option_map_or}
use Rattle.std.proofs.lemmas.List.{map-append}
use Rattle.std.proofs.lemmas.List.Elements.{All-cons, All-contains, All-contains_itself, All-head}
use Rattle.std.proofs.lemmas.List.Elements.{All-map, All-nil, All-weaker, Contains-get_or}
use Rattle.esc_term.specs.declared.formula.Formula.{Formula}
use Rattle.esc_term.specs.declared.formula.Formula.TheVariants.{Eq}
use Rattle.esc_term.specs.declared.formula.Item.{Item}
use Rattle.esc_term.specs.declared.term.Term.{Term}
use Rattle.esc_term.specs.Interpretation.{truth}
use Rattle.esc_term.specs.Model.{read_in}
use Rattle.esc_term.specs.Refuted.{Follows}
use Rattle.esc_term.specs.Term.{substituted_term}
use Rattle.esc_term.proofs.Models.{Follows-from_models, Follows-in_models}
use Rattle.esc_cover.specs.Arithmetic.{InPlay, play_of}
use Rattle.esc_cover.specs.Classes.{active_terms}
use Rattle.esc_cover.specs.Laws.{TogetherHasOneValue}
use Rattle.esc_fact.specs.Fact.{formula_of, formulas_of, select}
use Rattle.esc_fact.specs.declared.base.Base.{Base}
use Rattle.esc_fact.specs.declared.fact.Fact.{Fact}
use Rattle.esc_nodes.specs.Laws.{TermsAreOnce}
use Rattle.esc_nodes.specs.Terms.{term_of}
use Rattle.esc_outcome.specs.Causes.{AllFollow, formulas_on, stated}
use Rattle.esc_outcome.specs.Grown as outcome
use Rattle.esc_outcome.proofs.Branches.{push_parts}
use Rattle.esc_outcome.proofs.Following.{told_follows}
use Rattle.esc_outcome.proofs.Numbers.{active-among}
use Rattle.esc_node_terms.specs.Nodes.{classes_in}
use Rattle.esc_node_terms.proofs.ClassTests.{together_at}
use Rattle.esc_node_terms.proofs.Places.{Contains-term_of}
use Rattle.esc_sharing.specs.Shared.{AreEqualInModels}
use Rattle.esc_rounds.specs.Called.{CalledAt}
use Rattle.esc_rounds.specs.Facts.{argument, fact_of}
use Rattle.esc_rounds.specs.Laws.{RoundsAreMet}
use Rattle.esc_rounds.specs.Makers as rounds
use Rattle.esc_rounds.specs.declared.draw.Draw.{Draw}
use Rattle.esc_rounds.specs.declared.draw.Draw.TheVariants.{Witness, Map, Instance}
use Rattle.esc_rounds.specs.declared.kept.Kept.{Kept}
use Rattle.esc_maps.specs.declared.map_match.MapMatch.TheVariants as map_match
use Rattle.esc_rounds.proofs.Bounds.{get-there}
use Rattle.esc_rounds.proofs.Drawn.{instance_fact, kept_is, witness_fact, write_term}
use Rattle.esc_sharing.proofs.Lists.{All-append_left, All-each}
use Rattle.esc_match.proofs.Orders.{Contains-map}
use Rattle.esc_term.proofs.Members.{Contains-cases, Contains-here, Contains-later, Contains-none}
use Rattle.esc_verdict.specs.RoundLaws.{MatchedByMore, MatchedGrows, MatchedIsMade, RoundIsMatched}
use Rattle.esc_verdict.specs.Rounds.{IsMatched, IsMetAmong, IsRoundOf}

any_weaker : {X : Type 0} (P Q : X → Type 0) → ((x : X) → P x → Q x) → (xs : List X) → Any P xs
    → Any Q xs
any_weaker P Q weaker xs h = (h.0, h.1, h.2, h.3, weaker h.1 h.4)

-- ---- more facts, and more literals

follows_more : (fs gs : List Formula) (f : Formula) → Follows fs f → Follows (fs ++ gs) f
follows_more fs gs f h = Follows-from_models (fs ++ gs) f (λ M all.
    Follows-in_models fs f h M
    (All-append_left (λ (g : Formula). truth (read_in M) g ≡ true) fs gs all))

module _ (terms others : List Term) (among : (t : Term) → Contains terms t → Contains others t)
    (known longer : List Formula) (follows : (f : Formula) → Follows known f → Follows longer f)
  where
    met_weaker : (t : Term) → IsMetAmong terms known t → IsMetAmong others longer t
    met_weaker t m = (m.0, among m.0 m.1, follows (Eq t m.0) m.2)

    all_met_weaker : (makers : List (List Term)) → Any (All (IsMetAmong terms known)) makers
        → Any (All (IsMetAmong others longer)) makers
    all_met_weaker =
        any_weaker (All (IsMetAmong terms known)) (All (IsMetAmong others longer))
        (λ ts all. All-weaker (IsMetAmong terms known) (IsMetAmong others longer) met_weaker ts all)

-- ---- formulas of facts

contains_formula : {X Y : Type 0} (h : X → Option Y) (xs : List X) (x : X) (y : Y) → Contains xs x
    → h x ≡ Some y → Contains (filter_map h xs) y
contains_formula {Y = Y} h [] x y there is = absurd (Contains-none x there)
contains_formula {Y = Y} h (z ∷ xs) x y there is =
    elim (Contains-cases z xs x there) [
      | inl same ↦
          subst (λ o. Contains (cons_option o (filter_map h xs)) y) (sym (ap h same ∙ is))
          (Contains-here y (filter_map h xs))
      | inr later ↦ behind (h z) (contains_formula h xs x y later is)
    ]
  where
    behind : (o : Option Y) → Contains (filter_map h xs) y
        → Contains (cons_option o (filter_map h xs)) y
    behind None inside = inside
    behind (Some w) inside = Contains-later w (filter_map h xs) y inside

all_formulas : {X Y : Type 0} (h : X → Option Y) (P : Y → Type 0) (xs : List X)
    → ((x : X) (y : Y) → Contains xs x → h x ≡ Some y → P y) → All P (filter_map h xs)
all_formulas {Y = Y} h P [] each = All-nil P
all_formulas {Y = Y} h P (x ∷ xs) each =
    one (h x) refl (all_formulas h P xs (λ z y there is. each z y (Contains-later x xs z there) is))
  where
    one : (o : Option Y) → h x ≡ o → All P (filter_map h xs)
        → All P (cons_option o (filter_map h xs))
    one None e all = all
    one (Some y) e all = All-cons P y (filter_map h xs) (each x y (Contains-here x xs) e) all

pub formulas_among : (base : Base) (facts others : List Fact) → All (Contains others) facts
    → All (Contains (formulas_of base others)) (formulas_of base facts)
formulas_among base facts others among =
    all_formulas (formula_of base) (Contains (formulas_of base others)) facts
    (λ fact f there named. contains_formula (formula_of base) others fact f
    (All-contains (Contains others) facts fact among there) named)

active_more : (base : Base) (facts others : List Fact) → All (Contains others) facts
    → (t : Term) → Contains (active_terms (formulas_of base facts)) t
    → Contains (active_terms (formulas_of base others)) t
active_more base facts others among =
    active-among (formulas_of base facts) (formulas_of base others)
    (formulas_among base facts others among)

pub matched_by_more : MatchedByMore
matched_by_more base facts others items more fact among h =
    all_met_weaker (active_terms (formulas_of base facts)) (active_terms (formulas_of base others))
    (active_more base facts others among) (map stated items) (map stated (items ++ more))
    (λ f follows. subst (λ fs. Follows fs f) (sym (map-append stated items more))
    (follows_more (map stated items) (map stated more) f follows))
    (outcome.makers_of base fact) h

pub matched_grows : MatchedGrows
matched_grows base facts items more fact all is before after other e =
    elim (push_parts facts before after fact other e) [
      | inl last ↦
          subst₂ (λ front f. IsMatched base front (items ++ more) f) (sym last.2) (sym last.1)
          (matched_by_more base facts facts items more fact (All-contains_itself facts) is)
      | inr early ↦
          matched_by_more base before before items more other (All-contains_itself before)
          (all before early.0 other early.1)
    ]

-- ---- on a branch

pub matched_is_made : MatchedIsMade
matched_is_made base branch facts items fact among follow h =
    all_met_weaker (active_terms (formulas_of base facts))
    (active_terms (formulas_of base branch.log)) (active_more base facts branch.log among)
    (map stated items) (formulas_on base branch)
    (λ f follows. Follows-from_models (formulas_on base branch) f (λ M all.
    Follows-in_models (map stated items) f follows M
    (All-map (λ (g : Formula). truth (read_in M) g ≡ true) stated items
    (All-weaker (λ item. Follows (formulas_on base branch) (stated item))
    (λ item. truth (read_in M) (stated item) ≡ true)
    (λ item is. Follows-in_models (formulas_on base branch) (stated item) is M all) items
    follow))))
    (outcome.makers_of base fact) h

-- ---- the facts of a round

module _ (one_value : (play : InPlay) → TogetherHasOneValue play) (once : TermsAreOnce)
    (met : RoundsAreMet) (base : Base) (depth : ℕ) (facts : List Fact) (items : List Item)
    (list : List Fact) (r : IsRoundOf base depth facts items list) where
  abbrev made : Draw → Fact
  made = fact_of r.s.graph r.s.formulas

  abbrev term : ℕ → Term
  term = term_of r.s.graph.nodes

  abbrev known : List Formula
  known = map stated items

  stated_follow : AllFollow known items
  stated_follow = All-each (λ item. Follows known (stated item)) items (λ item there.
      Follows-from_models known (stated item) (λ M all.
      All-contains (λ (g : Formula). truth (read_in M) g ≡ true) known (stated item) all
      (Contains-map stated items item there)))

  follow : rounds.ClassesFollow r.s.graph known
  follow a b la lb same =
      All-head (λ (pair : Term × Term). Follows known (Eq pair.0 pair.1)) (term a, term b) []
      (told_follows known items ((term a, term b) ∷ []) stated_follow
      (All-cons (AreEqualInModels items) (term a, term b) []
      (λ M holds. one_value (play_of (formulas_of base facts)) items (classes_in r.s.graph)
      r.stands.least M holds (term a) (term b)
      (together_at r.s.graph r.stands.standing.graph a b la lb same))
      (All-nil (AreEqualInModels items))))

  makers_are : (d : Draw) (place : List ℕ) → CalledAt r.s d place
      → rounds.makers_of r.s.graph r.s.formulas d ≡ outcome.makers_of base (made d)
  makers_are d place called = go d place called
    where
      go : (e : Draw) (place : List ℕ) → CalledAt r.s e place
          → rounds.makers_of r.s.graph r.s.formulas e
          ≡ outcome.makers_of base (fact_of r.s.graph r.s.formulas e)
      go (Witness f) p c =
          sym (ap (outcome.makers_of base)
          (witness_fact r.s.graph r.s.formulas f c.1.formula c.1.is.kept))
      go (Map (map_match.Write w)) p c =
          ap (λ t. (t ∷ []) ∷ [])
          (write_term base facts items r.s r.live r.stands.standing once w c.0.1.there c.0.0)
      go (Map (map_match.Read w j)) p c =
          ap (λ t. (select t (term j) ∷ []) ∷ (t ∷ select (argument r.s.graph w 0) (term j) ∷ [])
          ∷ [])
          (write_term base facts items r.s r.live r.stands.standing once w c.0.0.1.there c.0.0.0)
      go (Instance f ns) p c =
          let k = c.3.formula in
          let is = kept_is base facts items r.s r.live r.stands.standing once f k c.3.is.kept
          (get-there r.s.formulas f k c.3.is.kept) in
          let terms = map term ns in
          ap (λ o. option_map_or (λ (x : Kept). rounds.triggers_at r.s.graph ns x.triggers) o [])
          c.3.is.kept
          ∙ ap (map (map (substituted_term terms 0))) is.triggers_are
          ∙ sym (ap (λ o. option_map_or (outcome.triggers_at k.outer terms) o []) is.numbered)
          ∙ sym (ap (outcome.makers_of base)
          (instance_fact r.s.graph r.s.formulas f k c.3.is.kept ns))

  met_among : (t : Term) → rounds.IsMet r.s.graph known t
      → IsMetAmong (active_terms (formulas_of base facts)) known t
  met_among t m = (
    term m.0,
    subst (λ ts. Contains ts (term m.0)) r.stands.standing.nodes
        (Contains-term_of r.s.graph.nodes m.0 m.1),
    m.2,
  )

  drawn_matched : (d : Draw) → Contains r.drawn d → IsMatched base facts items (made d)
  drawn_matched d there =
      let due = (r.round.exact d).0 there in
      subst (Any (All (IsMetAmong (active_terms (formulas_of base facts)) known)))
      (makers_are d due.place due.called)
      (any_weaker (All (rounds.IsMet r.s.graph known))
      (All (IsMetAmong (active_terms (formulas_of base facts)) known))
      (λ ts all. All-weaker (rounds.IsMet r.s.graph known)
      (IsMetAmong (active_terms (formulas_of base facts)) known) met_among ts all)
      (rounds.makers_of r.s.graph r.s.formulas d)
      (All-contains (λ e. rounds.AreMet r.s.graph known
      (rounds.makers_of r.s.graph r.s.formulas e)) r.drawn d
      (met r.s r.live depth r.drawn known r.stands.standing.graph r.stands.ready r.round follow)
      there))

  list_matched : All (IsMatched base facts items) list
  list_matched =
      subst (All (IsMatched base facts items)) (sym r.facts_are)
      (All-map (IsMatched base facts items) (fact_of r.s.graph r.s.formulas) r.drawn
      (λ k d below. drawn_matched (get_or r.drawn k d) (Contains-get_or r.drawn k d below)))

pub round_is_matched : ((play : InPlay) → TogetherHasOneValue play) → TermsAreOnce → RoundsAreMet
    → RoundIsMatched
round_is_matched one_value once met base depth facts items list r =
    list_matched one_value once met base depth facts items list r
