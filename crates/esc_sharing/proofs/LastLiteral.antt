-- A literal comes behind the others: what its kind asks of graph and theory.
use Rattle.std.proofs.Common.{◌≡◌, ℕ, ◌+◌, ◌<◌, ◌⊎◌, inl, inr, pos, ◌≤ℤ◌, List, [], ◌∷◌}
use Rattle.std.proofs.Common.{◌++◌, length, take, map, true, false, refl, ap, sym, subst}
use Rattle.std.proofs.Common.{◌∙◌, arith}
use Rattle.std.specs.Prelude.{◌↔◌}
use Rattle.std.specs.List.{All, Contains, flat_map}
use Rattle.std.proofs.Math.Seq.{take-append-add, take-length}
use Rattle.std.proofs.lemmas.List.{append-nil, map-append}
use Rattle.std.proofs.lemmas.List.Elements.{All-append, All-contains, All-push, All-weaker}
use Rattle.std.proofs.lemmas.List.Elements.{Contains-append_cases, Contains-append_left}
use Rattle.std.proofs.lemmas.List.Elements.{Contains-append_right, Contains-push}
use Rattle.esc_term.specs.declared.formula.Item.{Item}
use Rattle.esc_cover.specs.Assignment.{Assignment, Gap, NoneNegative, asked, asked_form}
use Rattle.esc_cover.specs.Assignment.{gap_value}
use Rattle.esc_cover.specs.Laws.{HoldsIn}
use Rattle.esc_trail.proofs.Ends.{take-append_last}
use Rattle.esc_union.specs.Merges.{SameClass, class_number}
use Rattle.esc_egraph.specs.Congruence.{EqualWith, IsBroken, IsLeast, IsMet}
use Rattle.esc_egraph.specs.Graph.{Graph, IsGraph, number_of}
use Rattle.esc_distinct.specs.Groups.{AreBroken}
use Rattle.esc_node_terms.proofs.LiteralForms.{out-Eq}
use Rattle.esc_sharing.specs.Admitted.{AdmitsWith, AdmitsWithSome, both_gaps}
use Rattle.esc_sharing.specs.Literals.{AreSides, group_item, item_of}
use Rattle.esc_sharing.specs.Nodes.{node_count, node_term}
use Rattle.esc_sharing.specs.Numbers.{number_terms}
use Rattle.esc_sharing.specs.SettlingInside.{IsDemanded, IsKnown, IsUnsettled, JoinsDemanded}
use Rattle.esc_sharing.specs.Shared.{AdmitsAll, AreToldIn, HaveNoModel, IsMetIn, IsShared}
use Rattle.esc_sharing.specs.Shared.{IsUnderway, Shared, denied_pair, items_in, literals_in}
use Rattle.esc_sharing.specs.Shared.{told_in}
use Rattle.esc_sharing.specs.SharingUndo.{but_last}
use Rattle.esc_sharing.specs.declared.literal.Lit.{Lit}
use Rattle.esc_sharing.specs.declared.literal.Lit.TheVariants.{Equal, Apart, Below, AtMost}
use Rattle.esc_sharing.proofs.Alike.{groups-alike, items-alike}
use Rattle.esc_sharing.proofs.Consistent.{asserted_literal}
use Rattle.esc_sharing.proofs.Demanded.{AreAmong, ArePaired, demanded_by_more}
use Rattle.esc_sharing.proofs.Joining.{demanded_now, equations_joined, exact_now, joined_now}
use Rattle.esc_sharing.proofs.Joining.{joined_view, told_joined}
use Rattle.esc_sharing.proofs.Least.{demanded_by_least}
use Rattle.esc_sharing.proofs.Lists.{All-append_left, All-append_right, All-each, Any-contains}
use Rattle.esc_sharing.proofs.Lists.{flat_map-push, flat_map-take_le}
use Rattle.esc_sharing.proofs.ModelValues.{asked-model, assignment_of}
use Rattle.esc_sharing.proofs.NoModel.{broken_no_model, models_are_admitted, told_follow}

-- ---- the literal is on the list

module _ (v : Shared) (is : IsShared v) (lit : Lit) (sides : AreSides v.graph v.numbers lit) where
  abbrev pub asserting : Shared
  asserting = record v { asserted = v.asserted ++ (lit ∷ []) }

  items_in-push : items_in asserting ≡ items_in v ++ (item_of v.graph lit ∷ [])
  items_in-push = map-append (item_of v.graph) v.asserted (lit ∷ [])

  gaps-push : flat_map asked (items_in asserting)
      ≡ flat_map asked (items_in v) ++ asked (item_of v.graph lit)
  gaps-push = ap (flat_map asked) items_in-push
      ∙ flat_map-push asked (items_in v) (item_of v.graph lit)

  denied-push : flat_map denied_pair (v.asserted ++ (lit ∷ []))
      ≡ v.graph.forbidden ++ denied_pair lit
  denied-push = flat_map-push denied_pair v.asserted lit
      ∙ ap (λ pairs. pairs ++ denied_pair lit) (sym is.parts.forbidden)

  among : AreAmong (literals_in v) (literals_in asserting)
  among item h =
      elim (Contains-append_cases (items_in v) (map (group_item v.graph) v.groups) item h) [
        | inl old ↦ Contains-append_left (items_in asserting)
            (map (group_item v.graph) v.groups) item
            (subst (λ items. Contains items item) (sym items_in-push)
            (Contains-append_left (items_in v) (item_of v.graph lit ∷ []) item old))
        | inr kept ↦ Contains-append_right (items_in asserting)
            (map (group_item v.graph) v.groups) item kept
      ]

  last_literal : Contains (literals_in asserting) (item_of v.graph lit)
  last_literal = asserted_literal asserting lit (Contains-push v.asserted lit)

  demanded_before : JoinsDemanded v
  demanded_before = demanded_by_least v is.parts.graph is.least

  demanded : JoinsDemanded asserting
  demanded = demanded_by_more (literals_in v) (literals_in asserting) v.graph.nodes _
      (number_of v.graph) among demanded_before

  sides-push : All (AreSides v.graph v.numbers) (v.asserted ++ (lit ∷ []))
  sides-push = All-push (AreSides v.graph v.numbers) v.asserted lit is.parts.sides sides

  known_before : IsKnown v (SameClass (number_of v.graph))
  known_before a b an bn same x admitted = is.agree.one_value x admitted a b an bn same

  -- a literal that asks nothing
  exact_still : asked (item_of v.graph lit) ≡ [] → AdmitsAll asserting
  exact_still none x =
      subst (λ gaps. v.admits x ↔ (NoneNegative x gaps
      × NoneNegative x (flat_map both_gaps (told_in v))))
      (sym (gaps-push ∙ (ap (λ gaps. flat_map asked (items_in v) ++ gaps) none
      ∙ append-nil (flat_map asked (items_in v))))) (is.exact x)

-- ---- a denied equation

module _ (v : Shared) (is : IsShared v) (a b : ℕ)
    (sides : AreSides v.graph v.numbers (Apart a b)) where
  abbrev pub kept_graph : Graph
  kept_graph = record v.graph { forbidden = v.graph.forbidden ++ ((a, b) ∷ []) }

  abbrev before_apart : Shared
  before_apart = asserting v is (Apart a b) sides

  abbrev pub kept_view : Shared
  kept_view = record v { asserted = v.asserted ++ (Apart a b ∷ []); graph = kept_graph }

  items_kept : items_in kept_view ≡ items_in before_apart
  items_kept = items-alike v.graph kept_graph refl (v.asserted ++ (Apart a b ∷ []))

  literals_kept : literals_in kept_view ≡ literals_in before_apart
  literals_kept = ap (λ items. items ++ map (group_item kept_graph) v.groups) items_kept
      ∙ ap (λ items. items_in before_apart ++ items)
      (groups-alike v.graph kept_graph refl v.groups)

  kept_graph_is : IsGraph kept_graph
  kept_graph_is = record {
    terms = is.parts.graph.terms;
    merged = is.parts.graph.merged;
    paired = All-push (λ (p : ℕ × ℕ). (p.0 < node_count v.graph) × (p.1 < node_count v.graph))
        v.graph.forbidden (a, b) is.parts.graph.paired (sides.first, sides.second);
  }

  kept_demanded : JoinsDemanded kept_view
  kept_demanded =
      subst (λ literals. IsDemanded literals v.graph.nodes (number_terms v.numbers)
      (number_of v.graph)) (sym literals_kept) (demanded v is (Apart a b) sides)

  kept_forbidden : v.graph.forbidden ++ ((a, b) ∷ [])
      ≡ flat_map denied_pair (v.asserted ++ (Apart a b ∷ []))
  kept_forbidden = sym (denied-push v is (Apart a b) sides)

  met_still : (lit : Lit) → IsMetIn v.graph lit → IsMetIn kept_graph lit
  met_still (Equal x y) met = met
  met_still (Apart x y) met = tt
  met_still (Below x y) met = tt
  met_still (AtMost x y) met = tt

  asks_nothing : asked (item_of v.graph (Apart a b)) ≡ []
  asks_nothing = ap (λ form. asked_form form false)
      (out-Eq (node_term v.graph a) (node_term v.graph b))

  pub apart_open : IsMet kept_graph → IsUnsettled kept_view (SameClass (number_of v.graph))
  apart_open met = record {
    parts = record {
      sound = is.parts.sound;
      graph = kept_graph_is;
      met = met;
      sides = All-weaker (AreSides v.graph v.numbers) (AreSides kept_graph v.numbers)
          (λ lit at. record { first = at.first; second = at.second; order = at.order })
          (v.asserted ++ (Apart a b ∷ [])) (sides-push v is (Apart a b) sides);
      equations = All-push (IsMetIn kept_graph) v.asserted (Apart a b)
          (All-weaker (IsMetIn v.graph) (IsMetIn kept_graph) met_still v.asserted
          is.parts.equations) tt;
      forbidden = kept_forbidden;
      members = is.parts.members;
      unbroken = is.parts.unbroken;
      numbers = is.parts.numbers;
      told = All-weaker (AreToldIn v.graph v.numbers) (AreToldIn kept_graph v.numbers)
          (λ pair at. record {
            first = at.first;
            second = at.second;
            together = at.together;
          }) v.told is.parts.told;
    };
    exact = λ x. subst (λ items. v.admits x ↔ (NoneNegative x (flat_map asked items)
        × NoneNegative x (flat_map both_gaps (told_in v)))) (sym items_kept)
        (exact_still v is (Apart a b) sides asks_nothing x);
    some = is.some;
    demanded = kept_demanded;
    known_equal = known_before v is (Apart a b) sides;
  }

  pub apart_closed : SameClass (number_of v.graph) a b
      → HaveNoModel (literals_in kept_view)
  apart_closed same =
      broken_no_model kept_view kept_demanded kept_graph_is kept_forbidden is.parts.members
      (inl (inl (Any-contains (λ (p : ℕ × ℕ). SameClass (number_of v.graph) p.0 p.1)
      (v.graph.forbidden ++ ((a, b) ∷ [])) (a, b) (Contains-push v.graph.forbidden (a, b)) same)))

-- ---- an equation

module _ (v : Shared) (is : IsShared v) (a b : ℕ)
    (sides : AreSides v.graph v.numbers (Equal a b)) (merges : List (ℕ × ℕ))
    (least : IsLeast v.graph.nodes (EqualWith (number_of v.graph) a b) (class_number merges)) where
  abbrev before_equal : Shared
  before_equal = asserting v is (Equal a b) sides

  abbrev pub equated_view : Shared
  equated_view = joined_view before_equal merges

  abbrev equated_graph : Graph
  equated_graph = record v.graph { merges = merges }

  paired : ArePaired (literals_in before_equal) v.graph.nodes (number_terms v.numbers)
      (node_term v.graph a) (node_term v.graph b)
  paired other congruent = congruent.equations (node_term v.graph a) (node_term v.graph b)
      (last_literal v is (Equal a b) sides)

  equated_demanded : JoinsDemanded equated_view
  equated_demanded = demanded_now before_equal merges a b sides.first sides.second least
      is.parts.graph (demanded v is (Equal a b) sides) paired

  equated_forbidden : v.graph.forbidden
      ≡ flat_map denied_pair (v.asserted ++ (Equal a b ∷ []))
  equated_forbidden = sym (denied-push v is (Equal a b) sides ∙ append-nil v.graph.forbidden)

  equal_asks_nothing : asked (item_of v.graph (Equal a b)) ≡ []
  equal_asks_nothing = ap (λ form. asked_form form true)
      (out-Eq (node_term v.graph a) (node_term v.graph b))

  pub equal_open : IsGraph equated_graph → IsMet equated_graph
      → (AreBroken (class_number merges) v.groups → ⊥)
      → IsUnsettled equated_view (SameClass (number_of v.graph))
  equal_open graph met unbroken = record {
    parts = record {
      sound = is.parts.sound;
      graph = graph;
      met = met;
      sides = All-weaker (AreSides v.graph v.numbers) (AreSides equated_graph v.numbers)
          (λ lit at. record { first = at.first; second = at.second; order = at.order })
          (v.asserted ++ (Equal a b ∷ [])) (sides-push v is (Equal a b) sides);
      equations = All-push (IsMetIn equated_graph) v.asserted (Equal a b)
          (equations_joined v merges a b sides.first sides.second least is.parts.sides
          is.parts.equations) (joined_now v merges a b sides.first sides.second least);
      forbidden = equated_forbidden;
      members = is.parts.members;
      unbroken = unbroken;
      numbers = is.parts.numbers;
      told = told_joined v merges a b sides.first sides.second least is.parts.numbers
          is.parts.told;
    };
    exact = exact_now before_equal merges a b sides.first sides.second least
        (exact_still v is (Equal a b) sides equal_asks_nothing);
    some = is.some;
    demanded = equated_demanded;
    known_equal = known_before v is (Equal a b) sides;
  }

  pub equal_closed : IsGraph equated_graph
      → IsBroken equated_graph ⊎ AreBroken (class_number merges) v.groups
      → HaveNoModel (literals_in equated_view)
  equal_closed graph broken =
      broken_no_model equated_view equated_demanded graph equated_forbidden is.parts.members
      broken

-- ---- an order

module _ (v : Shared) (is : IsShared v) (lit : Lit) (sides : AreSides v.graph v.numbers lit)
    (Admits : Assignment → Type 0) (Sound : Type 0) (sound : Sound) where
  abbrev pub ordered_view : Shared
  ordered_view = record v {
    asserted = v.asserted ++ (lit ∷ []);
    admits = Admits;
    sound = Sound;
  }

  abbrev gaps : List Gap
  gaps = asked (item_of v.graph lit)

  -- some of the gaps are restricted
  module _ (some : List Gap) (with_some : AdmitsWith v.admits Admits some) (x : Assignment) where
    admits_both : Admits x → NoneNegative x (flat_map asked (items_in v) ++ some)
        × NoneNegative x (flat_map both_gaps (told_in v))
    admits_both admitted =
        let old = (with_some x).0 admitted in
        let first = (is.exact x).0 old.0 in (
          All-append (λ (g : Gap). pos 0 ≤ℤ gap_value x g) (flat_map asked (items_in v)) some
              first.0 old.1,
          first.1,
        )

    both_admit : NoneNegative x (flat_map asked (items_in v) ++ some)
        → NoneNegative x (flat_map both_gaps (told_in v)) → Admits x
    both_admit first second =
        (with_some x).1 (
          (is.exact x).1 (
            All-append_left (λ (g : Gap). pos 0 ≤ℤ gap_value x g) (flat_map asked (items_in v))
                some first,
            second,
          ),
          All-append_right (λ (g : Gap). pos 0 ≤ℤ gap_value x g) (flat_map asked (items_in v))
              some first,
        )

  pub order_open : denied_pair lit ≡ [] → IsMetIn v.graph lit
      → AdmitsWith v.admits Admits gaps → ((x : Assignment) × v.admits x × NoneNegative x gaps)
      → IsUnsettled ordered_view (SameClass (number_of v.graph))
  order_open denies_none met with_gaps found = record {
    parts = record {
      sound = sound;
      graph = is.parts.graph;
      met = is.parts.met;
      sides = sides-push v is lit sides;
      equations = All-push (IsMetIn v.graph) v.asserted lit is.parts.equations met;
      forbidden = sym (denied-push v is lit sides
          ∙ (ap (λ pairs. v.graph.forbidden ++ pairs) denies_none
          ∙ append-nil v.graph.forbidden));
      members = is.parts.members;
      unbroken = is.parts.unbroken;
      numbers = is.parts.numbers;
      told = is.parts.told;
    };
    exact = λ x. subst (λ list. Admits x ↔ (NoneNegative x list
        × NoneNegative x (flat_map both_gaps (told_in v)))) (sym (gaps-push v is lit sides)) (
          (λ admitted. admits_both gaps with_gaps x admitted),
          (λ all. both_admit gaps with_gaps x all.0 all.1),
        );
    some = (found.0, (with_gaps found.0).1 (found.1, found.2));
    demanded = demanded v is lit sides;
    known_equal = λ a b an bn same x admitted.
        known_before v is lit sides a b an bn same x ((with_gaps x).0 admitted).0;
  }

  pub order_closed : ((x : Assignment) → v.admits x → NoneNegative x gaps → ⊥)
      → HaveNoModel (literals_in ordered_view)
  order_closed none M holds =
      none (assignment_of M)
      (models_are_admitted v (demanded_before v is lit sides) is.parts.numbers is.parts.told
      is.exact M (All-each (HoldsIn M) (literals_in v)
      (λ (item : Item) h. All-contains (HoldsIn M) (literals_in ordered_view) item holds
      (among v is lit sides item h))))
      (asked-model M (item_of v.graph lit)
      (All-contains (HoldsIn M) (literals_in ordered_view) (item_of v.graph lit) holds
      (last_literal v is lit sides)))

  pub order_underway : AdmitsWithSome v.admits Admits gaps → IsUnderway ordered_view
  order_underway (n, with_some) = record {
    asking = length (flat_map asked (items_in v)) + n;
    telling = length (flat_map both_gaps (told_in v));
    last_literal =
        let shorter : but_last (items_in ordered_view) ≡ items_in v =
        ap but_last (items_in-push v is lit sides)
        ∙ take-append_last (items_in v) (item_of v.graph lit) in
        omega (arith, ap (λ items. length (flat_map asked items)) shorter);
    last_pair = flat_map-take_le both_gaps (told_in v) _;
    admits = λ x.
        subst (λ telling. Admits x ↔ (NoneNegative x
        (take (length (flat_map asked (items_in v)) + n)
        (flat_map asked (items_in ordered_view))) × NoneNegative x telling))
        (sym (take-length (flat_map both_gaps (told_in v))))
        (subst (λ asking. Admits x ↔ (NoneNegative x asking
        × NoneNegative x (flat_map both_gaps (told_in v))))
        (sym (ap (take (length (flat_map asked (items_in v)) + n)) (gaps-push v is lit sides)
        ∙ take-append-add (flat_map asked (items_in v)) gaps n)) (
          (λ admitted. admits_both (take n gaps) with_some x admitted),
          (λ all. both_admit (take n gaps) with_some x all.0 all.1),
        ));
    follow = told_follow ordered_view (demanded v is lit sides) is.parts.numbers is.parts.told;
    numbers = is.parts.numbers;
    told = is.parts.told;
  }
