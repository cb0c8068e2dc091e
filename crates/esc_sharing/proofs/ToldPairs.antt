-- A pair is told: what the theory then admits, and that no model is left where it admits nothing.
use Rattle.std.proofs.Common.{◌≡◌, ℕ, ◌+◌, ◌⊎◌, inl, inr, pos, ◌≤ℤ◌, List, []}
use Rattle.std.proofs.Common.{◌∷◌, ◌++◌, length, take, ap, sym, subst, ◌∙◌, arith}
use Rattle.std.specs.Prelude.{◌↔◌}
use Rattle.std.specs.List.{All, flat_map}
use Rattle.std.proofs.Math.Seq.{take-append-add, take-length}
use Rattle.std.proofs.lemmas.List.{map-append}
use Rattle.std.proofs.lemmas.List.Elements.{All-append, All-push}
use Rattle.esc_cover.specs.Assignment.{Assignment, Gap, NoneNegative, asked, gap_value, value}
use Rattle.esc_trail.proofs.Ends.{take-append_last}
use Rattle.esc_egraph.specs.Graph.{number_of}
use Rattle.esc_sharing.specs.Admitted.{AdmitsWith, AdmitsWithSome, AreEqualBy, both_gaps}
use Rattle.esc_sharing.specs.Nodes.{node_term}
use Rattle.esc_sharing.specs.Numbers.{IsNumber}
use Rattle.esc_sharing.specs.SettlingInside.{IsKnown, IsUnsettled}
use Rattle.esc_sharing.specs.Shared.{AreToldIn, HaveNoModel, IsUnderway, Shared}
use Rattle.esc_sharing.specs.Shared.{items_in, literals_in, told_in}
use Rattle.esc_sharing.specs.SharingUndo.{but_last}
use Rattle.esc_sharing.proofs.Demanded.{demanded_values}
use Rattle.esc_sharing.proofs.Exactness.{both_gaps-equal, equal-both_gaps}
use Rattle.esc_sharing.proofs.Least.{number_of_node}
use Rattle.esc_sharing.proofs.Lists.{All-append_left, All-append_right, flat_map-push}
use Rattle.esc_sharing.proofs.Lists.{flat_map-take_le}
use Rattle.esc_sharing.proofs.ModelValues.{assignment_of, value-model}
use Rattle.esc_sharing.proofs.NoModel.{models_are_admitted, told_follow}

-- ---- what is known once two nodes are equal

-- two nodes were known to be equal, or each to be one of the two
abbrev pub JoinedBy : (ℕ → ℕ → Type 0) → ℕ → ℕ → ℕ → ℕ → Type 0
JoinedBy Known a b c d = Known c d ⊎ ((Known c a × Known d b) ⊎ (Known c b × Known d a))

-- what is known once two nodes are, to which all that is admitted gives one value
pub known_joined : (v : Shared) (Known Now : ℕ → ℕ → Type 0) (a b : ℕ) → IsNumber v.numbers a
    → IsNumber v.numbers b → IsKnown v Known
    → AreEqualBy v.admits (node_term v.graph a) (node_term v.graph b)
    → ((c d : ℕ) → Now c d → JoinedBy Known a b c d) → IsKnown v Now
known_joined v Known Now a b an bn known equal joined c d cn dn same x admitted =
    elim (joined c d same) [
      | inl old ↦ known c d cn dn old x admitted
      | inr (inl (left, right)) ↦
          known c a cn an left x admitted
          ∙ (equal x admitted ∙ sym (known d b dn bn right x admitted))
      | inr (inr (left, right)) ↦
          known c b cn bn left x admitted
          ∙ (sym (equal x admitted) ∙ sym (known d a dn an right x admitted))
    ]

-- ---- all that is asked is restricted

pub all_underway : (v : Shared) (Known : ℕ → ℕ → Type 0) → IsUnsettled v Known
    → IsUnderway v
all_underway v Known is = record {
  asking = length (flat_map asked (items_in v));
  telling = length (flat_map both_gaps (told_in v));
  last_literal = flat_map-take_le asked (items_in v) _;
  last_pair = flat_map-take_le both_gaps (told_in v) _;
  admits = λ x.
      subst (λ gaps. v.admits x ↔ (NoneNegative x gaps
      × NoneNegative x (take (length (flat_map both_gaps (told_in v)))
      (flat_map both_gaps (told_in v))))) (sym (take-length (flat_map asked (items_in v))))
      (subst (λ gaps. v.admits x ↔ (NoneNegative x (flat_map asked (items_in v))
      × NoneNegative x gaps)) (sym (take-length (flat_map both_gaps (told_in v)))) (is.exact x));
  follow = told_follow v is.demanded is.parts.numbers is.parts.told;
  numbers = is.parts.numbers;
  told = is.parts.told;
}

-- ---- a pair is told

module _ (v : Shared) (Known : ℕ → ℕ → Type 0) (is : IsUnsettled v Known) (a b : ℕ)
    (pair : AreToldIn v.graph v.numbers (a, b)) (Admits : Assignment → Type 0) (Sound : Type 0)
    (sound : Sound) where
  abbrev pub telling_pair : Shared
  telling_pair = record v { told = v.told ++ ((a, b) ∷ []); admits = Admits; sound = Sound }

  abbrev gaps : List Gap
  gaps = both_gaps (node_term v.graph a, node_term v.graph b)

  told_in-push : told_in telling_pair
      ≡ told_in v ++ ((node_term v.graph a, node_term v.graph b) ∷ [])
  told_in-push = map-append (λ (p : ℕ × ℕ). (node_term v.graph p.0, node_term v.graph p.1)) v.told
      ((a, b) ∷ [])

  told_gaps-push : flat_map both_gaps (told_in telling_pair)
      ≡ flat_map both_gaps (told_in v) ++ gaps
  told_gaps-push = ap (flat_map both_gaps) told_in-push
      ∙ flat_map-push both_gaps (told_in v) (node_term v.graph a, node_term v.graph b)

  told_push : All (AreToldIn v.graph v.numbers) (v.told ++ ((a, b) ∷ []))
  told_push = All-push (AreToldIn v.graph v.numbers) v.told (a, b) is.parts.told pair

  -- some of the gaps are restricted
  module _ (some : List Gap) (with_some : AdmitsWith v.admits Admits some) (x : Assignment) where
    admits_both : Admits x → NoneNegative x (flat_map asked (items_in v))
        × NoneNegative x (flat_map both_gaps (told_in v) ++ some)
    admits_both admitted =
        let old = (with_some x).0 admitted in
        let first = (is.exact x).0 old.0 in (
          first.0,
          All-append (λ (g : Gap). pos 0 ≤ℤ gap_value x g) (flat_map both_gaps (told_in v)) some
              first.1 old.1,
        )

    both_admit : NoneNegative x (flat_map asked (items_in v))
        → NoneNegative x (flat_map both_gaps (told_in v) ++ some) → Admits x
    both_admit first second =
        (with_some x).1 (
          (is.exact x).1 (
            first,
            All-append_left (λ (g : Gap). pos 0 ≤ℤ gap_value x g)
                (flat_map both_gaps (told_in v)) some second,
          ),
          All-append_right (λ (g : Gap). pos 0 ≤ℤ gap_value x g)
              (flat_map both_gaps (told_in v)) some second,
        )

  -- ---- Open

  module _ (with_gaps : AdmitsWith v.admits Admits gaps)
      (found : (x : Assignment) × v.admits x × NoneNegative x gaps) (Now : ℕ → ℕ → Type 0)
      (joined : (c d : ℕ) → Now c d → JoinedBy Known a b c d) where
    before : (x : Assignment) → Admits x → v.admits x
    before x admitted = ((with_gaps x).0 admitted).0

    one_value : (x : Assignment) → Admits x
        → value x (node_term v.graph a) ≡ value x (node_term v.graph b)
    one_value x admitted =
        equal-both_gaps x (node_term v.graph a) (node_term v.graph b) ((with_gaps x).0 admitted).1

    still_known : IsKnown telling_pair Now
    still_known c d cn dn same x admitted =
        known_joined (record v { admits = Admits }) Known Now a b pair.first pair.second
        (λ e f en fn together y taken. is.known_equal e f en fn together y (before y taken))
        one_value joined c d cn dn same x admitted

    pub told_open : IsUnsettled telling_pair Now
    told_open = record {
      parts = record {
        sound = sound;
        graph = is.parts.graph;
        met = is.parts.met;
        sides = is.parts.sides;
        equations = is.parts.equations;
        forbidden = is.parts.forbidden;
        members = is.parts.members;
        unbroken = is.parts.unbroken;
        numbers = is.parts.numbers;
        told = told_push;
      };
      exact = λ x.
          subst (λ list. Admits x ↔ (NoneNegative x (flat_map asked (items_in v))
          × NoneNegative x list)) (sym told_gaps-push) (
            (λ admitted. admits_both gaps with_gaps x admitted),
            (λ all. both_admit gaps with_gaps x all.0 all.1),
          );
      some = (found.0, (with_gaps found.0).1 (found.1, found.2));
      demanded = is.demanded;
      known_equal = still_known;
    }

  -- ---- Closed

  pub told_closed : ((x : Assignment) → v.admits x → NoneNegative x gaps → ⊥)
      → HaveNoModel (literals_in telling_pair)
  told_closed none M holds =
      let left = number_of_node v is.parts.numbers a pair.first in
      let right = number_of_node v is.parts.numbers b pair.second in
      none (assignment_of M)
      (models_are_admitted v is.demanded is.parts.numbers is.parts.told is.exact M holds)
      (both_gaps-equal (assignment_of M) (node_term v.graph a) (node_term v.graph b)
      (value-model M (node_term v.graph a)
      ∙ (demanded_values (literals_in v) v.graph.nodes _ (number_of v.graph) is.demanded M holds a b
      left.0 right.0 pair.together
      ∙ sym (value-model M (node_term v.graph b)))))

  -- ---- given up

  pub told_underway : AdmitsWithSome v.admits Admits gaps → IsUnderway telling_pair
  told_underway (n, with_some) = record {
    asking = length (flat_map asked (items_in v));
    telling = length (flat_map both_gaps (told_in v)) + n;
    last_literal = flat_map-take_le asked (items_in v) _;
    last_pair =
        let shorter : but_last (told_in telling_pair) ≡ told_in v =
        ap but_last told_in-push
        ∙ take-append_last (told_in v) (node_term v.graph a, node_term v.graph b) in
        omega (arith, ap (λ pairs. length (flat_map both_gaps pairs)) shorter);
    admits = λ x.
        subst (λ asking. Admits x ↔ (NoneNegative x asking
        × NoneNegative x (take (length (flat_map both_gaps (told_in v)) + n)
        (flat_map both_gaps (told_in telling_pair)))))
        (sym (take-length (flat_map asked (items_in v))))
        (subst (λ telling. Admits x ↔ (NoneNegative x (flat_map asked (items_in v))
        × NoneNegative x telling))
        (sym (ap (take (length (flat_map both_gaps (told_in v)) + n)) told_gaps-push
        ∙ take-append-add (flat_map both_gaps (told_in v)) gaps n)) (
          (λ admitted. admits_both (take n gaps) with_some x admitted),
          (λ all. both_admit (take n gaps) with_some x all.0 all.1),
        ));
    follow = told_follow telling_pair is.demanded is.parts.numbers told_push;
    numbers = is.parts.numbers;
    told = told_push;
  }
