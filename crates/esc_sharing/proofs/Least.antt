-- Classes that join what is demanded alone, and that the theory parts, are the least ones; and of
-- the least ones this holds.
use Rattle.std.proofs.Common.{◌≡◌, ℕ, ◌<◌, Bool, true, false, map}
use Rattle.std.proofs.Common.{refl, ap, sym, subst, ◌∙◌}
use Rattle.std.specs.List.{Contains}
use Rattle.std.proofs.lemmas.List.Elements.{All-contains}
use Rattle.esc_term.specs.declared.term.Term.{Term}
use Rattle.esc_term.specs.declared.formula.Item.{Item}
use Rattle.esc_cover.specs.Assignment.{Assignment, Suits, value}
use Rattle.esc_cover.specs.Classes.{together}
use Rattle.esc_cover.specs.Least.{AreEqualByValues, IsCongruent, IsLeast}
use Rattle.esc_cover.proofs.ClassLemmas.{of_least}
use Rattle.esc_cover.proofs.TestLemmas.{not_both}
use Rattle.esc_union.specs.Merges.{SameClass}
use Rattle.esc_egraph.specs.Graph.{IsGraph, number_of}
use Rattle.esc_node_terms.specs.LiteralForms.{equated}
use Rattle.esc_node_terms.proofs.Finest.{congruence_in}
use Rattle.esc_node_terms.proofs.LiteralForms.{equated_no_apart, same_equated}
use Rattle.esc_sharing.specs.Literals.{AreSides, equality, item_of}
use Rattle.esc_sharing.specs.Nodes.{classes_in, node_count, node_term, same_in}
use Rattle.esc_sharing.specs.Numbers.{AreNumbersOf, IsNumber, number_terms}
use Rattle.esc_sharing.specs.Shared.{AdmitsAll, Agree, AreParts, IsMetIn, Shared, literals_in}
use Rattle.esc_sharing.specs.Shared.{play_in}
use Rattle.esc_sharing.specs.SettlingInside.{JoinsDemanded}
use Rattle.esc_sharing.specs.declared.literal.Lit.{Lit}
use Rattle.esc_sharing.specs.declared.literal.Lit.TheVariants.{Equal, Apart, Below, AtMost}
use Rattle.esc_node_terms.proofs.ClassTests.{nodes_of_same, of_same_at, same_at}
use Rattle.esc_node_terms.proofs.ClassTests.{same_in-equivalence, together_at}
use Rattle.esc_sharing.proofs.Consistent.{Less_no_Eq, of_literal, signs_differ}
use Rattle.esc_sharing.proofs.Exactness.{admitted_satisfies}
use Rattle.esc_sharing.proofs.Lists.{Contains-map, Contains-of_map}

-- ---- numbers and their nodes

module _ (v : Shared) (numbers : AreNumbersOf v.graph v.numbers) where
  pub node_of_number : (s : Term) → Contains (number_terms v.numbers) s
      → (a : ℕ) × IsNumber v.numbers a × (a < node_count v.graph) × (node_term v.graph a ≡ s)
  node_of_number s h =
      let found = Contains-of_map (λ (number : ℕ × Term). number.1) v.numbers s h in
      let at = All-contains (λ (number : ℕ × Term). (number.0 < node_count v.graph)
      × (node_term v.graph number.0 ≡ number.1)) v.numbers found.0 numbers found.1 in (
        found.0.0,
        Contains-map (λ (number : ℕ × Term). number.0) v.numbers found.0 found.1,
        at.0,
        at.1 ∙ found.2,
      )

  pub number_of_node : (a : ℕ) → IsNumber v.numbers a
      → (a < node_count v.graph) × Contains (number_terms v.numbers) (node_term v.graph a)
  number_of_node a h =
      let found = Contains-of_map (λ (number : ℕ × Term). number.0) v.numbers a h in
      let at = All-contains (λ (number : ℕ × Term). (number.0 < node_count v.graph)
      × (node_term v.graph number.0 ≡ number.1)) v.numbers found.0 numbers found.1 in (
        subst (λ n. n < node_count v.graph) found.2 at.0,
        subst (Contains (number_terms v.numbers))
            (sym at.1 ∙ ap (node_term v.graph) found.2)
            (Contains-map (λ (number : ℕ × Term). number.1) v.numbers found.0 found.1),
      )

-- ---- of the least classes

-- what least classes join is demanded
pub demanded_by_least : (v : Shared) → IsGraph v.graph
    → IsLeast (literals_in v) (play_in v) (classes_in v.graph) → JoinsDemanded v
demanded_by_least v graph least other is a b al bl same =
    let found = of_least (literals_in v) (play_in v) (classes_in v.graph) least
    (node_term v.graph a) (node_term v.graph b) (together_at v.graph graph a b al bl same) in
    least.finest other is (node_term v.graph a) (node_term v.graph b) found.0 found.1 found.2

-- ---- classes that join what is demanded alone, and that the theory parts

-- two nodes of one class, with these terms
record ArePairFor (v : Shared) (s t : Term) : Type 0 where
  a : ℕ
  b : ℕ
  a_there : a < node_count v.graph
  b_there : b < node_count v.graph
  a_is : node_term v.graph a ≡ s
  b_is : node_term v.graph b ≡ t
  one_class : SameClass (number_of v.graph) a b

module _ (v : Shared) (parts : AreParts v) where
  -- the sides of an equation that holds have nodes of one class
  equation_of : (s t : Term) (lit : Lit) → Contains v.asserted lit
      → item_of v.graph lit ≡ equated s t → ArePairFor v s t
  equation_of s t (Equal a b) h e =
      let terms = same_equated (node_term v.graph a) (node_term v.graph b) s t e in
      let sides = All-contains (AreSides v.graph v.numbers) v.asserted (Equal a b) parts.sides h in
      record {
        a = a;
        b = b;
        a_there = sides.first;
        b_there = sides.second;
        a_is = terms.0;
        b_is = terms.1;
        one_class = All-contains (IsMetIn v.graph) v.asserted (Equal a b) parts.equations h;
      }
  equation_of s t (Apart a b) h e = absurd (signs_differ _ _ (sym e) refl refl)
  equation_of s t (Below a b) h e =
      absurd (Less_no_Eq (node_term v.graph a) (node_term v.graph b) s t
      (ap (λ (item : Item). item.formula) e))
  equation_of s t (AtMost a b) h e = absurd (signs_differ _ _ (sym e) refl refl)

  equations_are : (s t : Term) → Contains (literals_in v) (equality s t true)
      → ArePairFor v s t
  equations_are s t h = of_literal v (equated s t) (ArePairFor v s t) (equation_of s t)
      (λ group k e. absurd (equated_no_apart s t (map (node_term v.graph) group) (sym e))) h

  pub equations_pass : (s t : Term) → Contains (literals_in v) (equality s t true)
      → same_in v.graph s t ≡ true
  equations_pass s t h =
      let pair = equations_are s t h in
      ap (λ u. same_in v.graph u t) (sym pair.a_is)
      ∙ (ap (same_in v.graph (node_term v.graph pair.a)) (sym pair.b_is)
      ∙ same_at v.graph parts.graph pair.a pair.b pair.a_there pair.b_there pair.one_class)

  pub equations_together : (s t : Term) → Contains (literals_in v) (equality s t true)
      → together (classes_in v.graph) s t ≡ true
  equations_together s t h =
      let pair = equations_are s t h in
      ap (λ u. together (classes_in v.graph) u t) (sym pair.a_is)
      ∙ (ap (together (classes_in v.graph) (node_term v.graph pair.a)) (sym pair.b_is)
      ∙ together_at v.graph parts.graph pair.a pair.b pair.a_there pair.b_there pair.one_class)

  module _ (exact : AdmitsAll v) (agree : Agree v) where
    -- what is admitted suits literals and classes
    pub admitted_suits : (x : Assignment) → v.admits x
        → Suits (literals_in v) (number_terms v.numbers) (same_in v.graph) x
    admitted_suits x admitted = record {
      satisfies = admitted_satisfies v exact x admitted;
      agrees = λ s t hs ht e.
          let left = node_of_number v parts.numbers s hs in
          let right = node_of_number v parts.numbers t ht in
          ap (value x) (sym left.3)
          ∙ (agree.one_value x admitted left.0 right.0 left.1 right.1
          (of_same_at v.graph parts.graph left.0 right.0 left.2 right.2
          (ap (λ u. same_in v.graph u (node_term v.graph right.0)) left.3
          ∙ (ap (same_in v.graph s) right.3 ∙ e)))
          ∙ ap (value x) right.3);
    }

    values_pass : (s t : Term) → Contains (number_terms v.numbers) s
        → Contains (number_terms v.numbers) t
        → AreEqualByValues (literals_in v) (number_terms v.numbers) (same_in v.graph) s t
        → same_in v.graph s t ≡ true
    values_pass s t hs ht equal = go (same_in v.graph s t) refl
      where
        left : (a : ℕ) × IsNumber v.numbers a × (a < node_count v.graph)
            × (node_term v.graph a ≡ s)
        left = node_of_number v parts.numbers s hs

        right : (a : ℕ) × IsNumber v.numbers a × (a < node_count v.graph)
            × (node_term v.graph a ≡ t)
        right = node_of_number v parts.numbers t ht

        apart : same_in v.graph s t ≡ false → SameClass (number_of v.graph) left.0 right.0 → ⊥
        apart is same =
            not_both (same_in v.graph s t)
            (ap (λ u. same_in v.graph u t) (sym left.3)
            ∙ (ap (same_in v.graph (node_term v.graph left.0)) (sym right.3)
            ∙ same_at v.graph parts.graph left.0 right.0 left.2 right.2 same)) is

        go : (b : Bool) → same_in v.graph s t ≡ b → same_in v.graph s t ≡ true
        go true is = is
        go false is =
            let parted = agree.parted left.0 right.0 (record {
              first = left.1;
              second = right.1;
              different = apart is;
            }) in
            absurd (parted.2 (ap (value parted.0) left.3
            ∙ (equal parted.0 (admitted_suits parted.0 parted.1)
            ∙ ap (value parted.0) (sym right.3))))

    module _ (demanded : JoinsDemanded v) where
      classes_congruent : IsCongruent (same_in v.graph) (play_in v) (literals_in v)
      classes_congruent = record {
        equivalence = same_in-equivalence v.graph;
        congruence = congruence_in v.graph parts.graph parts.met.closed;
        equations = equations_pass;
        values = values_pass;
      }

      pub least_by_demand : IsLeast (literals_in v) (play_in v) (classes_in v.graph)
      unfolding classes_in
      least_by_demand = record {
        same = same_in v.graph;
        congruent = classes_congruent;
        finest = λ other is s t hs ht e.
            let pair = nodes_of_same v.graph parts.graph s t hs ht e in
            ap (λ u. other u t) (sym pair.4)
            ∙ (ap (other (node_term v.graph pair.0)) (sym pair.5)
            ∙ demanded other is pair.0 pair.1 pair.2 pair.3 pair.6);
        shown = refl;
      }
