-- The graph and the groups keep apart what the literals do; where they are met, the classes agree
-- with the literals.
use Rattle.std.proofs.Common.{◌≡◌, ◌≢◌, ℕ, ℤ, ◌<◌, Bool, true, false, not, inl, inr, List, length}
use Rattle.std.proofs.Common.{get_or, map, IsTrue, refl, ap, sym, subst, ◌∙◌, arith}
use Rattle.std.specs.Ordering.{int_eq}
use Rattle.std.specs.List.{All, Contains}
use Rattle.std.proofs.lemmas.Bool.Decides.{Decides-int_eq}
use Rattle.std.proofs.lemmas.List.{get_or-map, length-map}
use Rattle.std.proofs.lemmas.List.Elements.{All-contains}
use Rattle.esc_term.specs.declared.term.Term.{Term}
use Rattle.esc_term.specs.declared.term.Term.TheVariants as term
use Rattle.esc_term.specs.declared.formula.Formula.{Formula, out-Formula}
use Rattle.esc_term.specs.declared.formula.Formula.TheVariants.{rolls-Eq}
use Rattle.esc_term.specs.declared.formula.Formula.TheOpen.{Formula-F}
use Rattle.esc_term.specs.declared.formula.Formula.TheViews.{roll-Formula, roll-out-Formula}
use Rattle.esc_term.specs.declared.formula.Quant.{Quant}
use Rattle.esc_term.specs.declared.formula.Item.{Item}
use Rattle.esc_term.proofs.Parts.{apart_Num}
use Rattle.esc_cover.specs.Classes.{together}
use Rattle.esc_cover.specs.Counterexample.{IsConsistent}
use Rattle.esc_cover.specs.Cover.{every_two}
use Rattle.esc_cover.proofs.TestLemmas.{false_from, not_both}
use Rattle.esc_nodes.specs.Nodes.{AreTerms, Shape, shape_at}
use Rattle.esc_nodes.specs.Terms.{built, term_of}
use Rattle.esc_nodes.specs.declared.top.Top.{Top}
use Rattle.esc_nodes.specs.declared.top.Top.TheVariants.{Num, App}
use Rattle.esc_nodes.proofs.NodeTerms.{terms_are_built}
use Rattle.esc_egraph.specs.Congruence.{AreUnequalNumerals, IsMet}
use Rattle.esc_egraph.specs.Graph.{Graph, number_of}
use Rattle.esc_distinct.specs.Groups.{AreBroken}
use Rattle.esc_node_terms.specs.LiteralForms.{AreKept, IsClassLiteral, denied, is_class_form}
use Rattle.esc_node_terms.specs.LiteralForms.{told_apart}
use Rattle.esc_node_terms.specs.Nodes.{classes_in, node_count, node_term}
use Rattle.esc_node_terms.proofs.ClassTests.{nodes_of_together, of_together_at}
use Rattle.esc_node_terms.proofs.TwoPlaces.{every_two_from}

numeral_built : (of : ℕ → Term) (top : Top) (args : List ℕ) (n : ℤ) →
    built of top args ≡ term.Num n → top ≡ Num n
numeral_built of (Num m) args n e = cc
numeral_built of (App head) args n e = absurd (apart_Num n head (map of args) (sym e))

-- the top of a numeral's node
top-numeral : (nodes : List Shape) → AreTerms nodes → (k : ℕ) → k < length nodes → (n : ℤ) →
    term_of nodes k ≡ term.Num n →
    (shape_at nodes k).top ≡ Num n
top-numeral nodes are k l n e =
    numeral_built (term_of nodes) (shape_at nodes k).top (shape_at nodes k).args n
    (sym (terms_are_built nodes are k l) ∙ e)

unequal_numerals : (t u : Top) (m n : ℤ) → t ≡ Num m → u ≡ Num n → m ≢ n → AreUnequalNumerals t u
unequal_numerals t u m n d e apart =
    subst (λ x. AreUnequalNumerals x u) (sym d)
    (subst (λ y. AreUnequalNumerals (Num m) y) (sym e) apart)

module _ (g : Graph) (groups : List (List ℕ)) (literals : List Item)
    (kept : AreKept g groups literals) (met : IsMet g)
    (unbroken : AreBroken (number_of g) groups → ⊥) where
  -- the sides of an equation that fails stand in two classes
  unequal : (s t : Term) → Contains literals (denied s t) →
      together (classes_in g) s t ≡ false
  unequal s t h =
      let pair = kept.denials_are s t h in
      let there = All-contains
      (λ (p : ℕ × ℕ). (p.0 < node_count g) × (p.1 < node_count g))
      g.forbidden pair.1 kept.graph.paired (pair.0, pair.2, pair.3) in
      false_from (together (classes_in g) s t)
      (λ e. met.whole (inl (
        pair.0,
        pair.1,
        pair.2,
        pair.3,
        of_together_at g kept.graph pair.1.0 pair.1.1 there.0 there.1
            (ap (λ x. together (classes_in g) x (node_term g pair.1.1)) pair.4.0
            ∙ (ap (together (classes_in g) s) pair.4.1 ∙ e)),
      )))

  -- the members at two places of a group stand in two classes
  apart_in : (k : ℕ) (group : List ℕ) → k < length groups → get_or groups k group ≡ group →
      every_two (λ s t. not (together (classes_in g) s t)) (map (node_term g) group) ≡ true
  apart_in k group l is =
      let within : All (λ n. n < node_count g) group =
      All-contains (All (λ n. n < node_count g)) groups group kept.members (k, l, is) in
      every_two_from (λ s t. not (together (classes_in g) s t)) (map (node_term g) group)
      (node_term g 0)
      (λ i j before jl.
      let jg : j < length group = omega (arith, jl, length-map group (node_term g)) in
      let ig : i < length group = omega (arith, before, jg) in
      let at : (n : ℕ) → n < length group → get_or (map (node_term g) group) n (node_term g 0)
      ≡ node_term g (get_or group n 0) =
      λ n nl. get_or-map (node_term g) group n 0 (node_term g 0) nl in
      let two : together (classes_in g) (node_term g (get_or group i 0))
      (node_term g (get_or group j 0)) ≡ false =
      false_from (together (classes_in g) (node_term g (get_or group i 0))
      (node_term g (get_or group j 0)))
      (λ e. unbroken (
        k,
        group,
        l,
        is,
        (
          j,
          jg,
          (
            i,
            ig,
            (λ same. omega (arith, same, before)),
            of_together_at g kept.graph (get_or group i 0) (get_or group j 0) (within i 0 ig)
                (within j 0 jg) e,
          ),
        ),
      )) in
      ap (λ s. not (together (classes_in g) s (get_or (map (node_term g) group) j (node_term g 0))))
      (at i ig)
      ∙ (ap (λ t. not (together (classes_in g) (node_term g (get_or group i 0)) t)) (at j jg)
      ∙ ap not two))

  distinct : (ts : List Term) → Contains literals (told_apart ts) →
      every_two (λ s t. not (together (classes_in g) s t)) ts ≡ true
  distinct ts h =
      let found = kept.distinctions_are ts h in
      subst (λ us. every_two (λ s t. not (together (classes_in g) s t)) us ≡ true) found.4
      (apart_in found.0 found.1 found.2 found.3)

  numerals : (m n : ℤ) → together (classes_in g) (term.Num m) (term.Num n) ≡ true → m ≡ n
  numerals m n e = go (int_eq m n) refl
    where
      go : (b : Bool) → int_eq m n ≡ b → m ≡ n
      go true is = (Decides-int_eq m n).0 is
      go false is =
          let found = nodes_of_together g kept.graph (term.Num m) (term.Num n) e in
          absurd (met.whole (inr (
            found.0,
            found.2,
            (
              found.1,
              found.3,
              found.6,
              unequal_numerals (shape_at g.nodes found.0).top
                  (shape_at g.nodes found.1).top m n
                  (top-numeral g.nodes kept.graph.terms found.0 found.2 m found.4)
                  (top-numeral g.nodes kept.graph.terms found.1 found.3 n found.5)
                  (λ same. not_both (int_eq m n) ((Decides-int_eq m n).1 same) is),
            ),
          )))

  one_sign_form : (form : Formula-F Formula Quant) → IsTrue (is_class_form form false) →
      Contains literals (record { formula = roll-Formula form; positive = true }) →
      Contains literals (record { formula = roll-Formula form; positive = false }) → ⊥
  one_sign_form (Formula-F.Eq s t) form yes_it no_it =
      not_both (together (classes_in g) s t)
      (kept.equations_are s t
      (subst (λ f. Contains literals (record { formula = f; positive = true }))
      (rolls-Eq s t) yes_it))
      (unequal s t (subst (λ f. Contains literals (record { formula = f; positive = false }))
      (rolls-Eq s t) no_it))
  one_sign_form _ form yes_it no_it = cc

  one_sign : (f : Formula) → Contains literals (record { formula = f; positive = true }) →
      Contains literals (record { formula = f; positive = false }) → ⊥
  one_sign f yes_it no_it =
      let formed : IsTrue (is_class_form (out-Formula f) false) =
      All-contains
      IsClassLiteral
      literals (record { formula = f; positive = false }) kept.forms no_it in
      one_sign_form (out-Formula f) formed
      (subst (λ g. Contains literals (record { formula = g; positive = true }))
      (sym (roll-out-Formula f)) yes_it)
      (subst (λ g. Contains literals (record { formula = g; positive = false }))
      (sym (roll-out-Formula f)) no_it)

  pub agreeing : IsConsistent literals (classes_in g)
  agreeing = record {
    unequal = unequal;
    distinct = distinct;
    numerals = numerals;
    one_sign =
        one_sign;
  }
