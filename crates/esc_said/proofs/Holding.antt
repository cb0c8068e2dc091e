-- Graph and groups of a sharing hold apart what its literals do, with quantified formulas beside
-- them.
use Rattle.std.proofs.Common.{◌≡◌, ℕ, false, List, [], map, inl, inr, refl, ap, sym, subst}
use Rattle.std.specs.Prelude.{◌↔◌}
use Rattle.std.specs.List.{Contains}
use Rattle.esc_term.specs.declared.term.Term.{Term}
use Rattle.esc_term.specs.declared.formula.Formula.TheVariants as formula
use Rattle.esc_term.specs.declared.formula.Item.{Item}
use Rattle.esc_term.proofs.Members.{Contains-cases, Contains-flat_map, Contains-here}
use Rattle.esc_term.proofs.Members.{Contains-in_flat_map, Contains-none}
use Rattle.esc_node_terms.proofs.LiteralForms.{apart_no_denied, equated_no_apart, out-Distinct}
use Rattle.esc_node_terms.proofs.LiteralForms.{out-Eq}
use Rattle.esc_sharing.specs.Literals.{equality, group_item, item_of}
use Rattle.esc_sharing.specs.Nodes.{node_term}
use Rattle.esc_sharing.specs.Shared.{IsShared, Shared, denied_pair, literals_in}
use Rattle.esc_sharing.specs.Unquantified.{HaveSameUnquantified, is_quantified_form}
use Rattle.esc_sharing.specs.declared.literal.Lit.{Lit}
use Rattle.esc_sharing.specs.declared.literal.Lit.TheVariants.{Equal, Apart, Below, AtMost}
use Rattle.esc_sharing.proofs.Consistent.{Less_no_Eq, asserted_literal}
use Rattle.esc_sharing.proofs.Consistent.{group_literal, of_literal, signs_differ}
use Rattle.esc_sharing.proofs.Lists.{Contains-map, Contains-of_map}
use Rattle.esc_said.specs.HeldApart.{AreHeldApart, denial, distinction}

pub less_no_distinct : (s t : Term) (ts : List Term) → formula.Less s t ≡ formula.Distinct ts → ⊥
less_no_distinct s t ts e = absurd (cc)

module _ (v : Shared) (shared : IsShared v) where
  -- an equation that fails is that of a forbidden pair
  denied_pair_there : (item : Item) (lit : Lit) → Contains v.asserted lit
      → (s t : Term) → item_of v.graph lit ≡ equality s t false
      → Contains (map (denial v.graph) v.graph.forbidden) (equality s t false)
  denied_pair_there item (Equal a b) h s t e = absurd (signs_differ _ _ e refl refl)
  denied_pair_there item (Apart a b) h s t e =
      subst (Contains (map (denial v.graph) v.graph.forbidden)) e
      (Contains-map (denial v.graph) v.graph.forbidden (a, b)
      (subst (λ pairs. Contains pairs (a, b)) (sym shared.parts.forbidden)
      (Contains-in_flat_map denied_pair v.asserted (Apart a b) (a, b) h
      (Contains-here (a, b) []))))
  denied_pair_there item (Below a b) h s t e = absurd (signs_differ _ _ e refl refl)
  denied_pair_there item (AtMost a b) h s t e =
      absurd (Less_no_Eq (node_term v.graph b) (node_term v.graph a) s t
      (ap (λ (i : Item). i.formula) e))

  -- and a forbidden pair is that of a literal
  pair_denied : (pair : ℕ × ℕ) (lit : Lit) → Contains v.asserted lit
      → Contains (denied_pair lit) pair → Contains (literals_in v) (denial v.graph pair)
  pair_denied pair (Equal a b) h k = absurd (Contains-none pair k)
  pair_denied pair (Apart a b) h k =
      elim (Contains-cases (a, b) [] pair k) [
        | inl e ↦ subst (λ (p : ℕ × ℕ). Contains (literals_in v) (denial v.graph p)) e
            (asserted_literal v (Apart a b) h)
        | inr none ↦ absurd (Contains-none pair none)
      ]
  pair_denied pair (Below a b) h k = absurd (Contains-none pair k)
  pair_denied pair (AtMost a b) h k = absurd (Contains-none pair k)

  denials : (s t : Term) → Contains (literals_in v) (equality s t false)
      ↔ Contains (map (denial v.graph) v.graph.forbidden) (equality s t false)
  denials s t = (
    λ h. of_literal v (equality s t false)
        (Contains (map (denial v.graph) v.graph.forbidden) (equality s t false))
        (λ lit k e. denied_pair_there (equality s t false) lit k s t e)
        (λ group k e. absurd (apart_no_denied (map (node_term v.graph) group) s t e)) h,
    λ h.
        let found = Contains-of_map (denial v.graph) v.graph.forbidden (equality s t false) h in
        let lit = Contains-flat_map denied_pair v.asserted found.0
        (subst (λ pairs. Contains pairs found.0) shared.parts.forbidden found.1) in
        subst (Contains (literals_in v)) found.2 (pair_denied found.0 lit.0 lit.1 lit.2),
  )

  group_there : (ts : List Term) (lit : Lit) → item_of v.graph lit ≡ distinction ts → ⊥
  group_there ts (Equal a b) e =
      equated_no_apart (node_term v.graph a) (node_term v.graph b) ts e
  group_there ts (Apart a b) e = signs_differ _ _ (sym e) refl refl
  group_there ts (Below a b) e = less_no_distinct (node_term v.graph a) (node_term v.graph b) ts
      (ap (λ (i : Item). i.formula) e)
  group_there ts (AtMost a b) e = signs_differ _ _ (sym e) refl refl

  distinctions : (ts : List Term) → Contains (literals_in v) (distinction ts)
      ↔ Contains (map (group_item v.graph) v.groups) (distinction ts)
  distinctions ts = (
    λ h. of_literal v (distinction ts)
        (Contains (map (group_item v.graph) v.groups) (distinction ts))
        (λ lit k e. absurd (group_there ts lit e))
        (λ group k e. subst (Contains (map (group_item v.graph) v.groups)) e
        (Contains-map (group_item v.graph) v.groups group k)) h,
    λ h.
        let found = Contains-of_map (group_item v.graph) v.groups (distinction ts) h in
        subst (Contains (literals_in v)) found.2 (group_literal v found.0 found.1),
  )

  pub held_apart : (literals : List Item) → HaveSameUnquantified (literals_in v) literals
      → AreHeldApart v.graph v.groups literals
  held_apart literals alike = record {
    denials = λ s t.
        let same = alike (equality s t false) (ap is_quantified_form (out-Eq s t)) in
        (λ h. (denials s t).0 (same.1 h), λ h. same.0 ((denials s t).1 h));
    distinctions = λ ts.
        let same = alike (distinction ts) (ap is_quantified_form (out-Distinct ts)) in
        (λ h. (distinctions ts).0 (same.1 h), λ h. same.0 ((distinctions ts).1 h));
    members = shared.parts.members;
  }
