-- Classes that hold nothing which the graph and the groups keep apart are consistent with the
-- literals, where some assignment satisfies these.
use Rattle.std.proofs.Common.{◌≡◌, ℕ, pos, ◌≤ℤ◌, Bool, true, false, inl, inr, List, []}
use Rattle.std.proofs.Common.{map, IsTrue, refl, ap, sym, subst, ◌∙◌, arith}
use Rattle.std.specs.List.{All, Contains, flat_map}
use Rattle.std.proofs.lemmas.Int.{ints}
use Rattle.std.proofs.lemmas.List.Elements.{All-append, All-contains, All-head, All-map}
use Rattle.std.proofs.lemmas.List.Elements.{Contains-append_cases, Contains-append_left}
use Rattle.std.proofs.lemmas.List.Elements.{Contains-append_right}
use Rattle.esc_term.specs.declared.term.Term.{Term}
use Rattle.esc_term.specs.declared.formula.Formula.{Formula, out-Formula}
use Rattle.esc_term.specs.declared.formula.Formula.TheVariants as formula
use Rattle.esc_term.specs.declared.formula.Formula.TheVariants.{rolls-Eq, rolls-Less}
use Rattle.esc_term.specs.declared.formula.Formula.TheOpen.{Formula-F}
use Rattle.esc_term.specs.declared.formula.Formula.TheViews.{out-roll-Formula, roll-Formula}
use Rattle.esc_term.specs.declared.formula.Formula.TheViews.{roll-out-Formula}
use Rattle.esc_term.specs.declared.formula.Quant.{Quant}
use Rattle.esc_term.specs.declared.formula.Item.{Item}
use Rattle.esc_term.proofs.Members.{Contains-in_flat_map, Contains-here}
use Rattle.esc_cover.specs.Assignment.{Assignment, NoneNegative, asked, asked_form, gap, gap_value}
use Rattle.esc_cover.specs.Classes.{together}
use Rattle.esc_cover.specs.Counterexample.{IsConsistent}
use Rattle.esc_cover.proofs.TestLemmas.{not_both}
use Rattle.esc_egraph.specs.Graph.{Graph}
use Rattle.esc_node_terms.specs.LiteralForms.{denied, told_apart}
use Rattle.esc_node_terms.proofs.LiteralForms.{denied_no_apart, equated_no_apart, out-Distinct}
use Rattle.esc_node_terms.proofs.LiteralForms.{out-Eq}
use Rattle.esc_sharing.specs.Literals.{equality, group_item, item_of, order}
use Rattle.esc_sharing.specs.Nodes.{classes_in, node_term}
use Rattle.esc_sharing.specs.Shared.{Shared, denied_pair, items_in, literals_in}
use Rattle.esc_sharing.specs.declared.literal.Lit.{Lit}
use Rattle.esc_sharing.specs.declared.literal.Lit.TheVariants.{Equal, Apart, Below, AtMost}
use Rattle.esc_sharing.proofs.Kept.{denied_item, kept_items}
use Rattle.esc_sharing.proofs.Lists.{All-each, Contains-map, Contains-of_map}

-- ---- forms

-- an equation or an order with either sign, or a distinction that holds
abbrev is_form : Formula-F Formula Quant → Bool → Bool
is_form (Formula-F.Eq s t) positive = true
is_form (Formula-F.Less s t) positive = true
is_form (Formula-F.Distinct ts) positive = positive
is_form _ positive = false

abbrev IsForm : Item → Type 0
IsForm item = IsTrue (is_form (out-Formula item.formula) item.positive)

out-Less : (s t : Term) → out-Formula (formula.Less s t) ≡ Formula-F.Less s t
out-Less s t = ap out-Formula (sym (rolls-Less s t)) ∙ out-roll-Formula (Formula-F.Less s t)

pub Less_no_Eq : (s t u w : Term) → formula.Less s t ≡ formula.Eq u w → ⊥
Less_no_Eq s t u w e =
    let left : Formula-F Formula Quant = Formula-F.Less s t in
    let right : Formula-F Formula Quant = Formula-F.Eq u w in
    let forms : left ≡ right = sym (out-Less s t) ∙ (ap out-Formula e ∙ out-Eq u w) in
    cc

Less_no_Distinct : (s t : Term) (ts : List Term) → formula.Less s t ≡ formula.Distinct ts → ⊥
Less_no_Distinct s t ts e =
    let left : Formula-F Formula Quant = Formula-F.Less s t in
    let right : Formula-F Formula Quant = Formula-F.Distinct ts in
    let forms : left ≡ right = sym (out-Less s t) ∙ (ap out-Formula e ∙ out-Distinct ts) in
    cc

form-item_of : (g : Graph) (lit : Lit) → IsForm (item_of g lit)
form-item_of g (Equal a b) =
    ap (λ form. is_form form true) (out-Eq (node_term g a) (node_term g b))
form-item_of g (Apart a b) =
    ap (λ form. is_form form false) (out-Eq (node_term g a) (node_term g b))
form-item_of g (Below a b) =
    ap (λ form. is_form form true) (out-Less (node_term g a) (node_term g b))
form-item_of g (AtMost a b) =
    ap (λ form. is_form form false) (out-Less (node_term g b) (node_term g a))

form-group_item : (g : Graph) (group : List ℕ) → IsForm (group_item g group)
form-group_item g group =
    ap (λ form. is_form form true) (out-Distinct (map (node_term g) group))

pub signs_differ : (s t : Item) → s ≡ t → s.positive ≡ true → t.positive ≡ false → ⊥
signs_differ s t e yes_it no_it =
    not_both t.positive (ap (λ (item : Item). item.positive) (sym e) ∙ yes_it) no_it

-- ---- a literal is asserted, or is a group's

module _ (v : Shared) where
  module _ (item : Item) (P : Type 0)
      (of_lit : (lit : Lit) → Contains v.asserted lit → item_of v.graph lit ≡ item → P)
      (of_group : (group : List ℕ) → Contains v.groups group → group_item v.graph group ≡ item → P)
    where
      pub of_literal : Contains (literals_in v) item → P
      of_literal h =
          elim (Contains-append_cases (items_in v) (map (group_item v.graph) v.groups) item h) [
            | inl first ↦
                let found = Contains-of_map (item_of v.graph) v.asserted item first in
                of_lit found.0 found.1 found.2
            | inr second ↦
                let found = Contains-of_map (group_item v.graph) v.groups item second in
                of_group found.0 found.1 found.2
          ]

  pub asserted_literal : (lit : Lit) → Contains v.asserted lit
      → Contains (literals_in v) (item_of v.graph lit)
  asserted_literal lit h = Contains-append_left (items_in v) (map (group_item v.graph) v.groups)
      (item_of v.graph lit) (Contains-map (item_of v.graph) v.asserted lit h)

  pub group_literal : (group : List ℕ) → Contains v.groups group
      → Contains (literals_in v) (group_item v.graph group)
  group_literal group h = Contains-append_right (items_in v) (map (group_item v.graph) v.groups)
      (group_item v.graph group) (Contains-map (group_item v.graph) v.groups group h)

  forms : All IsForm (literals_in v)
  forms = All-append IsForm (items_in v) (map (group_item v.graph) v.groups)
      (All-map IsForm (item_of v.graph) v.asserted
      (All-each (λ (lit : Lit). IsForm (item_of v.graph lit)) v.asserted
      (λ lit h. form-item_of v.graph lit)))
      (All-map IsForm (group_item v.graph) v.groups
      (All-each (λ (group : List ℕ). IsForm (group_item v.graph group)) v.groups
      (λ group h. form-group_item v.graph group)))

  -- ---- what is kept apart

  module _ (forbidden : v.graph.forbidden ≡ flat_map denied_pair v.asserted) where
    abbrev kept : List Item
    kept = kept_items v.graph v.groups

    denied_kept : (s t : Term) (lit : Lit) → Contains v.asserted lit
        → item_of v.graph lit ≡ denied s t → Contains kept (denied s t)
    denied_kept s t (Equal a b) h e = absurd (signs_differ _ _ e refl refl)
    denied_kept s t (Apart a b) h e =
        subst (Contains kept) e
        (Contains-append_left (map (denied_item v.graph) v.graph.forbidden)
        (map (group_item v.graph) v.groups) (denied_item v.graph (a, b))
        (Contains-map (denied_item v.graph) v.graph.forbidden (a, b)
        (subst (λ pairs. Contains pairs (a, b)) (sym forbidden)
        (Contains-in_flat_map denied_pair v.asserted (Apart a b) (a, b) h
        (Contains-here (a, b) [])))))
    denied_kept s t (Below a b) h e = absurd (signs_differ _ _ e refl refl)
    denied_kept s t (AtMost a b) h e =
        absurd (Less_no_Eq (node_term v.graph b) (node_term v.graph a) s t
        (ap (λ (item : Item). item.formula) e))

    apart_kept : (ts : List Term) (lit : Lit) → item_of v.graph lit ≡ told_apart ts → ⊥
    apart_kept ts (Equal a b) e = equated_no_apart (node_term v.graph a) (node_term v.graph b) ts e
    apart_kept ts (Apart a b) e = denied_no_apart (node_term v.graph a) (node_term v.graph b) ts e
    apart_kept ts (Below a b) e =
        Less_no_Distinct (node_term v.graph a) (node_term v.graph b) ts
        (ap (λ (item : Item). item.formula) e)
    apart_kept ts (AtMost a b) e = signs_differ _ _ (sym e) refl refl

    unequal_kept : (s t : Term) → Contains (literals_in v) (denied s t)
        → Contains kept (denied s t)
    unequal_kept s t h = of_literal (denied s t) (Contains kept (denied s t)) (denied_kept s t)
        (λ group k e. absurd (denied_no_apart s t (map (node_term v.graph) group) (sym e))) h

    distinct_kept : (ts : List Term) → Contains (literals_in v) (told_apart ts)
        → Contains kept (told_apart ts)
    distinct_kept ts h = of_literal (told_apart ts) (Contains kept (told_apart ts))
        (λ lit k e. absurd (apart_kept ts lit e))
        (λ group k e. subst (Contains kept) e
        (Contains-append_right (map (denied_item v.graph) v.graph.forbidden)
        (map (group_item v.graph) v.groups) (group_item v.graph group)
        (Contains-map (group_item v.graph) v.groups group k))) h

    -- ---- no formula is a literal with both signs

    module _ (x : Assignment)
        (satisfies : All (λ item. NoneNegative x (asked item)) (literals_in v))
        (consistent : IsConsistent kept (classes_in v.graph))
        (equations : (s t : Term) → Contains (literals_in v) (equality s t true)
        → together (classes_in v.graph) s t ≡ true) where
      unequal : (s t : Term) → Contains (literals_in v) (denied s t)
          → together (classes_in v.graph) s t ≡ false
      unequal s t h = consistent.unequal s t (unequal_kept s t h)

      asked_of : (s t : Term) (positive : Bool) → Contains (literals_in v) (order s t positive)
          → NoneNegative x (asked_form (Formula-F.Less s t) positive)
      asked_of s t positive h =
          subst (λ form. NoneNegative x (asked_form form positive)) (out-Less s t)
          (All-contains (λ (item : Item). NoneNegative x (asked item)) (literals_in v)
          (order s t positive) satisfies h)

      both_orders : (s t : Term) → Contains (literals_in v) (order s t true)
          → Contains (literals_in v) (order s t false) → ⊥
      both_orders s t yes_it no_it =
          let above = All-head (λ g. pos 0 ≤ℤ gap_value x g) (gap t s true) []
          (asked_of s t true yes_it) in
          let below = All-head (λ g. pos 0 ≤ℤ gap_value x g) (gap s t false) []
          (asked_of s t false no_it) in
          let some = x.positive in
          omega (arith, ints, above, below, some)

      one_sign_form : (form : Formula-F Formula Quant) → IsTrue (is_form form false)
          → Contains (literals_in v) (record { formula = roll-Formula form; positive = true })
          → Contains (literals_in v) (record { formula = roll-Formula form; positive = false }) → ⊥
      one_sign_form (Formula-F.Eq s t) form yes_it no_it =
          not_both (together (classes_in v.graph) s t)
          (equations s t (subst (λ f. Contains (literals_in v)
          (record { formula = f; positive = true })) (rolls-Eq s t) yes_it))
          (unequal s t (subst (λ f. Contains (literals_in v)
          (record { formula = f; positive = false })) (rolls-Eq s t) no_it))
      one_sign_form (Formula-F.Less s t) form yes_it no_it =
          both_orders s t
          (subst (λ f. Contains (literals_in v) (record { formula = f; positive = true }))
          (rolls-Less s t) yes_it)
          (subst (λ f. Contains (literals_in v) (record { formula = f; positive = false }))
          (rolls-Less s t) no_it)
      one_sign_form _ form yes_it no_it = cc

      one_sign : (f : Formula)
          → Contains (literals_in v) (record { formula = f; positive = true })
          → Contains (literals_in v) (record { formula = f; positive = false }) → ⊥
      one_sign f yes_it no_it =
          let formed : IsTrue (is_form (out-Formula f) false) =
          All-contains IsForm (literals_in v) (record { formula = f; positive = false }) forms no_it
          in
          one_sign_form (out-Formula f) formed
          (subst (λ h. Contains (literals_in v) (record { formula = h; positive = true }))
          (sym (roll-out-Formula f)) yes_it)
          (subst (λ h. Contains (literals_in v) (record { formula = h; positive = false }))
          (sym (roll-out-Formula f)) no_it)

      pub consistent_with : IsConsistent (literals_in v) (classes_in v.graph)
      consistent_with = record {
        unequal = unequal;
        distinct = λ ts h. consistent.distinct ts (distinct_kept ts h);
        numerals = consistent.numerals;
        one_sign = one_sign;
      }
