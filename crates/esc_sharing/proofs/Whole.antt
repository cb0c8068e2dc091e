-- All promises hold where the classes join what is demanded alone, and classes and theory agree.
use Rattle.std.proofs.Common.{◌≡◌, ℕ, List, [], ◌∷◌, length, ap, sym, subst, ◌∙◌, arith}
use Rattle.std.proofs.Common.{length-append}
use Rattle.std.proofs.lemmas.List.{append-nil}
use Rattle.esc_cover.specs.Assignment.{Assignment, value}
use Rattle.esc_nodes.specs.Terms.{term_of}
use Rattle.esc_sharing.specs.Numbers.{IsNumber}
use Rattle.esc_union.specs.Merges.{SameClass, class_number}
use Rattle.esc_egraph.specs.Graph.{Adds, number_of}
use Rattle.esc_sharing.specs.Admitted.{ArePartedBy, AreTwoNumbers}
use Rattle.esc_sharing.specs.Nodes.{node_term}
use Rattle.esc_sharing.specs.SettlingInside.{AllAgree, IsUnsettled}
use Rattle.esc_sharing.specs.Shared.{Agree, IsShared, Shared}
use Rattle.esc_sharing.proofs.Consistent.{consistent_with}
use Rattle.esc_sharing.proofs.Exactness.{admitted_satisfies}
use Rattle.esc_sharing.proofs.Kept.{kept_consistent}
use Rattle.esc_sharing.proofs.Least.{demanded_by_least, equations_together, least_by_demand}

-- nothing is left to be told
pub settled : (v : Shared) (Known : ℕ → ℕ → Type 0) → IsUnsettled v Known → AllAgree v
    → ((a b : ℕ) → AreTwoNumbers v.graph v.numbers a b
    → ArePartedBy v.admits (node_term v.graph a) (node_term v.graph b)) → IsShared v
settled v Known is one_value parted =
    let agree : Agree v = record { one_value = one_value; parted = parted } in
    record {
      parts = is.parts;
      least = least_by_demand v is.parts is.exact agree is.demanded;
      consistent = consistent_with v is.parts.forbidden is.some.0
          (admitted_satisfies v is.exact is.some.0 is.some.1)
          (kept_consistent v.graph v.groups is.parts.graph is.parts.members is.parts.met
          is.parts.unbroken) (equations_together v is.parts);
      exact = is.exact;
      some = is.some;
      agree = agree;
    }

-- at first all that the classes join is known
pub unsettled : (v : Shared) → IsShared v → IsUnsettled v (SameClass (number_of v.graph))
unsettled v is = record {
  parts = is.parts;
  exact = is.exact;
  some = is.some;
  demanded = demanded_by_least v is.parts.graph is.least;
  known_equal = λ a b an bn same x admitted. is.agree.one_value x admitted a b an bn same;
}

-- less is known
pub unsettled_fewer : (v : Shared) (Known Fewer : ℕ → ℕ → Type 0)
    → ((a b : ℕ) → Fewer a b → Known a b) → IsUnsettled v Known → IsUnsettled v Fewer
unsettled_fewer v Known Fewer fewer is = record {
  parts = is.parts;
  exact = is.exact;
  some = is.some;
  demanded = is.demanded;
  known_equal = λ a b an bn same. is.known_equal a b an bn (fewer a b same);
}

-- neither classes nor what is admitted changed
module _ (v w : Shared) (agree : Agree v) (numbers : w.numbers ≡ v.numbers)
    (nodes : w.graph.nodes ≡ v.graph.nodes) (merges : w.graph.merges ≡ v.graph.merges)
    (back : (x : Assignment) → w.admits x → v.admits x)
    (forth : (x : Assignment) → v.admits x → w.admits x) where
  term_is : (a : ℕ) → node_term w.graph a ≡ node_term v.graph a
  term_is a = ap (λ shapes. term_of shapes a) nodes

  old : (a : ℕ) → IsNumber w.numbers a → IsNumber v.numbers a
  old a h = subst (λ ns. IsNumber ns a) numbers h

  pub quiet_shared : (Known : ℕ → ℕ → Type 0) → IsUnsettled w Known → IsShared w
  quiet_shared Known is =
      settled w Known is
      (λ x admitted a b an bn same.
      ap (value x) (term_is a)
      ∙ (agree.one_value x (back x admitted) a b (old a an) (old b bn)
      (subst (λ ms. SameClass (class_number ms) a b) merges same)
      ∙ ap (value x) (sym (term_is b))))
      (λ a b two.
      let parted = agree.parted a b (record {
        first = old a two.first;
        second = old b two.second;
        different = λ same. two.different
            (subst (λ ms. SameClass (class_number ms) a b) (sym merges) same);
      }) in (
        parted.0,
        forth parted.0 parted.1,
        λ e. parted.2 (ap (value parted.0) (sym (term_is a))
            ∙ (e ∙ ap (value parted.0) (term_is b))),
      ))

-- no merge came
pub no_more : (old new : List (ℕ × ℕ)) → Adds old new → length new ≡ length old → new ≡ old
no_more old new ([], grown) count = grown ∙ append-nil old
no_more old new (m ∷ ms, grown) count =
    absurd (omega (arith, count, ap length grown, length-append old (m ∷ ms)))
