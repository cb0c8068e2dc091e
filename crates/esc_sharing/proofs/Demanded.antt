-- What every congruent test demands: classes that join no more than that, and what keeps them so.
use Rattle.std.proofs.Common.{◌≡◌, ℕ, ◌<◌, inl, inr, Bool, List, length}
use Rattle.std.proofs.Common.{ap, ◌∙◌, IsTrue}
use Rattle.std.specs.List.{All, Contains}
use Rattle.std.proofs.lemmas.List.Elements.{All-contains}
use Rattle.esc_term.specs.declared.term.Term.{Term}
use Rattle.esc_term.specs.declared.formula.Item.{Item}
use Rattle.esc_term.specs.Model.{Model, value_in}
use Rattle.esc_term.proofs.Members.{Contains-none}
use Rattle.esc_cover.specs.Arithmetic.{InPlay, without_numbers}
use Rattle.esc_cover.specs.Assignment.{Assignment, NoneNegative, Suits, asked}
use Rattle.esc_cover.specs.Laws.{HoldsIn}
use Rattle.esc_cover.specs.Least.{IsCongruent}
use Rattle.esc_nodes.specs.Nodes.{AreTerms, Shape}
use Rattle.esc_nodes.specs.Terms.{term_of, terms_of}
use Rattle.esc_union.specs.Merges.{SameClass}
use Rattle.esc_egraph.specs.Congruence.{EqualWith, IsLeast}
use Rattle.esc_node_terms.proofs.Finest.{finest_of}
use Rattle.esc_sharing.specs.SettlingInside.{IsDemanded}
use Rattle.esc_sharing.proofs.Lists.{All-each}
use Rattle.esc_sharing.proofs.ModelTest.{equal_in, equal_values, model_is_congruent}

-- ---- fewer conditions on tests

pub congruent_without : (other : Term → Term → Bool) (play : InPlay) (literals : List Item)
    → IsCongruent other play literals → IsCongruent other (without_numbers play.terms) literals
congruent_without other play literals is = record {
  equivalence = is.equivalence;
  congruence = is.congruence;
  equations = is.equations;
  values = λ s t h. absurd (Contains-none s h);
}

-- literals are among others
abbrev pub AreAmong : List Item → List Item → Type 0
AreAmong literals more = (item : Item) → Contains literals item → Contains more item

pub suits_fewer : (literals more : List Item) (numbers : List Term) (same : Term → Term → Bool)
    (x : Assignment) → AreAmong literals more → Suits more numbers same x
    → Suits literals numbers same x
suits_fewer literals more numbers same x among suits = record {
  satisfies = All-each (λ (item : Item). NoneNegative x (asked item)) literals
      (λ item h. All-contains (λ (other : Item). NoneNegative x (asked other)) more item
      suits.satisfies (among item h));
  agrees = suits.agrees;
}

pub congruent_for_fewer : (other : Term → Term → Bool) (play : InPlay) (literals more : List Item)
    → AreAmong literals more → IsCongruent other play more → IsCongruent other play literals
congruent_for_fewer other play literals more among is = record {
  equivalence = is.equivalence;
  congruence = is.congruence;
  equations = λ s t h. is.equations s t (among _ h);
  values = λ s t h k equal. is.values s t h k
      (λ x suits. equal x (suits_fewer literals more play.numbers other x among suits));
}

-- ---- what stays demanded

pub demanded_by_more : (literals more : List Item) (nodes : List Shape) (numbers : List Term)
    (number : ℕ → ℕ) → AreAmong literals more → IsDemanded literals nodes numbers number
    → IsDemanded more nodes numbers number
demanded_by_more literals more nodes numbers number among demanded other is =
    demanded other (congruent_for_fewer other
    (record { terms = terms_of nodes; numbers = numbers }) literals more among is)

-- each congruent test joins the two terms
abbrev pub ArePaired : List Item → List Shape → List Term → Term → Term → Type 0
ArePaired literals nodes numbers s t = (other : Term → Term → Bool)
    → IsCongruent other (record { terms = terms_of nodes; numbers = numbers }) literals
    → IsTrue (other s t)

-- what congruence brings once two nodes are made equal that each test joins
pub demanded_joined : (literals : List Item) (nodes : List Shape) (numbers : List Term)
    (old new : ℕ → ℕ) (a b : ℕ) → AreTerms nodes → IsLeast nodes (EqualWith old a b) new
    → ArePaired literals nodes numbers (term_of nodes a) (term_of nodes b)
    → IsDemanded literals nodes numbers old → IsDemanded literals nodes numbers new
demanded_joined literals nodes numbers old new a b are least paired demanded other is =
    finest_of nodes are other literals
    (congruent_without other (record { terms = terms_of nodes; numbers = numbers }) literals is)
    (EqualWith old a b) new least
    (λ x y xl yl equal. elim equal [
      | inl same ↦ demanded other is x y xl yl same
      | inr pair ↦
          ap (λ n. other (term_of nodes n) (term_of nodes y)) pair.0
          ∙ (ap (λ n. other (term_of nodes a) (term_of nodes n)) pair.1 ∙ paired other is)
    ])

-- ---- models

-- nodes of one class have one value in each model of the literals
pub demanded_values : (literals : List Item) (nodes : List Shape) (numbers : List Term)
    (number : ℕ → ℕ) → IsDemanded literals nodes numbers number → (M : Model)
    → All (HoldsIn M) literals → (a b : ℕ) → a < length nodes → b < length nodes
    → SameClass number a b → value_in M (term_of nodes a) ≡ value_in M (term_of nodes b)
demanded_values literals nodes numbers number demanded M holds a b al bl same =
    equal_values M (term_of nodes a) (term_of nodes b)
    (demanded (equal_in M) (model_is_congruent M literals holds
    (record { terms = terms_of nodes; numbers = numbers })) a b al bl same)
