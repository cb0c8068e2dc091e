-- Least classes of more literals over more terms are coarser.
use Rattle.std.proofs.Common.{◌≡◌, Bool, true, List, sym, subst}
use Rattle.std.specs.List.{Contains}
use Rattle.std.proofs.lemmas.List.Elements.{All-contains}
use Rattle.esc_term.specs.declared.term.Term.{Term}
use Rattle.esc_term.specs.declared.formula.Item.{Item}
use Rattle.esc_cover.specs.Arithmetic.{InPlay}
use Rattle.esc_cover.specs.Assignment.{Assignment, NoneNegative, Suits, asked}
use Rattle.esc_cover.specs.Classes.{together}
use Rattle.esc_cover.specs.Laws.{GoesFurther}
use Rattle.esc_cover.specs.Least.{IsCongruent, IsLeast}
use Rattle.esc_cover.proofs.ClassLemmas.{of_least, together_by}
use Rattle.esc_sharing.proofs.Lists.{All-each}

module _ (literals more : List Item) (play wider : InPlay)
    (kept : (item : Item) → Contains literals item → Contains more item)
    (terms : (t : Term) → Contains play.terms t → Contains wider.terms t)
    (numbers : (t : Term) → Contains play.numbers t → Contains wider.numbers t) where
  suits_fewer : (same : Term → Term → Bool) (x : Assignment) → Suits more wider.numbers same x
      → Suits literals play.numbers same x
  suits_fewer same x suits = record {
    satisfies = All-each (λ (item : Item). NoneNegative x (asked item)) literals (λ item h.
        All-contains (λ (other : Item). NoneNegative x (asked other)) more item suits.satisfies
        (kept item h));
    agrees = λ s t hs ht e. suits.agrees s t (numbers s hs) (numbers t ht) e;
  }

  congruent_fewer : (same : Term → Term → Bool) → IsCongruent same wider more
      → IsCongruent same play literals
  congruent_fewer same c = record {
    equivalence = c.equivalence;
    congruence = λ head ss ts h k zip. c.congruence head ss ts (terms _ h) (terms _ k) zip;
    equations = λ s t h. c.equations s t (kept _ h);
    values = λ s t hs ht equal. c.values s t (numbers s hs) (numbers t ht)
        (λ x suits. equal x (suits_fewer same x suits));
  }

  pub goes_further : (classes coarser : List (List Term)) → IsLeast literals play classes
      → IsLeast more wider coarser → GoesFurther literals classes more coarser
  goes_further classes coarser least larger = record {
    kept = kept;
    joined = λ s t e.
        let found = of_least literals play classes least s t e in
        subst (λ cs. together cs s t ≡ true) (sym larger.shown)
        (together_by larger.same larger.congruent.equivalence wider.terms s t
        (terms s found.0) (terms t found.1)
        (least.finest larger.same (congruent_fewer larger.same larger.congruent) s t found.0
        found.1 found.2));
  }
