-- Quantified formulas among literals play no role for classes and assignments.
use Rattle.std.proofs.Common.{◌≡◌, pos, ◌≤ℤ◌, Bool, true, false, List, refl, ap, sym, subst, ◌∙◌}
use Rattle.std.specs.List.{Contains}
use Rattle.std.proofs.lemmas.List.Elements.{All-contains, All-nil}
use Rattle.esc_term.specs.declared.term.Term.{Term}
use Rattle.esc_term.specs.declared.term.Term.TheVariants.{App}
use Rattle.esc_term.specs.declared.formula.Formula.{Formula, out-Formula}
use Rattle.esc_term.specs.declared.formula.Formula.TheOpen.{Formula-F}
use Rattle.esc_term.specs.declared.formula.Quant.{Quant}
use Rattle.esc_term.specs.declared.formula.Item.{Item}
use Rattle.esc_cover.specs.Arithmetic.{InPlay}
use Rattle.esc_cover.specs.Assignment.{Assignment, Gap, NoneNegative, Suits, asked}
use Rattle.esc_cover.specs.Assignment.{asked_form, gap_value}
use Rattle.esc_cover.specs.Classes.{classes_by}
use Rattle.esc_cover.specs.Least.{IsCongruent}
use Rattle.esc_node_terms.proofs.LiteralForms.{out-Distinct, out-Eq}
use Rattle.esc_sharing.specs.ModelLaws.{ConsistentStays, LeastStays, PartedStays, SatisfiesStays}
use Rattle.esc_sharing.specs.Unquantified.{HaveSameUnquantified, IsSamePlay, is_quantified}
use Rattle.esc_sharing.specs.Unquantified.{is_quantified_form}
use Rattle.esc_sharing.proofs.Lists.{All-each}

-- ---- the other way round

turned : (literals more : List Item) → HaveSameUnquantified literals more
    → HaveSameUnquantified more literals
turned literals more alike item plain = ((alike item plain).1, (alike item plain).0)

turned_play : (play other : InPlay) → IsSamePlay play other → IsSamePlay other play
turned_play play other alike = record {
  terms = sym alike.terms;
  numbers = λ t. ((alike.numbers t).1, (alike.numbers t).0);
}

-- ---- assignments

-- a quantified formula asks nothing
asks_nothing : (x : Assignment) (form : Formula-F Formula Quant) (positive : Bool)
    → is_quantified_form form ≡ true → NoneNegative x (asked_form form positive)
asks_nothing x (Formula-F.Less s t) positive e = absurd (cc)
asks_nothing x _ positive e = All-nil (λ (g : Gap). pos 0 ≤ℤ gap_value x g)

pub satisfies_stays : SatisfiesStays
satisfies_stays literals more alike x satisfies =
    All-each (λ (item : Item). NoneNegative x (asked item)) more (λ item h.
    go item h (is_quantified item) refl)
  where
    go : (item : Item) → Contains more item → (b : Bool) → is_quantified item ≡ b
        → NoneNegative x (asked item)
    go item h true is = asks_nothing x (out-Formula item.formula) item.positive is
    go item h false is = All-contains (λ (other : Item). NoneNegative x (asked other)) literals item
        satisfies ((alike item is).1 h)

module _ (literals more : List Item) (play other : InPlay)
    (alike : HaveSameUnquantified literals more) (alike_play : IsSamePlay play other) where
  suits_stays : (same : Term → Term → Bool) (x : Assignment) → Suits literals play.numbers same x
      → Suits more other.numbers same x
  suits_stays same x suits = record {
    satisfies = satisfies_stays literals more alike x suits.satisfies;
    agrees = λ s t hs ht e. suits.agrees s t ((alike_play.numbers s).1 hs)
        ((alike_play.numbers t).1 ht) e;
  }

-- ---- classes

module _ (literals more : List Item) (play other : InPlay)
    (alike : HaveSameUnquantified literals more) (alike_play : IsSamePlay play other) where
  congruent_stays : (same : Term → Term → Bool) → IsCongruent same play literals
      → IsCongruent same other more
  congruent_stays same congruent = record {
    equivalence = congruent.equivalence;
    congruence = λ head ss ts h k zip. congruent.congruence head ss ts
        (subst (λ terms. Contains terms (App head ss)) (sym alike_play.terms) h)
        (subst (λ terms. Contains terms (App head ts)) (sym alike_play.terms) k) zip;
    equations = λ s t h. congruent.equations s t
        ((alike _ (ap is_quantified_form (out-Eq s t))).1 h);
    values = λ s t hs ht equal. congruent.values s t ((alike_play.numbers s).1 hs)
        ((alike_play.numbers t).1 ht)
        (λ x suits. equal x (suits_stays literals more play other alike alike_play same x suits));
  }

pub least_stays : LeastStays
least_stays literals more play other classes alike alike_play least = record {
  same = least.same;
  congruent = congruent_stays literals more play other alike alike_play least.same least.congruent;
  finest = λ test congruent s t hs ht e. least.finest test
      (congruent_stays more literals other play (turned literals more alike)
      (turned_play play other alike_play) test congruent) s t
      (subst (λ terms. Contains terms s) (sym alike_play.terms) hs)
      (subst (λ terms. Contains terms t) (sym alike_play.terms) ht) e;
  shown = least.shown ∙ ap (classes_by least.same) alike_play.terms;
}

pub consistent_stays : ConsistentStays
consistent_stays literals more classes alike one_sign consistent = record {
  unequal = λ s t h. consistent.unequal s t ((alike _ (ap is_quantified_form (out-Eq s t))).1 h);
  distinct = λ ts h. consistent.distinct ts
      ((alike _ (ap is_quantified_form (out-Distinct ts))).1 h);
  numerals = consistent.numerals;
  one_sign = one_sign;
}

pub parted_stays : PartedStays
parted_stays literals more play other classes alike alike_play parted s t hs ht e =
    let found = parted s t ((alike_play.numbers s).1 hs) ((alike_play.numbers t).1 ht) e in
    (found.0, suits_stays literals more play other alike alike_play _ found.0 found.1, found.2)
