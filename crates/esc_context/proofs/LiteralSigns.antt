-- Which signs a formula has as a literal, after one more literal.
use Rattle.std.proofs.Common.{◌≡◌, ℕ, ◌+◌, ◌<◌, Bool, true, false, not, ◌||◌, List, length, get_or}
use Rattle.std.proofs.Common.{take, refl, ap, sym, ◌∙◌}
use Rattle.std.proofs.lemmas.List.Folds.{list_any_more}
use Rattle.esc_term.specs.declared.formula.Formula.{Formula}
use Rattle.esc_term.specs.declared.formula.Item.{Item}
use Rattle.esc_term.specs.Equal.{same_item, same_item-is}
use Rattle.esc_cover.specs.Cover.{is_literal}
use Rattle.esc_cover.proofs.TestLemmas.{false_from, not_both}
use Rattle.esc_context.proofs.Leaders.{or-false}

-- the sign is this one
abbrev pub has_sign : Bool → Bool → Bool
has_sign positive true = positive
has_sign positive false = not positive

module _ (f : Formula) where
  abbrev signed : Bool → Item
  signed positive = record { formula = f; positive = positive }

  same_signs : (g : Formula) (b p : Bool) → g ≡ f
      → same_item (signed p) (record { formula = g; positive = b }) ≡ has_sign b p
  same_signs g true true e = (same_item-is (signed true) _).1
      (ap (λ h. let item : Item = record { formula = h; positive = true } in item) (sym e))
  same_signs g false false e = (same_item-is (signed false) _).1
      (ap (λ h. let item : Item = record { formula = h; positive = false } in item) (sym e))
  same_signs g false true e = false_from _ (λ same.
      not_both false (sym (ap (λ (item : Item). item.positive)
      ((same_item-is (signed true) _).0 same))) refl)
  same_signs g true false e = false_from _ (λ same.
      not_both false (ap (λ (item : Item). item.positive)
      ((same_item-is (signed false) _).0 same)) refl)

  other_formula : (item : Item) (p : Bool) → (item.formula ≡ f → ⊥)
      → same_item (signed p) item ≡ false
  other_formula item p differ = false_from (same_item (signed p) item) (λ same.
      differ (sym (ap (λ (i : Item). i.formula) ((same_item-is (signed p) item).0 same))))

  module _ (literals : List Item) (i : ℕ) (item : Item) (l : i < length literals)
      (at : item ≡ get_or literals i item) (before after p : Bool)
      (seen : before ≡ is_literal (take i literals) f p) where
    more : is_literal (take (i + 1) literals) f p
        ≡ (is_literal (take i literals) f p || same_item (signed p) item)
    more = list_any_more (same_item (signed p)) literals i item l
        ∙ ap (λ x. is_literal (take i literals) f p || same_item (signed p) x) (sym at)

    pub signed_more : item.formula ≡ f → after ≡ (before || has_sign item.positive p)
        → after ≡ is_literal (take (i + 1) literals) f p
    signed_more e is =
        is ∙ (ap (λ b. b || has_sign item.positive p) seen
        ∙ (ap (λ b. is_literal (take i literals) f p || b)
        (sym (same_signs item.formula item.positive p e)) ∙ sym more))

    pub signed_past : (item.formula ≡ f → ⊥) → after ≡ before
        → after ≡ is_literal (take (i + 1) literals) f p
    signed_past differ is =
        is ∙ (seen ∙ (sym (or-false (is_literal (take i literals) f p))
        ∙ (ap (λ b. is_literal (take i literals) f p || b) (sym (other_formula item p differ))
        ∙ sym more)))
