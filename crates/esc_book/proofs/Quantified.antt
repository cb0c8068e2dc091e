-- Entries of quantified formulas, and literals that are quantified.
use Rattle.std.proofs.Common.{◌≡◌, ℕ, ◌+◌, ◌<◌, Bool, true, false, not, ◌||◌, List, [], ◌∷◌, ◌++◌}
use Rattle.std.proofs.Common.{Some, None, Option, length, get_or, take, refl, ap, sym, ◌∙◌}
use Rattle.std.proofs.lemmas.List.{take_more}
use Rattle.std.proofs.lemmas.List.Elements.{filter_map-append}
use Rattle.std.proofs.lemmas.List.Folds.{list_any-append}
use Rattle.std.specs.List.{cons_option, slice_get}
use Rattle.std.specs.Option.{IsSome, option_map}
use Rattle.esc_term.specs.declared.term.Term.{Term}
use Rattle.esc_term.specs.declared.formula.Formula.{Formula}
use Rattle.esc_term.specs.declared.formula.Formula.TheVariants as formula
use Rattle.esc_term.specs.declared.formula.Formula.TheOpen.{Formula-F}
use Rattle.esc_term.specs.declared.formula.Formula.TheViews.{out-Formula, roll-Formula}
use Rattle.esc_term.specs.declared.formula.Formula.TheViews.{out-roll-Formula, roll-out-Formula}
use Rattle.esc_term.specs.declared.formula.Quant.{Quant}
use Rattle.esc_term.specs.declared.formula.Item.{Item}
use Rattle.esc_term.specs.Equal.{same_item, same_item-is}
use Rattle.esc_clause.specs.Occurrences.{formula_at, item_at, occurrences_of, signed}
use Rattle.esc_clause.specs.declared.occurrence.Occurrence.{Occurrence}
use Rattle.esc_said.proofs.Unlike.{or_false}
use Rattle.esc_cover.proofs.TestLemmas.{false_from, not_both}
use Rattle.esc_cover.specs.Cover.{by_literal, is_literal}
use Rattle.esc_egraph.specs.Graph.{Graph}
use Rattle.esc_said.specs.Speaking.{SaysAs}
use Rattle.esc_said.specs.declared.said.Said.{Said}
use Rattle.esc_sharing.specs.Nodes.{node_term}
use Rattle.esc_sharing.specs.Unquantified.{is_quantified_form}
use Rattle.esc_book.specs.Book.{BookView, Page, Quantified, form_at, items_of, told_kind}
use Rattle.esc_book.specs.ReadingInside.{IsLocated}
use Rattle.esc_book.specs.declared.page.Place.{Place}
use Rattle.esc_book.specs.declared.page.Place.TheVariants as place
use Rattle.esc_book.specs.declared.entry.Kind.{Kind}
use Rattle.esc_book.specs.declared.entry.Kind.TheVariants as kind
use Rattle.esc_book.proofs.EntryForms.{of_form}
use denote.Hole.Carrier.{roll}

quantified_rolled : (y : Formula-F Formula Quant) → is_quantified_form y ≡ true
    → form_at y ≡ Quantified (roll-Formula y)
unfolding roll-Formula roll
quantified_rolled Formula-F.True e = cc
quantified_rolled Formula-F.False e = cc
quantified_rolled (Formula-F.And ps) e = cc
quantified_rolled (Formula-F.Or ps) e = cc
quantified_rolled (Formula-F.Not p) e = cc
quantified_rolled (Formula-F.Implies p q) e = cc
quantified_rolled (Formula-F.Iff p q) e = cc
quantified_rolled (Formula-F.Forall q) e = refl
quantified_rolled (Formula-F.Exists q) e = refl
quantified_rolled (Formula-F.Eq x y) e = cc
quantified_rolled (Formula-F.Less x y) e = cc
quantified_rolled (Formula-F.Distinct ts) e = cc
quantified_rolled (Formula-F.LabelPos name p) e = cc
quantified_rolled (Formula-F.LabelNeg name p) e = cc

quantified_form : (f : Formula) → is_quantified_form (out-Formula f) ≡ true
    → form_at (out-Formula f) ≡ Quantified f
quantified_form f e =
    quantified_rolled (out-Formula f) e ∙ ap Quantified (roll-out-Formula f)

told_quantified : (g : Graph) (k : Kind) (f : Formula) → told_kind g k ≡ Quantified f
    → k ≡ kind.Quantified f
told_quantified g (kind.Constant b) f e = cc
told_quantified g kind.Conjunction f e = cc
told_quantified g kind.Disjunction f e = cc
told_quantified g kind.Negation f e = cc
told_quantified g kind.Implication f e = cc
told_quantified g kind.Equivalence f e = cc
told_quantified g kind.Labelled f e = cc
told_quantified g (kind.Equation a b) f e = cc
told_quantified g (kind.Order a b) f e = cc
told_quantified g (kind.Distinction nodes) f e = cc
told_quantified g (kind.Quantified h) f e = let same : h ≡ f = cc in ap kind.Quantified same

module _ (g : Graph) (k : Kind) (f s : Formula)
    (quantified : is_quantified_form (out-Formula f) ≡ true)
    (is : told_kind g k ≡ form_at (out-Formula s)) where
  pub kind_same : k ≡ kind.Quantified f → s ≡ f
  kind_same e = sym (of_form (Quantified f) s (sym (ap (told_kind g) e) ∙ is)).0

  pub same_kind : s ≡ f → k ≡ kind.Quantified f
  same_kind e =
      told_quantified g k f
      (is ∙ (ap (λ x. form_at (out-Formula x)) e ∙ quantified_form f quantified))

-- ---- literals

pub some_there : (o : Option Formula) → IsSome o → (f : Formula) × (o ≡ Some f)
some_there None is = cc
some_there (Some f) is = (f, refl)

module _ (v : BookView) (f : Formula) where
  module _ (at : Occurrence) (h : Formula) (there : formula_at v.logged at ≡ Some h) where
    one_item : items_of v (at ∷ []) ≡ signed at.positive h ∷ []
    one_item = ap (λ o. cons_option (option_map (signed at.positive) o) []) there

  more_items : (ats : List Occurrence) (i : ℕ) (at : Occurrence) → i < length ats
      → at ≡ get_or ats i at
      → items_of v (take (i + 1) ats) ≡ items_of v (take i ats) ++ items_of v (at ∷ [])
  more_items ats i at l is =
      ap (items_of v) (take_more ats i at l ∙ ap (λ x. take i ats ++ (x ∷ [])) (sym is))
      ∙ filter_map-append (item_at v.logged) (take i ats) (at ∷ [])

  -- the sign is this one
  abbrev has_sign : Bool → Bool → Bool
  has_sign positive true = positive
  has_sign positive false = not positive

  same_signs : (b p : Bool) → same_item (signed p f) (signed b f) ≡ has_sign b p
  same_signs true true = (same_item-is (signed true f) (signed true f)).1 refl
  same_signs false false = (same_item-is (signed false f) (signed false f)).1 refl
  same_signs false true = false_from _ (λ same.
      not_both false (sym (ap (λ (item : Item). item.positive)
      ((same_item-is (signed true f) (signed false f)).0 same))) refl)
  same_signs true false = false_from _ (λ same.
      not_both false (ap (λ (item : Item). item.positive)
      ((same_item-is (signed false f) (signed true f)).0 same)) refl)

  other_formula : (b p : Bool) (h : Formula) → (h ≡ f → ⊥)
      → same_item (signed p f) (signed b h) ≡ false
  other_formula b p h differ = false_from (same_item (signed p f) (signed b h)) (λ same.
      differ (sym (ap (λ (i : Item). i.formula)
      ((same_item-is (signed p f) (signed b h)).0 same))))

  module _ (ats : List Occurrence) (i : ℕ) (at : Occurrence) (h : Formula) (l : i < length ats)
      (at_is : at ≡ get_or ats i at) (there : formula_at v.logged at ≡ Some h) where
    more_literal : (p : Bool) → is_literal (items_of v (take (i + 1) ats)) f p
        ≡ (is_literal (items_of v (take i ats)) f p
        || same_item (signed p f) (signed at.positive h))
    more_literal p =
        ap (λ items. is_literal items f p)
        (more_items ats i at l at_is ∙ ap (λ items. items_of v (take i ats) ++ items)
        (one_item at h there))
        ∙ (list_any-append (same_item (signed p f)) (items_of v (take i ats))
        (signed at.positive h ∷ [])
        ∙ ap (λ b. is_literal (items_of v (take i ats)) f p || b)
        (or_false (same_item (signed p f) (signed at.positive h))))

    pub literal_same : (before after : Said) → h ≡ f
        → SaysAs before (by_literal (items_of v (take i ats)) f)
        → after.holds ≡ (before.holds || at.positive)
        → after.fails ≡ (before.fails || not at.positive)
        → SaysAs after (by_literal (items_of v (take (i + 1) ats)) f)
    literal_same before after e was holds fails = record {
      holds = one true after.holds before.holds holds was.holds;
      fails = one false after.fails before.fails fails was.fails;
    }
      where
        one : (p after before : Bool) → after ≡ (before || has_sign at.positive p)
            → before ≡ is_literal (items_of v (take i ats)) f p
            → after ≡ is_literal (items_of v (take (i + 1) ats)) f p
        one p after before is was =
            is ∙ (ap (λ b. b || has_sign at.positive p) was
            ∙ (ap (λ b. is_literal (items_of v (take i ats)) f p || b)
            (sym (ap (λ x. same_item (signed p f) (signed at.positive x)) e
            ∙ same_signs at.positive p))
            ∙ sym (more_literal p)))

    pub literal_past : (before after : Said) → (h ≡ f → ⊥)
        → SaysAs before (by_literal (items_of v (take i ats)) f)
        → after.holds ≡ before.holds → after.fails ≡ before.fails
        → SaysAs after (by_literal (items_of v (take (i + 1) ats)) f)
    literal_past before after differ was holds fails = record {
      holds = one true after.holds before.holds holds was.holds;
      fails = one false after.fails before.fails fails was.fails;
    }
      where
        one : (p after before : Bool) → after ≡ before
            → before ≡ is_literal (items_of v (take i ats)) f p
            → after ≡ is_literal (items_of v (take (i + 1) ats)) f p
        one p after before is was =
            is ∙ (was ∙ (sym (or_false (is_literal (items_of v (take i ats)) f p))
            ∙ (ap (λ b. is_literal (items_of v (take i ats)) f p || b)
            (sym (other_formula at.positive p h differ)) ∙ sym (more_literal p))))

-- ---- places where a quantified formula stands

quantified-Eq : (s t : Term) → is_quantified_form (out-Formula (formula.Eq s t)) ≡ false
unfolding roll-Formula roll
quantified-Eq s t = ap is_quantified_form (out-roll-Formula (Formula-F.Eq s t))

pub not_located : (g : Graph) (whole f : Formula) (page : Page) (at : ℕ) (p : Place)
    → ((i : ℕ) → p ≡ place.Entry i → ⊥) → is_quantified_form (out-Formula f) ≡ true
    → IsLocated g whole page at p → slice_get (occurrences_of whole) at ≡ Some f → ⊥
not_located g whole f page at (place.Entry i) other quantified located e = other i refl
not_located g whole f page at (place.Pair a b) other quantified located e =
    let same : formula.Eq (node_term g a) (node_term g b) ≡ f =
    let both : Some (formula.Eq (node_term g a) (node_term g b)) ≡ Some f =
    sym located.0 ∙ e in cc in
    not_both (is_quantified_form (out-Formula f)) quantified
    (ap (λ x. is_quantified_form (out-Formula x)) (sym same)
    ∙ quantified-Eq (node_term g a) (node_term g b))
not_located g whole f page at place.Nowhere other quantified located e =
    let both : None ≡ Some f = sym located ∙ e in cc
