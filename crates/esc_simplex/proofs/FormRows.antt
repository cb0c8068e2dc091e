-- A row that is made as its sense says has its value.
use Rattle.std.proofs.Common.{◌≡◌, List, [], ◌∷◌, refl, sym, ap, ap₂, ◌∙◌}
use Rattle.std.specs.List.{All, AllZip}
use Rattle.std.proofs.lemmas.List.Elements.{All-head, All-tail}
use Rattle.esc_term.specs.declared.term.Term.{Term}
use Rattle.esc_frac.specs.Rational.{ℚ, ◌+ℚ◌, ◌*ℚ◌}
use Rattle.esc_frac.proofs.FieldLaws.{+ℚ_comm}
use Rattle.esc_linear.specs.Forms.{form, opaque_form}
use Rattle.esc_linear.specs.Laws.{weighted}
use Rattle.esc_linear.specs.declared.form.Part.{Part as Addend}
use Rattle.esc_linear.proofs.ProductLaw.{form-meant}
use Rattle.esc_rows.specs.Rows.{Point}
use Rattle.esc_tableau.specs.Changes.{parts_value}
use Rattle.esc_tableau.specs.declared.changing.Part.{Part}
use Rattle.esc_cover.specs.Assignment.{Assignment}
use Rattle.esc_simplex.specs.Barred.{AreRowParts, IsAddendOf}
use Rattle.esc_simplex.specs.Senses.{IsPointOf, Sense, gap_of, sense_fraction, term}
use Rattle.esc_simplex.proofs.FormValue.{given, value-form, value-opaque_form}
use Rattle.esc_simplex.proofs.Rowed.{gap_whole}

module _ (senses : List Sense) (p : Point) (x : Assignment) (is : IsPointOf senses x p) where
  addends_value : (ps : List Part) (addends : List Addend) → AllZip (IsAddendOf senses) ps addends
      → All (λ a. form a.term ≡ opaque_form a.term) addends → parts_value p ps
      ≡ weighted (given x) addends
  unfolding weighted
  addends_value [] [] zip opaque = refl
  addends_value [] (a ∷ addends) zip opaque = absurd zip
  addends_value (q ∷ qs) [] zip opaque = absurd zip
  addends_value (q ∷ qs) (a ∷ addends) zip opaque =
      ap₂ (λ y z. y +ℚ z)
      (ap₂ (λ f y. f *ℚ y) zip.0.factor
      (is q.unknown zip.0.unknown.there ∙ ap (sense_fraction x) zip.0.unknown.is
      ∙ value-opaque_form x a.term
      (All-head (λ (b : Addend). form b.term ≡ opaque_form b.term) a addends opaque)))
      (addends_value qs addends zip.1
      (All-tail (λ (b : Addend). form b.term ≡ opaque_form b.term) a addends opaque))

  term_whole : (t : Term) (ps : List Part) (k : ℚ) → AllZip (IsAddendOf senses) ps (form t).parts
      → k ≡ (form t).constant → parts_value p ps +ℚ k ≡ sense_fraction x (term t)
  term_whole t ps k zip e =
      +ℚ_comm (parts_value p ps) k
      ∙ ap₂ (λ y z. y +ℚ z) e (addends_value ps (form t).parts zip (form-meant t).opaque)
      ∙ sym (value-form x t)

pub row_whole : (senses : List Sense) (s : Sense) (ps : List Part) (k : ℚ)
    → AreRowParts senses s ps k → (p : Point) (x : Assignment) → IsPointOf senses x p
    → parts_value p ps +ℚ k ≡ sense_fraction x s
row_whole senses (term t) ps k parts p x is = term_whole senses p x is t ps k parts.0 parts.1
row_whole senses (gap_of g) ps k parts p x is =
    ap₂ (λ (qs : List Part) (c : ℚ). parts_value p qs +ℚ c) parts.0.parts parts.1
    ∙ gap_whole senses parts.0.upper parts.0.lower g parts.0.is_upper.there parts.0.is_upper.is
    parts.0.is_lower.there parts.0.is_lower.is p x is
