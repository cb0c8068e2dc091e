-- The terms that a form is made of come into use one after another, and its row is made of them.
use Rattle.std.proofs.Common.{◌≡◌, ◌⊎◌, inl, inr, ℕ, ◌+◌, ◌<◌, ◌≤◌, List, [], ◌∷◌, ◌++◌, Some, None, slice_get, Result, Ok, Err, IfOk, IfErr, OnOk, length, map, take, get_or, refl, sym, ap, ◌∙◌, subst, arith}
use Rattle.std.specs.Prelude.{◌↔◌}
use Rattle.std.specs.List.{All, AllZip, Contains}
use Rattle.std.proofs.lemmas.List.{get_or-map, length-map, take_more}
use Rattle.std.proofs.lemmas.List.Elements.{All-cons, All-contains, All-map, All-nil, Contains-append_cases, Contains-push_cases}
use Rattle.esc_term.specs.declared.term.Term.{Term}
use Rattle.esc_frac.specs.Rational.{ℚ, one_ℚ}
use Rattle.esc_linear.specs.Forms.{form, opaque_form, part}
use Rattle.esc_linear.specs.Steps.{AllFit, steps}
use Rattle.esc_linear.specs.declared.form.Form.{Form}
use Rattle.esc_linear.specs.declared.form.Part.{Part as Addend}
use Rattle.esc_linear.proofs.ProductLaw.{form-meant}
use Rattle.esc_tableau.specs.declared.changing.Part.{Part}
use Rattle.esc_trail.specs.Undo.{Notes}
use Rattle.esc_trail.proofs.Noting.{notes_both, notes_nothing}
use Rattle.esc_simplex.specs.Barred.{AreRowParts, IsAddendOf, IsBarred}
use Rattle.esc_simplex.specs.Calls.{GapEnds, IsOfTerm, IsOnlyNew, Makes, UnknownEnds}
use Rattle.esc_simplex.specs.MakingInside.{FormEnds, IsAmong, IsLookedInto, IsUsedAddend}
use Rattle.esc_simplex.specs.Senses.{Sense, StandsFor, gap_of, senses_of, term}
use Rattle.esc_simplex.specs.SimplexUndo.{simplex_undo}
use Rattle.esc_simplex.specs.SimplexLaws.{barred_more, simplex_lawful}
use Rattle.esc_simplex.specs.View.{IsBuiltAt, IsInUse, IsSimplex, sense_in, senses_in}
use Rattle.esc_simplex.specs.declared.made.Made.TheVariants as made
use Rattle.esc_simplex.specs.declared.record.SimplexRec.{SimplexRec}
use Rattle.esc_simplex.specs.declared.simplex.Simplex.{Simplex}
use Rattle.esc_simplex.specs.declared.stop.Stop.{Stop}
use Rattle.esc_simplex.specs.declared.stop.Stop.TheVariants as stop
use Rattle.esc_simplex.proofs.Gapped.{many, term_in}
use Rattle.esc_simplex.proofs.Making.{in_use_later, makes_both, makes_kept, makes_more, sense_later}
use Rattle.esc_simplex.proofs.Zips.{zip_push, zip_right, zip_weaker}

-- ---- term by term

used_later : (v w : Simplex) (May : Sense → Type 0) → Makes v w May → (p : Part) (a : Addend)
    → IsUsedAddend v p a → IsUsedAddend w p a
used_later v w May makes p a held = record {
  used = in_use_later v w May makes p.unknown (term a.term) held.used;
  factor = held.factor;
}

among : (addends : List Addend) (n : ℕ) (a : Addend) → n < length addends
    → a ≡ get_or addends n a → (s : Sense) → s ≡ term a.term → IsAmong addends s
among addends n a inside read s e = subst (IsAmong addends) (sym e) (
  n,
  omega (arith, inside, length-map addends (λ (p : Addend). p.term)),
  get_or-map (λ (p : Addend). p.term) addends n a a.term inside
      ∙ ap (λ (p : Addend). p.term) (sym read),
)

-- the first terms are in use, in these parts
pub record Adding {Whole : Type 0} (carry : SimplexRec → Whole) (before after : List Whole)
    (start now : Simplex) (addends : List Addend) (n : ℕ) (ps : List Part) : Type 0 where
  pub used : AllZip (IsUsedAddend now) ps (take n addends)
  pub makes : Makes start now (IsAmong addends)
  pub restricted : now.restricted ≡ start.restricted
  pub simplex : IsSimplex now
  pub undo : Notes simplex_undo carry before after start now

pub adding_starts : {Whole : Type 0} (carry : SimplexRec → Whole) (before : List Whole)
    (start : Simplex) (addends : List Addend) → IsSimplex start
    → Adding carry before before start start addends 0 []
adding_starts carry before start addends h = record {
  used = tt;
  makes = makes_kept start start (IsAmong addends) refl refl refl refl;
  restricted = refl;
  simplex = h;
  undo = notes_nothing simplex_undo carry before before start start refl
      (simplex_lawful.reflexive start);
}

module _ {Whole : Type 0} (carry : SimplexRec → Whole) (before middle after : List Whole)
    (start now next : Simplex) (addends : List Addend) (n : ℕ) (ps : List Part)
    (so_far : Adding carry before middle start now addends n ps) (a : Addend)
    (inside : n < length addends) (read : a ≡ get_or addends n a)
    (makes : Makes now next (λ s. s ≡ term a.term)) where
  pub adding_makes : Makes start next (IsAmong addends)
  adding_makes = makes_both start now next (IsAmong addends) so_far.simplex so_far.makes
      (makes_more now next (λ s. s ≡ term a.term) (IsAmong addends)
      (among addends n a inside read) makes)

  pub adding_undo : Notes simplex_undo carry middle after now next
      → Notes simplex_undo carry before after start next
  adding_undo noted = notes_both simplex_undo simplex_lawful carry before middle after start now
      next so_far.undo noted

  pub adding_step : next.restricted ≡ now.restricted → IsSimplex next
      → Notes simplex_undo carry middle after now next → (p : Part)
      → IsInUse next p.unknown (term a.term) → p.factor ≡ a.factor
      → Adding carry before after start next addends (n + 1) (ps ++ p ∷ [])
  adding_step restricted h noted p held factor = record {
    used = subst (AllZip (IsUsedAddend next) (ps ++ p ∷ [])) (sym (take_more addends n a inside
        ∙ ap (λ (b : Addend). take n addends ++ b ∷ []) (sym read)))
        (zip_push (IsUsedAddend next) ps (take n addends) p a
        (zip_weaker (IsUsedAddend now) (IsUsedAddend next)
        (used_later now next (λ s. s ≡ term a.term) makes) ps (take n addends) so_far.used)
        (record { used = held; factor = factor }));
    makes = adding_makes;
    restricted = restricted ∙ so_far.restricted;
    simplex = h;
    undo = adding_undo noted;
  }

-- ---- the row

module _ (v : Simplex) (t : Term) (ps : List Part)
    (used : AllZip (IsUsedAddend v) ps (form t).parts) where
  pub form_row : (k : ℚ) → k ≡ (form t).constant → AreRowParts (senses_in v) (term t) ps k
  form_row k e = (
    zip_weaker (IsUsedAddend v) (IsAddendOf (senses_in v))
        (λ p a held. record { unknown = held.used.stands; factor = held.factor }) ps
        (form t).parts used,
    e,
  )

  pub form_built : IsBuiltAt v.made (length v.made) (made.Term t)
  form_built = zip_right (IsUsedAddend v) (λ a. (w : ℕ) × (w ≤ length v.made)
      × StandsFor (senses_of v.made) w (term a.term))
      (λ p a held. (
        p.unknown,
        omega (arith, held.used.stands.there, many v),
        held.used.stands,
      )) ps (form t).parts used

  pub form_used : (w : Simplex) (May : Sense → Type 0) → Makes v w May
      → All (λ a. (u : ℕ) × IsInUse w u (term a.term)) (form t).parts
  form_used w May makes = zip_right (IsUsedAddend v) (λ a. (u : ℕ) × IsInUse w u (term a.term))
      (λ p a held. (p.unknown, in_use_later v w May makes p.unknown (term a.term) held.used)) ps
      (form t).parts used

-- ---- no other unknown for the term

module _ (v m w : Simplex) (t : Term) (addends : List Addend)
    (opaque : All (λ a. form a.term ≡ opaque_form a.term) addends)
    (into : form t ≡ opaque_form t → ⊥) (first : Makes v m (IsAmong addends))
    (Might : Sense → Type 0) (then : Makes m w Might) (simplex : IsSimplex m) where
  -- none that came into use for the terms of the form stands for it
  not_among : (y : ℕ) → Contains first.unknowns y → sense_in m y ≡ term t → ⊥
  not_among y c is =
      let there = subst (IsAmong addends) is
      (All-contains (λ x. IsAmong addends (sense_in m x)) first.unknowns y first.listed_may c) in
      into (All-contains (λ s. form s ≡ opaque_form s) (map (λ p. p.term) addends) t
      (All-map (λ s. form s ≡ opaque_form s) (λ p. p.term) addends opaque) there)

  row_only : (u : ℕ) → w.unknowns ≡ m.unknowns ++ u ∷ [] → IsOnlyNew v w t u
  row_only u listed y held = go (Contains-push_cases m.unknowns u y
      (subst (λ us. Contains us y) listed held.listed))
    where
      was : Contains m.unknowns y → sense_in m y ≡ term t
      was c = sym (sense_later m w Might then y (omega (
        arith,
        many m,
        All-contains (λ x. x < length m.made) m.unknowns y simplex.listed c,
      ))) ∙ held.stands.is

      old : Contains m.unknowns y → Contains v.unknowns y ⊎ Contains first.unknowns y
          → Contains v.unknowns y ⊎ (y ≡ u)
      old c (inl before) = inl before
      old c (inr new) = absurd (not_among y new (was c))

      go : Contains m.unknowns y ⊎ (u ≡ y) → Contains v.unknowns y ⊎ (y ≡ u)
      go (inl c) = old c (Contains-append_cases v.unknowns first.unknowns y
          (subst (λ us. Contains us y) first.listed c))
      go (inr same) = inr (sym same)

  pub row_once : {E : Type 0} (r : Result ℕ E) → IfOk r (λ u. w.unknowns ≡ m.unknowns ++ u ∷ [])
      → IfOk r (IsOnlyNew v w t)
  row_once (Ok u) listed = row_only u listed
  row_once (Err e) listed = tt

-- a term that arithmetic does not look into has one alone
pub opaque_only : (v w : Simplex) (t : Term) → IsSimplex w → form t ≡ opaque_form t → (u : ℕ)
    → IsInUse w u (term t) → IsOnlyNew v w t u
opaque_only v w t h opaque u held y other = inr (h.opaque_once y u t opaque other.stands
    held.stands)

-- ---- what the call answers

pub itself_of_term : (t : Term) (s : Sense) → s ≡ term t → IsOfTerm t s
itself_of_term t s e = subst (IsOfTerm t) (sym e) (inl refl)

pub unknown_ends : (t : Term) → AllFit (steps t) → (r : Result ℕ Stop) → GapEnds r
    → UnknownEnds t r
unknown_ends t fits (Ok u) ends = fits
unknown_ends t fits (Err (stop.Spill j)) ends = fits
unknown_ends t fits (Err (stop.Form s)) ends = absurd ends
unknown_ends t fits (Err (stop.Pivots j)) ends = ends
unknown_ends t fits (Err stop.Memory) ends = tt

pub barred_term_alone : {V : Type 0} (v : Simplex) (t : Term) (r : Result V Stop)
    → IfErr r (IsBarred v (λ s. term t ≡ term s) (λ g. term t ≡ gap_of g))
    → IfErr r (IsBarred v (λ s. s ≡ t) (λ g. ⊥))
barred_term_alone v t (Ok x) barred = tt
barred_term_alone v t (Err e) barred = barred_more v (λ s. term t ≡ term s) (λ s. s ≡ t)
    (λ g. term t ≡ gap_of g) (λ g. ⊥) (λ s same. cc) (λ g same. absurd (cc)) e barred

pub when_ok : {V E : Type 0} (P : Type 0) (r : Result V E) → P → OnOk r P
when_ok P (Ok x) p = p
when_ok P (Err e) p = tt

-- a term that arithmetic does not look into is the only one of its form
pub opaque_used : (w : Simplex) (t : Term) → form t ≡ opaque_form t → (u : ℕ)
    → IsInUse w u (term t) → All (λ a. (y : ℕ) × IsInUse w y (term a.term)) (form t).parts
opaque_used w t opaque u held = subst (λ (f : Form). All (λ a. (y : ℕ)
    × IsInUse w y (term a.term)) f.parts) (sym opaque)
    (All-cons (λ a. (y : ℕ) × IsInUse w y (term a.term)) (part t one_ℚ) [] (u, held)
    (All-nil (λ a. (y : ℕ) × IsInUse w y (term a.term))))

pub looked_into : (t : Term) → (form t ≡ opaque_form t → ⊥) → IsLookedInto (term t)
unfolding term_in
looked_into t into s e opaque = into (subst (λ (r : Term). form r ≡ opaque_form r)
    (sym (ap term_in e)) opaque)

-- the stop of the form
pub form_ends : (t : Term) (s : Stop) → FormEnds t (Err s) → UnknownEnds t (Err s)
form_ends t (stop.Spill j) ends = absurd ends
form_ends t (stop.Form u) ends = ends
form_ends t (stop.Pivots j) ends = ends
form_ends t stop.Memory ends = tt

pub form_barred : (v : Simplex) (t : Term) (s : Stop) → FormEnds t (Err s)
    → IsBarred v (λ u. u ≡ t) (λ g. ⊥) s
form_barred v t (stop.Spill j) ends = absurd ends
form_barred v t (stop.Form u) ends = (
  ends.0,
  subst (λ (r : Term). AllFit (steps r) → ⊥) (sym ends.0) ends.1,
)
form_barred v t (stop.Pivots j) ends = absurd ends
form_barred v t stop.Memory ends = tt

-- ---- which forms are those of such a term

first_part : (addends : List Addend) (a : Addend) → Some a ≡ slice_get addends 0
    → (0 < length addends) × (a ≡ get_or addends 0 a)
first_part [] a e = absurd (cc)
first_part (b ∷ bs) a e = (omega arith, cc)

-- the first part has the term itself
pub opaque_by_first : (f : Form) (t : Term) (a : Addend) → f ≡ form t → Some a
    ≡ slice_get f.parts 0 → (form t ≡ opaque_form t) ↔ (a.term ≡ t)
opaque_by_first f t a is first = (
  λ opaque. same (first ∙ ap (λ (g : Form). slice_get g.parts 0) (is ∙ opaque)),
  λ same.
      let read = first_part f.parts a first in
      subst (λ (r : Term). form r ≡ opaque_form r) same
      (subst (λ (b : Addend). form b.term ≡ opaque_form b.term) (sym read.1)
      (subst (λ (g : Form). All (λ (b : Addend). form b.term ≡ opaque_form b.term) g.parts)
      (sym is) (form-meant t).opaque 0 a read.0)),
)
  where
    same : Some a ≡ Some (part t one_ℚ) → a.term ≡ t
    same e = cc

pub not_opaque : (f : Form) (t : Term) → f ≡ form t → None ≡ slice_get f.parts 0
    → form t ≡ opaque_form t → ⊥
not_opaque f t is none opaque = never (none ∙ ap (λ (g : Form). slice_get g.parts 0) (is ∙ opaque))
  where
    never : None ≡ Some (part t one_ℚ) → ⊥
    never e = cc

-- ---- the parts of a form, as a list of their own

module _ (t : Term) (addends : List Addend) (are : addends ≡ (form t).parts) where
  pub among_term : (s : Sense) → IsAmong addends s → IsOfTerm t s
  among_term s h = go s (subst (λ ps. IsAmong ps s) are h)
    where
      go : (s : Sense) → IsAmong (form t).parts s → IsOfTerm t s
      go (term u) h = inr h
      go (gap_of g) h = h

  pub opaque_addends : All (λ a. form a.term ≡ opaque_form a.term) addends
  opaque_addends = subst (All (λ (a : Addend). form a.term ≡ opaque_form a.term)) (sym are)
      (form-meant t).opaque

  pub used_of_form : (v : Simplex) (ps : List Part) → AllZip (IsUsedAddend v) ps addends
      → AllZip (IsUsedAddend v) ps (form t).parts
  used_of_form v ps = subst (AllZip (IsUsedAddend v) ps) are
