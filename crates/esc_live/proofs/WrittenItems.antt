-- Literals are written out one after another, and each is an atom.
use Rattle.std.proofs.Common.{◌≡◌, ℕ, ◌+◌, ◌<◌, Bool, true, List, [], ◌∷◌, ◌++◌, Option, Some, None}
use Rattle.std.proofs.Common.{length, take, get_or, refl, ap, sym, subst, ◌∙◌}
use Rattle.std.specs.Prelude.{IsTrue}
use Rattle.std.specs.List.{All, Contains, cons_option, filter_map}
use Rattle.std.specs.Option.{IsSome, IsSomeAnd, option_map}
use Rattle.std.proofs.lemmas.List.{get_or_default, take_more}
use Rattle.std.proofs.lemmas.List.Elements.{All-contains, Contains-get_or}
use Rattle.std.proofs.lemmas.List.Elements.{filter_map-append}
use Rattle.esc_term.specs.declared.formula.Formula.{Formula, out-Formula}
use Rattle.esc_term.specs.declared.formula.Formula.TheOpen.{Formula-F}
use Rattle.esc_term.specs.declared.formula.Quant.{Quant}
use Rattle.esc_term.specs.declared.formula.Item.{Item}
use Rattle.esc_cover.specs.Counterexample.{is_literal_form}
use Rattle.esc_clause.specs.Occurrences.{formula_at, item_at, signed}
use Rattle.esc_clause.specs.declared.occurrence.Occurrence.{Occurrence}
use Rattle.esc_book.specs.Atom.{IsAtomAt, is_atom_form}
use Rattle.esc_live.specs.StandingInside.{IsLiteralAt}
use Rattle.esc_live.proofs.LiveAtoms.{Contains-filter_map}

literal_atom : (form : Formula-F Formula Quant) (p : Bool) → is_literal_form form p ≡ true
    → is_atom_form form ≡ true
literal_atom (Formula-F.Eq s t) p e = refl
literal_atom (Formula-F.Less s t) p e = refl
literal_atom (Formula-F.Forall q) p e = refl
literal_atom (Formula-F.Exists q) p e = refl
literal_atom (Formula-F.Distinct ts) p e = refl
literal_atom Formula-F.True p e = absurd (cc)
literal_atom Formula-F.False p e = absurd (cc)
literal_atom (Formula-F.And ps) p e = absurd (cc)
literal_atom (Formula-F.Or ps) p e = absurd (cc)
literal_atom (Formula-F.Not q) p e = absurd (cc)
literal_atom (Formula-F.Implies a b) p e = absurd (cc)
literal_atom (Formula-F.Iff a b) p e = absurd (cc)
literal_atom (Formula-F.LabelPos name q) p e = absurd (cc)
literal_atom (Formula-F.LabelNeg name q) p e = absurd (cc)

pub atom_of_literal : (fs : List Formula) (at : Occurrence) → IsLiteralAt fs at → IsAtomAt fs at
atom_of_literal fs at literal = go (formula_at fs at) literal
  where
    go : (o : Option Formula) → IsSomeAnd (option_map (signed at.positive) o)
        (λ item. IsTrue (is_literal_form (out-Formula item.formula) item.positive))
        → IsSomeAnd o (λ f. is_atom_form (out-Formula f) ≡ true)
    go (Some f) h = literal_atom (out-Formula f) at.positive h
    go None h = h

-- one of those whose items are literals
pub literal_among : (fs : List Formula) (ats : List Occurrence) (at : Occurrence) → Contains ats at
    → IsSome (formula_at fs at)
    → All (λ item. IsTrue (is_literal_form (out-Formula item.formula) item.positive))
    (filter_map (item_at fs) ats) → IsAtomAt fs at
literal_among fs ats at h there all = atom_of_literal fs at (go (formula_at fs at) refl there)
  where
    go : (o : Option Formula) → formula_at fs at ≡ o → IsSome o → IsLiteralAt fs at
    go None is some = absurd (cc)
    go (Some f) is some =
        let item_is : item_at fs at ≡ Some (signed at.positive f) =
        ap (option_map (signed at.positive)) is in
        subst (λ o. IsSomeAnd o (λ item. IsTrue (is_literal_form (out-Formula item.formula)
        item.positive))) (sym item_is)
        (All-contains (λ (item : Item). IsTrue (is_literal_form (out-Formula item.formula)
        item.positive)) (filter_map (item_at fs) ats) (signed at.positive f) all
        (Contains-filter_map (item_at fs) ats at (signed at.positive f) h item_is))

pub written_more : (fs : List Formula) (ats : List Occurrence) (i : ℕ) (at : Occurrence)
    (item : Item) (items : List Item) → i < length ats → at ≡ get_or ats i at
    → item_at fs at ≡ Some item → items ≡ filter_map (item_at fs) (take i ats)
    → items ++ item ∷ [] ≡ filter_map (item_at fs) (take (i + 1) ats)
written_more fs ats i at item items within is there before =
    ap (λ xs. xs ++ item ∷ []) before
    ∙ (ap (λ o. filter_map (item_at fs) (take i ats) ++ cons_option o []) (sym there)
    ∙ (sym (filter_map-append (item_at fs) (take i ats) (at ∷ []))
    ∙ ap (filter_map (item_at fs)) (ap (λ x. take i ats ++ x ∷ []) is
    ∙ sym (take_more ats i at within))))

pub atom_listed : (fs : List Formula) (ats others : List Occurrence) (i : ℕ) (d : Occurrence)
    → others ≡ ats → i < length others → All (λ at. IsSome (formula_at fs at)) ats
    → All (λ item. IsTrue (is_literal_form (out-Formula item.formula) item.positive))
    (filter_map (item_at fs) ats) → IsAtomAt fs (get_or others i d)
atom_listed fs ats others i d same within there all =
    let inside : i < length ats = subst (λ (xs : List Occurrence). i < length xs) same within in
    subst (λ (xs : List Occurrence). IsAtomAt fs (get_or xs i d)) (sym same)
    (literal_among fs ats (get_or ats i d) (Contains-get_or ats i d inside) (there i d inside) all)

pub written_next : (fs : List Formula) (ats others : List Occurrence) (i : ℕ) (d : Occurrence)
    (item : Item) (items : List Item) → others ≡ ats → i < length others
    → item_at fs (get_or others i d) ≡ Some item → items ≡ filter_map (item_at fs) (take i ats)
    → items ++ item ∷ [] ≡ filter_map (item_at fs) (take (i + 1) ats)
written_next fs ats others i d item items same within there before =
    let inside : i < length ats = subst (λ (xs : List Occurrence). i < length xs) same within in
    written_more fs ats i (get_or ats i d) item items inside
    (get_or_default ats i d (get_or ats i d) inside)
    (subst (λ (xs : List Occurrence). item_at fs (get_or xs i d) ≡ Some item) same there) before
