-- Where the parts of a formula stand in its table.
use Rattle.std.proofs.Common.{◌≡◌, ◌⊎◌, inl, inr, ℕ, suc, zero, ◌+◌, List, [], ◌∷◌, ◌++◌, Some}
use Rattle.std.proofs.Common.{drop, length, map, refl, ap, sym, subst, ◌∙◌}
use Rattle.std.proofs.Common.{append_assoc}
use Rattle.std.proofs.lemmas.List.{drop-drop, drop_at, append-nil}
use Rattle.std.proofs.lemmas.List.Concat.{flat_map-append}
use Rattle.std.specs.List.{flat_map, slice_get}
use denote.Hole.Carrier.{roll}
use Rattle.esc_term.specs.declared.formula.Formula.{Formula}
use Rattle.esc_term.specs.declared.formula.Formula.TheVariants as formula
use Rattle.esc_term.specs.declared.formula.Formula.TheOpen.{Formula-F}
use Rattle.esc_term.specs.declared.formula.Formula.TheViews.{roll-Formula, out-Formula}
use Rattle.esc_term.specs.declared.formula.Formula.TheViews.{out-roll-Formula}
use Rattle.esc_term.specs.declared.formula.Formula.TheFolds.{map-Formula, ind-Formula}
use Rattle.esc_term.specs.declared.formula.Quant.{Quant}
use Rattle.esc_cover.specs.Atoms.{pair_equations}
use Rattle.esc_clause.specs.Occurrences.{occurrences_of}
use Rattle.esc_clause.proofs.OccurrencesLevels as occurrences
use Rattle.esc_book.specs.Book.{heads_of, own, pairs_form}
use Rattle.esc_book.specs.ReadingInside.{AreThere}
use Rattle.esc_book.proofs.HeadsLevels as heads

-- wherever a formula stands in the list, its own list stands from there on
abbrev pub IsWhole : List Formula → Type 0
IsWhole hs =
    (n : ℕ) (f : Formula) → slice_get hs n ≡ Some f
    → (rest : List Formula) × (drop n hs ≡ heads_of f ++ rest)

get-append : (xs ys : List Formula) (n : ℕ) (f : Formula) → slice_get (xs ++ ys) n ≡ Some f →
    ((slice_get xs n ≡ Some f) × (drop n (xs ++ ys) ≡ drop n xs ++ ys))
    ⊎ ((m : ℕ) × (slice_get ys m ≡ Some f) × (drop n (xs ++ ys) ≡ drop m ys))
get-append [] ys n f e = inr (n, e, refl)
get-append (x ∷ xs) ys zero f e = inl (e, refl)
get-append (x ∷ xs) ys (suc n) f e = get-append xs ys n f e

whole-nil : IsWhole []
whole-nil n f e = cc

whole-append : (xs ys : List Formula) → IsWhole xs → IsWhole ys → IsWhole (xs ++ ys)
whole-append xs ys front back n f e =
    elim (get-append xs ys n f e) [
      | inl p ↦ let r = front n f p.0 in
          (r.0 ++ ys, p.1 ∙ (ap (λ l. l ++ ys) r.1 ∙ append_assoc (heads_of f) r.0 ys))
      | inr q ↦ let r = back q.0 f q.1 in (r.0, q.2 ∙ r.1)
    ]

-- the formula stands first in its list, those behind it are whole, and its occurrences are those of
-- the formulas of its list
record StandsFirst (f : Formula) : Type 0 where
  parts : List Formula
  is : heads_of f ≡ f ∷ parts
  whole : IsWhole parts
  owned : occurrences_of f ≡ flat_map own (heads_of f)

whole_from_first : (f g : Formula) (hs : List Formula) → heads_of f ≡ f ∷ hs → IsWhole hs
    → IsWhole (f ∷ hs)
whole_from_first f g hs is whole zero h e =
    let same : f ≡ h = cc in (
      [],
      subst (λ x. (f ∷ hs) ≡ heads_of x ++ []) same
          (sym is ∙ sym (append-nil (heads_of f))),
    )
whole_from_first f g hs is whole (suc n) h e = whole n h e

whole_first : (f : Formula) → StandsFirst f → IsWhole (heads_of f)
whole_first f first =
    subst IsWhole (sym first.is) (whole_from_first f f first.parts first.is first.whole)

whole_all : (es : List ((f : Formula) × StandsFirst f))
    → IsWhole (flat_map heads_of (map (λ e. e.0) es))
whole_all [] = whole-nil
whole_all (e ∷ es) =
    whole-append (heads_of e.0) (flat_map heads_of (map (λ e. e.0) es))
    (whole_first e.0 e.1) (whole_all es)

owned_all : (es : List ((f : Formula) × StandsFirst f))
    → flat_map occurrences_of (map (λ e. e.0) es)
    ≡ flat_map own (flat_map heads_of (map (λ e. e.0) es))
owned_all [] = refl
owned_all (e ∷ es) =
    ap (λ os. os ++ flat_map occurrences_of (map (λ e. e.0) es)) e.1.owned
    ∙ (ap (λ os. flat_map own (heads_of e.0) ++ os) (owned_all es)
    ∙ sym (flat_map-append own (heads_of e.0) (flat_map heads_of (map (λ e. e.0) es))))

owned_two : (d e : (f : Formula) × StandsFirst f) → occurrences_of d.0 ++ occurrences_of e.0
    ≡ flat_map own (heads_of d.0 ++ heads_of e.0)
owned_two d e =
    ap (λ os. os ++ occurrences_of e.0) d.1.owned
    ∙ (ap (λ os. flat_map own (heads_of d.0) ++ os) e.1.owned
    ∙ sym (flat_map-append own (heads_of d.0) (heads_of e.0)))

-- a formula without pairs of its own, behind which these occurrences stand
headed : (f : Formula) (os hs : List Formula) → occurrences_of f ≡ f ∷ os → heads_of f ≡ f ∷ hs
    → pairs_form (out-Formula f) ≡ [] → os ≡ flat_map own hs
    → occurrences_of f ≡ flat_map own (heads_of f)
headed f os hs first is none parts =
    first ∙ (ap (λ os. f ∷ os) parts
    ∙ (ap (λ ps. f ∷ (ps ++ flat_map own hs)) (sym none)
    ∙ ap (λ l. flat_map own l) (sym is)))

abbrev Any_quant : Quant → Type 0
Any_quant q = Unit {0}

stands_at : (y : Formula-F ((f : Formula) × StandsFirst f) ((q : Quant) × Any_quant q))
    → StandsFirst (roll-Formula (map-Formula ((f : Formula) × StandsFirst f)
    ((q : Quant) × Any_quant q) Formula Quant (λ e. e.0) (λ e. e.0) y))
unfolding roll-Formula roll
stands_at Formula-F.True = record {
  parts = [];
  is = heads.heads_of-True;
  whole = whole-nil;
  owned = headed formula.True [] [] occurrences.occurrences_of-True heads.heads_of-True
      (ap pairs_form (out-roll-Formula Formula-F.True)) refl;
}
stands_at Formula-F.False = record {
  parts = [];
  is = heads.heads_of-False;
  whole = whole-nil;
  owned = headed formula.False [] [] occurrences.occurrences_of-False heads.heads_of-False
      (ap pairs_form (out-roll-Formula Formula-F.False)) refl;
}
stands_at (Formula-F.And es) =
    let fs = map (λ e. e.0) es in
    record {
      parts = _;
      is = heads.heads_of-And fs;
      whole = whole_all es;
      owned = headed (formula.And fs) _ _ (occurrences.occurrences_of-And fs)
          (heads.heads_of-And fs)
          (ap pairs_form (out-roll-Formula (Formula-F.And fs))) (owned_all es);
    }
stands_at (Formula-F.Or es) =
    let fs = map (λ e. e.0) es in
    record {
      parts = _;
      is = heads.heads_of-Or fs;
      whole = whole_all es;
      owned = headed (formula.Or fs) _ _ (occurrences.occurrences_of-Or fs)
          (heads.heads_of-Or fs)
          (ap pairs_form (out-roll-Formula (Formula-F.Or fs))) (owned_all es);
    }
stands_at (Formula-F.Not e) = record {
  parts = _;
  is = heads.heads_of-Not e.0;
  whole = whole_first e.0 e.1;
  owned = headed (formula.Not e.0) _ _ (occurrences.occurrences_of-Not e.0)
      (heads.heads_of-Not e.0)
      (ap pairs_form (out-roll-Formula (Formula-F.Not e.0))) e.1.owned;
}
stands_at (Formula-F.Implies d e) = record {
  parts = _;
  is = heads.heads_of-Implies d.0 e.0;
  whole = whole-append (heads_of d.0) (heads_of e.0) (whole_first d.0 d.1) (whole_first e.0 e.1);
  owned = headed (formula.Implies d.0 e.0) _ _ (occurrences.occurrences_of-Implies d.0 e.0)
      (heads.heads_of-Implies d.0 e.0)
      (ap pairs_form (out-roll-Formula (Formula-F.Implies d.0 e.0))) (owned_two d e);
}
stands_at (Formula-F.Iff d e) = record {
  parts = _;
  is = heads.heads_of-Iff d.0 e.0;
  whole = whole-append (heads_of d.0) (heads_of e.0) (whole_first d.0 d.1) (whole_first e.0 e.1);
  owned = headed (formula.Iff d.0 e.0) _ _ (occurrences.occurrences_of-Iff d.0 e.0)
      (heads.heads_of-Iff d.0 e.0)
      (ap pairs_form (out-roll-Formula (Formula-F.Iff d.0 e.0))) (owned_two d e);
}
stands_at (Formula-F.Forall q) = record {
  parts = [];
  is = heads.heads_of-Forall q.0;
  whole = whole-nil;
  owned = headed (formula.Forall q.0) [] [] (occurrences.occurrences_of-Forall q.0)
      (heads.heads_of-Forall q.0)
      (ap pairs_form (out-roll-Formula (Formula-F.Forall q.0))) refl;
}
stands_at (Formula-F.Exists q) = record {
  parts = [];
  is = heads.heads_of-Exists q.0;
  whole = whole-nil;
  owned = headed (formula.Exists q.0) [] [] (occurrences.occurrences_of-Exists q.0)
      (heads.heads_of-Exists q.0)
      (ap pairs_form (out-roll-Formula (Formula-F.Exists q.0))) refl;
}
stands_at (Formula-F.Eq s t) = record {
  parts = [];
  is = heads.heads_of-Eq s t;
  whole = whole-nil;
  owned = headed (formula.Eq s t) [] [] (occurrences.occurrences_of-Eq s t)
      (heads.heads_of-Eq s t)
      (ap pairs_form (out-roll-Formula (Formula-F.Eq s t))) refl;
}
stands_at (Formula-F.Less s t) = record {
  parts = [];
  is = heads.heads_of-Less s t;
  whole = whole-nil;
  owned = headed (formula.Less s t) [] [] (occurrences.occurrences_of-Less s t)
      (heads.heads_of-Less s t)
      (ap pairs_form (out-roll-Formula (Formula-F.Less s t))) refl;
}
stands_at (Formula-F.Distinct ts) = record {
  parts = [];
  is = heads.heads_of-Distinct ts;
  whole = whole-nil;
  owned = occurrences.occurrences_of-Distinct ts
      ∙ (ap (λ os. formula.Distinct ts ∷ os) (sym (append-nil (pair_equations ts))
      ∙ ap (λ form. pairs_form form ++ []) (sym (out-roll-Formula (Formula-F.Distinct ts))))
      ∙ ap (λ l. flat_map own l) (sym (heads.heads_of-Distinct ts)));
}
stands_at (Formula-F.LabelPos name e) = record {
  parts = _;
  is = heads.heads_of-LabelPos name e.0;
  whole = whole_first e.0 e.1;
  owned = headed (formula.LabelPos name e.0) _ _ (occurrences.occurrences_of-LabelPos name e.0)
      (heads.heads_of-LabelPos name e.0)
      (ap pairs_form (out-roll-Formula (Formula-F.LabelPos name e.0))) e.1.owned;
}
stands_at (Formula-F.LabelNeg name e) = record {
  parts = _;
  is = heads.heads_of-LabelNeg name e.0;
  whole = whole_first e.0 e.1;
  owned = headed (formula.LabelNeg name e.0) _ _ (occurrences.occurrences_of-LabelNeg name e.0)
      (heads.heads_of-LabelNeg name e.0)
      (ap pairs_form (out-roll-Formula (Formula-F.LabelNeg name e.0))) e.1.owned;
}

stands_first : (f : Formula) → StandsFirst f
stands_first =
    ind-Formula StandsFirst Any_quant
    (λ x y is. subst (λ z. StandsFirst (roll-Formula z)) is (stands_at y)) (λ x y is. tt)

pub occurrences_of-heads : (f : Formula) → occurrences_of f ≡ flat_map own (heads_of f)
occurrences_of-heads f = (stands_first f).owned

pub heads_whole : (f : Formula) → IsWhole (heads_of f)
heads_whole f = whole_first f (stands_first f)

pub heads_first : (f : Formula) → (parts : List Formula) × (heads_of f ≡ f ∷ parts)
heads_first f = ((stands_first f).parts, (stands_first f).is)

pub get-drop : (hs : List Formula) (n : ℕ) → slice_get hs n ≡ slice_get (drop n hs) 0
get-drop hs zero = refl
get-drop [] (suc n) = refl
get-drop (x ∷ hs) (suc n) = get-drop hs n

-- ---- parts side by side from a place of a list on

-- what stands behind a formula are its parts
pub parts_there : (hs : List Formula) (n : ℕ) (f : Formula) (parts : List Formula) → IsWhole hs
    → slice_get hs n ≡ Some f → heads_of f ≡ f ∷ flat_map heads_of parts
    → AreThere hs (n + 1) parts
parts_there hs n f parts whole there is =
    let from = whole n f there in
    record {
      rest = from.0;
      is = sym (drop-drop 1 n hs) ∙ (ap (λ l. drop 1 l) from.1
          ∙ ap (λ l. drop 1 (l ++ from.0)) is);
    }

pub first_there : (hs : List Formula) (n : ℕ) (p : Formula) (ps : List Formula)
    → AreThere hs n (p ∷ ps) → slice_get hs n ≡ Some p
first_there hs n p ps there =
    let first = heads_first p in
    get-drop hs n ∙ (ap (λ l. slice_get l 0) there.is
    ∙ ap (λ l. slice_get ((l ++ flat_map heads_of ps) ++ there.rest) 0) first.1)

pub later_there : (hs : List Formula) (n : ℕ) (p : Formula) (ps : List Formula)
    → AreThere hs n (p ∷ ps) → AreThere hs (n + length (heads_of p)) ps
later_there hs n p ps there = record {
  rest = there.rest;
  is = sym (drop-drop (length (heads_of p)) n hs)
      ∙ (ap (λ l. drop (length (heads_of p)) l)
      (there.is ∙ append_assoc (heads_of p) (flat_map heads_of ps) there.rest)
      ∙ drop_at (heads_of p) (flat_map heads_of ps ++ there.rest) (length (heads_of p)) refl);
}
