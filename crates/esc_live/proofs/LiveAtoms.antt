-- A literal of a live fact is an atom of the live formulas, and these are formulas of the log.
use Rattle.std.proofs.Common.{◌≡◌, ◌⊎◌, inl, inr, ℕ, zero, suc, Bool, true, false, List, [], ◌∷◌, ◌++◌, map}
use Rattle.std.proofs.Common.{Option, Some, None, refl, ap, sym, subst, ◌∙◌}
use Rattle.std.specs.Prelude.{slice_get}
use Rattle.std.specs.List.{All, Contains, cons_option, filter_map, flat_map}
use Rattle.std.specs.Option.{option_and_then, option_map}
use Rattle.std.proofs.lemmas.List.Elements.{All-weaker, Contains-append_cases}
use Rattle.std.proofs.lemmas.List.Elements.{Contains-append_left, Contains-append_right}
use denote.Hole.Carrier.{roll}
use Rattle.esc_term.specs.declared.formula.Formula.{Formula, out-Formula}
use Rattle.esc_term.specs.declared.formula.Formula.TheVariants as formula
use Rattle.esc_term.specs.declared.formula.Formula.TheOpen.{Formula-F}
use Rattle.esc_term.specs.declared.formula.Formula.TheViews.{out-roll-Formula, roll-Formula}
use Rattle.esc_term.specs.declared.formula.Formula.TheFolds.{map-Formula, ind-Formula}
use Rattle.esc_term.specs.declared.formula.Quant.{Quant}
use Rattle.esc_term.specs.declared.formula.Item.{Item}
use Rattle.esc_term.proofs.Members.{Contains-cases, Contains-flat_map, Contains-here}
use Rattle.esc_term.proofs.Members.{Contains-in_flat_map, Contains-later, Contains-none}
use Rattle.esc_cover.specs.Atoms.{atoms_of}
use Rattle.esc_cover.specs.Counterexample.{AreLiteralsOf, is_literal_form}
use Rattle.esc_cover.proofs.AtomsLevels as atoms
use Rattle.esc_clause.specs.Occurrences.{formula_at, item_at, occurrences_of, signed}
use Rattle.esc_clause.specs.declared.occurrence.Occurrence.{Occurrence}
use Rattle.esc_clause.proofs.OccurrencesLevels as levels
use Rattle.esc_book.specs.Book.{IsLiveOccurrence}
use Rattle.esc_sharing.proofs.Lists.{Contains-of_map}
use Rattle.esc_live.specs.View.{live_on, logged}
use Rattle.esc_live.specs.declared.branch.LiveBranch.{LiveBranch}

-- ---- lists

pub got_there : {X : Type 0} (xs : List X) (k : ℕ) (x : X) → slice_get xs k ≡ Some x → Contains xs x
got_there [] k x e = absurd (cc)
got_there (y ∷ ys) zero x e = subst (Contains (y ∷ ys)) (cc) (Contains-here y ys)
got_there (y ∷ ys) (suc k) x e = Contains-later y ys x (got_there ys k x e)

pub Contains-filter_map : {X Y : Type 0} (h : X → Option Y) (xs : List X) (x : X) (y : Y)
    → Contains xs x → h x ≡ Some y → Contains (filter_map h xs) y
Contains-filter_map {X} {Y} h [] x y there is = absurd (Contains-none x there)
Contains-filter_map {X} {Y} h (w ∷ ws) x y there is =
    elim (Contains-cases w ws x there) [
      | inl same ↦
          subst (λ o. Contains (cons_option o (filter_map h ws)) y) (sym (ap h same ∙ is))
          (Contains-here y (filter_map h ws))
      | inr later ↦ kept_behind (h w) (Contains-filter_map h ws x y later is)
    ]
  where
    kept_behind : (o : Option Y) → Contains (filter_map h ws) y
        → Contains (cons_option o (filter_map h ws)) y
    kept_behind None inside = inside
    kept_behind (Some z) inside = Contains-later z (filter_map h ws) y inside

Contains-of_filter_map : {X Y : Type 0} (h : X → Option Y) (xs : List X) (y : Y)
    → Contains (filter_map h xs) y → (x : X) × Contains xs x × (h x ≡ Some y)
Contains-of_filter_map {X} {Y} h [] y there = absurd (Contains-none y there)
Contains-of_filter_map {X} {Y} h (w ∷ ws) y there =
    go (h w) refl (λ inside. Contains-of_filter_map h ws y inside) there
  where
    go : (o : Option Y) → h w ≡ o
        → (Contains (filter_map h ws) y → (x : X) × Contains ws x × (h x ≡ Some y))
        → Contains (cons_option o (filter_map h ws)) y
        → (x : X) × Contains (w ∷ ws) x × (h x ≡ Some y)
    go None is among inside =
        let found = among inside in
        (found.0, Contains-later w ws found.0 found.1, found.2)
    go (Some z) is among inside = elim (Contains-cases z (filter_map h ws) y inside) [
      | inl same ↦ (w, Contains-here w ws, is ∙ ap (λ q. Some q) same)
      | inr later ↦
          let found = among later in
          (found.0, Contains-later w ws found.0 found.1, found.2)
    ]

-- ---- atoms of one formula

-- what stands in it and may be a literal is one of its atoms
abbrev HasAtoms : Formula → Type 0
HasAtoms f = (a : Formula) (p : Bool) → Contains (occurrences_of f) a
    → is_literal_form (out-Formula a) p ≡ true → Contains (atoms_of f) a

abbrev Any_quant : Quant → Type 0
Any_quant q = Unit {0}

compound : (f : Formula) (form : Formula-F Formula Quant) (os : List Formula)
    → occurrences_of f ≡ f ∷ os → out-Formula f ≡ form
    → ((p : Bool) → is_literal_form form p ≡ false)
    → ((a : Formula) (p : Bool) → Contains os a → is_literal_form (out-Formula a) p ≡ true
    → Contains (atoms_of f) a) → HasAtoms f
compound f form os is out none inner a p h literal =
    elim (Contains-cases f os a (subst (λ xs. Contains xs a) is h)) [
      | inl same ↦ absurd (clash (ap (λ g. is_literal_form (out-Formula g) p) same))
      | inr later ↦ inner a p later literal
    ]
  where
    clash : is_literal_form (out-Formula f) p ≡ is_literal_form (out-Formula a) p → ⊥
    clash e =
        let clash_is : true ≡ false = sym literal ∙ (sym e
        ∙ (ap (λ g. is_literal_form g p) out ∙ none p)) in
        cc

atom : (f : Formula) (os : List Formula) → occurrences_of f ≡ f ∷ os → atoms_of f ≡ f ∷ os
    → HasAtoms f
atom f os is also a p h literal =
    subst (λ xs. Contains xs a) (sym also) (subst (λ xs. Contains xs a) is h)

has_each : (es : List ((f : Formula) × HasAtoms f)) (a : Formula) (p : Bool)
    → Contains (flat_map occurrences_of (map (λ e. e.0) es)) a
    → is_literal_form (out-Formula a) p ≡ true
    → Contains (flat_map atoms_of (map (λ e. e.0) es)) a
has_each es a p h literal =
    let fs = map (λ (e : (f : Formula) × HasAtoms f). e.0) es in
    let found = Contains-flat_map occurrences_of fs a h in
    let from = Contains-of_map (λ (e : (f : Formula) × HasAtoms f). e.0) es found.0 found.1 in
    Contains-in_flat_map atoms_of fs found.0 a found.1
    (subst HasAtoms from.2 from.0.1 a p found.2 literal)

has_two : (d e : (f : Formula) × HasAtoms f) (a : Formula) (p : Bool)
    → Contains (occurrences_of d.0 ++ occurrences_of e.0) a
    → is_literal_form (out-Formula a) p ≡ true → Contains (atoms_of d.0 ++ atoms_of e.0) a
has_two d e a p h literal =
    elim (Contains-append_cases (occurrences_of d.0) (occurrences_of e.0) a h) [
      | inl x ↦ Contains-append_left (atoms_of d.0) (atoms_of e.0) a (d.1 a p x literal)
      | inr y ↦ Contains-append_right (atoms_of d.0) (atoms_of e.0) a (e.1 a p y literal)
    ]

-- the atoms are those
as_atoms : (f : Formula) (os xs : List Formula) → atoms_of f ≡ xs
    → ((a : Formula) (p : Bool) → Contains os a → is_literal_form (out-Formula a) p ≡ true
    → Contains xs a)
    → (a : Formula) (p : Bool) → Contains os a → is_literal_form (out-Formula a) p ≡ true
    → Contains (atoms_of f) a
as_atoms f os xs is inner a p h literal =
    subst (λ ys. Contains ys a) (sym is) (inner a p h literal)

nothing_in : (xs : List Formula) (a : Formula) (p : Bool) → Contains [] a
    → is_literal_form (out-Formula a) p ≡ true → Contains xs a
nothing_in xs a p h literal = absurd (Contains-none a h)

has_at : (y : Formula-F ((f : Formula) × HasAtoms f) ((q : Quant) × Any_quant q))
    → HasAtoms (roll-Formula (map-Formula ((f : Formula) × HasAtoms f)
    ((q : Quant) × Any_quant q) Formula Quant (λ e. e.0) (λ e. e.0) y))
unfolding roll-Formula roll
has_at Formula-F.True =
    compound formula.True Formula-F.True [] levels.occurrences_of-True
    (out-roll-Formula Formula-F.True) (λ p. refl) (nothing_in (atoms_of formula.True))
has_at Formula-F.False =
    compound formula.False Formula-F.False [] levels.occurrences_of-False
    (out-roll-Formula Formula-F.False) (λ p. refl) (nothing_in (atoms_of formula.False))
has_at (Formula-F.And es) =
    let fs = map (λ (e : (f : Formula) × HasAtoms f). e.0) es in
    compound (formula.And fs) (Formula-F.And fs) (flat_map occurrences_of fs)
    (levels.occurrences_of-And fs) (out-roll-Formula (Formula-F.And fs)) (λ p. refl)
    (as_atoms (formula.And fs) _ _ (atoms.atoms_of-And fs) (has_each es))
has_at (Formula-F.Or es) =
    let fs = map (λ (e : (f : Formula) × HasAtoms f). e.0) es in
    compound (formula.Or fs) (Formula-F.Or fs) (flat_map occurrences_of fs)
    (levels.occurrences_of-Or fs) (out-roll-Formula (Formula-F.Or fs)) (λ p. refl)
    (as_atoms (formula.Or fs) _ _ (atoms.atoms_of-Or fs) (has_each es))
has_at (Formula-F.Not e) =
    compound (formula.Not e.0) (Formula-F.Not e.0) (occurrences_of e.0)
    (levels.occurrences_of-Not e.0) (out-roll-Formula (Formula-F.Not e.0)) (λ p. refl)
    (as_atoms (formula.Not e.0) _ _ (atoms.atoms_of-Not e.0) e.1)
has_at (Formula-F.Implies d e) =
    compound (formula.Implies d.0 e.0) (Formula-F.Implies d.0 e.0)
    (occurrences_of d.0 ++ occurrences_of e.0) (levels.occurrences_of-Implies d.0 e.0)
    (out-roll-Formula (Formula-F.Implies d.0 e.0)) (λ p. refl)
    (as_atoms (formula.Implies d.0 e.0) _ _ (atoms.atoms_of-Implies d.0 e.0) (has_two d e))
has_at (Formula-F.Iff d e) =
    compound (formula.Iff d.0 e.0) (Formula-F.Iff d.0 e.0)
    (occurrences_of d.0 ++ occurrences_of e.0) (levels.occurrences_of-Iff d.0 e.0)
    (out-roll-Formula (Formula-F.Iff d.0 e.0)) (λ p. refl)
    (as_atoms (formula.Iff d.0 e.0) _ _ (atoms.atoms_of-Iff d.0 e.0) (has_two d e))
has_at (Formula-F.Forall q) =
    atom (formula.Forall q.0) [] (levels.occurrences_of-Forall q.0) (atoms.atoms_of-Forall q.0)
has_at (Formula-F.Exists q) =
    atom (formula.Exists q.0) [] (levels.occurrences_of-Exists q.0) (atoms.atoms_of-Exists q.0)
has_at (Formula-F.Eq s t) =
    atom (formula.Eq s t) [] (levels.occurrences_of-Eq s t) (atoms.atoms_of-Eq s t)
has_at (Formula-F.Less s t) =
    atom (formula.Less s t) [] (levels.occurrences_of-Less s t) (atoms.atoms_of-Less s t)
has_at (Formula-F.Distinct ts) =
    atom (formula.Distinct ts) _ (levels.occurrences_of-Distinct ts) (atoms.atoms_of-Distinct ts)
has_at (Formula-F.LabelPos name e) =
    compound (formula.LabelPos name e.0) (Formula-F.LabelPos name e.0) (occurrences_of e.0)
    (levels.occurrences_of-LabelPos name e.0) (out-roll-Formula (Formula-F.LabelPos name e.0))
    (λ p. refl)
    (as_atoms (formula.LabelPos name e.0) _ _ (atoms.atoms_of-LabelPos name e.0) e.1)
has_at (Formula-F.LabelNeg name e) =
    compound (formula.LabelNeg name e.0) (Formula-F.LabelNeg name e.0) (occurrences_of e.0)
    (levels.occurrences_of-LabelNeg name e.0) (out-roll-Formula (Formula-F.LabelNeg name e.0))
    (λ p. refl)
    (as_atoms (formula.LabelNeg name e.0) _ _ (atoms.atoms_of-LabelNeg name e.0) e.1)

has_atoms : (f : Formula) → HasAtoms f
has_atoms =
    ind-Formula HasAtoms Any_quant
    (λ x y is. subst (λ z. HasAtoms (roll-Formula z)) is (has_at y)) (λ x y is. tt)

-- ---- of a branch

formula_of_item : (positive : Bool) (o : Option Formula) (item : Item)
    → option_map (signed positive) o ≡ Some item → o ≡ Some item.formula
formula_of_item positive (Some f) item e = ap (λ (x : Option Item). formula_in x) e
  where
    formula_in : Option Item → Option Formula
    formula_in o = option_map (λ (i : Item). i.formula) o
formula_of_item positive None item e = absurd (cc)

module _ (v : LiveBranch) (at : Occurrence) (live : IsLiveOccurrence v.book at) where
  -- a formula that stands there and may be a literal is an atom of the live formulas
  pub atom_of_live : (a : Formula) (p : Bool) → formula_at (logged v) at ≡ Some a
      → is_literal_form (out-Formula a) p ≡ true → Contains (flat_map atoms_of (live_on v)) a
  atom_of_live a p there literal = go (slice_get (logged v) at.fact) refl there
    where
      go : (o : Option Formula) → slice_get (logged v) at.fact ≡ o
          → option_and_then (λ f. slice_get (occurrences_of f) at.place) o ≡ Some a
          → Contains (flat_map atoms_of (live_on v)) a
      go None is e = absurd (cc)
      go (Some f) is e =
          Contains-in_flat_map atoms_of (live_on v) f a
          (Contains-filter_map (slice_get (logged v)) v.book.live at.fact f live.live is)
          (has_atoms f a p (got_there (occurrences_of f) at.place a e) literal)

  pub atom_at : (item : Item) → item_at (logged v) at ≡ Some item
      → is_literal_form (out-Formula item.formula) item.positive ≡ true
      → Contains (flat_map atoms_of (live_on v)) item.formula
  atom_at item there literal =
      atom_of_live item.formula item.positive
      (formula_of_item at.positive (formula_at (logged v) at) item there) literal

-- the live formulas are of the log
pub live_logged : (v : LiveBranch) (f : Formula) → Contains (live_on v) f → Contains (logged v) f
live_logged v f h =
    let found = Contains-of_filter_map (slice_get (logged v)) v.book.live f h in
    got_there (logged v) found.0 f found.2

pub logged_literals : (v : LiveBranch) (literals : List Item) → AreLiteralsOf (live_on v) literals
    → AreLiteralsOf (logged v) literals
logged_literals v literals are = record {
  forms = are.forms;
  atoms = All-weaker (λ (i : Item). Contains (flat_map atoms_of (live_on v)) i.formula)
      (λ i. Contains (flat_map atoms_of (logged v)) i.formula)
      (λ i h.
      let found = Contains-flat_map atoms_of (live_on v) i.formula h in
      Contains-in_flat_map atoms_of (logged v) found.0 i.formula (live_logged v found.0 found.1)
      found.2) literals are.atoms;
}
