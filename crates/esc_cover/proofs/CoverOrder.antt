-- What is said of a formula is said of it too by another that goes by the parts of a formula, where
-- so it is of the formula's atoms.
use Rattle.std.proofs.Common.{◌≡◌, true, false, ◌&&◌, ◌||◌, List, ◌∷◌, ◌++◌, map, refl, ap, sym, subst, ◌∙◌}
use Rattle.std.specs.List.{Contains, flat_map, list_all, list_any}
use Rattle.std.proofs.lemmas.List.Elements.{Contains-append_left, Contains-append_right}
use denote.Hole.Carrier.{roll}
use Rattle.esc_term.specs.declared.term.Sym.{Sym}
use Rattle.esc_term.specs.declared.term.Term.{Term}
use Rattle.esc_term.specs.declared.formula.Formula.{Formula}
use Rattle.esc_term.specs.declared.formula.Formula.TheVariants as formula
use Rattle.esc_term.specs.declared.formula.Formula.TheOpen.{Formula-F}
use Rattle.esc_term.specs.declared.formula.Formula.TheViews.{roll-Formula}
use Rattle.esc_term.specs.declared.formula.Formula.TheFolds.{map-Formula, ind-Formula}
use Rattle.esc_term.specs.declared.formula.Quant.{Quant}
use Rattle.esc_term.specs.declared.formula.Item.{Item}
use Rattle.esc_term.proofs.Members.{Contains-here, Contains-in_flat_map}
use Rattle.esc_term.proofs.Wholes.{of_member}
use Rattle.esc_cover.specs.Cover.{Cover, cover, turned}
use Rattle.esc_cover.specs.Atoms.{atoms_of}
use Rattle.esc_cover.proofs.AtomsLevels as atoms
use Rattle.esc_cover.proofs.CoverLevels as covers
use Rattle.esc_cover.proofs.TestLemmas.{all_at, all_from, any_at, any_found, both_kept, either_kept}

-- what the first says the second says too
pub record IsWithin (c d : Cover) : Type 0 where
  pub holds : c.holds ≡ true → d.holds ≡ true
  pub fails : c.fails ≡ true → d.fails ≡ true

-- what is said of a formula follows from what is said of its parts
pub record GoesByParts (says : Formula → Cover) : Type 0 where
  pub of_True : (says formula.True).holds ≡ true
  pub of_False : (says formula.False).fails ≡ true
  pub of_And : (fs : List Formula) → says (formula.And fs)
      ≡ record {
        holds = list_all (λ f. (says f).holds) fs;
        fails = list_any
            (λ f. (says f).fails) fs;
      }
  pub of_Or : (fs : List Formula) → says (formula.Or fs)
      ≡ record {
        holds = list_any (λ f. (says f).holds) fs;
        fails = list_all
            (λ f. (says f).fails) fs;
      }
  pub of_Not : (f : Formula) → says (formula.Not f) ≡ turned (says f)
  pub of_Implies : (f g : Formula) → says (formula.Implies f g)
      ≡ record {
        holds = (says f).fails || (says g).holds;
        fails = (says f).holds
            && (says g).fails;
      }
  pub of_Iff : (f g : Formula) → says (formula.Iff f g) ≡ record {
    holds = ((says f).holds && (says g).holds) || ((says f).fails && (says g).fails);
    fails = ((says f).holds && (says g).fails) || ((says f).fails && (says g).holds);
  }
  pub of_LabelPos : (name : Sym) (f : Formula) → says (formula.LabelPos name f) ≡ says f
  pub of_LabelNeg : (name : Sym) (f : Formula) → says (formula.LabelNeg name f) ≡ says f

pub cover-parts : (literals : List Item) (classes : List (List Term))
    → GoesByParts (cover literals classes)
cover-parts literals classes = record {
  of_True = subst (λ c. c.holds ≡ true) (sym (covers.cover-True literals classes)) refl;
  of_False = subst (λ c. c.fails ≡ true) (sym (covers.cover-False literals classes)) refl;
  of_And = covers.cover-And literals classes;
  of_Or = covers.cover-Or literals classes;
  of_Not = covers.cover-Not literals classes;
  of_Implies = covers.cover-Implies literals classes;
  of_Iff = covers.cover-Iff literals classes;
  of_LabelPos = covers.cover-LabelPos literals classes;
  of_LabelNeg = covers.cover-LabelNeg literals classes;
}

pub within_by : (a b c d : Cover) → a ≡ c → b ≡ d → IsWithin c d → IsWithin a b
within_by a b c d e f w = subst (λ x. IsWithin x b) (sym e) (subst (IsWithin c) (sym f) w)

turned_within : (c d : Cover) → IsWithin c d → IsWithin (turned c) (turned d)
turned_within c d w = record { holds = w.fails; fails = w.holds }

module _ (first second : Formula → Cover) (fs : List Formula) (each : (f : Formula) → Contains fs f
    → IsWithin (first f) (second f)) where
  all_hold : list_all (λ f. (first f).holds) fs ≡ true → list_all (λ f. (second f).holds) fs ≡ true
  all_hold h = all_from (λ f. (second f).holds) fs
      (λ f k. (each f k).holds (all_at (λ f. (first f).holds) fs f h k))

  all_fail : list_all (λ f. (first f).fails) fs ≡ true → list_all (λ f. (second f).fails) fs ≡ true
  all_fail h = all_from (λ f. (second f).fails) fs
      (λ f k. (each f k).fails (all_at (λ f. (first f).fails) fs f h k))

  any_holds : list_any (λ f. (first f).holds) fs ≡ true → list_any (λ f. (second f).holds) fs ≡ true
  any_holds h =
      let found = any_found (λ f. (first f).holds) fs h in
      any_at (λ f. (second f).holds) fs found.0 found.1 ((each found.0 found.1).holds found.2)

  any_fails : list_any (λ f. (first f).fails) fs ≡ true → list_any (λ f. (second f).fails) fs ≡ true
  any_fails h =
      let found = any_found (λ f. (first f).fails) fs h in
      any_at (λ f. (second f).fails) fs found.0 found.1 ((each found.0 found.1).fails found.2)

module _ (literals : List Item) (classes : List (List Term)) (says : Formula → Cover)
    (by_parts : GoesByParts says) where
  abbrev says_before : Formula → Cover
  says_before = cover literals classes

  abbrev Goes : Formula → Type 0
  Goes f = IsWithin (says_before f) (says f)

  -- what is said of the atoms among these formulas the other says too
  pub record AreAtomsWithin (among : List Formula) : Type 0 where
    pub of_Forall : (q : Quant) → Contains among (formula.Forall q) → Goes (formula.Forall q)
    pub of_Exists : (q : Quant) → Contains among (formula.Exists q) → Goes (formula.Exists q)
    pub of_Eq : (s t : Term) → Contains among (formula.Eq s t) → Goes (formula.Eq s t)
    pub of_Less : (s t : Term) → Contains among (formula.Less s t) → Goes (formula.Less s t)
    pub of_Distinct : (ts : List Term) → Contains among (formula.Distinct ts)
        → Goes (formula.Distinct ts)

  abbrev GoesByAtoms : Formula → Type 0
  GoesByAtoms f = AreAtomsWithin (atoms_of f) → Goes f

  abbrev Any_quant : Quant → Type 0
  Any_quant q = Unit {0}

  among_fewer : (xs ys : List Formula) → ((f : Formula) → Contains xs f → Contains ys f)
      → AreAtomsWithin ys → AreAtomsWithin xs
  among_fewer xs ys within within_ys = record {
    of_Forall = λ q h. within_ys.of_Forall q (within (formula.Forall q) h);
    of_Exists = λ q h. within_ys.of_Exists q (within (formula.Exists q) h);
    of_Eq = λ s t h. within_ys.of_Eq s t (within (formula.Eq s t) h);
    of_Less = λ s t h. within_ys.of_Less s t (within (formula.Less s t) h);
    of_Distinct = λ ts h. within_ys.of_Distinct ts (within (formula.Distinct ts) h);
  }

  each_within : (es : List ((f : Formula) × GoesByAtoms f))
      → AreAtomsWithin (flat_map atoms_of (map (λ e. e.0) es)) → (f : Formula)
      → Contains (map (λ e. e.0) es) f → Goes f
  each_within es given f k =
      of_member GoesByAtoms es f k
      (among_fewer (atoms_of f) (flat_map atoms_of (map (λ e. e.0) es))
      (λ atom h. Contains-in_flat_map atoms_of (map (λ e. e.0) es) f atom k h) given)

  left_given : (f g : Formula) → AreAtomsWithin (atoms_of f ++ atoms_of g)
      → AreAtomsWithin (atoms_of f)
  left_given f g = among_fewer (atoms_of f) (atoms_of f ++ atoms_of g)
      (λ atom h. Contains-append_left (atoms_of f) (atoms_of g) atom h)

  right_given : (f g : Formula) → AreAtomsWithin (atoms_of f ++ atoms_of g)
      → AreAtomsWithin (atoms_of g)
  right_given f g = among_fewer (atoms_of g) (atoms_of f ++ atoms_of g)
      (λ atom h. Contains-append_right (atoms_of f) (atoms_of g) atom h)

  first_of_all : (f : Formula) (rest fs : List Formula) → fs ≡ f ∷ rest → Contains fs f
  first_of_all f rest fs e = subst (λ gs. Contains gs f) (sym e) (Contains-here f rest)

  goes_at : (y : Formula-F ((f : Formula) × GoesByAtoms f) ((q : Quant) × Any_quant q))
      → GoesByAtoms (roll-Formula (map-Formula ((f : Formula) × GoesByAtoms f) ((q : Quant)
      × Any_quant q) Formula Quant (λ e. e.0) (λ e. e.0) y))
  unfolding roll-Formula roll
  goes_at Formula-F.True given = record {
    holds = λ h. by_parts.of_True;
    fails = λ h. let clash : true ≡ false = sym h ∙ ap (λ c. c.fails)
        (covers.cover-True literals classes) in cc;
  }
  goes_at Formula-F.False given = record {
    holds = λ h. let clash : true ≡ false = sym h ∙ ap (λ c. c.holds)
        (covers.cover-False literals classes) in cc;
    fails = λ h. by_parts.of_False;
  }
  goes_at (Formula-F.And es) given =
      let fs : List Formula = map (λ e. e.0) es in
      let each = each_within es (subst AreAtomsWithin (atoms.atoms_of-And fs) given) in
      within_by _ _ _ _ (covers.cover-And literals classes fs) (by_parts.of_And fs)
      (record {
        holds = all_hold says_before says fs each;
        fails = any_fails says_before says
            fs each;
      })
  goes_at (Formula-F.Or es) given =
      let fs : List Formula = map (λ e. e.0) es in
      let each = each_within es (subst AreAtomsWithin (atoms.atoms_of-Or fs) given) in
      within_by _ _ _ _ (covers.cover-Or literals classes fs) (by_parts.of_Or fs)
      (record {
        holds = any_holds says_before says fs each;
        fails = all_fail says_before says
            fs each;
      })
  goes_at (Formula-F.Not e) given =
      within_by _ _ _ _ (covers.cover-Not literals classes e.0) (by_parts.of_Not e.0)
      (turned_within _ _ (e.1 (subst AreAtomsWithin (atoms.atoms_of-Not e.0) given)))
  goes_at (Formula-F.Implies d e) given =
      let parts = subst AreAtomsWithin (atoms.atoms_of-Implies d.0 e.0) given in
      let left = d.1 (left_given d.0 e.0 parts) in
      let right = e.1 (right_given d.0 e.0 parts) in
      within_by _ _ _ _ (covers.cover-Implies literals classes d.0 e.0)
      (by_parts.of_Implies d.0 e.0)
      (record {
        holds = either_kept _ _ _ _ left.fails right.holds;
        fails = both_kept _ _ _ _
            left.holds right.fails;
      })
  goes_at (Formula-F.Iff d e) given =
      let parts = subst AreAtomsWithin (atoms.atoms_of-Iff d.0 e.0) given in
      let left = d.1 (left_given d.0 e.0 parts) in
      let right = e.1 (right_given d.0 e.0 parts) in
      within_by _ _ _ _ (covers.cover-Iff literals classes d.0 e.0) (by_parts.of_Iff d.0 e.0)
      (record {
        holds = either_kept _ _ _ _ (both_kept _ _ _ _ left.holds right.holds)
            (both_kept _ _ _ _ left.fails right.fails);
        fails = either_kept _ _ _ _ (both_kept _ _ _ _ left.holds right.fails)
            (both_kept _ _ _ _ left.fails right.holds);
      })
  goes_at (Formula-F.Forall q) given = given.of_Forall q.0
      (first_of_all (formula.Forall q.0) _ _ (atoms.atoms_of-Forall q.0))
  goes_at (Formula-F.Exists q) given = given.of_Exists q.0
      (first_of_all (formula.Exists q.0) _ _ (atoms.atoms_of-Exists q.0))
  goes_at (Formula-F.Eq s t) given = given.of_Eq s t
      (first_of_all (formula.Eq s t) _ _ (atoms.atoms_of-Eq s t))
  goes_at (Formula-F.Less s t) given = given.of_Less s t
      (first_of_all (formula.Less s t) _ _ (atoms.atoms_of-Less s t))
  goes_at (Formula-F.Distinct ts) given = given.of_Distinct ts
      (first_of_all (formula.Distinct ts) _ _ (atoms.atoms_of-Distinct ts))
  goes_at (Formula-F.LabelPos name e) given =
      within_by _ _ _ _ (covers.cover-LabelPos literals classes name e.0)
      (by_parts.of_LabelPos name e.0) (e.1 (subst AreAtomsWithin
      (atoms.atoms_of-LabelPos name e.0) given))
  goes_at (Formula-F.LabelNeg name e) given =
      within_by _ _ _ _ (covers.cover-LabelNeg literals classes name e.0)
      (by_parts.of_LabelNeg name e.0) (e.1 (subst AreAtomsWithin
      (atoms.atoms_of-LabelNeg name e.0) given))

  pub goes_by_atoms : (f : Formula) → GoesByAtoms f
  goes_by_atoms = ind-Formula GoesByAtoms Any_quant
      (λ x y is. subst (λ z. GoesByAtoms (roll-Formula z)) is (goes_at y)) (λ x y is. tt)
