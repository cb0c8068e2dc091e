-- The quantified atoms of a formula in a base at terms are what their origins name, in order.
use Rattle.std.proofs.Common.{◌≡◌, ℕ, suc, ◌+◌, Bool, true, false, List, [], ◌∷◌, ◌++◌, map, length}
use Rattle.std.proofs.Common.{Some, refl, ap, sym, subst, ◌∙◌, arith, IsTrue}
use Rattle.std.proofs.lemmas.List.{map-append}
use Rattle.std.proofs.lemmas.List.Elements.{filter-append}
use Rattle.std.specs.List.{AllZip, filter, flat_map, list_all}
use Rattle.std.specs.Prelude.{slice_get}
use denote.Hole.Carrier.{roll}
use Rattle.esc_term.specs.declared.term.Term.{Term}
use Rattle.esc_term.specs.declared.formula.Formula.{Formula}
use Rattle.esc_term.specs.declared.formula.Formula.TheOpen.{Formula-F}
use Rattle.esc_term.specs.declared.formula.Formula.TheViews.{roll-Formula}
use Rattle.esc_term.specs.declared.formula.Formula.TheFolds.{map-Formula, ind-Formula}
use Rattle.esc_term.specs.declared.formula.Quant.{Quant}
use Rattle.esc_term.specs.Formula.{substituted}
use Rattle.esc_term.specs.Term.{is_ground}
use Rattle.esc_cover.specs.Atoms.{atoms_of}
use Rattle.esc_cover.proofs.AtomsLevels.{atoms_of-True, atoms_of-False, atoms_of-And, atoms_of-Or}
use Rattle.esc_cover.proofs.AtomsLevels.{atoms_of-Not, atoms_of-Implies, atoms_of-Iff}
use Rattle.esc_cover.proofs.AtomsLevels.{atoms_of-LabelPos, atoms_of-LabelNeg}
use Rattle.esc_fact.specs.Base.{Quantified, quantified_in, quantified_under, whole}
use Rattle.esc_fact.specs.Fact.{closed_at}
use Rattle.esc_fact.specs.declared.base.Base.{Base}
use Rattle.esc_rounds.specs.Origins.{Origin, origins_from, outermost}
use Rattle.esc_fact.proofs.Quantifiers.{under-True, under-False, under-And, under-Or, under-Not}
use Rattle.esc_fact.proofs.Quantifiers.{under-Implies, under-Iff, under-Forall, under-Exists}
use Rattle.esc_fact.proofs.Quantifiers.{under-Eq, under-Less, under-Distinct, under-LabelPos}
use Rattle.esc_fact.proofs.Quantifiers.{under-LabelNeg}
use Rattle.esc_standing.proofs.OutermostLevels.{outermost-True, outermost-False, outermost-And}
use Rattle.esc_standing.proofs.OutermostLevels.{outermost-Or, outermost-Not, outermost-Implies}
use Rattle.esc_standing.proofs.OutermostLevels.{outermost-Iff, outermost-Forall, outermost-Exists}
use Rattle.esc_standing.proofs.OutermostLevels.{outermost-Eq, outermost-Less, outermost-Distinct}
use Rattle.esc_standing.proofs.OutermostLevels.{outermost-LabelPos, outermost-LabelNeg}
use Rattle.esc_standing.specs.Keeping.{is_quantified_formula, marked, quantified_atoms}
use Rattle.esc_standing.proofs.Marks.{as_many_marks}
use Rattle.esc_standing.proofs.NestedQuantified.{Stands, get_after, get_first}
use Rattle.esc_standing.proofs.QuantifiedAtoms.{quantified-Forall, quantified-Exists, quantified-Eq}
use Rattle.esc_standing.proofs.QuantifiedAtoms.{quantified-Less, quantified-Distinct}
use Rattle.esc_standing.proofs.QuantifiedAtoms.{quantified_at_terms}

-- the origin names the formula
pub record IsNamed (base : Base) (o : Origin) (f : Formula) : Type 0 where
  pub q : Quantified
  pub numbered : slice_get (quantified_in base) o.number ≡ Some q
  pub is : closed_at q o.outer ≡ f
  pub as_many : length o.outer ≡ q.outer
  pub grounded : IsTrue (list_all is_ground o.outer)

pub zip_append : {A B : Type 0} (R : A → B → Type 0) (xs us : List A) (ys ws : List B)
    → AllZip R xs ys → AllZip R us ws → AllZip R (xs ++ us) (ys ++ ws)
zip_append R [] us [] ws a b = b
zip_append R [] us (y ∷ ys) ws a b = absurd a
zip_append R (x ∷ xs) us [] ws a b = absurd a
zip_append R (x ∷ xs) us (y ∷ ys) ws a b = (a.0, zip_append R xs us ys ws a.1 b)

-- ---- places that are marked

pub marked-append : (start : ℕ) (us : List Term) (xs ys : List Bool)
    → marked start us (xs ++ ys) ≡ marked start us xs ++ marked (start + length xs) us ys
marked-append start us [] ys =
    let here : start ≡ start + 0 = omega arith in ap (λ n. marked n us ys) here
marked-append start us (true ∷ xs) ys =
    let here : start + 1 + length xs ≡ start + suc (length xs) = omega arith in
    ap (λ os. record { number = start; outer = us } ∷ os) (marked-append (start + 1) us xs ys
    ∙ ap (λ n. marked (start + 1) us xs ++ marked n us ys) here)
marked-append start us (false ∷ xs) ys =
    let here : start + 1 + length xs ≡ start + suc (length xs) = omega arith in
    marked-append (start + 1) us xs ys
    ∙ ap (λ n. marked (start + 1) us xs ++ marked n us ys) here

pub unmarked : (start : ℕ) (us : List Term) (marks : List Bool)
    → marked start us (map (λ inside. false) marks) ≡ []
unmarked start us [] = refl
unmarked start us (b ∷ marks) = unmarked (start + 1) us marks

-- ---- each form

module _ (base : Base) (us : List Term) (ground : IsTrue (list_all is_ground us)) where
  abbrev Names : List Bool → List Quantified → List Formula → Type 0
  Names marks qs fs = (start : ℕ) → Stands qs start (quantified_in base)
      → AllZip (IsNamed base) (marked start us marks) (map (substituted us) fs)

  moved : (bs cs : List Bool) (qs rs : List Quantified) (fs gs : List Formula) → bs ≡ cs → qs ≡ rs
      → fs ≡ gs → Names cs rs gs → Names bs qs fs
  moved bs cs qs rs fs gs b q f names =
      subst (λ xs. Names xs qs fs) (sym b)
      (subst (λ xs. Names cs xs fs) (sym q) (subst (Names cs rs) (sym f) names))

  both : (bs cs : List Bool) (qs rs : List Quantified) (fs gs : List Formula)
      → length bs ≡ length qs → Names bs qs fs → Names cs rs gs
      → Names (bs ++ cs) (qs ++ rs) (fs ++ gs)
  both bs cs qs rs fs gs many left right start stands =
      subst (λ os. AllZip (IsNamed base) os (map (substituted us) (fs ++ gs)))
      (sym (marked-append start us bs cs))
      (subst (AllZip (IsNamed base) (marked start us bs ++ marked (start + length bs) us cs))
      (sym (map-append (substituted us) fs gs))
      (zip_append (IsNamed base) (marked start us bs) (marked (start + length bs) us cs)
      (map (substituted us) fs) (map (substituted us) gs)
      (left start (λ j q e. stands j q (get_first qs rs j q e)))
      (right (start + length bs) (λ j q e.
      let here : start + (length qs + j) ≡ start + length bs + j = omega (arith, many) in
      subst (λ n. slice_get (quantified_in base) n ≡ Some q) here
      (stands (length qs + j) q (get_after qs rs j q e))))))

  one : (q : Quantified) (bs : List Bool) (qs : List Quantified) → q.outer ≡ length us
      → Names (true ∷ map (λ inside. false) bs) (q ∷ qs) (whole q ∷ [])
  one q bs qs many start stands =
      let here : start + 0 ≡ start = omega arith in (
        record {
          q = q;
          numbered = subst (λ n. slice_get (quantified_in base) n ≡ Some q) here (stands 0 q refl);
          is = refl;
          as_many = sym many;
          grounded = ground;
        },
        subst (λ os. AllZip (IsNamed base) os []) (sym (unmarked (start + 1) us bs)) tt,
      )

  none : Names [] [] []
  none start stands = tt

  abbrev NamesAll : Formula → Type 0
  NamesAll f = Names (outermost f) (quantified_under f (length us)) (quantified_atoms f)

  all_named : (es : List ((f : Formula) × NamesAll f))
      → Names (flat_map outermost (map (λ e. e.0) es))
      (flat_map (λ f. quantified_under f (length us)) (map (λ e. e.0) es))
      (filter is_quantified_formula (flat_map atoms_of (map (λ e. e.0) es)))
  all_named [] = none
  all_named (e ∷ es) =
      let fs : List Formula = map (λ e. e.0) es in
      let marks = outermost e.0 ++ flat_map outermost fs in
      let qs = quantified_under e.0 (length us)
      ++ flat_map (λ f. quantified_under f (length us)) fs in
      moved marks marks qs qs _ _ refl refl
      (filter-append is_quantified_formula (atoms_of e.0) (flat_map atoms_of fs))
      (both (outermost e.0) (flat_map outermost fs) (quantified_under e.0 (length us))
      (flat_map (λ f. quantified_under f (length us)) fs) (quantified_atoms e.0)
      (filter is_quantified_formula (flat_map atoms_of fs))
      (as_many_marks e.0 (length us)) e.1 (all_named es))

  both_named : (f g : Formula) → NamesAll f → NamesAll g
      → Names (outermost f ++ outermost g)
      (quantified_under f (length us) ++ quantified_under g (length us))
      (filter is_quantified_formula (atoms_of f ++ atoms_of g))
  both_named f g l r =
      let marks = outermost f ++ outermost g in
      let qs = quantified_under f (length us) ++ quantified_under g (length us) in
      moved marks marks qs qs _ _ refl refl
      (filter-append is_quantified_formula (atoms_of f) (atoms_of g))
      (both (outermost f) (outermost g) (quantified_under f (length us))
      (quantified_under g (length us)) (quantified_atoms f) (quantified_atoms g)
      (as_many_marks f (length us)) l r)

  form_at : (y : Formula-F ((f : Formula) × NamesAll f) ((q : Quant) × Unit {0}))
      → NamesAll (roll-Formula (map-Formula ((f : Formula) × NamesAll f) ((q : Quant) × Unit {0})
      Formula Quant (λ e. e.0) (λ e. e.0) y))
  unfolding roll-Formula roll
  form_at Formula-F.True =
      moved _ _ _ _ _ _ outermost-True (under-True (length us))
      (ap (filter is_quantified_formula) atoms_of-True) none
  form_at Formula-F.False =
      moved _ _ _ _ _ _ outermost-False (under-False (length us))
      (ap (filter is_quantified_formula) atoms_of-False) none
  form_at (Formula-F.And es) =
      moved _ _ _ _ _ _ (outermost-And (map (λ e. e.0) es))
      (under-And (length us) (map (λ e. e.0) es))
      (ap (filter is_quantified_formula) (atoms_of-And (map (λ e. e.0) es))) (all_named es)
  form_at (Formula-F.Or es) =
      moved _ _ _ _ _ _ (outermost-Or (map (λ e. e.0) es))
      (under-Or (length us) (map (λ e. e.0) es))
      (ap (filter is_quantified_formula) (atoms_of-Or (map (λ e. e.0) es))) (all_named es)
  form_at (Formula-F.Not e) =
      moved _ _ _ _ _ _ (outermost-Not e.0) (under-Not (length us) e.0)
      (ap (filter is_quantified_formula) (atoms_of-Not e.0)) e.1
  form_at (Formula-F.Implies l r) =
      moved _ _ _ _ _ _ (outermost-Implies l.0 r.0) (under-Implies (length us) l.0 r.0)
      (ap (filter is_quantified_formula) (atoms_of-Implies l.0 r.0)) (both_named l.0 r.0 l.1 r.1)
  form_at (Formula-F.Iff l r) =
      moved _ _ _ _ _ _ (outermost-Iff l.0 r.0) (under-Iff (length us) l.0 r.0)
      (ap (filter is_quantified_formula) (atoms_of-Iff l.0 r.0)) (both_named l.0 r.0 l.1 r.1)
  form_at (Formula-F.Forall q) =
      moved _ _ _ _ _ _ (outermost-Forall q.0) (under-Forall (length us) q.0)
      (quantified-Forall q.0) (one (record { universal = true; quant = q.0; outer = length us })
      (outermost q.0.body) _ refl)
  form_at (Formula-F.Exists q) =
      moved _ _ _ _ _ _ (outermost-Exists q.0) (under-Exists (length us) q.0)
      (quantified-Exists q.0) (one (record { universal = false; quant = q.0; outer = length us })
      (outermost q.0.body) _ refl)
  form_at (Formula-F.Eq s t) =
      moved _ _ _ _ _ _ (outermost-Eq s t) (under-Eq (length us) s t)
      (quantified-Eq s t) none
  form_at (Formula-F.Less s t) =
      moved _ _ _ _ _ _ (outermost-Less s t) (under-Less (length us) s t)
      (quantified-Less s t) none
  form_at (Formula-F.Distinct ts) =
      moved _ _ _ _ _ _ (outermost-Distinct ts) (under-Distinct (length us) ts)
      (quantified-Distinct ts) none
  form_at (Formula-F.LabelPos name e) =
      moved _ _ _ _ _ _ (outermost-LabelPos name e.0) (under-LabelPos (length us) name e.0)
      (ap (filter is_quantified_formula) (atoms_of-LabelPos name e.0)) e.1
  form_at (Formula-F.LabelNeg name e) =
      moved _ _ _ _ _ _ (outermost-LabelNeg name e.0) (under-LabelNeg (length us) name e.0)
      (ap (filter is_quantified_formula) (atoms_of-LabelNeg name e.0)) e.1

  names_all : (f : Formula) → NamesAll f
  names_all =
      ind-Formula NamesAll (λ q. Unit {0})
      (λ x y is. subst (λ z. NamesAll (roll-Formula z)) is (form_at y)) (λ x y is. tt)

  pub names_at_terms : (f : Formula) (start : ℕ)
      → Stands (quantified_under f (length us)) start (quantified_in base)
      → AllZip (IsNamed base) (origins_from start us f) (quantified_atoms (substituted us f))
  names_at_terms f start stands =
      subst (AllZip (IsNamed base) (origins_from start us f)) (sym (quantified_at_terms us f 0))
      (names_all f start stands)
