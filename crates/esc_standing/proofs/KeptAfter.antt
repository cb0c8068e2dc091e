-- Where the quantified formulas of some facts are kept, keeping those of one more keeps all.
use Rattle.std.proofs.Common.{◌≡◌, inl, inr, ℕ, List, [], ◌∷◌, ◌++◌}
use Rattle.std.proofs.Common.{Option, Some, None, IsSome, refl, ap, sym, subst, ◌∙◌, IsTrue}
use Rattle.std.proofs.lemmas.List.{append-nil, append_assoc}
use Rattle.std.proofs.lemmas.List.Concat.{flat_map-append}
use Rattle.std.proofs.lemmas.List.Elements.{All-weaker, Contains-append_cases}
use Rattle.std.proofs.lemmas.List.Elements.{Contains-append_right}
use Rattle.std.proofs.lemmas.List.Elements.{filter_map-append}
use Rattle.std.proofs.lemmas.List.Folds.{find-append}
use Rattle.std.proofs.lemmas.List.Sums.{fold-append}
use Rattle.std.specs.List.{All, AllZip, Contains, cons_option, filter_map, find, flat_map}
use Rattle.std.specs.List.{list_any}
use Rattle.std.specs.Option.{option_map_or, option_or}
use Rattle.esc_term.specs.declared.formula.Formula.{Formula}
use Rattle.esc_term.specs.Equal.{same_formula, same_formula-is}
use Rattle.esc_term.proofs.Members.{Contains-cases, Contains-flat_map, Contains-here}
use Rattle.esc_term.proofs.Members.{Contains-in_flat_map, Contains-later, Contains-none}
use Rattle.esc_cover.specs.Atoms.{atoms_of}
use Rattle.esc_cover.proofs.TestLemmas.{any_at, any_found, false_from}
use Rattle.esc_fact.specs.Depth.{deep, depth_behind, depth_of_atom, with_depth}
use Rattle.esc_fact.specs.Fact.{IsFact, closed_at, formula_of, formulas_of}
use Rattle.esc_fact.specs.Legal.{HasAtom}
use Rattle.esc_fact.specs.declared.base.Base.{Base}
use Rattle.esc_fact.specs.declared.fact.Fact.{Fact}
use Rattle.esc_rounds.specs.Branch.{IsKept}
use Rattle.esc_rounds.specs.Origins.{Origin, is_origin_of, origins_in}
use Rattle.esc_rounds.specs.declared.kept.Kept.{Kept}
use Rattle.esc_rounds.proofs.LegalRounds.{atom_more}
use Rattle.esc_rounds.proofs.ShallowRounds.{atom_stays, deep_formulas}
use Rattle.esc_standing.specs.Formulas.{AreBeside}
use Rattle.esc_standing.specs.Keeping.{IsClosedKept, Keeps, KeepsFormulas, is_quantified_formula}
use Rattle.esc_standing.specs.Keeping.{outer_atoms, kept_from}
use Rattle.esc_standing.specs.Surveyed.{AreKept}
use Rattle.esc_standing.specs.declared.formulas.KeptFormulas.{KeptFormulas}
use Rattle.esc_standing.proofs.FactOrigins.{names_fact}
use Rattle.esc_standing.proofs.KeepingFacts.{any_closed, closed_any, filter_has, filter_in}
use Rattle.esc_standing.proofs.KeepingFacts.{first_new, named_same, zip_left, zip_right}
use Rattle.esc_standing.proofs.KeepingFacts.{zip_weaker}
use Rattle.esc_standing.proofs.KeepingSteps.{IsCovered, IsMet, IsRight, right_all}
use Rattle.esc_standing.proofs.NamedAtTerms.{IsNamed}
use Rattle.esc_standing.proofs.WalkSteps.{outer_atoms-is}

-- ---- atoms

outer_has : (f g : Formula) → Contains (outer_atoms f) g
    → Contains (atoms_of f) g × IsTrue (is_quantified_formula g)
outer_has f g h =
    filter_has is_quantified_formula (atoms_of f) g
    (subst (λ fs. Contains fs g) (outer_atoms-is f) h)

outer_in : (f g : Formula) → Contains (atoms_of f) g → IsTrue (is_quantified_formula g)
    → Contains (outer_atoms f) g
outer_in f g h e =
    subst (λ fs. Contains fs g) (sym (outer_atoms-is f))
    (filter_in is_quantified_formula (atoms_of f) g h e)

formula_there : (base : Base) (x : Fact) (o : Option Formula) → formula_of base x ≡ o → IsSome o
    → (f : Formula) × (formula_of base x ≡ Some f)
formula_there base x None e h = cc
formula_there base x (Some f) e h = (f, e)

all_at : {X : Type 0} (P : X → Type 0) (xs : List X) (x : X) → All P xs → Contains xs x → P x
all_at P xs x all h = subst P h.2 (all h.0 x h.1)

filter_map_has : {X Y : Type 0} (h : X → Option Y) (xs : List X) (x : X) (y : Y) → Contains xs x
    → h x ≡ Some y → Contains (filter_map h xs) y
filter_map_has {X} {Y} h [] x y there is = absurd (Contains-none x there)
filter_map_has {X} {Y} h (w ∷ ws) x y there is =
    elim (Contains-cases w ws x there) [
      | inl same ↦ subst (λ o. Contains (cons_option o (filter_map h ws)) y)
          (sym (ap h same ∙ is)) (Contains-here y (filter_map h ws))
      | inr later ↦ by (h w) (filter_map_has h ws x y later is)
    ]
  where
    by : (o : Option Y) → Contains (filter_map h ws) y
        → Contains (cons_option o (filter_map h ws)) y
    by None rest = rest
    by (Some v) rest = Contains-later v (filter_map h ws) y rest

formula_in : (base : Base) (facts : List Fact) (x : Fact) (f : Formula) → Contains facts x
    → formula_of base x ≡ Some f → Contains (formulas_of base facts) f
formula_in base facts x f h e = filter_map_has (formula_of base) facts x f h e

-- ---- one fact more

deep_more : (base : Base) (facts : List Fact) (x : Fact) (f : Formula) → formula_of base x ≡ Some f
    → deep base (facts ++ x ∷ []) ≡ deep base facts
    ++ record { formula = f; depth = depth_behind base (deep base facts) x } ∷ []
deep_more base facts x f is =
    fold-append (with_depth base) [] facts (x ∷ [])
    ∙ ap (λ o. option_map_or (λ g. deep base facts
    ++ record { formula = g; depth = depth_behind base (deep base facts) x } ∷ []) o
    (deep base facts)) is

formulas_more : (base : Base) (facts : List Fact) (x : Fact) (f : Formula)
    → formula_of base x ≡ Some f
    → formulas_of base (facts ++ x ∷ []) ≡ formulas_of base facts ++ f ∷ []
formulas_more base facts x f is =
    filter_map-append (formula_of base) facts (x ∷ [])
    ∙ ap (λ o. formulas_of base facts ++ cons_option o []) is

-- ---- facts before

module _ (base : Base) (facts : List Fact) (old : KeptFormulas) (are : All (IsFact base) facts)
    (kept : AreKept base facts old.kept) (beside : AreBeside base old.kept old.closed) where
  atom_closed : (f : Formula) → IsTrue (is_quantified_formula f) → HasAtom base facts f
      → IsClosedKept old f
  atom_closed f q h = any_closed base old f beside (kept.all f q h)

  covered_before : (all : List Fact) (depth : ℕ) (o : Origin)
      → Contains (flat_map (origins_in base) facts) o → IsCovered base all old depth old o
  covered_before all depth o h =
      let found = Contains-flat_map (origins_in base) facts o h in
      let x = found.0 in
      let is : IsFact base x = all_at (IsFact base) facts x are found.1 in
      let g = formula_there base x (formula_of base x) refl is.named in
      let f = zip_left (IsNamed base) (origins_in base x) (outer_atoms g.0) o
      (names_fact base x g.0 is g.1) found.2 in
      let atom = outer_has g.0 f.0 f.2 in
      record {
        f = f.0;
        named = f.1;
        kept = atom_closed f.0 atom.1
            (Contains-in_flat_map atoms_of (formulas_of base facts) g.0 f.0
            (formula_in base facts x g.0 found.1 g.1) atom.0);
      }

  -- ---- one more

  module _ (x : Fact) (f : Formula) (is : IsFact base x) (at : formula_of base x ≡ Some f)
      (depth : ℕ) (deeper : depth ≡ depth_behind base (deep base facts) x) where
    abbrev after : List Fact
    after = facts ++ x ∷ []

    kept_stays : (k : Kept) → IsKept base facts k → IsKept base after k
    kept_stays k h = record {
      q = h.q;
      numbered = h.numbered;
      first = ap (find (is_origin_of base (closed_at h.q k.outer)))
          (flat_map-append (origins_in base) facts (x ∷ []))
          ∙ find-append (is_origin_of base (closed_at h.q k.outer))
          (flat_map (origins_in base) facts) (flat_map (origins_in base) (x ∷ []))
          ∙ ap (λ o. option_or o (find (is_origin_of base (closed_at h.q k.outer))
          (flat_map (origins_in base) (x ∷ [])))) h.first;
      atom = atom_more base facts (x ∷ []) (closed_at h.q k.outer) h.atom;
      as_many = h.as_many;
      grounded = h.grounded;
      universal = h.universal;
      count = h.count;
      triggers_are = h.triggers_are;
      depth = h.depth ∙ sym (ap (λ ds. depth_of_atom ds (closed_at h.q k.outer))
          (deep_more base facts x f at)
          ∙ atom_stays base facts (closed_at h.q k.outer) _ h.atom);
    }

    atoms_after : flat_map atoms_of (formulas_of base after)
        ≡ flat_map atoms_of (formulas_of base facts) ++ atoms_of f
    atoms_after =
        ap (flat_map atoms_of) (formulas_more base facts x f at)
        ∙ flat_map-append atoms_of (formulas_of base facts) (f ∷ [])
        ∙ ap (λ fs. flat_map atoms_of (formulas_of base facts) ++ fs) (append-nil (atoms_of f))

    origins_after : flat_map (origins_in base) after
        ≡ flat_map (origins_in base) facts ++ origins_in base x
    origins_after =
        flat_map-append (origins_in base) facts (x ∷ [])
        ∙ ap (λ os. flat_map (origins_in base) facts ++ os) (append-nil (origins_in base x))

    depth_new : (g : Formula) → Contains (atoms_of f) g → (HasAtom base facts g → ⊥)
        → depth_of_atom (deep base after) g ≡ depth
    depth_new g there absent =
        ap (λ ds. depth_of_atom ds g) (deep_more base facts x f at)
        ∙ first_new (λ h. list_any (same_formula g) (atoms_of h)) (deep base facts) _
        (λ h c. false_from (list_any (same_formula g) (atoms_of h)) (λ e.
        let found = any_found (same_formula g) (atoms_of h) e in
        absent (Contains-in_flat_map atoms_of (formulas_of base facts) h g
        (subst (λ fs. Contains fs h) (deep_formulas base facts []) c)
        (subst (Contains (atoms_of h)) (sym ((same_formula-is g found.0).0 found.2)) found.1))))
        (any_at (same_formula g) (atoms_of f) g there ((same_formula-is g g).1 refl))
        ∙ sym deeper

    met : AllZip (IsMet base after old depth) (origins_in base x) (outer_atoms f)
    met =
        zip_weaker (IsNamed base) (IsMet base after old depth) (origins_in base x)
        (outer_atoms f) (λ o g h named.
        let atom = outer_has f g h in
        record {
          named = named;
          atom = subst (λ fs. Contains fs g) (sym atoms_after)
              (Contains-append_right (flat_map atoms_of (formulas_of base facts)) (atoms_of f) g
              atom.0);
          fresh = λ absent. depth_new g atom.0 (λ before. absent (atom_closed g atom.1 before));
        }) (names_fact base x f is at)

    right_at_first : IsRight base after old depth (flat_map (origins_in base) facts) old
    right_at_first = record {
      beside = beside;
      kept = All-weaker (IsKept base facts) (IsKept base after) kept_stays old.kept kept.kept;
      differ = kept.differ;
      covered = covered_before after depth;
      grown = λ g h. h;
    }

    module _ (new : KeptFormulas)
        (keeps : Keeps depth (origins_in base x) (outer_atoms f) old new) where
      right : IsRight base after old depth (flat_map (origins_in base) after) new
      right =
          right_all base after old depth (origins_in base x) (outer_atoms f)
          (flat_map (origins_in base) facts) old new origins_after met keeps right_at_first

      all_closed : (g : Formula) → IsTrue (is_quantified_formula g) → HasAtom base after g
          → IsClosedKept new g
      all_closed g q h =
          elim (Contains-append_cases (flat_map atoms_of (formulas_of base facts)) (atoms_of f) g
          (subst (λ fs. Contains fs g) atoms_after h)) [
            | inl before ↦ right.grown g (atom_closed g q before)
            | inr here ↦
                let o = zip_right (IsNamed base) (origins_in base x) (outer_atoms f) g
                (names_fact base x f is at) (outer_in f g here q) in
                let c = right.covered o.0 (subst (λ os. Contains os o.0) (sym origins_after)
                (Contains-append_right (flat_map (origins_in base) facts) (origins_in base x)
                o.0 o.2)) in
                subst (IsClosedKept new) (named_same base o.0 c.f g c.named o.1) c.kept
          ]

      pub kept_after : AreKept base after new.kept × AreBeside base new.kept new.closed
      kept_after = (
        record {
          kept = right.kept;
          differ = right.differ;
          all = λ g q h.
              let c = all_closed g q h in
              closed_any base new.kept new.closed c.0 g right.beside c.1;
        },
        right.beside,
      )

-- ---- what is kept grows

grows : (depth : ℕ) (os : List Origin) (fs : List Formula) (x y : KeptFormulas)
    → Keeps depth os fs x y → (more : List Kept) × (y.kept ≡ x.kept ++ more)
grows depth [] [] x y k = ([], ap (λ z. z.kept) k ∙ sym (append-nil x.kept))
grows depth [] (f ∷ fs) x y k = absurd k
grows depth (o ∷ os) [] x y k = absurd k
grows depth (o ∷ os) (f ∷ fs) x y k =
    let rest = grows depth os fs k.0 y k.2 in
    elim k.1 [
      | inl same ↦ (rest.0, rest.1 ∙ ap (λ z. z.kept ++ rest.0) same.1)
      | inr new ↦ (
        kept_from o new.universal new.quant depth ∷ rest.0,
        rest.1 ∙ ap (λ ks. ks ++ rest.0) new.kept
            ∙ append_assoc x.kept (kept_from o new.universal new.quant depth ∷ []) rest.0,
      )
    ]

-- the formulas of a fact that are kept at their origins
pub keeps_formulas : (base : Base) (x : Fact) (f : Formula) (depth : ℕ) (old new : KeptFormulas)
    → IsFact base x → formula_of base x ≡ Some f
    → Keeps depth (origins_in base x) (outer_atoms f) old new
    → KeepsFormulas base x depth old new
keeps_formulas base x f depth old new is at keeps =
    let more = grows depth (origins_in base x) (outer_atoms f) old new keeps in
    record {
      more = more.0;
      grown = more.1;
      all = λ facts are kept beside deeper.
          kept_after base facts old are kept beside x f is at depth deeper new keeps;
    }
