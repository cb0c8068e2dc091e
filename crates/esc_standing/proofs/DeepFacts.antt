-- How deep facts lie, and the depths of nodes, as one more fact comes.
use Rattle.std.proofs.Common.{◌≡◌, ℕ, ◌+◌, ◌-◌, ◌<◌, ◌≤◌, ◌==◌, ◌⊎◌, inl, inr, Bool, true, false}
use Rattle.std.proofs.Common.{if◌then◌else◌, List, [], ◌∷◌, ◌++◌, length, map, Some, None, refl, ap}
use Rattle.std.proofs.Common.{sym, subst, ◌∙◌, arith, suc, zero, get_or, true≢false, append-nil}
use Rattle.std.specs.Prelude.{Option, max, slice_get, slice_index}
use Rattle.std.specs.List.{All, Contains, cons_option, flat_map, fold, list_any}
use Rattle.std.specs.Option.{option_map_or}
use Rattle.std.proofs.lemmas.List.{get_or_default, length_push}
use Rattle.std.proofs.lemmas.List.Concat.{flat_map-append}
use Rattle.std.proofs.lemmas.List.Elements.{All-push, Contains-append_cases}
use Rattle.std.proofs.lemmas.List.Elements.{Contains-append_right}
use Rattle.std.proofs.lemmas.List.Elements.{filter_map-append}
use Rattle.std.proofs.lemmas.List.Sums.{fold-append}
use Rattle.esc_term.specs.Equal.{same_term}
use Rattle.esc_term.specs.Formula.{terms_of}
use Rattle.esc_term.specs.declared.term.Term.{Term}
use Rattle.esc_term.specs.declared.formula.Formula.{Formula}
use Rattle.esc_term.proofs.Members.{Contains-here, Contains-in_flat_map}
use Rattle.esc_term.proofs.Members.{Contains-later, Contains-none}
use Rattle.esc_cover.specs.Classes.{has}
use Rattle.esc_cover.proofs.TestLemmas.{has-at, has-found, has_none}
use Rattle.esc_nodes.specs.Nodes.{Shape}
use Rattle.esc_nodes.specs.Terms.{term_of}
use Rattle.esc_fact.specs.Base.{Quantified, quantified_in}
use Rattle.esc_fact.specs.Depth.{Deep, deep, depth_behind, depth_of_atom, depth_of_quantified}
use Rattle.esc_fact.specs.Depth.{depth_of_term, first_depth, with_depth}
use Rattle.esc_fact.specs.Fact.{closed_at, formula_of, formulas_of, store}
use Rattle.esc_fact.specs.Legal.{HasTerm, IsDrawnFrom}
use Rattle.esc_fact.specs.declared.base.Base.{Base}
use Rattle.esc_fact.specs.declared.fact.Fact.{Fact}
use Rattle.esc_fact.specs.declared.fact.Fact.TheVariants as fact
use Rattle.esc_rounds.proofs.LegalRounds.{term_more}
use Rattle.esc_rounds.proofs.ShallowRounds.{deep_formulas, first_bound, formulas, term_stays}
use Rattle.esc_standing.specs.DepthsInside.{AreWithin, EntersTerms, IsShallow, entered}
use Rattle.esc_standing.specs.Surveyed.{AreDepths, AreKept}
use Rattle.esc_rounds.specs.declared.kept.Kept.{Kept}
use Rattle.std.proofs.lemmas.Bool.Decides.{eqb_tells}

-- ---- how deep a fact can lie

greatest_bound : (limit m : ℕ) (ns : List ℕ) → m ≤ limit → All (λ n. n ≤ limit) ns
    → fold max m ns ≤ limit
greatest_bound limit m [] l all = l
greatest_bound limit m (n ∷ ns) l all =
    let here = all 0 n (omega arith) in
    greatest_bound limit (max m n) ns (omega (arith, l, here))
    (λ k d h. all (suc k) d (omega (arith, h)))

quantified_bound : (base : Base) (limit : ℕ) (ds : List Deep) (n : ℕ) (us : List Term)
    → AreWithin limit ds → depth_of_quantified base ds n us ≤ limit
quantified_bound base limit ds n us all = go (slice_get (quantified_in base) n)
  where
    go : (o : Option Quantified)
        → option_map_or (λ q. depth_of_atom ds (closed_at q us)) o 0 ≤ limit
    go None = omega arith
    go (Some q) = first_bound _ limit ds all

terms_bound : (limit : ℕ) (ds : List Deep) (ts : List Term) → AreWithin limit ds
    → All (λ n. n ≤ limit) (map (depth_of_term ds) ts)
terms_bound limit ds [] all k d l = absurd (omega (arith, l))
terms_bound limit ds (t ∷ ts) all zero d l = first_bound _ limit ds all
terms_bound limit ds (t ∷ ts) all (suc k) d l =
    terms_bound limit ds ts all k d (omega (arith, l))

-- a fact lies at most one deeper than those before it
pub behind_bound : (base : Base) (limit : ℕ) (ds : List Deep) (x : Fact) → AreWithin limit ds
    → depth_behind base ds x ≤ 1 + limit
behind_bound base limit ds (fact.Given k) all = omega arith
behind_bound base limit ds fact.NegGoal all = omega arith
behind_bound base limit ds (fact.Inst n us ts) all =
    let first = quantified_bound base limit ds n us all in
    let rest = greatest_bound limit (max 0 (depth_of_quantified base ds n us))
    (map (depth_of_term ds) ts) (omega (arith, first)) (terms_bound limit ds ts all) in
    omega (arith, rest)
behind_bound base limit ds (fact.Skolem n us) all =
    let l = quantified_bound base limit ds n us all in omega (arith, l)
behind_bound base limit ds (fact.Map1 m i x) all =
    let l : depth_of_term ds (store m i x) ≤ limit = first_bound _ limit ds all in
    omega (arith, l)
behind_bound base limit ds (fact.Map2 m i x j) all =
    let l : depth_of_term ds (store m i x) ≤ limit = first_bound _ limit ds all in
    let k : depth_of_term ds j ≤ limit = first_bound _ limit ds all in
    omega (arith, l, k)

-- where there are no facts before, a fact is one of the base
none_behind : (base : Base) (x : Fact) → IsDrawnFrom base [] x → depth_behind base [] x ≡ 0
none_behind base (fact.Given k) from = refl
none_behind base fact.NegGoal from = refl
none_behind base (fact.Inst n us ts) from =
    absurd (Contains-none (closed_at from.0.0 us) from.0.2)
none_behind base (fact.Skolem n us) from = absurd (Contains-none (closed_at from.0 us) from.2)
none_behind base (fact.Map1 m i x) from = absurd (Contains-none (store m i x) from)
none_behind base (fact.Map2 m i x j) from = absurd (Contains-none (store m i x) from.0)

-- ---- one fact more

module _ (base : Base) (facts : List Fact) (x : Fact) (f : Formula)
    (is : formula_of base x ≡ Some f) where
  abbrev next : Deep
  next = record { formula = f; depth = depth_behind base (deep base facts) x }

  pub deep_more : deep base (facts ++ x ∷ []) ≡ deep base facts ++ next ∷ []
  deep_more =
      fold-append (with_depth base) [] facts (x ∷ [])
      ∙ ap (λ o. option_map_or (λ g. deep base facts
      ++ record { formula = g; depth = depth_behind base (deep base facts) x } ∷ []) o
      (deep base facts)) is

  next_bound : IsShallow base facts → IsDrawnFrom base facts x
      → depth_behind base (deep base facts) x ≤ length facts
  next_bound all from = go facts refl
    where
      go : (xs : List Fact) → facts ≡ xs → depth_behind base (deep base facts) x ≤ length facts
      go [] e =
          let none = none_behind base x (subst (λ ys. IsDrawnFrom base ys x) e from) in
          let same = ap (λ ys. depth_behind base (deep base ys) x) e in
          omega (arith, none, same)
      go (y ∷ ys) e =
          let behind = behind_bound base (length facts - 1) (deep base facts) x all in
          let many : length facts ≡ suc (length ys) = ap length e in
          omega (arith, behind, many)

  pub shallow_more : IsShallow base facts → IsDrawnFrom base facts x
      → IsShallow base (facts ++ x ∷ [])
  shallow_more all from =
      let behind = next_bound all from in
      let many = length_push facts x in
      subst (AreWithin (length (facts ++ x ∷ []) - 1)) (sym deep_more)
      (All-push (λ d. d.depth ≤ length (facts ++ x ∷ []) - 1) (deep base facts) next
      (λ k d l. let h = all k d l in omega (arith, h, many))
      (omega (arith, behind, many)))

  pub formulas_more : formulas_of base (facts ++ x ∷ []) ≡ formulas_of base facts ++ f ∷ []
  formulas_more =
      filter_map-append (formula_of base) facts (x ∷ [])
      ∙ ap (λ o. formulas_of base facts ++ cons_option o []) is

  terms_more : flat_map terms_of (formulas_of base (facts ++ x ∷ []))
      ≡ flat_map terms_of (formulas_of base facts) ++ terms_of f
  terms_more =
      ap (flat_map terms_of) formulas_more
      ∙ (flat_map-append terms_of (formulas_of base facts) (f ∷ [])
      ∙ ap (λ ts. flat_map terms_of (formulas_of base facts) ++ ts) (append-nil (terms_of f)))

  pub term_cases : (t : Term) → HasTerm base (facts ++ x ∷ []) t
      → HasTerm base facts t ⊎ Contains (terms_of f) t
  term_cases t h =
      Contains-append_cases (flat_map terms_of (formulas_of base facts)) (terms_of f) t
      (subst (λ ts. Contains ts t) terms_more h)

  pub term_new : (t : Term) → Contains (terms_of f) t → HasTerm base (facts ++ x ∷ []) t
  term_new t h =
      subst (λ ts. Contains ts t) (sym terms_more)
      (Contains-append_right (flat_map terms_of (formulas_of base facts)) (terms_of f) t h)

-- ---- the first depth is that of the new fact, where no other has the term

first_last : (test : Formula → Bool) (ds : List Deep) (d : Deep)
    → ((f : Formula) → Contains (formulas ds) f → test f ≡ false) → test d.formula ≡ true
    → first_depth test (ds ++ d ∷ []) ≡ d.depth
first_last test [] d none here = ap (λ b. if b then d.depth else 0) here
first_last test (e ∷ ds) d none here =
    ap (λ b. if b then e.depth else first_depth test (ds ++ d ∷ []))
    (none e.formula (Contains-here e.formula (formulas ds)))
    ∙ first_last test ds d (λ f c. none f (Contains-later e.formula (formulas ds) f c)) here

module _ (base : Base) (facts : List Fact) where
  pub has_or_not : (t : Term) → HasTerm base facts t ⊎ (HasTerm base facts t → ⊥)
  has_or_not t = go (has (flat_map terms_of (formulas_of base facts)) t) refl
    where
      go : (b : Bool) → has (flat_map terms_of (formulas_of base facts)) t ≡ b
          → HasTerm base facts t ⊎ (HasTerm base facts t → ⊥)
      go true e = inl (has-found (flat_map terms_of (formulas_of base facts)) t e)
      go false e = inr (λ c. true≢false
          (sym (has-at (flat_map terms_of (formulas_of base facts)) t c) ∙ e))

  absent_none : (t : Term) → (HasTerm base facts t → ⊥) → (f : Formula)
      → Contains (formulas (deep base facts)) f → list_any (same_term t) (terms_of f) ≡ false
  absent_none t absent f c =
      has_none (terms_of f) t (λ h. absent (Contains-in_flat_map terms_of
      (formulas_of base facts) f t
      (subst (λ fs. Contains fs f) (deep_formulas base facts []) c) h))

  pub term_bound : (limit : ℕ) (t : Term) → AreWithin limit (deep base facts)
      → depth_of_term (deep base facts) t ≤ limit
  term_bound limit t all =
      first_bound (λ f. list_any (same_term t) (terms_of f)) limit (deep base facts) all

-- ---- depths of nodes

entered-set : (b : Bool) (depth unset old : ℕ) → (old ≡ unset → ⊥)
    → entered b depth unset old ≡ old
entered-set true depth unset old set =
    let fails : (old == unset) ≡ false =
    elim (eqb_tells old unset) [ inl h ↦ absurd (set h.1) | inr h ↦ h.0 ] in
    ap (λ e. if e then depth else old) fails
entered-set false depth unset old set = refl

entered-unset : (depth unset old : ℕ) → old ≡ unset → entered true depth unset old ≡ depth
entered-unset depth unset old e =
    let same : (old == unset) ≡ true =
    elim (eqb_tells old unset) [ inl h ↦ h.0 | inr h ↦ absurd (h.1 e) ] in
    ap (λ c. if c then depth else old) same

pub depths_none : (base : Base) (nodes : List Shape) (unset : ℕ) (depths : List ℕ)
    → length depths ≡ length nodes
    → ((n : ℕ) → n < length nodes → slice_index depths n ≡ unset)
    → AreDepths base nodes [] unset depths
depths_none base nodes unset depths many all = record {
  many = many;
  there = λ n l h. absurd (Contains-none (term_of nodes n) h);
  bare = λ n l h. all n l;
}

module _ (base : Base) (nodes : List Shape) (facts : List Fact) (x : Fact) (f : Formula)
    (is : formula_of base x ≡ Some f) (unset : ℕ) (old new : List ℕ) where
  pub depths_more : IsShallow base facts → length facts < unset
      → AreDepths base nodes facts unset old
      → EntersTerms nodes f (depth_behind base (deep base facts) x) unset old new
      → AreDepths base nodes (facts ++ x ∷ []) unset new
  depths_more all less are enters = record {
    many = enters.many ∙ are.many;
    there = there_more;
    bare = bare_more;
  }
    where
      there_more : (n : ℕ) → n < length nodes → HasTerm base (facts ++ x ∷ []) (term_of nodes n)
          → slice_index new n ≡ depth_of_term (deep base (facts ++ x ∷ [])) (term_of nodes n)
      there_more n l h =
          enters.each n l
          ∙ (elim (has_or_not base facts (term_of nodes n)) [
            | inl older ↦
                let bound = term_bound base facts (length facts - 1) (term_of nodes n) all in
                let at = are.there n l older in
                entered-set (has (terms_of f) (term_of nodes n))
                (depth_behind base (deep base facts) x) unset (slice_index old n)
                (λ e. absurd (omega (arith, bound, less, at, e)))
                ∙ (at ∙ sym (term_stays base facts (term_of nodes n)
                (next base facts x f is ∷ []) older))
            | inr not ↦
                let in_f : Contains (terms_of f) (term_of nodes n) =
                elim (term_cases base facts x f is (term_of nodes n) h) [
                  | inl older ↦ absurd (not older)
                  | inr new ↦ new
                ] in
                let has_it = has-at (terms_of f) (term_of nodes n) in_f in
                ap (λ b. entered b (depth_behind base (deep base facts) x) unset
                (slice_index old n)) has_it
                ∙ (entered-unset (depth_behind base (deep base facts) x) unset
                (slice_index old n) (are.bare n l not)
                ∙ sym (first_last (λ g. list_any (same_term (term_of nodes n)) (terms_of g))
                (deep base facts) (next base facts x f is)
                (absent_none base facts (term_of nodes n) not) has_it))
          ]
          ∙ ap (λ ds. depth_of_term ds (term_of nodes n))
          (sym (deep_more base facts x f is)))

      bare_more : (n : ℕ) → n < length nodes
          → (HasTerm base (facts ++ x ∷ []) (term_of nodes n) → ⊥)
          → slice_index new n ≡ unset
      bare_more n l not =
          enters.each n l
          ∙ (ap (λ b. entered b (depth_behind base (deep base facts) x) unset (slice_index old n))
          (has_none (terms_of f) (term_of nodes n)
          (λ c. not (term_new base facts x f is (term_of nodes n) c)))
          ∙ are.bare n l (λ h. not (term_more base facts (x ∷ []) (term_of nodes n) h)))

-- no depth is greater than the unset one
pub depths_bound : (base : Base) (nodes : List Shape) (facts : List Fact) (unset : ℕ)
    (depths : List ℕ) → IsShallow base facts → length facts < unset
    → AreDepths base nodes facts unset depths → All (λ d. d ≤ unset) depths
depths_bound base nodes facts unset depths all less are k d l =
    let many = are.many in
    let low : k < length nodes = omega (arith, l, many) in
    subst (λ m. m ≤ unset) (get_or_default depths k 0 d l)
    (elim (has_or_not base facts (term_of nodes k)) [
      | inl older ↦
          let at = are.there k low older in
          let bound = term_bound base facts (length facts - 1) (term_of nodes k) all in
          omega (arith, at, bound, less)
      | inr not ↦ let at = are.bare k low not in omega (arith, at)
    ])

pub kept_bound : (base : Base) (facts : List Fact) (kept : List Kept) → IsShallow base facts
    → AreKept base facts kept → All (λ k. k.depth ≤ length facts - 1) kept
kept_bound base facts kept all are k d l =
    let is = are.kept k d l in
    let bound : depth_of_atom (deep base facts) (closed_at is.q (get_or kept k d).outer)
    ≤ length facts - 1 = first_bound _ (length facts - 1) (deep base facts) all in
    let same = is.depth in
    omega (arith, bound, same)
