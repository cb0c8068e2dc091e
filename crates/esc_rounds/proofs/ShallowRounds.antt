-- The facts of a round lie within the limit.
use Rattle.std.proofs.Common.{◌≡◌, ℕ, ◌+◌, ◌<◌, ◌≤◌, inl, inr, Bool, true, false, if◌then◌else◌}
use Rattle.std.proofs.Common.{IsTrue, List, [], ◌∷◌, ◌++◌, length, map, Some, None, refl, ap}
use Rattle.std.proofs.Common.{sym, subst, ◌∙◌, arith, suc, true≢false, append-nil}
use Rattle.std.specs.Prelude.{Option, max, slice_index}
use Rattle.std.specs.List.{All, Contains, cons_option, fold, list_any}
use Rattle.std.specs.Option.{option_map_or}
use Rattle.std.proofs.lemmas.Bool.{leb-true}
use Rattle.std.proofs.lemmas.List.{append_assoc, map-append}
use Rattle.std.proofs.lemmas.List.Elements.{All-push, All-weaker}
use Rattle.std.proofs.lemmas.List.Elements.{Contains-append_left}
use Rattle.std.proofs.lemmas.List.Sums.{fold-append}
use Rattle.esc_term.specs.Equal.{same_formula, same_term, same_formula-is, same_term-is}
use Rattle.esc_term.specs.Formula.{terms_of}
use Rattle.esc_term.specs.declared.term.Term.{Term}
use Rattle.esc_term.specs.declared.formula.Formula.{Formula}
use Rattle.esc_term.specs.declared.formula.Item.{Item}
use Rattle.esc_term.proofs.Members.{Contains-cases, Contains-flat_map, Contains-here}
use Rattle.esc_term.proofs.Members.{Contains-later}
use Rattle.esc_term.proofs.Members.{Contains-none}
use Rattle.esc_cover.specs.Atoms.{atoms_of}
use Rattle.esc_cover.proofs.TestLemmas.{any_at}
use Rattle.esc_nodes.specs.Terms as nodes
use Rattle.esc_nodes.specs.Laws.{TermsAreGround, TermsAreOnce}
use Rattle.esc_fact.specs.Depth.{Deep, deep, depth_behind, depth_of_atom, depth_of_quantified}
use Rattle.esc_fact.specs.Depth.{depth_of_term, first_depth, greatest, with_depth}
use Rattle.esc_fact.specs.Fact.{closed_at, formula_of, formulas_of, store}
use Rattle.esc_fact.specs.Legal.{HasAtom, HasTerm}
use Rattle.esc_fact.specs.declared.base.Base.{Base}
use Rattle.esc_fact.specs.declared.fact.Fact.{Fact}
use Rattle.esc_maps.specs.Chosen.{StandsForClass}
use Rattle.esc_maps.specs.Maps.{IsWrite}
use Rattle.esc_maps.specs.declared.map_match.MapMatch.TheVariants as map_match
use Rattle.esc_rounds.specs.Branch.{IsKept, IsStanding}
use Rattle.esc_rounds.specs.Called.{CalledAt}
use Rattle.esc_rounds.specs.Due.{IsRound, depth_of_formula, is_within}
use Rattle.esc_rounds.specs.Facts.{argument, fact_of}
use Rattle.esc_rounds.specs.Laws.{RoundsAreShallow}
use Rattle.esc_rounds.specs.Standing.{IsReady, Standing}
use Rattle.esc_rounds.specs.declared.draw.Draw.{Draw}
use Rattle.esc_rounds.specs.declared.draw.Draw.TheVariants.{Witness, Map, Instance}
use Rattle.esc_rounds.specs.declared.kept.Kept.{Kept}
use Rattle.esc_rounds.proofs.Drawn.{instance_fact, witness_fact, write_term}
use Rattle.esc_rounds.proofs.LegalRounds.{instance_have, kept_at, read_drawn, write_drawn}

-- ---- first depths

pub first_bound : (test : Formula → Bool) (limit : ℕ) (ds : List Deep)
    → All (λ d. d.depth ≤ limit) ds
    → first_depth test ds ≤ limit
first_bound test limit [] all = omega arith
first_bound test limit (d ∷ ds) all =
    go (test d.formula) (first_bound test limit ds
    (λ k e l. all (suc k) e (omega (arith, l))))
  where
    go : (b : Bool) → first_depth test ds ≤ limit
        → (if b then d.depth else first_depth test ds) ≤ limit
    go true later = all 0 d (omega arith)
    go false later = later

pub first_stays : (test : Formula → Bool) (ds more : List Deep) (f : Formula)
    → Contains (map (λ (d : Deep). d.formula) ds) f → test f ≡ true
    → first_depth test (ds ++ more) ≡ first_depth test ds
first_stays test [] more f c passes = absurd (Contains-none f c)
first_stays test (d ∷ ds) more f c passes =
    go (test d.formula) refl (λ later. first_stays test ds more f later passes)
  where
    go : (b : Bool) → test d.formula ≡ b
        → (Contains (map (λ (x : Deep). x.formula) ds) f
        → first_depth test (ds ++ more) ≡ first_depth test ds)
        → (if b then d.depth else first_depth test (ds ++ more))
        ≡ (if b then d.depth else first_depth test ds)
    go true e rest = refl
    go false e rest =
        elim (Contains-cases d.formula (map (λ (x : Deep). x.formula) ds) f c) [
          | inl same ↦ absurd (true≢false (sym passes ∙ (ap test (sym same) ∙ e)))
          | inr later ↦ rest later
        ]

-- ---- the formulas with their depths

abbrev pub formulas : List Deep → List Formula
formulas ds = map (λ (d : Deep). d.formula) ds

pub deep_formulas : (base : Base) (xs : List Fact) (ds : List Deep)
    → formulas (fold (with_depth base) ds xs) ≡ formulas ds ++ formulas_of base xs
deep_formulas base [] ds = sym (append-nil (formulas ds))
deep_formulas base (x ∷ xs) ds =
    deep_formulas base xs (with_depth base ds x) ∙ go (formula_of base x)
  where
    go : (o : Option Formula)
        → formulas (option_map_or
        (λ f. ds ++ record { formula = f; depth = depth_behind base ds x } ∷ []) o ds)
        ++ formulas_of base xs ≡ formulas ds ++ cons_option o (formulas_of base xs)
    go None = refl
    go (Some f) =
        ap (λ fs. fs ++ formulas_of base xs)
        (map-append (λ (d : Deep). d.formula) ds
        (record { formula = f; depth = depth_behind base ds x } ∷ []))
        ∙ append_assoc (formulas ds) (f ∷ []) (formulas_of base xs)

module _ (base : Base) (facts : List Fact) where
  pub deep_has : (f : Formula) → Contains (formulas_of base facts) f
      → Contains (formulas (deep base facts)) f
  deep_has f c = subst (λ fs. Contains fs f) (sym (deep_formulas base facts [])) c

  pub term_stays : (t : Term) (more : List Deep) → HasTerm base facts t
      → depth_of_term (deep base facts ++ more) t ≡ depth_of_term (deep base facts) t
  term_stays t more h =
      let found = Contains-flat_map terms_of (formulas_of base facts) t h in
      first_stays (λ f. list_any (same_term t) (terms_of f)) (deep base facts) more found.0
      (deep_has found.0 found.1)
      (any_at (same_term t) (terms_of found.0) t found.2 ((same_term-is t t).1 refl))

  pub atom_stays : (g : Formula) (more : List Deep) → HasAtom base facts g
      → depth_of_atom (deep base facts ++ more) g ≡ depth_of_atom (deep base facts) g
  atom_stays g more h =
      let found = Contains-flat_map atoms_of (formulas_of base facts) g h in
      first_stays (λ f. list_any (same_formula g) (atoms_of f)) (deep base facts) more found.0
      (deep_has found.0 found.1)
      (any_at (same_formula g) (atoms_of found.0) g found.2 ((same_formula-is g g).1 refl))

-- ---- what a round lists

module _ (base : Base) (facts : List Fact) (items : List Item) (s : Standing) (live : List Draw)
    (st : IsStanding base facts items s live) (ready : IsReady s live) (once : TermsAreOnce)
    (ground : TermsAreGround) (limit : ℕ) where
  abbrev made : Draw → Fact
  made d = fact_of s.graph s.formulas d

  abbrev Has : ℕ → Type 0
  Has n = HasTerm base facts (nodes.term_of s.graph.nodes n)

  node_depth : (n : ℕ) (more : List Deep) → n < length s.graph.nodes → Has n
      → depth_of_term (deep base facts ++ more) (nodes.term_of s.graph.nodes n)
      ≡ slice_index s.depths n
  node_depth n more l has_it =
      term_stays base facts (nodes.term_of s.graph.nodes n) more has_it ∙ sym (st.depths n l has_it)

  quantified_is : (k : Kept) (is : IsKept base facts k) (ds : List Deep)
      → depth_of_quantified base ds k.number k.outer ≡ depth_of_atom ds (closed_at is.q k.outer)
  quantified_is k is ds =
      ap (λ o. option_map_or (λ q. depth_of_atom ds (closed_at q k.outer)) o 0) is.numbered

  nodes_depths : (ns : List ℕ) (more : List Deep) → All (λ n. n < length s.graph.nodes) ns
      → All Has ns
      → map (depth_of_term (deep base facts ++ more)) (map (nodes.term_of s.graph.nodes) ns)
      ≡ map (slice_index s.depths) ns
  nodes_depths [] more there have = refl
  nodes_depths (n ∷ ns) more there have =
      let head = node_depth n more (there 0 n (omega arith)) (have 0 n (omega arith)) in
      let tail = nodes_depths ns more (λ k d l. there (suc k) d (omega (arith, l)))
      (λ k d l. have (suc k) d (omega (arith, l))) in
      ap (λ x. x ∷ map (depth_of_term (deep base facts ++ more))
      (map (nodes.term_of s.graph.nodes) ns)) head
      ∙ ap (λ xs. slice_index s.depths n ∷ xs) tail

  write_depth : (w : ℕ) (more : List Deep) → w < length s.graph.nodes → IsWrite s.graph w
      → depth_of_term (deep base facts ++ more)
      (store (argument s.graph w 0) (argument s.graph w 1) (argument s.graph w 2))
      ≡ slice_index s.depths w
  write_depth w more l is =
      let whole = write_term base facts items s live st once w l is in
      ap (depth_of_term (deep base facts ++ more)) (sym whole)
      ∙ node_depth w more l (subst (HasTerm base facts) (sym whole)
      (write_drawn base facts items s live st ready once ground w l is))

  behind : (d : Draw) (p : List ℕ) (more : List Deep) → CalledAt s d p
      → IsTrue (is_within s limit d)
      → All (λ (x : Deep). x.depth ≤ limit) (deep base facts ++ more)
      → depth_behind base (deep base facts ++ more) (made d) ≤ limit
  behind (Witness f) p more c within all =
      let k = c.1.formula in
      let is = kept_at base facts items s live st ready once ground f k c.1.is.kept in
      subst (λ x. depth_behind base (deep base facts ++ more) x ≤ limit)
      (sym (witness_fact s.graph s.formulas f k c.1.is.kept))
      (subst (λ n. n ≤ limit) (sym (quantified_is k is (deep base facts ++ more)))
      (first_bound _ limit (deep base facts ++ more) all))
  behind (Map (map_match.Write w)) p more c within all =
      subst (λ n. 1 + n ≤ limit) (sym (write_depth w more c.0.1.there c.0.0))
      (leb-true (1 + slice_index s.depths w) limit within)
  behind (Map (map_match.Read w j)) p more c within all =
      let second : depth_of_term (deep base facts ++ more) (nodes.term_of s.graph.nodes j)
      ≡ slice_index s.depths j =
      node_depth j more c.0.1.there
      (read_drawn base facts items s live st ready once ground w j c.0.1 c.0.2) in
      subst (λ n. 1 + max n (depth_of_term (deep base facts ++ more)
      (nodes.term_of s.graph.nodes j)) ≤ limit)
      (sym (write_depth w more c.0.0.1.there c.0.0.0))
      (subst (λ n. 1 + max (slice_index s.depths w) n ≤ limit) (sym second)
      (leb-true (1 + max (slice_index s.depths w) (slice_index s.depths j)) limit within))
  behind (Instance f ns) p more c within all =
      let k = c.3.formula in
      let is = kept_at base facts items s live st ready once ground f k c.3.is.kept in
      let formula : depth_of_quantified base (deep base facts ++ more) k.number k.outer
      ≡ depth_of_formula s f =
      quantified_is k is (deep base facts ++ more)
      ∙ (atom_stays base facts (closed_at is.q k.outer) more is.atom
      ∙ (sym is.depth
      ∙ sym (ap (λ o. option_map_or (λ (x : Kept). x.depth) o 0) c.3.is.kept))) in
      let terms = nodes_depths ns more
      (All-weaker (StandsForClass s.graph s.depths) (λ n. n < length s.graph.nodes)
      (λ n stands. stands.there) ns c.3.stand)
      (instance_have base facts items s live st ready once ground f ns p c) in
      subst (λ x. depth_behind base (deep base facts ++ more) x ≤ limit)
      (sym (instance_fact s.graph s.formulas f k c.3.is.kept ns))
      (subst (λ n. 1 + greatest (n ∷ map (depth_of_term (deep base facts ++ more))
      (map (nodes.term_of s.graph.nodes) ns)) ≤ limit) (sym formula)
      (subst (λ xs. 1 + greatest (depth_of_formula s f ∷ xs) ≤ limit) (sym terms)
      (leb-true (1 + greatest (depth_of_formula s f ∷ map (slice_index s.depths) ns)) limit
      within)))

  abbrev AreShallow : List Deep → Type 0
  AreShallow ds = All (λ (x : Deep). x.depth ≤ limit) ds

  shallow_from : (draws : List Draw) (more : List Deep)
      → ((d : Draw) → Contains draws d
      → ((p : List ℕ) × CalledAt s d p) × IsTrue (is_within s limit d))
      → AreShallow (deep base facts ++ more)
      → AreShallow (fold (with_depth base) (deep base facts ++ more) (map made draws))
  shallow_from [] more each all = all
  shallow_from (d ∷ draws) more each all =
      go (formula_of base (made d))
      (λ next. shallow_from draws next (λ e c. each e (Contains-later d draws e c)))
    where
      go : (o : Option Formula)
          → ((next : List Deep) → AreShallow (deep base facts ++ next)
          → AreShallow (fold (with_depth base) (deep base facts ++ next) (map made draws)))
          → AreShallow (fold (with_depth base)
          (option_map_or (λ f. (deep base facts ++ more)
          ++ record { formula = f; depth = depth_behind base (deep base facts ++ more) (made d) }
          ∷ []) o (deep base facts ++ more)) (map made draws))
      go None rest = rest more all
      go (Some f) rest =
          let next : Deep = record {
            formula = f;
            depth = depth_behind base (deep base facts ++ more) (made d);
          } in
          let here = each d (Contains-here d draws) in
          let assoc : (deep base facts ++ more) ++ next ∷ []
          ≡ deep base facts ++ (more ++ next ∷ []) =
          append_assoc (deep base facts) more (next ∷ []) in
          subst (λ ds. AreShallow (fold (with_depth base) ds (map made draws))) (sym assoc)
          (rest (more ++ next ∷ []) (subst AreShallow assoc
          (All-push (λ (x : Deep). x.depth ≤ limit) (deep base facts ++ more) next all
          (behind d here.0.0 more here.0.1 here.1 all))))

  pub shallow_round : (first rest : List Draw) → IsRound s live limit (first ++ rest)
      → AreShallow (deep base facts) → AreShallow (deep base (facts ++ map made first))
  shallow_round first rest round all =
      subst AreShallow (sym (fold-append (with_depth base) [] facts (map made first)))
      (subst (λ ds. AreShallow (fold (with_depth base) ds (map made first)))
      (append-nil (deep base facts))
      (shallow_from first []
      (λ d c.
      let due = (round.exact d).0 (Contains-append_left first rest d c) in
      ((due.place, due.called), due.within))
      (subst AreShallow (sym (append-nil (deep base facts))) all)))

pub rounds_are_shallow : TermsAreOnce → TermsAreGround → RoundsAreShallow
rounds_are_shallow once ground base facts items s live limit first rest st ready round all =
    shallow_round base facts items s live st ready once ground limit first rest round all
