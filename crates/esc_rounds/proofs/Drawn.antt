-- The facts of draws.
use Rattle.std.proofs.Common.{◌≡◌, ℕ, ◌<◌, inl, inr, List}
use Rattle.std.proofs.Common.{[], ◌∷◌, length, get_or, map, Some, refl, ap, sym, subst}
use Rattle.std.proofs.Common.{◌∙◌, arith, suc}
use Rattle.std.specs.Prelude.{slice_get}
use Rattle.std.specs.List.{All}
use Rattle.std.specs.Option.{option_and_then, option_map_or}
use Rattle.std.proofs.lemmas.Bool.{cases_lt}
use Rattle.std.proofs.lemmas.Option.{get_or_from_slice_get}
use Rattle.esc_term.specs.declared.term.Head.TheVariants.{Name}
use Rattle.esc_term.specs.declared.term.Term.{Term}
use Rattle.esc_term.specs.declared.term.Term.TheVariants.{App}
use Rattle.esc_term.specs.declared.formula.Item.{Item}
use Rattle.esc_nodes.specs.Nodes.{Shape, shape_at}
use Rattle.esc_nodes.specs.Terms.{term_of}
use Rattle.esc_nodes.specs.Laws.{TermsAreOnce}
use Rattle.esc_nodes.proofs.Tops.{term_of-App}
use Rattle.esc_egraph.specs.Graph.{Graph}
use Rattle.esc_fact.specs.Fact.{store}
use Rattle.esc_fact.specs.declared.base.Base.{Base}
use Rattle.esc_fact.specs.declared.fact.Fact.{Fact}
use Rattle.esc_fact.specs.declared.fact.Fact.TheVariants as fact
use Rattle.esc_maps.specs.Maps.{IsWrite}
use Rattle.esc_maps.specs.declared.map_match.MapMatch.TheVariants as map_match
use Rattle.esc_rounds.specs.Branch.{IsDrawn, IsKept, IsStanding, formula_at}
use Rattle.esc_rounds.specs.Branch.{formula_kept}
use Rattle.esc_rounds.specs.Facts.{argument, fact_of}
use Rattle.esc_rounds.specs.Standing.{IsDrawable, Standing}
use Rattle.esc_rounds.specs.declared.draw.Draw.{Draw}
use Rattle.esc_rounds.specs.declared.draw.Draw.TheVariants.{Witness, Map, Instance}
use Rattle.esc_rounds.specs.declared.kept.Kept.{Kept}
use Rattle.esc_rounds.proofs.Steps.{get-some}

-- ---- the facts by their draws

module _ (g : Graph) (formulas : List Kept) (f : ℕ) (k : Kept)
    (kept : slice_get formulas f ≡ Some k) where
  pub witness_fact : fact_of g formulas (Witness f) ≡ fact.Skolem k.number k.outer
  witness_fact =
      ap (λ o. option_map_or (λ (x : Kept). fact.Skolem x.number x.outer) o (fact.Given 0)) kept

  pub instance_fact : (ns : List ℕ) → fact_of g formulas (Instance f ns)
      ≡ fact.Inst k.number k.outer (map (term_of g.nodes) ns)
  instance_fact ns =
      ap (λ o. option_map_or (λ (x : Kept). fact.Inst x.number x.outer (map (term_of g.nodes) ns)) o
      (fact.Given 0)) kept

module _ (base : Base) (facts : List Fact) (items : List Item) (s : Standing) (live : List Draw)
    (st : IsStanding base facts items s live) (once : TermsAreOnce) where
  -- ---- formulas that are kept

  pub kept_is : (f : ℕ) (k : Kept) → slice_get s.formulas f ≡ Some k → f < length s.formulas
      → IsKept base facts k
  kept_is f k kept l =
      subst (IsKept base facts) (get_or_from_slice_get s.formulas f k k kept) (st.formulas f k l)

  pub formula_is : (f : ℕ) (k : Kept) → slice_get s.formulas f ≡ Some k
      → formula_kept base k ≡ formula_at base s f
  formula_is f k kept = sym (ap (option_and_then (formula_kept base)) kept)

  -- a closed formula has one place
  formula_once : (f h : ℕ) → f < length s.formulas → h < length s.formulas
      → formula_at base s f ≡ formula_at base s h → f ≡ h
  formula_once f h lf lh e =
      elim (cases_lt f h) [
        | inl before ↦ absurd (apart f h before lf lh e)
        | inr after ↦ elim (cases_lt h f) [
          | inl before ↦ absurd (apart h f before lh lf (sym e))
          | inr same ↦ omega (arith, after, same)
        ]
      ]
    where
      apart : (i j : ℕ) → i < j → i < length s.formulas → j < length s.formulas
          → formula_at base s i ≡ formula_at base s j → ⊥
      apart i j before li lj same =
          let first = get-some s.formulas i li in
          let second = get-some s.formulas j lj in
          let a : get_or s.formulas i first.0 ≡ first.0 =
          get_or_from_slice_get s.formulas i first.0 first.0 first.1 in
          let b : get_or s.formulas j first.0 ≡ second.0 =
          get_or_from_slice_get s.formulas j second.0 first.0 second.1 in
          st.differ i j first.0 before lj
          (ap (formula_kept base) a ∙ (formula_is i first.0 first.1 ∙ (same
          ∙ (sym (formula_is j second.0 second.1) ∙ sym (ap (formula_kept base) b)))))

  -- ---- nodes by their terms

  abbrev term : ℕ → Term
  term n = term_of s.graph.nodes n

  abbrev There : ℕ → Type 0
  There n = n < length s.graph.nodes

  node_once : (n m : ℕ) → There n → There m → term n ≡ term m → n ≡ m
  node_once n m ln lm e = once s.graph.nodes st.graph.terms n m ln lm e

  nodes_once : (ns ms : List ℕ) → All There ns → All There ms → map term ns ≡ map term ms → ns ≡ ms
  nodes_once [] [] all others e = refl
  nodes_once [] (m ∷ ms) all others e = cc
  nodes_once (n ∷ ns) [] all others e = cc
  nodes_once (n ∷ ns) (m ∷ ms) all others e =
      let head : term n ≡ term m = cc in
      let tail : map term ns ≡ map term ms = cc in
      let first : n ≡ m = node_once n m (all 0 n (omega arith)) (others 0 m (omega arith)) head in
      let rest : ns ≡ ms =
      nodes_once ns ms (λ k d l. all (suc k) d (omega (arith, l)))
      (λ k d l. others (suc k) d (omega (arith, l))) tail in
      cc

  pub write_term : (w : ℕ) → There w → IsWrite s.graph w
      → term w ≡ store (argument s.graph w 0) (argument s.graph w 1) (argument s.graph w 2)
  write_term w l is =
      let args : (shape_at s.graph.nodes w).args ≡ is.0 ∷ is.1 ∷ is.2 ∷ [] =
      ap (λ (x : Shape). x.args) is.3 in
      let first : term w ≡ App (Name (record { 0 = 2 })) (map term (shape_at s.graph.nodes w).args)
      =
      term_of-App s.graph.nodes w (Name (record { 0 = 2 })) st.graph.terms l
      (ap (λ (x : Shape). x.top) is.3) in
      let second : App (Name (record { 0 = 2 })) (map term (shape_at s.graph.nodes w).args)
      ≡ store (term is.0) (term is.1) (term is.2) =
      ap (λ xs. App (Name (record { 0 = 2 })) (map term xs)) args in
      let third : store (term is.0) (term is.1) (term is.2)
      ≡ store (argument s.graph w 0) (argument s.graph w 1) (argument s.graph w 2) =
      ap (λ xs. store (term (get_or xs 0 0)) (term (get_or xs 1 0)) (term (get_or xs 2 0)))
      (sym args) in
      first ∙ (second ∙ third)

  -- ---- the draw of a fact

  pub drawn : (d : Draw) → IsDrawable s.graph s.formulas d
      → IsDrawn base s (fact_of s.graph s.formulas d) d
  drawn (Witness f) l =
      let k = get-some s.formulas f l in
      subst (λ x. IsDrawn base s x (Witness f))
      (sym (witness_fact s.graph s.formulas f k.0 k.1)) (formula_is f k.0 k.1)
  drawn (Map (map_match.Write w)) h = (h.0, write_term w h.0 h.1)
  drawn (Map (map_match.Read w j)) h = (h.0, h.2, write_term w h.0 h.1, refl)
  drawn (Instance f ns) h =
      let k = get-some s.formulas f h.0 in
      subst (λ x. IsDrawn base s x (Instance f ns))
      (sym (instance_fact s.graph s.formulas f k.0 k.1 ns)) (formula_is f k.0 k.1, h.1, refl)

  -- a fact has one draw
  pub drawn_once : (x : Fact) (d e : Draw) → IsDrawable s.graph s.formulas d
      → IsDrawable s.graph s.formulas e → IsDrawn base s x d → IsDrawn base s x e → d ≡ e
  drawn_once (fact.Given k) d e hd he xd xe = absurd xd
  drawn_once fact.NegGoal d e hd he xd xe = absurd xd
  drawn_once (fact.Skolem n us) (Witness f) (Witness h) hd he xd xe =
      ap Witness (formula_once f h hd he (sym xd ∙ xe))
  drawn_once (fact.Skolem n us) (Witness f) (Map (map_match.Write v)) hd he xd xe = absurd xe
  drawn_once (fact.Skolem n us) (Witness f) (Map (map_match.Read v k)) hd he xd xe = absurd xe
  drawn_once (fact.Skolem n us) (Witness f) (Instance h ms) hd he xd xe = absurd xe
  drawn_once (fact.Skolem n us) (Map (map_match.Write w)) e hd he xd xe = absurd xd
  drawn_once (fact.Skolem n us) (Map (map_match.Read w j)) e hd he xd xe = absurd xd
  drawn_once (fact.Skolem n us) (Instance f ns) e hd he xd xe = absurd xd
  drawn_once (fact.Map1 m i x) (Witness f) e hd he xd xe = absurd xd
  drawn_once (fact.Map1 m i x) (Map (map_match.Write w)) (Witness h) hd he xd xe = absurd xe
  drawn_once (fact.Map1 m i x) (Map (map_match.Write w)) (Map (map_match.Write v)) hd he xd xe =
      ap (λ n. Map (map_match.Write n)) (node_once w v xd.0 xe.0 (xd.1 ∙ sym xe.1))
  drawn_once (fact.Map1 m i x) (Map (map_match.Write w)) (Map (map_match.Read v k)) hd he xd xe =
      absurd xe
  drawn_once (fact.Map1 m i x) (Map (map_match.Write w)) (Instance h ms) hd he xd xe = absurd xe
  drawn_once (fact.Map1 m i x) (Map (map_match.Read w j)) e hd he xd xe = absurd xd
  drawn_once (fact.Map1 m i x) (Instance f ns) e hd he xd xe = absurd xd
  drawn_once (fact.Map2 m i x y) (Witness f) e hd he xd xe = absurd xd
  drawn_once (fact.Map2 m i x y) (Map (map_match.Write w)) e hd he xd xe = absurd xd
  drawn_once (fact.Map2 m i x y) (Map (map_match.Read w j)) (Witness h) hd he xd xe = absurd xe
  drawn_once (fact.Map2 m i x y) (Map (map_match.Read w j)) (Map (map_match.Write v)) hd he xd xe =
      absurd xe
  drawn_once (fact.Map2 m i x y) (Map (map_match.Read w j)) (Map (map_match.Read v k)) hd he xd
      xe =
      let first : w ≡ v = node_once w v xd.0 xe.0 (xd.2 ∙ sym xe.2) in
      let second : j ≡ k = node_once j k xd.1 xe.1 (xd.3 ∙ sym xe.3) in
      ap (λ n. Map (map_match.Read n j)) first ∙ ap (λ n. Map (map_match.Read v n)) second
  drawn_once (fact.Map2 m i x y) (Map (map_match.Read w j)) (Instance h ms) hd he xd xe = absurd xe
  drawn_once (fact.Map2 m i x y) (Instance f ns) e hd he xd xe = absurd xd
  drawn_once (fact.Inst n us ts) (Witness f) e hd he xd xe = absurd xd
  drawn_once (fact.Inst n us ts) (Map (map_match.Write w)) e hd he xd xe = absurd xd
  drawn_once (fact.Inst n us ts) (Map (map_match.Read w j)) e hd he xd xe = absurd xd
  drawn_once (fact.Inst n us ts) (Instance f ns) (Witness h) hd he xd xe = absurd xe
  drawn_once (fact.Inst n us ts) (Instance f ns) (Map (map_match.Write v)) hd he xd xe = absurd xe
  drawn_once (fact.Inst n us ts) (Instance f ns) (Map (map_match.Read v k)) hd he xd xe = absurd xe
  drawn_once (fact.Inst n us ts) (Instance f ns) (Instance h ms) hd he xd xe =
      let first : f ≡ h = formula_once f h hd.0 he.0 (sym xd.0 ∙ xe.0) in
      let second : ns ≡ ms = nodes_once ns ms xd.1 xe.1 (xd.2 ∙ sym xe.2) in
      ap (λ k. Instance k ns) first ∙ ap (Instance h) second
