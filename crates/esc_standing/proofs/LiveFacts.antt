-- The next of the live facts, and what is found with it.
use Rattle.std.proofs.Common.{◌≡◌, ℕ, ◌+◌, ◌<◌, ◌≤◌, ◌^◌, List, [], ◌∷◌, ◌++◌, length}
use Rattle.std.proofs.Common.{get_or, take, drop, Some, None, refl, ap, sym, subst, ◌∙◌, arith}
use Rattle.std.proofs.Common.{append-nil, suc, zero}
use Rattle.std.proofs.lemmas.List.{take-append-drop}
use Rattle.std.specs.Prelude.{Option, slice_get, slice_index}
use Rattle.std.specs.List.{All, AllZip, Contains, cons_option}
use Rattle.std.proofs.lemmas.List.{append_assoc, length-take-le, take_more}
use Rattle.std.proofs.lemmas.List.Elements.{All-contains, All-push, Contains-append_left}
use Rattle.std.proofs.lemmas.List.Elements.{Contains-append_right, Contains-get_or}
use Rattle.std.proofs.lemmas.List.Elements.{filter_map-append}
use Rattle.std.proofs.lemmas.Option.{slice_get-get_or}
use Rattle.esc_term.specs.declared.formula.Formula.{Formula}
use Rattle.esc_term.proofs.Members.{Contains-here}
use Rattle.esc_egraph.specs.Graph.{Graph}
use Rattle.esc_standing.specs.Surveyed.{AreDrawn}
use Rattle.esc_fact.specs.Depth.{deep, depth_behind}
use Rattle.esc_fact.specs.Fact.{IsFact, formula_of}
use Rattle.esc_fact.specs.Legal.{IsDrawnFrom}
use Rattle.esc_fact.specs.declared.base.Base.{Base}
use Rattle.esc_fact.specs.declared.fact.Fact.{Fact}
use Rattle.esc_rounds.specs.declared.draw.Draw.{Draw}
use Rattle.esc_rounds.specs.declared.kept.Kept.{Kept}
use Rattle.esc_rounds.specs.Standing.{IsDrawable}
use Rattle.esc_standing.specs.DepthsInside.{EntersTerms}
use Rattle.esc_standing.specs.DrawsInside.{AreSmall, HasNodes, IsBehind, IsDrawOf, IsFormulaKept}
use Rattle.esc_standing.specs.Keeping.{KeepsFormulas}
use Rattle.esc_standing.specs.SurveyInside.{AreLive, IsFound, facts_at}
use Rattle.esc_standing.specs.declared.survey.Found.{Found}
use Rattle.esc_standing.proofs.DeepFacts.{depths_bound, depths_more, kept_bound, shallow_more}
use Rattle.esc_standing.proofs.FactDraws.{are_drawable_kept, are_drawn_kept, are_drawn_more}
use Rattle.esc_standing.proofs.FactDraws.{drawable_kept, drawn_kept, with_draw}
use Rattle.esc_standing.proofs.FactNodes.{fact_kept, fact_nodes}

pub count_at : (log : List Fact) (places : List ℕ) → length (facts_at log places) ≤ length places
count_at log [] = omega arith
count_at log (k ∷ places) = go (slice_get log k) (count_at log places)
  where
    go : (o : Option Fact) → length (facts_at log places) ≤ length places
        → length (cons_option o (facts_at log places)) ≤ suc (length places)
    go None l = omega (arith, l)
    go (Some x) l = omega (arith, l)

draw_kept : (base : Base) (g : Graph) (formulas more : List Kept) (x : Fact)
    (draw : Option Draw) → IsDrawOf base g formulas x draw
    → IsDrawOf base g (formulas ++ more) x draw
draw_kept base g formulas more x None h = h
draw_kept base g formulas more x (Some d) h =
    (drawn_kept base g formulas more x d h.1 h.0, drawable_kept base g formulas more d h.1)

drawable_more : (base : Base) (g : Graph) (formulas : List Kept) (live : List Draw) (x : Fact)
    (draw : Option Draw) → All (IsDrawable g formulas) live → IsDrawOf base g formulas x draw
    → All (IsDrawable g formulas) (with_draw live draw)
drawable_more base g formulas live x None all h =
    subst (All (IsDrawable g formulas)) (sym (append-nil live)) all
drawable_more base g formulas live x (Some d) all h =
    All-push (IsDrawable g formulas) live d all h.1

take_short : {A : Type 0} (n : ℕ) (xs : List A) → n ≤ length xs → length (take n xs) ≡ n
take_short n xs l = length-take-le n xs l

zip_at : (base : Base) (log : List Fact) (formulas : List Formula) (k : ℕ) (x : Fact)
    (f : Formula) → AllZip (λ fact f. formula_of base fact ≡ Some f) log formulas
    → k < length log → x ≡ get_or log k x → f ≡ get_or formulas k f
    → formula_of base x ≡ Some f
zip_at base [] [] k x f zip l at is = absurd (omega (arith, l))
zip_at base [] (g ∷ gs) k x f zip l at is = absurd zip
zip_at base (y ∷ ys) [] k x f zip l at is = absurd zip
zip_at base (y ∷ ys) (g ∷ gs) zero x f zip l at is =
    ap (formula_of base) at ∙ (zip.0 ∙ ap Some (sym is))
zip_at base (y ∷ ys) (g ∷ gs) (suc k) x f zip l at is =
    zip_at base ys gs k x f zip.1 (omega (arith, l)) at is

pub zip_long : (base : Base) (log : List Fact) (formulas : List Formula)
    → AllZip (λ fact f. formula_of base fact ≡ Some f) log formulas
    → length log ≡ length formulas
zip_long base [] [] zip = refl
zip_long base [] (g ∷ gs) zip = absurd zip
zip_long base (y ∷ ys) [] zip = absurd zip
zip_long base (y ∷ ys) (g ∷ gs) zip = ap suc (zip_long base ys gs zip.1)

module _ (base : Base) (g : Graph) (log : List Fact) (formulas : List Formula) (live : List ℕ)
    (are : AreLive base g log formulas live) (place : ℕ) (l : place < length live) (x : Fact)
    (at : x ≡ get_or log (slice_index live place) x) where
  abbrev number : ℕ
  number = slice_index live place

  abbrev before : List Fact
  before = facts_at log (take place live)

  abbrev after : List Fact
  after = facts_at log (drop (place + 1) live)

  pub there : number < length log
  there = are.places place 0 l

  got : slice_get log number ≡ Some x
  got = slice_get-get_or log number x there ∙ ap Some (sym at)

  pub next_is : facts_at log (take (place + 1) live) ≡ before ++ x ∷ []
  next_is =
      ap (facts_at log) (take_more live place 0 l)
      ∙ (filter_map-append (slice_get log) (take place live) (number ∷ [])
      ∙ ap (λ o. before ++ cons_option o []) got)

  whole_is : facts_at log live ≡ before ++ x ∷ after
  whole_is =
      ap (facts_at log) (sym (take-append-drop (place + 1) live))
      ∙ (filter_map-append (slice_get log) (take (place + 1) live) (drop (place + 1) live)
      ∙ (ap (λ xs. xs ++ after) next_is ∙ append_assoc before (x ∷ []) after))

  pub fact_is : IsFact base x
  fact_is =
      All-contains (IsFact base) (facts_at log live) x are.legal.are_facts
      (subst (λ xs. Contains xs x) (sym whole_is)
      (Contains-append_right before (x ∷ after) x (Contains-here x after)))

  pub formula_is : (f : Formula) → f ≡ get_or formulas number f → formula_of base x ≡ Some f
  formula_is f formula = zip_at base log formulas number x f are.formulas_are there at formula

  pub from_is : IsDrawnFrom base before x
  from_is = are.legal.drawn before after x whole_is

  pub nodes_are : HasNodes g x
  nodes_are = fact_nodes base (facts_at log live) before (x ∷ after) whole_is g are.nodes x
      fact_is from_is

  pub few : length before < length live
  few = let many = count_at log (take place live) in
      let short = take_short place live (omega (arith, l)) in
      omega (arith, many, short, l)

  module _ (unset : ℕ) (found : Found) (is : IsFound base g before (length live) found) where
    pub kept_is : IsFormulaKept base found.formulas.kept x
    kept_is = fact_kept base before found.formulas.kept is.kept x from_is

    pub small_are : length live < 2 ^ 63 → AreSmall found.depths found.formulas.kept
    small_are small = record {
      depths = λ k d h.
          let bound = depths_bound base g.nodes before (length live) found.depths is.shallow few
          is.depths k d h in
          omega (arith, bound, small);
      formulas = λ k d h.
          let bound = kept_bound base before found.formulas.kept is.shallow is.kept k d h in
          let less = few in
          omega (arith, bound, less, small);
    }

    pub behind_is : (draw : Option Draw) → IsDrawOf base g found.formulas.kept x draw
        → IsBehind base g before (length live) found.depths found.formulas.kept x draw
    behind_is draw drawn = record {
      depths = is.depths;
      formulas = is.kept;
      drawn = drawn;
      from = from_is;
    }

    pub found_more : (f : Formula) (draw : Option Draw) (depth : ℕ) (new : Found)
        → f ≡ get_or formulas number f → IsDrawOf base g found.formulas.kept x draw
        → depth ≡ depth_behind base (deep base before) x
        → KeepsFormulas base x depth found.formulas new.formulas
        → EntersTerms g.nodes f depth (length live) found.depths new.depths
        → new.live ≡ with_draw found.live draw
        → IsFound base g (facts_at log (take (place + 1) live)) (length live) new
    found_more f draw depth new formula drawn depth_is keeps enters live_is =
        let named = formula_is f formula in
        let kept_both = keeps.all before facts_before is.kept is.beside depth_is in
        subst (λ xs. IsFound base g xs (length live) new) (sym next_is) (record {
          depths = depths_more base g.nodes before x f named (length live) found.depths
              new.depths is.shallow few is.depths
              (subst (λ d. EntersTerms g.nodes f d (length live) found.depths new.depths)
              depth_is enters);
          kept = kept_both.0;
          beside = kept_both.1;
          drawn = subst (λ ks. AreDrawn base g ks (before ++ x ∷ []) new.live) (sym keeps.grown)
              (subst (AreDrawn base g (found.formulas.kept ++ keeps.more) (before ++ x ∷ []))
              (sym live_is)
              (are_drawn_more base g (found.formulas.kept ++ keeps.more) before found.live x draw
              (are_drawn_kept base g found.formulas.kept keeps.more before found.live is.drawable
              is.drawn)
              (draw_kept base g found.formulas.kept keeps.more x draw drawn)));
          drawable = subst (λ ks. All (IsDrawable g ks) new.live) (sym keeps.grown)
              (subst (All (IsDrawable g (found.formulas.kept ++ keeps.more))) (sym live_is)
              (drawable_more base g (found.formulas.kept ++ keeps.more) found.live x draw
              (are_drawable_kept base g found.formulas.kept keeps.more found.live is.drawable)
              (draw_kept base g found.formulas.kept keeps.more x draw drawn)));
          shallow = shallow_more base before x f named is.shallow from_is;
        })
      where
        facts_before : All (IsFact base) before
        facts_before k d h =
            All-contains (IsFact base) (facts_at log live) (get_or before k d)
            are.legal.are_facts (subst (λ xs. Contains xs (get_or before k d)) (sym whole_is)
            (Contains-append_left before (x ∷ after) (get_or before k d)
            (Contains-get_or before k d h)))
