-- The draws of facts stay where more formulas are kept, and what facts are drawn from has nodes.
use Rattle.std.proofs.Common.{◌≡◌, ℕ, ◌<◌, ◌+◌, IsTrue, List, [], ◌∷◌, ◌++◌}
use Rattle.std.proofs.Common.{length, get_or, Some, None, refl, ap, sym, subst, ◌∙◌, arith}
use Rattle.std.proofs.Common.{suc, zero, true≢false, append-nil}
use Rattle.std.specs.Prelude.{Option, slice_get}
use Rattle.std.specs.List.{All, AllZip, cons_option}
use Rattle.std.specs.Option.{option_and_then}
use Rattle.std.proofs.lemmas.List.Elements.{filter-append}
use Rattle.esc_fact.specs.Legal.{is_first, made_facts}
use Rattle.esc_fact.specs.declared.base.Base.{Base}
use Rattle.esc_fact.specs.declared.fact.Fact.{Fact}
use Rattle.esc_fact.specs.declared.fact.Fact.TheVariants as fact
use Rattle.esc_egraph.specs.Graph.{Graph}
use Rattle.esc_maps.specs.declared.map_match.MapMatch.TheVariants as map_match
use Rattle.esc_rounds.specs.Branch.{IsDrawn, formula_at, formula_kept}
use Rattle.esc_rounds.specs.Standing.{IsDrawable}
use Rattle.esc_rounds.specs.declared.draw.Draw.{Draw}
use Rattle.esc_rounds.specs.declared.draw.Draw.TheVariants.{Witness, Map, Instance}
use Rattle.esc_rounds.specs.declared.kept.Kept.{Kept}
use Rattle.esc_standing.specs.DrawsInside.{IsDrawOf}
use Rattle.esc_standing.specs.Surveyed.{AreDrawn, drawn_with}

-- ---- more formulas

get_front : {A : Type 0} (xs more : List A) (i : ℕ) → i < length xs
    → slice_get (xs ++ more) i ≡ slice_get xs i
get_front [] more i l = absurd (omega (arith, l))
get_front (x ∷ xs) more zero l = refl
get_front (x ∷ xs) more (suc i) l = get_front xs more i (omega (arith, l))

module _ (base : Base) (g : Graph) (formulas more : List Kept) where
  front_is : (f : ℕ) → f < length formulas
      → formula_at base (drawn_with g formulas) f
      ≡ formula_at base (drawn_with g (formulas ++ more)) f
  front_is f l = ap (option_and_then (formula_kept base)) (sym (get_front formulas more f l))

  longer : (f : ℕ) → f < length formulas → f < length (formulas ++ more)
  longer f l = omega (arith, l, count formulas)
    where
      count : (ks : List Kept) → length (ks ++ more) ≡ length ks + length more
      count [] = omega arith
      count (k ∷ ks) = let rest = count ks in omega (arith, rest)

  pub drawable_kept : (d : Draw) → IsDrawable g formulas d → IsDrawable g (formulas ++ more) d
  drawable_kept (Witness f) l = longer f l
  drawable_kept (Map (map_match.Write w)) h = h
  drawable_kept (Map (map_match.Read w j)) h = h
  drawable_kept (Instance f ns) h = (longer f h.0, h.1)

  pub drawn_kept : (x : Fact) (d : Draw) → IsDrawable g formulas d
      → IsDrawn base (drawn_with g formulas) x d
      → IsDrawn base (drawn_with g (formulas ++ more)) x d
  drawn_kept (fact.Given k) d h drawn = absurd drawn
  drawn_kept fact.NegGoal d h drawn = absurd drawn
  drawn_kept (fact.Skolem n us) (Witness f) h drawn = drawn ∙ front_is f h
  drawn_kept (fact.Skolem n us) (Map (map_match.Write w)) h drawn = absurd drawn
  drawn_kept (fact.Skolem n us) (Map (map_match.Read w j)) h drawn = absurd drawn
  drawn_kept (fact.Skolem n us) (Instance f ns) h drawn = absurd drawn
  drawn_kept (fact.Map1 m i x) (Witness f) h drawn = absurd drawn
  drawn_kept (fact.Map1 m i x) (Map (map_match.Write w)) h drawn = drawn
  drawn_kept (fact.Map1 m i x) (Map (map_match.Read w j)) h drawn = absurd drawn
  drawn_kept (fact.Map1 m i x) (Instance f ns) h drawn = absurd drawn
  drawn_kept (fact.Map2 m i x y) (Witness f) h drawn = absurd drawn
  drawn_kept (fact.Map2 m i x y) (Map (map_match.Write w)) h drawn = absurd drawn
  drawn_kept (fact.Map2 m i x y) (Map (map_match.Read w j)) h drawn = drawn
  drawn_kept (fact.Map2 m i x y) (Instance f ns) h drawn = absurd drawn
  drawn_kept (fact.Inst n us ts) (Witness f) h drawn = absurd drawn
  drawn_kept (fact.Inst n us ts) (Map (map_match.Write w)) h drawn = absurd drawn
  drawn_kept (fact.Inst n us ts) (Map (map_match.Read w j)) h drawn = absurd drawn
  drawn_kept (fact.Inst n us ts) (Instance f ns) h drawn =
      (drawn.0 ∙ front_is f h.0, drawn.1, drawn.2)

  zip_kept : (xs : List Fact) (ds : List Draw) → All (IsDrawable g formulas) ds
      → AllZip (IsDrawn base (drawn_with g formulas)) xs ds
      → AllZip (IsDrawn base (drawn_with g (formulas ++ more))) xs ds
  zip_kept [] [] all zip = tt
  zip_kept [] (d ∷ ds) all zip = absurd zip
  zip_kept (x ∷ xs) [] all zip = absurd zip
  zip_kept (x ∷ xs) (d ∷ ds) all zip = (
    drawn_kept x d (all 0 d (omega arith)) zip.0,
    zip_kept xs ds (λ k e l. all (suc k) e (omega (arith, l))) zip.1,
  )

  pub are_drawn_kept : (facts : List Fact) (live : List Draw) → All (IsDrawable g formulas) live
      → AreDrawn base g formulas facts live → AreDrawn base g (formulas ++ more) facts live
  are_drawn_kept facts live all drawn = zip_kept (made_facts facts) live all drawn

  pub are_drawable_kept : (live : List Draw) → All (IsDrawable g formulas) live
      → All (IsDrawable g (formulas ++ more)) live
  are_drawable_kept live all k d l = drawable_kept (get_or live k d) (all k d l)

-- ---- one fact more

-- the draws with that of the next fact, where it has one
abbrev pub with_draw : List Draw → Option Draw → List Draw
with_draw live draw = live ++ cons_option draw []

module _ (base : Base) (g : Graph) (formulas : List Kept) where
  zip_push : (xs : List Fact) (ds : List Draw) (x : Fact) (d : Draw)
      → AllZip (IsDrawn base (drawn_with g formulas)) xs ds
      → IsDrawn base (drawn_with g formulas) x d
      → AllZip (IsDrawn base (drawn_with g formulas)) (xs ++ x ∷ []) (ds ++ d ∷ [])
  zip_push [] [] x d zip drawn = (drawn, tt)
  zip_push [] (e ∷ ds) x d zip drawn = absurd zip
  zip_push (y ∷ xs) [] x d zip drawn = absurd zip
  zip_push (y ∷ xs) (e ∷ ds) x d zip drawn = (zip.0, zip_push xs ds x d zip.1 drawn)

  made_none : (x : Fact) → IsTrue (is_first x) → made_facts (x ∷ []) ≡ []
  made_none (fact.Given k) first = refl
  made_none fact.NegGoal first = refl
  made_none (fact.Inst n us ts) first = absurd (true≢false (sym first))
  made_none (fact.Skolem n us) first = absurd (true≢false (sym first))
  made_none (fact.Map1 m i x) first = absurd (true≢false (sym first))
  made_none (fact.Map2 m i x y) first = absurd (true≢false (sym first))

  made_one : (x : Fact) (d : Draw) → IsDrawn base (drawn_with g formulas) x d
      → made_facts (x ∷ []) ≡ x ∷ []
  made_one (fact.Given k) d drawn = absurd drawn
  made_one fact.NegGoal d drawn = absurd drawn
  made_one (fact.Inst n us ts) d drawn = refl
  made_one (fact.Skolem n us) d drawn = refl
  made_one (fact.Map1 m i x) d drawn = refl
  made_one (fact.Map2 m i x y) d drawn = refl

  made_more : (facts : List Fact) (x : Fact)
      → made_facts (facts ++ x ∷ []) ≡ made_facts facts ++ made_facts (x ∷ [])
  made_more facts x = filter-append _ facts (x ∷ [])

  pub are_drawn_more : (facts : List Fact) (live : List Draw) (x : Fact) (draw : Option Draw)
      → AreDrawn base g formulas facts live → IsDrawOf base g formulas x draw
      → AreDrawn base g formulas (facts ++ x ∷ []) (with_draw live draw)
  are_drawn_more facts live x None drawn first =
      let same : made_facts (facts ++ x ∷ []) ≡ made_facts facts =
      made_more facts x ∙ (ap (λ xs. made_facts facts ++ xs) (made_none x first)
      ∙ append-nil (made_facts facts)) in
      subst (λ ds. AllZip (IsDrawn base (drawn_with g formulas)) (made_facts (facts ++ x ∷ [])) ds)
      (sym (append-nil live))
      (subst (λ xs. AllZip (IsDrawn base (drawn_with g formulas)) xs live) (sym same) drawn)
  are_drawn_more facts live x (Some d) drawn h =
      let same : made_facts (facts ++ x ∷ []) ≡ made_facts facts ++ x ∷ [] =
      made_more facts x ∙ ap (λ xs. made_facts facts ++ xs) (made_one x d h.0) in
      subst (λ xs. AllZip (IsDrawn base (drawn_with g formulas)) xs (live ++ d ∷ [])) (sym same)
      (zip_push (made_facts facts) live x d drawn h.0)
