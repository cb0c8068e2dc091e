-- The live facts stay gathered while literals and facts of the log come behind the others.
use Rattle.std.proofs.Common.{◌≡◌, ℕ, ◌<◌, ◌≤◌, List, [], ◌∷◌, ◌++◌, length, refl, sym, ap, subst}
use Rattle.std.proofs.Common.{append_assoc, arith, subst₂, ◌∙◌, IsTrue}
use Rattle.std.specs.List.{All, Contains}
use Rattle.std.proofs.lemmas.List.Elements.{All-contains, All-contains_itself, All-nil}
use Rattle.std.proofs.lemmas.List.Elements.{Contains-append_right}
use Rattle.esc_term.proofs.Members.{Contains-here}
use Rattle.esc_term.specs.declared.formula.Item.{Item}
use Rattle.esc_fact.specs.Depth.{Deep, deep}
use Rattle.esc_fact.specs.Legal.{IsLegal, first_facts, is_first}
use Rattle.esc_fact.specs.declared.base.Base.{Base}
use Rattle.esc_fact.specs.declared.fact.Fact.{Fact}
use Rattle.esc_fact.specs.declared.fact.Fact.TheVariants as fact
use Rattle.esc_live.specs.View.{literals_on}
use Rattle.esc_live.specs.declared.branch.LiveBranch.{LiveBranch}
use Rattle.esc_play.specs.Play.{HasMore}
use Rattle.esc_verdict.specs.Rounds.{AreMatched, AreRounds, IsMatched}
use Rattle.esc_verdict.specs.declared.cause.Start.{Start}
use Rattle.esc_verdict.proofs.MatchedFacts.{matched_by_more}
use Rattle.esc_verdict.proofs.RoundAfterRound.{rounds_stay}
use Rattle.esc_search.specs.SearchInside.{AreGathered, facts_on}

-- ---- the branch

module _ (base : Base) (depth : ℕ) (starts : List Start) (coming log longer : List Fact)
    (v w : LiveBranch) (h : AreGathered base depth log v starts coming)
    (places : All (λ k. k < length longer) w.book.live)
    (facts : facts_on longer w ≡ facts_on log v) (more : List Item)
    (literals : literals_on w ≡ literals_on v ++ more) where
  all_facts : facts_on longer w ++ coming ≡ facts_on log v ++ coming
  all_facts = ap (λ fs. fs ++ coming) facts

  pub gathered_still : AreGathered base depth longer w starts coming
  gathered_still = record {
    places = places;
    begins = subst (HasMore (first_facts base)) (sym facts) h.begins;
    legal = subst (IsLegal base) (sym all_facts) h.legal;
    shallow = subst (λ fs. All (λ (d : Deep). d.depth ≤ depth) (deep base fs)) (sym all_facts)
        h.shallow;
    rounds = subst₂ (λ fs items. AreRounds base depth fs items starts) (sym all_facts)
        (sym literals)
        (rounds_stay base depth (facts_on log v ++ coming) (literals_on v) more starts h.rounds);
    matched = subst₂ (AreMatched base) (sym all_facts) (sym literals)
        (λ before after fact e. matched_by_more base before before (literals_on v) more fact
        (All-contains_itself before) (h.matched before after fact e));
  }

-- the next fact became live
module _ (base : Base) (depth : ℕ) (starts : List Start) (next : Fact) (coming log : List Fact)
    (v w : LiveBranch) (h : AreGathered base depth log v starts (next ∷ coming))
    (places : All (λ k. k < length log) w.book.live)
    (facts : facts_on log w ≡ facts_on log v ++ next ∷ []) (more : List Item)
    (literals : literals_on w ≡ literals_on v ++ more) where
  same_facts : facts_on log w ++ coming ≡ facts_on log v ++ (next ∷ coming)
  same_facts = ap (λ fs. fs ++ coming) facts ∙ append_assoc (facts_on log v) (next ∷ []) coming

  pub gathered_more : AreGathered base depth log w starts coming
  gathered_more = record {
    places = places;
    begins = (
      h.begins.0 ++ next ∷ [],
      facts ∙ (ap (λ fs. fs ++ next ∷ []) h.begins.1
          ∙ append_assoc (first_facts base) h.begins.0 (next ∷ [])),
    );
    legal = subst (IsLegal base) (sym same_facts) h.legal;
    shallow = subst (λ fs. All (λ (d : Deep). d.depth ≤ depth) (deep base fs)) (sym same_facts)
        h.shallow;
    rounds = subst₂ (λ fs items. AreRounds base depth fs items starts) (sym same_facts)
        (sym literals)
        (rounds_stay base depth (facts_on log v ++ (next ∷ coming)) (literals_on v) more starts
        h.rounds);
    matched = subst₂ (AreMatched base) (sym same_facts) (sym literals)
        (λ before after fact e. matched_by_more base before before (literals_on v) more fact
        (All-contains_itself before) (h.matched before after fact e));
  }

-- ---- first facts

none_asked : (base : Base) (before : List Fact) (items : List Item) (fact : Fact)
    → IsTrue (is_first fact) → IsMatched base before items fact
none_asked base before items (fact.Given k) first = (0, [], omega arith, refl, All-nil _)
none_asked base before items fact.NegGoal first = (0, [], omega arith, refl, All-nil _)
none_asked base before items (fact.Inst number outer terms) first = absurd (cc)
none_asked base before items (fact.Skolem number outer) first = absurd (cc)
none_asked base before items (fact.Map1 m i x) first = absurd (cc)
none_asked base before items (fact.Map2 m i x j) first = absurd (cc)

pub first_matched : (base : Base) (items : List Item) (facts : List Fact)
    → All (λ f. IsTrue (is_first f)) facts → AreMatched base facts items
first_matched base items facts all before after fact e =
    none_asked base before items fact
    (All-contains (λ f. IsTrue (is_first f)) facts fact all
    (subst (λ fs. Contains fs fact) (sym e)
    (Contains-append_right before (fact ∷ after) fact (Contains-here fact after))))
