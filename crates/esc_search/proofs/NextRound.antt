-- The next round of an open branch, from its live facts and its literals.
use Rattle.std.proofs.Common.{◌≡◌, List, [], IsTrue, Some, Result, Ok, Err, map, sym}
use Rattle.std.proofs.Common.{ap, subst, ◌∙◌}
use Rattle.std.specs.Prelude.{IfOk}
use Rattle.std.specs.List.{All, AllZip, Contains, flat_map}
use Rattle.std.proofs.lemmas.List.Elements.{All-weaker}
use Rattle.esc_term.specs.declared.formula.Item.{Item}
use Rattle.esc_cover.specs.Arithmetic.{play_of}
use Rattle.esc_cover.specs.Atoms.{atoms_of}
use Rattle.esc_cover.specs.Classes.{active_terms}
use Rattle.esc_cover.specs.Least.{IsLeast}
use Rattle.esc_node_terms.specs.Nodes.{classes_in}
use Rattle.esc_nodes.specs.Terms.{terms_of}
use Rattle.esc_fact.specs.Fact.{formula_of, formulas_of}
use Rattle.esc_fact.specs.Legal.{HasAtom}
use Rattle.esc_fact.specs.declared.base.Base.{Base}
use Rattle.esc_fact.specs.declared.fact.Fact.{Fact}
use Rattle.esc_live.specs.View.{literals_on, live_on, logged}
use Rattle.esc_rounds.specs.Branch.{IsStanding, is_quantified}
use Rattle.esc_rounds.specs.Due.{IsRound}
use Rattle.esc_rounds.specs.Facts.{fact_of}
use Rattle.esc_rounds.specs.Standing.{IsReady, Standing}
use Rattle.esc_rounds.specs.declared.draw.Draw.{Draw}
use Rattle.esc_sharing.specs.ModelLaws.{LeastStays}
use Rattle.esc_verdict.specs.Rounds.{IsRoundOf}
use Rattle.esc_search.specs.Proving.{live_facts}
use Rattle.esc_search.specs.SearchInside.{IsOpenHere, IsSearch}
use Rattle.esc_search.specs.declared.course.Course.{Course}
use Rattle.esc_search.specs.declared.search.Search.{Search}
use Rattle.esc_search.proofs.Ending.{literals_here}
use Rattle.esc_search.proofs.LeastHere.{least_here}
use Rattle.esc_search.proofs.LiveFacts.{AllZip-filter_map}
use Rattle.esc_search.proofs.Reaching.{live_read, named}

module _ (base : Base) (s : Search) (course : Course) (search : IsSearch base s course)
    (here : IsOpenHere base s course.starts []) where
  read : live_on s.branch ≡ formulas_of base (live_facts s)
  read = live_read base s search.formulas (named base s course search)

  -- ---- what it begins with

  pub logged_beside : AllZip (λ fact f. formula_of base fact ≡ Some f) s.log (logged s.branch)
  logged_beside =
      subst (AllZip (λ fact f. formula_of base fact ≡ Some f) s.log) (sym search.formulas)
      (AllZip-filter_map (formula_of base) s.log (named base s course search))

  pub live_terms : terms_of s.branch.sharing.graph.nodes
      ≡ active_terms (formulas_of base (live_facts s))
  live_terms = here.branch.shared.play.terms ∙ ap active_terms read

  -- each literal is an atom, whether or not it is quantified
  pub live_atoms : All (λ item. IsTrue (is_quantified item)
      → HasAtom base (live_facts s) item.formula) (literals_on s.branch)
  live_atoms =
      All-weaker (λ (item : Item). Contains (flat_map atoms_of (live_on s.branch)) item.formula)
      (λ (item : Item). IsTrue (is_quantified item) → HasAtom base (live_facts s) item.formula)
      (λ item there quantified.
      subst (λ fs. Contains (flat_map atoms_of fs) item.formula) read there)
      (literals_on s.branch) here.branch.shared.literals_are.atoms

  -- ---- what it gives

  -- where the branch stands so, by its own graph, and a call made the facts of the draws
  pub next_here : {E : Type 0} (law : LeastStays) (t : Standing) (live : List Draw)
      → t.graph ≡ s.branch.sharing.graph
      → IsStanding base (live_facts s) (literals_on s.branch) t live → IsReady t live
      → (drawn : List Draw) → IsRound t live s.limits.depth drawn → (made : Result (List Fact) E)
      → IfOk made (λ facts. facts ≡ map (fact_of t.graph t.formulas) drawn)
      → IfOk made (IsRoundOf base s.limits.depth (live_facts s) (literals_on s.branch))
  next_here law t live same standing ready drawn round (Ok facts) is = record {
    s = t;
    live = live;
    stands = record {
      standing = standing;
      ready = ready;
      literals_are = literals_here base s course search here;
      least = subst (λ g. IsLeast (literals_on s.branch)
          (play_of (formulas_of base (live_facts s))) (classes_in g)) (sym same)
          (least_here law base s course search here);
    };
    drawn = drawn;
    round = round;
    facts_are = is;
  }
  next_here law t live same standing ready drawn round (Err why) is = tt
