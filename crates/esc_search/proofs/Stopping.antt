-- What is told of a search that stops.
use Rattle.std.proofs.Common.{◌≡◌, IsTrue, List, refl, sym, subst, subst₂}
use Rattle.esc_term.specs.declared.formula.Item.{Item}
use Rattle.esc_term.specs.Model.{read_in}
use Rattle.esc_term.specs.Refuted.{AllTrue}
use Rattle.esc_fact.specs.declared.base.Base.{Base}
use Rattle.esc_fact.specs.declared.fact.Fact.{Fact}
use Rattle.esc_simplex.specs.declared.stop.Stop.{Stop}
use Rattle.esc_live.specs.View.{literals_on}
use Rattle.esc_outcome.specs.Causes.{AllFollow, IsStuck, formulas_on, is_endless}
use Rattle.esc_outcome.specs.Causes.{is_overflow}
use Rattle.esc_outcome.specs.Jam.{IsJam}
use Rattle.esc_outcome.specs.JamLaws.{stuck_with}
use Rattle.esc_outcome.specs.declared.branch.Branch.{Branch}
use Rattle.esc_verdict.specs.declared.cause.Cause.TheVariants as cause
use Rattle.esc_outcome.specs.declared.stuck.Stuck.{Stuck}
use Rattle.esc_outcome.proofs.Following.{told_follows}
use Rattle.esc_search.specs.Proving.{IsStopped, LiteralsFollow, branch_of, decided_on}
use Rattle.esc_search.specs.SearchInside.{IsHalted, IsOpenHere, IsSearch, said_on}
use Rattle.esc_search.specs.declared.course.Course.{Course}
use Rattle.esc_search.specs.declared.search.Search.{Search}
use Rattle.esc_search.proofs.Following.{all_follow}
use Rattle.esc_search.proofs.LiveFacts.{live_true}
use Rattle.esc_search.proofs.Reaching.{said_here}

-- ---- the arithmetic

module _ (base : Base) (s : Search) (why : Stop) (h : IsHalted base s why) where
  abbrev literals : List Item
  literals = literals_on s.branch

  abbrev pub kept_stuck : Stuck
  kept_stuck = stuck_with s.branch.sharing why literals

  follow_here : LiteralsFollow base s
  follow_here = all_follow (said_on base s) literals h.follow

  follow_on : AllFollow (formulas_on base (branch_of s)) literals
  follow_on = all_follow (formulas_on base (branch_of s)) literals (λ M all.
      h.follow M (live_true base s (read_in M) (decided_on base s) all))

  pub is_stuck : IsStuck base s.limits (branch_of s) kept_stuck
  is_stuck = record {
    grown = h.grown;
    jam = subst₂ (λ fs n. IsJam fs n kept_stuck) h.formulas h.limit h.stopped.stopped.jam;
    literals = follow_on;
    told = told_follows (formulas_on base (branch_of s)) literals kept_stuck.told follow_on
        h.stopped.told;
  }

  pub overflow_told : (branch : Branch) (stuck : Stuck) → branch ≡ branch_of s
      → stuck ≡ kept_stuck → IsTrue (is_overflow why)
      → IsStopped base s (cause.Overflow branch stuck)
  overflow_told branch stuck b k overflow = subst₂ (λ x y. IsStopped base s (cause.Overflow x y))
      (sym b) (sym k) (record {
        cause_is = (is_stuck, overflow);
        tells = (refl, refl);
        follow = follow_here;
      })

  pub pivots_told : (branch : Branch) (stuck : Stuck) → branch ≡ branch_of s
      → stuck ≡ kept_stuck → IsTrue (is_endless why)
      → IsStopped base s (cause.Pivots branch stuck)
  pivots_told branch stuck b k endless = subst₂ (λ x y. IsStopped base s (cause.Pivots x y))
      (sym b) (sym k) (record {
        cause_is = (is_stuck, endless);
        tells = (refl, refl);
        follow = follow_here;
      })

-- ---- what is said where the search is

pub follow_open : {coming : List Fact} (base : Base) (s : Search) (course : Course)
    → IsSearch base s course → IsOpenHere base s course.starts coming → LiteralsFollow base s
follow_open base s course search open_here =
    all_follow (said_on base s) (literals_on s.branch) (λ M all.
    (open_here.sound M (subst (AllTrue (read_in M)) (said_here base s course search)
    all)).literals)
