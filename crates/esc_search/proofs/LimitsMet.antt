-- What is told where a limit is met.
use Rattle.std.proofs.Common.{◌≡◌, ◌≤◌, List, [], ◌∷◌, Some, length, refl, sym, subst, arith}
use Rattle.std.specs.List.{Contains}
use Rattle.esc_term.specs.declared.formula.Item.{Item}
use Rattle.esc_clause.specs.Refinement.{next_split}
use Rattle.esc_clause.specs.declared.occurrence.Occurrence.{Occurrence}
use Rattle.esc_fact.specs.Legal.{made_facts}
use Rattle.esc_fact.specs.declared.base.Base.{Base}
use Rattle.esc_fact.specs.declared.fact.Fact.{Fact}
use Rattle.esc_live.specs.View.{classes_on, judge_on, literals_on}
use Rattle.esc_outcome.specs.declared.branch.Branch.{Branch}
use Rattle.esc_refine.specs.Refining.{IsQuiet, SplitsAt}
use Rattle.esc_sharing.specs.ModelLaws.{LeastStays}
use Rattle.esc_verdict.specs.Rounds.{IsRoundOf}
use Rattle.esc_verdict.specs.declared.cause.Cause.TheVariants as cause
use Rattle.esc_verdict.specs.declared.cause.RoundsMade.{RoundsMade}
use Rattle.esc_verdict.specs.declared.cause.Start.{Start}
use Rattle.esc_search.specs.Proving.{IsSaturatedHere, IsStopped, branch_of, live_facts}
use Rattle.esc_search.specs.SearchInside.{IsOpenHere, IsSearch}
use Rattle.esc_search.specs.declared.course.Course.{Course}
use Rattle.esc_search.specs.declared.search.Search.{Search}
use Rattle.esc_search.proofs.Ending.{among_log, literals_here, rounds_here}
use Rattle.esc_search.proofs.Ending.{within_here}
use Rattle.esc_search.proofs.LeastHere.{least_here}
use Rattle.esc_search.proofs.LogNext.{grown_next, legal_log}
use Rattle.esc_search.proofs.Splitting.{split_new, split_there}
use Rattle.esc_search.proofs.Stopping.{follow_open}

-- ---- facts

module _ (base : Base) (s : Search) (course : Course) (fact : Fact) (coming : List Fact)
    (search : IsSearch base s course) (here : IsOpenHere base s course.starts (fact ∷ coming))
    (new : Contains s.log fact → ⊥) where
  pub facts_told : (branch : Branch) (next : Fact) → branch ≡ branch_of s → next ≡ fact
      → s.limits.facts ≤ length (made_facts s.log) → IsStopped base s (cause.Facts branch next)
  facts_told branch next b n spent =
      subst (λ x. IsStopped base s (cause.Facts x next)) (sym b)
      (subst (λ f. IsStopped base s (cause.Facts (branch_of s) f)) (sym n) (record {
        cause_is = record {
          legal = search.legal;
          spent = omega (arith, spent, search.few_facts);
          next_new = new;
          next_legal = legal_log base s course fact coming search here new;
          grown = grown_next base s course fact coming search here new;
        };
        tells = (refl, coming, course.starts, here.gathered.rounds);
        follow = follow_open base s course search here;
      }))

module _ (base : Base) (s : Search) (course : Course) (search : IsSearch base s course)
    (open_here : IsOpenHere base s course.starts []) where
  -- ---- splits

  pub splits_told : (branch : Branch) (at : Occurrence) → branch ≡ branch_of s
      → IsQuiet s.branch → IsSaturatedHere base s
      → next_split (judge_on s.branch) s.branch.clauses ≡ Some at
      → SplitsAt s.branch (Some at) → s.limits.splits ≤ length s.splits
      → IsStopped base s (cause.Splits branch at)
  splits_told branch at b quiet saturated next splits_at spent =
      subst (λ x. IsStopped base s (cause.Splits x at)) (sym b) (record {
        cause_is = record {
          grown = search.grown;
          legal = search.legal;
          spent = omega (arith, spent, search.few);
          free = search.free;
          next_there = split_there base s course search open_here at splits_at;
          next_new = split_new base s course search open_here at splits_at;
        };
        tells = (
          refl,
          open_here.branch,
          quiet,
          saturated,
          course.starts,
          rounds_here base s course search open_here,
          next,
        );
        follow = follow_open base s course search open_here;
      })

  -- ---- rounds

  abbrev pub made_here : Fact → RoundsMade
  made_here next = record {
    live = live_facts s;
    literals = literals_on s.branch;
    starts = course.starts;
    next = next;
  }

  pub rounds_told : LeastStays → (next : Fact) (rest : List Fact) → IsQuiet s.branch
      → IsRoundOf base s.limits.depth (live_facts s) (literals_on s.branch) (next ∷ rest)
      → s.limits.rounds ≤ length course.starts
      → IsStopped base s (cause.Rounds (branch_of s) (made_here next))
  rounds_told law next rest quiet round spent = record {
    cause_is = record {
      grown = search.grown;
      within = within_here base s course search open_here;
      logged = among_log base s course search open_here;
      spent = omega (arith, spent, search.few_rounds);
      rounds = rounds_here base s course search open_here;
      rest = rest;
      next = round;
      classes = classes_on s.branch;
      least = least_here law base s course search open_here;
      consistent = open_here.branch.shared.consistent;
      literals_are = literals_here base s course search open_here;
      follow = follow_open base s course search open_here;
    };
    tells = (refl, open_here.branch, quiet, refl, refl);
    follow = follow_open base s course search open_here;
  }

  -- with what calls made of them
  pub rounds_told_of : LeastStays → (next : Fact) (rest : List Fact) → IsQuiet s.branch
      → IsRoundOf base s.limits.depth (live_facts s) (literals_on s.branch) (next ∷ rest)
      → s.limits.rounds ≤ length course.starts
      → (branch : Branch) (live : List Fact) (literals : List Item) (starts : List Start)
      (first : Fact) → branch ≡ branch_of s → live ≡ live_facts s
      → literals ≡ literals_on s.branch → starts ≡ course.starts → first ≡ next
      → IsStopped base s (cause.Rounds branch (record {
        live = live;
        literals = literals;
        starts = starts;
        next = first;
      }))
  rounds_told_of law next rest quiet round spent branch live literals starts first b l i k n =
      subst (IsStopped base s)
      (ap₅ b l i k n) (rounds_told law next rest quiet round spent)
    where
      ap₅ : branch ≡ branch_of s → live ≡ live_facts s → literals ≡ literals_on s.branch
          → starts ≡ course.starts → first ≡ next
          → cause.Rounds (branch_of s) (made_here next) ≡ cause.Rounds branch (record {
            live = live;
            literals = literals;
            starts = starts;
            next = first;
          })
      ap₅ b l i k n = cc
