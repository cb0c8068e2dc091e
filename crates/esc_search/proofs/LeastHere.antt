-- The classes of an open branch are the finest for its literals and the terms of its live facts.
use Rattle.std.proofs.Common.{List, subst}
use Rattle.esc_cover.specs.Arithmetic.{play_of}
use Rattle.esc_cover.specs.Least.{IsLeast}
use Rattle.esc_fact.specs.Fact.{formulas_of}
use Rattle.esc_fact.specs.declared.base.Base.{Base}
use Rattle.esc_fact.specs.declared.fact.Fact.{Fact}
use Rattle.esc_live.specs.View.{classes_on, literals_on, live_on}
use Rattle.esc_outcome.specs.JamLaws.{shared_in}
use Rattle.esc_sharing.specs.ModelLaws.{LeastStays}
use Rattle.esc_sharing.specs.Shared.{literals_in, play_in}
use Rattle.esc_search.specs.Proving.{live_facts}
use Rattle.esc_search.specs.SearchInside.{IsOpenHere, IsSearch}
use Rattle.esc_search.specs.declared.course.Course.{Course}
use Rattle.esc_search.specs.declared.search.Search.{Search}
use Rattle.esc_search.proofs.Reaching.{live_read, named}

-- the sharing has the literals but for quantified ones, of which classes know nothing
pub least_here : {coming : List Fact} (law : LeastStays) (base : Base) (s : Search)
    (course : Course) → IsSearch base s course → IsOpenHere base s course.starts coming
    → IsLeast (literals_on s.branch) (play_of (formulas_of base (live_facts s)))
    (classes_on s.branch)
least_here law base s course search here =
    subst (λ fs. IsLeast (literals_on s.branch) (play_of fs) (classes_on s.branch))
    (live_read base s search.formulas (named base s course search))
    (law (literals_in (shared_in s.branch.sharing)) (literals_on s.branch)
    (play_in (shared_in s.branch.sharing)) (play_of (live_on s.branch)) (classes_on s.branch)
    here.branch.shared.asserted here.branch.shared.play here.branch.shared.shared.least)
