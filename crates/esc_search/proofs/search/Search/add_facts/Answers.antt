use Rattle.std.proofs.Common.{refl}
use Rattle.esc_search.proofs.Reaching.{kept_here}
use Rattle.esc_search.proofs.search.Search.add_facts.Goals as goal

pub facts-init : goal.facts-init
facts-init c = record {
  here = c.requires.here;
  splits = refl;
  kept = kept_here c.args.base.now c.args.self.now c.args.course.now c.requires.here.0;
}
