-- How a session goes back to where it stood before its newest batches.
use Rattle.std.specs.Prelude.{List, [], ◌∷◌}
use Rattle.esc_fact.specs.declared.base.Base.{Base}
use Rattle.esc_live.specs.Promises.{IsGiven}
use Rattle.esc_search.specs.Levels.{GoesBackTo, IsAsBefore, IsBegunAt, KeepsLevels}
use Rattle.esc_search.specs.Proving.{IsReady}
use Rattle.esc_search.specs.declared.level.Level.{Level}
use Rattle.esc_search.specs.declared.search.Search.{Search}
use Rattle.esc_session.specs.declared.batch.Batch.{Batch}
use Rattle.esc_session.specs.declared.batch.Standing.{Standing}
use Rattle.esc_session.specs.declared.batch.Standing.TheVariants.{Asserted, Closed}

-- the second search is as the first one was, and can go back to what that could go back to
pub record IsAgain (s w : Search) : Type 0 where
  pub as_before : IsAsBefore w s
  pub levels : KeepsLevels s w
  pub ready : (base : Base) → IsReady base s → IsReady base w
  pub given : IsGiven s.branch → IsGiven w.branch

-- from the search one goes back to where the level was begun, which was so
abbrev pub GoesThrough : Search → Level → (Search → Type 0) → Type 0
GoesThrough s level so = (there : Search) × IsBegunAt level there × GoesBackTo s there × so there

-- before the batch that stands so, the search was so
abbrev pub BeforeStanding : Search → Standing → (Search → Type 0) → Type 0
BeforeStanding s (Asserted level) so = GoesThrough s level so
BeforeStanding s (Closed level) so = GoesThrough s level so
BeforeStanding s standing so = so s

-- ending these batches, the newest first, leads from the first search back to the second one
abbrev pub LeadsBack : Search → List Batch → Search → Type 0
LeadsBack s [] t = IsAgain t s
LeadsBack s (b ∷ older) t = BeforeStanding s b.standing (λ u. LeadsBack u older t)
