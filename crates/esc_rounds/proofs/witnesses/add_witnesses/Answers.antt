use Rattle.std.proofs.Common.{◌≡◌, arith, ◌∙◌}
use Rattle.esc_rounds.specs.ListingInside.{listed_in}
use Rattle.esc_rounds.specs.Standing.{standing_of}
use Rattle.esc_rounds.proofs.Bounds.{witnesses_passed}
use Rattle.esc_rounds.proofs.Steps.{witness_step}
use Rattle.esc_rounds.proofs.witnesses.add_witnesses.Goals as goal

pub literals-preserved : goal.literals-preserved
literals-preserved c =
    let same : c.literals.listing.live.keys ≡ c.args.listing.now.live.keys = cc in (
      c.in_ok-add_witness.ensures.live ∙ c.literals.invariant.0,
      witness_step (standing_of c.args.branch.now) c.args.listing.now.live.keys
          c.literals.listing.live.keys c.args.limit same (listed_in c.literals.listing)
          (listed_in c.add_witness.new.listing) c.literals.number _ c.literals-test.true
          c.requires.ready.literals c.in_ok-add_witness.ensures.listed c.literals.invariant.1,
    )

pub returns-clause-listed : goal.returns-clause-listed
returns-clause-listed c =
    witnesses_passed (standing_of c.args.branch.now) c.args.listing.now.live.keys c.args.limit
    c.literals.number (listed_in c.literals.listing) (omega arith) c.literals.invariant.1
