use Rattle.std.proofs.Common.{◌≡◌, ◌+◌, ◌∷◌, [], refl, subst, arith, ◌∙◌}
use Rattle.esc_rounds.specs.ListingInside.{IsListedTo, listed_in}
use Rattle.esc_rounds.specs.Standing.{standing_of}
use Rattle.esc_rounds.proofs.Bounds.{first_literal, passed_literals}
use Rattle.esc_rounds.proofs.instances.add_instances.Goals as goal

pub literals-init : goal.literals-init
literals-init c = (
  refl,
  first_literal (standing_of c.args.branch.now) c.args.listing.now.live.keys c.args.limit
      (listed_in c.args.listing.now) c.requires.listed,
)

pub literals-preserved : goal.literals-preserved
literals-preserved c =
    let same : c.literals.listing.live.keys ≡ c.args.listing.now.live.keys = cc in (
      c.in_ok-add_literal.ensures.live ∙ c.literals.invariant.0,
      subst (λ keys. IsListedTo (standing_of c.args.branch.now) keys c.args.limit
          (2 ∷ (c.literals.number + 1) ∷ []) (listed_in c.add_literal.new.listing)) same
          c.in_ok-add_literal.ensures.listed,
    )

pub returns-clause-listed : goal.returns-clause-listed
returns-clause-listed c =
    passed_literals (standing_of c.args.branch.now) c.args.listing.now.live.keys c.args.limit
    c.literals.number (listed_in c.literals.listing) (omega arith) c.literals.invariant.1
