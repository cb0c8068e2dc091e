use Rattle.std.proofs.lemmas.Bool.Decides.{same_from_decides}
use Rattle.esc_match.specs.CandidatesInside.{same_top, same_top-is}
use Rattle.esc_match.proofs.candidates.is_same_top.Goals as goal

pub returns : goal.returns
returns c =
    same_from_decides c.are_equal.result (same_top c.args.left c.args.right)
    (c.are_equal.ensures.0, c.are_equal.ensures.1) (same_top-is c.args.left c.args.right)
