use Rattle.std.proofs.Common.{arith}
use Rattle.esc_book.proofs.Pairs.{pair_count-more}
use Rattle.esc_book.proofs.writing.behind_pairs.Goals as goal

pub terms-preserved : goal.terms-preserved
terms-preserved c = record {
  end = omega (
    arith,
    c.in_ok-end.ensures,
    c.terms.invariant.end,
    pair_count-more c.terms.place,
  );
}
