use Rattle.std.proofs.Common.{refl, ap, length, arith}
use Rattle.esc_sexp.proofs.Coming.{sound_anew}
use Rattle.esc_sexp.proofs.reader.Reader.new.Goals as goal

pub invariant_of-result : goal.invariant_of-result
invariant_of-result c =
    sound_anew _ refl (omega arith) (omega (arith, ap length c.new.ensures.items)) c.new-2.ensures
