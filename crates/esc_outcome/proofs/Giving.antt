-- What formulas give to the arithmetic stays given.
use Rattle.std.proofs.Common.{sym, subst}
use Rattle.std.specs.List.{All}
use Rattle.std.proofs.lemmas.List.Elements.{All-append, All-weaker}
use Rattle.esc_simplex.specs.View.{numbers_in, senses_in}
use Rattle.esc_sharing.specs.Numbers.{MayStandFor, number_terms}
use Rattle.esc_outcome.specs.Jam.{IsNumberOf, IsSenseOf}
use Rattle.esc_outcome.specs.JamLaws.{GivenAfterCall, GivenByMore}
use Rattle.esc_outcome.proofs.Numbers.{IsNumberOf-among, IsSenseOf-among, IsSenseOf-may}

pub given_by_more : GivenByMore
given_by_more fs gs v among given = record {
  numbers = All-weaker (IsNumberOf fs) (IsNumberOf gs) (IsNumberOf-among fs gs among)
      (number_terms (numbers_in v)) given.numbers;
  made = All-weaker (IsSenseOf fs) (IsSenseOf gs) (IsSenseOf-among fs gs among) (senses_in v)
      given.made;
}

pub given_after_call : GivenAfterCall
given_after_call fs ts v w given numbers are adds = record {
  numbers = numbers;
  made = subst (All (IsSenseOf fs)) (sym adds.made)
      (All-append (IsSenseOf fs) (senses_in v) adds.more given.made
      (All-weaker (MayStandFor ts) (IsSenseOf fs) (IsSenseOf-may fs ts are) adds.more adds.may));
}
