use Rattle.std.proofs.Common.{arith}
use Rattle.esc_sharing.proofs.KnownNumbers.{listed-known, listed-labeled, number_there}
use Rattle.esc_sharing.proofs.sharing.Sharing.known_numbers.Goals as goal

pub label-requires : goal.label-requires
label-requires g c = record {
  node = number_there c.args.self.now.graph (g.T.Theory.numbers c.args.self.now.theory)
      c.numbers.place c.number_at-node.result c.requires.numbers (omega arith)
      c.number_at-node.ensures;
}

pub returns-clause-labeled : goal.returns-clause-labeled
returns-clause-labeled g c =
    listed-labeled c.args.self.now.graph (g.T.Theory.numbers c.args.self.now.theory)
    c.args.before c.numbers.place c.numbers.known.items c.numbers.invariant (omega arith)
    c.sort_unstable_by_key.new.self.items c.sort_unstable_by_key.ensures.permutation

pub returns-clause-known : goal.returns-clause-known
returns-clause-known g c =
    listed-known c.args.self.now.graph (g.T.Theory.numbers c.args.self.now.theory)
    c.args.before c.numbers.place c.numbers.known.items c.numbers.invariant (omega arith)
    c.sort_unstable_by_key.new.self.items c.sort_unstable_by_key.ensures.permutation
