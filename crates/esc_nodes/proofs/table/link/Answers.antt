use Rattle.std.proofs.Common.{◌≡◌, ◌+◌, length, subst, ◌∙◌, arith}
use Rattle.std.proofs.lemmas.List.{length-set}
use Rattle.esc_nodes.specs.TableInside.{AreLinked}
use Rattle.esc_nodes.proofs.Linking.{AreLinked-none, AreLinked-link}
use Rattle.esc_nodes.proofs.table.link.Goals as goal

pub nodes-init : goal.nodes-init
nodes-init c = record {
  count = omega arith;
  linked = AreLinked-none c.args.digests.now c.args.ends.now c.args.ends_before.now
      c.requires.empty;
}

pub nodes-preserved : goal.nodes-preserved
nodes-preserved c = record {
  count = length-set c.nodes.ends c.bucket-bucket.result (c.nodes.index + 1)
      ∙ c.nodes.invariant.count;
  linked =
      AreLinked-link c.args.digests.now c.nodes.ends c.nodes.ends_before c.nodes.index
      c.bucket-bucket.result
      (omega arith) (omega arith) c.bucket-bucket.ensures.is c.nodes.invariant.linked;
}

pub returns-clause-linked : goal.returns-clause-linked
returns-clause-linked c =
    subst (AreLinked c.args.digests.now c.nodes.ends c.nodes.ends_before)
    (let all : c.nodes.index ≡ length c.args.digests.now = omega arith
    in all) c.nodes.invariant.linked
