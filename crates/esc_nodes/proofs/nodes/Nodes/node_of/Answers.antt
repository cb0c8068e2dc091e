use Rattle.std.proofs.Common.{◌≡◌, ◌%◌, length, IsTrue, ap, sym, ◌∙◌, arith}
use Rattle.esc_nodes.specs.Terms.{term_of}
use Rattle.esc_nodes.specs.TableInside.{IsEnd, bucket_at}
use Rattle.esc_term.specs.Digest.{digest}
use Rattle.esc_nodes.specs.DigestsInside.{digests}
use Rattle.esc_nodes.proofs.Digests.{filed-count, filed-term}
use Rattle.esc_nodes.proofs.Passing.{IsPassed-starts, IsPassed-step}
use Rattle.esc_nodes.proofs.nodes.Nodes.node_of.Goals as goal

pub bucket-init : goal.bucket-init
bucket-init c =
    let filed : c.self.inside.table.digests ≡ digests c.args.self.now = c.self.invariant.filed
    ∙ ap digests c.self.view_is in
    let is : IsEnd (bucket_at c.self.inside.table)
    (digest c.args.term.now % c.self.inside.table.buckets) (length c.args.self.now)
    c.end-end.result =
    rw (← filed-count c.args.self.now c.self.inside.table filed, ← c.digest_term.ensures)
    c.end-end.ensures in
    IsPassed-starts _ (bucket_at c.self.inside.table) _ (length c.args.self.now)
    (filed-term c.args.self.now c.self.inside.table filed c.args.term.now)
    c.end-end.result is

pub end_before-end-requires : goal.end_before-end-requires
end_before-end-requires c =
    omega (
      arith,
      filed-count c.args.self.now c.self.inside.table (c.self.invariant.filed
          ∙ ap digests c.self.view_is),
      c.bucket.invariant.within,
    )

pub bucket-preserved : goal.bucket-preserved
bucket-preserved c =
    let filed : c.self.inside.table.digests ≡ digests c.args.self.now = c.self.invariant.filed
    ∙ ap digests c.self.view_is in
    IsPassed-step _ (bucket_at c.self.inside.table) _ (length c.args.self.now)
    (filed-term c.args.self.now c.self.inside.table filed c.args.term.now)
    c.bucket.end c.index.result c.end_before-end.result (omega arith) (c.index.ensures
    ∙ c.new-node.ensures)
    (λ is. let yes : IsTrue c.has_term.result = c.has_term.ensures.1
    (ap (term_of c.args.self.now) (sym c.index.ensures) ∙ is) in cc)
    c.end_before-end.ensures c.bucket.invariant
