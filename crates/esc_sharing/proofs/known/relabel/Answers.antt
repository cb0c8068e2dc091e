use Rattle.std.proofs.Common.{sym, ◌∙◌, arith}
use Rattle.std.proofs.lemmas.List.{get_or-map, length-map, same_lists}
use Rattle.std.proofs.Common.{map}
use Rattle.esc_sharing.specs.KnownInside.{relabeled}
use Rattle.esc_sharing.proofs.known.relabel.Goals as goal

pub returns : goal.returns
returns c =
    same_lists c.entries.known (map (relabeled c.args.from c.args.into) c.args.known.now)
    (c.entries.invariant.count
    ∙ sym (length-map c.args.known.now (relabeled c.args.from c.args.into)))
    (λ k d l. c.entries.invariant.done k d (omega arith)
    ∙ sym (get_or-map (relabeled c.args.from c.args.into) c.args.known.now k d d
    (omega (arith, l, c.entries.invariant.count))))
