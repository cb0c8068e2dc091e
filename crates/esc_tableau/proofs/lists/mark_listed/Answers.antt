use Rattle.std.proofs.Common.{map, sym, ◌∙◌, arith}
use Rattle.std.proofs.lemmas.List.{ext_get_or, length-map, get_or-map}
use Rattle.esc_tableau.specs.Listed.{owner_with}
use Rattle.esc_tableau.specs.Table.{nobody}
use Rattle.esc_tableau.specs.declared.owner.Owner.{Owner}
use Rattle.esc_tableau.proofs.lists.mark_listed.Goals as goal

pub returns : goal.returns
returns c =
    let f = λ (o : Owner). owner_with c.args.restricted.now o.unknown in
    ext_get_or nobody c.loop-owner.owners (map f c.args.owners.now) (c.loop-owner.auto.owners
    ∙ sym (length-map c.args.owners.now f))
    (λ k inside. c.loop-owner.invariant.done k (omega arith)
    ∙ sym (get_or-map f c.args.owners.now k nobody nobody
    (omega (arith, c.loop-owner.auto.owners))))
