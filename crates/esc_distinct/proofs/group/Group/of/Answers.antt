use Rattle.std.proofs.Common.{nat_eq, MatchOption, ◌≡◌, sym, subst, ◌∙◌}
use Rattle.std.proofs.lemmas.List.{get_or_default}
use Rattle.std.specs.HashMap.{get}
use Rattle.esc_distinct.proofs.Indexing.{indexed_step}
use Rattle.esc_distinct.proofs.group.Group.of.Goals as goal

pub nodes-preserved : goal.nodes-preserved
nodes-preserved c =
    indexed_step c.args.nodes.now c.nodes.place c.index.result c.first_place-first.result
    (get nat_eq c.nodes.places) (get nat_eq c.insert.new.self)
    c.nodes.invariant
    (sym (c.index.ensures
    ∙ (c.index-nodes-place.is
    ∙ get_or_default c.args.nodes.now c.nodes.place _ 0 c.nodes-test.true)))
    (subst (λ n. MatchOption (get nat_eq c.nodes.places n)
    (c.first_place-first.result ≡ c.nodes.place) (λ p. c.first_place-first.result ≡ p.first))
    (sym c.index.ensures) c.first_place-first.ensures)
    c.in_ok-insert.ensures.updates.0
