use Rattle.std.proofs.Common.{rules, ◌≡◌, subst}
use Rattle.std.specs.List.Sorted.{IsNonDecreasing, IsPermutation}
use Rattle.std.proofs.lemmas.List.Sorted.{IsNonDecreasingBy-from_sort_by_key}
use Rattle.esc_match.proofs.ClassLists.{class_listed, class_there}
use Rattle.esc_match.proofs.candidates.class_nodes.Goals as goal

pub returns-clause-equal : goal.returns-clause-equal
returns-clause-equal c =
    let sorted : IsNonDecreasing c.sort_unstable_by_key.new.self.items =
    IsNonDecreasingBy-from_sort_by_key (λ x. x) _ c.sort_unstable_by_key.ensures.sorted
    (λ a r q k. search rules) in
    let copied : c.in_ok-nodes.nodes.items ≡ c.class_of.result.now = search rules in
    class_listed c.args.graph.now c.args.node c.class_of.result.now
    c.sort_unstable_by_key.new.self.items c.class_of.ensures
    (subst (λ xs. IsPermutation xs c.sort_unstable_by_key.new.self.items) copied
    c.sort_unstable_by_key.ensures.permutation) sorted

pub returns-clause-there : goal.returns-clause-there
returns-clause-there c =
    let sorted : IsNonDecreasing c.sort_unstable_by_key.new.self.items =
    IsNonDecreasingBy-from_sort_by_key (λ x. x) _ c.sort_unstable_by_key.ensures.sorted
    (λ a r q k. search rules) in
    let copied : c.in_ok-nodes.nodes.items ≡ c.class_of.result.now = search rules in
    class_there c.args.graph.now c.args.node c.sort_unstable_by_key.new.self.items
    (class_listed c.args.graph.now c.args.node c.class_of.result.now
    c.sort_unstable_by_key.new.self.items c.class_of.ensures
    (subst (λ xs. IsPermutation xs c.sort_unstable_by_key.new.self.items) copied
    c.sort_unstable_by_key.ensures.permutation) sorted)
