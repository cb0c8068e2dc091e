use Rattle.std.proofs.Common.{rules, ◌≡◌, length, subst}
use Rattle.std.specs.List.Sorted.{IsNonDecreasing, IsPermutation}
use Rattle.std.proofs.lemmas.List.Sorted.{IsNonDecreasingBy-from_sort_by_key}
use Rattle.esc_egraph.specs.Graph.{number_of}
use Rattle.esc_context.proofs.Listing.{class_moved, class_rises}
use Rattle.esc_context.proofs.classes.members.Goals as goal

pub returns-clause-members : goal.returns-clause-members
returns-clause-members c =
    let sorted : IsNonDecreasing c.sort_unstable_by_key.new.self.items =
    IsNonDecreasingBy-from_sort_by_key (λ x. x) _ c.sort_unstable_by_key.ensures.sorted
    (λ a r q k. search rules) in
    let copied : c.in_ok-members.members.items ≡ c.class_of.result.now = search rules in
    class_moved (length c.args.graph.now.nodes)
    (number_of c.args.graph.now) c.args.node c.class_of.result.now
    c.sort_unstable_by_key.new.self.items
    c.class_of.ensures
    (subst (λ xs. IsPermutation xs c.sort_unstable_by_key.new.self.items) copied
    c.sort_unstable_by_key.ensures.permutation) sorted

pub returns-clause-rising : goal.returns-clause-rising
returns-clause-rising c =
    let sorted : IsNonDecreasing c.sort_unstable_by_key.new.self.items =
    IsNonDecreasingBy-from_sort_by_key (λ x. x) _ c.sort_unstable_by_key.ensures.sorted
    (λ a r q k. search rules) in
    let copied : c.in_ok-members.members.items ≡ c.class_of.result.now = search rules in
    class_rises (length c.args.graph.now.nodes)
    (number_of c.args.graph.now) c.args.node c.class_of.result.now
    c.sort_unstable_by_key.new.self.items
    c.class_of.ensures
    (subst (λ xs. IsPermutation xs c.sort_unstable_by_key.new.self.items) copied
    c.sort_unstable_by_key.ensures.permutation) sorted
