use Rattle.std.proofs.Common.{◌≡◌, ◌+◌, ◌<◌, [], ◌∷◌, ◌++◌, ◌%◌, length, arith, ap, ◌∙◌}
use Rattle.std.proofs.lemmas.Grind.{common_steps}
use Rattle.std.proofs.lemmas.List.{get_or_default}
use Rattle.esc_index.proofs.Threading.{IsHeld-more}
use Rattle.esc_index.proofs.index.Index.push.Goals as goal

pub invariant_of-self-2 : goal.invariant_of-self-2
invariant_of-self-2 c =
    let key : c.in_ok-small_key.small_key ≡ c.args.key = c.in_ok-small_key.ensures.0 in
    let node : c.in_ok-small_node.small_node ≡ c.args.node = c.in_ok-small_node.ensures.0
    ∙ c.index.ensures in
    let pushed : c.push-2.new.self.items ≡ c.self.inside.entries.items
    ++ ((c.in_ok-small_key.small_key, c.in_ok-small_node.small_node) ∷ [])
    = grind (arith, common_steps) in
    let entries : c.push-2.new.self.items ≡ c.self.inside.entries.items
    ++ ((c.args.key, c.args.node) ∷ []) =
    pushed ∙ (ap (λ k. c.self.inside.entries.items ++ ((k, c.in_ok-small_node.small_node) ∷ [])) key
    ∙ ap (λ n. c.self.inside.entries.items ++ ((c.args.key, n) ∷ [])) node) in
    let next : c.push.new.self.items ≡ c.widen.new.next.items
    ++ (c.index-2.result.now ∷ []) = grind (arith, common_steps) in
    let size : c.len-2.result ≡ length c.widen.new.heads.items = omega
    (arith, c.len-2.ensures, c.widen.new.heads.ok.0) in
    let some : 0 < length c.widen.new.heads.items = c.in_ok-widen.ensures.some in
    let low : c.args.key % c.len-2.result < length c.widen.new.heads.items = omega
    (arith, size, some) in
    let threaded = rw c.as_slice.ensures.value at c.widen.ensures.threaded in
    let end : c.in_ok-end.end ≡ length c.self.inside.entries.items + 1 = omega
    (arith, c.in_ok-end.ensures.0, c.len.ensures, c.self.inside.entries.ok.0) in
    rw (entries, next)
    (IsHeld-more c.self.inside.entries.items c.widen.new.heads.items c.widen.new.next.items
    (c.widen.ensures.next ∙ c.self.invariant.as_many) threaded some (c.args.key, c.args.node)
    c.len-2.result c.index-2.result.now c.in_ok-end.end size
    (c.index-2.ensures ∙ get_or_default c.widen.new.heads.items (c.args.key % c.len-2.result)
    c.index-2.result.now 0 low) low end)
