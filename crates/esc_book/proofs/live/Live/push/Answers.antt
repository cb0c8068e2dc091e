use Rattle.std.proofs.Common.{◌≡◌, ◌∷◌, [], ◌++◌, Some, cond, nat_eq, length, ap, sym, subst, ◌∙◌}
use Rattle.std.proofs.Common.{arith}
use Rattle.std.proofs.lemmas.Grind.{common_steps}
use Rattle.std.specs.HashMap.{get}
use Rattle.esc_book.specs.LiveInside.{place_from}
use Rattle.esc_book.proofs.Indexing.{push_known, push_new, known_there, none_there}
use Rattle.esc_book.proofs.live.Live.push.Goals as goal
use Rattle.esc_book.proofs.live.Live.push.Goals.{then-not-has_key+in_ok-insert}
use Rattle.esc_book.proofs.live.Live.push.Goals.{else-not-has_key}

pub invariant_of-self-2 : goal.invariant_of-self-2
invariant_of-self-2 c =
    let d = c.args.place in
    let kept : c.reserve.new.self.items ≡ c.self.inside.list.items = c.reserve.ensures.items in
    elim c.if-not-has_key.branch [
      | then-not-has_key+in_ok-insert w ↦
          let longer : c.push.new.self.items ≡ c.self.inside.list.items ++ (d ∷ []) =
          grind (arith, common_steps) in
          let place : c.len-at.result ≡ length c.self.inside.list.items =
          grind (arith, common_steps) in
          rw (w.self-inside-is) (record {
            leads =
                λ k. push_new (get nat_eq c.self.inside.first) c.self.inside.list.items d
                (get nat_eq w.insert.new.self) c.self.invariant.leads
                (none_there (get nat_eq c.self.inside.first d) (cc))
                (λ q. subst (λ n. get nat_eq w.insert.new.self q
                ≡ cond (nat_eq d q) (Some n) (get nat_eq c.self.inside.first q))
                place (w.in_ok-insert.ensures.updates.0 q)) k
                ∙ ap (λ ds. place_from 0 ds k) (sym longer);
          })
      | else-not-has_key w ↦
          let longer : c.push.new.self.items ≡ c.self.inside.list.items ++ (d ∷ []) =
          grind (arith, common_steps) in
          let there = known_there (get nat_eq c.self.inside.first d) (cc) in
          rw (w.self-inside-is) (record {
            leads =
                λ k. push_known (get nat_eq c.self.inside.first) c.self.inside.list.items d
                there.0 c.self.invariant.leads there.1 k
                ∙ ap (λ ds. place_from 0 ds k) (sym longer);
          })
    ]
