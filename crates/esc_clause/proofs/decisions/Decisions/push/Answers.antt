use Rattle.std.proofs.Common.{◌≡◌, ◌∷◌, [], ◌++◌, Some, cond, length, ap, sym, subst, ◌∙◌, arith}
use Rattle.std.proofs.lemmas.Grind.{common_steps}
use Rattle.std.specs.HashMap.{get}
use Rattle.esc_clause.specs.DecisionsInside.{key_of, place_from, same_key}
use Rattle.esc_clause.proofs.Indexing.{push_known, push_new, known_there, none_there}
use Rattle.esc_clause.proofs.decisions.Decisions.push.Goals as goal
use Rattle.esc_clause.proofs.decisions.Decisions.push.Goals.{then-not-has_key+in_ok-insert}
use Rattle.esc_clause.proofs.decisions.Decisions.push.Goals.{else-not-has_key}

pub invariant_of-self-2 : goal.invariant_of-self-2
invariant_of-self-2 c =
    let d = c.args.decision in
    let kept : c.reserve.new.self.items ≡ c.self.inside.list.items = c.reserve.ensures.items in
    elim c.if-not-has_key.branch [
      | then-not-has_key+in_ok-insert w ↦
          let longer : c.push.new.self.items ≡ c.self.inside.list.items ++ (d ∷ []) =
          grind (arith, common_steps) in
          let place : c.len-place.result ≡ length c.self.inside.list.items =
          grind (arith, common_steps) in
          rw (w.self-inside-is) (record {
            leads =
                λ k. push_new (get same_key c.self.inside.first) c.self.inside.list.items d
                (get same_key w.insert.new.self) c.self.invariant.leads
                (none_there (get same_key c.self.inside.first (key_of d.at)) (cc))
                (λ q. subst (λ n. get same_key w.insert.new.self q
                ≡ cond (same_key (key_of d.at) q) (Some n) (get same_key c.self.inside.first q))
                place (w.in_ok-insert.ensures.updates.0 q)) k
                ∙ ap (λ ds. place_from 0 ds k) (sym longer);
          })
      | else-not-has_key w ↦
          let longer : c.push.new.self.items ≡ c.self.inside.list.items ++ (d ∷ []) =
          grind (arith, common_steps) in
          let there = known_there (get same_key c.self.inside.first (key_of d.at)) (cc) in
          rw (w.self-inside-is) (record {
            leads =
                λ k. push_known (get same_key c.self.inside.first) c.self.inside.list.items d
                there.0 c.self.invariant.leads there.1 k
                ∙ ap (λ ds. place_from 0 ds k) (sym longer);
          })
    ]
