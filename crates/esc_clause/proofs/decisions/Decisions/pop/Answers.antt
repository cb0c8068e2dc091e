use Rattle.std.proofs.Common.{◌≡◌, ◌∷◌, [], ◌++◌, Some, false, IsTrue, length, ap, sym, ◌∙◌, arith}
use Rattle.std.proofs.lemmas.Grind.{common_steps}
use Rattle.std.specs.HashMap.{get}
use Rattle.esc_clause.specs.DecisionsInside.{place_from, same_key}
use Rattle.esc_clause.proofs.Indexing.{pop_first, pop_later}
use Rattle.esc_clause.proofs.decisions.Decisions.pop.Goals as goal

pub invariant_of-self-then-leads_to : goal.invariant_of-self-then-leads_to
invariant_of-self-then-leads_to c =
    let parts : c.self.inside.list.items ≡ c.pop.new.self.items ++ (c.in-Some.decision ∷ []) =
    c.in-Some.ensures.items in
    let last : c.len.result ≡ length c.pop.new.self.items = grind (arith, common_steps) in
    record {
      leads =
          pop_first (get same_key c.self.inside.first) c.pop.new.self.items c.in-Some.decision
          (get same_key c.remove.new.self)
          (λ k. c.self.invariant.leads k ∙ ap (λ ds. place_from 0 ds k) parts)
          (c.leads_to.ensures.0 c.if-leads_to.true ∙ ap (λ n. Some n) last)
          c.remove.ensures.updates.0;
    }

pub invariant_of-self-else-leads_to : goal.invariant_of-self-else-leads_to
invariant_of-self-else-leads_to c =
    let parts : c.self.inside.list.items ≡ c.pop.new.self.items ++ (c.in-Some.decision ∷ []) =
    c.in-Some.ensures.items in
    let last : c.len.result ≡ length c.pop.new.self.items = grind (arith, common_steps) in
    record {
      leads = pop_later (get same_key c.self.inside.first) c.pop.new.self.items c.in-Some.decision
          (λ k. c.self.invariant.leads k ∙ ap (λ ds. place_from 0 ds k) parts)
          (λ h. let found : IsTrue c.leads_to.result =
          c.leads_to.ensures.1 (h ∙ ap (λ n. Some n) (sym last)) in
          let not_found : c.leads_to.result ≡ false = c.if-leads_to.false in
          cc);
    }
