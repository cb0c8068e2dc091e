use Rattle.std.proofs.Common.{◌≡◌, ◌∷◌, [], ◌++◌, Some, false, nat_eq, IsTrue, length, ap, sym, ◌∙◌}
use Rattle.std.proofs.Common.{arith}
use Rattle.std.proofs.lemmas.Grind.{common_steps}
use Rattle.std.specs.HashMap.{get}
use Rattle.esc_book.specs.LiveInside.{place_from}
use Rattle.esc_book.proofs.Indexing.{pop_first, pop_later}
use Rattle.esc_book.proofs.live.Live.pop.Goals as goal

pub invariant_of-self-then-leads_to : goal.invariant_of-self-then-leads_to
invariant_of-self-then-leads_to c =
    let parts : c.self.inside.list.items ≡ c.pop.new.self.items ++ (c.in-Some.place ∷ []) =
    c.in-Some.ensures.items in
    let last : c.len.result ≡ length c.pop.new.self.items = grind (arith, common_steps) in
    record {
      leads =
          pop_first (get nat_eq c.self.inside.first) c.pop.new.self.items c.in-Some.place
          (get nat_eq c.remove.new.self)
          (λ k. c.self.invariant.leads k ∙ ap (λ ds. place_from 0 ds k) parts)
          (c.leads_to.ensures.0 c.if-leads_to.true ∙ ap (λ n. Some n) last)
          c.remove.ensures.updates.0;
    }

pub invariant_of-self-else-leads_to : goal.invariant_of-self-else-leads_to
invariant_of-self-else-leads_to c =
    let parts : c.self.inside.list.items ≡ c.pop.new.self.items ++ (c.in-Some.place ∷ []) =
    c.in-Some.ensures.items in
    let last : c.len.result ≡ length c.pop.new.self.items = grind (arith, common_steps) in
    record {
      leads = pop_later (get nat_eq c.self.inside.first) c.pop.new.self.items c.in-Some.place
          (λ k. c.self.invariant.leads k ∙ ap (λ ds. place_from 0 ds k) parts)
          (λ h. let found : IsTrue c.leads_to.result =
          c.leads_to.ensures.1 (h ∙ ap (λ n. Some n) (sym last)) in
          let not_found : c.leads_to.result ≡ false = c.if-leads_to.false in
          cc);
    }
