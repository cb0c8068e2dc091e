use Rattle.std.proofs.Common.{[], arith, ap, length, subst, sym, ◌≡◌, ◌∙◌, ◌++◌, ◌∷◌, Some, ℕ}
use Rattle.std.specs.Prelude.{OnOk, slice_get}
use Rattle.std.proofs.lemmas.List.FromFn.{length-range_with_len}
use Rattle.esc_fact.specs.Legal.{first_facts}
use Rattle.esc_fact.specs.declared.fact.Fact.TheVariants as fact
use Rattle.esc_search.proofs.FrontFacts.{begun_ready, given_next}
use Rattle.esc_search.proofs.Given.{logged_next}
use Rattle.esc_search.proofs.search.Search.log_given.Goals as goal

pub log_first-requires-clause-begun : goal.log_first-requires-clause-begun
log_first-requires-clause-begun c = begun_ready c.args.base.now c.args.self.now c.requires.ready

pub log_first-requires-clause-next : goal.log_first-requires-clause-next
log_first-requires-clause-next c =
    subst (λ (k : ℕ). slice_get (first_facts c.args.base.now) (length c.args.self.now.log)
    ≡ Some (fact.Given k)) (sym c.count-place.ensures)
    (given_next c.args.base.now (length c.args.self.now.log) c.requires.more)

pub returns-clause-logged : goal.returns-clause-logged
returns-clause-logged c =
    logged_next c.args.base.now c.args.self.now c.log_first.new.self
    (fact.Given c.count-place.result) c.log_first.result
    (ap length c.requires.ready.live
    ∙ length-range_with_len 0 (length c.args.self.now.log))
    (omega (arith, c.requires.more)) c.log_first.ensures.live c.log_first.ensures.begun
    c.log_first.ensures.log

pub returns-clause-log : goal.returns-clause-log
returns-clause-log c =
    subst (λ (k : ℕ). OnOk c.log_first.result (c.log_first.new.self.log
    ≡ c.args.self.now.log ++ fact.Given k ∷ [])) c.count-place.ensures c.log_first.ensures.log
