use Rattle.std.proofs.Common.{◌≤◌, List, ap, arith, length, map, refl, subst, sym, take, ◌∙◌}
use Rattle.std.specs.Prelude.{None}
use Rattle.std.specs.List.{range_with_len}
use Rattle.esc_fact.specs.Fact.{formulas_of}
use Rattle.esc_fact.specs.Legal.{first_facts}
use Rattle.esc_fact.specs.declared.fact.Fact.{Fact}
use Rattle.esc_outcome.specs.Tree.{Side}
use Rattle.esc_search.proofs.search.Search.new.Goals as goal

abbrev the_root : Side
the_root = None

pub returns-clause-ready : goal.returns-clause-ready
returns-clause-ready c base = record {
  log = c.new-3.ensures
      ∙ sym (ap (λ (facts : List Fact). take (length facts) (first_facts base)) c.new-3.ensures);
  without_goal = subst (λ (facts : List Fact). length facts ≤ length base.background)
      (sym c.new-3.ensures) (omega arith);
  formulas = c.in_ok-new.ensures.logged ∙ sym (ap (formulas_of base) c.new-3.ensures);
  live = c.in_ok-new.ensures.live
      ∙ sym (ap (λ (facts : List Fact). range_with_len 0 (length facts)) c.new-3.ensures);
  sides = c.new-4.ensures
      ∙ sym (ap (λ (facts : List Fact). map (λ (f : Fact). the_root) facts) c.new-3.ensures);
  splits = c.new-5.ensures;
  under = refl;
  branch = c.in_ok-new.ensures.branch;
  given = c.in_ok-new.ensures.given;
  sound = λ M all. c.in_ok-new.ensures.sound M;
  limit = c.in_ok-new.ensures.limit;
}
