use Rattle.std.proofs.Common.{[], None, ap, refl, sym, ◌∙◌, ◌∷◌}
use Rattle.esc_outcome.specs.Tree.{Side}
use Rattle.esc_play.proofs.MoreBehind.{more_none}
use Rattle.esc_search.proofs.BackTo.{kept_since, since_logged}
use Rattle.esc_fact.specs.Fact.{formulas_of}
use Rattle.esc_live.specs.View.{logged}
use Rattle.esc_live.specs.declared.branch.LiveBranch.{LiveBranch}
use Rattle.esc_search.proofs.FrontFacts.{begun_with, cut_back, cut_within, is_fact, logs_new}
use Rattle.esc_search.proofs.FrontFacts.{new_fact}
use Rattle.esc_search.proofs.search.Search.log_first.Goals as goal

abbrev the_root : Side
the_root = None

pub formula_of-requires-clause-is_fact : goal.formula_of-requires-clause-is_fact
formula_of-requires-clause-is_fact c =
    is_fact c.args.base.now c.args.self.now c.requires.begun c.args.fact c.requires.next

pub log-requires : goal.log-requires
log-requires c = record {
  closed = c.fact_laws.ensures.closed c.args.base.now c.args.fact c.in_ok-formula.formula
      c.requires.closed
      (is_fact c.args.base.now c.args.self.now c.requires.begun c.args.fact c.requires.next)
      c.in_ok-formula.ensures;
}

pub returns-in-Ok-clause-begun : goal.returns-in-Ok-clause-begun
returns-in-Ok-clause-begun c =
    begun_with c.args.base.now c.args.self.now c.requires.begun c.args.fact c.requires.next
    c.log.new.self c.in_ok-formula.formula c.in_ok-formula.ensures c.in-Ok.ensures.ok
    c.log.ensures.rest (c.log.ensures.branch c.requires.begun.branch)
    (c.log.ensures.given c.requires.begun.given)
    (c.log.ensures.sound c.requires.begun.branch) c.add.new.self c.push.new.self
    (logs_new c.args.self.now.log c.add.new.self c.args.fact c.in_ok-added.added
    (new_fact c.args.base.now c.args.self.now c.requires.begun c.args.fact c.requires.next)
    c.in_ok-added.ensures.ok) c.in_ok-push.ensures.ok

pub returns-in-Ok-clause-log : goal.returns-in-Ok-clause-log
returns-in-Ok-clause-log c =
    logs_new c.args.self.now.log c.add.new.self c.args.fact c.in_ok-added.added
    (new_fact c.args.base.now c.args.self.now c.requires.begun c.args.fact c.requires.next)
    c.in_ok-added.ensures.ok

pub returns-in-Ok-clause-kept : goal.returns-in-Ok-clause-kept
returns-in-Ok-clause-kept c =
    let begun = begun_with c.args.base.now c.args.self.now c.requires.begun c.args.fact
    c.requires.next c.log.new.self c.in_ok-formula.formula c.in_ok-formula.ensures
    c.in-Ok.ensures.ok c.log.ensures.rest (c.log.ensures.branch c.requires.begun.branch)
    (c.log.ensures.given c.requires.begun.given)
    (c.log.ensures.sound c.requires.begun.branch) c.add.new.self c.push.new.self
    (logs_new c.args.self.now.log c.add.new.self c.args.fact c.in_ok-added.added
    (new_fact c.args.base.now c.args.self.now c.requires.begun c.args.fact c.requires.next)
    c.in_ok-added.ensures.ok) c.in_ok-push.ensures.ok in
    kept_since c.args.base.now c.args.self.now [] _ begun.given begun.formulas refl
    (since_logged c.args.self.now c.log.new.self c.add.new.self c.push.new.self
    c.log.ensures.rest (c.in_ok-formula.formula ∷ [], c.in-Ok.ensures.ok) (
      c.args.fact ∷ [],
      logs_new c.args.self.now.log c.add.new.self c.args.fact
          c.in_ok-added.added
          (new_fact c.args.base.now c.args.self.now c.requires.begun c.args.fact c.requires.next)
          c.in_ok-added.ensures.ok,
    ) (the_root ∷ [], c.in_ok-push.ensures.ok))

pub returns-in-Err-clause-kept : goal.returns-in-Err-clause-kept
returns-in-Err-clause-kept c =
    let back = c.cut.ensures
    ∙ cut_back c.args.self.now.log c.add.new.self c.args.fact c.count-len.result
    c.count-len.ensures
    (logs_new c.args.self.now.log c.add.new.self c.args.fact c.in_ok-added.added
    (new_fact c.args.base.now c.args.self.now c.requires.begun c.args.fact c.requires.next)
    c.in_ok-added.ensures.ok) in
    kept_since c.args.base.now c.args.self.now [] _
    (c.log.ensures.given c.requires.begun.given)
    (ap (λ (v : LiveBranch). v.book.logged) c.in-Err.ensures.err
    ∙ (c.requires.begun.formulas ∙ sym (ap (formulas_of c.args.base.now) back))) refl
    (since_logged c.args.self.now c.log.new.self c.cut.new.self c.push.new.self
    c.log.ensures.rest
    (more_none (logged c.args.self.now.branch) (logged c.log.new.self)
    (ap (λ (v : LiveBranch). v.book.logged) c.in-Err.ensures.err))
    (more_none c.args.self.now.log c.cut.new.self back)
    (the_root ∷ [], c.in_ok-push.ensures.ok))

pub cut-requires : goal.cut-requires
cut-requires c =
    cut_within c.args.self.now.log c.add.new.self c.args.fact c.count-len.result
    c.count-len.ensures
    (logs_new c.args.self.now.log c.add.new.self c.args.fact c.in_ok-added.added
    (new_fact c.args.base.now c.args.self.now c.requires.begun c.args.fact c.requires.next)
    c.in_ok-added.ensures.ok)
