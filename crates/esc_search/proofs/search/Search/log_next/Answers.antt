use Rattle.std.proofs.Common.{[], ap, refl, sym, ◌∙◌, ◌∷◌}
use Rattle.esc_fact.specs.Fact.{formulas_of}
use Rattle.esc_live.specs.View.{logged}
use Rattle.esc_live.specs.declared.branch.LiveBranch.{LiveBranch}
use Rattle.esc_play.proofs.MoreBehind.{more_none}
use Rattle.esc_search.proofs.BackTo.{kept_since, since_logged}
use Rattle.esc_search.proofs.FrontFacts.{cut_back, cut_within, logs_new}
use Rattle.esc_search.proofs.LogNext.{next_amid, next_is_fact, next_kept}
use Rattle.esc_search.proofs.search.Search.log_next.Goals as goal

pub formula_of-requires : goal.formula_of-requires
formula_of-requires c = record {
  closed = c.requires.here.0.closed;
  is_fact = next_is_fact c.args.base.now c.args.self.now c.args.course.now c.args.fact
      c.args.coming.now c.requires.here.0 c.requires.here.1 c.requires.new;
}

pub log-requires : goal.log-requires
log-requires c = record {
  closed = c.fact_laws.ensures.closed c.args.base.now c.args.fact c.in_ok-formula.formula
      c.requires.here.0.closed
      (next_is_fact c.args.base.now c.args.self.now c.args.course.now c.args.fact
      c.args.coming.now c.requires.here.0 c.requires.here.1 c.requires.new)
      c.in_ok-formula.ensures;
}

pub returns-in-Ok-clause-here : goal.returns-in-Ok-clause-here
returns-in-Ok-clause-here c =
    next_amid c.args.base.now c.args.self.now c.args.course.now c.args.fact c.args.coming.now
    c.requires.here.0 c.requires.here.1 c.requires.new c.requires.few c.log.new.self
    c.in_ok-formula.formula c.in_ok-formula.ensures c.in-Ok.ensures.ok c.log.ensures.rest
    (c.log.ensures.branch c.requires.here.1.branch) (c.log.ensures.given c.requires.here.0.given)
    (c.log.ensures.sound c.requires.here.1.branch) c.add.new.self c.push.new.self
    (logs_new c.args.self.now.log c.add.new.self c.args.fact c.in_ok-added.added c.requires.new
    c.in_ok-added.ensures.ok) c.in_ok-push.ensures.ok

pub returns-in-Ok-clause-log : goal.returns-in-Ok-clause-log
returns-in-Ok-clause-log c =
    logs_new c.args.self.now.log c.add.new.self c.args.fact c.in_ok-added.added c.requires.new
    c.in_ok-added.ensures.ok

pub returns-in-Ok-clause-kept : goal.returns-in-Ok-clause-kept
returns-in-Ok-clause-kept c =
    next_kept c.args.base.now c.args.self.now c.args.course.now c.args.fact c.args.coming.now
    c.requires.here.0 c.requires.here.1 c.requires.new c.requires.few c.log.new.self
    c.in_ok-formula.formula c.in_ok-formula.ensures c.in-Ok.ensures.ok c.log.ensures.rest
    (c.log.ensures.branch c.requires.here.1.branch) (c.log.ensures.given c.requires.here.0.given)
    (c.log.ensures.sound c.requires.here.1.branch) c.add.new.self c.push.new.self
    (logs_new c.args.self.now.log c.add.new.self c.args.fact c.in_ok-added.added c.requires.new
    c.in_ok-added.ensures.ok) c.in_ok-push.ensures.ok

pub returns-in-Err-clause-kept : goal.returns-in-Err-clause-kept
returns-in-Err-clause-kept c =
    let back = c.cut.ensures
    ∙ cut_back c.args.self.now.log c.add.new.self c.args.fact c.count-len.result c.count-len.ensures
    (logs_new c.args.self.now.log c.add.new.self c.args.fact c.in_ok-added.added c.requires.new
    c.in_ok-added.ensures.ok) in
    kept_since c.args.base.now c.args.self.now c.args.course.now.waiting _
    (c.log.ensures.given c.requires.here.0.given)
    (ap (λ (v : LiveBranch). v.book.logged) c.in-Err.ensures.err
    ∙ (c.requires.here.0.formulas ∙ sym (ap (formulas_of c.args.base.now) back))) refl
    (since_logged c.args.self.now c.log.new.self c.cut.new.self c.push.new.self
    c.log.ensures.rest
    (more_none (logged c.args.self.now.branch) (logged c.log.new.self)
    (ap (λ (v : LiveBranch). v.book.logged) c.in-Err.ensures.err))
    (more_none c.args.self.now.log c.cut.new.self back)
    (c.args.self.now.under ∷ [], c.in_ok-push.ensures.ok))

pub cut-requires : goal.cut-requires
cut-requires c =
    cut_within c.args.self.now.log c.add.new.self c.args.fact c.count-len.result c.count-len.ensures
    (logs_new c.args.self.now.log c.add.new.self c.args.fact c.in_ok-added.added c.requires.new
    c.in_ok-added.ensures.ok)
