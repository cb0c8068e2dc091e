use Rattle.esc_report.specs.LogText.{entries_from, entry, entry_text}
use Rattle.esc_report.proofs.Eaches.{each_done, each_failed, each_start, each_step}
use Rattle.esc_report.proofs.Entries.{before_entries, entry_at, past_entries}
use Rattle.esc_report.proofs.log.put_entries.Goals as goal

pub facts-init : goal.facts-init
facts-init g c =
    each_start (entry_text c.args.names.now)
    (entries_from 0 c.args.facts.now c.args.formulas.now) c.args.sink.now

pub returns-in_err-put_entry : goal.returns-in_err-put_entry
returns-in_err-put_entry g c =
    let facts = c.args.facts.now in
    let formulas = c.args.formulas.now in
    let fact = c.index-facts-place.result in
    let formula = c.index-formulas-place.result in
    each_failed (entry_text c.args.names.now) (entries_from 0 facts formulas) c.facts.place
    (entry c.facts.place fact formula)
    (before_entries facts formulas c.requires c.facts.place c.facts-test.true)
    (entry_at facts formulas c.requires c.facts.place fact formula c.facts-test.true
    c.index-facts-place.is c.index-formulas-place.is)
    c.facts.invariant c.from_residual.ensures.0 c.in_err-put_entry.ensures

pub facts-preserved : goal.facts-preserved
facts-preserved g c =
    let facts = c.args.facts.now in
    let formulas = c.args.formulas.now in
    let fact = c.index-facts-place.result in
    let formula = c.index-formulas-place.result in
    each_step (entry_text c.args.names.now) (entries_from 0 facts formulas) c.facts.place
    (entry c.facts.place fact formula)
    (before_entries facts formulas c.requires c.facts.place c.facts-test.true)
    (entry_at facts formulas c.requires c.facts.place fact formula c.facts-test.true
    c.index-facts-place.is c.index-formulas-place.is)
    c.facts.invariant c.in_ok-put_entry.ensures

pub returns : goal.returns
returns g c =
    let facts = c.args.facts.now in
    let formulas = c.args.formulas.now in
    each_done (entry_text c.args.names.now) (entries_from 0 facts formulas) c.facts.place
    (past_entries facts formulas c.requires c.facts.place c.facts-test.false) c.facts.invariant
