use Rattle.esc_read.proofs.Readings.{refused}
use Rattle.esc_form.proofs.PatternLemmas.{several_none, several_some}
use Rattle.esc_form.proofs.reader.FormReader.read_several.Goals as goal

pub returns-then-args-eq0 : goal.returns-then-args-eq0
returns-then-args-eq0 c =
    rw (several_none c.args.place c.args.args.now c.if-args-eq0.true) (refused c.refusal.ensures)

pub returns : goal.returns
returns c = rw (several_some c.args.place c.args.args.now c.if-args-eq0.false) c.read_terms.ensures
