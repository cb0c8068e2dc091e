use Rattle.esc_read.proofs.Readings.{Plain-give}
use Rattle.esc_form.proofs.CommandLemmas.{alone_no, alone_yes, refused_plain}
use Rattle.esc_form.proofs.read.read_alone.Goals as goal

pub returns-then-parts-ne0 : goal.returns-then-parts-ne0
returns-then-parts-ne0 c =
    rw (alone_no c.args.kind c.args.place c.args.parts.now c.if-parts-ne0.true)
    (refused_plain c.refusal.ensures)

pub returns : goal.returns
returns c =
    rw (alone_yes c.args.kind c.args.place c.args.parts.now c.if-parts-ne0.false)
    (Plain-give c.args.kind)
