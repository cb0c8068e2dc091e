use Rattle.std.proofs.Common.{◌∙◌, ap}
use Rattle.esc_form.specs.Forms.{is_multi}
use Rattle.esc_form.proofs.PatternLemmas.{multi_pattern, one_pattern}
use Rattle.esc_form.proofs.reader.FormReader.read_pattern.Goals as goal

pub returns-then-not-is_multi : goal.returns-then-not-is_multi
returns-then-not-is_multi c =
    rw (one_pattern c.args.sexp.now (c.if-not-is_multi.ensures ∙ ap is_multi c.head_of.ensures))
    c.read_one.ensures

pub returns : goal.returns
returns c =
    rw (multi_pattern c.args.sexp.now (c.if-not-is_multi.ensures ∙ ap is_multi c.head_of.ensures))
    (rw (c.place_of.ensures, c.args_of.ensures) at c.read_several.ensures)
