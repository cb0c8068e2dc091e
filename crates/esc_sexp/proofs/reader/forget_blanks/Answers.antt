use Rattle.std.proofs.Common.{refl, sym, ap, ◌∙◌}
use Rattle.esc_sexp.specs.ParseInside.{standing, token_of}
use Rattle.esc_sexp.proofs.Opens.{token_of-comment}
use Rattle.esc_sexp.proofs.HasRead.{enough_begun, enough_comment, enough_blank}
use Rattle.esc_sexp.proofs.reader.forget_blanks.Goals as goal

pub overflow_sub-result : goal.overflow_sub-result
overflow_sub-result c = (enough_begun (standing
    c.args.parse.now) c.args.place c.args.bytes.now c.requires
    (sym c.has_begun.ensures ∙ c.if-has_begun.true)).1

pub returns-then-has_begun : goal.returns-then-has_begun
returns-then-has_begun c = (enough_begun
    (standing c.args.parse.now) c.args.place c.args.bytes.now c.requires
    (sym c.has_begun.ensures ∙ c.if-has_begun.true)).0

pub returns-in_default : goal.returns-in_default
returns-in_default c = enough_blank (standing c.args.parse.now) c.args.place c.args.bytes.now _
    (sym c.has_begun.ensures ∙ c.if-has_begun.false)
    (λ e. c.in_default.not-Comment (token_of-comment c.args.parse.now.token e)) refl

pub returns : goal.returns
returns c = enough_comment (standing c.args.parse.now) c.args.place c.args.bytes.now _ c.requires
    (sym c.has_begun.ensures ∙ c.if-has_begun.false) (ap token_of c.in-Comment.is) refl
