use Rattle.std.proofs.Common.{◌≡◌, ◌<◌, ◌≤◌, ◌∙◌, length, get_or, subst, arith, Some, None}
use Rattle.std.proofs.lemmas.Bool.Decides.{nat_tests}
use Rattle.esc_names.proofs.KeyLemmas.{key_at, says_its_key, says_nothing}
use Rattle.esc_names.proofs.RowLemmas.{key_at-past, key_at-within}
use Rattle.esc_names.proofs.words.Fixed.key.Goals as goal

pub returns-in_err-word : goal.returns-in_err-word
returns-in_err-word g c =
    c.from_residual.ensures
    ∙ says_nothing c.args.self.now c.args.spelling.now (rw c.in_err-word.was at c.word.ensures)

pub returns-in-Some : goal.returns-in-Some
returns-in-Some g c =
    let within : c.in_ok-word.word.0 < length c.self.inside.rows =
    grind (arith, nat_tests, c.in-Some.ensures.lookup.0) in
    let is : c.in-Some.row.now ≡ get_or c.self.inside.rows c.in_ok-word.word.0 c.in-Some.row.now =
    c.in-Some.ensures.lookup.1 in
    subst (λ rows. Some c.in-Some.row.now.key ≡ key_at rows c.in_ok-word.word.0) c.self.view_is
    (key_at-within c.self.inside.rows c.in_ok-word.word.0 c.in-Some.row.now within is)
    ∙ says_its_key c.args.self.now c.args.spelling.now c.in_ok-word.word
    (rw c.in_ok-word.was at c.word.ensures)

pub returns-in-None : goal.returns-in-None
returns-in-None g c =
    let past : length c.self.inside.rows ≤ c.in_ok-word.word.0 =
    grind (arith, nat_tests, c.in-None.ensures.lookup.0) in
    subst (λ rows. None ≡ key_at rows c.in_ok-word.word.0) c.self.view_is
    (key_at-past c.self.inside.rows c.in_ok-word.word.0 past)
    ∙ says_its_key c.args.self.now c.args.spelling.now c.in_ok-word.word
    (rw c.in_ok-word.was at c.word.ensures)
