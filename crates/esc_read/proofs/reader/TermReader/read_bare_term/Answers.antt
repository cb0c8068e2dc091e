use Rattle.std.proofs.Common.{rules, sym}
use Rattle.esc_read.specs.Terms.{bare_term}
use Rattle.esc_read.proofs.Readings.{plain, refused}
use Rattle.esc_read.proofs.reader.TermReader.read_bare_term.Goals as goal

pub returns-in-Numeral : goal.returns-in-Numeral
unfolding bare_term
returns-in-Numeral c = rw (sym c.bare_token.ensures, c.in-Numeral.is) (plain c.read_numeral.ensures)

pub returns-in-Name : goal.returns-in-Name
unfolding bare_term
returns-in-Name c = rw (sym c.bare_token.ensures, c.in-Name.is) c.read_name_term.ensures

pub returns-in-Word : goal.returns-in-Word
unfolding bare_term
returns-in-Word c = rw (sym c.bare_token.ensures, c.in-Word.is) (refused c.refusal.ensures)

pub returns-in-List : goal.returns-in-List
unfolding bare_term
returns-in-List c = rw (sym c.bare_token.ensures, c.in-List.is) (refused (search rules))
