use Rattle.esc_search.proofs.search.Search.stuck.Goals as goal

pub items-requires-clause-book : goal.items-requires-clause-book
items-requires-clause-book c = c.requires.stopped.book

pub items-requires-clause-occur : goal.items-requires-clause-occur
items-requires-clause-occur c = c.requires.stopped.occur

pub items-requires-clause-forms : goal.items-requires-clause-forms
items-requires-clause-forms c = c.requires.stopped.stopped.jam.literals.forms

pub stuck_of-requires-clause-numbers : goal.stuck_of-requires-clause-numbers
stuck_of-requires-clause-numbers c = c.requires.stopped.stopped.underway.numbers

pub stuck_of-requires-clause-told : goal.stuck_of-requires-clause-told
stuck_of-requires-clause-told c = c.requires.stopped.stopped.underway.told
