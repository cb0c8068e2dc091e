use Rattle.std.proofs.Common.{◌≡◌, map, sym, subst, Some}
use Rattle.std.specs.Prelude.{slice_get}
use Rattle.esc_names.specs.Numbering.{IsNumbered}
use Rattle.esc_names.proofs.NumberingLemmas.{added_row, distinct_keys, found_row, kept_rows, row_at}
use Rattle.esc_names.proofs.names.Names.number.Goals as goal

pub returns-in-Some-clause-named : goal.returns-in-Some-clause-named
returns-in-Some-clause-named c =
    subst (λ rows. slice_get rows c.in-Some.place ≡ Some c.args.spelling.now) c.self.view_is
    (found_row (λ key. key.items) c.self.inside.spellings.keys c.in-Some.place c.args.spelling.now
    (sym c.in-Some.ensures.index))

pub returns-in-Some-clause-grown : goal.returns-in-Some-clause-grown
returns-in-Some-clause-grown c =
    subst (λ rows. IsNumbered rows c.args.spelling.now rows) c.self.view_is
    (kept_rows (λ key. key.items) c.self.inside.spellings.keys c.in-Some.place c.args.spelling.now
    (found_row (λ key. key.items) c.self.inside.spellings.keys c.in-Some.place c.args.spelling.now
    (sym c.in-Some.ensures.index)))

pub invariant_of-self-in-None : goal.invariant_of-self-in-None
invariant_of-self-in-None c =
    distinct_keys
    (λ key. key.items) c.insert_full.new.self.keys c.in_ok-place-in-None.ensures.unique

pub returns-in_ok-place-in-None-clause-named : goal.returns-in_ok-place-in-None-clause-named
returns-in_ok-place-in-None-clause-named c =
    let stored = c.in_ok-place-in-None.ensures.stored in
    subst
    (λ name. slice_get
    (map (λ key. key.items) c.insert_full.new.self.keys) c.in_ok-place-in-None.place
    ≡ Some name) c.in_ok-key-in-None.ensures.items
    (row_at
    (λ key. key.items) c.insert_full.new.self.keys c.in_ok-place-in-None.place stored.0
    c.in_ok-key-in-None.key.items stored.1 stored.2)

pub returns-in_ok-place-in-None-clause-grown : goal.returns-in_ok-place-in-None-clause-grown
returns-in_ok-place-in-None-clause-grown c =
    subst
    (λ rows. IsNumbered rows c.args.spelling.now
    (map (λ key. key.items) c.insert_full.new.self.keys)) c.self.view_is
    (added_row
    (λ key. key.items) c.self.inside.spellings.keys c.insert_full.new.self.keys
    c.in_ok-key-in-None.key c.args.spelling.now
    (sym c.in-None.ensures.found) c.in_ok-key-in-None.ensures.items
    c.in_ok-place-in-None.ensures.keys)

pub returns-in_ok-place-in-None-clause-distinct : goal.returns-in_ok-place-in-None-clause-distinct
returns-in_ok-place-in-None-clause-distinct c =
    distinct_keys
    (λ key. key.items) c.insert_full.new.self.keys c.in_ok-place-in-None.ensures.unique
