-- What uses leave in the rows of a parse, and when one more is refused.
use Rattle.std.proofs.Common.{◌≡◌, ◌∙◌, ◌||◌, ◌&&◌, Bool, cond, true, false, refl, sym, ap, List}
use Rattle.std.proofs.Common.{[], ◌∷◌, ◌++◌, map, Some, None, true≢false, append-nil, codes}
use Rattle.std.specs.Str.{bytes_eq}
use Rattle.clap.specs.Kinds.{Kinds, or_else}
use Rattle.clap.specs.Walk.{Row, Rule, Text, at_row, has_row, more_values, used, with_values}
use Rattle.clap.specs.Walk.{without}
use Rattle.clap.specs.Faults.{repeat_fault, use_fault}
use Rattle.clap.specs.Simple.{filled}
use Rattle.clap.specs.declared.builder.value_parser.Reading.TheVariants as reading
use Rattle.clap.specs.declared.error.kind.ErrorKind.TheVariants as kind
use Rattle.clap.specs.declared.parser.matches.ValueSource.TheVariants.{CommandLine}
use Rattle.esc_words.specs.Uses.{Use, Raised, Set, flag_name, name_of, setting_name}
use Rattle.esc_words.specs.CommandInside.{flag_rule, setting_rule}

-- the argument of a use, as it is built
abbrev pub rule_for : Use → Rule
rule_for (Raised flag) = filled (flag_rule (flag_name flag))
rule_for (Set setting value) = filled (setting_rule (setting_name setting))

-- the values that stand in the words
abbrev pub given : Use → List Text
given (Raised flag) = []
given (Set setting value) = value ∷ []

abbrev pub found_value : Use → Text
found_value (Raised flag) = codes "true"
found_value (Set setting value) = value

abbrev pub row_for : Use → Row
row_for one = record {
  id = name_of one;
  values = found_value one ∷ [];
  count = None;
  source = Some CommandLine;
  reading = reading.AsWritten;
}

abbrev pub rows_for : List Use → List Row
rows_for = map row_for

-- ---- rows without the name

pub at_row-missing : (id : Text) (change : Row → List Row) (missing rows : List Row)
    → has_row id rows ≡ false → at_row id change missing rows ≡ rows ++ missing
at_row-missing id change missing [] none = refl
at_row-missing id change missing (r ∷ rs) none =
    go (bytes_eq r.id id) none (at_row-missing id change missing rs)
  where
    go : (b : Bool) → (b || has_row id rs) ≡ false
        → (has_row id rs ≡ false → at_row id change missing rs ≡ rs ++ missing)
        → cond b (change r ++ rs) (r ∷ at_row id change missing rs) ≡ r ∷ (rs ++ missing)
    go true e behind = absurd (true≢false e)
    go false e behind = ap (λ xs. r ∷ xs) (behind e)

without-missing : (id : Text) (rows : List Row) → has_row id rows ≡ false → without id rows ≡ rows
without-missing id rows none = at_row-missing id (λ _. []) [] rows none ∙ append-nil rows

with_values-new : (id : Text) (values : List Text) (rows : List Row) → has_row id rows ≡ false
    → with_values id reading.AsWritten CommandLine values (without id rows)
    ≡ rows ++ (record {
      id = id;
      values = values;
      count = None;
      source = Some CommandLine;
      reading = reading.AsWritten;
    } ∷ [])
with_values-new id values rows none =
    ap (with_values id reading.AsWritten CommandLine values) (without-missing id rows none)
    ∙ at_row-missing id (more_values CommandLine values) _ rows none

-- a use of a new name adds its row
pub used-new : (one : Use) (rows : List Row) → has_row (name_of one) rows ≡ false
    → used (rule_for one) (given one) rows ≡ rows ++ row_for one ∷ []
used-new (Raised flag) rows none = with_values-new (flag_name flag) (codes "true" ∷ []) rows none
used-new (Set setting value) rows none =
    with_values-new (setting_name setting) (value ∷ []) rows none

-- ---- refusals

pub or_else-nil : (ks : Kinds) → or_else ks [] ≡ ks
or_else-nil [] = refl
or_else-nil (k ∷ ks) = refl

pub or_else-parts : (first next : Kinds) → or_else first next ≡ [] → (first ≡ []) × (next ≡ [])
or_else-parts [] next none = (refl, none)
or_else-parts (k ∷ ks) next none = absurd (nonempty k ks none)
  where
    nonempty : (k : Rattle.clap.specs.declared.error.kind.ErrorKind.ErrorKind) (ks : Kinds)
        → k ∷ ks ≡ [] → ⊥
    nonempty k ks e = cc

-- a use is refused just where its name stands there
pub use_fault-repeat : (one : Use) (rows : List Row)
    → use_fault false (rule_for one) (given one) rows ≡ repeat_fault false (name_of one) rows
use_fault-repeat (Raised flag) rows = or_else-nil (repeat_fault false (flag_name flag) rows)
use_fault-repeat (Set setting value) rows =
    or_else-nil (repeat_fault false (setting_name setting) rows)

pub repeat_fault-new : (id : Text) (rows : List Row) → has_row id rows ≡ false
    → repeat_fault false id rows ≡ []
repeat_fault-new id rows none = ap (λ b. cond (b && true) (kind.ArgumentConflict ∷ []) []) none

pub new_by-repeat_fault : (id : Text) (rows : List Row) → repeat_fault false id rows ≡ []
    → has_row id rows ≡ false
new_by-repeat_fault id rows none = go (has_row id rows) none
  where
    go : (b : Bool) → cond (b && true) (kind.ArgumentConflict ∷ []) [] ≡ [] → b ≡ false
    go true e = cc
    go false e = refl

pub use_fault-new : (one : Use) (rows : List Row) → has_row (name_of one) rows ≡ false
    → use_fault false (rule_for one) (given one) rows ≡ []
use_fault-new one rows none = use_fault-repeat one rows ∙ repeat_fault-new (name_of one) rows none

pub new_by-use_fault : (one : Use) (rows : List Row)
    → use_fault false (rule_for one) (given one) rows ≡ [] → has_row (name_of one) rows ≡ false
new_by-use_fault one rows none =
    new_by-repeat_fault (name_of one) rows (sym (use_fault-repeat one rows) ∙ none)
