-- What is found in the rows of uses, with the rows that defaults add.
use Rattle.std.proofs.Common.{◌≡◌, ◌∙◌, ◌||◌, Bool, cond, true, false, refl, sym, ap, ap₂, List, []}
use Rattle.std.proofs.Common.{◌∷◌, ◌++◌, map, Option, Some, None, codes, true≢false, option_map}
use Rattle.std.specs.List.{find, fold}
use Rattle.std.specs.Prelude.{slice_get}
use Rattle.std.specs.Option.{option_and_then}
use Rattle.std.specs.Str.{bytes_eq}
use Rattle.clap.specs.Walk.{Row, Text, default_rows, first_of, has_row, more_values, one_of}
use Rattle.clap.specs.Walk.{row_text, with_default}
use Rattle.clap.specs.declared.builder.value_parser.Reading.TheVariants as reading
use Rattle.clap.specs.declared.parser.matches.ValueSource.TheVariants.{DefaultValue}
use Rattle.clap.proofs.WalkLemmas.{find-map}
use Rattle.esc_words.specs.declared.setting.Flag.{Flag}
use Rattle.esc_words.specs.declared.setting.Flag.TheVariants.{Log, Model}
use Rattle.esc_words.specs.declared.setting.Setting.{Setting}
use Rattle.esc_words.specs.declared.setting.Setting.TheVariants.{Depth, Rounds, Facts, Splits}
use Rattle.esc_words.specs.declared.setting.Setting.TheVariants.{Pivots}
use Rattle.esc_words.specs.CommandInside.{settings}
use Rattle.esc_words.specs.Uses.{Use, Raised, Set, flag_name, is_raised, name_of, setting_name}
use Rattle.esc_words.specs.Uses.{value_in, value_of}
use Rattle.esc_words.proofs.BuiltCommand.{arguments, flag_built, setting_built, with_defaults}
use Rattle.esc_words.proofs.Rows.{at_row-missing, row_for, rows_for}

-- ---- names

pub flag≢setting : (f : Flag) (x : Setting) → bytes_eq (flag_name f) (setting_name x) ≡ false
flag≢setting Log Depth = refl
flag≢setting Log Rounds = refl
flag≢setting Log Facts = refl
flag≢setting Log Splits = refl
flag≢setting Log Pivots = refl
flag≢setting Model Depth = refl
flag≢setting Model Rounds = refl
flag≢setting Model Facts = refl
flag≢setting Model Splits = refl
flag≢setting Model Pivots = refl

setting≢flag : (x : Setting) (f : Flag) → bytes_eq (setting_name x) (flag_name f) ≡ false
setting≢flag Depth Log = refl
setting≢flag Depth Model = refl
setting≢flag Rounds Log = refl
setting≢flag Rounds Model = refl
setting≢flag Facts Log = refl
setting≢flag Facts Model = refl
setting≢flag Splits Log = refl
setting≢flag Splits Model = refl
setting≢flag Pivots Log = refl
setting≢flag Pivots Model = refl

-- ---- rows at the end

abbrev row_at : Text → List Row → Option Row
row_at id rows = find (λ r. bytes_eq r.id id) rows

row_at-other : (id : Text) (rows : List Row) (r : Row) → bytes_eq r.id id ≡ false
    → row_at id (rows ++ r ∷ []) ≡ row_at id rows
row_at-other id [] r other = ap (λ b. cond b (Some r) None) other
row_at-other id (q ∷ rows) r other =
    ap (cond (bytes_eq q.id id) (Some q)) (row_at-other id rows r other)

has_row-other : (id : Text) (rows : List Row) (r : Row) → bytes_eq r.id id ≡ false
    → has_row id (rows ++ r ∷ []) ≡ has_row id rows
has_row-other id [] r other = ap (λ b. b || false) other
has_row-other id (q ∷ rows) r other =
    ap (λ b. bytes_eq q.id id || b) (has_row-other id rows r other)

row_at-new : (id : Text) (rows : List Row) (r : Row) → has_row id rows ≡ false
    → bytes_eq r.id id ≡ true → row_at id (rows ++ r ∷ []) ≡ Some r
row_at-new id [] r new same = ap (λ b. cond b (Some r) None) same
row_at-new id (q ∷ rows) r new same =
    go (bytes_eq q.id id) new (λ e. row_at-new id rows r e same)
  where
    go : (b : Bool) → (b || has_row id rows) ≡ false
        → (has_row id rows ≡ false → row_at id (rows ++ r ∷ []) ≡ Some r)
        → cond b (Some q) (row_at id (rows ++ r ∷ [])) ≡ Some r
    go true e behind = absurd (true≢false e)
    go false e behind = behind e

-- ---- defaults

abbrev default_row : Flag → Row
default_row f = record {
  id = flag_name f;
  values = codes "false" ∷ [];
  count = None;
  source = Some DefaultValue;
  reading = reading.AsWritten;
}

with_default-setting : (rows : List Row) (x : Setting) → with_default rows (setting_built x) ≡ rows
with_default-setting rows x = go (has_row (setting_name x) rows)
  where
    go : (b : Bool) → cond b rows rows ≡ rows
    go true = refl
    go false = refl

with_default-flag : (rows : List Row) (f : Flag) → with_default rows (flag_built f)
    ≡ cond (has_row (flag_name f) rows) rows (rows ++ default_row f ∷ [])
with_default-flag rows f = go (has_row (flag_name f) rows) refl
  where
    go : (b : Bool) → has_row (flag_name f) rows ≡ b
        → cond b rows (default_rows (flag_name f) reading.AsWritten (codes "false" ∷ []) rows)
        ≡ cond b rows (rows ++ default_row f ∷ [])
    go true e = refl
    go false e = at_row-missing (flag_name f) (more_values DefaultValue (codes "false" ∷ []))
        (default_row f ∷ []) rows e

settings_add_none : (xs : List Setting) (rows : List Row)
    → fold with_default rows (map setting_built xs) ≡ rows
settings_add_none [] rows = refl
settings_add_none (x ∷ xs) rows =
    ap (λ qs. fold with_default qs (map setting_built xs)) (with_default-setting rows x)
    ∙ settings_add_none xs rows

with_flags : (rows : List Row)
    → with_defaults rows ≡ with_default (with_default rows (flag_built Log)) (flag_built Model)
unfolding arguments
with_flags rows = settings_add_none settings _

-- another option is found as before
row_at-default : (id : Text) (rows : List Row) (f : Flag) → bytes_eq (flag_name f) id ≡ false
    → row_at id (with_default rows (flag_built f)) ≡ row_at id rows
row_at-default id rows f other =
    ap (row_at id) (with_default-flag rows f) ∙ go (has_row (flag_name f) rows)
  where
    go : (b : Bool) → row_at id (cond b rows (rows ++ default_row f ∷ [])) ≡ row_at id rows
    go true = refl
    go false = row_at-other id rows (default_row f) other

has_row-default : (id : Text) (rows : List Row) (f : Flag) → bytes_eq (flag_name f) id ≡ false
    → has_row id (with_default rows (flag_built f)) ≡ has_row id rows
has_row-default id rows f other =
    ap (has_row id) (with_default-flag rows f) ∙ go (has_row (flag_name f) rows)
  where
    go : (b : Bool) → has_row id (cond b rows (rows ++ default_row f ∷ [])) ≡ has_row id rows
    go true = refl
    go false = has_row-other id rows (default_row f) other

-- the flag itself
abbrev pub flag_in : Flag → List Row → Option Text
flag_in f rows =
    cond (has_row (flag_name f) rows) (one_of (flag_name f) rows) (Some (codes "false"))

one_of-default : (rows : List Row) (f : Flag) → bytes_eq (flag_name f) (flag_name f) ≡ true
    → one_of (flag_name f) (with_default rows (flag_built f)) ≡ flag_in f rows
one_of-default rows f same =
    ap (one_of (flag_name f)) (with_default-flag rows f) ∙ go (has_row (flag_name f) rows) refl
  where
    go : (b : Bool) → has_row (flag_name f) rows ≡ b
        → one_of (flag_name f) (cond b rows (rows ++ default_row f ∷ []))
        ≡ cond b (one_of (flag_name f) rows) (Some (codes "false"))
    go true e = refl
    go false e =
        ap (option_and_then row_text) (row_at-new (flag_name f) rows (default_row f) e same)

-- ---- options behind all defaults

pub first_of-defaults : (x : Setting) (rows : List Row)
    → first_of (setting_name x) (with_defaults rows) ≡ first_of (setting_name x) rows
first_of-defaults x rows = ap (option_and_then (λ r. slice_get r.values 0))
    (ap (row_at (setting_name x)) (with_flags rows)
    ∙ row_at-default (setting_name x) (with_default rows (flag_built Log)) Model
    (flag≢setting Model x)
    ∙ row_at-default (setting_name x) rows Log (flag≢setting Log x))

pub one_of-defaults : (f : Flag) (rows : List Row)
    → one_of (flag_name f) (with_defaults rows) ≡ flag_in f rows
one_of-defaults Log rows =
    ap (one_of (flag_name Log)) (with_flags rows)
    ∙ ap (option_and_then row_text) (row_at-default (flag_name Log)
    (with_default rows (flag_built Log)) Model refl)
    ∙ one_of-default rows Log refl
one_of-defaults Model rows =
    ap (one_of (flag_name Model)) (with_flags rows)
    ∙ one_of-default (with_default rows (flag_built Log)) Model refl
    ∙ ap₂ (λ b o. cond b (option_and_then row_text o) (Some (codes "false")))
    (has_row-default (flag_name Model) rows Log refl)
    (row_at-default (flag_name Model) rows Log refl)

-- ---- uses

abbrev pub use_at : Text → List Use → Option Use
use_at name uses = find (λ u. bytes_eq (name_of u) name) uses

row_at-uses : (id : Text) (uses : List Use)
    → row_at id (rows_for uses) ≡ option_map row_for (use_at id uses)
row_at-uses id uses = sym (find-map (λ r. bytes_eq r.id id) row_for uses)

-- the value of a setting
pub first_of-uses : (x : Setting) (uses : List Use)
    → first_of (setting_name x) (rows_for uses) ≡ value_in x uses
first_of-uses x [] = refl
first_of-uses x (u ∷ us) = go u (first_of-uses x us)
  where
    go : (v : Use) → first_of (setting_name x) (rows_for us) ≡ value_in x us
        → first_of (setting_name x) (rows_for (v ∷ us)) ≡ value_in x (v ∷ us)
    go (Raised f) behind =
        ap (λ b. option_and_then (λ r. slice_get r.values 0)
        (cond b (Some (row_for (Raised f))) (row_at (setting_name x) (rows_for us))))
        (flag≢setting f x) ∙ behind
        ∙ sym (ap (λ b. option_and_then value_of
        (cond b (Some (Raised f)) (use_at (setting_name x) us))) (flag≢setting f x))
    go (Set y v) behind = at (bytes_eq (setting_name y) (setting_name x))
      where
        at : (b : Bool) → option_and_then (λ r. slice_get r.values 0)
            (cond b (Some (row_for (Set y v))) (row_at (setting_name x) (rows_for us)))
            ≡ option_and_then value_of (cond b (Some (Set y v)) (use_at (setting_name x) us))
        at true = refl
        at false = behind

abbrev pub flag_text : Bool → Text
flag_text b = cond b (codes "true") (codes "false")

-- whether a flag is raised
pub flag_in-uses : (f : Flag) (uses : List Use)
    → flag_in f (rows_for uses) ≡ Some (flag_text (is_raised f uses))
flag_in-uses f [] = refl
flag_in-uses f (u ∷ us) = go u (flag_in-uses f us)
  where
    go : (v : Use) → flag_in f (rows_for us) ≡ Some (flag_text (is_raised f us))
        → flag_in f (rows_for (v ∷ us)) ≡ Some (flag_text (is_raised f (v ∷ us)))
    go (Raised g) behind = at (bytes_eq (flag_name g) (flag_name f))
      where
        at : (b : Bool) → cond (b || has_row (flag_name f) (rows_for us)) (option_and_then row_text
            (cond b (Some (row_for (Raised g))) (row_at (flag_name f) (rows_for us))))
            (Some (codes "false")) ≡ Some (flag_text (b || is_raised f us))
        at true = refl
        at false = behind
    go (Set y v) behind =
        ap (λ b. cond (b || has_row (flag_name f) (rows_for us)) (option_and_then row_text
        (cond b (Some (row_for (Set y v))) (row_at (flag_name f) (rows_for us))))
        (Some (codes "false"))) (setting≢flag y f) ∙ behind
        ∙ sym (ap (λ b. Some (flag_text (b || is_raised f us))) (setting≢flag y f))
