-- The command as the parser builds it: what is found among its arguments, and what is left of its
-- faults and its matches.
use Rattle.std.proofs.Common.{◌≡◌, ◌∙◌, ◌⊎◌, ◌||◌, ◌&&◌, ℕ, Bool, cond, true, false, not, refl, sym}
use Rattle.std.proofs.Common.{ap, inl, inr, List, [], ◌∷◌, ◌++◌, map, drop, Some, None}
use Rattle.std.specs.List.{find, fold}
use Rattle.std.specs.Prelude.{is_some}
use Rattle.std.specs.Str.{bytes_eq}
use Rattle.std.proofs.lemmas.Slice.Eq.{bytes_eq-Decides}
use Rattle.clap.specs.Faults.{check_fault, default_fault, defaults_fault, fault_of, level_fault}
use Rattle.clap.specs.Faults.{settle_fault}
use Rattle.clap.specs.Kinds.{or_else}
use Rattle.clap.specs.Simple.{Shape, built, filled, matches_of}
use Rattle.clap.specs.Walk.{Row, Rule, Text, arg_by_id, arg_by_index, arg_by_long, arg_by_short}
use Rattle.clap.specs.Walk.{finished, has_long, has_row, nothing_held, settled, walk, with_default}
use Rattle.clap.proofs.FaultLemmas.{leaf_fault}
use Rattle.esc_words.specs.declared.setting.Flag.{Flag}
use Rattle.esc_words.specs.declared.setting.Flag.TheVariants.{Log, Model}
use Rattle.esc_words.specs.declared.setting.Setting.{Setting}
use Rattle.esc_words.specs.declared.setting.Setting.TheVariants.{Depth, Rounds, Facts, Splits}
use Rattle.esc_words.specs.declared.setting.Setting.TheVariants.{Pivots}
use Rattle.esc_words.specs.CommandInside.{command, flag_rule, flags, setting_rule, settings}
use Rattle.esc_words.specs.Uses.{Use, Raised, Set, flag_name, name_of, setting_name}
use Rattle.esc_words.proofs.Rows.{or_else-nil, rule_for}
use Rattle.esc_words.proofs.Steps.{held_after, walk_kinds}
use Rattle.esc_words.proofs.Turns.{IsCommand, shape}
use Rattle.esc_words.proofs.Walks.{free_after}

abbrev pub flag_built : Flag → Rule
flag_built f = filled (flag_rule (flag_name f))

abbrev pub setting_built : Setting → Rule
setting_built x = filled (setting_rule (setting_name x))

unfoldable pub arguments : List Rule
arguments = map flag_built flags ++ map setting_built settings

-- ---- what is found among them

flag_at : (f : Flag) → arg_by_long arguments (flag_name f) ≡ Some (flag_built f)
unfolding arguments
flag_at Log = refl
flag_at Model = refl

setting_at : (x : Setting) → arg_by_long arguments (setting_name x) ≡ Some (setting_built x)
unfolding arguments
setting_at Depth = refl
setting_at Rounds = refl
setting_at Facts = refl
setting_at Splits = refl
setting_at Pivots = refl

option_at : (one : Use) → arg_by_long arguments (name_of one) ≡ Some (rule_for one)
option_at (Raised f) = flag_at f
option_at (Set x v) = setting_at x

id_at : (x : Setting) → arg_by_id arguments (setting_name x) ≡ Some (setting_built x)
unfolding arguments
id_at Depth = refl
id_at Rounds = refl
id_at Facts = refl
id_at Splits = refl
id_at Pivots = refl

abbrev is_named : Text → Rule → Bool
is_named name a = not (is_some a.index) && has_long a name

abbrev IsOption : Text → Type 0
IsOption name = ((f : Flag) × (name ≡ flag_name f)) ⊎ ((x : Setting) × (name ≡ setting_name x))

no_rule : (r : Rule) → None ≡ Some r → ⊥
no_rule r e = cc

setting_found : (name : Text) (r : Rule) (xs : List Setting)
    → find (is_named name) (map setting_built xs) ≡ Some r → IsOption name
setting_found name r [] e = absurd (no_rule r e)
setting_found name r (x ∷ xs) e =
    go (bytes_eq (setting_name x) name) refl e (setting_found name r xs)
  where
    go : (b : Bool) → bytes_eq (setting_name x) name ≡ b
        → cond (b || false) (Some (setting_built x)) (find (is_named name) (map setting_built xs))
        ≡ Some r
        → (find (is_named name) (map setting_built xs) ≡ Some r → IsOption name) → IsOption name
    go true is h behind = inr (x, sym ((bytes_eq-Decides (setting_name x) name).0 is))
    go false is h behind = behind h

option_found : (name : Text) (r : Rule) (fs : List Flag)
    → find (is_named name) (map flag_built fs ++ map setting_built settings) ≡ Some r
    → IsOption name
option_found name r [] e = setting_found name r settings e
option_found name r (f ∷ fs) e = go (bytes_eq (flag_name f) name) refl e (option_found name r fs)
  where
    go : (b : Bool) → bytes_eq (flag_name f) name ≡ b
        → cond (b || false) (Some (flag_built f))
        (find (is_named name) (map flag_built fs ++ map setting_built settings)) ≡ Some r
        → (find (is_named name) (map flag_built fs ++ map setting_built settings) ≡ Some r
        → IsOption name) → IsOption name
    go true is h behind = inl (f, sym ((bytes_eq-Decides (flag_name f) name).0 is))
    go false is h behind = behind h

named : (name : Text) (r : Rule) → arg_by_long arguments name ≡ Some r → IsOption name
unfolding arguments
named name r e = option_found name r flags e

short_none : (x : ℕ) → arg_by_short arguments x ≡ None
unfolding arguments
short_none x = refl

place_none : (i : ℕ) → arg_by_index arguments i ≡ None
unfolding arguments
place_none i = refl

pub is_command : IsCommand arguments
is_command = record {
  by_long = option_at;
  by_id = λ x v. id_at x;
  named = named;
  no_short = short_none;
  no_place = place_none;
}

-- ---- faults behind the walk

setting_default : (rows : List Row) (x : Setting) → default_fault rows (setting_built x) ≡ []
setting_default rows x = go (has_row (setting_name x) rows)
  where
    go : (b : Bool) → cond (b || true) [] (or_else [] []) ≡ []
    go true = refl
    go false = refl

flag_default : (rows : List Row) (f : Flag) → default_fault rows (flag_built f) ≡ []
flag_default rows f = go (has_row (flag_name f) rows)
  where
    go : (b : Bool) → cond (b || false) [] (or_else [] []) ≡ []
    go true = refl
    go false = refl

settings_default : (xs : List Setting) (rows : List Row)
    → defaults_fault rows (map setting_built xs) ≡ []
unfolding defaults_fault
settings_default [] rows = refl
settings_default (x ∷ xs) rows =
    ap (λ ks. or_else ks (defaults_fault (with_default rows (setting_built x))
    (map setting_built xs))) (setting_default rows x)
    ∙ settings_default xs (with_default rows (setting_built x))

options_default : (fs : List Flag) (xs : List Setting) (rows : List Row)
    → defaults_fault rows (map flag_built fs ++ map setting_built xs) ≡ []
unfolding defaults_fault
options_default [] xs rows = settings_default xs rows
options_default (f ∷ fs) xs rows =
    ap (λ ks. or_else ks (defaults_fault (with_default rows (flag_built f))
    (map flag_built fs ++ map setting_built xs))) (flag_default rows f)
    ∙ options_default fs xs (with_default rows (flag_built f))

no_default_fault : (rows : List Row) → defaults_fault rows arguments ≡ []
unfolding arguments
no_default_fault rows = options_default flags settings rows

no_check_fault : (rows : List Row) → check_fault (shape arguments) rows false ≡ []
unfolding arguments
no_check_fault rows = refl

-- ---- the whole parse

top_is : (built command).top ≡ shape arguments
unfolding arguments
top_is = refl

level_is : (words : List Text)
    → level_fault (shape arguments) [] nothing_held words false []
    ≡ or_else (walk_kinds arguments (free_after [] None) words)
    (settle_fault arguments false (held_after arguments (free_after [] None) words))
level_is words =
    let held = held_after arguments (free_after [] None) words in
    let walks = walk_kinds arguments (free_after [] None) words in
    let settles = settle_fault arguments false held in
    ap (λ ks. or_else walks (or_else settles (or_else ks
    (check_fault (shape arguments) (finished arguments held) false))))
    (no_default_fault (settled arguments held).rows)
    ∙ ap (λ ks. or_else walks (or_else settles ks)) (no_check_fault (finished arguments held))
    ∙ ap (or_else walks) (or_else-nil settles)

-- only the walk and what it left pending can be refused
pub fault_of-command : (words : List Text)
    → fault_of command words
    ≡ or_else (walk_kinds arguments (free_after [] None) (drop 1 words))
    (settle_fault arguments false (held_after arguments (free_after [] None) (drop 1 words)))
fault_of-command words =
    leaf_fault (built command) nothing_held (drop 1 words) refl
    ∙ ap (λ s. level_fault s [] nothing_held (drop 1 words) false []) top_is
    ∙ level_is (drop 1 words)

abbrev pub with_defaults : List Row → List Row
with_defaults rows = fold with_default rows arguments

pub matches_of-command : (words : List Text)
    → matches_of command words
    ≡ with_defaults
    (settled arguments (held_after arguments (free_after [] None) (drop 1 words))).rows
matches_of-command words =
    ap (λ (s : Shape). finished s.rules (walk s.rules [] nothing_held (drop 1 words)).held) top_is
