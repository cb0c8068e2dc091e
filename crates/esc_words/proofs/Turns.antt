-- What one word makes of a walk over the words, by what it looks like.
use Rattle.std.proofs.Common.{◌≡◌, ◌∙◌, ◌⊎◌, ℕ, cond, true, false, refl, sym, ap, ap₂, List, []}
use Rattle.std.proofs.Common.{◌∷◌, length, drop, Option, Some, None, codes}
use Rattle.std.specs.Prelude.{encode_utf8, slice_get}
use Rattle.std.specs.Option.{option_map_or}
use Rattle.std.specs.Str.{bytes_eq, chars}
use Rattle.clap.specs.Faults.{bundle_fault, bundle_step_fault, flag_word_fault, flags_fault}
use Rattle.clap.specs.Faults.{long_fault, other_fault, positional_fault, react_fault, settle_fault}
use Rattle.clap.specs.Faults.{short_fault, step_fault, stray_fault, turn_fault}
use Rattle.clap.specs.Kinds.{Kinds, or_else}
use Rattle.clap.specs.Lexer.{long_of, short_of}
use Rattle.clap.specs.Simple.{Shape, new_shape}
use Rattle.clap.specs.Walk.{Held, Row, Rule, Step, Text, Waiting, Walk, after_flag, after_step}
use Rattle.clap.specs.Walk.{arg_by_id, arg_by_index, arg_by_long, arg_by_short, bundle, bundle_met}
use Rattle.clap.specs.Walk.{bundle_step, idle, long_met, long_or_other, next, option, option_word}
use Rattle.clap.specs.Walk.{plain, plain_word, positional, reacted, settled, short_or_plain}
use Rattle.clap.specs.Walk.{subcommand_met, subcommand_or_other, trailing, walked}
use Rattle.clap.specs.declared.error.kind.ErrorKind.{ErrorKind}
use Rattle.clap.specs.declared.error.kind.ErrorKind.TheVariants as kind
use Rattle.esc_words.specs.declared.setting.Flag.{Flag}
use Rattle.esc_words.specs.declared.setting.Setting.{Setting}
use Rattle.esc_words.specs.declared.setting.Setting.TheVariants.{Depth, Rounds, Facts, Splits}
use Rattle.esc_words.specs.declared.setting.Setting.TheVariants.{Pivots}
use Rattle.esc_words.specs.Uses.{Use, Raised, Set, flag_name, name_of, setting_name, value_of}
use Rattle.esc_words.proofs.Rows.{given, or_else-nil, or_else-parts, rule_for}

-- the command as it is built, but for its arguments
abbrev pub shape : List Rule → Shape
shape rules = record (new_shape (codes "simplify")) {
  rules = rules;
  disable_help_flag = true;
  disable_help_subcommand = true;
  is_built = true;
}

-- what is found among the arguments
pub record IsCommand (rules : List Rule) : Type 0 where
  pub by_long : (one : Use) → arg_by_long rules (name_of one) ≡ Some (rule_for one)
  pub by_id : (x : Setting) (v : Text)
      → arg_by_id rules (setting_name x) ≡ Some (rule_for (Set x v))
  pub named : (name : Text) (r : Rule) → arg_by_long rules name ≡ Some r
      → ((f : Flag) × (name ≡ flag_name f)) ⊎ ((x : Setting) × (name ≡ setting_name x))
  pub no_short : (x : ℕ) → arg_by_short rules x ≡ None
  pub no_place : (i : ℕ) → arg_by_index rules i ≡ None

abbrev pub holds : List Row → Option (Text × List Text) → Held
holds rows pending = record { rows = rows; pending = pending; skip = 0 }

-- before a word that is neither behind two dashes nor behind a subcommand
abbrev pub walk_at : Held → Waiting → Walk
walk_at h waiting = record {
  held = h;
  waiting = waiting;
  position = 1;
  is_trailing = false;
  stopped = None;
}

pub some_kind : (k : ErrorKind) (ks : Kinds) → k ∷ ks ≡ [] → ⊥
some_kind k ks e = cc

no_subcommand : (waiting : Waiting) (word : Text) → subcommand_met [] waiting word ≡ None
no_subcommand idle word = refl
no_subcommand (option id) word = refl
no_subcommand positional word = refl

module _ (rules : List Rule) where
  abbrev pub fault : Held → Waiting → Text → Kinds
  fault h waiting word = turn_fault (shape rules) [] (walk_at h waiting) word

  abbrev pub after : Held → Waiting → Text → Walk
  after h waiting word = walked rules [] (walk_at h waiting) word

  abbrev step_by : Held × Step → Kinds
  step_by met = step_fault (shape rules) 1 met.0 met.1

  -- ---- two dashes

  pub fault-dashes : (h : Held) (waiting : Waiting) → fault h waiting (codes "--") ≡ []
  fault-dashes h waiting =
      ap (λ sub. or_else (other_fault (shape rules) sub (codes "--") h)
      (step_by (subcommand_or_other rules sub waiting 1 (codes "--") h)))
      (no_subcommand waiting (codes "--"))

  pub after-dashes : (h : Held) (waiting : Waiting)
      → after h waiting (codes "--") ≡ record (walk_at h waiting) { is_trailing = true }
  unfolding walked
  after-dashes h waiting =
      ap (λ sub. after_step rules (codes "--") (walk_at h waiting)
      (subcommand_or_other rules sub waiting 1 (codes "--") h).0
      (subcommand_or_other rules sub waiting 1 (codes "--") h).1)
      (no_subcommand waiting (codes "--"))

  -- ---- other words

  module _ (h : Held) (waiting : Waiting) (word : Text) (looks : Option (Text × Option Text))
      (undashed : bytes_eq word (codes "--") ≡ false) (is : long_of word ≡ looks) where
    fault-looks : fault h waiting word
        ≡ or_else (flag_word_fault rules false looks word h)
        (step_by (long_or_other rules waiting word looks h))
    fault-looks =
        ap (λ sub. or_else (other_fault (shape rules) sub word h)
        (step_by (subcommand_or_other rules sub waiting 1 word h))) (no_subcommand waiting word)
        ∙ ap₂ (λ b p. or_else (cond b [] (flag_word_fault rules false p word h))
        (step_by (cond b (h, trailing 1) (long_or_other rules waiting word p h)))) undashed is

    after-looks : after h waiting word
        ≡ after_step rules word (walk_at h waiting) (long_or_other rules waiting word looks h).0
        (long_or_other rules waiting word looks h).1
    unfolding walked
    after-looks =
        ap (λ sub. after_step rules word (walk_at h waiting)
        (subcommand_or_other rules sub waiting 1 word h).0
        (subcommand_or_other rules sub waiting 1 word h).1) (no_subcommand waiting word)
        ∙ ap₂ (λ b p. after_step rules word (walk_at h waiting)
        (cond b (h, trailing 1) (long_or_other rules waiting word p h)).0
        (cond b (h, trailing 1) (long_or_other rules waiting word p h)).1) undashed is

  -- ---- words that begin with two dashes

  abbrev long_kinds : Waiting → Text → Option Rule → Option Text → Held → Kinds
  long_kinds waiting word found v h = or_else (long_fault rules false found v h)
      (step_by (after_flag rules waiting word (long_met rules found v h).0
      (long_met rules found v h).1))

  abbrev long_after : Waiting → Text → Option Rule → Option Text → Held → Walk
  long_after waiting word found v h =
      let met = after_flag rules waiting word (long_met rules found v h).0
      (long_met rules found v h).1 in
      after_step rules word (walk_at h waiting) met.0 met.1

  -- a name that no option has
  pub fault-unknown : (h : Held) (waiting : Waiting) (word name : Text) (v : Option Text)
      → bytes_eq word (codes "--") ≡ false → long_of word ≡ Some (name, v)
      → arg_by_long rules name ≡ None → fault h waiting word ≡ [] → ⊥
  fault-unknown h waiting word name v undashed is none passes =
      some_kind kind.UnknownArgument []
      (sym (fault-looks h waiting word (Some (name, v)) undashed is
      ∙ ap (λ found. long_kinds waiting word found v h) none) ∙ passes)

  module _ (is_command : IsCommand rules) where
    -- a flag with a value
    pub fault-valued : (h : Held) (waiting : Waiting) (word : Text) (f : Flag) (v : Text)
        → bytes_eq word (codes "--") ≡ false → long_of word ≡ Some (flag_name f, Some v)
        → fault h waiting word ≡ [] → ⊥
    fault-valued h waiting word f v undashed is passes =
        some_kind kind.TooManyValues []
        (sym (fault-looks h waiting word (Some (flag_name f, Some v)) undashed is
        ∙ ap (λ found. long_kinds waiting word found (Some v) h)
        (is_command.by_long (Raised f))) ∙ passes)

    -- a flag, or a setting with its value behind an equals sign
    module _ (h : Held) (waiting : Waiting) (word : Text) where
      kinds-used : (one : Use) → long_kinds waiting word (Some (rule_for one)) (value_of one) h
          ≡ react_fault rules false (rule_for one) (given one) h
      kinds-used (Raised f) = or_else-nil _
      kinds-used (Set x v) = or_else-nil _

      after-met : (one : Use) → long_after waiting word (Some (rule_for one)) (value_of one) h
          ≡ walk_at (reacted rules (rule_for one) (given one) h) idle
      after-met (Raised f) = refl
      after-met (Set x v) = refl

    pub fault-used : (h : Held) (waiting : Waiting) (word : Text) (one : Use)
        → bytes_eq word (codes "--") ≡ false → long_of word ≡ Some (name_of one, value_of one)
        → fault h waiting word ≡ react_fault rules false (rule_for one) (given one) h
    fault-used h waiting word one undashed is =
        fault-looks h waiting word (Some (name_of one, value_of one)) undashed is
        ∙ ap (λ found. long_kinds waiting word found (value_of one) h) (is_command.by_long one)
        ∙ kinds-used h waiting word one

    pub after-used : (h : Held) (waiting : Waiting) (word : Text) (one : Use)
        → bytes_eq word (codes "--") ≡ false → long_of word ≡ Some (name_of one, value_of one)
        → after h waiting word ≡ walk_at (reacted rules (rule_for one) (given one) h) idle
    after-used h waiting word one undashed is =
        after-looks h waiting word (Some (name_of one, value_of one)) undashed is
        ∙ ap (λ found. long_after waiting word found (value_of one) h) (is_command.by_long one)
        ∙ after-met h waiting word one

    -- a setting whose value is to come
    pub fault-awaits : (h : Held) (waiting : Waiting) (word : Text) (x : Setting)
        → bytes_eq word (codes "--") ≡ false → long_of word ≡ Some (setting_name x, None)
        → fault h waiting word ≡ settle_fault rules false h
    fault-awaits h waiting word x undashed is =
        fault-looks h waiting word (Some (setting_name x, None)) undashed is
        ∙ ap (λ found. long_kinds waiting word found None h) (is_command.by_long (Set x []))
        ∙ or_else-nil _

    pub after-awaits : (h : Held) (waiting : Waiting) (word : Text) (x : Setting)
        → bytes_eq word (codes "--") ≡ false → long_of word ≡ Some (setting_name x, None)
        → after h waiting word
        ≡ walk_at (record (settled rules h) { pending = Some (setting_name x, []) })
        (option (setting_name x))
    after-awaits h waiting word x undashed is =
        after-looks h waiting word (Some (setting_name x, None)) undashed is
        ∙ ap (λ found. long_after waiting word found None h) (is_command.by_long (Set x []))

    -- ---- words that do not

    -- no option has a short form
    bundle-none : (flags : Text) (rows : List Row) (pending : Option (Text × List Text))
        → bundle_fault rules false flags (holds rows pending) ≡ []
        → bundle rules flags (holds rows pending) ≡ (holds rows pending, plain)
    unfolding flags_fault bundle_met
    bundle-none [] rows pending passes = refl
    bundle-none (b ∷ bs) rows pending passes = go (slice_get (chars (b ∷ bs)) 0) passes
      where
        go : (o : Option ℕ)
            → bundle_step_fault rules false o (b ∷ bs) 0 (holds rows pending)
            (flags_fault rules false (length bs)) ≡ []
            → bundle_step rules o (b ∷ bs) 0 plain (holds rows pending)
            (bundle_met rules (length bs)) ≡ (holds rows pending, plain)
        go None e = refl
        go (Some x) e =
            let rest = drop (length (encode_utf8 x)) (b ∷ bs) in
            absurd (some_kind kind.UnknownArgument []
            (sym (ap (λ found. short_fault rules false found rest (holds rows pending)
            (flags_fault rules false (length bs) rest 0)) (is_command.no_short x)) ∙ e))

    module _ (rows : List Row) (pending : Option (Text × List Text)) (waiting : Waiting)
        (word : Text) where
      by_short : (o : Option Text)
          → or_else
          (option_map_or (λ flags. bundle_fault rules false flags (holds rows pending)) o [])
          (step_by (short_or_plain rules waiting word o (holds rows pending))) ≡ []
          → short_or_plain rules waiting word o (holds rows pending)
          ≡ plain_word rules waiting word (holds rows pending)
      by_short None e = refl
      by_short (Some flags) e =
          let parts = or_else-parts
          (bundle_fault rules false flags (holds rows pending))
          (step_by (short_or_plain rules waiting word (Some flags) (holds rows pending))) e in
          ap (λ met. after_flag rules waiting word met.0 met.1)
          (bundle-none flags rows pending parts.0)

      -- a word that passes and begins with no two dashes is a value
      pub after-plain : bytes_eq word (codes "--") ≡ false → long_of word ≡ None
          → fault (holds rows pending) waiting word ≡ []
          → after (holds rows pending) waiting word
          ≡ after_step rules word (walk_at (holds rows pending) waiting)
          (plain_word rules waiting word (holds rows pending)).0
          (plain_word rules waiting word (holds rows pending)).1
      after-plain undashed is passes =
          after-looks (holds rows pending) waiting word None undashed is
          ∙ ap (λ met. after_step rules word (walk_at (holds rows pending) waiting) met.0 met.1)
          (by_short (short_of word)
          (sym (fault-looks (holds rows pending) waiting word None undashed is) ∙ passes))

      pub step-plain : bytes_eq word (codes "--") ≡ false → long_of word ≡ None
          → fault (holds rows pending) waiting word ≡ []
          → step_by (plain_word rules waiting word (holds rows pending)) ≡ []
      step-plain undashed is passes =
          let whole =
          sym (fault-looks (holds rows pending) waiting word None undashed is) ∙ passes in
          sym (ap step_by (by_short (short_of word) whole))
          ∙ (or_else-parts
          (option_map_or (λ flags. bundle_fault rules false flags (holds rows pending))
          (short_of word) [])
          (step_by (short_or_plain rules waiting word (short_of word) (holds rows pending)))
          whole).1

      -- a word that begins with no dash passes where a value is due
      pub fault-plain : bytes_eq word (codes "--") ≡ false → long_of word ≡ None
          → short_of word ≡ None
          → fault (holds rows pending) waiting word
          ≡ step_by (plain_word rules waiting word (holds rows pending))
      fault-plain undashed is not_short =
          fault-looks (holds rows pending) waiting word None undashed is
          ∙ ap (λ o. or_else
          (option_map_or (λ flags. bundle_fault rules false flags (holds rows pending)) o [])
          (step_by (short_or_plain rules waiting word o (holds rows pending)))) not_short

    -- no value is due
    pub fault-stray : (rows : List Row) (pending : Option (Text × List Text)) (word : Text)
        → bytes_eq word (codes "--") ≡ false → long_of word ≡ None
        → fault (holds rows pending) idle word ≡ [] → ⊥
    fault-stray rows pending word undashed is passes =
        some_kind kind.UnknownArgument []
        (sym (ap (λ found. option_map_or
        (λ a. positional_fault rules false a (holds rows pending)) found
        (stray_fault (shape rules))) (is_command.no_place 1))
        ∙ step-plain rows pending idle word undashed is passes)

    -- the value of a setting
    pub plain_word-awaited : (rows : List Row) (x : Setting) (word : Text)
        → plain_word rules (option (setting_name x)) word (holds rows (Some (setting_name x, [])))
        ≡ (holds rows (Some (setting_name x, word ∷ [])), next idle)
    plain_word-awaited rows x word =
        ap (λ found. (
          (option_word found (setting_name x) word (holds rows (Some (setting_name x, [])))).0,
          next (option_word found (setting_name x) word (holds rows (Some (setting_name x, [])))).1,
        )) (is_command.by_id x []) ∙ taken x
      where
        taken : (y : Setting) → ◌≡◌ {A = Held × Step} (
          (option_word (Some (rule_for (Set y []))) (setting_name y) word
              (holds rows (Some (setting_name y, [])))).0,
          next (option_word (Some (rule_for (Set y []))) (setting_name y) word
              (holds rows (Some (setting_name y, [])))).1,
        ) (holds rows (Some (setting_name y, word ∷ [])), next idle)
        taken Depth = refl
        taken Rounds = refl
        taken Facts = refl
        taken Splits = refl
        taken Pivots = refl
