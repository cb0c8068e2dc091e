-- What a walk over several words comes to.
use Rattle.std.proofs.Common.{◌≡◌, ◌∙◌, ◌⊎◌, Bool, true, false, refl, sym, ap, inl, inr, List, []}
use Rattle.std.proofs.Common.{◌∷◌, ◌++◌, Option, Some, None, codes}
use Rattle.std.specs.List.{fold}
use Rattle.std.specs.Option.{option_map_or}
use Rattle.std.specs.Str.{bytes_eq}
use Rattle.clap.specs.Faults.{positional_fault, settle_fault, stray_fault, turn_fault, walk_fault}
use Rattle.clap.specs.Kinds.{Kinds}
use Rattle.clap.specs.Lexer.{long_of}
use Rattle.clap.specs.Walk.{Held, Rule, Waiting, Walk, after_step, arg_by_long, option, walked}
use Rattle.clap.specs.declared.error.kind.ErrorKind.TheVariants as kind
use Rattle.esc_words.specs.declared.setting.Flag.{Flag}
use Rattle.esc_words.specs.declared.setting.Setting.{Setting}
use Rattle.esc_words.specs.Uses.{Text, Use, Raised, Set, flag_name, name_of, setting_name, value_of}
use Rattle.esc_words.proofs.Looks.{dashes_by-bytes_eq}
use Rattle.esc_words.proofs.Rows.{or_else-parts, rows_for}
use Rattle.esc_words.proofs.Turns.{IsCommand, after, after-plain, fault, fault-awaits}
use Rattle.esc_words.proofs.Turns.{fault-unknown, fault-used, fault-valued, plain_word-awaited}
use Rattle.esc_words.proofs.Turns.{shape, some_kind, walk_at}
use Rattle.esc_words.proofs.Walks.{IsNew, fault-awaiting, free_after, held_awaiting}

-- each use in turn is new to what stands before it
abbrev pub AreFresh : List Use → List Use → Type 0
AreFresh done [] = Unit {0}
AreFresh done (one ∷ uses) = IsNew done one × AreFresh (done ++ one ∷ []) uses

-- behind two dashes
abbrev pub trailing_at : Held → Waiting → Walk
trailing_at h waiting = record (walk_at h waiting) { is_trailing = true }

module _ (rules : List Rule) where
  abbrev pub walk_kinds : Walk → List Text → Kinds
  walk_kinds w words = walk_fault (shape rules) [] w words

  abbrev pub held_after : Walk → List Text → Held
  held_after w words = (fold (walked rules []) w words).held

  pub walk_parts : (w : Walk) (word : Text) (rest : List Text) → walk_kinds w (word ∷ rest) ≡ []
      → (turn_fault (shape rules) [] w word ≡ []) × (walk_kinds (walked rules [] w word) rest ≡ [])
  unfolding walk_fault
  walk_parts w word rest e = or_else-parts (turn_fault (shape rules) [] w word) _ e

  module _ (is_command : IsCommand rules) where
    pub nothing_behind : (h : Held) (waiting : Waiting) (words : List Text)
        → walk_kinds (trailing_at h waiting) words ≡ [] → words ≡ []
    nothing_behind h waiting [] e = refl
    nothing_behind h waiting (word ∷ rest) e = absurd (some_kind kind.UnknownArgument []
        (sym (ap (λ found. option_map_or (λ a. positional_fault rules false a h) found
        (stray_fault (shape rules))) (is_command.no_place 1))
        ∙ (walk_parts (trailing_at h waiting) word rest e).0))

    -- ---- a word where a value is due

    module _ (done : List Use) (x : Setting) (word : Text)
        (passes : fault rules (held_awaiting done x) (option (setting_name x)) word ≡ []) where
      abbrev IsValue : Type 0
      IsValue = after rules (held_awaiting done x) (option (setting_name x)) word
          ≡ free_after done (Some (x, word))

      no_use : (one : Use) (v : Option Text) → v ≡ value_of one
          → bytes_eq word (codes "--") ≡ false → long_of word ≡ Some (name_of one, v) → ⊥
      no_use one v same undashed is =
          let react = sym (fault-used rules is_command (held_awaiting done x)
          (option (setting_name x)) word one undashed
          (is ∙ ap (λ u. Some (name_of one, u)) same)) ∙ passes in
          fault-awaiting rules is_command done x
          (or_else-parts (settle_fault rules false (held_awaiting done x)) _ react).0

      no_option : (name : Text) (v : Option Text)
          → ((f : Flag) × (name ≡ flag_name f)) ⊎ ((y : Setting) × (name ≡ setting_name y))
          → bytes_eq word (codes "--") ≡ false → long_of word ≡ Some (name, v) → ⊥
      no_option name None (inl flag) undashed is =
          no_use (Raised flag.0) None refl undashed (is ∙ ap (λ n. Some (n, None)) flag.1)
      no_option name (Some v) (inl flag) undashed is =
          fault-valued rules is_command (held_awaiting done x) (option (setting_name x)) word
          flag.0 v undashed (is ∙ ap (λ n. Some (n, Some v)) flag.1) passes
      no_option name None (inr setting) undashed is =
          fault-awaiting rules is_command done x
          (sym (fault-awaits rules is_command (held_awaiting done x) (option (setting_name x)) word
          setting.0 undashed (is ∙ ap (λ n. Some (n, None)) setting.1)) ∙ passes)
      no_option name (Some v) (inr setting) undashed is =
          no_use (Set setting.0 v) (Some v) refl undashed
          (is ∙ ap (λ n. Some (n, Some v)) setting.1)

      no_name : (name : Text) (v : Option Text) (found : Option Rule)
          → arg_by_long rules name ≡ found
          → bytes_eq word (codes "--") ≡ false → long_of word ≡ Some (name, v) → ⊥
      no_name name v None found undashed is =
          fault-unknown rules (held_awaiting done x) (option (setting_name x)) word name v undashed
          is found passes
      no_name name v (Some r) found undashed is =
          no_option name v (is_command.named name r found) undashed is

      value : (looks : Option (Text × Option Text)) → bytes_eq word (codes "--") ≡ false
          → long_of word ≡ looks → IsValue
      value (Some p) undashed is =
          absurd (no_name p.0 p.1 (arg_by_long rules p.0) refl undashed is)
      value None undashed is =
          after-plain rules is_command (rows_for done) (Some (setting_name x, []))
          (option (setting_name x)) word undashed is passes
          ∙ ap (λ met. after_step rules word
          (walk_at (held_awaiting done x) (option (setting_name x))) met.0 met.1)
          (plain_word-awaited rules is_command (rows_for done) x word)

      pub dashes_or_value : (word ≡ codes "--") ⊎ IsValue
      dashes_or_value = go (bytes_eq word (codes "--")) refl
        where
          go : (b : Bool) → bytes_eq word (codes "--") ≡ b → (word ≡ codes "--") ⊎ IsValue
          go true e = inl (dashes_by-bytes_eq word e)
          go false e = inr (value (long_of word) e refl)
