-- Where a walk stands behind the words of some uses.
use Rattle.std.proofs.Common.{◌≡◌, ◌∙◌, ◌⊎◌, Bool, true, false, refl, sym, ap, inl, inr, List, []}
use Rattle.std.proofs.Common.{◌∷◌, ◌++◌, Option, Some, None, codes}
use Rattle.std.proofs.lemmas.List.{map-append}
use Rattle.std.specs.Option.{option_map_or}
use Rattle.std.specs.Str.{bytes_eq}
use Rattle.clap.specs.Faults.{react_fault, settle_fault, use_fault}
use Rattle.clap.specs.Kinds.{or_else}
use Rattle.clap.specs.Lexer.{long_of}
use Rattle.clap.specs.Walk.{Held, Rule, Walk, arg_by_long, has_row, idle, option, reacted, settled}
use Rattle.clap.specs.Walk.{used, used_by_id}
use Rattle.clap.specs.declared.error.kind.ErrorKind.TheVariants as kind
use Rattle.esc_words.specs.declared.setting.Flag.{Flag}
use Rattle.esc_words.specs.declared.setting.Setting.{Setting}
use Rattle.esc_words.specs.Uses.{IsWritten, Text, Use, Raised, Set, dashed, flag_name, name_of}
use Rattle.esc_words.specs.Uses.{setting_name, value_of}
use Rattle.esc_words.proofs.Looks.{ReadsBack, dashes_by-bytes_eq, reads_back}
use Rattle.esc_words.proofs.Rows.{given, new_by-use_fault, or_else-parts, row_for, rows_for}
use Rattle.esc_words.proofs.Rows.{rule_for, use_fault-new, used-new}
use Rattle.esc_words.proofs.Turns.{IsCommand, after, after-awaits, after-used, fault, fault-awaits}
use Rattle.esc_words.proofs.Turns.{fault-stray, fault-unknown, fault-used, fault-valued, holds}
use Rattle.esc_words.proofs.Turns.{some_kind, walk_at}

-- a setting with its value whose use is put off until the next word
abbrev pub Late : Type 0
Late = Option (Setting × Text)

abbrev pub pending_for : Late → Option (Text × List Text)
pending_for None = None
pending_for (Some p) = Some (setting_name p.0, p.1 ∷ [])

abbrev pub with_late : List Use → Late → List Use
with_late done None = done
with_late done (Some p) = done ++ Set p.0 p.1 ∷ []

-- the name stands in none of the rows
abbrev pub IsNew : List Use → Use → Type 0
IsNew done one = has_row (name_of one) (rows_for done) ≡ false

abbrev pub IsLateNew : List Use → Late → Type 0
IsLateNew done None = Unit {0}
IsLateNew done (Some p) = IsNew done (Set p.0 p.1)

abbrev pub held_for : List Use → Late → Held
held_for done late = holds (rows_for done) (pending_for late)

-- the next word may use any option
abbrev pub free_after : List Use → Late → Walk
free_after done late = walk_at (held_for done late) idle

-- the next word is the value of the setting
abbrev pub held_awaiting : List Use → Setting → Held
held_awaiting done x = holds (rows_for done) (Some (setting_name x, []))

abbrev pub awaiting : List Use → Setting → Walk
awaiting done x = walk_at (held_awaiting done x) (option (setting_name x))

module _ (rules : List Rule) (is_command : IsCommand rules) where
  -- ---- what was put off

  settle_fault-late : (done : List Use) (p : Setting × Text)
      → settle_fault rules false (held_for done (Some p))
      ≡ use_fault false (rule_for (Set p.0 p.1)) (p.1 ∷ []) (rows_for done)
  settle_fault-late done p =
      ap (λ found. option_map_or (λ a. use_fault false a (p.1 ∷ []) (rows_for done)) found [])
      (is_command.by_id p.0 p.1)

  pub settle_fault-new : (done : List Use) (late : Late) → IsLateNew done late
      → settle_fault rules false (held_for done late) ≡ []
  settle_fault-new done None new = refl
  settle_fault-new done (Some p) new =
      settle_fault-late done p ∙ use_fault-new (Set p.0 p.1) (rows_for done) new

  pub new_by-settle_fault : (done : List Use) (late : Late)
      → settle_fault rules false (held_for done late) ≡ [] → IsLateNew done late
  new_by-settle_fault done None passes = tt
  new_by-settle_fault done (Some p) passes =
      new_by-use_fault (Set p.0 p.1) (rows_for done) (sym (settle_fault-late done p) ∙ passes)

  one_more : (done : List Use) (one : Use) → IsNew done one
      → used (rule_for one) (given one) (rows_for done) ≡ rows_for (done ++ one ∷ [])
  one_more done one new =
      used-new one (rows_for done) new ∙ sym (map-append row_for done (one ∷ []))

  pub settled-late : (done : List Use) (late : Late) → IsLateNew done late
      → settled rules (held_for done late) ≡ holds (rows_for (with_late done late)) None
  settled-late done None new = refl
  settled-late done (Some p) new =
      ap (λ found. holds (used_by_id found (p.1 ∷ []) (rows_for done)) None)
      (is_command.by_id p.0 p.1)
      ∙ ap (λ rows. holds rows None) (one_more done (Set p.0 p.1) new)

  -- a setting without its value is refused
  pub fault-awaiting : (done : List Use) (x : Setting)
      → settle_fault rules false (held_awaiting done x) ≡ [] → ⊥
  fault-awaiting done x passes =
      some_kind kind.InvalidValue []
      (sym (ap (λ found. option_map_or (λ a. use_fault false a [] (rows_for done)) found [])
      (is_command.by_id x [])) ∙ passes)

  -- ---- one use more

  pub react_fault-new : (done : List Use) (late : Late) (one : Use) → IsLateNew done late
      → IsNew (with_late done late) one
      → react_fault rules false (rule_for one) (given one) (held_for done late) ≡ []
  react_fault-new done late one new fresh =
      ap (λ ks. or_else ks (use_fault false (rule_for one) (given one)
      (settled rules (held_for done late)).rows)) (settle_fault-new done late new)
      ∙ ap (λ h. use_fault false (rule_for one) (given one) h.rows) (settled-late done late new)
      ∙ use_fault-new one (rows_for (with_late done late)) fresh

  pub new_by-react_fault : (done : List Use) (late : Late) (one : Use)
      → react_fault rules false (rule_for one) (given one) (held_for done late) ≡ []
      → IsLateNew done late × IsNew (with_late done late) one
  new_by-react_fault done late one passes =
      let parts = or_else-parts (settle_fault rules false (held_for done late))
      (use_fault false (rule_for one) (given one) (settled rules (held_for done late)).rows)
      passes in
      let new = new_by-settle_fault done late parts.0 in (
        new,
        new_by-use_fault one (rows_for (with_late done late))
            (sym (ap (λ (h : Held). use_fault false (rule_for one) (given one) h.rows)
            (settled-late done late new)) ∙ parts.1),
      )

  pub reacted-new : (done : List Use) (late : Late) (one : Use) → IsLateNew done late
      → IsNew (with_late done late) one
      → reacted rules (rule_for one) (given one) (held_for done late)
      ≡ held_for (with_late done late ++ one ∷ []) None
  reacted-new done late one new fresh =
      ap (λ (h : Held). holds (used (rule_for one) (given one) h.rows) None)
      (settled-late done late new)
      ∙ ap (λ rows. holds rows None) (one_more (with_late done late) one fresh)

  pub awaiting-new : (done : List Use) (late : Late) (x : Setting) → IsLateNew done late
      → walk_at
      (record (settled rules (held_for done late)) { pending = Some (setting_name x, []) })
      (option (setting_name x)) ≡ awaiting (with_late done late) x
  awaiting-new done late x new =
      ap (λ (h : Held). walk_at (record h { pending = Some (setting_name x, []) })
      (option (setting_name x))) (settled-late done late new)

  -- ---- what a word can be where any option may stand

  pub data Turn (done : List Use) (late : Late) (word : Text) : Type 0 where
    ends : word ≡ codes "--" → Turn done late word
    uses : (one : Use) → IsWritten one (word ∷ []) → IsLateNew done late
        → IsNew (with_late done late) one
        → after rules (held_for done late) idle word
        ≡ free_after (with_late done late ++ one ∷ []) None
        → Turn done late word
    awaits : (x : Setting) → word ≡ dashed (setting_name x) → IsLateNew done late
        → after rules (held_for done late) idle word ≡ awaiting (with_late done late) x
        → Turn done late word

  module _ (done : List Use) (late : Late) (word : Text)
      (passes : fault rules (held_for done late) idle word ≡ []) where
    used_turn : (one : Use) (v : Option Text) → v ≡ value_of one
        → IsWritten one (word ∷ [])
        → bytes_eq word (codes "--") ≡ false → long_of word ≡ Some (name_of one, v)
        → Turn done late word
    used_turn one v same written undashed is =
        let looks = is ∙ ap (λ u. Some (name_of one, u)) same in
        let new = new_by-react_fault done late one
        (sym (fault-used rules is_command (held_for done late) idle word one undashed looks)
        ∙ passes) in
        uses one written new.0 new.1
        (after-used rules is_command (held_for done late) idle word one undashed looks
        ∙ ap (λ h. walk_at h idle) (reacted-new done late one new.0 new.1))

    awaits_turn : (x : Setting) → word ≡ dashed (setting_name x)
        → bytes_eq word (codes "--") ≡ false → long_of word ≡ Some (setting_name x, None)
        → Turn done late word
    awaits_turn x written undashed is =
        let new = new_by-settle_fault done late
        (sym (fault-awaits rules is_command (held_for done late) idle word x undashed is)
        ∙ passes) in
        awaits x written new
        (after-awaits rules is_command (held_for done late) idle word x undashed is
        ∙ awaiting-new done late x new)

    flag_turn : (f : Flag) (v : Option Text) → ReadsBack word (flag_name f) v
        → bytes_eq word (codes "--") ≡ false → long_of word ≡ Some (flag_name f, v)
        → Turn done late word
    flag_turn f None back undashed is =
        used_turn (Raised f) None refl (ap (λ w. w ∷ []) back) undashed is
    flag_turn f (Some v) back undashed is =
        absurd (fault-valued rules is_command (held_for done late) idle word f v undashed is passes)

    setting_turn : (x : Setting) (v : Option Text) → ReadsBack word (setting_name x) v
        → bytes_eq word (codes "--") ≡ false → long_of word ≡ Some (setting_name x, v)
        → Turn done late word
    setting_turn x None back undashed is = awaits_turn x back undashed is
    setting_turn x (Some v) back undashed is =
        used_turn (Set x v) (Some v) refl (inr (ap (λ w. w ∷ []) back)) undashed is

    named_turn : (name : Text) (v : Option Text)
        → ((f : Flag) × (name ≡ flag_name f)) ⊎ ((x : Setting) × (name ≡ setting_name x))
        → bytes_eq word (codes "--") ≡ false → long_of word ≡ Some (name, v)
        → Turn done late word
    named_turn name v (inl flag) undashed is =
        let looks = is ∙ ap (λ n. Some (n, v)) flag.1 in
        flag_turn flag.0 v (reads_back word (flag_name flag.0) v looks) undashed looks
    named_turn name v (inr setting) undashed is =
        let looks = is ∙ ap (λ n. Some (n, v)) setting.1 in
        setting_turn setting.0 v (reads_back word (setting_name setting.0) v looks) undashed looks

    found_turn : (name : Text) (v : Option Text) (found : Option Rule)
        → arg_by_long rules name ≡ found
        → bytes_eq word (codes "--") ≡ false → long_of word ≡ Some (name, v)
        → Turn done late word
    found_turn name v None found undashed is = absurd
        (fault-unknown rules (held_for done late) idle word name v undashed is found passes)
    found_turn name v (Some r) found undashed is =
        named_turn name v (is_command.named name r found) undashed is

    looked_turn : (looks : Option (Text × Option Text)) → bytes_eq word (codes "--") ≡ false
        → long_of word ≡ looks → Turn done late word
    looked_turn None undashed is = absurd
        (fault-stray rules is_command (rows_for done) (pending_for late) word undashed is passes)
    looked_turn (Some p) undashed is =
        found_turn p.0 p.1 (arg_by_long rules p.0) refl undashed is

    pub turn : Turn done late word
    turn = go (bytes_eq word (codes "--")) refl
      where
        go : (b : Bool) → bytes_eq word (codes "--") ≡ b → Turn done late word
        go true e = ends (dashes_by-bytes_eq word e)
        go false e = looked_turn (long_of word) e refl
