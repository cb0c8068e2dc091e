-- The words of uses are taken by the parser, if each use is new and has a right value.
use Rattle.std.proofs.Common.{◌≡◌, ◌∙◌, ◌==◌, ◌&&◌, ℕ, cond, false, refl, sym, ap, subst, inl, inr}
use Rattle.std.proofs.Common.{arith, List, [], ◌∷◌, ◌++◌, Some, None, append-nil, append_assoc}
use Rattle.std.proofs.Common.{codes}
use Rattle.std.proofs.lemmas.Bool.Decides.{nat_tests}
use Rattle.std.proofs.lemmas.List.Elements.{All-head, All-tail}
use Rattle.std.proofs.lemmas.Str.Parse.{digit_from_value}
use Rattle.std.specs.List.{All}
use Rattle.std.specs.Option.{option_and_then}
use Rattle.std.specs.Str.{bytes_eq}
use Rattle.std.specs.Str.Parse.{IsNumeral}
use Rattle.clap.specs.Faults.{settle_fault, step_fault, turn_fault, walk_fault}
use Rattle.clap.specs.Kinds.{or_else}
use Rattle.clap.specs.Lexer.{long_of, long_of_rest, short_of, short_of_rest, strip_byte}
use Rattle.clap.specs.Walk.{Held, Rule, Walk, after_step, idle, option, settled, walked}
use Rattle.esc_words.specs.declared.setting.Setting.{Setting}
use Rattle.esc_words.specs.Uses.{HasRightValue, IsWritten, Text, Use, Raised, Set, dashed}
use Rattle.esc_words.specs.Uses.{flag_name, name_of, setting_name, value_of}
use Rattle.esc_words.specs.Words.{AreWritten}
use Rattle.esc_words.proofs.Looks.{LooksLike, flag_looks, setting_looks, valued_looks}
use Rattle.esc_words.proofs.Rows.{rows_for}
use Rattle.esc_words.proofs.Steps.{AreFresh, held_after, trailing_at, walk_kinds}
use Rattle.esc_words.proofs.Turns.{IsCommand, after-awaits, after-dashes, after-plain, after-used}
use Rattle.esc_words.proofs.Turns.{fault-awaits, fault-dashes, fault-plain, fault-used}
use Rattle.esc_words.proofs.Turns.{plain_word-awaited, shape, walk_at}
use Rattle.esc_words.proofs.Walks.{IsLateNew, IsNew, Late, awaiting, awaiting-new, free_after}
use Rattle.esc_words.proofs.Walks.{held_awaiting, held_for, react_fault-new, reacted-new}
use Rattle.esc_words.proofs.Walks.{settle_fault-new, settled-late, with_late}

-- ---- values

undashed_digit : (d : ℕ) (rest : Text) → (d == 45) ≡ false
    → (bytes_eq (d ∷ rest) (codes "--") ≡ false) × (long_of (d ∷ rest) ≡ None)
    × (short_of (d ∷ rest) ≡ None)
undashed_digit d rest e = (
  ap (λ b. b && bytes_eq rest (codes "-")) e,
  ap (λ b. option_and_then long_of_rest (option_and_then (strip_byte 45)
      (cond b (Some rest) None))) e,
  ap (λ b. option_and_then short_of_rest (cond b (Some rest) None)) e,
)

-- a numeral begins with no dash
numeral_looks : (value : Text) → IsNumeral 10 value
    → (bytes_eq value (codes "--") ≡ false) × (long_of value ≡ None) × (short_of value ≡ None)
numeral_looks [] digits = absurd (omega (arith, digits.0))
numeral_looks (d ∷ rest) digits =
    let range = digit_from_value d digits.1.0 in
    undashed_digit d rest (grind (arith, nat_tests, range.0))

-- ---- walks

module _ (rules : List Rule) (is_command : IsCommand rules) where
  -- the words pass, and leave the rows of the uses
  pub record Passes (w : Walk) (words : List Text) (uses : List Use) : Type 0 where
    pub walks : walk_kinds rules w words ≡ []
    pub settles : settle_fault rules false (held_after rules w words) ≡ []
    pub rows : (settled rules (held_after rules w words)).rows ≡ rows_for uses

  passes_on : (w v : Walk) (word : Text) (rest : List Text) (uses : List Use)
      → turn_fault (shape rules) [] w word ≡ [] → walked rules [] w word ≡ v → Passes v rest uses
      → Passes w (word ∷ rest) uses
  unfolding walk_fault
  passes_on w v word rest uses none is passes = record {
    walks = ap (λ ks. or_else ks (walk_kinds rules (walked rules [] w word) rest)) none
        ∙ ap (λ u. walk_kinds rules u rest) is ∙ passes.walks;
    settles = ap (λ u. settle_fault rules false (held_after rules u rest)) is ∙ passes.settles;
    rows = ap (λ u. (settled rules (held_after rules u rest)).rows) is ∙ passes.rows;
  }

  module _ (done : List Use) (late : Late) (new : IsLateNew done late) where
    rows_at_end : (settled rules (held_for done late)).rows ≡ rows_for (with_late done late ++ [])
    rows_at_end = ap (λ (h : Held). h.rows) (settled-late rules is_command done late new)
        ∙ ap rows_for (sym (append-nil (with_late done late)))

    passes_nothing : Passes (free_after done late) [] (with_late done late ++ [])
    unfolding walk_fault
    passes_nothing = record {
      walks = refl;
      settles = settle_fault-new rules is_command done late new;
      rows = rows_at_end;
    }

    passes_trailing : Passes (trailing_at (held_for done late) idle) []
        (with_late done late ++ [])
    unfolding walk_fault
    passes_trailing = record {
      walks = refl;
      settles = settle_fault-new rules is_command done late new;
      rows = rows_at_end;
    }

    passes_dashes : Passes (free_after done late) (codes "--" ∷ []) (with_late done late ++ [])
    passes_dashes = passes_on (free_after done late) (trailing_at (held_for done late) idle)
        (codes "--") [] (with_late done late ++ []) (fault-dashes rules (held_for done late) idle)
        (after-dashes rules (held_for done late) idle) passes_trailing

    -- a word that is a whole use
    passes_used : (one : Use) (word : Text) (rest : List Text) (uses : List Use)
        → LooksLike word (name_of one) (value_of one) → IsNew (with_late done late) one
        → Passes (free_after (with_late done late ++ one ∷ []) None) rest
        ((with_late done late ++ one ∷ []) ++ uses)
        → Passes (free_after done late) (word ∷ rest) (with_late done late ++ one ∷ uses)
    passes_used one word rest uses looks fresh passes =
        passes_on (free_after done late) (free_after (with_late done late ++ one ∷ []) None) word
        rest (with_late done late ++ one ∷ uses)
        (fault-used rules is_command (held_for done late) idle word one looks.0 looks.1
        ∙ react_fault-new rules is_command done late one new fresh)
        (after-used rules is_command (held_for done late) idle word one looks.0 looks.1
        ∙ ap (λ h. walk_at h idle) (reacted-new rules is_command done late one new fresh))
        (subst (Passes (free_after (with_late done late ++ one ∷ []) None) rest)
        (append_assoc (with_late done late) (one ∷ []) uses) passes)

    -- a name, and the value as the next word
    passes_name : (x : Setting) (words : List Text) (uses : List Use)
        → Passes (awaiting (with_late done late) x) words uses
        → Passes (free_after done late) (dashed (setting_name x) ∷ words) uses
    passes_name x words uses passes =
        let looks = setting_looks x in
        passes_on (free_after done late) (awaiting (with_late done late) x)
        (dashed (setting_name x)) words uses
        (fault-awaits rules is_command (held_for done late) idle (dashed (setting_name x)) x looks.0
        looks.1 ∙ settle_fault-new rules is_command done late new)
        (after-awaits rules is_command (held_for done late) idle (dashed (setting_name x)) x looks.0
        looks.1 ∙ awaiting-new rules is_command done late x new) passes

  passes_value : (done : List Use) (x : Setting) (value : Text) (rest : List Text) (uses : List Use)
      → IsNumeral 10 value → Passes (free_after done (Some (x, value))) rest uses
      → Passes (awaiting done x) (value ∷ rest) uses
  passes_value done x value rest uses digits passes =
      let looks = numeral_looks value digits in
      let waiting = option (setting_name x) in
      let rows = rows_for done in
      let due = plain_word-awaited rules is_command rows x value in
      let none = fault-plain rules is_command rows (Some (setting_name x, [])) waiting value looks.0
      looks.1 looks.2 ∙ ap (λ met. step_fault (shape rules) 1 met.0 met.1) due in
      passes_on (awaiting done x) (free_after done (Some (x, value))) value rest uses none
      (after-plain rules is_command rows (Some (setting_name x, [])) waiting value looks.0 looks.1
      none ∙ ap (λ met. after_step rules value (walk_at (held_awaiting done x) waiting) met.0 met.1)
      due) passes

  pub takes : (uses : List Use) (words : List Text) (done : List Use) (late : Late)
      → AreWritten uses words → All HasRightValue uses → IsLateNew done late
      → AreFresh (with_late done late) uses
      → Passes (free_after done late) words (with_late done late ++ uses)
  takes [] words done late (inl none) right new fresh =
      subst (λ ws. Passes (free_after done late) ws (with_late done late ++ [])) (sym none)
      (passes_nothing done late new)
  takes [] words done late (inr dashes) right new fresh =
      subst (λ ws. Passes (free_after done late) ws (with_late done late ++ [])) (sym dashes)
      (passes_dashes done late new)
  takes (Raised f ∷ uses) words done late written right new fresh =
      subst (λ ws. Passes (free_after done late) ws (with_late done late ++ Raised f ∷ uses))
      (sym (written.2 ∙ ap (λ ws. ws ++ written.1) written.3))
      (passes_used done late new (Raised f) (dashed (flag_name f)) written.1 uses (flag_looks f)
      fresh.0
      (takes uses written.1 (with_late done late ++ Raised f ∷ []) None written.4
      (All-tail HasRightValue (Raised f) uses right) tt fresh.1))
  takes (Set x v ∷ uses) words done late written right new fresh =
      go written.3 (λ before waits. takes uses written.1 before waits written.4
      (All-tail HasRightValue (Set x v) uses right))
    where
      whole : List Use
      whole = with_late done late ++ Set x v ∷ uses

      here : (ws : List Text) → written.0 ≡ ws
          → Passes (free_after done late) (ws ++ written.1) whole
          → Passes (free_after done late) words whole
      here ws is passes = subst (λ us. Passes (free_after done late) us whole)
          (sym (written.2 ∙ ap (λ us. us ++ written.1) is)) passes

      go : IsWritten (Set x v) written.0
          → ((before : List Use) (waits : Late) → IsLateNew before waits
          → AreFresh (with_late before waits) uses
          → Passes (free_after before waits) written.1 (with_late before waits ++ uses))
          → Passes (free_after done late) words whole
      go (inl two) more = here (dashed (setting_name x) ∷ v ∷ []) two
          (passes_name done late new x (v ∷ written.1) whole
          (passes_value (with_late done late) x v written.1 whole
          (All-head HasRightValue (Set x v) uses right).digits
          (subst (Passes (free_after (with_late done late) (Some (x, v))) written.1)
          (append_assoc (with_late done late) (Set x v ∷ []) uses)
          (more (with_late done late) (Some (x, v)) fresh.0 fresh.1))))
      go (inr joined) more = here ((dashed (setting_name x) ++ (codes "=" ++ v)) ∷ []) joined
          (passes_used done late new (Set x v) (dashed (setting_name x) ++ (codes "=" ++ v))
          written.1 uses (valued_looks x v) fresh.0
          (more (with_late done late ++ Set x v ∷ []) None tt fresh.1))
