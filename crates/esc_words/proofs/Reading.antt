-- Words that the parser takes are those of uses, each of which is new.
use Rattle.std.proofs.Common.{◌≡◌, ◌∙◌, ◌⊎◌, refl, sym, ap, ap₂, subst, inl, inr, List, [], ◌∷◌}
use Rattle.std.proofs.Common.{◌++◌, Some, None, false, append-nil, append_assoc, codes}
use Rattle.clap.specs.Faults.{settle_fault}
use Rattle.clap.specs.Walk.{Held, Row, Rule, Walk, idle, option, settled, walked}
use Rattle.esc_words.specs.declared.setting.Setting.{Setting}
use Rattle.esc_words.specs.Uses.{Text, Use, Set, setting_name}
use Rattle.esc_words.specs.Words.{AreWritten, IsEnd}
use Rattle.esc_words.proofs.Rows.{rows_for}
use Rattle.esc_words.proofs.Steps.{AreFresh, dashes_or_value, held_after, nothing_behind}
use Rattle.esc_words.proofs.Steps.{walk_kinds, walk_parts}
use Rattle.esc_words.proofs.Turns.{IsCommand, after, after-dashes}
use Rattle.esc_words.proofs.Walks.{IsLateNew, IsNew, Late, Turn, awaiting, awaits, ends}
use Rattle.esc_words.proofs.Walks.{fault-awaiting, free_after, held_awaiting, held_for}
use Rattle.esc_words.proofs.Walks.{new_by-settle_fault, settled-late, turn, uses, with_late}

-- the words are those of these uses, and the rows are those of all uses
pub record Rest (done : List Use) (rows : List Row) (words : List Text) : Type 0 where
  pub uses : List Use
  pub written : AreWritten uses words
  pub fresh : AreFresh done uses
  pub same : rows ≡ rows_for (done ++ uses)

module _ (rules : List Rule) (is_command : IsCommand rules) where
  abbrev rows_after : Walk → List Text → List Row
  rows_after w words = (settled rules (held_after rules w words)).rows

  abbrev Settles : Walk → List Text → Type 0
  Settles w words = settle_fault rules false (held_after rules w words) ≡ []

  -- from a place where any option may stand
  abbrev pub Free : List Text → Type 0
  Free words = (done : List Use) (late : Late)
      → walk_kinds rules (free_after done late) words ≡ []
      → settle_fault rules false (held_after rules (free_after done late) words) ≡ []
      → IsLateNew done late
      × Rest (with_late done late)
      (settled rules (held_after rules (free_after done late) words)).rows words

  -- from a place where a value is due
  abbrev Awaits : List Text → Type 0
  Awaits words = (done : List Use) (x : Setting) → walk_kinds rules (awaiting done x) words ≡ []
      → Settles (awaiting done x) words
      → (v : Text) × (rest : List Text) × (words ≡ v ∷ rest) × IsNew done (Set x v)
      × Rest (done ++ Set x v ∷ []) (rows_after (awaiting done x) words) rest

  ended : (done : List Use) (late : Late) (h : Held) (words : List Text) → IsEnd words
      → h ≡ held_for done late → settle_fault rules false h ≡ []
      → IsLateNew done late × Rest (with_late done late) (settled rules h).rows words
  ended done late h words end is settles =
      let new = new_by-settle_fault rules is_command done late
      (ap (settle_fault rules false) (sym is) ∙ settles) in (
        new,
        record {
          uses = [];
          written = end;
          fresh = tt;
          same = ap (λ (k : Held). (settled rules k).rows) is
              ∙ ap (λ (k : Held). k.rows) (settled-late rules is_command done late new)
              ∙ ap rows_for (sym (append-nil (with_late done late)));
        },
      )

  module _ (word : Text) (rest : List Text) (free : Free rest) (waits : Awaits rest) where
    dashes_end : (done : List Use) (late : Late) → word ≡ codes "--"
        → walk_kinds rules (free_after done late) (word ∷ rest) ≡ []
        → Settles (free_after done late) (word ∷ rest)
        → IsLateNew done late
        × Rest (with_late done late) (rows_after (free_after done late) (word ∷ rest)) (word ∷ rest)
    dashes_end done late is kinds settles =
        let held = held_for done late in
        let trails = ap (after rules held idle) is ∙ after-dashes rules held idle in
        let none = nothing_behind rules is_command held idle rest
        (subst (λ w. walk_kinds rules w rest ≡ []) trails
        (walk_parts rules (free_after done late) word rest kinds).1) in
        ended done late (held_after rules (free_after done late) (word ∷ rest)) (word ∷ rest)
        (inr (ap₂ (λ w ws. w ∷ ws) is none)) (ap₂ (held_after rules) trails none) settles

    free_step : Free (word ∷ rest)
    free_step done late kinds settles =
        let parts = walk_parts rules (free_after done late) word rest kinds in
        go parts.1 (turn rules is_command done late word parts.0)
      where
        go : walk_kinds rules (walked rules [] (free_after done late) word) rest ≡ []
            → Turn rules is_command done late word → IsLateNew done late
            × Rest (with_late done late) (rows_after (free_after done late) (word ∷ rest))
            (word ∷ rest)
        go behind (ends is) = dashes_end done late is kinds settles
        go behind (uses one written new fresh is) =
            let next = free (with_late done late ++ one ∷ []) None
            (subst (λ w. walk_kinds rules w rest ≡ []) is behind)
            (subst (λ w. Settles w rest) is settles) in (
              new,
              record {
                uses = one ∷ next.1.uses;
                written = (word ∷ [], rest, refl, written, next.1.written);
                fresh = (fresh, next.1.fresh);
                same = ap (λ w. rows_after w rest) is ∙ next.1.same
                    ∙ ap rows_for (append_assoc (with_late done late) (one ∷ []) next.1.uses);
              },
            )
        go behind (awaits x written new is) =
            let next = waits (with_late done late) x
            (subst (λ w. walk_kinds rules w rest ≡ []) is behind)
            (subst (λ w. Settles w rest) is settles) in
            let one = Set x next.0 in (
              new,
              record {
                uses = one ∷ next.4.uses;
                written = (
                  word ∷ next.0 ∷ [],
                  next.1,
                  ap (λ ws. word ∷ ws) next.2,
                  inl (ap (λ w. w ∷ next.0 ∷ []) written),
                  next.4.written,
                );
                fresh = (next.3, next.4.fresh);
                same = ap (λ w. rows_after w rest) is ∙ next.4.same
                    ∙ ap rows_for (append_assoc (with_late done late) (one ∷ []) next.4.uses);
              },
            )

    no_value : (done : List Use) (x : Setting) → word ≡ codes "--"
        → walk_kinds rules (awaiting done x) (word ∷ rest) ≡ []
        → Settles (awaiting done x) (word ∷ rest) → ⊥
    no_value done x is kinds settles =
        let held = held_awaiting done x in
        let waiting = option (setting_name x) in
        let trails = ap (after rules held waiting) is ∙ after-dashes rules held waiting in
        let none = nothing_behind rules is_command held waiting rest
        (subst (λ w. walk_kinds rules w rest ≡ []) trails
        (walk_parts rules (awaiting done x) word rest kinds).1) in
        fault-awaiting rules is_command done x
        (subst (λ h. settle_fault rules false h ≡ []) (ap₂ (held_after rules) trails none) settles)

    awaits_step : Awaits (word ∷ rest)
    awaits_step done x kinds settles =
        let parts = walk_parts rules (awaiting done x) word rest kinds in
        go parts.1 (dashes_or_value rules is_command done x word parts.0)
      where
        go : walk_kinds rules (walked rules [] (awaiting done x) word) rest ≡ []
            → (word ≡ codes "--")
            ⊎ (after rules (held_awaiting done x) (option (setting_name x)) word
            ≡ free_after done (Some (x, word)))
            → (v : Text) × (behind : List Text) × (word ∷ rest ≡ v ∷ behind) × IsNew done (Set x v)
            × Rest (done ++ Set x v ∷ []) (rows_after (awaiting done x) (word ∷ rest)) behind
        go behind (inl is) = absurd (no_value done x is kinds settles)
        go behind (inr is) =
            let next = free done (Some (x, word))
            (subst (λ w. walk_kinds rules w rest ≡ []) is behind)
            (subst (λ w. Settles w rest) is settles) in (
              word,
              rest,
              refl,
              next.0,
              subst (λ rows. Rest (done ++ Set x word ∷ []) rows rest)
                  (sym (ap (λ w. rows_after w rest) is)) next.1,
            )

  free_and_awaits : (words : List Text) → Free words × Awaits words
  free_and_awaits [] = (
    λ done late kinds settles. ended done late (held_for done late) [] (inl refl) refl settles,
    λ done x kinds settles. absurd (fault-awaiting rules is_command done x settles),
  )
  free_and_awaits (word ∷ rest) =
      let behind = free_and_awaits rest in (
        free_step word rest behind.0 behind.1,
        awaits_step word rest behind.0 behind.1,
      )

  pub reads : (words : List Text) → Free words
  reads words = (free_and_awaits words).0
