-- From what the parser found to what the words ask for.
use Rattle.std.proofs.Common.{◌≡◌, ◌∙◌, ◌||◌, ℕ, Bool, cond, true, false, refl, sym, ap, ap₂, subst}
use Rattle.std.proofs.Common.{arith, inl, inr, List, [], ◌∷◌, ◌++◌, drop, Option, Some, None}
use Rattle.std.proofs.Common.{Result, Ok, Err, append_assoc, true≢false}
use Rattle.std.proofs.lemmas.List.Elements.{All-cons, All-head, All-tail}
use Rattle.std.proofs.lemmas.Slice.Eq.{bytes_eq-Decides}
use Rattle.std.specs.List.{All, find}
use Rattle.std.specs.Option.{option_and_then, option_map_or}
use Rattle.std.specs.Result.{MatchResult}
use Rattle.std.specs.Str.{bytes_eq}
use Rattle.std.specs.Str.Parse.{digits_value}
use Rattle.clap.specs.Faults.{fault_of, settle_fault}
use Rattle.clap.specs.Kinds.{HasKind, IsAmong, or_else}
use Rattle.clap.specs.Matches.{first_value, one_text}
use Rattle.clap.specs.Simple.{matches_of}
use Rattle.clap.specs.Values.{kind_of}
use Rattle.clap.specs.Walk.{first_of, has_row, one_of, rows_of}
use Rattle.clap.specs.declared.error.Error.{Error}
use Rattle.clap.specs.declared.parser.matches.Found.{Found}
use Rattle.clap.proofs.WalkLemmas.{first_value-rows, one_text-rows}
use Rattle.esc_words.specs.declared.setting.Flag.{Flag}
use Rattle.esc_words.specs.declared.setting.Flag.TheVariants.{Log, Model}
use Rattle.esc_words.specs.declared.setting.Setting.{Setting}
use Rattle.esc_words.specs.declared.setting.Setting.TheVariants.{Depth, Rounds, Facts, Splits}
use Rattle.esc_words.specs.declared.setting.Setting.TheVariants.{Pivots}
use Rattle.esc_options.specs.declared.options.Options.{Options}
use Rattle.esc_words.specs.declared.read.WordsStop.{WordsStop}
use Rattle.esc_words.specs.declared.read.WordsStop.TheVariants as stop
use Rattle.esc_words.specs.CommandInside.{command, settings}
use Rattle.esc_words.specs.FoundInside.{AreAsked, IsAsked, IsShown, IsSomeWrong, IsWrong, StopsBy}
use Rattle.esc_words.specs.Uses.{HasRightValue, IsNumberUpTo, Text, Use, Raised, Set, flag_name}
use Rattle.esc_words.specs.Uses.{is_raised, most_of, name_of, number_in, options_of, setting_name}
use Rattle.esc_words.specs.Uses.{usual_of, value_in, value_of}
use Rattle.esc_words.specs.Words.{AreUses, AreWritten, AsksFor}
use Rattle.esc_words.proofs.BuiltCommand.{arguments, fault_of-command, is_command}
use Rattle.esc_words.proofs.BuiltCommand.{matches_of-command, with_defaults}
use Rattle.esc_words.proofs.Fresh.{fresh_by-once, once_by-fresh}
use Rattle.esc_words.proofs.Lookups.{first_of-defaults, first_of-uses, flag_in-uses, flag_text}
use Rattle.esc_words.proofs.Lookups.{flag≢setting, one_of-defaults, use_at}
use Rattle.esc_words.proofs.Reading.{reads}
use Rattle.esc_words.proofs.Rows.{or_else-parts, rows_for}
use Rattle.esc_words.proofs.Steps.{AreFresh, held_after, walk_kinds}
use Rattle.esc_words.proofs.Taking.{takes}
use Rattle.esc_words.proofs.Walks.{IsNew, free_after}

-- ---- what the parser decides

-- words that are taken use options, each once, with whatever values
pub uses_by-taken : (words : List Text) → fault_of command words ≡ []
    → (uses : List Use) × AreWritten uses (drop 1 words) × AreFresh [] uses
    × (matches_of command words ≡ with_defaults (rows_for uses))
uses_by-taken words none =
    let start = free_after [] None in
    let parts = or_else-parts (walk_kinds arguments start (drop 1 words))
    (settle_fault arguments false (held_after arguments start (drop 1 words)))
    (sym (fault_of-command words) ∙ none) in
    let rest = (reads arguments is_command (drop 1 words) [] None parts.0 parts.1).1 in (
      rest.uses,
      rest.written,
      rest.fresh,
      matches_of-command words ∙ ap with_defaults rest.same,
    )

-- words that use options are taken, and what they use is found
pub taken_by-uses : (words : List Text) (uses : List Use) → AreUses words uses
    → (fault_of command words ≡ []) × (matches_of command words ≡ with_defaults (rows_for uses))
taken_by-uses words uses are =
    let passes = takes arguments is_command uses (drop 1 words) [] None are.written are.values tt
    (fresh_by-once uses are.once) in (
      fault_of-command words ∙ ap₂ or_else passes.walks passes.settles,
      matches_of-command words ∙ ap with_defaults passes.rows,
    )

-- ---- what is found for each option

same_options : (o p : Options) → o.limits.depth ≡ p.limits.depth
    → o.limits.rounds ≡ p.limits.rounds → o.limits.facts ≡ p.limits.facts
    → o.limits.splits ≡ p.limits.splits → o.limits.pivots ≡ p.limits.pivots
    → o.show.log ≡ p.show.log → o.show.model ≡ p.show.model → o ≡ p
same_options o p depth rounds facts splits pivots log model = λ i. record {
  limits = record {
    depth = depth i;
    rounds = rounds i;
    facts = facts i;
    splits = splits i;
    pivots = pivots i;
  };
  show = record {
    log = log i;
    model = model i;
  };
}

module _ (found : Found) (uses : List Use)
    (is : rows_of found ≡ with_defaults (rows_for uses)) where
  pub value_found : (x : Setting) → first_value found (setting_name x) ≡ value_in x uses
  value_found x =
      first_value-rows found (setting_name x) ∙ ap (first_of (setting_name x)) is
      ∙ first_of-defaults x (rows_for uses) ∙ first_of-uses x uses

  flag_found : (f : Flag) → one_text found (flag_name f) ≡ Some (flag_text (is_raised f uses))
  flag_found f =
      one_text-rows found (flag_name f) ∙ ap (one_of (flag_name f)) is
      ∙ one_of-defaults f (rows_for uses) ∙ flag_in-uses f uses

  shown_as : (f : Flag) (shown : Bool) → IsShown found f shown → shown ≡ is_raised f uses
  shown_as f shown told = go (is_raised f uses) (flag_found f)
    where
      go : (b : Bool) → one_text found (flag_name f) ≡ Some (flag_text b) → shown ≡ b
      go true e = told.0 e
      go false e = told.1 e

  set_as : (x : Setting) (n : ℕ) → IsAsked x (first_value found (setting_name x)) n
      → IsAsked x (value_in x uses) n
  set_as x n asked = subst (λ o. IsAsked x o n) (value_found x) asked

  number_as : (x : Setting) (n : ℕ) → IsAsked x (first_value found (setting_name x)) n
      → n ≡ number_in x uses
  number_as x n asked = go (value_in x uses) (set_as x n asked)
    where
      go : (o : Option Text) → IsAsked x o n → n ≡ option_map_or (digits_value 10) o (usual_of x)
      go None e = e
      go (Some v) e = e.1

  options_as : (o : Options) → AreAsked found o → o ≡ options_of uses
  options_as o asked = same_options o (options_of uses)
      (number_as Depth o.limits.depth asked.depth)
      (number_as Rounds o.limits.rounds asked.rounds)
      (number_as Facts o.limits.facts asked.facts)
      (number_as Splits o.limits.splits asked.splits)
      (number_as Pivots o.limits.pivots asked.pivots)
      (shown_as Log o.show.log asked.log)
      (shown_as Model o.show.model asked.model)

  some_number : (o : Options) → AreAsked found o → (x : Setting)
      → (n : ℕ) × IsAsked x (value_in x uses) n
  some_number o asked Depth = (o.limits.depth, set_as Depth o.limits.depth asked.depth)
  some_number o asked Rounds = (o.limits.rounds, set_as Rounds o.limits.rounds asked.rounds)
  some_number o asked Facts = (o.limits.facts, set_as Facts o.limits.facts asked.facts)
  some_number o asked Splits = (o.limits.splits, set_as Splits o.limits.splits asked.splits)
  some_number o asked Pivots = (o.limits.pivots, set_as Pivots o.limits.pivots asked.pivots)

  pub right_value : (o : Options) → AreAsked found o → (x : Setting) (v : Text)
      → value_in x uses ≡ Some v → IsNumberUpTo (most_of x) v
  right_value o asked x v is_v =
      (subst (λ w. IsAsked x w (some_number o asked x).0) is_v (some_number o asked x).1).0

-- ---- right values

-- the value of a use whose name is new is found
value_new : (x : Setting) (v : Text) (done uses : List Use) → IsNew done (Set x v)
    → value_in x (done ++ Set x v ∷ uses) ≡ Some v
value_new x v [] uses new =
    ap (λ b. option_and_then value_of (cond b (Some (Set x v)) (use_at (setting_name x) uses)))
    ((bytes_eq-Decides (setting_name x) (setting_name x)).1 refl)
value_new x v (u ∷ us) uses new =
    go (bytes_eq (name_of u) (setting_name x)) new (value_new x v us uses)
  where
    go : (b : Bool) → (b || has_row (setting_name x) (rows_for us)) ≡ false
        → (IsNew us (Set x v) → value_in x (us ++ Set x v ∷ uses) ≡ Some v)
        → option_and_then value_of
        (cond b (Some u) (use_at (setting_name x) (us ++ Set x v ∷ uses))) ≡ Some v
    go true e behind = absurd (true≢false e)
    go false e behind = behind e

right_values : (done uses : List Use) → AreFresh done uses
    → ((x : Setting) (v : Text) → value_in x (done ++ uses) ≡ Some v → IsNumberUpTo (most_of x) v)
    → All HasRightValue uses
right_values done [] fresh right = λ k d lt. absurd (omega arith)
right_values done (Raised f ∷ uses) fresh right =
    All-cons HasRightValue (Raised f) uses tt
    (right_values (done ++ Raised f ∷ []) uses fresh.1
    (λ x v is. right x v (ap (value_in x) (sym (append_assoc done (Raised f ∷ []) uses)) ∙ is)))
right_values done (Set y w ∷ uses) fresh right =
    All-cons HasRightValue (Set y w) uses (right y w (value_new y w done uses fresh.0))
    (right_values (done ++ Set y w ∷ []) uses fresh.1
    (λ x v is. right x v (ap (value_in x) (sym (append_assoc done (Set y w ∷ []) uses)) ∙ is)))

setting_of : Text → Option Setting
setting_of name = find (λ x. bytes_eq (setting_name x) name) settings

setting_of-name : (x : Setting) → setting_of (setting_name x) ≡ Some x
unfolding setting_of
setting_of-name Depth = refl
setting_of-name Rounds = refl
setting_of-name Facts = refl
setting_of-name Splits = refl
setting_of-name Pivots = refl

same_setting : (x y : Setting) → bytes_eq (setting_name y) (setting_name x) ≡ true → y ≡ x
same_setting x y same =
    some_is (sym (setting_of-name y)
    ∙ ap setting_of ((bytes_eq-Decides (setting_name y) (setting_name x)).0 same)
    ∙ setting_of-name x)
  where
    some_is : Some y ≡ Some x → y ≡ x
    some_is e = cc

-- where all values are right, none is wrong
none_wrong : (x : Setting) (uses : List Use) → All HasRightValue uses → IsWrong x (value_in x uses)
    → ⊥
none_wrong x [] right wrong = wrong
none_wrong x (u ∷ us) right wrong =
    go u (All-head HasRightValue u us right) wrong
    (none_wrong x us (All-tail HasRightValue u us right))
  where
    go : (v : Use) → HasRightValue v → IsWrong x (value_in x (v ∷ us))
        → (IsWrong x (value_in x us) → ⊥) → ⊥
    go (Raised f) here bad behind = behind (subst (IsWrong x)
        (ap (λ b. option_and_then value_of (cond b (Some (Raised f)) (use_at (setting_name x) us)))
        (flag≢setting f x)) bad)
    go (Set y v) here bad behind = at (bytes_eq (setting_name y) (setting_name x)) refl bad
      where
        at : (b : Bool) → bytes_eq (setting_name y) (setting_name x) ≡ b
            → IsWrong x (option_and_then value_of
            (cond b (Some (Set y v)) (use_at (setting_name x) us))) → ⊥
        at true same h = h (subst (λ z. IsNumberUpTo (most_of z) v) (same_setting x y same) here)
        at false same h = behind h

-- ---- answers

module _ (words : List Text) (found : Found) (is : rows_of found ≡ matches_of command words) where
  answered : (o : Options) → fault_of command words ≡ [] → AreAsked found o → AsksFor words (Ok o)
  answered o none asked =
      let taken = uses_by-taken words none in
      let rows = is ∙ taken.3 in (
        taken.0,
        record {
          written = taken.1;
          once = once_by-fresh taken.0 taken.2;
          values = right_values [] taken.0 taken.2 (right_value found taken.0 rows o asked);
        },
        options_as found taken.0 rows o asked,
      )

  unanswered : IsSomeWrong found → (uses : List Use) → AreUses words uses → ⊥
  unanswered wrong uses are =
      none_wrong wrong.0 uses are.values
      (subst (IsWrong wrong.0)
      (value_found found uses (is ∙ (taken_by-uses words uses are).1) wrong.0) wrong.1)

  pub asks_by-found : (r : Result Options WordsStop) → fault_of command words ≡ []
      → MatchResult r (AreAsked found) (λ e. (e ≡ stop.Bad) × IsSomeWrong found) → AsksFor words r
  asks_by-found (Ok o) none told = answered o none told
  asks_by-found (Err stop.Bad) none told = unanswered told.1
  asks_by-found (Err stop.Memory) none told = tt

pub asks_by-refusal : (words : List Text) (e : Error) (r : WordsStop)
    → HasKind (fault_of command words) e → StopsBy (kind_of e) r → AsksFor words (Err r)
asks_by-refusal words e stop.Memory has stops = tt
asks_by-refusal words e stop.Bad has stops = λ uses are.
    elim has [
      | inl memory ↦ stops memory
      | inr among ↦ subst (IsAmong (kind_of e)) (taken_by-uses words uses are).0 among
    ]

-- ---- one meaning

module _ (uses others : List Use)
    (same : with_defaults (rows_for uses) ≡ with_defaults (rows_for others)) where
  same_number : (x : Setting) → number_in x uses ≡ number_in x others
  same_number x = ap (λ o. option_map_or (digits_value 10) o (usual_of x))
      (sym (first_of-defaults x (rows_for uses) ∙ first_of-uses x uses)
      ∙ ap (first_of (setting_name x)) same
      ∙ first_of-defaults x (rows_for others) ∙ first_of-uses x others)

  same_flag : (f : Flag) → is_raised f uses ≡ is_raised f others
  same_flag f = is_same (is_raised f uses) (is_raised f others)
      (sym (one_of-defaults f (rows_for uses) ∙ flag_in-uses f uses)
      ∙ ap (one_of (flag_name f)) same
      ∙ one_of-defaults f (rows_for others) ∙ flag_in-uses f others)
    where
      is_same : (a b : Bool) → Some (flag_text a) ≡ Some (flag_text b) → a ≡ b
      is_same true true e = refl
      is_same true false e = cc
      is_same false true e = cc
      is_same false false e = refl

  same_meaning : options_of uses ≡ options_of others
  same_meaning = same_options (options_of uses) (options_of others) (same_number Depth)
      (same_number Rounds) (same_number Facts) (same_number Splits) (same_number Pivots)
      (same_flag Log) (same_flag Model)

pub asks_for_one : (words : List Text) (uses others : List Use) → AreUses words uses
    → AreUses words others → options_of uses ≡ options_of others
asks_for_one words uses others one other = same_meaning uses others
    (sym (taken_by-uses words uses one).1 ∙ (taken_by-uses words others other).1)
