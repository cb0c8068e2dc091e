use Rattle.std.proofs.Common.{◌≡◌, ◌∙◌, ap, ap₂, refl, subst, true, false, codes, List, Result, Ok}
use Rattle.std.proofs.Common.{Err, IfOk}
use Rattle.clap.specs.Built.{AddsArg}
use Rattle.clap.specs.Faults.{fault_of, is_simple_and_free}
use Rattle.clap.specs.Kinds.{FailsBy}
use Rattle.clap.specs.Matches.{found_of}
use Rattle.clap.specs.Simple.{App, HasMatchesOf, app_of, app_of_fields, is_simple, matches_of}
use Rattle.clap.specs.Simple.{new_app, on_top, with_rule}
use Rattle.clap.specs.Walk.{Rule, Text, rows_of, rule_of}
use Rattle.clap.specs.declared.builder.arg.Arg.{Arg}
use Rattle.clap.specs.declared.builder.command.Command.{Command}
use Rattle.clap.specs.declared.error.Error.{Error}
use Rattle.clap.specs.declared.parser.matches.ArgMatches.{ArgMatches}
use Rattle.esc_words.specs.CommandInside.{command, flag_rule, setting_rule}
use Rattle.esc_words.proofs.command.matches_in.Goals as goal

-- one argument more
added : {old new : Command} {a : Arg} {app : App} {r : Rule} → app_of old ≡ app
    → AddsArg old a new → a.global ≡ false → rule_of a ≡ r → app_of new ≡ with_rule app r
added was adds local is = adds.shape local ∙ ap₂ with_rule was is

abbrev empty : App
empty = on_top (λ s. record s { disable_help_flag = true }) (new_app (codes "simplify"))

rows_are : (a : App) (c : Command) (words : List Text) (r : Result ArgMatches Error) → app_of c ≡ a
    → is_simple a ≡ true → IfOk r (HasMatchesOf (app_of c) words)
    → IfOk r (λ m. rows_of (found_of m) ≡ matches_of a words)
rows_are a c words (Ok m) is simple has =
    (subst (λ b. HasMatchesOf b words m) is has simple).0
rows_are a c words (Err e) is simple has = tt

fails_by : (a : App) (c : Command) (words : List Text) (r : Result ArgMatches Error) → app_of c ≡ a
    → is_simple_and_free a ≡ true
    → (is_simple_and_free (app_of c) ≡ true → FailsBy (fault_of (app_of c) words) r)
    → FailsBy (fault_of a words) r
fails_by a c words r is simple fails =
    subst (λ b. is_simple_and_free b ≡ true → FailsBy (fault_of b words) r) is fails simple

is_simple_command : is_simple command ≡ true
is_simple_command = refl

is_free_command : is_simple_and_free command ≡ true
is_free_command = refl

pub returns : goal.returns
returns c =
    let parse = c.try_get_matches_from in
    let start : app_of c.disable_help_flag.result ≡ empty =
    ap app_of_fields c.disable_help_flag.ensures
    ∙ ap (on_top (λ s. record s { disable_help_flag = true })) c.new.ensures.app in
    let log = added start c.in_ok-arg.ensures c.flag_argument.ensures.local
    (c.flag_argument.ensures.rule ∙ ap flag_rule c.name.ensures) in
    let model = added log c.in_ok-arg-2.ensures c.flag_argument-2.ensures.local
    (c.flag_argument-2.ensures.rule ∙ ap flag_rule c.name-2.ensures) in
    let depth = added model c.in_ok-arg-3.ensures c.setting_argument.ensures.local
    (c.setting_argument.ensures.rule ∙ ap setting_rule c.name-3.ensures) in
    let rounds = added depth c.in_ok-arg-4.ensures c.setting_argument-2.ensures.local
    (c.setting_argument-2.ensures.rule ∙ ap setting_rule c.name-4.ensures) in
    let facts = added rounds c.in_ok-arg-5.ensures c.setting_argument-3.ensures.local
    (c.setting_argument-3.ensures.rule ∙ ap setting_rule c.name-5.ensures) in
    let splits = added facts c.in_ok-arg-6.ensures c.setting_argument-4.ensures.local
    (c.setting_argument-4.ensures.rule ∙ ap setting_rule c.name-6.ensures) in
    let pivots = added splits c.in_ok-command.ensures c.setting_argument-5.ensures.local
    (c.setting_argument-5.ensures.rule ∙ ap setting_rule c.name-7.ensures) in
    record {
      rows = rows_are command _ _ _ pivots is_simple_command parse.ensures.matches;
      kinds = fails_by command _ _ _ pivots is_free_command parse.ensures.kinds;
    }
