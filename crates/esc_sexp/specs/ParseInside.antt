-- How reading goes on, byte by byte.
use Rattle.std.specs.Prelude.{ℕ, ◌-◌, Bool, true, false, ◌&&◌, ◌||◌, ◌==◌, nat_le, if◌then◌else◌}
use Rattle.std.specs.Prelude.{List, [], ◌∷◌, ◌++◌, length, map, reverse}
use Rattle.esc_sexp.specs.Bytes.{class_of, is_bare, is_printable}
use Rattle.esc_sexp.specs.Grammar.{max_depth, max_length, is_any, token_goes_on}
use Rattle.esc_sexp.specs.Bytes.{Class}
use Rattle.esc_sexp.specs.Bytes as class
use Rattle.esc_sexp.specs.declared.sexp.Sexp.{Sexp}
use Rattle.esc_sexp.specs.declared.sexp.Sexp.TheVariants as sexp
use Rattle.esc_sexp.specs.declared.sexp.SexpKind.{SexpKind}
use Rattle.esc_sexp.specs.declared.sexp.SexpKind.TheVariants.{Unclosed, StrayClose, BadByte}
use Rattle.esc_sexp.specs.declared.sexp.SexpKind.TheVariants.{OpenBar, TooDeep, TooLong}
use Rattle.esc_sexp.specs.declared.sexp.SexpFault.{SexpFault}
use Rattle.esc_sexp.specs.Begun.{OpenList, Token, between, comment, bare, barred}
use Rattle.esc_sexp.specs.declared.byte.Class as byte_class
use Rattle.esc_sexp.specs.declared.byte.Class.TheVariants as seen
use Rattle.esc_sexp.specs.declared.parse.OpenList as parse_list
use Rattle.esc_sexp.specs.declared.parse.Token as parse_token
use Rattle.esc_sexp.specs.declared.parse.Token.TheVariants as parsed
use Rattle.esc_sexp.specs.declared.parse.Parse.{Parse}
use Rattle.esc_sexp.specs.declared.parse.End.{End}
use Rattle.esc_sexp.specs.declared.parse.End.TheVariants as end
use Rattle.esc_sexp.specs.declared.parse.Step.{Step}
use Rattle.esc_sexp.specs.declared.parse.Step.TheVariants as step

abbrev pub class_seen : byte_class.Class → Class
class_seen seen.Blank = class.blank
class_seen seen.Semicolon = class.semicolon
class_seen seen.Opening = class.opening
class_seen seen.Closing = class.closing
class_seen seen.Bar = class.bar
class_seen seen.Bare = class.bare
class_seen seen.Bad = class.bad

-- what has begun: the place of the expression's first byte, the open lists, the innermost first,
-- and the unfinished token
pub record Standing : Type 0 where
  pub from : ℕ
  pub opens : List OpenList
  pub token : Token

abbrev pub opened : parse_list.OpenList → OpenList
opened o = record { place = o.place; items = o.items }

-- the open lists of a parse, the innermost first
unfoldable pub opens_of : List parse_list.OpenList → List OpenList
opens_of opens = reverse (map opened opens)

abbrev pub token_of : parse_token.Token → Token
token_of parsed.Between = between
token_of parsed.Comment = comment
token_of (parsed.Bare at text) = bare at text
token_of (parsed.Barred at text) = barred at text

abbrev pub standing : Parse → Standing
standing p = record { from = p.from; opens = opens_of p.opens; token = token_of p.token }

abbrev pub nothing_begun : Standing
nothing_begun = record { from = 0; opens = []; token = between }

-- what one byte more makes
pub data After : Type 0 where
  goes : Standing → After
  ended : Sexp → After
  closed : Sexp → After
  wrong : SexpKind → After

abbrev pub after : Step → Standing → After
after step.Goes s = goes s
after (step.Ended e) s = ended e
after (step.Closed e) s = closed e
after (step.Wrong kind) s = wrong kind

abbrev pub has_open : Standing → Bool
has_open s = is_any s.opens

abbrev pub is_text : Token → Bool
is_text (bare at text) = true
is_text (barred at text) = true
is_text token = false

-- an expression has begun
abbrev pub has_begun : Standing → Bool
has_begun s = has_open s || is_text s.token

abbrev pub added : List OpenList → Sexp → List OpenList
added [] e = []
added (o ∷ os) e = record o { items = o.items ++ e ∷ [] } ∷ os

-- with the expression at the end of the innermost list
abbrev pub with_sexp : Standing → Sexp → Standing
with_sexp s e = record s { opens = added s.opens e }

abbrev pub closing : Standing → List OpenList → After
closing s [] = wrong StrayClose
closing s (o ∷ []) = closed (sexp.List o.place o.items)
closing s (o ∷ p ∷ os) = goes (with_sexp (record s { opens = p ∷ os }) (sexp.List o.place o.items))

-- the innermost list closed
abbrev pub closes : Standing → After
closes s = closing s s.opens

abbrev pub starting : Standing → ℕ → ℕ → Class → After
starting s place b class.blank = goes s
starting s place b class.semicolon = goes (record s { token = comment })
starting s place b class.opening = if length s.opens == max_depth then wrong TooDeep
    else goes (record s { opens = record { place = place; items = [] } ∷ s.opens })
starting s place b class.closing = closes s
starting s place b class.bar = goes (record s { token = barred place [] })
starting s place b class.bare = goes (record s { token = bare place (b ∷ []) })
starting s place b class.bad = wrong BadByte

-- a byte between tokens
unfoldable pub starts : Standing → ℕ → ℕ → After
starts s place b =
    starting (if has_open s then s else record s { from = place }) place b (class_of b)

unfoldable pub bare_goes : Standing → ℕ → List ℕ → ℕ → ℕ → After
bare_goes s at text place b =
    if is_bare b then goes (record s { token = bare at (text ++ b ∷ []) })
    else (
    if has_open s then starts (with_sexp s (sexp.Bare at text)) place b
    else ended (sexp.Bare at text))

unfoldable pub barred_goes : Standing → ℕ → List ℕ → ℕ → After
barred_goes s at text b =
    if b == 124 then (
    if has_open s then goes (with_sexp s (sexp.Barred at text))
    else closed (sexp.Barred at text))
    else (
    if is_printable b then goes (record s { token = barred at (text ++ b ∷ []) })
    else wrong BadByte)

-- the byte would make the expression longer than it may be
unfoldable pub is_too_long : Standing → ℕ → ℕ → Bool
is_too_long s place b =
    nat_le max_length (place - s.from) && (has_open s || token_goes_on s.token b)

abbrev pub taking : Standing → Token → ℕ → ℕ → After
taking s between place b = starts s place b
taking s comment place b = goes (if b == 10 then s else record s { token = comment })
taking s (bare at text) place b = bare_goes s at text place b
taking s (barred at text) place b = barred_goes s at text b

-- a byte at its place
unfoldable pub steps : Standing → ℕ → ℕ → After
steps s place b = if is_too_long s place b then wrong TooLong
    else taking (record s { token = between }) s.token place b

-- what the end of the input makes
pub data AtEnd : Type 0 where
  nothing : AtEnd
  whole : Sexp → AtEnd
  broken : SexpFault → AtEnd

abbrev pub end_of : End → AtEnd
end_of end.Nothing = nothing
end_of (end.Whole e) = whole e
end_of (end.Wrong f) = broken f

abbrev pub ending : Standing → Token → AtEnd
ending s (barred at text) = broken (record { kind = OpenBar; place = at })
ending s (bare at text) = if has_open s then broken (record { kind = Unclosed; place = s.from })
    else whole (sexp.Bare at text)
ending s token = if has_open s then broken (record { kind = Unclosed; place = s.from }) else nothing

abbrev pub ends : Standing → AtEnd
ends s = ending s s.token
