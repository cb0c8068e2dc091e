-- What each function of an expression gives at each form of expression.
use Rattle.std.proofs.Common.{◌≡◌, ℕ, List, [], ◌∷◌, map, drop, ap, ap₂, refl, ◌∙◌}
use Rattle.esc_sexp.specs.declared.sexp.Sexp.{Sexp}
use Rattle.esc_sexp.specs.declared.sexp.Sexp.TheVariants.{Bare, Barred, List as Listed}
use Rattle.esc_sexp.specs.declared.sexp.Sexp.TheOpen.{Sexp-F}
use Rattle.esc_sexp.specs.declared.sexp.Sexp.TheViews.{roll-Sexp, out-roll-Sexp}
use Rattle.esc_sexp.specs.declared.sexp.Sexp.TheFolds.{para-roll-Sexp}
use denote.Hole.Carrier.{roll}
use Rattle.esc_read.specs.declared.token.Token.TheVariants as token
use Rattle.esc_term.specs.declared.term.Term.{Term}
use Rattle.esc_read.specs.declared.fault.FormKind.TheVariants.{NotATerm}
use Rattle.esc_read.specs.Reading.{Reading, refuse}
use Rattle.esc_read.specs.Tokens.{bare_token, token_step, token_of, place_step, place_of, text_step}
use Rattle.esc_read.specs.Tokens.{text_of, first_token, head_step, head_of, args_step, args_of}
use Rattle.esc_read.specs.Names.{declared, variables_step, variables}
use Rattle.esc_read.specs.Terms.{bare_term, name_term, list_term, term_step, term}

pub token_of-Bare : (place : ℕ) (text : List ℕ) → token_of (Bare place text) ≡ bare_token text
unfolding token_of roll-Sexp roll
token_of-Bare place text = ap token_step (out-roll-Sexp (Sexp-F.Bare place text))

pub token_of-Barred : (place : ℕ) (text : List ℕ) → token_of (Barred place text) ≡ token.Name
unfolding token_of roll-Sexp roll
token_of-Barred place text = ap token_step (out-roll-Sexp (Sexp-F.Barred place text))

pub token_of-List : (place : ℕ) (items : List Sexp) → token_of (Listed place items) ≡ token.List
unfolding token_of roll-Sexp roll
token_of-List place items = ap token_step (out-roll-Sexp (Sexp-F.List place items))

pub place_of-Bare : (place : ℕ) (text : List ℕ) → place_of (Bare place text) ≡ place
unfolding place_of roll-Sexp roll
place_of-Bare place text = ap place_step (out-roll-Sexp (Sexp-F.Bare place text))

pub place_of-Barred : (place : ℕ) (text : List ℕ) → place_of (Barred place text) ≡ place
unfolding place_of roll-Sexp roll
place_of-Barred place text = ap place_step (out-roll-Sexp (Sexp-F.Barred place text))

pub place_of-List : (place : ℕ) (items : List Sexp) → place_of (Listed place items) ≡ place
unfolding place_of roll-Sexp roll
place_of-List place items = ap place_step (out-roll-Sexp (Sexp-F.List place items))

pub text_of-Bare : (place : ℕ) (text : List ℕ) → text_of (Bare place text) ≡ text
unfolding text_of roll-Sexp roll
text_of-Bare place text = ap text_step (out-roll-Sexp (Sexp-F.Bare place text))

pub text_of-Barred : (place : ℕ) (text : List ℕ) → text_of (Barred place text) ≡ text
unfolding text_of roll-Sexp roll
text_of-Barred place text = ap text_step (out-roll-Sexp (Sexp-F.Barred place text))

pub text_of-List : (place : ℕ) (items : List Sexp) → text_of (Listed place items) ≡ []
unfolding text_of roll-Sexp roll
text_of-List place items = ap text_step (out-roll-Sexp (Sexp-F.List place items))

pub ruleset token_levels = (
  token_of-Bare,
  token_of-Barred,
  token_of-List,
  place_of-Bare,
  place_of-Barred,
  place_of-List,
  text_of-Bare,
  text_of-Barred,
  text_of-List,
)

pub head_of-Bare : (place : ℕ) (text : List ℕ) → head_of (Bare place text) ≡ token.List
unfolding head_of roll-Sexp roll
head_of-Bare place text = ap head_step (out-roll-Sexp (Sexp-F.Bare place text))

pub head_of-Barred : (place : ℕ) (text : List ℕ) → head_of (Barred place text) ≡ token.List
unfolding head_of roll-Sexp roll
head_of-Barred place text = ap head_step (out-roll-Sexp (Sexp-F.Barred place text))

pub head_of-List : (place : ℕ) (items : List Sexp)
    → head_of (Listed place items) ≡ first_token items
unfolding head_of roll-Sexp roll
head_of-List place items = ap head_step (out-roll-Sexp (Sexp-F.List place items))

pub args_of-Bare : (place : ℕ) (text : List ℕ) → args_of (Bare place text) ≡ []
unfolding args_of roll-Sexp roll
args_of-Bare place text = ap args_step (out-roll-Sexp (Sexp-F.Bare place text))

pub args_of-Barred : (place : ℕ) (text : List ℕ) → args_of (Barred place text) ≡ []
unfolding args_of roll-Sexp roll
args_of-Barred place text = ap args_step (out-roll-Sexp (Sexp-F.Barred place text))

pub args_of-List : (place : ℕ) (items : List Sexp) → args_of (Listed place items) ≡ drop 1 items
unfolding args_of roll-Sexp roll
args_of-List place items = ap args_step (out-roll-Sexp (Sexp-F.List place items))

pub ruleset head_levels =
    (head_of-Bare, head_of-Barred, head_of-List, args_of-Bare, args_of-Barred, args_of-List)

pub variables-Bare : (place : ℕ) (text : List ℕ)
    → variables (Bare place text) ≡ refuse NotATerm (place_of (Bare place text))
unfolding variables roll-Sexp roll
variables-Bare place text =
    ap (variables_step (place_of (Bare place text))) (out-roll-Sexp (Sexp-F.Bare place text))

pub variables-Barred : (place : ℕ) (text : List ℕ)
    → variables (Barred place text) ≡ refuse NotATerm (place_of (Barred place text))
unfolding variables roll-Sexp roll
variables-Barred place text =
    ap (variables_step (place_of (Barred place text))) (out-roll-Sexp (Sexp-F.Barred place text))

pub variables-List : (place : ℕ) (items : List Sexp)
    → variables (Listed place items) ≡ declared [] items
unfolding variables roll-Sexp roll
variables-List place items =
    ap (variables_step (place_of (Listed place items))) (out-roll-Sexp (Sexp-F.List place items))

pub ruleset variable_levels = (variables-Bare, variables-Barred, variables-List)

first-pairs : {X A : Type 0} (f : X → A) (xs : List X)
    → map (λ (p : X × A). p.0) (map (λ x. (x, f x)) xs) ≡ xs
first-pairs f [] = refl
first-pairs f (x ∷ xs) = ap (λ ys. x ∷ ys) (first-pairs f xs)

second-pairs : {X A : Type 0} (f : X → A) (xs : List X)
    → map (λ (p : X × A). p.1) (map (λ x. (x, f x)) xs) ≡ map f xs
second-pairs f [] = refl
second-pairs f (x ∷ xs) = ap (λ ys. f x ∷ ys) (second-pairs f xs)

pub term-Bare : (place : ℕ) (text : List ℕ) → term (Bare place text) ≡ bare_term place text
unfolding term roll-Sexp roll
term-Bare place text = para-roll-Sexp (Reading Term) term_step (Sexp-F.Bare place text)

pub term-Barred : (place : ℕ) (text : List ℕ) → term (Barred place text) ≡ name_term place text
unfolding term roll-Sexp roll
term-Barred place text = para-roll-Sexp (Reading Term) term_step (Sexp-F.Barred place text)

pub term-List : (place : ℕ) (items : List Sexp)
    → term (Listed place items) ≡ list_term place items (map term items)
unfolding term roll-Sexp roll
term-List place items =
    para-roll-Sexp (Reading Term) term_step (Sexp-F.List place items)
    ∙ ap₂ (list_term place) (first-pairs term items) (second-pairs term items)

pub ruleset term_levels = (term-Bare, term-Barred, term-List)
