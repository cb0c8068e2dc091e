-- Lists as terms, by the number of their arguments.
use Rattle.std.proofs.Common.{◌≡◌, ℕ, true, false, List, [], ◌∷◌, map, length, ◌<◌, refl, sym, ◌∙◌}
use Rattle.std.proofs.Common.{ap}
use Rattle.std.proofs.lemmas.List.{length-map}
use Rattle.esc_sexp.specs.declared.sexp.Sexp.{Sexp}
use Rattle.esc_sexp.specs.declared.sexp.Sexp.TheVariants.{List as Listed}
use Rattle.esc_term.specs.declared.term.Head.TheVariants as head
use Rattle.esc_term.specs.declared.term.Term.{Term}
use Rattle.esc_term.specs.declared.term.Term.TheVariants.{App}
use Rattle.esc_read.specs.declared.fault.FormKind.TheVariants.{WrongCount, EmptyList}
use Rattle.esc_names.specs.declared.key.Operator.{Operator}
use Rattle.esc_read.specs.Reading.{Reading, refuse, ◌>>=◌, ◌<$>◌, each, counted}
use Rattle.esc_read.specs.Tokens.{token_of}
use Rattle.esc_read.specs.Names.{symbol}
use Rattle.esc_read.specs.Terms.{application, calculation, list_term, list_term_by, operation}
use Rattle.esc_read.specs.Terms.{takes, term, term_head}
use Rattle.esc_read.specs.declared.term.TermHead.{TermHead}
use Rattle.esc_read.proofs.Levels.{term-List}
use Rattle.esc_read.proofs.Slices.{empty}

-- a head with arguments
pub applied : (place : ℕ) (text : List ℕ) (reading : Sexp → Reading Term) (args : List Sexp)
    → (length args ≡ 0 → ⊥)
    → application place text (map reading args)
    ≡ (symbol place text >>= (λ name. (App (head.Name name)) <$> each (map reading args)))
applied place text reading [] some = absurd (some refl)
applied place text reading (arg ∷ args) some = refl

pub counts_right : (op : Operator) (place : ℕ) (reading : Sexp → Reading Term) (args : List Sexp)
    → true ≡ takes op (length args)
    → calculation op place (map reading args) ≡ ((App (operation op)) <$> each (map reading args))
counts_right op place reading args e =
    ap (λ b. counted b place ((App (operation op)) <$> each (map reading args)))
    (ap (takes op) (length-map args reading) ∙ sym e)

pub counts_wrong : (op : Operator) (place : ℕ) (reading : Sexp → Reading Term) (args : List Sexp)
    → false ≡ takes op (length args)
    → calculation op place (map reading args) ≡ refuse WrongCount place
counts_wrong op place reading args e =
    ap (λ b. counted b place ((App (operation op)) <$> each (map reading args)))
    (ap (takes op) (length-map args reading) ∙ sym e)

-- a list with a head, as a slice gives it
pub headed : (e : Sexp) (place : ℕ) (items slice : List Sexp) (f : Sexp) (args : List Sexp)
    (h : TermHead)
    → e ≡ Listed place items → slice ≡ items → slice ≡ f ∷ args → h ≡ term_head (token_of f)
    → term e ≡ list_term_by h place f (map term args)
headed e place items slice f args h is same parts kind =
    ap term is ∙ term-List place items ∙ ap (λ l. list_term place l (map term l)) (sym same ∙ parts)
    ∙ ap (λ k. list_term_by k place f (map term args)) (sym kind)

pub unheaded : (e : Sexp) (place : ℕ) (items slice : List Sexp) → e ≡ Listed place items
    → slice ≡ items → length slice < 1 → term e ≡ refuse EmptyList place
unheaded e place items slice is same none =
    ap term is ∙ term-List place items
    ∙ ap (λ l. list_term place l (map term l)) (sym same ∙ empty slice none)
