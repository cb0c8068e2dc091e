-- Commands, by their heads and counts.
use Rattle.std.proofs.Common.{◌≡◌, ℕ, suc, ◌+◌, ◌-◌, ◌<◌, ◌≤◌, ◌++◌, Bool, true, false}
use Rattle.std.proofs.Common.{if◌then◌else◌, List, [], ◌∷◌, map, length, get_or, refl, sym, ◌∙◌, ap}
use Rattle.std.proofs.Common.{subst, arith, append_assoc, Option, Some, None, Err, Result}
use Rattle.std.specs.Prelude.{nat_le}
use Rattle.std.proofs.lemmas.Bool.Decides.{nat_tests}
use denote.Hole.Carrier.{roll}
use Rattle.esc_sexp.specs.declared.sexp.Sexp.{Sexp}
use Rattle.esc_sexp.specs.declared.sexp.Sexp.TheVariants.{Bare, Barred, List as Listed}
use Rattle.esc_sexp.specs.declared.sexp.Sexp.TheOpen.{Sexp-F}
use Rattle.esc_sexp.specs.declared.sexp.Sexp.TheViews.{roll-Sexp, out-roll-Sexp}
use Rattle.esc_term.specs.declared.term.Term.{Term}
use Rattle.esc_term.specs.declared.term.Term.TheVariants.{Var}
use Rattle.esc_read.specs.declared.fault.FormKind.{FormKind}
use Rattle.esc_read.specs.declared.fault.FormKind.TheVariants.{WrongCount, NotAFormula}
use Rattle.esc_read.specs.declared.fault.FormStop.{FormStop}
use Rattle.esc_read.specs.declared.fault.FormStop.TheVariants.{Fault}
use Rattle.esc_names.specs.declared.key.Order.{Order}
use Rattle.esc_read.specs.Reading.{Context, Reading, ReadsBy, ReadsIn, Plain, refuse, give, within}
use Rattle.esc_read.specs.Reading.{◌>>=◌, ◌<$>◌, each, counted}
use Rattle.esc_read.specs.Tokens.{args_of, head_of, place_of, text_of, token_of}
use Rattle.esc_read.specs.Names.{declared, symbol}
use Rattle.esc_read.proofs.Readings.{Plain-refuse}
use Rattle.esc_form.specs.declared.command.Command.{Command}
use Rattle.esc_form.specs.declared.command.Kind.{Kind}
use Rattle.esc_form.specs.declared.command.Kind.TheVariants as kind
use Rattle.esc_form.specs.Formulas.{formula}
use Rattle.esc_form.specs.Commands.{bound_variables, command, command_reading, defined, definition}
use Rattle.esc_form.specs.Commands.{definition_of, is_name, kind_by, meaning, named, named_list}
use Rattle.esc_form.specs.Commands.{named_step, nothing_behind, order_of, pushed, rule}
use Rattle.esc_form.specs.declared.definition.Named.{Named}

pub kind_is : {t u : Context} {r : Result Kind FormStop} (e : Sexp) (o : Option Order)
    → o ≡ order_of (head_of e) → ReadsIn t u r (kind_by o e)
    → ReadsIn t u r (kind_by (order_of (head_of e)) e)
kind_is {t} {u} {r} e o is p = subst (λ x. ReadsIn t u r (kind_by x e)) is p

one_or_more : (n : ℕ) → nat_le 1 (suc n) ≡ true
one_or_more n = grind (arith, nat_tests)

pub pushed_none : (place : ℕ) (es : List Sexp) → length es ≡ 0
    → pushed place es ≡ refuse WrongCount place
pushed_none place [] h = refl
pushed_none place (e ∷ es) h = cc

pub pushed_some : (place : ℕ) (es : List Sexp) → (length es ≡ 0 → ⊥)
    → pushed place es ≡ (kind.Push <$> each (map formula es))
pushed_some place [] h = absurd (h refl)
pushed_some place (e ∷ es) h =
    ap (λ b. counted b place (kind.Push <$> each (map formula (e ∷ es)))) (one_or_more (length es))

pub alone_yes : (k : Kind) (place : ℕ) (es : List Sexp) → length es ≡ 0
    → nothing_behind k place es ≡ give k
alone_yes k place [] h = refl
alone_yes k place (e ∷ es) h = cc

pub alone_no : (k : Kind) (place : ℕ) (es : List Sexp) → (length es ≡ 0 → ⊥)
    → nothing_behind k place es ≡ refuse WrongCount place
alone_no k place [] h = absurd (h refl)
alone_no k place (e ∷ es) h = refl

pub refused_plain : {A : Type 0} {s : FormStop} {kind : FormKind} {place : ℕ}
    → s ≡ Fault (record { kind = kind; place = place }) → Plain {A = A} (Err s) (refuse kind place)
refused_plain {kind = kind} {place} e = rw e (Plain-refuse kind place)

pub no_definition : (place : ℕ) (es : List Sexp) → length es < 1
    → defined place es ≡ refuse WrongCount place
no_definition place [] h = refl
no_definition place (e ∷ es) h = absurd (omega arith)

pub long_definition : (place : ℕ) (es : List Sexp) (e : Sexp) (bodies : List Sexp) → es ≡ e ∷ bodies
    → 1 < length bodies → defined place es ≡ refuse WrongCount place
long_definition place es e bodies is h =
    let no : nat_le (length bodies) 1 ≡ false = grind (arith, nat_tests) in
    ap (defined place) is ∙ ap (λ b. counted b place (definition e bodies)) no

pub one_definition : (place : ℕ) (es : List Sexp) (e : Sexp) (bodies : List Sexp) → es ≡ e ∷ bodies
    → length bodies ≤ 1
    → defined place es
    ≡ (named e >>=
    (λ p. declared [] (args_of e) >>= (λ own. within own (meaning p (length own) bodies))))
one_definition place es e bodies is h =
    let yes_ : nat_le (length bodies) 1 ≡ true = grind (arith, nat_tests) in
    ap (defined place) is ∙ ap (λ b. counted b place (definition e bodies)) yes_

pub no_meaning : (p : Named) (count : ℕ) (es : List Sexp) → length es < 1
    → meaning p count es ≡ give (definition_of p count None)
no_meaning p count [] h = refl
no_meaning p count (e ∷ es) h = absurd (omega arith)

pub some_meaning : (p : Named) (count : ℕ) (es : List Sexp) (e : Sexp) → 1 ≤ length es
    → e ≡ get_or es 0 e
    → meaning p count es
    ≡ (formula e >>= (λ body. give (definition_of p count (Some (rule p count body)))))
some_meaning p count [] e h is = absurd (omega arith)
some_meaning p count (f ∷ es) e h is =
    ap (λ x. formula x >>= (λ body. give (definition_of p count (Some (rule p count body)))))
    (sym is)

named-List : (place : ℕ) (items : List Sexp)
    → named (Listed place items) ≡ named_list (place_of (Listed place items)) items
unfolding named roll-Sexp roll
named-List place items =
    ap (named_step (place_of (Listed place items))) (out-roll-Sexp (Sexp-F.List place items))

named-Bare : (place : ℕ) (text : List ℕ)
    → named (Bare place text) ≡ refuse NotAFormula (place_of (Bare place text))
unfolding named roll-Sexp roll
named-Bare place text =
    ap (named_step (place_of (Bare place text))) (out-roll-Sexp (Sexp-F.Bare place text))

named-Barred : (place : ℕ) (text : List ℕ)
    → named (Barred place text) ≡ refuse NotAFormula (place_of (Barred place text))
unfolding named roll-Sexp roll
named-Barred place text =
    ap (named_step (place_of (Barred place text))) (out-roll-Sexp (Sexp-F.Barred place text))

pub listed_name : (e : Sexp) (place : ℕ) (items slice : List Sexp) → e ≡ Listed place items
    → slice ≡ items → named e ≡ named_list (place_of e) slice
listed_name e place items slice is same =
    ap named is ∙ named-List place items ∙ ap (λ x. named_list (place_of x) items) (sym is)
    ∙ ap (named_list (place_of e)) (sym same)

pub bare_name : (e : Sexp) (place : ℕ) (text : List ℕ) → e ≡ Bare place text
    → named e ≡ refuse NotAFormula (place_of e)
bare_name e place text is =
    ap named is ∙ named-Bare place text ∙ ap (λ x. refuse NotAFormula (place_of x)) (sym is)

pub barred_name : (e : Sexp) (place : ℕ) (text : List ℕ) → e ≡ Barred place text
    → named e ≡ refuse NotAFormula (place_of e)
barred_name e place text is =
    ap named is ∙ named-Barred place text ∙ ap (λ x. refuse NotAFormula (place_of x)) (sym is)

pub empty_name : (place : ℕ) (es : List Sexp) → length es < 1
    → named_list place es ≡ refuse NotAFormula place
empty_name place [] h = refl
empty_name place (e ∷ es) h = absurd (omega arith)

abbrev taken : Sexp → Reading Named
taken f =
    symbol (place_of f) (text_of f) >>= (λ name. give (record { name = name; place = place_of f }))

by_head : (place : ℕ) (es : List Sexp) (f : Sexp) (b : Bool) → 1 ≤ length es → f ≡ get_or es 0 f
    → b ≡ is_name (token_of f)
    → named_list place es ≡ (if b then taken f else refuse NotAFormula place)
by_head place [] f b h is e = absurd (omega arith)
by_head place (g ∷ es) f b h is e =
    ap (λ x. if is_name (token_of x) then taken x else refuse NotAFormula place) (sym is)
    ∙ ap (λ c. if c then taken f else refuse NotAFormula place) (sym e)

pub other_name : (place : ℕ) (es : List Sexp) (f : Sexp) → 1 ≤ length es → f ≡ get_or es 0 f
    → false ≡ is_name (token_of f)
    → named_list place es ≡ refuse NotAFormula place
other_name place es f h is e = by_head place es f false h is e

pub named_name : (place : ℕ) (es : List Sexp) (f : Sexp) → 1 ≤ length es → f ≡ get_or es 0 f
    → true ≡ is_name (token_of f)
    → named_list place es
    ≡ (symbol (place_of f) (text_of f) >>=
    (λ name. give (record { name = name; place = place_of f })))
named_name place es f h is e = by_head place es f true h is e

-- ---- the variables of a predicate

one_variable : (n : ℕ) (m : ℕ) → n ≡ suc m → bound_variables n ≡ Var m ∷ bound_variables m
one_variable n m e = ap bound_variables e

pub more_variables : (so_far : List Term) (count at : ℕ) → at < count
    → so_far ++ bound_variables (count - at) ≡ bound_variables count
    → (so_far ++ Var (count - 1 - at) ∷ []) ++ bound_variables (count - (at + 1))
    ≡ bound_variables count
more_variables so_far count at h e =
    append_assoc so_far (Var (count - 1 - at) ∷ []) (bound_variables (count - (at + 1)))
    ∙ ap (λ l. so_far ++ l)
    (ap (λ n. Var n ∷ bound_variables (count - (at + 1))) (omega arith)
    ∙ sym (one_variable (count - at) (count - (at + 1)) (omega arith))) ∙ e

-- ---- the whole command

-- what a reader that took over the table reads with no variable in scope
pub command_is : {t u : Context} {r : Result Command FormStop} (e : Sexp)
    (before after : List (List ℕ))
    → t ≡ record { names = before; scope = [] } → after ≡ u.names
    → ReadsIn t u r (command_reading e) → ReadsBy before after r (command e)
command_is {t} {u} {r} e before after is same p =
    subst (λ table. ReadsBy before table r (command e)) (sym same)
    (subst (λ (c : Context). ReadsBy c.names u.names r (command_reading e c.scope)) is p.reads)
