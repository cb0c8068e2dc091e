-- The variables of a term that is read are in scope.
use Rattle.std.proofs.Common.{◌≡◌, ℕ, Bool, true, false, cond, if◌then◌else◌, ◌&&◌, nat_lt, List}
use Rattle.std.proofs.Common.{[], ◌∷◌, map, length, refl, sym, ◌∙◌, ap, subst, Option, Some, None}
use Rattle.std.proofs.Common.{Ok, Err}
use Rattle.std.specs.List.{list_all, position, position_or_len}
use Rattle.std.specs.Str.{bytes_eq}
use denote.Hole.Carrier.{roll}
use Rattle.esc_sexp.specs.declared.sexp.Sexp.{Sexp}
use Rattle.esc_sexp.specs.declared.sexp.Sexp.TheOpen.{Sexp-F}
use Rattle.esc_sexp.specs.declared.sexp.Sexp.TheViews.{roll-Sexp}
use Rattle.esc_sexp.specs.declared.sexp.Sexp.TheFolds.{ind-Sexp, map-Sexp}
use Rattle.esc_term.specs.declared.term.Head.{Head}
use Rattle.esc_term.specs.declared.term.Head.TheVariants as head
use Rattle.esc_term.specs.declared.term.Term.{Term}
use Rattle.esc_term.specs.declared.term.Term.TheVariants.{Num, Var, App}
use Rattle.esc_term.specs.Term.{binds_term}
use Rattle.esc_term.proofs.TermLevels.{binds_term-Num, binds_term-Var, binds_term-App}
use Rattle.esc_read.specs.declared.fault.FormKind.{FormKind}
use Rattle.esc_read.specs.declared.fault.FormKind.TheVariants.{NumberTooLarge}
use Rattle.esc_read.specs.declared.token.Token.{Token}
use Rattle.esc_read.specs.declared.token.Token.TheVariants as token
use Rattle.esc_read.specs.declared.term.TermHead.{TermHead}
use Rattle.esc_read.specs.declared.term.TermHead.TheVariants as by
use Rattle.esc_read.specs.Reading.{Numbering, Outcome, Reading, Variables, depth_of, give, refuse}
use Rattle.esc_read.specs.Reading.{name_number, and_then, ◌>>=◌, ◌<$>◌, each, counted}
use Rattle.esc_names.specs.BareNames.{digits_of}
use Rattle.esc_read.specs.Tokens.{bare_token, decimal_value, numeral, place_of, text_of, token_of}
use Rattle.esc_read.specs.Names.{permit, symbol}
use Rattle.esc_read.specs.Terms.{application, bare_term, bare_term_by, largest, list_term}
use Rattle.esc_read.specs.Terms.{list_term_by, name_term, numeral_term, operation, takes, term}
use Rattle.esc_read.specs.Terms.{term_head, variable_or_constant}
use Rattle.esc_read.proofs.Levels.{term-Bare, term-Barred, term-List}
use Rattle.std.specs.Prelude.{nat_le}

-- ---- what was read before

-- a reading that gave a value went through its first part
pub record Went {A B : Type 0} (first : Reading A) (next : A → Reading B) (scope : Variables)
    (number : Numbering) (value : B) : Type 0 where
  pub part : A
  pub gave : first scope number ≡ Ok part
  pub rest : next part scope number ≡ Ok value

went_at : {A B : Type 0} (o : Outcome A) (next : A → Outcome B) (value : B)
    → and_then o next ≡ Ok value
    → (a : A) × (o ≡ Ok a) × (next a ≡ Ok value)
went_at (Ok a) next value e = (a, refl, e)
went_at (Err f) next value e = cc

pub went : {A B : Type 0} (first : Reading A) (next : A → Reading B) (scope : Variables)
    (number : Numbering) (value : B)
    → (first >>= next) scope number ≡ Ok value → Went first next scope number value
unfolding ◌>>=◌
went first next scope number value e =
    let w = went_at (first scope number) (λ a. next a scope number) value e in
    record { part = w.0; gave = w.1; rest = w.2 }

pub gave : {A : Type 0} (a b : A) (scope : Variables) (number : Numbering)
    → give a scope number ≡ Ok b → a ≡ b
unfolding give
gave a b scope number e = cc

pub never : {A : Type 0} (kind : FormKind) (place : ℕ) (value : A) (scope : Variables)
    (number : Numbering) → refuse kind place scope number ≡ Ok value → ⊥
unfolding refuse
never kind place value scope number e = cc

pub counts : {A : Type 0} (right : Bool) (place : ℕ) (reading : Reading A) (value : A)
    (scope : Variables) (number : Numbering)
    → counted right place reading scope number ≡ Ok value → reading scope number ≡ Ok value
unfolding refuse
counts true place reading value scope number e = e
counts false place reading value scope number e = cc

-- ---- names and numerals

placed_by : (b : Bool) (i n k : ℕ) → nat_lt i n ≡ b → cond b (Some i) None ≡ Some k
    → nat_lt k n ≡ true
placed_by true i n k h e = let same : i ≡ k = cc in ap (λ j. nat_lt j n) (sym same) ∙ h
placed_by false i n k h e = cc

placed : (p : List ℕ → Bool) (scope : List (List ℕ)) (k : ℕ) → position p scope ≡ Some k
    → nat_lt k (length scope) ≡ true
placed p scope k e =
    placed_by (nat_lt (position_or_len p scope) (length scope)) (position_or_len p scope)
    (length scope) k refl e

named_bound : (scope : Variables) (o : Option ℕ) (text : List ℕ) (number : Numbering) (t : Term)
    → ((k : ℕ) → o ≡ Some k → nat_lt k (length scope) ≡ true)
    → variable_or_constant o text scope number ≡ Ok t → binds_term (length scope) t ≡ true
named_bound scope (Some k) text number t below e =
    ap (binds_term (length scope)) (sym (gave (Var k) t scope number e))
    ∙ binds_term-Var (length scope) k ∙ below k refl
named_bound scope None text number t below e =
    let w = went (name_number text) (λ symbol. give (App (head.Name symbol) [])) scope number t e in
    ap (binds_term (length scope)) (sym (gave _ t scope number w.rest))
    ∙ binds_term-App (length scope) (head.Name w.part) []

depth_gave : (text : List ℕ) (scope : Variables) (number : Numbering) (depth : Option ℕ)
    → depth_of text scope number ≡ Ok depth → position (bytes_eq text) scope ≡ depth
unfolding depth_of
depth_gave text scope number depth e = cc

pub name_bound : (scope : Variables) (place : ℕ) (text : List ℕ) (number : Numbering) (t : Term)
    → name_term place text scope number ≡ Ok t → binds_term (length scope) t ≡ true
unfolding name_term
name_bound scope place text number t e =
    let w =
    went (permit place text)
    (λ _. depth_of text >>= (λ depth. variable_or_constant depth text)) scope number t e in
    let v = went (depth_of text) (λ depth. variable_or_constant depth text) scope number t w.rest in
    named_bound scope v.part text number t
    (λ k is. placed (bytes_eq text) scope k (depth_gave text scope number v.part v.gave ∙ is))
    v.rest

numeral_bound : (scope : Variables) (place : ℕ) (text : List ℕ) (number : Numbering) (t : Term)
    (b : Bool)
    → (if b then give (Num (numeral text)) else refuse NumberTooLarge place) scope number ≡ Ok t
    → binds_term (length scope) t ≡ true
numeral_bound scope place text number t true e =
    ap (binds_term (length scope)) (sym (gave (Num (numeral text)) t scope number e))
    ∙ binds_term-Num (length scope) (numeral text)
numeral_bound scope place text number t false e = absurd (never _ place t scope number e)

-- ---- lists of readings

pub and_from : (a b : Bool) → a ≡ true → b ≡ true → (a && b) ≡ true
and_from a b p q = ap (λ x. x && b) p ∙ q

-- what holds of each part of a list holds of all that it gave
pub each_all : {X A : Type 0} (f : X → Reading A) (ok : A → Bool) (scope : Variables)
    (number : Numbering) (Q : X → Type 0)
    → ((x : X) → Q x → (a : A) → f x scope number ≡ Ok a → ok a ≡ true)
    → (xs : List ((x : X) × Q x)) (values : List A)
    → each (map f (map (λ p. p.0) xs)) scope number ≡ Ok values → list_all ok values ≡ true
each_all f ok scope number Q holds [] values e =
    ap (list_all ok) (sym (gave [] values scope number e))
each_all f ok scope number Q holds (x ∷ xs) values e =
    let w =
    went (f x.0)
    (λ a. each (map f (map (λ p. p.0) xs)) >>= (λ rest. give (a ∷ rest))) scope number
    values e in
    let v =
    went (each (map f (map (λ p. p.0) xs)))
    (λ rest. give (w.part ∷ rest)) scope number values w.rest in
    ap (list_all ok) (sym (gave (w.part ∷ v.part) values scope number v.rest))
    ∙ and_from (ok w.part) (list_all ok v.part) (holds x.0 x.1 w.part w.gave)
    (each_all f ok scope number Q holds xs v.part v.gave)

pub each_every : {X A : Type 0} (f : X → Reading A) (ok : A → Bool) (scope : Variables)
    (number : Numbering)
    → ((x : X) (a : A) → f x scope number ≡ Ok a → ok a ≡ true)
    → (xs : List X) (values : List A) → each (map f xs) scope number ≡ Ok values
    → list_all ok values ≡ true
each_every f ok scope number holds [] values e =
    ap (list_all ok) (sym (gave [] values scope number e))
each_every f ok scope number holds (x ∷ xs) values e =
    let w = went (f x) (λ a. each (map f xs) >>= (λ rest. give (a ∷ rest))) scope number values e in
    let v = went (each (map f xs)) (λ rest. give (w.part ∷ rest)) scope number values w.rest in
    ap (list_all ok) (sym (gave (w.part ∷ v.part) values scope number v.rest))
    ∙ and_from (ok w.part) (list_all ok v.part) (holds x w.part w.gave)
    (each_every f ok scope number holds xs v.part v.gave)

-- ---- terms

abbrev pub TermBound : Sexp → Type 0
TermBound e = (scope : Variables) (number : Numbering) (t : Term) → term e scope number ≡ Ok t
    → binds_term (length scope) t ≡ true

abbrev Known : Type 0
Known = (e : Sexp) × TermBound e

module _ (scope : Variables) (number : Numbering) where
  applied_bound : (h : Head) (es : List Known) (t : Term)
      → ((App h) <$> each (map term (map (λ e. e.0) es))) scope number ≡ Ok t
      → binds_term (length scope) t ≡ true
  applied_bound h es t e =
      let w = went (each (map term (map (λ e. e.0) es))) (λ ts. give (App h ts)) scope number t e in
      ap (binds_term (length scope)) (sym (gave (App h w.part) t scope number w.rest))
      ∙ binds_term-App (length scope) h w.part
      ∙ each_all term (binds_term (length scope)) scope number TermBound
      (λ x holds a. holds scope number a) es w.part w.gave

  pub application_bound : (place : ℕ) (text : List ℕ) (es : List ((e : Sexp) × TermBound e))
      (t : Term)
      → application place text (map term (map (λ e. e.0) es)) scope number ≡ Ok t
      → binds_term (length scope) t ≡ true
  application_bound place text [] t e = name_bound scope place text number t e
  application_bound place text (x ∷ es) t e =
      let w =
      went (symbol place text)
      (λ name. (App (head.Name name)) <$> each (map term (map (λ e. e.0) (x ∷ es)))) scope
      number t e in
      applied_bound (head.Name w.part) (x ∷ es) t w.rest

  by_head_bound : (h : TermHead) (place : ℕ) (f : Sexp) (es : List Known) (t : Term)
      → list_term_by h place f (map term (map (λ e. e.0) es)) scope number ≡ Ok t
      → binds_term (length scope) t ≡ true
  by_head_bound by.Name place f es t e = application_bound (place_of f) (text_of f) es t e
  by_head_bound (by.Operator op) place f es t e =
      applied_bound (operation op) es t
      (counts (takes op (length (map term (map (λ e. e.0) es)))) place
      ((App (operation op)) <$> each (map term (map (λ e. e.0) es))) t scope number e)
  by_head_bound by.Other place f es t e = absurd (never _ (place_of f) t scope number e)

  list_bound : (place : ℕ) (es : List Known) (t : Term)
      → list_term place (map (λ e. e.0) es) (map term (map (λ e. e.0) es)) scope number ≡ Ok t
      → binds_term (length scope) t ≡ true
  list_bound place [] t e = absurd (never _ place t scope number e)
  list_bound place (f ∷ es) t e = by_head_bound (term_head (token_of f.0)) place f.0 es t e

  bare_by_bound : (b : Token) (place : ℕ) (text : List ℕ) (t : Term)
      → bare_term_by b place text scope number ≡ Ok t → binds_term (length scope) t ≡ true
  unfolding numeral_term
  bare_by_bound token.Numeral place text t e =
      numeral_bound scope place text number t (nat_le (decimal_value (digits_of text)) largest) e
  bare_by_bound token.Name place text t e = name_bound scope place text number t e
  bare_by_bound (token.Word w) place text t e = absurd (never _ place t scope number e)
  bare_by_bound token.List place text t e = absurd (never _ place t scope number e)

  bare_bound : (place : ℕ) (text : List ℕ) (t : Term) → bare_term place text scope number ≡ Ok t
      → binds_term (length scope) t ≡ true
  unfolding bare_term
  bare_bound place text t e = bare_by_bound (bare_token text) place text t e

term_at : (y : Sexp-F Known) → TermBound (roll-Sexp (map-Sexp Known Sexp (λ e. e.0) y))
unfolding roll-Sexp roll
term_at (Sexp-F.Bare place text) scope number t e =
    bare_bound scope number place text t (sym (ap (λ r. r scope number) (term-Bare place text)) ∙ e)
term_at (Sexp-F.Barred place text) scope number t e =
    name_bound scope place text number t
    (sym (ap (λ r. r scope number) (term-Barred place text)) ∙ e)
term_at (Sexp-F.List place es) scope number t e =
    list_bound scope number place es t
    (sym (ap (λ r. r scope number) (term-List place (map (λ e. e.0) es))) ∙ e)

-- the variables of a term are in scope
pub term_bound : (e : Sexp) → TermBound e
term_bound = ind-Sexp TermBound (λ x y is. subst (λ z. TermBound (roll-Sexp z)) is (term_at y))
