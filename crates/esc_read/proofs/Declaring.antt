-- How a list of variables is read from the front.
use Rattle.std.proofs.Common.{◌≡◌, ℕ, ◌+◌, ◌<◌, add-one, suc, arith, List, [], ◌∷◌, ◌++◌, take}
use Rattle.std.proofs.Common.{drop, length, get_or, refl, sym, ◌∙◌, ap, subst, Ok, Err, Result}
use Rattle.std.proofs.lemmas.List.{drop_more}
use Rattle.std.proofs.Math.Seq.{take-append_seam}
use Rattle.std.specs.Prelude.{OnOk}
use Rattle.esc_sexp.specs.declared.sexp.Sexp.{Sexp}
use Rattle.esc_sexp.specs.declared.sexp.Sexp.TheVariants.{Bare, Barred, List as Listed}
use Rattle.esc_read.specs.declared.fault.FormKind.TheVariants.{NotATerm}
use Rattle.esc_read.specs.declared.fault.FormStop.TheVariants.{Fault}
use Rattle.esc_read.specs.declared.fault.FormStop.{FormStop}
use Rattle.esc_read.specs.Reading.{Context, Declares, Numbering, Plain, Tells, Variables, Reading}
use Rattle.esc_read.specs.Reading.{give, refuse, and_then, ◌>>=◌}
use Rattle.esc_read.specs.Tokens.{place_of, text_of}
use Rattle.esc_read.specs.Names.{declared, variable, variables}
use Rattle.esc_read.proofs.Readings.{Plain-refuse, Plain-stops, drop-past}
use Rattle.esc_read.proofs.Levels.{variables-Bare, variables-Barred, variables-List}

-- so many variables were read, and to go on from them over the rest is to read all
pub record Declaring (before now : Context) (count : ℕ) (rest all : List Sexp) : Type 0 where
  pub own : Variables
  pub counts : count ≡ length own
  pub same : now.names ≡ before.names
  pub inside : now.scope ≡ own ++ before.scope
  pub goes_on : (scope : Variables) (number : Numbering)
      → declared [] all scope number ≡ declared own rest scope number

pub Declaring-starts : (t : Context) (all : List Sexp) → Declaring t t 0 all all
Declaring-starts t all =
    record { own = []; counts = refl; same = refl; inside = refl; goes_on = λ scope number. refl }

-- the variables of the list so far are the innermost in scope
pub innermost : {t u : Context} {count : ℕ} {rest all : List Sexp}
    (p : Declaring t u count rest all) → take count u.scope ≡ p.own
innermost {t} {u} p =
    ap (λ n. take n u.scope) p.counts ∙ ap (take (length p.own)) p.inside
    ∙ take-append_seam p.own t.scope

opened : (items : List Sexp) (own : Variables) (i : ℕ) (e : Sexp) (scope : Variables)
    (number : Numbering) → i < length items → e ≡ get_or items i e
    → declared own (drop i items) scope number ≡ declared own (e ∷ drop (i + 1) items) scope number
opened items own i e scope number h is =
    ap (λ l. declared own l scope number)
    (drop_more items i e h ∙ ap (λ x. x ∷ drop (i + 1) items) (sym is))

pub Declaring-step : {t u v : Context} {all : List Sexp} (items : List Sexp) (i : ℕ) (e : Sexp)
    (r : Result (Unit {0}) FormStop) (done : Unit {0})
    → i < length items → e ≡ get_or items i e → Declaring t u i (drop i items) all
    → Plain r (variable (take i u.scope) e) → r ≡ Ok done
    → v.names ≡ u.names → OnOk r (v.scope ≡ text_of e ∷ u.scope)
    → Declaring t v (i + 1) (drop (i + 1) items) all
unfolding ◌>>=◌
Declaring-step {t} {u} {v} {all} items i e r done h is p q ok names grown =
    let added : v.scope ≡ text_of e ∷ u.scope =
    subst (λ o. OnOk o (v.scope ≡ text_of e ∷ u.scope)) ok grown in
    let mine : Plain r (variable p.own e) =
    subst (λ own. Plain r (variable own e)) (innermost p) q in
    record {
      own = text_of e ∷ p.own;
      counts = add-one i ∙ ap suc p.counts;
      same = names ∙ p.same;
      inside = added ∙ ap (λ l. text_of e ∷ l) p.inside;
      goes_on = λ scope number.
          p.goes_on scope number ∙ opened items p.own i e scope number h is
          ∙ ap (λ o. and_then o
          (λ _. declared (text_of e ∷ p.own) (drop (i + 1) items) scope number))
          (subst (λ o. Tells (variable p.own e scope number) o) ok (mine.told scope number));
    }

pub Declaring-fails : {t u v : Context} {all : List Sexp} (items : List Sexp) (i : ℕ) (e : Sexp)
    (r : Result (Unit {0}) FormStop) (q : Result ℕ FormStop) (s : FormStop)
    → i < length items → e ≡ get_or items i e → Declaring t u i (drop i items) all
    → Plain r (variable (take i u.scope) e) → r ≡ Err s → v.names ≡ u.names → q ≡ Err s
    → Declares t v q (declared [] all)
Declaring-fails {t} {u} {v} {all} items i e r q s h is p given err names same =
    let mine : Plain (Err s) (variable p.own e) =
    subst (λ o. Plain o (variable p.own e)) err
    (subst (λ own. Plain r (variable own e)) (innermost p) given) in
    let stopped : Plain (Err s) (declared p.own (e ∷ drop (i + 1) items)) = Plain-stops _ mine in
    rw same (record {
      own = [];
      count = tt;
      same = names ∙ p.same;
      inside = tt;
      told = record {
        told = λ scope number.
            subst (λ o. Tells o (Err s))
            (sym (p.goes_on scope number ∙ opened items p.own i e scope number h is))
            (stopped.told scope number);
      };
    })

pub Declaring-ends : {t u : Context} (items : List Sexp) (i : ℕ) → i ≡ length items
    → Declaring t u i (drop i items) items
    → Declares t u (Ok (length items)) (declared [] items)
unfolding give
Declaring-ends {t} {u} items i h p = record {
  own = p.own;
  count = sym h ∙ p.counts;
  same = p.same;
  inside = p.inside;
  told = record {
    told =
        λ scope number. p.goes_on scope number
        ∙ ap (λ l. declared p.own l scope number) (drop-past i items (omega arith));
  };
}

-- ---- the list itself

pub listed_variables : {t u : Context} {r : Result ℕ FormStop} (e : Sexp) (place : ℕ)
    (items slice : List Sexp) → e ≡ Listed place items → slice ≡ items
    → Declares t u r (declared [] slice) → Declares t u r (variables e)
listed_variables {t} {u} {r} e place items slice is same p =
    subst (λ reading. Declares t u r reading)
    (sym (ap variables is ∙ variables-List place items ∙ ap (declared []) (sym same))) p

-- no list of variables
pub no_variables : {t : Context} (reading : Reading Variables) (s : FormStop) (place : ℕ)
    → reading ≡ refuse NotATerm place
    → s ≡ Fault (record { kind = NotATerm; place = place }) → Declares t t (Err s) reading
no_variables reading s place is e =
    rw (is, e)
    (record
    { own = []; count = tt; same = refl; inside = tt; told = Plain-refuse NotATerm place })

pub bare_variables : (e : Sexp) (place : ℕ) (text : List ℕ) → e ≡ Bare place text
    → variables e ≡ refuse NotATerm (place_of e)
bare_variables e place text is =
    ap variables is ∙ variables-Bare place text ∙ ap (λ x. refuse NotATerm (place_of x)) (sym is)

pub barred_variables : (e : Sexp) (place : ℕ) (text : List ℕ) → e ≡ Barred place text
    → variables e ≡ refuse NotATerm (place_of e)
barred_variables e place text is =
    ap variables is ∙ variables-Barred place text ∙ ap (λ x. refuse NotATerm (place_of x)) (sym is)
