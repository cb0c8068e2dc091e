-- How readings follow one another.
use Rattle.std.proofs.Common.{◌≡◌, ℕ, ◌+◌, ◌<◌, ◌≤◌, arith, zero, suc, inl, inr, add-one, List, []}
use Rattle.std.proofs.Common.{◌∷◌, ◌++◌, map, drop, length, get_or, refl, sym, ◌∙◌, ap, subst}
use Rattle.std.proofs.Common.{append_assoc, append-nil, Option, Some, Ok, Err, Result}
use Rattle.std.specs.List.{position}
use Rattle.std.specs.Str.{bytes_eq}
use Rattle.std.proofs.Math.Seq.{drop-append_seam, drop-cons}
use Rattle.std.specs.Prelude.{slice_get, OnOk, IfOk}
use Rattle.esc_term.specs.declared.term.Sym.{Sym}
use Rattle.esc_names.specs.Numbering.{IsNumbered}
use Rattle.esc_read.specs.declared.fault.FormKind.{FormKind}
use Rattle.esc_read.specs.declared.fault.FormStop.{FormStop}
use Rattle.esc_read.specs.declared.fault.FormStop.TheVariants.{Fault, Memory}
use Rattle.esc_read.specs.Reading.{Context, Declares, Numbering, Outcome, Reading, ReadsIn}
use Rattle.esc_read.specs.Reading.{Variables, counting, within, depth_of, give, refuse, name_number}
use Rattle.esc_read.specs.Reading.{and_then, ◌>>=◌, each, Numbers, Extends, Tells, ReadsBy, Plain}

-- ---- tables that grow

Extends-same : (t : List (List ℕ)) → Extends t t
Extends-same t = record { more = []; is = sym (append-nil t) }

pub Extends-then : {t u v : List (List ℕ)} → Extends t u → Extends u v → Extends t v
Extends-then {t} {u} {v} p q =
    record {
      more = p.more ++ q.more;
      is = q.is ∙ ap (λ l. l ++ q.more) p.is ∙ append_assoc t p.more q.more;
    }

slice_get-front : {A : Type 0} (xs ys : List A) (i : ℕ) (x : A) → slice_get xs i ≡ Some x
    → slice_get (xs ++ ys) i ≡ Some x
slice_get-front [] ys i x e = cc
slice_get-front (y ∷ xs) ys zero x e = e
slice_get-front (y ∷ xs) ys (suc i) x e = slice_get-front xs ys i x e

-- a numbering of a table is one of what the table was before
Numbers-before : {t u : List (List ℕ)} (number : Numbering) → Extends t u → Numbers u number
    → Numbers t number
Numbers-before {t} {u} number p all i text e =
    all i text
    (subst (λ l. slice_get l i ≡ Some text) (sym p.is) (slice_get-front t p.more i text e))

Extends-numbered : {t u : List (List ℕ)} (text : List ℕ) → IsNumbered t text u → Extends t u
Extends-numbered {t} {u} text (inl (has, same)) =
    record { more = []; is = same ∙ sym (append-nil t) }
Extends-numbered {t} {u} text (inr (new, grown)) = record { more = text ∷ []; is = grown }

-- ---- outcomes

Tells-first : {A B : Type 0} (o : Outcome A) (s : FormStop) (next : A → Outcome B) → Tells o (Err s)
    → Tells (and_then o next) (Err s)
Tells-first o (Fault f) next p = ap (λ x. and_then x next) p
Tells-first o Memory next p = tt

Tells-then : {A B : Type 0} (o : Outcome A) (a : A) (next : A → Outcome B) (r : Result B FormStop)
    → o ≡ Ok a → Tells (next a) r → Tells (and_then o next) r
Tells-then o a next r e p = subst (λ x. Tells (and_then x next) r) (sym e) p

-- ---- steps

OnOk-same : {A : Type 0} (r : Result A FormStop) (v u t : Variables) → OnOk r (v ≡ u) → u ≡ t
    → OnOk r (v ≡ t)
OnOk-same (Ok a) v u t p q = p ∙ q
OnOk-same (Err s) v u t p q = tt

OnOk-refl : {A : Type 0} (r : Result A FormStop) (scope : Variables) → OnOk r (scope ≡ scope)
OnOk-refl (Ok a) scope = refl
OnOk-refl (Err s) scope = tt

pub ReadsIn-give : {A : Type 0} (t : Context) (a : A) → ReadsIn t t (Ok a) (give a)
unfolding give
ReadsIn-give t a = record {
  reads = record { grown = Extends-same t.names; told = λ number all. refl };
  kept = refl;
}

pub ReadsIn-plain : {A : Type 0} (t : Context) {result : Result A FormStop} {reading : Reading A}
    → Plain result reading → ReadsIn t t result reading
ReadsIn-plain t {result} p = record {
  reads = record { grown = Extends-same t.names; told = λ number all. p.told t.scope number };
  kept = OnOk-refl result t.scope;
}

pub ReadsIn-memory : {A : Type 0} {t u : Context} (reading : Reading A) → Extends t.names u.names
    → ReadsIn t u (Err Memory) reading
ReadsIn-memory reading p =
    record { reads = record { grown = p; told = λ number all. tt }; kept = tt }

pub ReadsIn-stops : {A B : Type 0} {t u : Context} {s : FormStop} {first : Reading A}
    (next : A → Reading B)
    → ReadsIn t u (Err s) first → ReadsIn t u (Err s) (first >>= next)
unfolding ◌>>=◌
ReadsIn-stops {t = t} {s = s} {first} next p = record {
  reads = record {
    grown = p.reads.grown;
    told =
        λ number all. Tells-first (first t.scope number) s (λ a. next a t.scope number)
        (p.reads.told number all);
  };
  kept = tt;
}

pub ReadsIn-then : {A B : Type 0} {t u v : Context} {a : A} {result : Result B FormStop}
    {first : Reading A} (next : A → Reading B)
    → ReadsIn t u (Ok a) first → ReadsIn u v result (next a) → ReadsIn t v result (first >>= next)
unfolding ◌>>=◌
ReadsIn-then {t = t} {u} {v} {a} {result} {first} next p q = record {
  reads = record {
    grown = Extends-then p.reads.grown q.reads.grown;
    told = λ number all.
        Tells-then (first t.scope number) a (λ x. next x t.scope number) result
        (p.reads.told number (Numbers-before number q.reads.grown all))
        (subst (λ scope. Tells (next a scope number) result) p.kept (q.reads.told number all));
  };
  kept = OnOk-same result v.scope u.scope t.scope q.kept p.kept;
}

pub Plain-give : {A : Type 0} (a : A) → Plain (Ok a) (give a)
unfolding give
Plain-give a = record { told = λ scope number. refl }

pub Plain-refuse : {A : Type 0} (kind : FormKind) (place : ℕ)
    → Plain {A = A} (Err (Fault (record { kind = kind; place = place }))) (refuse kind place)
unfolding refuse
Plain-refuse kind place = record { told = λ scope number. refl }

pub Plain-memory : {A : Type 0} (reading : Reading A) → Plain (Err Memory) reading
Plain-memory reading = record { told = λ scope number. tt }

pub Plain-stops : {A B : Type 0} {s : FormStop} {first : Reading A} (next : A → Reading B)
    → Plain (Err s) first → Plain (Err s) (first >>= next)
unfolding ◌>>=◌
Plain-stops {s = s} {first} next p = record {
  told =
      λ scope number. Tells-first (first scope number) s (λ a. next a scope number)
      (p.told scope number);
}

pub Plain-then : {A B : Type 0} {a : A} {result : Result B FormStop} {first : Reading A}
    (next : A → Reading B)
    → Plain (Ok a) first → Plain result (next a) → Plain result (first >>= next)
unfolding ◌>>=◌
Plain-then {a = a} {result} {first} next p q = record {
  told =
      λ scope number. Tells-then (first scope number) a (λ x. next x scope number) result
      (p.told scope number) (q.told scope number);
}

-- what stopped before
pub Plain-passed : {A : Type 0} {r q : Result A FormStop} {reading : Reading A}
    (o : Result A FormStop) → Plain r reading → r ≡ o → q ≡ o → Plain q reading
Plain-passed {reading = reading} o p e f = subst (λ x. Plain x reading) (e ∙ sym f) p

-- ---- leaves

-- a name that the table numbers
pub Reads-number : {t u : List (List ℕ)} (text : List ℕ) (symbol : Sym) (scope : Variables)
    → IsNumbered t text u → slice_get u symbol.0 ≡ Some text
    → ReadsBy t u (Ok symbol) (name_number text scope)
unfolding name_number
Reads-number text symbol scope grown named = record {
  grown = Extends-numbered text grown;
  told =
      λ number all. ap (λ (n : ℕ). let s : Sym = record { 0 = n } in Ok s)
      (all symbol.0 text named);
}

pub Reads-lacking : {A : Type 0} {t u : List (List ℕ)} (outcome : Numbering → Outcome A) → u ≡ t
    → ReadsBy t u (Err Memory) outcome
Reads-lacking {t = t} outcome same =
    record { grown = record { more = []; is = same ∙ sym (append-nil t) }; told = λ number all. tt }

-- what looks at the names alone
pub ReadsIn-names : {A : Type 0} {t u : List (List ℕ)} {r : Result A FormStop} {reading : Reading A}
    (scope : Variables)
    → ReadsBy t u r (reading scope)
    → ReadsIn (record { names = t; scope = scope })
    (record { names = u; scope = scope }) r reading
ReadsIn-names {r = r} scope p = record { reads = p; kept = OnOk-refl r scope }

-- the variable of a name
pub ReadsIn-depth : {B : Type 0} {t u : Context} {r : Result B FormStop} (text : List ℕ)
    (depth : Option ℕ) (next : Option ℕ → Reading B)
    → depth ≡ position (bytes_eq text) t.scope → ReadsIn t u r (next depth)
    → ReadsIn t u r (depth_of text >>= next)
unfolding ◌>>=◌ depth_of
ReadsIn-depth {t = t} {r = r} text depth next is p = record {
  reads = record {
    grown = p.reads.grown;
    told = λ number all. subst (λ d. Tells (next d t.scope number) r) is (p.reads.told number all);
  };
  kept = p.kept;
}

-- ---- the same, where results are given by equations

pub refused : {A : Type 0} {t : Context} {s : FormStop} {kind : FormKind} {place : ℕ}
    → s ≡ Fault (record { kind = kind; place = place })
    → ReadsIn {A = A} t t (Err s) (refuse kind place)
refused {t = t} {kind = kind} {place} e = rw e (ReadsIn-plain t (Plain-refuse kind place))

pub stops : {A B : Type 0} {t u : Context} {q : Result B FormStop} {r : Result A FormStop}
    {first : Reading A} (s : FormStop) (next : A → Reading B)
    → ReadsIn t u r first → r ≡ Err s → q ≡ Err s → ReadsIn t u q (first >>= next)
stops {t = t} {u} {r = r} {first} s next p e f =
    rw f (ReadsIn-stops next (subst (λ x. ReadsIn t u x first) e p))

pub next : {A B : Type 0} {t u v : Context} {q : Result B FormStop} {r : Result A FormStop}
    {first : Reading A} (a : A) (then : A → Reading B)
    → ReadsIn t u r first → r ≡ Ok a → ReadsIn u v q (then a) → ReadsIn t v q (first >>= then)
next {t = t} {u} {r = r} {first} a then p e q =
    ReadsIn-then then (subst (λ x. ReadsIn t u x first) e p) q

pub gives : {A : Type 0} {t : Context} {a b : A} → b ≡ a → ReadsIn t t (Ok a) (give b)
gives {t = t} {a} e = rw e (ReadsIn-give t a)

pub passed : {A : Type 0} {t u : Context} {q r : Result A FormStop} {reading : Reading A}
    → ReadsIn t u r reading → q ≡ r → ReadsIn t u q reading
passed {t = t} {u} {reading = reading} p e = subst (λ x. ReadsIn t u x reading) (sym e) p

pub plain : {A : Type 0} {t : Context} {result : Result A FormStop} {reading : Reading A}
    → Plain result reading → ReadsIn t t result reading
plain {t = t} p = ReadsIn-plain t p

pub lacking : {A : Type 0} {t u : Context} {q : Result A FormStop} {reading : Reading A}
    → Extends t.names u.names → q ≡ Err Memory → ReadsIn t u q reading
lacking {reading = reading} p e = rw e (ReadsIn-memory reading p)

pub ruleset plain_readings = (Plain-give, Plain-refuse, Plain-memory, Plain-stops, Plain-then)

pub ruleset readings = (ReadsIn-give, ReadsIn-plain, ReadsIn-stops, ReadsIn-then, Plain-refuse)

-- ---- variables that are declared and left again

kept-behind : {A : Type 0} (q : Result A FormStop) (t u v w : Context) (own : Variables) (n : ℕ)
    → OnOk q (v.scope ≡ u.scope) → u.scope ≡ own ++ t.scope → n ≡ length own
    → w.scope ≡ drop n v.scope → OnOk q (w.scope ≡ t.scope)
kept-behind (Ok a) t u v w own n p inside count left =
    left ∙ ap (drop n) (p ∙ inside) ∙ ap (λ k. drop k (own ++ t.scope)) count
    ∙ drop-append_seam own t.scope
kept-behind (Err s) t u v w own n p inside count left = tt

declared_inside : {t u : Context} {r : Result ℕ FormStop} {first : Reading Variables} (n : ℕ)
    (d : Declares t u r first) → r ≡ Ok n → u.scope ≡ d.own ++ t.scope
declared_inside {t} {u} n d found = subst (λ o. OnOk o (u.scope ≡ d.own ++ t.scope)) found d.inside

declared_count : {t u : Context} {r : Result ℕ FormStop} {first : Reading Variables} (n : ℕ)
    (d : Declares t u r first) → r ≡ Ok n → n ≡ length d.own
declared_count n d found = subst (λ o. IfOk o (λ k. k ≡ length d.own)) found d.count

-- what is read with the variables in scope
pub Declares-reads : {B : Type 0} {t u v : Context} {q : Result B FormStop} {r : Result ℕ FormStop}
    {first : Reading Variables} (body : ℕ → Reading B) (n : ℕ)
    → Declares t u r first → r ≡ Ok n → ReadsIn u v q (body n)
    → ReadsBy t.names v.names q ((first >>= (λ own. within own (body (length own)))) t.scope)
unfolding ◌>>=◌ within
Declares-reads {t = t} {u} {v} {q} {r} {first} body n d found p = record {
  grown = subst (λ table. Extends table v.names) d.same p.reads.grown;
  told = λ number all.
      let declared : first t.scope number ≡ Ok d.own =
      subst (λ o. Tells (first t.scope number) (counting d.own o)) found
      (d.told.told t.scope number) in
      Tells-then (first t.scope number) d.own
      (λ own. body (length own) (own ++ t.scope) number) q declared
      (subst (λ k. Tells (body k (d.own ++ t.scope) number) q) (declared_count n d found)
      (subst (λ scope. Tells (body n scope number) q) (declared_inside n d found)
      (p.reads.told number all)));
}

-- the variables are left behind it
pub Declares-then : {B : Type 0} {t u v w : Context} {q : Result B FormStop} {r : Result ℕ FormStop}
    {first : Reading Variables} (body : ℕ → Reading B) (n : ℕ)
    → Declares t u r first → r ≡ Ok n → ReadsIn u v q (body n) → w.names ≡ v.names
    → w.scope ≡ drop n v.scope
    → ReadsIn t w q (first >>= (λ own. within own (body (length own))))
Declares-then {t = t} {u} {v} {w} {q} {r} {first} body n d found p names left = record {
  reads =
      subst
      (λ table. ReadsBy t.names table q
      ((first >>= (λ own. within own (body (length own)))) t.scope)) (sym names)
      (Declares-reads body n d found p);
  kept =
      kept-behind q t u v w d.own n p.kept (declared_inside n d found)
      (declared_count n d found) left;
}

-- a refusal before they are left
pub Declares-fails : {B : Type 0} {t u v : Context} {q : Result B FormStop} {r : Result ℕ FormStop}
    {first : Reading Variables} (body : ℕ → Reading B) (n : ℕ) (s : FormStop)
    → Declares t u r first → r ≡ Ok n → ReadsIn u v q (body n) → q ≡ Err s
    → ReadsIn t v q (first >>= (λ own. within own (body (length own))))
Declares-fails {t = t} {v = v} body n s d found p e = record {
  reads = Declares-reads body n d found p;
  kept = subst (λ o. OnOk o (v.scope ≡ t.scope)) (sym e) tt;
}

-- variables that are refused
pub Declares-stops : {B : Type 0} {t u : Context} {q : Result B FormStop} {r : Result ℕ FormStop}
    {first : Reading Variables} (body : Variables → Reading B) (s : FormStop)
    → Declares t u r first → r ≡ Err s → q ≡ Err s → ReadsIn t u q (first >>= body)
unfolding ◌>>=◌
Declares-stops {t = t} {first = first} body s d e f = rw f (record {
  reads = record {
    grown = record { more = []; is = d.same ∙ sym (append-nil t.names) };
    told = λ number all.
        Tells-first (first t.scope number) s (λ own. body own t.scope number)
        (subst (λ o. Tells (first t.scope number) (counting d.own o)) e
        (d.told.told t.scope number));
  };
  kept = tt;
})

-- ---- loops over a list

-- the first readings gave acc, and the rest of them is to come
pub record Going {A : Type 0} (before now : Context) (acc : List A)
    (rest all : List (Reading A)) : Type 0 where
  pub grown : Extends before.names now.names
  pub kept : now.scope ≡ before.scope
  pub told : (number : Numbering) → Numbers now.names number
      → each all before.scope number
      ≡ and_then (each rest before.scope number) (λ bs. Ok (acc ++ bs))

and_then-same : {A : Type 0} (o : Outcome A) → o ≡ and_then o (λ a. Ok a)
and_then-same (Ok a) = refl
and_then-same (Err f) = refl

pub Going-starts : {A : Type 0} (t : Context) (all : List (Reading A)) → Going t t [] all all
Going-starts t all = record {
  grown = Extends-same t.names;
  kept = refl;
  told = λ number is. and_then-same (each all t.scope number);
}

each-cons : {A : Type 0} (r : Reading A) (rs : List (Reading A)) (scope : Variables)
    (number : Numbering)
    → each (r ∷ rs) scope number
    ≡ and_then (r scope number) (λ a. and_then (each rs scope number) (λ bs. Ok (a ∷ bs)))
unfolding ◌>>=◌ give
each-cons r rs scope number = refl

regroup : {A : Type 0} (acc : List A) (a : A) (o : Outcome (List A))
    → and_then (and_then o (λ bs. Ok (a ∷ bs))) (λ bs. Ok (acc ++ bs))
    ≡ and_then o (λ bs. Ok ((acc ++ a ∷ []) ++ bs))
regroup acc a (Ok bs) = ap Ok (sym (append_assoc acc (a ∷ []) bs))
regroup acc a (Err f) = refl

going-step : {A : Type 0} {t u v : Context} {acc : List A} {a : A} {r : Reading A}
    {rest all : List (Reading A)}
    → Going t u acc (r ∷ rest) all → ReadsIn u v (Ok a) r → Going t v (acc ++ a ∷ []) rest all
going-step {t = t} {acc = acc} {a} {r} {rest} {all} p q = record {
  grown = Extends-then p.grown q.reads.grown;
  kept = q.kept ∙ p.kept;
  told = λ number is.
      p.told number (Numbers-before number q.reads.grown is)
      ∙ ap (λ o. and_then o (λ bs. Ok (acc ++ bs)))
      (each-cons r rest t.scope number
      ∙ ap (λ o. and_then o (λ a. and_then (each rest t.scope number) (λ bs. Ok (a ∷ bs))))
      (subst (λ scope. r scope number ≡ Ok a) p.kept (q.reads.told number is)))
      ∙ regroup acc a (each rest t.scope number);
}

going-stops : {A : Type 0} {t u v : Context} {acc : List A} {s : FormStop} {r : Reading A}
    {rest all : List (Reading A)}
    → Going t u acc (r ∷ rest) all → ReadsIn u v (Err s) r → ReadsIn t v (Err s) (each all)
going-stops {t = t} {acc = acc} {s} {r} {rest} {all} p q = record {
  reads = record {
    grown = Extends-then p.grown q.reads.grown;
    told = λ number is.
        subst (λ o. Tells o (Err s))
        (sym (p.told number (Numbers-before number q.reads.grown is)
        ∙ ap (λ o. and_then o (λ bs. Ok (acc ++ bs))) (each-cons r rest t.scope number)))
        (Tells-first _ s _
        (Tells-first (r t.scope number) s _
        (subst (λ scope. Tells (r scope number) (Err s)) p.kept (q.reads.told number is))));
  };
  kept = tt;
}

pub Going-done : {A : Type 0} {t u : Context} {acc : List A} {all : List (Reading A)}
    → Going t u acc [] all → ReadsIn t u (Ok acc) (each all)
unfolding give
Going-done {acc = acc} p = record {
  reads = record { grown = p.grown; told = λ number is. p.told number is ∙ ap Ok (append-nil acc) };
  kept = p.kept;
}

pub drop-past : {X : Type 0} (i : ℕ) (xs : List X) → length xs ≤ i → drop i xs ≡ []
drop-past zero [] h = refl
drop-past (suc i) [] h = refl
drop-past zero (x ∷ xs) h = absurd (omega arith)
drop-past (suc i) (x ∷ xs) h = drop-past i xs (omega arith)

-- the readings of the elements of a list from a place on
module _ {A X : Type 0} (f : X → Reading A) (xs : List X) where
  opened : (i : ℕ) (x : X) → i < length xs → get_or xs i x ≡ x
      → map f (drop i xs) ≡ f x ∷ map f (drop (i + 1) xs)
  opened i x h e =
      rw add-one (ap (map f) (drop-cons xs i x h) ∙ ap (λ y. f y ∷ map f (drop (suc i) xs)) e)

  pub Going-step : {t u v : Context} {acc : List A} {a : A} {all : List (Reading A)} (i : ℕ) (x : X)
      → i < length xs → get_or xs i x ≡ x
      → Going t u acc (map f (drop i xs)) all → ReadsIn u v (Ok a) (f x)
      → Going t v (acc ++ a ∷ []) (map f (drop (i + 1) xs)) all
  Going-step {t} {u} {acc = acc} {all = all} i x h e p q =
      going-step (subst (λ rest. Going t u acc rest all) (opened i x h e) p) q

  pub Going-stops : {t u v : Context} {acc : List A} {s : FormStop} {all : List (Reading A)} (i : ℕ)
      (x : X) → i < length xs → get_or xs i x ≡ x
      → Going t u acc (map f (drop i xs)) all → ReadsIn u v (Err s) (f x)
      → ReadsIn t v (Err s) (each all)
  Going-stops {t} {u} {acc = acc} {all = all} i x h e p q =
      going-stops (subst (λ rest. Going t u acc rest all) (opened i x h e) p) q

  pub Going-next : {t u v : Context} {acc bcc : List A} {r : Result A FormStop}
      {all : List (Reading A)} (i : ℕ) (x : X) (a : A) → i < length xs → x ≡ get_or xs i x
      → Going t u acc (map f (drop i xs)) all → ReadsIn u v r (f x) → r ≡ Ok a → bcc ≡ acc ++ a ∷ []
      → Going t v bcc (map f (drop (i + 1) xs)) all
  Going-next {t} {u} {v} {all = all} i x a h e p q ok is =
      subst (λ bs. Going t v bs (map f (drop (i + 1) xs)) all) (sym is)
      (Going-step i x h (sym e) p (subst (λ o. ReadsIn u v o (f x)) ok q))

  pub Going-fails : {t u v : Context} {acc : List A} {r : Result A FormStop}
      {q : Result (List A) FormStop} {all : List (Reading A)} (i : ℕ) (x : X) (s : FormStop)
      → i < length xs → x ≡ get_or xs i x
      → Going t u acc (map f (drop i xs)) all → ReadsIn u v r (f x) → r ≡ Err s → q ≡ Err s
      → ReadsIn t v q (each all)
  Going-fails {t} {u} {v} {all = all} i x s h e p q err is =
      subst (λ o. ReadsIn t v o (each all)) (sym is)
      (Going-stops i x h (sym e) p (subst (λ o. ReadsIn u v o (f x)) err q))

  pub Going-ends : {t u : Context} {acc : List A} {all : List (Reading A)} (i : ℕ) → length xs ≤ i
      → Going t u acc (map f (drop i xs)) all → ReadsIn t u (Ok acc) (each all)
  Going-ends {t} {u} {acc} {all} i h p =
      Going-done (subst (λ ys. Going t u acc (map f ys) all) (drop-past i xs h) p)
