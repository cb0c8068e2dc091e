-- The variables of a formula that is read are bound or in scope.
use Rattle.std.proofs.Common.{◌≡◌, ℕ, ◌+◌, Bool, true, false, ◌&&◌, List, [], ◌∷◌, ◌++◌, map}
use Rattle.std.proofs.Common.{length, refl, sym, ◌∙◌, ap, subst, arith, length-append}
use Rattle.std.proofs.Common.{if◌then◌else◌, Option, Some, None, Ok}
use Rattle.std.specs.List.{list_all}
use Rattle.std.proofs.lemmas.List.Folds.{list_all-append}
use Rattle.std.specs.Prelude.{nat_le, ◌==◌}
use Rattle.std.proofs.lemmas.Bool.Decides.{nat_tests}
use denote.Hole.Carrier.{roll}
use Rattle.esc_sexp.specs.declared.sexp.Sexp.{Sexp}
use Rattle.esc_sexp.specs.declared.sexp.Sexp.TheOpen.{Sexp-F}
use Rattle.esc_sexp.specs.declared.sexp.Sexp.TheViews.{roll-Sexp}
use Rattle.esc_sexp.specs.declared.sexp.Sexp.TheFolds.{ind-Sexp, map-Sexp}
use Rattle.esc_term.specs.declared.term.Sym.{Sym}
use Rattle.esc_term.specs.declared.term.Term.{Term}
use Rattle.esc_term.specs.declared.formula.Formula.{Formula}
use Rattle.esc_term.specs.declared.formula.Formula.TheVariants as build
use Rattle.esc_term.specs.declared.formula.Quant.{Quant}
use Rattle.esc_term.specs.Term.{binds_term, truth_term}
use Rattle.esc_term.specs.Formula.{binds, binds_quant}
use Rattle.esc_term.proofs.TermLevels.{binds_term-App}
use Rattle.esc_term.proofs.FormulaLevels.{binds-True, binds-False, binds-And, binds-Or, binds-Not}
use Rattle.esc_term.proofs.FormulaLevels.{binds-Implies, binds-Iff, binds-Forall, binds-Exists}
use Rattle.esc_term.proofs.FormulaLevels.{binds-Eq, binds-Less, binds-Distinct, binds-LabelPos}
use Rattle.esc_term.proofs.FormulaLevels.{binds-LabelNeg, binds_quant-at}
use Rattle.esc_read.specs.declared.fault.FormKind.TheVariants.{WrongCount}
use Rattle.esc_names.specs.declared.key.Note.{Note}
use Rattle.esc_names.specs.declared.key.Note.TheVariants as says
use Rattle.esc_names.specs.declared.key.Join.{Join}
use Rattle.esc_names.specs.declared.key.Join.TheVariants as join
use Rattle.esc_names.specs.declared.key.Binder.{Binder}
use Rattle.esc_names.specs.declared.key.Binder.TheVariants as binder
use Rattle.esc_names.specs.declared.key.Relation.{Relation}
use Rattle.esc_names.specs.declared.key.Relation.TheVariants as by
use Rattle.esc_names.specs.declared.key.Labelling.{Labelling}
use Rattle.esc_names.specs.declared.key.Labelling.TheVariants as on
use Rattle.esc_read.specs.Reading.{Numbering, Reading, Variables, give, refuse, within, ◌>>=◌}
use Rattle.esc_read.specs.Reading.{◌<$>◌, each}
use Rattle.esc_read.specs.Tokens.{args_of, bare_token, head_of, place_of, text_of, token_of}
use Rattle.esc_read.specs.Names.{label, variables}
use Rattle.esc_read.specs.Terms.{application, name_term, term}
use Rattle.esc_form.specs.declared.form.Form.{Form}
use Rattle.esc_form.specs.declared.form.Form.TheVariants as form
use Rattle.esc_form.specs.declared.form.BareForm.{BareForm}
use Rattle.esc_form.specs.declared.form.BareForm.TheVariants as bare
use Rattle.esc_form.specs.declared.notes.Notes.{Notes}
use Rattle.esc_form.specs.Forms.{bare_form, form_of, is_multi, note_of}
use Rattle.esc_form.specs.Patterns.{all_notes, alone, note, note_by, only_exempt, only_patterns}
use Rattle.esc_form.specs.Patterns.{pattern, several}
use Rattle.esc_form.specs.Formulas.{Part, bare_formula_by, before_last, bound, distinction, formula}
use Rattle.esc_form.specs.Formulas.{holds, joined, junction, labelled, labelling_of, last_of}
use Rattle.esc_form.specs.Formulas.{list_formula, list_formula_by, negation, noted, part_of}
use Rattle.esc_form.specs.Formulas.{quantified, quantifier, related, relation_of}
use Rattle.esc_read.proofs.BoundTerms.{TermBound, and_from, application_bound, counts, each_all}
use Rattle.esc_read.proofs.BoundTerms.{each_every, gave, name_bound, never, term_bound, went}
use Rattle.esc_form.proofs.FormulaLemmas.{and_list, distinction_list, formula-Bare, formula-Barred}
use Rattle.esc_form.proofs.FormulaLemmas.{formula-List, or_list, predicate_list, relation_list}

abbrev pub FormulaBound : Sexp → Type 0
FormulaBound e = (scope : Variables) (number : Numbering) (g : Formula)
    → formula e scope number ≡ Ok g → binds g (length scope) ≡ true

-- an expression of which this is known
abbrev Known : Type 0
Known = (e : Sexp) × FormulaBound e

abbrev raw : List Known → List Sexp
raw es = map (λ e. e.0) es

-- ---- what is built of bound parts

built_is : (g f : Formula) (d : ℕ) → f ≡ g → binds f d ≡ true → binds g d ≡ true
built_is g f d e b = ap (λ x. binds x d) (sym e) ∙ b

both : (a b c : Bool) → c ≡ (a && b) → a ≡ true → b ≡ true → c ≡ true
both a b c e p q = e ∙ and_from a b p q

pub holds_bound : (t : Term) (d : ℕ) → binds_term d t ≡ true → binds (holds t) d ≡ true
holds_bound t d b =
    both (binds_term d t) (binds_term d truth_term) _ (binds-Eq d t truth_term) b
    (binds_term-App d _ [])

joined_bound : (how : Join) (f g : Formula) (d : ℕ) → binds f d ≡ true → binds g d ≡ true
    → binds (joined how f g) d ≡ true
joined_bound join.Implies f g d p q = both _ _ _ (binds-Implies d f g) p q
joined_bound join.Explies f g d p q = both _ _ _ (binds-Implies d g f) q p
joined_bound join.Iff f g d p q = both _ _ _ (binds-Iff d f g) p q

related_bound : (how : Relation) (s t : Term) (d : ℕ) → binds_term d s ≡ true
    → binds_term d t ≡ true → binds (related how s t) d ≡ true
related_bound by.Eq s t d p q = both _ _ _ (binds-Eq d s t) p q
related_bound by.Neq s t d p q = binds-Not d (build.Eq s t) ∙ both _ _ _ (binds-Eq d s t) p q
related_bound by.Less s t d p q = both _ _ _ (binds-Less d s t) p q
related_bound by.Greater s t d p q = both _ _ _ (binds-Less d t s) q p
related_bound by.AtMost s t d p q = binds-Not d (build.Less t s) ∙ both _ _ _ (binds-Less d t s) q p
related_bound by.AtLeast s t d p q =
    binds-Not d (build.Less s t) ∙ both _ _ _ (binds-Less d s t) p q

labelled_bound : (how : Labelling) (name : Sym) (f : Formula) (d : ℕ) → binds f d ≡ true
    → binds (labelled how name f) d ≡ true
labelled_bound on.Positive name f d p = binds-LabelPos d name f ∙ p
labelled_bound on.Negative name f d p = binds-LabelNeg d name f ∙ p
labelled_bound on.Both name f d p =
    binds-LabelPos d name (build.LabelNeg name f) ∙ binds-LabelNeg d name f ∙ p

-- the terms of the notes are bound
abbrev notes_bound : ℕ → Notes → Bool
notes_bound d n = list_all (list_all (binds_term d)) n.patterns && list_all (binds_term d) n.exempt

quantified_bound : (how : Binder) (quant : Quant) (d : ℕ) → binds_quant quant d ≡ true
    → binds (quantified how quant) d ≡ true
quantified_bound binder.Forall quant d p = binds-Forall d quant ∙ p
quantified_bound binder.Exists quant d p = binds-Exists d quant ∙ p

deep_bound : (how : Binder) (quant : Quant) (d inside : ℕ) → d + quant.count ≡ inside
    → list_all (list_all (binds_term inside)) quant.patterns ≡ true
    → list_all (binds_term inside) quant.exempt ≡ true
    → binds quant.body inside ≡ true → binds (quantified how quant) d ≡ true
deep_bound how quant d inside e p q b =
    quantified_bound how quant d
    (binds_quant-at d quant
    ∙ ap (λ n. list_all (list_all (binds_term n)) quant.patterns && list_all
    (binds_term n) quant.exempt && binds quant.body n) e
    ∙ and_from _ _ (and_from _ _ p q) b)

and_left : (a b : Bool) → (a && b) ≡ true → a ≡ true
and_left true b e = refl
and_left false b e = e

and_right : (a b : Bool) → (a && b) ≡ true → b ≡ true
and_right true b e = e
and_right false b e = cc

bound_by : (how : Binder) (count d inside : ℕ) (notes : Notes) (body : Formula) (none : Bool)
    → (count == 0) ≡ none → d + count ≡ inside
    → notes_bound inside notes ≡ true → binds body inside ≡ true
    → binds
    (if none then body else quantified how
    (record
    { count = count; patterns = notes.patterns; exempt = notes.exempt; body = body })) d
    ≡ true
bound_by how count d inside notes body true none e p b = let same : inside ≡ d =
    grind (arith, nat_tests) in ap (binds body) (sym same) ∙ b
bound_by how count d inside notes body false none e p b =
    deep_bound how _ d inside e (and_left _ _ p) (and_right _ _ p) b

pub bound_bound : (how : Binder) (own scope : Variables) (notes : Notes) (body : Formula)
    → notes_bound (length (own ++ scope)) notes ≡ true → binds body (length (own ++ scope)) ≡ true
    → binds (bound how (length own) notes body) (length scope) ≡ true
bound_bound how own scope notes body p b =
    bound_by how (length own) (length scope) (length (own ++ scope)) notes body
    (length own == 0) refl (omega (arith, length-append own scope)) p b

-- ---- lists

module _ (scope : Variables) (number : Numbering) where
  abbrev all_bound : List Formula → Bool
  all_bound fs = list_all (λ f. binds f (length scope)) fs

  parts_bound : (es : List Known) (fs : List Formula)
      → each (map formula (raw es)) scope number ≡ Ok fs → all_bound fs ≡ true
  parts_bound es fs e =
      each_all formula (λ f. binds f (length scope)) scope number FormulaBound
      (λ x known a. known scope number a) es fs e

  terms_bound : (es : List Sexp) (ts : List Term) → each (map term es) scope number ≡ Ok ts
      → list_all (binds_term (length scope)) ts ≡ true
  terms_bound es ts e =
      each_every term (binds_term (length scope)) scope number
      (λ x t. term_bound x scope number t) es ts e

  held_bound : (r : Reading Term) (g : Formula)
      → ((t : Term) → r scope number ≡ Ok t → binds_term (length scope) t ≡ true)
      → (holds <$> r) scope number ≡ Ok g → binds g (length scope) ≡ true
  held_bound r g known e =
      let w = went r (λ t. give (holds t)) scope number g e in
      built_is g (holds w.part) (length scope) (gave _ g scope number w.rest)
      (holds_bound w.part (length scope) (known w.part w.gave))

  negation_bound : (place : ℕ) (es : List Known) (g : Formula)
      → negation place (map part_of (raw es)) scope number ≡ Ok g → binds g (length scope) ≡ true
  negation_bound place [] g e = absurd (never _ place g scope number e)
  negation_bound place (x ∷ []) g e =
      let w = went (formula x.0) (λ f. give (build.Not f)) scope number g e in
      built_is g (build.Not w.part) (length scope) (gave _ g scope number w.rest)
      (binds-Not (length scope) w.part ∙ x.1 scope number w.part w.gave)
  negation_bound place (x ∷ y ∷ es) g e = absurd (never _ place g scope number e)

  junction_bound : (how : Join) (place : ℕ) (es : List Known) (g : Formula)
      → junction how place (map part_of (raw es)) scope number ≡ Ok g
      → binds g (length scope) ≡ true
  junction_bound how place [] g e = absurd (never _ place g scope number e)
  junction_bound how place (x ∷ []) g e = absurd (never _ place g scope number e)
  junction_bound how place (x ∷ y ∷ []) g e =
      let w =
      went (formula x.0)
      (λ left. formula y.0 >>= (λ right. give (joined how left right))) scope number g e in
      let v = went (formula y.0) (λ right. give (joined how w.part right)) scope number g w.rest in
      built_is g (joined how w.part v.part) (length scope) (gave _ g scope number v.rest)
      (joined_bound how w.part v.part (length scope) (x.1 scope number w.part w.gave)
      (y.1 scope number v.part v.gave))
  junction_bound how place (x ∷ y ∷ z ∷ es) g e = absurd (never _ place g scope number e)

  relation_bound : (how : Relation) (place : ℕ) (es : List Sexp) (g : Formula)
      → relation_of how place es scope number ≡ Ok g → binds g (length scope) ≡ true
  relation_bound how place [] g e = absurd (never _ place g scope number e)
  relation_bound how place (x ∷ []) g e = absurd (never _ place g scope number e)
  relation_bound how place (x ∷ y ∷ []) g e =
      let w =
      went (term x)
      (λ left. term y >>= (λ right. give (related how left right))) scope number g e in
      let v = went (term y) (λ right. give (related how w.part right)) scope number g w.rest in
      built_is g (related how w.part v.part) (length scope) (gave _ g scope number v.rest)
      (related_bound how w.part v.part (length scope) (term_bound x scope number w.part w.gave)
      (term_bound y scope number v.part v.gave))
  relation_bound how place (x ∷ y ∷ z ∷ es) g e = absurd (never _ place g scope number e)

  distinction_bound : (place : ℕ) (es : List Sexp) (g : Formula)
      → distinction place es scope number ≡ Ok g → binds g (length scope) ≡ true
  distinction_bound place es g e =
      let w =
      went (each (map term es)) (λ ts. give (build.Distinct ts)) scope number g
      (counts (nat_le 1 (length es)) place
      (build.Distinct <$> each (map term es)) g scope number e) in
      built_is g (build.Distinct w.part) (length scope) (gave _ g scope number w.rest)
      (binds-Distinct (length scope) w.part ∙ terms_bound es w.part w.gave)

  labelling_bound : (how : Labelling) (place : ℕ) (es : List Known) (g : Formula)
      → labelling_of how place (map part_of (raw es)) scope number ≡ Ok g
      → binds g (length scope) ≡ true
  labelling_bound how place [] g e = absurd (never _ place g scope number e)
  labelling_bound how place (x ∷ []) g e = absurd (never _ place g scope number e)
  labelling_bound how place (x ∷ y ∷ []) g e =
      let w =
      went (label x.0)
      (λ name. formula y.0 >>= (λ part. give (labelled how name part))) scope number g e in
      let v = went (formula y.0) (λ part. give (labelled how w.part part)) scope number g w.rest in
      built_is g (labelled how w.part v.part) (length scope) (gave _ g scope number v.rest)
      (labelled_bound how w.part v.part (length scope) (y.1 scope number v.part v.gave))
  labelling_bound how place (x ∷ y ∷ z ∷ es) g e = absurd (never _ place g scope number e)

raw_again : (es : List Known)
    → map (λ (k : (e : Sexp) × TermBound e). k.0) (map (λ (k : Known). (k.0, term_bound k.0)) es)
    ≡ raw es
raw_again [] = refl
raw_again (x ∷ es) = ap (λ l. x.0 ∷ l) (raw_again es)

-- ---- notes

pattern_by : (scope : Variables) (number : Numbering) (e : Sexp) (ts : List Term) (b : Bool)
    → (if b then several (place_of e) (args_of e) else (alone <$> term e)) scope number ≡ Ok ts
    → list_all (binds_term (length scope)) ts ≡ true
pattern_by scope number e ts true h =
    terms_bound scope number (args_of e) ts
    (counts (nat_le 1 (length (args_of e))) (place_of e)
    (each (map term (args_of e))) ts scope number h)
pattern_by scope number e ts false h =
    let w = went (term e) (λ t. give (alone t)) scope number ts h in
    ap (list_all (binds_term (length scope))) (sym (gave _ ts scope number w.rest))
    ∙ and_from (binds_term (length scope) w.part) true
    (term_bound e scope number w.part w.gave) refl

pattern_bound : (scope : Variables) (number : Numbering) (e : Sexp) (ts : List Term)
    → pattern e scope number ≡ Ok ts → list_all (binds_term (length scope)) ts ≡ true
unfolding pattern
pattern_bound scope number e ts h = pattern_by scope number e ts (is_multi (head_of e)) h

note_by_bound : (scope : Variables) (number : Numbering) (o : Option Note) (place : ℕ) (e : Sexp)
    (f : Reading Formula) (n : Notes) → note_by o place e f scope number ≡ Ok n
    → notes_bound (length scope) n ≡ true
note_by_bound scope number (Some says.Patterns) place e f n h =
    let w =
    went (each (map pattern (args_of e))) (λ ps. give (only_patterns ps)) scope number n h in
    ap (notes_bound (length scope)) (sym (gave _ n scope number w.rest))
    ∙ and_from _ true
    (each_every pattern (list_all (binds_term (length scope))) scope number
    (λ x ts. pattern_bound scope number x ts) (args_of e) w.part w.gave) refl
note_by_bound scope number (Some says.Exempt) place e f n h =
    let w = went (each (map term (args_of e))) (λ ts. give (only_exempt ts)) scope number n h in
    ap (notes_bound (length scope)) (sym (gave _ n scope number w.rest))
    ∙ terms_bound scope number (args_of e) w.part w.gave
note_by_bound scope number (Some says.Id) place e f n h =
    ap (notes_bound (length scope)) (sym (gave _ n scope number h))
note_by_bound scope number None place e f n h =
    let w = went f (λ _. refuse WrongCount place) scope number n h in
    absurd (never _ place n scope number w.rest)

note_bound : (scope : Variables) (number : Numbering) (place : ℕ) (p : Part) (n : Notes)
    → note place p.0 p.1 scope number ≡ Ok n → notes_bound (length scope) n ≡ true
unfolding note
note_bound scope number place p n h =
    note_by_bound scope number (note_of (head_of p.0)) place p.0 p.1 n h

paired : (a b c d x y : Bool) → x ≡ (a && c) → y ≡ (b && d) → (a && b) ≡ true → (c && d) ≡ true
    → (x && y) ≡ true
paired true true c d x y e f p q = ap (λ z. z && y) e ∙ ap (λ z. c && z) f ∙ q
paired true false c d x y e f p q = cc
paired false b c d x y e f p q = cc

pieces : (d : ℕ) (n : Notes) (ps : List (List Term)) (ts : List Term) → notes_bound d n ≡ true
    → (list_all (list_all (binds_term d)) ps && list_all (binds_term d) ts) ≡ true
    → (list_all (list_all (binds_term d)) (n.patterns ++ ps) && list_all (binds_term d)
    (n.exempt ++ ts)) ≡ true
pieces d n ps ts p q =
    paired (list_all (list_all (binds_term d)) n.patterns) (list_all (binds_term d) n.exempt)
    (list_all (list_all (binds_term d)) ps) (list_all (binds_term d) ts)
    (list_all (list_all (binds_term d)) (n.patterns ++ ps))
    (list_all (binds_term d) (n.exempt ++ ts))
    (list_all-append (list_all (binds_term d)) n.patterns ps)
    (list_all-append (binds_term d) n.exempt ts) p q

gathered_bound : (d : ℕ) (ns : List Notes) → list_all (notes_bound d) ns ≡ true
    → notes_bound d (all_notes ns) ≡ true
gathered_bound d [] h = refl
gathered_bound d (n ∷ ns) h =
    pieces d n _ _ (and_left _ _ h) (gathered_bound d ns (and_right _ _ h))

-- ---- quantifiers

last_bound : (x : Known) (es : List Known) (scope : Variables) (number : Numbering) (g : Formula)
    → (last_of (part_of x.0) (map part_of (raw es))).1 scope number ≡ Ok g
    → binds g (length scope) ≡ true
last_bound x [] scope number g h = x.1 scope number g h
last_bound x (y ∷ es) scope number g h = last_bound y es scope number g h

pub within_gave : {A : Type 0} (own scope : Variables) (reading : Reading A) (number : Numbering)
    (value : A)
    → within own reading scope number ≡ Ok value → reading (own ++ scope) number ≡ Ok value
unfolding within
within_gave own scope reading number value e = e

noted_bound : (how : Binder) (own scope : Variables) (number : Numbering) (place : ℕ)
    (notes : List Part) (x : Known) (es : List Known) (g : Formula)
    → noted how (length own) place notes (last_of (part_of x.0) (map part_of (raw es)))
    (own ++ scope) number ≡ Ok g → binds g (length scope) ≡ true
noted_bound how own scope number place notes x es g h =
    let inside = own ++ scope in
    let final = last_of (part_of x.0) (map part_of (raw es)) in
    let w =
    went (all_notes <$> each (map (λ p. note place p.0 p.1) notes))
    (λ said. final.1 >>= (λ body. give (bound how (length own) said body))) inside number g
    h in
    let v =
    went (each (map (λ (p : Part). note place p.0 p.1) notes))
    (λ ns. give (all_notes ns)) inside number w.part w.gave in
    let b =
    went final.1 (λ body. give (bound how (length own) w.part body)) inside number g w.rest in
    let said : notes_bound (length inside) w.part ≡ true =
    ap (notes_bound (length inside)) (sym (gave _ w.part inside number v.rest))
    ∙ gathered_bound (length inside) v.part
    (each_every (λ (p : Part). note place p.0 p.1) (notes_bound (length inside)) inside number
    (λ p n. note_bound inside number place p n) notes v.part v.gave) in
    built_is g (bound how (length own) w.part b.part) (length scope) (gave _ g inside number b.rest)
    (bound_bound how own scope w.part b.part said (last_bound x es inside number b.part b.gave))

quantifier_bound : (how : Binder) (scope : Variables) (number : Numbering) (place : ℕ)
    (es : List Known) (g : Formula)
    → quantifier how place (map part_of (raw es)) scope number ≡ Ok g
    → binds g (length scope) ≡ true
quantifier_bound how scope number place [] g h = absurd (never _ place g scope number h)
quantifier_bound how scope number place (x ∷ []) g h = absurd (never _ place g scope number h)
quantifier_bound how scope number place (x ∷ y ∷ es) g h =
    let notes = before_last (part_of y.0) (map part_of (raw es)) in
    let final = last_of (part_of y.0) (map part_of (raw es)) in
    let w =
    went (variables x.0)
    (λ own. within own (noted how (length own) place notes final)) scope number g h in
    noted_bound how w.part scope number place notes y es g
    (within_gave w.part scope (noted how (length w.part) place notes final) number g w.rest)

-- ---- formulas

list_bound : (f : Form) (scope : Variables) (number : Numbering) (place : ℕ) (head : Sexp)
    (es : List Known) (g : Formula)
    → list_formula_by f place head (map part_of (raw es)) scope number ≡ Ok g
    → binds g (length scope) ≡ true
list_bound form.Predicate scope number place head es g h =
    held_bound scope number (application (place_of head) (text_of head) (map term (raw es))) g
    (λ t e. application_bound scope number (place_of head) (text_of head)
    (map (λ k. (k.0, term_bound k.0)) es) t
    (ap (λ l. application (place_of head) (text_of head) (map term l) scope number)
    (raw_again es) ∙ e))
    (sym (ap (λ r. r scope number) (predicate_list place head (raw es))) ∙ h)
list_bound form.And scope number place head es g h =
    let w =
    went (each (map formula (raw es))) (λ fs. give (build.And fs)) scope number g
    (sym (ap (λ r. r scope number) (and_list place head (raw es))) ∙ h) in
    built_is g (build.And w.part) (length scope) (gave _ g scope number w.rest)
    (binds-And (length scope) w.part ∙ parts_bound scope number es w.part w.gave)
list_bound form.Or scope number place head es g h =
    let w =
    went (each (map formula (raw es))) (λ fs. give (build.Or fs)) scope number g
    (sym (ap (λ r. r scope number) (or_list place head (raw es))) ∙ h) in
    built_is g (build.Or w.part) (length scope) (gave _ g scope number w.rest)
    (binds-Or (length scope) w.part ∙ parts_bound scope number es w.part w.gave)
list_bound form.Not scope number place head es g h = negation_bound scope number place es g h
list_bound (form.Join how) scope number place head es g h =
    junction_bound scope number how place es g h
list_bound (form.Bind how) scope number place head es g h =
    quantifier_bound how scope number place es g h
list_bound (form.Relate how) scope number place head es g h =
    relation_bound scope number how place (raw es) g
    (sym (ap (λ r. r scope number) (relation_list place head (raw es) how)) ∙ h)
list_bound form.Distinct scope number place head es g h =
    distinction_bound scope number place (raw es) g
    (sym (ap (λ r. r scope number) (distinction_list place head (raw es))) ∙ h)
list_bound (form.Label how) scope number place head es g h =
    labelling_bound scope number how place es g h
list_bound form.Misplaced scope number place head es g h =
    absurd (never _ (place_of head) g scope number h)
list_bound form.Other scope number place head es g h =
    absurd (never _ (place_of head) g scope number h)

whole_list_bound : (scope : Variables) (number : Numbering) (place : ℕ) (es : List Known)
    (g : Formula) → list_formula place (map part_of (raw es)) scope number ≡ Ok g
    → binds g (length scope) ≡ true
whole_list_bound scope number place [] g h = absurd (never _ place g scope number h)
whole_list_bound scope number place (x ∷ es) g h =
    list_bound (form_of (token_of x.0)) scope number place x.0 es g h

bare_by_bound : (b : BareForm) (scope : Variables) (number : Numbering) (place : ℕ) (text : List ℕ)
    (g : Formula) → bare_formula_by b place text scope number ≡ Ok g → binds g (length scope) ≡ true
bare_by_bound bare.Predicate scope number place text g h =
    held_bound scope number (name_term place text) g (λ t. name_bound scope place text number t) h
bare_by_bound bare.True scope number place text g h =
    built_is g build.True (length scope) (gave _ g scope number h) (binds-True (length scope))
bare_by_bound bare.False scope number place text g h =
    built_is g build.False (length scope) (gave _ g scope number h) (binds-False (length scope))
bare_by_bound bare.Other scope number place text g h = absurd (never _ place g scope number h)

formula_at : (y : Sexp-F Known) → FormulaBound (roll-Sexp (map-Sexp Known Sexp (λ e. e.0) y))
unfolding roll-Sexp roll
formula_at (Sexp-F.Bare place text) scope number g h =
    bare_by_bound (bare_form (bare_token text)) scope number place text g
    (sym (ap (λ r. r scope number) (formula-Bare place text)) ∙ h)
formula_at (Sexp-F.Barred place text) scope number g h =
    held_bound scope number (name_term place text) g (λ t. name_bound scope place text number t)
    (sym (ap (λ r. r scope number) (formula-Barred place text)) ∙ h)
formula_at (Sexp-F.List place es) scope number g h =
    whole_list_bound scope number place es g
    (sym (ap (λ r. r scope number) (formula-List place (raw es))) ∙ h)

-- the variables of a formula are bound or in scope
pub formula_bound : (e : Sexp) → FormulaBound e
formula_bound =
    ind-Sexp FormulaBound (λ x y is. subst (λ z. FormulaBound (roll-Sexp z)) is (formula_at y))
