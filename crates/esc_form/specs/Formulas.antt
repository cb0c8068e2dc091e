-- What an expression reads as where a formula is wanted.
use Rattle.std.specs.Prelude.{ℕ, ◌==◌, nat_le, if◌then◌else◌, ◌-◌, take, drop, List, [], ◌∷◌, map}
use Rattle.std.specs.Prelude.{length}
use Rattle.esc_sexp.specs.declared.sexp.Sexp.{Sexp}
use Rattle.esc_sexp.specs.declared.sexp.Sexp.TheOpen.{Sexp-F}
use Rattle.esc_sexp.specs.declared.sexp.Sexp.TheFolds.{para-Sexp}
use Rattle.esc_term.specs.declared.term.Sym.{Sym}
use Rattle.esc_term.specs.declared.term.Term.{Term}
use Rattle.esc_term.specs.declared.formula.Formula.{Formula}
use Rattle.esc_term.specs.declared.formula.Formula.TheVariants as build
use Rattle.esc_term.specs.declared.formula.Quant.{Quant}
use Rattle.esc_term.specs.Term.{truth_term}
use Rattle.esc_read.specs.declared.fault.FormKind.TheVariants.{WrongCount, NotAFormula}
use Rattle.esc_read.specs.declared.fault.FormKind.TheVariants.{MisplacedPattern, EmptyList}
use Rattle.esc_names.specs.declared.key.Join.{Join}
use Rattle.esc_names.specs.declared.key.Join.TheVariants as join
use Rattle.esc_names.specs.declared.key.Binder.{Binder}
use Rattle.esc_names.specs.declared.key.Binder.TheVariants as binder
use Rattle.esc_names.specs.declared.key.Relation.{Relation}
use Rattle.esc_names.specs.declared.key.Relation.TheVariants as by
use Rattle.esc_names.specs.declared.key.Labelling.{Labelling}
use Rattle.esc_names.specs.declared.key.Labelling.TheVariants as where_
use Rattle.esc_form.specs.declared.form.Form.{Form}
use Rattle.esc_form.specs.declared.form.Form.TheVariants as form
use Rattle.esc_form.specs.declared.form.BareForm.{BareForm}
use Rattle.esc_form.specs.declared.form.BareForm.TheVariants as bare
use Rattle.esc_form.specs.Forms.{bare_form, form_of}
use Rattle.esc_read.specs.Reading.{Reading, give, refuse, within, ◌>>=◌, ◌<$>◌, each, counted}
use Rattle.esc_read.specs.Tokens.{bare_token, place_of, text_of, token_of}
use Rattle.esc_read.specs.Names.{label, variables}
use Rattle.esc_read.specs.Terms.{application, name_term, term}
use Rattle.esc_form.specs.declared.notes.Notes.{Notes}
use Rattle.esc_form.specs.Patterns.{all_notes, note}

-- a part of a list, and what it reads as where a formula is wanted
abbrev pub Part : Type 0
Part = Sexp × Reading Formula

-- ---- what is built

-- a predicate holds where it equals the truth
abbrev pub holds : Term → Formula
holds t = build.Eq t truth_term

abbrev pub joined : Join → Formula → Formula → Formula
joined join.Implies f g = build.Implies f g
joined join.Explies f g = build.Implies g f
joined join.Iff f g = build.Iff f g

abbrev pub related : Relation → Term → Term → Formula
related by.Eq s t = build.Eq s t
related by.Neq s t = build.Not (build.Eq s t)
related by.Less s t = build.Less s t
related by.Greater s t = build.Less t s
related by.AtMost s t = build.Not (build.Less t s)
related by.AtLeast s t = build.Not (build.Less s t)

abbrev pub labelled : Labelling → Sym → Formula → Formula
labelled where_.Positive name f = build.LabelPos name f
labelled where_.Negative name f = build.LabelNeg name f
labelled where_.Both name f = build.LabelPos name (build.LabelNeg name f)

abbrev pub quantified : Binder → Quant → Formula
quantified binder.Forall quant = build.Forall quant
quantified binder.Exists quant = build.Exists quant

-- so many variables; a quantifier without variables is its formula
abbrev pub bound : Binder → ℕ → Notes → Formula → Formula
bound how count notes body =
    if count == 0 then body
    else quantified how
    (record { count = count; patterns = notes.patterns; exempt = notes.exempt; body = body })

-- ---- quantifiers

-- all but the last of a list that is not empty, and the last
abbrev pub before_last : {A : Type 0} → A → List A → List A
before_last x xs = take (length xs) (x ∷ xs)

abbrev pub last_of : {A : Type 0} → A → List A → A
last_of x [] = x
last_of x (y ∷ ys) = last_of y ys

-- these notes and then this formula, of a quantifier of so many variables
abbrev pub noted : Binder → ℕ → ℕ → List Part → Part → Reading Formula
noted how count place notes part = do
  said ← (all_notes <$> each (map (λ p. note place p.0 p.1) notes))
  body ← part.1
  give (bound how count said body)

-- the variables, and with them in scope the notes and then the formula
abbrev pub quantifier : Binder → ℕ → List Part → Reading Formula
quantifier how place (list ∷ part ∷ parts) = do
  own ← variables list.0
  within own (noted how (length own) place (before_last part parts) (last_of part parts))
quantifier how place parts = refuse WrongCount place

-- ---- lists

abbrev pub negation : ℕ → List Part → Reading Formula
negation place (p ∷ []) = build.Not <$> p.1
negation place parts = refuse WrongCount place

abbrev pub junction : Join → ℕ → List Part → Reading Formula
junction how place (p ∷ q ∷ []) = do
  left ← p.1
  right ← q.1
  give (joined how left right)
junction how place parts = refuse WrongCount place

abbrev pub relation_of : Relation → ℕ → List Sexp → Reading Formula
relation_of how place (s ∷ t ∷ []) = do
  left ← term s
  right ← term t
  give (related how left right)
relation_of how place parts = refuse WrongCount place

abbrev pub distinction : ℕ → List Sexp → Reading Formula
distinction place parts =
    counted (nat_le 1 (length parts)) place (build.Distinct <$> each (map term parts))

abbrev pub labelling_of : Labelling → ℕ → List Part → Reading Formula
labelling_of how place (p ∷ q ∷ []) = do
  name ← label p.0
  part ← q.1
  give (labelled how name part)
labelling_of how place parts = refuse WrongCount place

abbrev pub raw : List Part → List Sexp
raw parts = map (λ p. p.0) parts

-- a list at this place with this head, which says this
abbrev pub list_formula_by : Form → ℕ → Sexp → List Part → Reading Formula
list_formula_by form.Predicate place head parts =
    holds <$> application (place_of head) (text_of head) (map term (raw parts))
list_formula_by form.And place head parts = build.And <$> each (map (λ p. p.1) parts)
list_formula_by form.Or place head parts = build.Or <$> each (map (λ p. p.1) parts)
list_formula_by form.Not place head parts = negation place parts
list_formula_by (form.Join how) place head parts = junction how place parts
list_formula_by (form.Bind how) place head parts = quantifier how place parts
list_formula_by (form.Relate how) place head parts = relation_of how place (raw parts)
list_formula_by form.Distinct place head parts = distinction place (raw parts)
list_formula_by (form.Label how) place head parts = labelling_of how place parts
list_formula_by form.Misplaced place head parts = refuse MisplacedPattern (place_of head)
list_formula_by form.Other place head parts = refuse NotAFormula (place_of head)

abbrev pub list_formula : ℕ → List Part → Reading Formula
list_formula place [] = refuse EmptyList place
list_formula place (head ∷ parts) = list_formula_by (form_of (token_of head.0)) place head.0 parts

abbrev pub bare_formula_by : BareForm → ℕ → List ℕ → Reading Formula
bare_formula_by bare.Predicate place text = holds <$> name_term place text
bare_formula_by bare.True place text = give build.True
bare_formula_by bare.False place text = give build.False
bare_formula_by bare.Other place text = refuse NotAFormula place

-- ---- formulas

-- one level, where each part stands beside its reading
abbrev pub formula_step : Sexp-F Part → Reading Formula
formula_step (Sexp-F.Bare place text) = bare_formula_by (bare_form (bare_token text)) place text
formula_step (Sexp-F.Barred place text) = holds <$> name_term place text
formula_step (Sexp-F.List place items) = list_formula place items

-- the formula that an expression is
unfoldable pub formula : Sexp → Reading Formula
formula = para-Sexp (Reading Formula) formula_step

-- an expression beside its reading
abbrev pub part_of : Sexp → Part
part_of e = (e, formula e)

-- an expression in the place of a note
abbrev pub note_of_part : ℕ → Sexp → Reading Notes
note_of_part place e = note place e (formula e)

-- all but the first and the last
abbrev pub middle : {A : Type 0} → List A → List A
middle xs = take (length xs - 2) (drop 1 xs)
