-- What an expression is as a formula, at each form of expression and each form of list.
use Rattle.std.proofs.Common.{◌≡◌, ℕ, suc, ◌++◌, ◌-◌, ◌<◌, ◌≤◌, add-one, List, [], ◌∷◌, map, take}
use Rattle.std.proofs.Common.{length, length-append, get_or, refl, sym, ◌∙◌, ap, ap₂, subst, arith}
use Rattle.std.proofs.Common.{Result}
use Rattle.std.proofs.lemmas.List.{get_or_default, map-append, take-append-drop}
use Rattle.std.proofs.Math.Seq.{drop-cons, take-append_seam}
use Rattle.esc_read.proofs.Readings.{drop-past}
use denote.Hole.Carrier.{roll}
use Rattle.esc_sexp.specs.declared.sexp.Sexp.{Sexp}
use Rattle.esc_sexp.specs.declared.sexp.Sexp.TheVariants.{Bare, Barred, List as Listed}
use Rattle.esc_sexp.specs.declared.sexp.Sexp.TheOpen.{Sexp-F}
use Rattle.esc_sexp.specs.declared.sexp.Sexp.TheViews.{roll-Sexp}
use Rattle.esc_sexp.specs.declared.sexp.Sexp.TheFolds.{para-roll-Sexp}
use Rattle.esc_term.specs.declared.formula.Formula.{Formula}
use Rattle.esc_term.specs.declared.formula.Formula.TheVariants as build
use Rattle.esc_read.specs.declared.fault.FormKind.TheVariants.{WrongCount, EmptyList}
use Rattle.esc_read.specs.declared.fault.FormStop.{FormStop}
use Rattle.esc_names.specs.declared.key.Join.{Join}
use Rattle.esc_names.specs.declared.key.Binder.{Binder}
use Rattle.esc_names.specs.declared.key.Relation.{Relation}
use Rattle.esc_names.specs.declared.key.Labelling.{Labelling}
use Rattle.esc_read.specs.Reading.{Context, Reading, ReadsIn, refuse, within, give, ◌>>=◌, ◌<$>◌}
use Rattle.esc_read.specs.Reading.{each}
use Rattle.esc_read.specs.Tokens.{bare_token, place_of, text_of, token_of}
use Rattle.esc_read.specs.Names.{variables, label}
use Rattle.esc_read.specs.Terms.{application, name_term, term}
use Rattle.esc_read.proofs.Slices.{empty}
use Rattle.esc_form.specs.declared.form.BareForm.{BareForm}
use Rattle.esc_form.specs.declared.form.Form.{Form}
use Rattle.esc_form.specs.declared.form.Form.TheVariants as form
use Rattle.esc_form.specs.Forms.{bare_form, form_of}
use Rattle.esc_form.specs.Formulas.{Part, bare_formula_by, before_last, distinction}
use Rattle.esc_form.specs.Formulas.{formula as reading, formula_step, holds, joined, junction}
use Rattle.esc_form.specs.Formulas.{labelled, related, labelling_of, last_of, list_formula}
use Rattle.esc_form.specs.Formulas.{list_formula_by, middle, negation, noted, part_of, quantifier}
use Rattle.esc_form.specs.Formulas.{raw, relation_of}

pub formula-Bare : (place : ℕ) (text : List ℕ)
    → reading (Bare place text) ≡ bare_formula_by (bare_form (bare_token text)) place text
unfolding reading roll-Sexp roll
formula-Bare place text = para-roll-Sexp (Reading Formula) formula_step (Sexp-F.Bare place text)

pub formula-Barred : (place : ℕ) (text : List ℕ)
    → reading (Barred place text) ≡ (holds <$> name_term place text)
unfolding reading roll-Sexp roll
formula-Barred place text = para-roll-Sexp (Reading Formula) formula_step (Sexp-F.Barred place text)

pub formula-List : (place : ℕ) (items : List Sexp)
    → reading (Listed place items) ≡ list_formula place (map part_of items)
unfolding reading roll-Sexp roll
formula-List place items = para-roll-Sexp (Reading Formula) formula_step (Sexp-F.List place items)

pub ruleset formula_levels = (formula-Bare, formula-Barred)

-- a token that says this
pub bare_by : {t u : Context} {r : Result Formula FormStop} (place : ℕ) (text : List ℕ)
    (b : BareForm) → b ≡ bare_form (bare_token text)
    → ReadsIn t u r (bare_formula_by b place text)
    → ReadsIn t u r (bare_formula_by (bare_form (bare_token text)) place text)
bare_by {t} {u} {r} place text b e p = subst (λ x. ReadsIn t u r (bare_formula_by x place text)) e p

-- ---- lists with a head

pub headed : (e : Sexp) (place : ℕ) (items slice : List Sexp) (f : Sexp) (parts : List Sexp)
    (h : Form)
    → e ≡ Listed place items → slice ≡ items → slice ≡ f ∷ parts → h ≡ form_of (token_of f)
    → reading e ≡ list_formula_by h place f (map part_of parts)
headed e place items slice f parts h is same split kind =
    ap reading is ∙ formula-List place items
    ∙ ap (λ l. list_formula place (map part_of l)) (sym same ∙ split)
    ∙ ap (λ k. list_formula_by k place f (map part_of parts)) (sym kind)

pub unheaded : (e : Sexp) (place : ℕ) (items slice : List Sexp) → e ≡ Listed place items
    → slice ≡ items → length slice < 1 → reading e ≡ refuse EmptyList place
unheaded e place items slice is same none =
    ap reading is ∙ formula-List place items
    ∙ ap (λ l. list_formula place (map part_of l)) (sym same ∙ empty slice none)

raw_parts : (es : List Sexp) → raw (map part_of es) ≡ es
raw_parts [] = refl
raw_parts (e ∷ es) = ap (λ l. e ∷ l) (raw_parts es)

readings : (es : List Sexp) → map (λ (p : Part). p.1) (map part_of es) ≡ map reading es
readings [] = refl
readings (e ∷ es) = ap (λ l. reading e ∷ l) (readings es)

module _ (place : ℕ) (f : Sexp) (es : List Sexp) where
  pub predicate_list : list_formula_by form.Predicate place f (map part_of es)
      ≡ (holds <$> application (place_of f) (text_of f) (map term es))
  predicate_list =
      ap (λ l. holds <$> application (place_of f) (text_of f) (map term l)) (raw_parts es)

  pub and_list : list_formula_by form.And place f (map part_of es)
      ≡ (build.And <$> each (map reading es))
  and_list = ap (λ l. build.And <$> each l) (readings es)

  pub or_list : list_formula_by form.Or place f (map part_of es)
      ≡ (build.Or <$> each (map reading es))
  or_list = ap (λ l. build.Or <$> each l) (readings es)

  pub relation_list : (how : Relation)
      → list_formula_by (form.Relate how) place f (map part_of es) ≡ relation_of how place es
  relation_list how = ap (relation_of how place) (raw_parts es)

  pub distinction_list : list_formula_by form.Distinct place f (map part_of es)
      ≡ distinction place es
  distinction_list = ap (distinction place) (raw_parts es)

-- ---- counts

pub one_part : {X : Type 0} (xs : List X) (x : X) → length xs ≡ 1 → x ≡ get_or xs 0 x → xs ≡ x ∷ []
one_part [] x h e = absurd (omega arith)
one_part (y ∷ []) x h e = ap (λ z. z ∷ []) (sym e)
one_part (y ∷ z ∷ xs) x h e = absurd (omega arith)

pub two_parts : {X : Type 0} (xs : List X) (x y : X) → length xs ≡ 2 → x ≡ get_or xs 0 x
    → y ≡ get_or xs 1 y → xs ≡ x ∷ y ∷ []
two_parts [] x y h e f = absurd (omega arith)
two_parts (a ∷ []) x y h e f = absurd (omega arith)
two_parts (a ∷ b ∷ []) x y h e f = ap₂ (λ u v. u ∷ v ∷ []) (sym e) (sym f)
two_parts (a ∷ b ∷ c ∷ xs) x y h e f = absurd (omega arith)

pub second_part : {X : Type 0} (xs : List X) (d : X) → length xs ≡ 2
    → get_or xs 1 d ≡ get_or xs 1 (get_or xs 1 d)
second_part xs d h = get_or_default xs 1 d (get_or xs 1 d) (omega arith)

module _ (place : ℕ) where
  pub no_negation : (es : List Sexp) → (length es ≡ 1 → ⊥)
      → negation place (map part_of es) ≡ refuse WrongCount place
  no_negation [] other = refl
  no_negation (e ∷ []) other = absurd (other refl)
  no_negation (e ∷ f ∷ es) other = refl

  pub no_junction : (how : Join) (es : List Sexp) → (length es ≡ 2 → ⊥)
      → junction how place (map part_of es) ≡ refuse WrongCount place
  no_junction how [] other = refl
  no_junction how (e ∷ []) other = refl
  no_junction how (e ∷ f ∷ []) other = absurd (other refl)
  no_junction how (e ∷ f ∷ g ∷ es) other = refl

  pub no_relation : (how : Relation) (es : List Sexp) → (length es ≡ 2 → ⊥)
      → relation_of how place es ≡ refuse WrongCount place
  no_relation how [] other = refl
  no_relation how (e ∷ []) other = refl
  no_relation how (e ∷ f ∷ []) other = absurd (other refl)
  no_relation how (e ∷ f ∷ g ∷ es) other = refl

  pub no_labelling : (how : Labelling) (es : List Sexp) → (length es ≡ 2 → ⊥)
      → labelling_of how place (map part_of es) ≡ refuse WrongCount place
  no_labelling how [] other = refl
  no_labelling how (e ∷ []) other = refl
  no_labelling how (e ∷ f ∷ []) other = absurd (other refl)
  no_labelling how (e ∷ f ∷ g ∷ es) other = refl

  pub no_quantifier : (how : Binder) (es : List Sexp) → length es < 2
      → quantifier how place (map part_of es) ≡ refuse WrongCount place
  no_quantifier how [] few = refl
  no_quantifier how (e ∷ []) few = refl
  no_quantifier how (e ∷ f ∷ es) few = absurd (omega arith)

  pub yes_negation : (es : List Sexp) (e : Sexp) → length es ≡ 1 → e ≡ get_or es 0 e
      → negation place (map part_of es) ≡ (build.Not <$> reading e)
  yes_negation es e h is = ap (λ l. negation place (map part_of l)) (one_part es e h is)

  pub yes_junction : (how : Join) (es : List Sexp) (e f : Sexp) → length es ≡ 2 → e ≡ get_or es 0 e
      → f ≡ get_or es 1 f
      → junction how place (map part_of es)
      ≡ (reading e >>= (λ left. reading f >>= (λ right. give (joined how left right))))
  yes_junction how es e f h is at =
      ap (λ l. junction how place (map part_of l)) (two_parts es e f h is at)

  pub yes_relation : (how : Relation) (es : List Sexp) (e f : Sexp) → length es ≡ 2
      → e ≡ get_or es 0 e → f ≡ get_or es 1 f
      → relation_of how place es
      ≡ (term e >>= (λ left. term f >>= (λ right. give (related how left right))))
  yes_relation how es e f h is at = ap (λ l. relation_of how place l) (two_parts es e f h is at)

  pub yes_labelling : (how : Labelling) (es : List Sexp) (e f : Sexp) → length es ≡ 2
      → e ≡ get_or es 0 e → f ≡ get_or es 1 f
      → labelling_of how place (map part_of es)
      ≡ (label e >>= (λ name. reading f >>= (λ part. give (labelled how name part))))
  yes_labelling how es e f h is at =
      ap (λ l. labelling_of how place (map part_of l)) (two_parts es e f h is at)

-- ---- quantifiers

all_but_last : {A : Type 0} (x y : A) (xs : List A) → before_last x (xs ++ y ∷ []) ≡ x ∷ xs
all_but_last x y xs =
    ap (λ n. take n (x ∷ (xs ++ y ∷ []))) (length-append xs (y ∷ []) ∙ add-one (length xs))
    ∙ ap (λ l. x ∷ l) (take-append_seam xs (y ∷ []))

last : {A : Type 0} (x y : A) (xs : List A) → last_of x (xs ++ y ∷ []) ≡ y
last x y [] = refl
last x y (z ∷ xs) = last z y xs

quantified_by : (how : Binder) (place : ℕ) (list body : Part) (notes : List Part)
    → quantifier how place (list ∷ (notes ++ body ∷ []))
    ≡ (variables list.0 >>= (λ own. within own (noted how (length own) place notes body)))
quantified_by how place list body [] = refl
quantified_by how place list body (note ∷ notes) =
    ap₂ (λ ps p. variables list.0 >>= (λ own. within own (noted how (length own) place ps p)))
    (all_but_last note body notes) (last note body notes)

-- the variables, then the notes, then the formula
pub quantified_list : (how : Binder) (place : ℕ) (es : List Sexp) (list body : Sexp)
    (notes : List Sexp) → es ≡ list ∷ (notes ++ body ∷ [])
    → quantifier how place (map part_of es)
    ≡ (variables list >>=
    (λ own. within own (noted how (length own) place (map part_of notes) (part_of body))))
quantified_list how place es list body notes e =
    ap (λ l. quantifier how place (map part_of l)) e
    ∙ ap (λ l. quantifier how place (part_of list ∷ l)) (map-append part_of notes (body ∷ []))
    ∙ quantified_by how place (part_of list) (part_of body) (map part_of notes)

split_last : {X : Type 0} (zs : List X) (y : X) → 1 ≤ length zs → y ≡ get_or zs (length zs - 1) y
    → zs ≡ take (length zs - 1) zs ++ y ∷ []
split_last zs y h e =
    let n = length zs - 1 in
    let low : n < length zs = omega arith in
    sym (take-append-drop n zs)
    ∙ ap (λ l. take n zs ++ l)
    (drop-cons zs n y low ∙ ap₂ (λ z l. z ∷ l) (sym e) (drop-past (suc n) zs (omega arith)))

-- the parts of a slice with a first and a last
pub between : {X : Type 0} (xs : List X) (x y : X) → 2 ≤ length xs → x ≡ get_or xs 0 x
    → y ≡ get_or xs (length xs - 1) y
    → xs ≡ x ∷ (middle xs ++ y ∷ [])
between [] x y h e f = absurd (omega arith)
between (a ∷ zs) x y h e f =
    let m : suc (length zs) - 1 ≡ suc (length zs - 1) = omega arith in
    let k : suc (length zs) - 2 ≡ length zs - 1 = omega arith in
    let at : y ≡ get_or zs (length zs - 1) y = f ∙ ap (λ n. get_or (a ∷ zs) n y) m in
    ap₂ (λ z l. z ∷ l) (sym e)
    (split_last zs y (omega arith) at ∙ ap (λ n. take n zs ++ y ∷ []) (sym k))
