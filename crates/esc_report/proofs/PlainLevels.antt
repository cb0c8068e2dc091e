-- Which forms of terms and of formulas are plain.
use Rattle.std.proofs.Common.{◌≡◌, ℕ, Bool, true, false, ◌&&◌, List, length, map, ap, ◌∙◌}
use Rattle.std.specs.List.{list_all}
use Rattle.std.proofs.lemmas.List.{length-map}
use Rattle.std.proofs.lemmas.List.Folds.{list_all-map}
use denote.Hole.Carrier.{roll}
use Rattle.esc_term.specs.declared.term.Head.{Head}
use Rattle.esc_term.specs.declared.term.Sym.{Sym}
use Rattle.esc_term.specs.declared.term.Term.{Term}
use Rattle.esc_term.specs.declared.term.Term.TheVariants as term
use Rattle.esc_term.specs.declared.term.Term.TheOpen.{Term-F}
use Rattle.esc_term.specs.declared.term.Term.TheViews.{roll-Term}
use Rattle.esc_term.specs.declared.term.Term.TheFolds.{fold-roll-Term}
use Rattle.esc_term.specs.declared.formula.Formula.{Formula}
use Rattle.esc_term.specs.declared.formula.Formula.TheVariants.{True, False, And, Or, Not, Implies}
use Rattle.esc_term.specs.declared.formula.Formula.TheVariants.{Iff, Forall, Exists, Eq, Less}
use Rattle.esc_term.specs.declared.formula.Formula.TheVariants.{Distinct, LabelPos, LabelNeg}
use Rattle.esc_term.specs.declared.formula.Formula.TheOpen.{Formula-F}
use Rattle.esc_term.specs.declared.formula.Formula.TheViews.{roll-Formula}
use Rattle.esc_term.specs.declared.formula.Formula.TheFolds.{fold-roll-Formula}
use Rattle.esc_term.specs.declared.formula.Quant.{Quant}
use Rattle.esc_report.specs.PlainFormulas.{is_plain_head, is_plain_term, is_plain_formula}
use Rattle.esc_report.specs.PlainFormulas.{plain_term_step}
use Rattle.esc_report.specs.PlainFormulas.{plain_formula_step}

pub is_plain_term-App : (head : Head) (args : List Term) → is_plain_term (term.App head args)
    ≡ (is_plain_head head (length args) && list_all is_plain_term args)
unfolding is_plain_term roll-Term roll
is_plain_term-App head args = fold-roll-Term Bool plain_term_step (Term-F.App head args)
    ∙ ap (λ n. is_plain_head head n && list_all (λ arg. arg) (map is_plain_term args))
    (length-map args is_plain_term)
    ∙ ap (λ b. is_plain_head head (length args) && b) (list_all-map (λ arg. arg) is_plain_term args)

pub is_plain_formula-And : (fs : List Formula)
    → is_plain_formula (And fs) ≡ list_all is_plain_formula fs
unfolding is_plain_formula roll-Formula roll
is_plain_formula-And fs = fold-roll-Formula Bool Unit plain_formula_step (λ quant. tt)
    (Formula-F.And fs)
    ∙ list_all-map (λ part. part) is_plain_formula fs

pub is_plain_formula-Or : (fs : List Formula)
    → is_plain_formula (Or fs) ≡ list_all is_plain_formula fs
unfolding is_plain_formula roll-Formula roll
is_plain_formula-Or fs = fold-roll-Formula Bool Unit plain_formula_step (λ quant. tt)
    (Formula-F.Or fs)
    ∙ list_all-map (λ part. part) is_plain_formula fs

pub is_plain_formula-Not : (f : Formula) → is_plain_formula (Not f) ≡ is_plain_formula f
unfolding is_plain_formula roll-Formula roll
is_plain_formula-Not f = fold-roll-Formula Bool Unit plain_formula_step (λ quant. tt)
    (Formula-F.Not f)

pub is_plain_formula-Implies : (f g : Formula) → is_plain_formula (Implies f g)
    ≡ (is_plain_formula f && is_plain_formula g)
unfolding is_plain_formula roll-Formula roll
is_plain_formula-Implies f g = fold-roll-Formula Bool Unit plain_formula_step (λ quant. tt)
    (Formula-F.Implies f g)

pub is_plain_formula-Iff : (f g : Formula) → is_plain_formula (Iff f g)
    ≡ (is_plain_formula f && is_plain_formula g)
unfolding is_plain_formula roll-Formula roll
is_plain_formula-Iff f g = fold-roll-Formula Bool Unit plain_formula_step (λ quant. tt)
    (Formula-F.Iff f g)

pub is_plain_formula-Forall : (q : Quant) → is_plain_formula (Forall q) ≡ false
unfolding is_plain_formula roll-Formula roll
is_plain_formula-Forall q = fold-roll-Formula Bool Unit plain_formula_step (λ quant. tt)
    (Formula-F.Forall q)

pub is_plain_formula-Exists : (q : Quant) → is_plain_formula (Exists q) ≡ false
unfolding is_plain_formula roll-Formula roll
is_plain_formula-Exists q = fold-roll-Formula Bool Unit plain_formula_step (λ quant. tt)
    (Formula-F.Exists q)

pub is_plain_formula-Eq : (s t : Term) → is_plain_formula (Eq s t)
    ≡ (is_plain_term s && is_plain_term t)
unfolding is_plain_formula roll-Formula roll
is_plain_formula-Eq s t = fold-roll-Formula Bool Unit plain_formula_step (λ quant. tt)
    (Formula-F.Eq s t)

pub is_plain_formula-Less : (s t : Term) → is_plain_formula (Less s t)
    ≡ (is_plain_term s && is_plain_term t)
unfolding is_plain_formula roll-Formula roll
is_plain_formula-Less s t = fold-roll-Formula Bool Unit plain_formula_step (λ quant. tt)
    (Formula-F.Less s t)

pub is_plain_formula-Distinct : (ts : List Term) → is_plain_formula (Distinct ts)
    ≡ list_all is_plain_term ts
unfolding is_plain_formula roll-Formula roll
is_plain_formula-Distinct ts = fold-roll-Formula Bool Unit plain_formula_step (λ quant. tt)
    (Formula-F.Distinct ts)

pub is_plain_formula-LabelPos : (name : Sym) (f : Formula)
    → is_plain_formula (LabelPos name f) ≡ is_plain_formula f
unfolding is_plain_formula roll-Formula roll
is_plain_formula-LabelPos name f = fold-roll-Formula Bool Unit plain_formula_step (λ quant. tt)
    (Formula-F.LabelPos name f)

pub is_plain_formula-LabelNeg : (name : Sym) (f : Formula)
    → is_plain_formula (LabelNeg name f) ≡ is_plain_formula f
unfolding is_plain_formula roll-Formula roll
is_plain_formula-LabelNeg name f = fold-roll-Formula Bool Unit plain_formula_step (λ quant. tt)
    (Formula-F.LabelNeg name f)
