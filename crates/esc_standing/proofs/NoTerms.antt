-- That no terms leave a formula as it is.
use Rattle.std.proofs.Common.{◌≡◌, ℕ, ◌+◌, Bool, true, false, nat_lt, if◌then◌else◌}
use Rattle.std.proofs.Common.{List, [], ◌∷◌, map, refl, ap, subst, ◌∙◌}
use denote.Hole.Carrier.{roll}
use Rattle.esc_term.specs.declared.term.Term.{Term}
use Rattle.esc_term.specs.declared.formula.Formula.{Formula}
use Rattle.esc_term.specs.declared.formula.Formula.TheOpen.{Formula-F, Quant-F}
use Rattle.esc_term.specs.declared.formula.Formula.TheViews.{roll-Formula, roll-Quant}
use Rattle.esc_term.specs.declared.formula.Formula.TheFolds.{map-Formula, map-Quant, ind-Formula}
use Rattle.esc_term.specs.declared.formula.Quant.{Quant}
use Rattle.esc_term.specs.declared.formula.Formula.TheVariants.{And, Or, Not, Implies, Iff}
use Rattle.esc_term.specs.declared.formula.Formula.TheVariants.{Forall, Exists, Eq, Less}
use Rattle.esc_term.specs.declared.formula.Formula.TheVariants.{Distinct, LabelPos, LabelNeg}
use Rattle.esc_term.specs.declared.term.Term.TheVariants.{Var, App}
use Rattle.esc_term.specs.declared.term.Term.TheOpen.{Term-F}
use Rattle.esc_term.specs.declared.term.Term.TheViews.{roll-Term}
use Rattle.esc_term.specs.declared.term.Term.TheFolds.{map-Term, ind-Term}
use Rattle.esc_term.specs.Term.{substituted_term}
use Rattle.esc_term.specs.Formula.{substituted_to, substituted_quant}
use Rattle.esc_term.proofs.TermLevels.{substituted_term-Num, substituted_term-Var}
use Rattle.esc_term.proofs.TermLevels.{substituted_term-App}
use Rattle.esc_term.proofs.FormulaLevels.{substituted_to-True, substituted_to-False}
use Rattle.esc_term.proofs.FormulaLevels.{substituted_to-And, substituted_to-Or}
use Rattle.esc_term.proofs.FormulaLevels.{substituted_to-Not, substituted_to-Implies}
use Rattle.esc_term.proofs.FormulaLevels.{substituted_to-Iff, substituted_to-Forall}
use Rattle.esc_term.proofs.FormulaLevels.{substituted_to-Exists, substituted_to-Eq}
use Rattle.esc_term.proofs.FormulaLevels.{substituted_to-Less, substituted_to-Distinct}
use Rattle.esc_term.proofs.FormulaLevels.{substituted_to-LabelPos, substituted_to-LabelNeg}
use Rattle.esc_term.proofs.FormulaLevels.{substituted_quant-at}

abbrev SameTerm : Term → Type 0
SameTerm t = (d : ℕ) → substituted_term [] d t ≡ t

-- a list of which each element is mapped to itself
as_before : {X : Type 0} (g : X → X) (xs : List X) → ((x : X) → g x ≡ x) → map g xs ≡ xs
as_before g [] same = refl
as_before g (x ∷ xs) same =
    ap (λ y. y ∷ map g xs) (same x) ∙ ap (λ ys. x ∷ ys) (as_before g xs same)

args_same : (d : ℕ) (es : List ((t : Term) × SameTerm t))
    → map (substituted_term [] d) (map (λ e. e.0) es) ≡ map (λ e. e.0) es
args_same d [] = refl
args_same d (e ∷ es) =
    ap (λ t. t ∷ map (substituted_term [] d) (map (λ e. e.0) es)) (e.1 d)
    ∙ ap (λ ts. e.0 ∷ ts) (args_same d es)

either_way : (k : ℕ) (b : Bool) → (if b then Var k else Var k) ≡ Var k
either_way k true = refl
either_way k false = refl

term_at : (y : Term-F ((t : Term) × SameTerm t))
    → SameTerm (roll-Term (map-Term ((t : Term) × SameTerm t) Term (λ e. e.0) y))
unfolding roll-Term roll
term_at (Term-F.Num n) d = substituted_term-Num [] d n
term_at (Term-F.Var k) d = substituted_term-Var [] d k ∙ either_way k (nat_lt k d)
term_at (Term-F.App f es) d =
    substituted_term-App [] d f (map (λ e. e.0) es) ∙ ap (App f) (args_same d es)

term_same : (t : Term) → SameTerm t
term_same = ind-Term SameTerm (λ x y is. subst (λ z. SameTerm (roll-Term z)) is (term_at y))

terms_same : (d : ℕ) (ts : List Term) → map (substituted_term [] d) ts ≡ ts
terms_same d ts = as_before (substituted_term [] d) ts (λ t. term_same t d)

abbrev Same : Formula → Type 0
Same f = (d : ℕ) → substituted_to [] f d ≡ f

abbrev SameQuant : Quant → Type 0
SameQuant q = (d : ℕ) → substituted_quant [] q d ≡ q

parts_same : (d : ℕ) (es : List ((f : Formula) × Same f))
    → map (λ f. substituted_to [] f d) (map (λ e. e.0) es) ≡ map (λ e. e.0) es
parts_same d [] = refl
parts_same d (e ∷ es) =
    ap (λ f. f ∷ map (λ f. substituted_to [] f d) (map (λ e. e.0) es)) (e.1 d)
    ∙ ap (λ fs. e.0 ∷ fs) (parts_same d es)

quant_same : (q : Quant) → Same q.body → SameQuant q
quant_same q body d =
    substituted_quant-at [] d q
    ∙ ap (λ ps. record {
      count = q.count;
      patterns = ps;
      exempt = map (substituted_term [] (d + q.count)) q.exempt;
      body = substituted_to [] q.body (d + q.count);
    })
    (as_before (map (substituted_term [] (d + q.count))) q.patterns (terms_same (d + q.count)))
    ∙ ap (λ ts. record {
      count = q.count;
      patterns = q.patterns;
      exempt = ts;
      body = substituted_to [] q.body (d + q.count);
    }) (terms_same (d + q.count) q.exempt)
    ∙ ap (λ f. record { count = q.count; patterns = q.patterns; exempt = q.exempt; body = f })
    (body (d + q.count))

quant_at : (y : Quant-F ((f : Formula) × Same f) ((q : Quant) × SameQuant q))
    → SameQuant (roll-Quant (map-Quant ((f : Formula) × Same f) ((q : Quant) × SameQuant q)
    Formula Quant (λ e. e.0) (λ e. e.0) y))
unfolding roll
quant_at y = quant_same (roll-Quant (map-Quant ((f : Formula) × Same f)
    ((q : Quant) × SameQuant q) Formula Quant (λ e. e.0) (λ e. e.0) y)) y.body.1

form_at : (y : Formula-F ((f : Formula) × Same f) ((q : Quant) × SameQuant q))
    → Same (roll-Formula (map-Formula ((f : Formula) × Same f) ((q : Quant) × SameQuant q)
    Formula Quant (λ e. e.0) (λ e. e.0) y))
unfolding roll-Formula roll
form_at Formula-F.True d = substituted_to-True [] d
form_at Formula-F.False d = substituted_to-False [] d
form_at (Formula-F.And es) d =
    substituted_to-And [] d (map (λ e. e.0) es) ∙ ap And (parts_same d es)
form_at (Formula-F.Or es) d = substituted_to-Or [] d (map (λ e. e.0) es) ∙ ap Or (parts_same d es)
form_at (Formula-F.Not e) d = substituted_to-Not [] d e.0 ∙ ap Not (e.1 d)
form_at (Formula-F.Implies l r) d =
    substituted_to-Implies [] d l.0 r.0 ∙ ap (λ f. Implies f (substituted_to [] r.0 d)) (l.1 d)
    ∙ ap (Implies l.0) (r.1 d)
form_at (Formula-F.Iff l r) d =
    substituted_to-Iff [] d l.0 r.0 ∙ ap (λ f. Iff f (substituted_to [] r.0 d)) (l.1 d)
    ∙ ap (Iff l.0) (r.1 d)
form_at (Formula-F.Forall q) d = substituted_to-Forall [] d q.0 ∙ ap Forall (q.1 d)
form_at (Formula-F.Exists q) d = substituted_to-Exists [] d q.0 ∙ ap Exists (q.1 d)
form_at (Formula-F.Eq s t) d =
    substituted_to-Eq [] d s t ∙ ap (λ u. Eq u (substituted_term [] d t)) (term_same s d)
    ∙ ap (Eq s) (term_same t d)
form_at (Formula-F.Less s t) d =
    substituted_to-Less [] d s t ∙ ap (λ u. Less u (substituted_term [] d t)) (term_same s d)
    ∙ ap (Less s) (term_same t d)
form_at (Formula-F.Distinct ts) d = substituted_to-Distinct [] d ts ∙ ap Distinct (terms_same d ts)
form_at (Formula-F.LabelPos name e) d =
    substituted_to-LabelPos [] d name e.0 ∙ ap (LabelPos name) (e.1 d)
form_at (Formula-F.LabelNeg name e) d =
    substituted_to-LabelNeg [] d name e.0 ∙ ap (LabelNeg name) (e.1 d)

-- a formula at no terms is the formula
pub at_no_terms : (f : Formula) → Same f
at_no_terms =
    ind-Formula Same SameQuant (λ x y is. subst (λ z. Same (roll-Formula z)) is (form_at y))
    (λ x y is. subst (λ z. SameQuant (roll-Quant z)) is (quant_at y))
