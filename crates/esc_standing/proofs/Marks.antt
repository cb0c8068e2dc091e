-- That the marks of a formula are as many as its quantified formulas.
use Rattle.std.proofs.Common.{◌≡◌, ℕ, ◌+◌, suc, Bool, false, List, [], ◌∷◌, ◌++◌, map, length}
use Rattle.std.proofs.Common.{refl, ap, sym, subst, ◌∙◌}
use Rattle.std.proofs.lemmas.List.{length-append, length-map}
use Rattle.std.specs.List.{flat_map}
use denote.Hole.Carrier.{roll}
use Rattle.esc_term.specs.declared.formula.Formula.{Formula}
use Rattle.esc_term.specs.declared.formula.Formula.TheOpen.{Formula-F, Quant-F}
use Rattle.esc_term.specs.declared.formula.Formula.TheViews.{roll-Formula, roll-Quant}
use Rattle.esc_term.specs.declared.formula.Formula.TheFolds.{map-Formula, map-Quant, ind-Formula}
use Rattle.esc_term.specs.declared.formula.Quant.{Quant}
use Rattle.esc_fact.specs.Base.{quantified_under}
use Rattle.esc_rounds.specs.Origins.{outermost}
use Rattle.esc_fact.proofs.Quantifiers.{under-True, under-False, under-And, under-Or, under-Not}
use Rattle.esc_fact.proofs.Quantifiers.{under-Implies, under-Iff, under-Forall, under-Exists}
use Rattle.esc_fact.proofs.Quantifiers.{under-Eq, under-Less, under-Distinct, under-LabelPos}
use Rattle.esc_fact.proofs.Quantifiers.{under-LabelNeg}
use Rattle.esc_standing.proofs.OutermostLevels.{outermost-True, outermost-False, outermost-And}
use Rattle.esc_standing.proofs.OutermostLevels.{outermost-Or, outermost-Not, outermost-Implies}
use Rattle.esc_standing.proofs.OutermostLevels.{outermost-Iff, outermost-Forall, outermost-Exists}
use Rattle.esc_standing.proofs.OutermostLevels.{outermost-Eq, outermost-Less, outermost-Distinct}
use Rattle.esc_standing.proofs.OutermostLevels.{outermost-LabelPos, outermost-LabelNeg}

abbrev Many : Formula → Type 0
Many f = (d : ℕ) → length (outermost f) ≡ length (quantified_under f d)

abbrev ManyQuant : Quant → Type 0
ManyQuant q = Many q.body

many_all : (d : ℕ) (es : List ((f : Formula) × Many f))
    → length (flat_map outermost (map (λ e. e.0) es))
    ≡ length (flat_map (λ f. quantified_under f d) (map (λ e. e.0) es))
many_all d [] = refl
many_all d (e ∷ es) =
    length-append (outermost e.0) _
    ∙ ap (λ n. n + length (flat_map outermost (map (λ e. e.0) es))) (e.1 d)
    ∙ ap (λ n. length (quantified_under e.0 d) + n) (many_all d es)
    ∙ sym (length-append (quantified_under e.0 d) _)

many_both : (d : ℕ) (f g : Formula) → Many f → Many g
    → length (outermost f ++ outermost g)
    ≡ length (quantified_under f d ++ quantified_under g d)
many_both d f g l r =
    length-append (outermost f) (outermost g) ∙ ap (λ n. n + length (outermost g)) (l d)
    ∙ ap (λ n. length (quantified_under f d) + n) (r d)
    ∙ sym (length-append (quantified_under f d) (quantified_under g d))

many_inside : (d : ℕ) (q : Quant) → ManyQuant q
    → suc (length (map {A = Bool} {B = Bool} (λ inside. false) (outermost q.body)))
    ≡ suc (length (quantified_under q.body (d + q.count)))
many_inside d q body =
    ap suc (length-map (outermost q.body) (λ inside. false) ∙ body (d + q.count))

form_at : (y : Formula-F ((f : Formula) × Many f) ((q : Quant) × ManyQuant q))
    → Many (roll-Formula (map-Formula ((f : Formula) × Many f) ((q : Quant) × ManyQuant q)
    Formula Quant (λ e. e.0) (λ e. e.0) y))
unfolding roll-Formula roll
form_at Formula-F.True d =
    ap length (outermost-True)
    ∙ sym (ap length (under-True d))
form_at Formula-F.False d =
    ap length (outermost-False)
    ∙ sym (ap length (under-False d))
form_at (Formula-F.And es) d =
    ap length (outermost-And (map (λ e. e.0) es)) ∙ many_all d es
    ∙ sym (ap length (under-And d (map (λ e. e.0) es)))
form_at (Formula-F.Or es) d =
    ap length (outermost-Or (map (λ e. e.0) es)) ∙ many_all d es
    ∙ sym (ap length (under-Or d (map (λ e. e.0) es)))
form_at (Formula-F.Not e) d =
    ap length (outermost-Not e.0) ∙ e.1 d
    ∙ sym (ap length (under-Not d e.0))
form_at (Formula-F.Implies l r) d =
    ap length (outermost-Implies l.0 r.0) ∙ many_both d l.0 r.0 l.1 r.1
    ∙ sym (ap length (under-Implies d l.0 r.0))
form_at (Formula-F.Iff l r) d =
    ap length (outermost-Iff l.0 r.0) ∙ many_both d l.0 r.0 l.1 r.1
    ∙ sym (ap length (under-Iff d l.0 r.0))
form_at (Formula-F.Forall q) d =
    ap length (outermost-Forall q.0) ∙ many_inside d q.0 q.1
    ∙ sym (ap length (under-Forall d q.0))
form_at (Formula-F.Exists q) d =
    ap length (outermost-Exists q.0) ∙ many_inside d q.0 q.1
    ∙ sym (ap length (under-Exists d q.0))
form_at (Formula-F.Eq s t) d =
    ap length (outermost-Eq s t)
    ∙ sym (ap length (under-Eq d s t))
form_at (Formula-F.Less s t) d =
    ap length (outermost-Less s t)
    ∙ sym (ap length (under-Less d s t))
form_at (Formula-F.Distinct ts) d =
    ap length (outermost-Distinct ts)
    ∙ sym (ap length (under-Distinct d ts))
form_at (Formula-F.LabelPos name e) d =
    ap length (outermost-LabelPos name e.0) ∙ e.1 d
    ∙ sym (ap length (under-LabelPos d name e.0))
form_at (Formula-F.LabelNeg name e) d =
    ap length (outermost-LabelNeg name e.0) ∙ e.1 d
    ∙ sym (ap length (under-LabelNeg d name e.0))

quant_at : (y : Quant-F ((f : Formula) × Many f) ((q : Quant) × ManyQuant q))
    → ManyQuant (roll-Quant (map-Quant ((f : Formula) × Many f) ((q : Quant) × ManyQuant q)
    Formula Quant (λ e. e.0) (λ e. e.0) y))
unfolding roll
quant_at y = y.body.1

pub as_many_marks : (f : Formula) → Many f
as_many_marks =
    ind-Formula Many ManyQuant (λ x y is. subst (λ z. Many (roll-Formula z)) is (form_at y))
    (λ x y is. subst (λ z. ManyQuant (roll-Quant z)) is (quant_at y))
