-- What a walk of a formula finds at each form of formula.
use Rattle.std.proofs.Common.{◌≡◌, ℕ, ◌+◌, List, [], ◌++◌, refl, ap, ◌∙◌, ◌∷◌}
use Rattle.std.specs.List.{filter, flat_map, fold}
use Rattle.std.proofs.lemmas.List.Elements.{filter-append}
use Rattle.std.proofs.lemmas.List.Sums.{fold-append}
use denote.Hole.Carrier.{roll}
use Rattle.esc_term.specs.declared.term.Sym.{Sym}
use Rattle.esc_term.specs.declared.term.Term.{Term}
use Rattle.esc_term.specs.declared.formula.Formula.{Formula}
use Rattle.esc_term.specs.declared.formula.Formula.TheVariants.{True, False, And, Or, Not, Implies}
use Rattle.esc_term.specs.declared.formula.Formula.TheVariants.{Iff, Forall, Exists, Eq, Less}
use Rattle.esc_term.specs.declared.formula.Formula.TheVariants.{Distinct, LabelPos, LabelNeg}
use Rattle.esc_term.specs.declared.formula.Formula.TheOpen.{Formula-F}
use Rattle.esc_term.specs.declared.formula.Formula.TheViews.{roll-Formula}
use Rattle.esc_term.specs.declared.formula.Formula.TheFolds.{fold-roll-Formula, fold_out-Quant}
use Rattle.esc_term.specs.declared.formula.Quant.{Quant}
use Rattle.esc_term.specs.Term.{with_once}
use Rattle.esc_term.proofs.Pairs.{flat_map-map}
use Rattle.esc_trigger.specs.Candidates.{clear_step, clear_quant_step, clear_terms, is_candidate}
use Rattle.esc_trigger.specs.Candidates.{outside}
use Rattle.esc_trigger.specs.WalkInside.{candidates_in, clear_candidates}

abbrev L : Type 0
L = ℕ → List Term

pub clear_terms-True : (d : ℕ) → clear_terms True d ≡ []
unfolding clear_terms roll-Formula roll
clear_terms-True d =
    ap (λ h. h d) (fold-roll-Formula L L clear_step clear_quant_step Formula-F.True)

pub clear_terms-False : (d : ℕ) → clear_terms False d ≡ []
unfolding clear_terms roll-Formula roll
clear_terms-False d =
    ap (λ h. h d) (fold-roll-Formula L L clear_step clear_quant_step Formula-F.False)

pub clear_terms-And : (d : ℕ) (fs : List Formula)
    → clear_terms (And fs) d ≡ flat_map (λ f. clear_terms f d) fs
unfolding clear_terms roll-Formula roll
clear_terms-And d fs =
    ap (λ h. h d) (fold-roll-Formula L L clear_step clear_quant_step (Formula-F.And fs))
    ∙ flat_map-map (λ part. part d) clear_terms fs

pub clear_terms-Or : (d : ℕ) (fs : List Formula)
    → clear_terms (Or fs) d ≡ flat_map (λ f. clear_terms f d) fs
unfolding clear_terms roll-Formula roll
clear_terms-Or d fs =
    ap (λ h. h d) (fold-roll-Formula L L clear_step clear_quant_step (Formula-F.Or fs))
    ∙ flat_map-map (λ part. part d) clear_terms fs

pub clear_terms-Not : (d : ℕ) (f : Formula) → clear_terms (Not f) d ≡ clear_terms f d
unfolding clear_terms roll-Formula roll
clear_terms-Not d f =
    ap (λ h. h d) (fold-roll-Formula L L clear_step clear_quant_step (Formula-F.Not f))

pub clear_terms-Implies : (d : ℕ) (f g : Formula)
    → clear_terms (Implies f g) d ≡ clear_terms f d ++ clear_terms g d
unfolding clear_terms roll-Formula roll
clear_terms-Implies d f g =
    ap (λ h. h d) (fold-roll-Formula L L clear_step clear_quant_step (Formula-F.Implies f g))

pub clear_terms-Iff : (d : ℕ) (f g : Formula)
    → clear_terms (Iff f g) d ≡ clear_terms f d ++ clear_terms g d
unfolding clear_terms roll-Formula roll
clear_terms-Iff d f g =
    ap (λ h. h d) (fold-roll-Formula L L clear_step clear_quant_step (Formula-F.Iff f g))

pub clear_terms-Forall : (d : ℕ) (q : Quant)
    → clear_terms (Forall q) d ≡ clear_terms q.body (d + q.count)
unfolding clear_terms roll-Formula roll
clear_terms-Forall d q =
    ap (λ h. h d) (fold-roll-Formula L L clear_step clear_quant_step (Formula-F.Forall q))
    ∙ ap (λ h. h d) (fold_out-Quant L L clear_step clear_quant_step q)

pub clear_terms-Exists : (d : ℕ) (q : Quant)
    → clear_terms (Exists q) d ≡ clear_terms q.body (d + q.count)
unfolding clear_terms roll-Formula roll
clear_terms-Exists d q =
    ap (λ h. h d) (fold-roll-Formula L L clear_step clear_quant_step (Formula-F.Exists q))
    ∙ ap (λ h. h d) (fold_out-Quant L L clear_step clear_quant_step q)

pub clear_terms-Eq : (d : ℕ) (s t : Term) → clear_terms (Eq s t) d ≡ outside d s ++ outside d t
unfolding clear_terms roll-Formula roll
clear_terms-Eq d s t =
    ap (λ h. h d) (fold-roll-Formula L L clear_step clear_quant_step (Formula-F.Eq s t))

pub clear_terms-Less : (d : ℕ) (s t : Term) → clear_terms (Less s t) d ≡ outside d s ++ outside d t
unfolding clear_terms roll-Formula roll
clear_terms-Less d s t =
    ap (λ h. h d) (fold-roll-Formula L L clear_step clear_quant_step (Formula-F.Less s t))

pub clear_terms-Distinct : (d : ℕ) (ts : List Term)
    → clear_terms (Distinct ts) d ≡ flat_map (outside d) ts
unfolding clear_terms roll-Formula roll
clear_terms-Distinct d ts =
    ap (λ h. h d) (fold-roll-Formula L L clear_step clear_quant_step (Formula-F.Distinct ts))

pub clear_terms-LabelPos : (d : ℕ) (name : Sym) (f : Formula)
    → clear_terms (LabelPos name f) d ≡ clear_terms f d
unfolding clear_terms roll-Formula roll
clear_terms-LabelPos d name f =
    ap (λ h. h d) (fold-roll-Formula L L clear_step clear_quant_step (Formula-F.LabelPos name f))

pub clear_terms-LabelNeg : (d : ℕ) (name : Sym) (f : Formula)
    → clear_terms (LabelNeg name f) d ≡ clear_terms f d
unfolding clear_terms roll-Formula roll
clear_terms-LabelNeg d name f =
    ap (λ h. h d) (fold-roll-Formula L L clear_step clear_quant_step (Formula-F.LabelNeg name f))

-- ---- what is collected, on top of what was

filter-flat_map : {X : Type 0} (p : Term → _) (f : X → List Term) (xs : List X)
    → filter p (flat_map f xs) ≡ flat_map (λ x. filter p (f x)) xs
filter-flat_map p f [] = refl
filter-flat_map p f (x ∷ xs) =
    filter-append p (f x) (flat_map f xs) ∙ ap (λ ys. filter p (f x) ++ ys) (filter-flat_map p f xs)

module _ (q : Quant) (seen : List Term) where
  found-both : (xs ys : List Term)
      → fold with_once seen (filter (is_candidate q) (xs ++ ys))
      ≡ fold with_once (fold with_once seen (filter (is_candidate q) xs))
      (filter (is_candidate q) ys)
  found-both xs ys =
      ap (fold with_once seen) (filter-append (is_candidate q) xs ys)
      ∙ fold-append with_once seen (filter (is_candidate q) xs) (filter (is_candidate q) ys)

  pub found-True : (d : ℕ) → fold with_once seen (clear_candidates q True d) ≡ seen
  unfolding clear_candidates candidates_in
  found-True d = ap (λ ts. fold with_once seen (filter (is_candidate q) ts)) (clear_terms-True d)

  pub found-False : (d : ℕ) → fold with_once seen (clear_candidates q False d) ≡ seen
  unfolding clear_candidates candidates_in
  found-False d = ap (λ ts. fold with_once seen (filter (is_candidate q) ts)) (clear_terms-False d)

  pub found-And : (d : ℕ) (fs : List Formula)
      → fold with_once seen (clear_candidates q (And fs) d)
      ≡ fold with_once seen (flat_map (λ f. clear_candidates q f d) fs)
  unfolding clear_candidates candidates_in
  found-And d fs =
      ap (λ ts. fold with_once seen (filter (is_candidate q) ts)) (clear_terms-And d fs)
      ∙ ap (fold with_once seen) (filter-flat_map (is_candidate q) (λ f. clear_terms f d) fs)

  pub found-Or : (d : ℕ) (fs : List Formula)
      → fold with_once seen (clear_candidates q (Or fs) d)
      ≡ fold with_once seen (flat_map (λ f. clear_candidates q f d) fs)
  unfolding clear_candidates candidates_in
  found-Or d fs =
      ap (λ ts. fold with_once seen (filter (is_candidate q) ts)) (clear_terms-Or d fs)
      ∙ ap (fold with_once seen) (filter-flat_map (is_candidate q) (λ f. clear_terms f d) fs)

  pub found-Not : (d : ℕ) (f : Formula)
      → fold with_once seen (clear_candidates q (Not f) d)
      ≡ fold with_once seen (clear_candidates q f d)
  unfolding clear_candidates candidates_in
  found-Not d f = ap (λ ts. fold with_once seen (filter (is_candidate q) ts)) (clear_terms-Not d f)

  pub found-Implies : (d : ℕ) (f g : Formula)
      → fold with_once seen (clear_candidates q (Implies f g) d)
      ≡ fold with_once (fold with_once seen (clear_candidates q f d)) (clear_candidates q g d)
  unfolding clear_candidates candidates_in
  found-Implies d f g =
      ap (λ ts. fold with_once seen (filter (is_candidate q) ts)) (clear_terms-Implies d f g)
      ∙ found-both (clear_terms f d) (clear_terms g d)

  pub found-Iff : (d : ℕ) (f g : Formula)
      → fold with_once seen (clear_candidates q (Iff f g) d)
      ≡ fold with_once (fold with_once seen (clear_candidates q f d)) (clear_candidates q g d)
  unfolding clear_candidates candidates_in
  found-Iff d f g =
      ap (λ ts. fold with_once seen (filter (is_candidate q) ts)) (clear_terms-Iff d f g)
      ∙ found-both (clear_terms f d) (clear_terms g d)

  pub found-Forall : (d : ℕ) (r : Quant)
      → fold with_once seen (clear_candidates q (Forall r) d)
      ≡ fold with_once seen (clear_candidates q r.body (d + r.count))
  unfolding clear_candidates candidates_in
  found-Forall d r =
      ap (λ ts. fold with_once seen (filter (is_candidate q) ts)) (clear_terms-Forall d r)

  pub found-Exists : (d : ℕ) (r : Quant)
      → fold with_once seen (clear_candidates q (Exists r) d)
      ≡ fold with_once seen (clear_candidates q r.body (d + r.count))
  unfolding clear_candidates candidates_in
  found-Exists d r =
      ap (λ ts. fold with_once seen (filter (is_candidate q) ts)) (clear_terms-Exists d r)

  pub found-Eq : (d : ℕ) (s t : Term)
      → fold with_once seen (clear_candidates q (Eq s t) d)
      ≡ fold with_once (fold with_once seen (candidates_in q d s)) (candidates_in q d t)
  unfolding clear_candidates candidates_in
  found-Eq d s t =
      ap (λ ts. fold with_once seen (filter (is_candidate q) ts)) (clear_terms-Eq d s t)
      ∙ found-both (outside d s) (outside d t)

  pub found-Less : (d : ℕ) (s t : Term)
      → fold with_once seen (clear_candidates q (Less s t) d)
      ≡ fold with_once (fold with_once seen (candidates_in q d s)) (candidates_in q d t)
  unfolding clear_candidates candidates_in
  found-Less d s t =
      ap (λ ts. fold with_once seen (filter (is_candidate q) ts)) (clear_terms-Less d s t)
      ∙ found-both (outside d s) (outside d t)

  pub found-Distinct : (d : ℕ) (ts : List Term)
      → fold with_once seen (clear_candidates q (Distinct ts) d)
      ≡ fold with_once seen (flat_map (candidates_in q d) ts)
  unfolding clear_candidates candidates_in
  found-Distinct d ts =
      ap (λ ts. fold with_once seen (filter (is_candidate q) ts)) (clear_terms-Distinct d ts)
      ∙ ap (fold with_once seen) (filter-flat_map (is_candidate q) (outside d) ts)

  pub found-LabelPos : (d : ℕ) (name : Sym) (f : Formula)
      → fold with_once seen (clear_candidates q (LabelPos name f) d)
      ≡ fold with_once seen (clear_candidates q f d)
  unfolding clear_candidates candidates_in
  found-LabelPos d name f =
      ap (λ ts. fold with_once seen (filter (is_candidate q) ts)) (clear_terms-LabelPos d name f)

  pub found-LabelNeg : (d : ℕ) (name : Sym) (f : Formula)
      → fold with_once seen (clear_candidates q (LabelNeg name f) d)
      ≡ fold with_once seen (clear_candidates q f d)
  unfolding clear_candidates candidates_in
  found-LabelNeg d name f =
      ap (λ ts. fold with_once seen (filter (is_candidate q) ts)) (clear_terms-LabelNeg d name f)

pub ruleset clear_levels = (
  found-True,
  found-False,
  found-And,
  found-Or,
  found-Not,
  found-Implies,
  found-Iff,
  found-Forall,
  found-Exists,
  found-Eq,
  found-Less,
  found-Distinct,
  found-LabelPos,
  found-LabelNeg,
)
