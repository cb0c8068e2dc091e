-- The text of each form of formula.
use Rattle.std.proofs.Common.{◌≡◌, ℕ, Bool, true, false, List, ◌++◌, map, ap, sym, ◌∙◌, refl, subst}
use Rattle.std.proofs.lemmas.List.Folds.{flat_map-map}
use Rattle.std.specs.Prelude.{codes}
use denote.Hole.Carrier.{roll}
use Rattle.esc_term.specs.declared.term.Sym.{Sym}
use Rattle.esc_term.specs.declared.term.Term.{Term}
use Rattle.esc_term.specs.declared.formula.Formula.{Formula, map-Formula}
use Rattle.esc_term.specs.declared.formula.Formula.TheVariants.{True, False, And, Or, Not, Implies}
use Rattle.esc_term.specs.declared.formula.Formula.TheVariants.{Iff, Forall, Exists, Eq, Less}
use Rattle.esc_term.specs.declared.formula.Formula.TheVariants.{Distinct, LabelPos, LabelNeg}
use Rattle.esc_term.specs.declared.formula.Formula.TheOpen.{Formula-F}
use Rattle.esc_term.specs.declared.formula.Formula.TheViews.{out-Formula, roll-Formula}
use Rattle.esc_term.specs.declared.formula.Formula.TheViews.{roll-out-Formula}
use Rattle.esc_term.specs.declared.formula.Formula.TheFolds.{fold-roll-Formula, fold_out-Quant}
use Rattle.esc_term.specs.declared.formula.Quant.{Quant}
use Rattle.esc_print.specs.Formulas.{both_text, denied_step, formula_step, inside_text, pair_text}
use Rattle.esc_print.specs.Formulas.{plain_step, quant_step, quant_text, text_of, variables_text}
use Rattle.esc_print.specs.Names.{name_text}
use Rattle.esc_print.specs.Terms.{blank, closing, deeper, spaced, term_text}

-- a text at a depth, as it is or denied
abbrev Texts : Type 0
Texts = ℕ → Bool → List ℕ

spaced-map : {X Y : Type 0} (text : Y → List ℕ) (f : X → Y) (xs : List X)
    → spaced text (map f xs) ≡ spaced (λ x. text (f x)) xs
unfolding spaced
spaced-map text f xs = flat_map-map (λ y. blank ++ text y) f xs

module _ (names : List (List ℕ)) where
  -- the texts of the parts of a formula
  abbrev parts : Formula-F Formula Quant → Formula-F Texts (ℕ → List ℕ)
  parts = map-Formula Formula Quant Texts (ℕ → List ℕ) (text_of names) (quant_text names)

  level : (x : Formula-F Formula Quant)
      → text_of names (roll-Formula x) ≡ formula_step names (parts x)
  unfolding text_of quant_text
  level x = fold-roll-Formula Texts (ℕ → List ℕ) (formula_step names) (quant_step names) x

  plain : (x : Formula-F Formula Quant) (d : ℕ)
      → text_of names (roll-Formula x) d false ≡ plain_step names (parts x) d
  plain x d = ap (λ h. h d false) (level x)

  denied : (x : Formula-F Formula Quant) (d : ℕ)
      → text_of names (roll-Formula x) d true ≡ denied_step names (parts x) d
  denied x d = ap (λ h. h d true) (level x)

  spaced_parts : (d : ℕ) (fs : List Formula)
      → spaced (λ part. part d false) (map (text_of names) fs)
      ≡ spaced (λ part. text_of names part d false) fs
  spaced_parts d fs = spaced-map (λ part. part d false) (text_of names) fs

  pub text_of-True : (d : ℕ) → text_of names True d false ≡ codes "TRUE"
  unfolding roll-Formula roll
  text_of-True d = plain Formula-F.True d

  pub text_of-False : (d : ℕ) → text_of names False d false ≡ codes "FALSE"
  unfolding roll-Formula roll
  text_of-False d = plain Formula-F.False d

  pub text_of-And : (d : ℕ) (fs : List Formula) → text_of names (And fs) d false
      ≡ codes "(AND" ++ (spaced (λ part. text_of names part d false) fs ++ closing)
  unfolding roll-Formula roll
  text_of-And d fs = plain (Formula-F.And fs) d
      ∙ ap (λ all. codes "(AND" ++ (all ++ closing)) (spaced_parts d fs)

  pub text_of-Or : (d : ℕ) (fs : List Formula) → text_of names (Or fs) d false
      ≡ codes "(OR" ++ (spaced (λ part. text_of names part d false) fs ++ closing)
  unfolding roll-Formula roll
  text_of-Or d fs = plain (Formula-F.Or fs) d
      ∙ ap (λ all. codes "(OR" ++ (all ++ closing)) (spaced_parts d fs)

  pub text_of-Not : (d : ℕ) (f : Formula) → text_of names (Not f) d false ≡ text_of names f d true
  unfolding roll-Formula roll
  text_of-Not d f = plain (Formula-F.Not f) d

  pub text_of-Implies : (d : ℕ) (f g : Formula) → text_of names (Implies f g) d false
      ≡ both_text (codes "(IMPLIES") (text_of names f d false) (text_of names g d false)
  unfolding roll-Formula roll
  text_of-Implies d f g = plain (Formula-F.Implies f g) d

  pub text_of-Iff : (d : ℕ) (f g : Formula) → text_of names (Iff f g) d false
      ≡ both_text (codes "(IFF") (text_of names f d false) (text_of names g d false)
  unfolding roll-Formula roll
  text_of-Iff d f g = plain (Formula-F.Iff f g) d

  pub text_of-Forall : (d : ℕ) (q : Quant) → text_of names (Forall q) d false
      ≡ codes "(FORALL (" ++ quant_text names q d
  unfolding roll-Formula roll
  text_of-Forall d q = plain (Formula-F.Forall q) d

  pub text_of-Exists : (d : ℕ) (q : Quant) → text_of names (Exists q) d false
      ≡ codes "(EXISTS (" ++ quant_text names q d
  unfolding roll-Formula roll
  text_of-Exists d q = plain (Formula-F.Exists q) d

  pub text_of-Eq : (d : ℕ) (s t : Term) → text_of names (Eq s t) d false
      ≡ pair_text names (codes "(EQ") d s t
  unfolding roll-Formula roll
  text_of-Eq d s t = plain (Formula-F.Eq s t) d

  pub text_of-Less : (d : ℕ) (s t : Term) → text_of names (Less s t) d false
      ≡ pair_text names (codes "(<") d s t
  unfolding roll-Formula roll
  text_of-Less d s t = plain (Formula-F.Less s t) d

  pub text_of-Distinct : (d : ℕ) (ts : List Term) → text_of names (Distinct ts) d false
      ≡ codes "(DISTINCT" ++ (spaced (term_text names d) ts ++ closing)
  unfolding roll-Formula roll
  text_of-Distinct d ts = plain (Formula-F.Distinct ts) d

  pub text_of-LabelPos : (d : ℕ) (name : Sym) (f : Formula)
      → text_of names (LabelPos name f) d false
      ≡ both_text (codes "(LBLPOS") (name_text names name) (text_of names f d false)
  unfolding roll-Formula roll
  text_of-LabelPos d name f = plain (Formula-F.LabelPos name f) d

  pub text_of-LabelNeg : (d : ℕ) (name : Sym) (f : Formula)
      → text_of names (LabelNeg name f) d false
      ≡ both_text (codes "(LBLNEG") (name_text names name) (text_of names f d false)
  unfolding roll-Formula roll
  text_of-LabelNeg d name f = plain (Formula-F.LabelNeg name f) d

  pub denied-Eq : (d : ℕ) (s t : Term) → text_of names (Eq s t) d true
      ≡ pair_text names (codes "(NEQ") d s t
  unfolding roll-Formula roll
  denied-Eq d s t = denied (Formula-F.Eq s t) d

  pub denied-Less : (d : ℕ) (s t : Term) → text_of names (Less s t) d true
      ≡ pair_text names (codes "(<=") d t s
  unfolding roll-Formula roll
  denied-Less d s t = denied (Formula-F.Less s t) d

  -- behind `NOT`, where a formula is no equality and no order
  behind_not : (x : Formula-F Formula Quant) (d : ℕ) → ((s t : Term) → roll-Formula x ≡ Eq s t → ⊥)
      → ((s t : Term) → roll-Formula x ≡ Less s t → ⊥)
      → denied_step names (parts x) d
      ≡ codes "(NOT" ++ ((blank ++ plain_step names (parts x) d) ++ closing)
  unfolding roll-Formula roll
  behind_not Formula-F.True d no_equality no_order = refl
  behind_not Formula-F.False d no_equality no_order = refl
  behind_not (Formula-F.And fs) d no_equality no_order = refl
  behind_not (Formula-F.Or fs) d no_equality no_order = refl
  behind_not (Formula-F.Not f) d no_equality no_order = refl
  behind_not (Formula-F.Implies f g) d no_equality no_order = refl
  behind_not (Formula-F.Iff f g) d no_equality no_order = refl
  behind_not (Formula-F.Forall q) d no_equality no_order = refl
  behind_not (Formula-F.Exists q) d no_equality no_order = refl
  behind_not (Formula-F.Eq s t) d no_equality no_order = absurd (no_equality s t refl)
  behind_not (Formula-F.Less s t) d no_equality no_order = absurd (no_order s t refl)
  behind_not (Formula-F.Distinct ts) d no_equality no_order = refl
  behind_not (Formula-F.LabelPos name f) d no_equality no_order = refl
  behind_not (Formula-F.LabelNeg name f) d no_equality no_order = refl

  denied_by_not : (x : Formula-F Formula Quant) (d : ℕ)
      → ((s t : Term) → roll-Formula x ≡ Eq s t → ⊥)
      → ((s t : Term) → roll-Formula x ≡ Less s t → ⊥)
      → text_of names (roll-Formula x) d true
      ≡ codes "(NOT" ++ ((blank ++ text_of names (roll-Formula x) d false) ++ closing)
  denied_by_not x d no_equality no_order =
      denied x d ∙ behind_not x d no_equality no_order
      ∙ sym (ap (λ text. codes "(NOT" ++ ((blank ++ text) ++ closing)) (plain x d))

  -- any other formula than an equality and an order is denied by `NOT`
  pub denied-other : (d : ℕ) (f : Formula) → ((s t : Term) → f ≡ Eq s t → ⊥)
      → ((s t : Term) → f ≡ Less s t → ⊥)
      → text_of names f d true ≡ codes "(NOT" ++ ((blank ++ text_of names f d false) ++ closing)
  denied-other d f p q =
      let is = roll-out-Formula f in
      subst (λ g. text_of names g d true ≡ codes "(NOT"
      ++ ((blank ++ text_of names g d false) ++ closing)) is
      (denied_by_not (out-Formula f) d (λ s t e. p s t (sym is ∙ e)) (λ s t e. q s t (sym is ∙ e)))

  pub quant_text-at : (d : ℕ) (q : Quant) → quant_text names q d
      ≡ variables_text d q.count ++ (closing
      ++ inside_text names (deeper d q.count) q.patterns q.exempt
      (text_of names q.body (deeper d q.count) false))
  unfolding text_of quant_text
  quant_text-at d q =
      ap (λ h. h d) (fold_out-Quant Texts (ℕ → List ℕ) (formula_step names) (quant_step names) q)

pub ruleset formula_levels = (
  text_of-True,
  text_of-False,
  text_of-And,
  text_of-Or,
  text_of-Not,
  text_of-Implies,
  text_of-Iff,
  text_of-Forall,
  text_of-Exists,
  text_of-Eq,
  text_of-Less,
  text_of-Distinct,
  text_of-LabelPos,
  text_of-LabelNeg,
)

pub ruleset denied_levels = (denied-Eq, denied-Less)
