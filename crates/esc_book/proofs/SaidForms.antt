-- What is said of formulas of each form.
use Rattle.std.proofs.Common.{◌≡◌, ◌⊎◌, inl, inr, Bool, true, false, not, ◌&&◌, ◌||◌, List}
use Rattle.std.proofs.Common.{◌∷◌, ◌++◌, refl, ap, ap₂, sym, subst, ◌∙◌}
use denote.Hole.Carrier.{roll}
use Rattle.esc_term.specs.declared.term.Sym.{Sym}
use Rattle.esc_term.specs.declared.formula.Formula.{Formula}
use Rattle.esc_term.specs.declared.formula.Formula.TheVariants as formula
use Rattle.esc_term.specs.declared.formula.Formula.TheOpen.{Formula-F}
use Rattle.esc_term.specs.declared.formula.Formula.TheViews.{out-Formula, out-roll-Formula}
use Rattle.esc_term.specs.declared.formula.Formula.TheViews.{roll-Formula}
use Rattle.esc_term.specs.declared.formula.Quant.{Quant}
use Rattle.esc_cover.proofs.CoverLevels as levels
use Rattle.esc_cover.specs.Cover.{Cover, by_literal}
use Rattle.esc_sharing.specs.Unquantified.{is_quantified_form}
use Rattle.esc_said.specs.Speaking.{SaysAs}
use Rattle.esc_said.specs.declared.said.Said.{Said}
use Rattle.esc_book.specs.Book.{Constant, Quantified, form_at, heads_of}
use Rattle.esc_book.specs.Judging.{classes_for, literals_for}
use Rattle.esc_book.specs.JudgingInside.{cover_by, of_parts}
use Rattle.esc_book.specs.declared.judge.BookJudge.{BookJudge}
use Rattle.esc_book.proofs.EntryForms.{IsOf, of_form}
use Rattle.esc_book.proofs.HeadsLevels as heads
use Rattle.esc_book.proofs.SaidParts.{as_cover, as_said}

pub says_same : (said : Said) (c d : Cover) → c ≡ d → SaysAs said c → SaysAs said d
says_same said c d e says = subst (SaysAs said) e says

quantified-Forall : (q : Quant) → is_quantified_form (out-Formula (formula.Forall q)) ≡ true
unfolding roll-Formula roll
quantified-Forall q = ap is_quantified_form (out-roll-Formula (Formula-F.Forall q))

quantified-Exists : (q : Quant) → is_quantified_form (out-Formula (formula.Exists q)) ≡ true
unfolding roll-Formula roll
quantified-Exists q = ap is_quantified_form (out-roll-Formula (Formula-F.Exists q))

module _ (j : BookJudge) (s : Formula) where
  pub said_of-Constant : (b : Bool) → Constant b ≡ form_at (out-Formula s)
      → SaysAs (record { holds = b; fails = not b }) (cover_by j s)
  said_of-Constant true is =
      says_same (record { holds = true; fails = false }) _ _
      (sym (levels.cover-True (literals_for j) (classes_for j))
      ∙ ap (cover_by j) (sym (of_form (Constant true) s is)))
      (record { holds = refl; fails = refl })
  said_of-Constant false is =
      says_same (record { holds = false; fails = true }) _ _
      (sym (levels.cover-False (literals_for j) (classes_for j))
      ∙ ap (cover_by j) (sym (of_form (Constant false) s is)))
      (record { holds = refl; fails = refl })

  pub said_of-Quantified : (f : Formula) (said : Said) → Quantified f ≡ form_at (out-Formula s)
      → (is_quantified_form (out-Formula f) ≡ true
      → SaysAs said (by_literal (literals_for j) f)) → SaysAs said (cover_by j s)
  said_of-Quantified f said is says = by_form (of_form (Quantified f) s is)
    where
      by_form : IsOf (Quantified f) s → SaysAs said (cover_by j s)
      by_form (same, (q, inl e)) =
          let alike : f ≡ formula.Forall q = same ∙ e in
          says_same said (by_literal (literals_for j) f) (cover_by j s)
          (ap (by_literal (literals_for j)) alike
          ∙ (sym (levels.cover-Forall (literals_for j) (classes_for j) q)
          ∙ ap (cover_by j) (sym e)))
          (says (ap (λ x. is_quantified_form (out-Formula x)) alike ∙ quantified-Forall q))
      by_form (same, (q, inr e)) =
          let alike : f ≡ formula.Exists q = same ∙ e in
          says_same said (by_literal (literals_for j) f) (cover_by j s)
          (ap (by_literal (literals_for j)) alike
          ∙ (sym (levels.cover-Exists (literals_for j) (classes_for j) q)
          ∙ ap (cover_by j) (sym e)))
          (says (ap (λ x. is_quantified_form (out-Formula x)) alike ∙ quantified-Exists q))

  -- ---- by parts

  pub said_of-Not : (p : Formula) (said turned : Said) → s ≡ formula.Not p
      → SaysAs said (cover_by j p) → turned.holds ≡ said.fails → turned.fails ≡ said.holds
      → SaysAs turned (cover_by j s)
  said_of-Not p said turned e says holds fails =
      let is = levels.cover-Not (literals_for j) (classes_for j) p in
      subst (λ x. SaysAs turned (cover_by j x)) (sym e) (record {
        holds = holds ∙ (says.fails ∙ ap (λ c. c.holds) (sym is));
        fails = fails ∙ (says.holds ∙ ap (λ c. c.fails) (sym is));
      })

  pub said_of-Labelled : (p : Formula) (name : Sym) (said : Said)
      → (s ≡ formula.LabelPos name p) ⊎ (s ≡ formula.LabelNeg name p)
      → SaysAs said (cover_by j p) → SaysAs said (cover_by j s)
  said_of-Labelled p name said (inl e) says =
      says_same said (cover_by j p) (cover_by j s)
      (sym (levels.cover-LabelPos (literals_for j) (classes_for j) name p)
      ∙ ap (cover_by j) (sym e)) says
  said_of-Labelled p name said (inr e) says =
      says_same said (cover_by j p) (cover_by j s)
      (sym (levels.cover-LabelNeg (literals_for j) (classes_for j) name p)
      ∙ ap (cover_by j) (sym e)) says

  module _ (p q : Formula) (first second : Said) (says_p : SaysAs first (cover_by j p))
      (says_q : SaysAs second (cover_by j q)) where
    pub said_of-Implies : (turned said : Said) → s ≡ formula.Implies p q
        → turned.holds ≡ first.fails → turned.fails ≡ first.holds
        → said.holds ≡ (turned.holds || second.holds)
        → said.fails ≡ (turned.fails && second.fails) → SaysAs said (cover_by j s)
    said_of-Implies turned said e t_holds t_fails holds fails =
        let is = levels.cover-Implies (literals_for j) (classes_for j) p q in
        subst (λ x. SaysAs said (cover_by j x)) (sym e) (record {
          holds = holds ∙ (ap₂ (λ a b. a || b) (t_holds ∙ says_p.fails) says_q.holds
              ∙ ap (λ c. c.holds) (sym is));
          fails = fails ∙ (ap₂ (λ a b. a && b) (t_fails ∙ says_p.holds) says_q.fails
              ∙ ap (λ c. c.fails) (sym is));
        })

    pub said_of-Iff : (said : Said) → s ≡ formula.Iff p q
        → said.holds ≡ ((first.holds && second.holds) || (first.fails && second.fails))
        → said.fails ≡ ((first.holds && second.fails) || (first.fails && second.holds))
        → SaysAs said (cover_by j s)
    said_of-Iff said e holds fails =
        let is = levels.cover-Iff (literals_for j) (classes_for j) p q in
        let one : as_cover first ≡ cover_by j p = as_said first (cover_by j p) says_p in
        let other : as_cover second ≡ cover_by j q = as_said second (cover_by j q) says_q in
        subst (λ x. SaysAs said (cover_by j x)) (sym e) (record {
          holds = holds ∙ (ap₂ (λ (c d : Cover). (c.holds && d.holds) || (c.fails && d.fails))
              one other ∙ ap (λ c. c.holds) (sym is));
          fails = fails ∙ (ap₂ (λ (c d : Cover). (c.holds && d.fails) || (c.fails && d.holds))
              one other ∙ ap (λ c. c.fails) (sym is));
        })

  pub said_of-parts : (all : Bool) (ps : List Formula) (said : Said) → s ≡ of_parts all ps
      → SaysAs said (cover_by j (of_parts all ps)) → SaysAs said (cover_by j s)
  said_of-parts all ps said e says =
      says_same said (cover_by j (of_parts all ps)) (cover_by j s) (ap (cover_by j) (sym e)) says

-- ---- the formulas behind

pub heads-Not : (s p : Formula) → s ≡ formula.Not p → heads_of s ≡ s ∷ heads_of p
heads-Not s p e = subst (λ x. heads_of x ≡ x ∷ heads_of p) (sym e) (heads.heads_of-Not p)

pub heads-Labelled : (s p : Formula) (name : Sym)
    → (s ≡ formula.LabelPos name p) ⊎ (s ≡ formula.LabelNeg name p)
    → heads_of s ≡ s ∷ heads_of p
heads-Labelled s p name (inl e) =
    subst (λ x. heads_of x ≡ x ∷ heads_of p) (sym e) (heads.heads_of-LabelPos name p)
heads-Labelled s p name (inr e) =
    subst (λ x. heads_of x ≡ x ∷ heads_of p) (sym e) (heads.heads_of-LabelNeg name p)

pub heads-Implies : (s p q : Formula) → s ≡ formula.Implies p q
    → heads_of s ≡ s ∷ (heads_of p ++ heads_of q)
heads-Implies s p q e =
    subst (λ x. heads_of x ≡ x ∷ (heads_of p ++ heads_of q)) (sym e) (heads.heads_of-Implies p q)

pub heads-Iff : (s p q : Formula) → s ≡ formula.Iff p q
    → heads_of s ≡ s ∷ (heads_of p ++ heads_of q)
heads-Iff s p q e =
    subst (λ x. heads_of x ≡ x ∷ (heads_of p ++ heads_of q)) (sym e) (heads.heads_of-Iff p q)
