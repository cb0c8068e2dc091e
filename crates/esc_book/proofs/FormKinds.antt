-- What each form of formula is written as.
use Rattle.std.proofs.Common.{◌≡◌, ◌<◌, ℕ, true, false, List, map, ap, ap₂, sym, ◌∙◌}
use Rattle.std.specs.List.{All}
use denote.Hole.Carrier.{roll}
use Rattle.esc_term.specs.declared.term.Sym.{Sym}
use Rattle.esc_term.specs.declared.term.Term.{Term}
use Rattle.esc_term.specs.declared.formula.Formula.{Formula}
use Rattle.esc_term.specs.declared.formula.Formula.TheVariants as formula
use Rattle.esc_term.specs.declared.formula.Formula.TheOpen.{Formula-F}
use Rattle.esc_term.specs.declared.formula.Formula.TheViews.{out-Formula, out-roll-Formula}
use Rattle.esc_term.specs.declared.formula.Formula.TheViews.{roll-Formula}
use Rattle.esc_term.specs.declared.formula.Quant.{Quant}
use Rattle.esc_egraph.specs.Graph.{Graph}
use Rattle.esc_sharing.specs.Nodes.{node_count, node_term}
use Rattle.esc_book.specs.Book.{Equation, Order, Distinction, Quantified, form_at}
use Rattle.esc_book.specs.WritingInside.{IsKindOf}
use Rattle.esc_book.specs.declared.entry.Kind.TheVariants as kind

module _ (g : Graph) (f : Formula) where
  pub kind-True : f ≡ formula.True → IsKindOf g f (kind.Constant true)
  unfolding roll-Formula roll
  kind-True e = record {
    form = sym (ap (λ x. form_at (out-Formula x)) e
        ∙ ap form_at (out-roll-Formula Formula-F.True));
    nodes = tt;
  }

  pub kind-False : f ≡ formula.False → IsKindOf g f (kind.Constant false)
  unfolding roll-Formula roll
  kind-False e = record {
    form = sym (ap (λ x. form_at (out-Formula x)) e
        ∙ ap form_at (out-roll-Formula Formula-F.False));
    nodes = tt;
  }

  pub kind-And : (ps : List Formula) → f ≡ formula.And ps → IsKindOf g f kind.Conjunction
  unfolding roll-Formula roll
  kind-And ps e = record {
    form = sym (ap (λ x. form_at (out-Formula x)) e
        ∙ ap form_at (out-roll-Formula (Formula-F.And ps)));
    nodes = tt;
  }

  pub kind-Or : (ps : List Formula) → f ≡ formula.Or ps → IsKindOf g f kind.Disjunction
  unfolding roll-Formula roll
  kind-Or ps e = record {
    form = sym (ap (λ x. form_at (out-Formula x)) e
        ∙ ap form_at (out-roll-Formula (Formula-F.Or ps)));
    nodes = tt;
  }

  pub kind-Not : (p : Formula) → f ≡ formula.Not p → IsKindOf g f kind.Negation
  unfolding roll-Formula roll
  kind-Not p e = record {
    form = sym (ap (λ x. form_at (out-Formula x)) e
        ∙ ap form_at (out-roll-Formula (Formula-F.Not p)));
    nodes = tt;
  }

  pub kind-Implies : (p q : Formula) → f ≡ formula.Implies p q → IsKindOf g f kind.Implication
  unfolding roll-Formula roll
  kind-Implies p q e = record {
    form = sym (ap (λ x. form_at (out-Formula x)) e
        ∙ ap form_at (out-roll-Formula (Formula-F.Implies p q)));
    nodes = tt;
  }

  pub kind-Iff : (p q : Formula) → f ≡ formula.Iff p q → IsKindOf g f kind.Equivalence
  unfolding roll-Formula roll
  kind-Iff p q e = record {
    form = sym (ap (λ x. form_at (out-Formula x)) e
        ∙ ap form_at (out-roll-Formula (Formula-F.Iff p q)));
    nodes = tt;
  }

  pub kind-LabelPos : (name : Sym) (p : Formula) → f ≡ formula.LabelPos name p
      → IsKindOf g f kind.Labelled
  unfolding roll-Formula roll
  kind-LabelPos name p e = record {
    form = sym (ap (λ x. form_at (out-Formula x)) e
        ∙ ap form_at (out-roll-Formula (Formula-F.LabelPos name p)));
    nodes = tt;
  }

  pub kind-LabelNeg : (name : Sym) (p : Formula) → f ≡ formula.LabelNeg name p
      → IsKindOf g f kind.Labelled
  unfolding roll-Formula roll
  kind-LabelNeg name p e = record {
    form = sym (ap (λ x. form_at (out-Formula x)) e
        ∙ ap form_at (out-roll-Formula (Formula-F.LabelNeg name p)));
    nodes = tt;
  }

  pub kind-Forall : (q : Quant) (copy : Formula) → f ≡ formula.Forall q → copy ≡ f
      → IsKindOf g f (kind.Quantified copy)
  unfolding roll-Formula roll
  kind-Forall q copy e same = record {
    form = ap Quantified (same ∙ e) ∙ sym (ap (λ x. form_at (out-Formula x)) e
        ∙ ap form_at (out-roll-Formula (Formula-F.Forall q)));
    nodes = tt;
  }

  pub kind-Exists : (q : Quant) (copy : Formula) → f ≡ formula.Exists q → copy ≡ f
      → IsKindOf g f (kind.Quantified copy)
  unfolding roll-Formula roll
  kind-Exists q copy e same = record {
    form = ap Quantified (same ∙ e) ∙ sym (ap (λ x. form_at (out-Formula x)) e
        ∙ ap form_at (out-roll-Formula (Formula-F.Exists q)));
    nodes = tt;
  }

  pub kind-Eq : (s t : Term) (a b : ℕ) → f ≡ formula.Eq s t → a < node_count g → b < node_count g
      → node_term g a ≡ s → node_term g b ≡ t → IsKindOf g f (kind.Equation a b)
  unfolding roll-Formula roll
  kind-Eq s t a b e al bl first second = record {
    form = ap₂ Equation first second ∙ sym (ap (λ x. form_at (out-Formula x)) e
        ∙ ap form_at (out-roll-Formula (Formula-F.Eq s t)));
    nodes = (al, bl);
  }

  pub kind-Less : (s t : Term) (a b : ℕ) → f ≡ formula.Less s t → a < node_count g
      → b < node_count g → node_term g a ≡ s → node_term g b ≡ t → IsKindOf g f (kind.Order a b)
  unfolding roll-Formula roll
  kind-Less s t a b e al bl first second = record {
    form = ap₂ Order first second ∙ sym (ap (λ x. form_at (out-Formula x)) e
        ∙ ap form_at (out-roll-Formula (Formula-F.Less s t)));
    nodes = (al, bl);
  }

  pub kind-Distinct : (ts : List Term) (nodes : List ℕ) → f ≡ formula.Distinct ts
      → All (λ a. a < node_count g) nodes → map (node_term g) nodes ≡ ts
      → IsKindOf g f (kind.Distinction nodes)
  unfolding roll-Formula roll
  kind-Distinct ts nodes e all are = record {
    form = ap Distinction are ∙ sym (ap (λ x. form_at (out-Formula x)) e
        ∙ ap form_at (out-roll-Formula (Formula-F.Distinct ts)));
    nodes = all;
  }

pub ruleset kinds = (
  kind-True,
  kind-False,
  kind-And,
  kind-Or,
  kind-Not,
  kind-Implies,
  kind-Iff,
  kind-LabelPos,
  kind-LabelNeg,
  kind-Forall,
  kind-Exists,
  kind-Eq,
  kind-Less,
  kind-Distinct,
)
