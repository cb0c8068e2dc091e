-- The terms of a formula and the sides of its orders, by forms that are walked over alike; and the
-- sides are among the terms.
use Rattle.std.proofs.Common.{◌≡◌, ◌⊎◌, inl, inr, List, [], ◌∷◌, ◌++◌, map, ap, sym, subst, ◌∙◌}
use Rattle.std.specs.List.{Contains, flat_map}
use Rattle.std.proofs.lemmas.List.Elements.{Contains-append_cases, Contains-append_left}
use Rattle.std.proofs.lemmas.List.Elements.{Contains-append_right}
use denote.Hole.Carrier.{roll}
use Rattle.esc_term.specs.declared.term.Sym.{Sym}
use Rattle.esc_term.specs.declared.term.Term.{Term}
use Rattle.esc_term.specs.declared.formula.Formula.{Formula}
use Rattle.esc_term.specs.declared.formula.Formula.TheOpen.{Formula-F}
use Rattle.esc_term.specs.declared.formula.Formula.TheViews.{roll-Formula}
use Rattle.esc_term.specs.declared.formula.Formula.TheFolds.{map-Formula, ind-Formula}
use Rattle.esc_term.specs.declared.formula.Formula.TheVariants.{True, False, And, Or, Not, Implies}
use Rattle.esc_term.specs.declared.formula.Formula.TheVariants.{Iff, Forall, Exists, Eq, Less}
use Rattle.esc_term.specs.declared.formula.Formula.TheVariants.{Distinct, LabelPos, LabelNeg}
use Rattle.esc_term.specs.declared.formula.Quant.{Quant}
use Rattle.esc_term.specs.Formula.{terms_of}
use Rattle.esc_term.specs.Term.{subterms}
use Rattle.esc_term.proofs.GroundTerms.{terms_of-True, terms_of-False, terms_of-And, terms_of-Or}
use Rattle.esc_term.proofs.GroundTerms.{terms_of-Not, terms_of-Implies, terms_of-Iff}
use Rattle.esc_term.proofs.GroundTerms.{terms_of-Forall, terms_of-Exists, terms_of-Eq}
use Rattle.esc_term.proofs.GroundTerms.{terms_of-Less, terms_of-Distinct, terms_of-LabelPos}
use Rattle.esc_term.proofs.GroundTerms.{terms_of-LabelNeg}
use Rattle.esc_term.proofs.Members.{Contains-cases, Contains-flat_map, Contains-in_flat_map}
use Rattle.esc_term.proofs.Members.{Contains-none}
use Rattle.esc_term.proofs.TermLevels.{subterms-self}
use Rattle.esc_term.proofs.Wholes.{of_member}
use Rattle.esc_play.specs.WalkingInside.{sides_in}
use Rattle.esc_play.proofs.OrderSides.{sides_in-True, sides_in-False, sides_in-And, sides_in-Or}
use Rattle.esc_play.proofs.OrderSides.{sides_in-Not, sides_in-Implies, sides_in-Iff}
use Rattle.esc_play.proofs.OrderSides.{sides_in-Forall, sides_in-Exists, sides_in-Eq}
use Rattle.esc_play.proofs.OrderSides.{sides_in-Less, sides_in-Distinct, sides_in-LabelPos}
use Rattle.esc_play.proofs.OrderSides.{sides_in-LabelNeg}

-- ---- forms that are walked over alike

pub record Has (f : Formula) (terms sides : List Term) : Type 0 where
  pub terms_are : terms_of f ≡ terms
  pub sides_are : sides_in f ≡ sides

pub has-none : (f : Formula)
    → (f ≡ True) ⊎ ((f ≡ False) ⊎ (((q : Quant) × (f ≡ Forall q)) ⊎ ((q : Quant) × (f ≡ Exists q))))
    → Has f [] []
has-none f (inl e) = record {
  terms_are = ap terms_of e ∙ terms_of-True;
  sides_are = ap sides_in e ∙ sides_in-True;
}
has-none f (inr (inl e)) = record {
  terms_are = ap terms_of e ∙ terms_of-False;
  sides_are = ap sides_in e ∙ sides_in-False;
}
has-none f (inr (inr (inl (q, e)))) = record {
  terms_are = ap terms_of e ∙ terms_of-Forall q;
  sides_are = ap sides_in e ∙ sides_in-Forall q;
}
has-none f (inr (inr (inr (q, e)))) = record {
  terms_are = ap terms_of e ∙ terms_of-Exists q;
  sides_are = ap sides_in e ∙ sides_in-Exists q;
}

pub has-parts : (f : Formula) (gs parts : List Formula) → (f ≡ And gs) ⊎ (f ≡ Or gs) → parts ≡ gs
    → Has f (flat_map terms_of parts) (flat_map sides_in parts)
has-parts f gs parts (inl e) same = record {
  terms_are = ap terms_of e ∙ (terms_of-And gs ∙ ap (flat_map terms_of) (sym same));
  sides_are = ap sides_in e ∙ (sides_in-And gs ∙ ap (flat_map sides_in) (sym same));
}
has-parts f gs parts (inr e) same = record {
  terms_are = ap terms_of e ∙ (terms_of-Or gs ∙ ap (flat_map terms_of) (sym same));
  sides_are = ap sides_in e ∙ (sides_in-Or gs ∙ ap (flat_map sides_in) (sym same));
}

pub has-part : (f g part : Formula)
    → (f ≡ Not g)
    ⊎ (((name : Sym) × (f ≡ LabelPos name g)) ⊎ ((name : Sym) × (f ≡ LabelNeg name g))) → part ≡ g
    → Has f (terms_of part) (sides_in part)
has-part f g part (inl e) same = record {
  terms_are = ap terms_of e ∙ (terms_of-Not g ∙ ap terms_of (sym same));
  sides_are = ap sides_in e ∙ (sides_in-Not g ∙ ap sides_in (sym same));
}
has-part f g part (inr (inl (name, e))) same = record {
  terms_are = ap terms_of e ∙ (terms_of-LabelPos name g ∙ ap terms_of (sym same));
  sides_are = ap sides_in e ∙ (sides_in-LabelPos name g ∙ ap sides_in (sym same));
}
has-part f g part (inr (inr (name, e))) same = record {
  terms_are = ap terms_of e ∙ (terms_of-LabelNeg name g ∙ ap terms_of (sym same));
  sides_are = ap sides_in e ∙ (sides_in-LabelNeg name g ∙ ap sides_in (sym same));
}

pub has-both : (f g h left right : Formula) → (f ≡ Implies g h) ⊎ (f ≡ Iff g h) → left ≡ g
    → right ≡ h → Has f (terms_of left ++ terms_of right) (sides_in left ++ sides_in right)
has-both f g h left right (inl e) same also = record {
  terms_are = ap terms_of e ∙ (terms_of-Implies g h
      ∙ (ap (λ x. terms_of x ++ terms_of h) (sym same)
      ∙ ap (λ x. terms_of left ++ terms_of x) (sym also)));
  sides_are = ap sides_in e ∙ (sides_in-Implies g h
      ∙ (ap (λ x. sides_in x ++ sides_in h) (sym same)
      ∙ ap (λ x. sides_in left ++ sides_in x) (sym also)));
}
has-both f g h left right (inr e) same also = record {
  terms_are = ap terms_of e ∙ (terms_of-Iff g h
      ∙ (ap (λ x. terms_of x ++ terms_of h) (sym same)
      ∙ ap (λ x. terms_of left ++ terms_of x) (sym also)));
  sides_are = ap sides_in e ∙ (sides_in-Iff g h
      ∙ (ap (λ x. sides_in x ++ sides_in h) (sym same)
      ∙ ap (λ x. sides_in left ++ sides_in x) (sym also)));
}

pub has-Eq : (f : Formula) (s t : Term) → f ≡ Eq s t → Has f (subterms s ++ subterms t) []
has-Eq f s t e = record {
  terms_are = ap terms_of e ∙ terms_of-Eq s t;
  sides_are = ap sides_in e ∙ sides_in-Eq s t;
}

pub has-Less : (f : Formula) (s t : Term) → f ≡ Less s t
    → Has f (subterms s ++ subterms t) (s ∷ t ∷ [])
has-Less f s t e = record {
  terms_are = ap terms_of e ∙ terms_of-Less s t;
  sides_are = ap sides_in e ∙ sides_in-Less s t;
}

pub has-Distinct : (f : Formula) (us ts : List Term) → f ≡ Distinct us → ts ≡ us
    → Has f (flat_map subterms ts) []
has-Distinct f us ts e same = record {
  terms_are = ap terms_of e ∙ (terms_of-Distinct us ∙ ap (flat_map subterms) (sym same));
  sides_are = ap sides_in e ∙ sides_in-Distinct us;
}

-- ---- sides are among the terms

abbrev IsWithin : Formula → Type 0
IsWithin f = (t : Term) → Contains (sides_in f) t → Contains (terms_of f) t

abbrev Any_quant : Quant → Type 0
Any_quant q = Unit {0}

none_within : (f : Formula) → sides_in f ≡ [] → IsWithin f
none_within f none t h = absurd (Contains-none t (subst (λ ts. Contains ts t) none h))

part_within : (f g : Formula) → sides_in f ≡ sides_in g → terms_of f ≡ terms_of g → IsWithin g
    → IsWithin f
part_within f g sides terms within t h =
    subst (λ ts. Contains ts t) (sym terms) (within t (subst (λ ts. Contains ts t) sides h))

two_within : (f g h : Formula) → sides_in f ≡ sides_in g ++ sides_in h
    → terms_of f ≡ terms_of g ++ terms_of h → IsWithin g → IsWithin h → IsWithin f
two_within f g h sides terms first second t k =
    subst (λ ts. Contains ts t) (sym terms)
    (elim (Contains-append_cases (sides_in g) (sides_in h) t
    (subst (λ ts. Contains ts t) sides k)) [
      | inl x ↦ Contains-append_left (terms_of g) (terms_of h) t (first t x)
      | inr y ↦ Contains-append_right (terms_of g) (terms_of h) t (second t y)
    ])

each_within : (f : Formula) (gs : List Formula) → sides_in f ≡ flat_map sides_in gs
    → terms_of f ≡ flat_map terms_of gs → ((g : Formula) → Contains gs g → IsWithin g) → IsWithin f
each_within f gs sides terms each t h =
    let found = Contains-flat_map sides_in gs t (subst (λ ts. Contains ts t) sides h) in
    subst (λ ts. Contains ts t) (sym terms)
    (Contains-in_flat_map terms_of gs found.0 t found.1 (each found.0 found.1 t found.2))

less_within : (s u : Term) → IsWithin (Less s u)
less_within s u t h =
    subst (λ ts. Contains ts t) (sym (terms_of-Less s u))
    (elim (Contains-cases s (u ∷ []) t (subst (λ ts. Contains ts t) (sides_in-Less s u) h)) [
      | inl same ↦ Contains-append_left (subterms s) (subterms u) t
          (subst (Contains (subterms s)) same (subterms-self s))
      | inr later ↦ elim (Contains-cases u [] t later) [
        | inl same ↦ Contains-append_right (subterms s) (subterms u) t
            (subst (Contains (subterms u)) same (subterms-self u))
        | inr none ↦ absurd (Contains-none t none)
      ]
    ])

within_at : (y : Formula-F ((f : Formula) × IsWithin f) ((q : Quant) × Any_quant q))
    → IsWithin (roll-Formula (map-Formula ((f : Formula) × IsWithin f)
    ((q : Quant) × Any_quant q) Formula Quant (λ e. e.0) (λ e. e.0) y))
unfolding roll-Formula roll
within_at Formula-F.True = none_within True sides_in-True
within_at Formula-F.False = none_within False sides_in-False
within_at (Formula-F.And es) =
    let fs : List Formula = map (λ e. e.0) es in
    each_within (And fs) fs (sides_in-And fs) (terms_of-And fs) (of_member IsWithin es)
within_at (Formula-F.Or es) =
    let fs : List Formula = map (λ e. e.0) es in
    each_within (Or fs) fs (sides_in-Or fs) (terms_of-Or fs) (of_member IsWithin es)
within_at (Formula-F.Not e) =
    part_within (Not e.0) e.0 (sides_in-Not e.0) (terms_of-Not e.0) e.1
within_at (Formula-F.Implies d e) =
    two_within (Implies d.0 e.0) d.0 e.0 (sides_in-Implies d.0 e.0) (terms_of-Implies d.0 e.0) d.1
    e.1
within_at (Formula-F.Iff d e) =
    two_within (Iff d.0 e.0) d.0 e.0 (sides_in-Iff d.0 e.0) (terms_of-Iff d.0 e.0) d.1 e.1
within_at (Formula-F.Forall q) = none_within (Forall q.0) (sides_in-Forall q.0)
within_at (Formula-F.Exists q) = none_within (Exists q.0) (sides_in-Exists q.0)
within_at (Formula-F.Eq s t) = none_within (Eq s t) (sides_in-Eq s t)
within_at (Formula-F.Less s t) = less_within s t
within_at (Formula-F.Distinct ts) = none_within (Distinct ts) (sides_in-Distinct ts)
within_at (Formula-F.LabelPos name e) =
    part_within (LabelPos name e.0) e.0 (sides_in-LabelPos name e.0) (terms_of-LabelPos name e.0)
    e.1
within_at (Formula-F.LabelNeg name e) =
    part_within (LabelNeg name e.0) e.0 (sides_in-LabelNeg name e.0) (terms_of-LabelNeg name e.0)
    e.1

pub sides_within : (f : Formula) (t : Term) → Contains (sides_in f) t → Contains (terms_of f) t
sides_within = ind-Formula IsWithin Any_quant
    (λ x y is. subst (λ z. IsWithin (roll-Formula z)) is (within_at y)) (λ x y is. tt)
