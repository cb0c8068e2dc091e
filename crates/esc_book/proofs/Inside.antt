-- What is written behind a formula, by its form.
use Rattle.std.proofs.Common.{◌≡◌, ◌⊎◌, inl, inr, ℕ, ◌+◌, List, [], ◌∷◌, ◌++◌, length, drop}
use Rattle.std.proofs.Common.{ap, ap₂, sym, subst, ◌∙◌, arith}
use Rattle.std.proofs.lemmas.List.Elements.{All-contains}
use Rattle.std.specs.List.{All, flat_map}
use denote.Hole.Carrier.{roll}
use Rattle.esc_term.specs.declared.term.Sym.{Sym}
use Rattle.esc_term.specs.declared.term.Term.{Term}
use Rattle.esc_term.specs.declared.formula.Formula.{Formula}
use Rattle.esc_term.specs.declared.formula.Formula.TheVariants as formula
use Rattle.esc_term.specs.declared.formula.Formula.TheOpen.{Formula-F}
use Rattle.esc_term.specs.declared.formula.Formula.TheViews.{out-Formula, out-roll-Formula}
use Rattle.esc_term.specs.declared.formula.Formula.TheViews.{roll-Formula}
use Rattle.esc_term.specs.declared.formula.Quant.{Quant}
use Rattle.esc_term.specs.Formula.{terms_of}
use Rattle.esc_term.proofs.GroundTerms as terms
use Rattle.esc_cover.specs.Atoms.{pair_equations}
use Rattle.esc_egraph.specs.Graph.{Graph}
use Rattle.esc_term.specs.Term.{subterms}
use Rattle.esc_term.proofs.Members.{Contains-in_flat_map}
use Rattle.esc_term.proofs.TermLevels.{subterms-self}
use Rattle.esc_sharing.proofs.Lists.{All-append_left, All-append_right, All-each, flat_map-All}
use Rattle.esc_book.specs.Book.{heads_of, pairs_form}
use Rattle.esc_book.specs.GroupInside.{pair_count}
use Rattle.esc_book.specs.WritingInside.{Writes, behind_own, inside_of}
use Rattle.esc_book.specs.declared.entry.Entry.{Entry}
use Rattle.esc_book.proofs.HeadsLevels as heads
use Rattle.esc_book.proofs.Pairs.{length-pair_equations}
use Rattle.esc_book.proofs.Writings.{writes_none}

-- what is written from a place on, with these behind the formula and no pairs of its own
pub record GoesInside (f : Formula) (hs : List Formula) : Type 0 where
  pub inside : inside_of f ≡ hs
  pub alone : pairs_form (out-Formula f) ≡ []

goes : (f : Formula) (hs : List Formula) → heads_of f ≡ f ∷ hs → pairs_form (out-Formula f) ≡ []
    → GoesInside f hs
goes f hs is none = record { inside = ap (λ l. drop 1 l) is; alone = none }

pub inside-written : (g : Graph) (f : Formula) (hs : List Formula) (n end : ℕ)
    (old new : List Entry) → GoesInside f hs → Writes g hs n old new end
    → Writes g (inside_of f) (behind_own n f) old new end
inside-written g f hs n end old new is w =
    let place : n ≡ behind_own n f = omega (arith, ap length is.alone) in
    subst (λ l. Writes g l (behind_own n f) old new end) (sym is.inside)
    (subst (λ m. Writes g hs m old new end) place w)

pub inside-parts : (f : Formula) (gs ps : List Formula) → (f ≡ formula.And gs) ⊎ (f ≡ formula.Or gs)
    → ps ≡ gs → GoesInside f (flat_map heads_of ps)
unfolding roll-Formula roll
inside-parts f gs ps (inl e) same =
    subst (λ l. GoesInside f (flat_map heads_of l)) (sym same)
    (subst (λ x. GoesInside x (flat_map heads_of gs)) (sym e)
    (goes (formula.And gs) (flat_map heads_of gs) (heads.heads_of-And gs)
    (ap pairs_form (out-roll-Formula (Formula-F.And gs)))))
inside-parts f gs ps (inr e) same =
    subst (λ l. GoesInside f (flat_map heads_of l)) (sym same)
    (subst (λ x. GoesInside x (flat_map heads_of gs)) (sym e)
    (goes (formula.Or gs) (flat_map heads_of gs) (heads.heads_of-Or gs)
    (ap pairs_form (out-roll-Formula (Formula-F.Or gs)))))

pub inside-part : (f h p : Formula) → (f ≡ formula.Not h)
    ⊎ (((name : Sym) × (f ≡ formula.LabelPos name h))
    ⊎ ((name : Sym) × (f ≡ formula.LabelNeg name h)))
    → p ≡ h → GoesInside f (heads_of p)
unfolding roll-Formula roll
inside-part f h p (inl e) same =
    subst (λ x. GoesInside f (heads_of x)) (sym same)
    (subst (λ x. GoesInside x (heads_of h)) (sym e)
    (goes (formula.Not h) (heads_of h) (heads.heads_of-Not h)
    (ap pairs_form (out-roll-Formula (Formula-F.Not h)))))
inside-part f h p (inr (inl (name, e))) same =
    subst (λ x. GoesInside f (heads_of x)) (sym same)
    (subst (λ x. GoesInside x (heads_of h)) (sym e)
    (goes (formula.LabelPos name h) (heads_of h) (heads.heads_of-LabelPos name h)
    (ap pairs_form (out-roll-Formula (Formula-F.LabelPos name h)))))
inside-part f h p (inr (inr (name, e))) same =
    subst (λ x. GoesInside f (heads_of x)) (sym same)
    (subst (λ x. GoesInside x (heads_of h)) (sym e)
    (goes (formula.LabelNeg name h) (heads_of h) (heads.heads_of-LabelNeg name h)
    (ap pairs_form (out-roll-Formula (Formula-F.LabelNeg name h)))))

pub inside-two : (f h k p q : Formula) → (f ≡ formula.Implies h k) ⊎ (f ≡ formula.Iff h k)
    → p ≡ h → q ≡ k → GoesInside f (heads_of p ++ heads_of q)
unfolding roll-Formula roll
inside-two f h k p q (inl e) first second =
    subst (λ l. GoesInside f l) (sym (ap₂ (λ x y. heads_of x ++ heads_of y) first second))
    (subst (λ x. GoesInside x (heads_of h ++ heads_of k)) (sym e)
    (goes (formula.Implies h k) (heads_of h ++ heads_of k) (heads.heads_of-Implies h k)
    (ap pairs_form (out-roll-Formula (Formula-F.Implies h k)))))
inside-two f h k p q (inr e) first second =
    subst (λ l. GoesInside f l) (sym (ap₂ (λ x y. heads_of x ++ heads_of y) first second))
    (subst (λ x. GoesInside x (heads_of h ++ heads_of k)) (sym e)
    (goes (formula.Iff h k) (heads_of h ++ heads_of k) (heads.heads_of-Iff h k)
    (ap pairs_form (out-roll-Formula (Formula-F.Iff h k)))))

module _ (g : Graph) (n : ℕ) (old : List Entry) where
  leaf : (f : Formula) → heads_of f ≡ f ∷ [] → pairs_form (out-Formula f) ≡ []
      → Writes g (inside_of f) (behind_own n f) old old n
  leaf f is none = inside-written g f [] n n old old (goes f [] is none) (writes_none g n old)

  pub inside-True : Writes g (inside_of formula.True) (behind_own n formula.True) old old n
  unfolding roll-Formula roll
  inside-True =
      leaf formula.True heads.heads_of-True (ap pairs_form (out-roll-Formula Formula-F.True))

  pub inside-False : Writes g (inside_of formula.False) (behind_own n formula.False) old old n
  unfolding roll-Formula roll
  inside-False =
      leaf formula.False heads.heads_of-False (ap pairs_form (out-roll-Formula Formula-F.False))

  pub inside-Eq : (s t : Term)
      → Writes g (inside_of (formula.Eq s t)) (behind_own n (formula.Eq s t)) old old n
  unfolding roll-Formula roll
  inside-Eq s t =
      leaf (formula.Eq s t) (heads.heads_of-Eq s t)
      (ap pairs_form (out-roll-Formula (Formula-F.Eq s t)))

  pub inside-Less : (s t : Term)
      → Writes g (inside_of (formula.Less s t)) (behind_own n (formula.Less s t)) old old n
  unfolding roll-Formula roll
  inside-Less s t =
      leaf (formula.Less s t) (heads.heads_of-Less s t)
      (ap pairs_form (out-roll-Formula (Formula-F.Less s t)))

  pub inside-Forall : (q : Quant)
      → Writes g (inside_of (formula.Forall q)) (behind_own n (formula.Forall q)) old old n
  unfolding roll-Formula roll
  inside-Forall q =
      leaf (formula.Forall q) (heads.heads_of-Forall q)
      (ap pairs_form (out-roll-Formula (Formula-F.Forall q)))

  pub inside-Exists : (q : Quant)
      → Writes g (inside_of (formula.Exists q)) (behind_own n (formula.Exists q)) old old n
  unfolding roll-Formula roll
  inside-Exists q =
      leaf (formula.Exists q) (heads.heads_of-Exists q)
      (ap pairs_form (out-roll-Formula (Formula-F.Exists q)))

  pub inside-Distinct : (ts : List Term) (count end : ℕ) → count ≡ length ts
      → end ≡ n + pair_count count
      → Writes g (inside_of (formula.Distinct ts)) (behind_own n (formula.Distinct ts)) old old end
  unfolding roll-Formula roll
  inside-Distinct ts count end many is =
      let pairs : pairs_form (out-Formula (formula.Distinct ts)) ≡ pair_equations ts =
      ap pairs_form (out-roll-Formula (Formula-F.Distinct ts)) in
      let counted : pair_count count ≡ pair_count (length ts) = ap pair_count many in
      let place : behind_own n (formula.Distinct ts) ≡ end =
      omega (arith, is, counted, ap length pairs, length-pair_equations ts) in
      subst (λ m. Writes g (inside_of (formula.Distinct ts)) m old old end) (sym place)
      (subst (λ l. Writes g l end old old end)
      (sym (ap (λ l. drop 1 l) (heads.heads_of-Distinct ts)))
      (writes_none g end old))

-- ---- the terms of the parts

module _ (P : Term → Type 0) where
  of_form : (f g : Formula) → f ≡ g → (xs : List Term) → terms_of g ≡ xs → All P (terms_of f)
      → All P xs
  of_form f g e xs is all = subst (λ l. All P l) (ap terms_of e ∙ is) all

  pub terms-parts : (f : Formula) (gs ps : List Formula)
      → (f ≡ formula.And gs) ⊎ (f ≡ formula.Or gs) → ps ≡ gs → All P (terms_of f)
      → All (λ p. All P (terms_of p)) ps
  terms-parts f gs ps (inl e) same all =
      subst (λ l. All (λ p. All P (terms_of p)) l) (sym same)
      (flat_map-All P terms_of gs
      (of_form f (formula.And gs) e (flat_map terms_of gs) (terms.terms_of-And gs) all))
  terms-parts f gs ps (inr e) same all =
      subst (λ l. All (λ p. All P (terms_of p)) l) (sym same)
      (flat_map-All P terms_of gs
      (of_form f (formula.Or gs) e (flat_map terms_of gs) (terms.terms_of-Or gs) all))

  pub terms-part : (f h p : Formula) → (f ≡ formula.Not h)
      ⊎ (((name : Sym) × (f ≡ formula.LabelPos name h))
      ⊎ ((name : Sym) × (f ≡ formula.LabelNeg name h)))
      → p ≡ h → All P (terms_of f) → All P (terms_of p)
  terms-part f h p (inl e) same all =
      subst (λ x. All P (terms_of x)) (sym same)
      (of_form f (formula.Not h) e (terms_of h) (terms.terms_of-Not h) all)
  terms-part f h p (inr (inl (name, e))) same all =
      subst (λ x. All P (terms_of x)) (sym same)
      (of_form f (formula.LabelPos name h) e (terms_of h) (terms.terms_of-LabelPos name h) all)
  terms-part f h p (inr (inr (name, e))) same all =
      subst (λ x. All P (terms_of x)) (sym same)
      (of_form f (formula.LabelNeg name h) e (terms_of h) (terms.terms_of-LabelNeg name h) all)

  both : (f h k : Formula) → (f ≡ formula.Implies h k) ⊎ (f ≡ formula.Iff h k)
      → All P (terms_of f) → All P (terms_of h ++ terms_of k)
  both f h k (inl e) all =
      of_form f (formula.Implies h k) e (terms_of h ++ terms_of k) (terms.terms_of-Implies h k) all
  both f h k (inr e) all =
      of_form f (formula.Iff h k) e (terms_of h ++ terms_of k) (terms.terms_of-Iff h k) all

  pub terms-left : (f h k p : Formula) → (f ≡ formula.Implies h k) ⊎ (f ≡ formula.Iff h k)
      → p ≡ h → All P (terms_of f) → All P (terms_of p)
  terms-left f h k p e same all =
      subst (λ x. All P (terms_of x)) (sym same)
      (All-append_left P (terms_of h) (terms_of k) (both f h k e all))

  pub terms-right : (f h k p : Formula) → (f ≡ formula.Implies h k) ⊎ (f ≡ formula.Iff h k)
      → p ≡ k → All P (terms_of f) → All P (terms_of p)
  terms-right f h k p e same all =
      subst (λ x. All P (terms_of x)) (sym same)
      (All-append_right P (terms_of h) (terms_of k) (both f h k e all))

  -- the terms of an atom
  pub terms-sides : (f : Formula) (s t : Term) → (f ≡ formula.Eq s t) ⊎ (f ≡ formula.Less s t)
      → All P (terms_of f) → P s × P t
  terms-sides f s t e all =
      let whole : All P (subterms s ++ subterms t) = sides e in (
        All-contains P (subterms s) s (All-append_left P (subterms s) (subterms t) whole)
            (subterms-self s),
        All-contains P (subterms t) t (All-append_right P (subterms s) (subterms t) whole)
            (subterms-self t),
      )
    where
      sides : (f ≡ formula.Eq s t) ⊎ (f ≡ formula.Less s t) → All P (subterms s ++ subterms t)
      sides (inl e) =
          of_form f (formula.Eq s t) e (subterms s ++ subterms t) (terms.terms_of-Eq s t) all
      sides (inr e) =
          of_form f (formula.Less s t) e (subterms s ++ subterms t) (terms.terms_of-Less s t) all

  pub terms-distinct : (f : Formula) (us ts : List Term) → f ≡ formula.Distinct us → ts ≡ us
      → All P (terms_of f) → All P ts
  terms-distinct f us ts e same all =
      subst (λ l. All P l) (sym same) (All-each P us (λ u h. All-contains P (flat_map subterms us) u
      (of_form f (formula.Distinct us) e (flat_map subterms us) (terms.terms_of-Distinct us) all)
      (Contains-in_flat_map subterms us u u h (subterms-self u))))
