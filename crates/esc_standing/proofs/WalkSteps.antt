-- How formulas are kept, form by form.
use Rattle.std.proofs.Common.{◌≡◌, ◌⊎◌, inl, inr, ℕ, ◌+◌, zero, suc, List, [], ◌∷◌, ◌++◌, map}
use Rattle.std.proofs.Common.{length}
use Rattle.std.proofs.Common.{◌<◌, take, get_or, refl, ap, sym, subst, ◌∙◌, arith, Bool, true}
use Rattle.std.proofs.Common.{false}
use Rattle.std.proofs.lemmas.List.{append_assoc, append-nil, length-append, length-map}
use Rattle.std.proofs.lemmas.List.Elements.{filter-append}
use Rattle.std.specs.List.{filter, flat_map}
use Rattle.esc_term.specs.declared.term.Sym.{Sym}
use Rattle.esc_term.specs.declared.term.Term.{Term}
use Rattle.esc_term.specs.declared.formula.Formula.{Formula}
use Rattle.esc_term.specs.declared.formula.Formula.TheVariants.{True, False, And, Or, Not, Implies}
use Rattle.esc_term.specs.declared.formula.Formula.TheVariants.{Iff, Forall, Exists, Eq, Less}
use Rattle.esc_term.specs.declared.formula.Formula.TheVariants.{Distinct, LabelPos, LabelNeg}
use Rattle.esc_term.specs.declared.formula.Quant.{Quant}
use Rattle.esc_cover.specs.Atoms.{atoms_of}
use Rattle.esc_cover.proofs.AtomsLevels.{atoms_of-True, atoms_of-False, atoms_of-And, atoms_of-Or}
use Rattle.esc_cover.proofs.AtomsLevels.{atoms_of-Not, atoms_of-Implies, atoms_of-Iff}
use Rattle.esc_cover.proofs.AtomsLevels.{atoms_of-LabelPos, atoms_of-LabelNeg}
use Rattle.esc_rounds.specs.Origins.{Origin, outermost}
use Rattle.esc_standing.specs.Keeping.{Keeps, KeepsOne, is_quantified_formula, marked, outer_atoms}
use Rattle.esc_standing.specs.Keeping.{quantified_atoms}
use Rattle.esc_standing.specs.declared.formulas.KeptFormulas.{KeptFormulas}
use Rattle.esc_standing.proofs.NamedAtTerms.{marked-append, unmarked}
use Rattle.esc_standing.proofs.OutermostLevels.{outermost-True, outermost-False, outermost-And}
use Rattle.esc_standing.proofs.OutermostLevels.{outermost-Or, outermost-Not, outermost-Implies}
use Rattle.esc_standing.proofs.OutermostLevels.{outermost-Iff, outermost-Forall, outermost-Exists}
use Rattle.esc_standing.proofs.OutermostLevels.{outermost-Eq, outermost-Less, outermost-Distinct}
use Rattle.esc_standing.proofs.OutermostLevels.{outermost-LabelPos, outermost-LabelNeg}
use Rattle.esc_standing.proofs.QuantifiedAtoms.{quantified-Forall, quantified-Exists, quantified-Eq}
use Rattle.esc_standing.proofs.QuantifiedAtoms.{quantified-Less, quantified-Distinct}

pub filter-flat_map : {X A : Type 0} (p : A → Bool) (f : X → List A) (xs : List X)
    → filter p (flat_map f xs) ≡ flat_map (λ x. filter p (f x)) xs
filter-flat_map p f [] = refl
filter-flat_map p f (x ∷ xs) =
    filter-append p (f x) (flat_map f xs) ∙ ap (λ ys. filter p (f x) ++ ys) (filter-flat_map p f xs)

pub outer-True : outer_atoms True ≡ []
unfolding outer_atoms
outer-True = ap (filter is_quantified_formula) atoms_of-True

pub outer-False : outer_atoms False ≡ []
unfolding outer_atoms
outer-False = ap (filter is_quantified_formula) atoms_of-False

pub outer-And : (fs : List Formula) → outer_atoms (And fs) ≡ flat_map outer_atoms fs
unfolding outer_atoms
outer-And fs =
    ap (filter is_quantified_formula) (atoms_of-And fs)
    ∙ filter-flat_map is_quantified_formula atoms_of fs

pub outer-Or : (fs : List Formula) → outer_atoms (Or fs) ≡ flat_map outer_atoms fs
unfolding outer_atoms
outer-Or fs =
    ap (filter is_quantified_formula) (atoms_of-Or fs)
    ∙ filter-flat_map is_quantified_formula atoms_of fs

pub outer-Not : (f : Formula) → outer_atoms (Not f) ≡ outer_atoms f
unfolding outer_atoms
outer-Not f = ap (filter is_quantified_formula) (atoms_of-Not f)

pub outer-Implies : (f g : Formula) → outer_atoms (Implies f g) ≡ outer_atoms f ++ outer_atoms g
unfolding outer_atoms
outer-Implies f g =
    ap (filter is_quantified_formula) (atoms_of-Implies f g)
    ∙ filter-append is_quantified_formula (atoms_of f) (atoms_of g)

pub outer-Iff : (f g : Formula) → outer_atoms (Iff f g) ≡ outer_atoms f ++ outer_atoms g
unfolding outer_atoms
outer-Iff f g =
    ap (filter is_quantified_formula) (atoms_of-Iff f g)
    ∙ filter-append is_quantified_formula (atoms_of f) (atoms_of g)

pub outer-Forall : (q : Quant) → outer_atoms (Forall q) ≡ Forall q ∷ []
unfolding outer_atoms
outer-Forall q = quantified-Forall q

pub outer-Exists : (q : Quant) → outer_atoms (Exists q) ≡ Exists q ∷ []
unfolding outer_atoms
outer-Exists q = quantified-Exists q

pub outer-Eq : (s t : Term) → outer_atoms (Eq s t) ≡ []
unfolding outer_atoms
outer-Eq s t = quantified-Eq s t

pub outer-Less : (s t : Term) → outer_atoms (Less s t) ≡ []
unfolding outer_atoms
outer-Less s t = quantified-Less s t

pub outer-Distinct : (ts : List Term) → outer_atoms (Distinct ts) ≡ []
unfolding outer_atoms
outer-Distinct ts = quantified-Distinct ts

pub outer-LabelPos : (name : Sym) (f : Formula) → outer_atoms (LabelPos name f) ≡ outer_atoms f
unfolding outer_atoms
outer-LabelPos name f = ap (filter is_quantified_formula) (atoms_of-LabelPos name f)

pub outer-LabelNeg : (name : Sym) (f : Formula) → outer_atoms (LabelNeg name f) ≡ outer_atoms f
unfolding outer_atoms
outer-LabelNeg name f = ap (filter is_quantified_formula) (atoms_of-LabelNeg name f)

pub outer_atoms-is : (f : Formula) → outer_atoms f ≡ quantified_atoms f
unfolding outer_atoms
outer_atoms-is f = refl

abbrev pub IsSides : Formula → Formula → Formula → Type 0
IsSides h f g = (h ≡ Implies f g) ⊎ (h ≡ Iff f g)

pub marks_sides : (h f g : Formula) → IsSides h f g → outermost h ≡ outermost f ++ outermost g
marks_sides h f g (inl e) = ap outermost e ∙ outermost-Implies f g
marks_sides h f g (inr e) = ap outermost e ∙ outermost-Iff f g

atoms_sides : (h f g : Formula) → IsSides h f g → outer_atoms h ≡ outer_atoms f ++ outer_atoms g
atoms_sides h f g (inl e) = ap outer_atoms e ∙ outer-Implies f g
atoms_sides h f g (inr e) = ap outer_atoms e ∙ outer-Iff f g

abbrev pub IsOver : Formula → Quant → Type 0
IsOver f q = (f ≡ Forall q) ⊎ (f ≡ Exists q)

pub marks_over : (f : Formula) (q : Quant) → IsOver f q
    → outermost f ≡ true ∷ map (λ inside. false) (outermost q.body)
marks_over f q (inl e) = ap outermost e ∙ outermost-Forall q
marks_over f q (inr e) = ap outermost e ∙ outermost-Exists q

pub atoms_over : (f : Formula) (q : Quant) → IsOver f q → outer_atoms f ≡ f ∷ []
atoms_over f q (inl e) = ap outer_atoms e ∙ outer-Forall q ∙ ap (λ g. g ∷ []) (sym e)
atoms_over f q (inr e) = ap outer_atoms e ∙ outer-Exists q ∙ ap (λ g. g ∷ []) (sym e)

-- ---- lists of lists

flat_suc : {X A : Type 0} (f : X → List A) (xs : List X) (i : ℕ) (x : X) → i < length xs
    → x ≡ get_or xs i x → flat_map f (take (suc i) xs) ≡ flat_map f (take i xs) ++ f x
flat_suc f [] i x small is = absurd (omega (arith, small))
flat_suc f (y ∷ xs) zero x small is = append-nil (f y) ∙ ap f (sym is)
flat_suc f (y ∷ xs) (suc i) x small is =
    ap (λ zs. f y ++ zs) (flat_suc f xs i x (omega (arith, small)) is)
    ∙ sym (append_assoc (f y) (flat_map f (take i xs)) (f x))

flat_more : {X A : Type 0} (f : X → List A) (xs : List X) (i : ℕ) (x : X) → i < length xs
    → x ≡ get_or xs i x → flat_map f (take (i + 1) xs) ≡ flat_map f (take i xs) ++ f x
flat_more f xs i x small is =
    let here : i + 1 ≡ suc i = omega arith in
    ap (λ n. flat_map f (take n xs)) here ∙ flat_suc f xs i x small is

-- ---- numbers

pub pass_both : (n m k : ℕ) (h f g : Formula) → IsSides h f g → m ≡ n + length (outermost f)
    → k ≡ m + length (outermost g) → k ≡ n + length (outermost h)
pass_both n m k h f g is first then =
    let all = ap length (marks_sides h f g is) ∙ length-append (outermost f) (outermost g) in
    omega (arith, first, then, all)

pub pass_over : (n m k : ℕ) (f : Formula) (q : Quant) → IsOver f q → m ≡ n + 1
    → k ≡ m + length (outermost q.body) → k ≡ n + length (outermost f)
pass_over n m k f q is first then =
    let all : length (outermost f)
    ≡ suc (length (map {A = Bool} {B = Bool} (λ inside. false) (outermost q.body))) =
    ap length (marks_over f q is) in
    let many = length-map {A = Bool} {B = Bool} (outermost q.body) (λ inside. false) in
    omega (arith, first, then, all, many)

-- ---- what is kept

pub keeps_then : (depth : ℕ) (os us : List Origin) (fs gs : List Formula) (a b c : KeptFormulas)
    → Keeps depth os fs a b → Keeps depth us gs b c → Keeps depth (os ++ us) (fs ++ gs) a c
keeps_then depth [] us [] gs a b c k l = subst (λ z. Keeps depth us gs z c) k l
keeps_then depth [] us (f ∷ fs) gs a b c k l = absurd k
keeps_then depth (o ∷ os) us [] gs a b c k l = absurd k
keeps_then depth (o ∷ os) us (f ∷ fs) gs a b c k l =
    (k.0, k.1, keeps_then depth os us fs gs k.0 b c k.2 l)

module _ (depth : ℕ) (us : List Term) where
  pub walk_marks : (n m : ℕ) (bs cs : List Bool) (fs gs : List Formula) (x y z : KeptFormulas)
      → m ≡ n + length bs → Keeps depth (marked n us bs) fs x y
      → Keeps depth (marked m us cs) gs y z → Keeps depth (marked n us (bs ++ cs)) (fs ++ gs) x z
  walk_marks n m bs cs fs gs x y z e k l =
      subst (λ os. Keeps depth os (fs ++ gs) x z) (sym (marked-append n us bs cs))
      (keeps_then depth (marked n us bs) (marked (n + length bs) us cs) fs gs x y z k
      (subst (λ i. Keeps depth (marked i us cs) gs y z) e l))

  pub walk_both : (n m : ℕ) (h f g : Formula) (x y z : KeptFormulas) → IsSides h f g
      → m ≡ n + length (outermost f)
      → Keeps depth (marked n us (outermost f)) (outer_atoms f) x y
      → Keeps depth (marked m us (outermost g)) (outer_atoms g) y z
      → Keeps depth (marked n us (outermost h)) (outer_atoms h) x z
  walk_both n m h f g x y z is e k l =
      subst (λ bs. Keeps depth (marked n us bs) (outer_atoms h) x z) (sym (marks_sides h f g is))
      (subst (λ fs. Keeps depth (marked n us (outermost f ++ outermost g)) fs x z)
      (sym (atoms_sides h f g is))
      (walk_marks n m (outermost f) (outermost g) (outer_atoms f) (outer_atoms g) x y z e k l))

  pub walk_over : (n : ℕ) (f : Formula) (q : Quant) (x y : KeptFormulas) → IsOver f q
      → KeepsOne depth (record { number = n; outer = us }) f x y
      → Keeps depth (marked n us (outermost f)) (outer_atoms f) x y
  walk_over n f q x y is k =
      subst (λ bs. Keeps depth (marked n us bs) (outer_atoms f) x y) (sym (marks_over f q is))
      (subst (λ fs. Keeps depth (marked n us (true ∷ map (λ inside. false) (outermost q.body)))
      fs x y) (sym (atoms_over f q is))
      (subst (λ os. Keeps depth (record { number = n; outer = us } ∷ os) (f ∷ []) x y)
      (sym (unmarked (n + 1) us (outermost q.body))) (y, k, refl)))

  pub walk_more : (n m k : ℕ) (fs : List Formula) (i : ℕ) (f : Formula) (x y z : KeptFormulas)
      → i < length fs → f ≡ get_or fs i f → m ≡ n + length (flat_map outermost (take i fs))
      → Keeps depth (marked n us (flat_map outermost (take i fs)))
      (flat_map outer_atoms (take i fs)) x y
      → k ≡ m + length (outermost f)
      → Keeps depth (marked m us (outermost f)) (outer_atoms f) y z
      → (k ≡ n + length (flat_map outermost (take (i + 1) fs)))
      × Keeps depth (marked n us (flat_map outermost (take (i + 1) fs)))
      (flat_map outer_atoms (take (i + 1) fs)) x z
  walk_more n m k fs i f x y z small is passed before then now =
      let marks = flat_more outermost fs i f small is in
      let more = ap length marks
      ∙ length-append (flat_map outermost (take i fs)) (outermost f) in (
        omega (arith, passed, then, more),
        subst (λ bs. Keeps depth (marked n us bs) (flat_map outer_atoms (take (i + 1) fs)) x z)
            (sym marks)
            (subst (λ gs. Keeps depth
            (marked n us (flat_map outermost (take i fs) ++ outermost f)) gs x z)
            (sym (flat_more outer_atoms fs i f small is))
            (walk_marks n m (flat_map outermost (take i fs)) (outermost f)
            (flat_map outer_atoms (take i fs)) (outer_atoms f) x y z passed before now)),
      )

pub ruleset walking = (
  outermost-True,
  outermost-False,
  outermost-And,
  outermost-Or,
  outermost-Not,
  outermost-Implies,
  outermost-Iff,
  outermost-Forall,
  outermost-Exists,
  outermost-Eq,
  outermost-Less,
  outermost-Distinct,
  outermost-LabelPos,
  outermost-LabelNeg,
  outer-True,
  outer-False,
  outer-And,
  outer-Or,
  outer-Not,
  outer-Implies,
  outer-Iff,
  outer-Forall,
  outer-Exists,
  outer-Eq,
  outer-Less,
  outer-Distinct,
  outer-LabelPos,
  outer-LabelNeg,
)
