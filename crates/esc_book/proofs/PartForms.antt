-- What the formula of an entry expands to, by the kind of the entry.
use Rattle.std.proofs.Common.{◌≡◌, ℕ, suc, ◌+◌, ◌<◌, Bool, true, false, not, List, [], ◌∷◌, ◌++◌}
use Rattle.std.proofs.Common.{Some, length, map, get_or, refl, ap, sym, subst, ◌∙◌, arith, inl, inr}
use Rattle.std.proofs.Common.{if◌then◌else◌}
use Rattle.std.proofs.lemmas.List.{append-nil, length-map}
use Rattle.std.specs.List.{flat_map, slice_get}
use denote.Hole.Carrier.{roll}
use Rattle.esc_term.specs.declared.term.Term.{Term}
use Rattle.esc_term.specs.declared.formula.Formula.{Formula}
use Rattle.esc_term.specs.declared.formula.Formula.TheVariants as formula
use Rattle.esc_term.specs.declared.formula.Formula.TheOpen.{Formula-F}
use Rattle.esc_term.specs.declared.formula.Formula.TheViews.{out-Formula, out-roll-Formula}
use Rattle.esc_term.specs.declared.formula.Formula.TheViews.{roll-Formula}
use Rattle.esc_term.specs.declared.formula.Quant.{Quant}
use Rattle.esc_clause.specs.Expansion.{AllOf, Expansion, Literal, OneOfEach, expanded_form}
use Rattle.esc_clause.specs.Expansion.{from_place, parts_at}
use Rattle.esc_clause.specs.declared.occurrence.Occurrence.{Occurrence}
use Rattle.esc_egraph.specs.Graph.{Graph}
use Rattle.esc_sharing.specs.Nodes.{node_term}
use Rattle.esc_book.specs.Book.{IsPage, heads_of, pairs_form}
use Rattle.esc_book.specs.JudgingInside.{AreBetween}
use Rattle.esc_book.specs.ReadingInside.{AreThere, begin_at, both_from, expanded_to, settled_as}
use Rattle.esc_book.specs.declared.entry.Entry.{Entry}
use Rattle.esc_book.specs.declared.entry.Kind.TheVariants as kind
use Rattle.esc_book.proofs.EntryForms.{form_there}
use Rattle.esc_book.proofs.HeadsLevels as heads
use Rattle.esc_book.proofs.Nested.{heads_whole, parts_there}
use Rattle.esc_book.proofs.Reading.{begin_at-own, next_there}

-- ---- by sign

module _ (at : Occurrence) where
  true-form : (p : Bool) → settled_as p ≡ expanded_form at Formula-F.True p
  true-form true = refl
  true-form false = refl

  false-form : (p : Bool) → settled_as (not p) ≡ expanded_form at Formula-F.False p
  false-form true = refl
  false-form false = refl

  and-form : (ps : List Formula) (p : Bool)
      → expanded_to p (parts_at at p ps) ≡ expanded_form at (Formula-F.And ps) p
  and-form ps true = refl
  and-form ps false = refl

  or-form : (ps : List Formula) (p : Bool)
      → expanded_to (not p) (parts_at at p ps) ≡ expanded_form at (Formula-F.Or ps) p
  or-form ps true = refl
  or-form ps false = refl

  implies-form : (q r : Formula) (p : Bool)
      → expanded_to (not p) (both_from at.fact (at.place + 1) (not p) p q)
      ≡ expanded_form at (Formula-F.Implies q r) p
  implies-form q r true = refl
  implies-form q r false = refl

  iff-form : (q r : Formula) (p : Bool)
      → OneOfEach (both_from at.fact (at.place + 1) (not p) true q
      ∷ both_from at.fact (at.place + 1) p false q ∷ [])
      ≡ expanded_form at (Formula-F.Iff q r) p
  iff-form q r true = refl
  iff-form q r false = refl

-- ---- by kind

module _ (g : Graph) (f : Formula) (page : List Entry) (is : IsPage g f page) (i : ℕ) (e : Entry)
    (l : i < length page) (is_e : e ≡ get_or page i e) (s : Formula)
    (there : slice_get (heads_of f) i ≡ Some s) (at : Occurrence)
    (begins : begin_at (heads_of f) i ≡ at.place) where
  abbrev pub meant : Expansion
  meant = expanded_form at (out-Formula s) at.positive

  out_is : (y : Formula-F Formula Quant) → s ≡ roll-Formula y → out-Formula s ≡ y
  out_is y same = ap out-Formula same ∙ out-roll-Formula y

  form_is : (y : Formula-F Formula Quant) → s ≡ roll-Formula y
      → meant ≡ expanded_form at y at.positive
  form_is y same = ap (λ z. expanded_form at z at.positive) (out_is y same)

  between : (ps : List Formula) → heads_of s ≡ s ∷ flat_map heads_of ps
      → AreBetween (heads_of f) (i + 1) e.next ps
  between ps behind = record {
    there = parts_there (heads_of f) i s ps (heads_whole f) there behind;
    ends = omega (arith, next_there g f page is i e s l is_e there, ap length behind);
  }

  inside : (y : Formula-F Formula Quant) → s ≡ roll-Formula y → pairs_form y ≡ []
      → begin_at (heads_of f) (i + 1) ≡ at.place + 1
  inside y same none =
      let next : i + 1 ≡ suc i = omega arith in
      let alone : pairs_form (out-Formula s) ≡ [] = ap pairs_form (out_is y same) ∙ none in
      let behind : begin_at (heads_of f) (suc i) ≡ at.place + 1 =
      omega (arith, begin_at-own (heads_of f) i s there, begins, ap length alone) in
      ap (begin_at (heads_of f)) next ∙ behind

  -- the parts of the formula, and what it expands to by them
  pub record Expands (place : ℕ) (to : List Formula → Expansion) : Type 0 where
    pub parts : List Formula
    pub between : AreBetween (heads_of f) (i + 1) e.next parts
    pub begin : begin_at (heads_of f) (i + 1) ≡ place
    pub expands : to parts ≡ meant

  parted : (y : Formula-F Formula Quant) (ps : List Formula) (to : List Formula → Expansion)
      → s ≡ roll-Formula y → pairs_form y ≡ [] → heads_of s ≡ s ∷ flat_map heads_of ps
      → to ps ≡ expanded_form at y at.positive → Expands (at.place + 1) to
  parted y ps to same none behind result = record {
    parts = ps;
    between = between ps behind;
    begin = inside y same none;
    expands = result ∙ sym (form_is y same);
  }

  pub expands-Constant : (b : Bool) → e.kind ≡ kind.Constant b
      → settled_as (if b then at.positive else not at.positive) ≡ meant
  unfolding roll-Formula roll
  expands-Constant true of_kind =
      true-form at at.positive
      ∙ sym (form_is Formula-F.True
      (form_there g f page is i e l is_e s (kind.Constant true) there of_kind))
  expands-Constant false of_kind =
      false-form at at.positive
      ∙ sym (form_is Formula-F.False
      (form_there g f page is i e l is_e s (kind.Constant false) there of_kind))

  pub expands-Conjunction : e.kind ≡ kind.Conjunction → Expands (at.place + 1)
      (λ ps. expanded_to at.positive (from_place at.fact (at.place + 1) at.positive ps))
  unfolding roll-Formula roll
  expands-Conjunction of_kind =
      let found = form_there g f page is i e l is_e s kind.Conjunction there of_kind in
      let ps : List Formula = found.0 in
      let same : s ≡ formula.And ps = found.1 in
      let behind : heads_of s ≡ s ∷ flat_map heads_of ps =
      subst (λ x. heads_of x ≡ x ∷ flat_map heads_of ps) (sym same) (heads.heads_of-And ps) in
      parted (Formula-F.And ps) ps _ same refl behind (and-form at ps at.positive)

  pub expands-Disjunction : e.kind ≡ kind.Disjunction → Expands (at.place + 1)
      (λ ps. expanded_to (not at.positive) (from_place at.fact (at.place + 1) at.positive ps))
  unfolding roll-Formula roll
  expands-Disjunction of_kind =
      let found = form_there g f page is i e l is_e s kind.Disjunction there of_kind in
      let ps : List Formula = found.0 in
      let same : s ≡ formula.Or ps = found.1 in
      let behind : heads_of s ≡ s ∷ flat_map heads_of ps =
      subst (λ x. heads_of x ≡ x ∷ flat_map heads_of ps) (sym same) (heads.heads_of-Or ps) in
      parted (Formula-F.Or ps) ps _ same refl behind (or-form at ps at.positive)

  one : (p : Formula) → heads_of s ≡ s ∷ heads_of p
      → heads_of s ≡ s ∷ flat_map heads_of (p ∷ [])
  one p behind = behind ∙ ap (λ hs. s ∷ hs) (sym (append-nil (heads_of p)))

  pub expands-Negation : e.kind ≡ kind.Negation → Expands (at.place + 1)
      (λ ps. AllOf (from_place at.fact (at.place + 1) (not at.positive) ps))
  unfolding roll-Formula roll
  expands-Negation of_kind =
      let found = form_there g f page is i e l is_e s kind.Negation there of_kind in
      let p : Formula = found.0 in
      let same : s ≡ formula.Not p = found.1 in
      let behind : heads_of s ≡ s ∷ heads_of p =
      subst (λ x. heads_of x ≡ x ∷ heads_of p) (sym same) (heads.heads_of-Not p) in
      parted (Formula-F.Not p) (p ∷ []) _ same refl (one p behind) refl

  pub expands-Labelled : e.kind ≡ kind.Labelled → Expands (at.place + 1)
      (λ ps. AllOf (from_place at.fact (at.place + 1) at.positive ps))
  unfolding roll-Formula roll
  expands-Labelled of_kind =
      let found = form_there g f page is i e l is_e s kind.Labelled there of_kind in
      let p : Formula = found.0 in
      let name = found.1.0 in
      elim found.1.1 [
        | inl same ↦
            let behind : heads_of s ≡ s ∷ heads_of p =
            subst (λ x. heads_of x ≡ x ∷ heads_of p) (sym same) (heads.heads_of-LabelPos name p) in
            parted (Formula-F.LabelPos name p) (p ∷ []) _ same refl (one p behind) refl
        | inr same ↦
            let behind : heads_of s ≡ s ∷ heads_of p =
            subst (λ x. heads_of x ≡ x ∷ heads_of p) (sym same) (heads.heads_of-LabelNeg name p) in
            parted (Formula-F.LabelNeg name p) (p ∷ []) _ same refl (one p behind) refl
      ]

  -- the two parts of the formula, and what it expands to by the first
  pub record ExpandsTwo (place : ℕ) (to : Formula → Expansion) : Type 0 where
    pub first : Formula
    pub second : Formula
    pub both : AreThere (heads_of f) (i + 1) (first ∷ second ∷ [])
    pub begin : begin_at (heads_of f) (i + 1) ≡ place
    pub expands : to first ≡ meant

  parted_two : (y : Formula-F Formula Quant) (p q : Formula) (to : Formula → Expansion)
      → s ≡ roll-Formula y → pairs_form y ≡ [] → heads_of s ≡ s ∷ (heads_of p ++ heads_of q)
      → to p ≡ expanded_form at y at.positive → ExpandsTwo (at.place + 1) to
  parted_two y p q to same none behind result = record {
    first = p;
    second = q;
    both = parts_there (heads_of f) i s (p ∷ q ∷ []) (heads_whole f) there
        (behind ∙ ap (λ hs. s ∷ (heads_of p ++ hs)) (sym (append-nil (heads_of q))));
    begin = inside y same none;
    expands = result ∙ sym (form_is y same);
  }

  pub expands-Implication : e.kind ≡ kind.Implication → ExpandsTwo (at.place + 1)
      (λ p. expanded_to (not at.positive)
      (both_from at.fact (at.place + 1) (not at.positive) at.positive p))
  unfolding roll-Formula roll
  expands-Implication of_kind =
      let found = form_there g f page is i e l is_e s kind.Implication there of_kind in
      let p : Formula = found.0 in
      let q : Formula = found.1.0 in
      let same : s ≡ formula.Implies p q = found.1.1 in
      let behind : heads_of s ≡ s ∷ (heads_of p ++ heads_of q) =
      subst (λ x. heads_of x ≡ x ∷ (heads_of p ++ heads_of q)) (sym same)
      (heads.heads_of-Implies p q) in
      parted_two (Formula-F.Implies p q) p q _ same refl behind (implies-form at p q at.positive)

  pub expands-Equivalence : e.kind ≡ kind.Equivalence → ExpandsTwo (at.place + 1)
      (λ p. OneOfEach (both_from at.fact (at.place + 1) (not at.positive) true p
      ∷ both_from at.fact (at.place + 1) at.positive false p ∷ []))
  unfolding roll-Formula roll
  expands-Equivalence of_kind =
      let found = form_there g f page is i e l is_e s kind.Equivalence there of_kind in
      let p : Formula = found.0 in
      let q : Formula = found.1.0 in
      let same : s ≡ formula.Iff p q = found.1.1 in
      let behind : heads_of s ≡ s ∷ (heads_of p ++ heads_of q) =
      subst (λ x. heads_of x ≡ x ∷ (heads_of p ++ heads_of q)) (sym same)
      (heads.heads_of-Iff p q) in
      parted_two (Formula-F.Iff p q) p q _ same refl behind (iff-form at p q at.positive)

  -- a distinction of so many terms
  pub expands-Distinction : (nodes : List ℕ) → e.kind ≡ kind.Distinction nodes
      → (ts : List Term) × (length ts ≡ length nodes)
      × (expanded_form at (Formula-F.Distinct ts) at.positive ≡ meant)
  unfolding roll-Formula roll
  expands-Distinction nodes of_kind =
      let same = form_there g f page is i e l is_e s (kind.Distinction nodes) there of_kind in (
        map (node_term g) nodes,
        length-map nodes (node_term g),
        sym (form_is (Formula-F.Distinct (map (node_term g) nodes)) same),
      )

  pub expands-Equation : (a b : ℕ) → e.kind ≡ kind.Equation a b → Literal ≡ meant
  unfolding roll-Formula roll
  expands-Equation a b of_kind =
      sym (form_is (Formula-F.Eq (node_term g a) (node_term g b))
      (form_there g f page is i e l is_e s (kind.Equation a b) there of_kind))

  pub expands-Order : (a b : ℕ) → e.kind ≡ kind.Order a b → Literal ≡ meant
  unfolding roll-Formula roll
  expands-Order a b of_kind =
      sym (form_is (Formula-F.Less (node_term g a) (node_term g b))
      (form_there g f page is i e l is_e s (kind.Order a b) there of_kind))

  pub expands-Quantified : (h : Formula) → e.kind ≡ kind.Quantified h → Literal ≡ meant
  unfolding roll-Formula roll
  expands-Quantified h of_kind =
      let found = form_there g f page is i e l is_e s (kind.Quantified h) there of_kind in
      elim found.1.1 [
        | inl same ↦ sym (form_is (Formula-F.Forall found.1.0) same)
        | inr same ↦ sym (form_is (Formula-F.Exists found.1.0) same)
      ]
