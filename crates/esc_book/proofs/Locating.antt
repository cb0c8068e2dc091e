-- What stands at a place of a formula, by its table.
use Rattle.std.proofs.Common.{◌≡◌, ℕ, nat_le, true, false, suc, ◌+◌, ◌-◌, ◌<◌, ◌≤◌, List, [], ◌∷◌}
use Rattle.std.proofs.Common.{Some, None, Option, length, map, get_or, refl, ap, sym, subst}
use Rattle.std.proofs.Common.{◌∙◌, arith}
use Rattle.std.proofs.lemmas.Bool.{leb-false, leb-true}
use Rattle.std.proofs.lemmas.List.Elements.{All-append, All-cons, All-head, All-nil, All-tail}
use Rattle.std.proofs.lemmas.Option.{slice_get-get_or}
use Rattle.std.specs.List.{All, slice_get}
use Rattle.std.specs.List.Sorted.{IsPartitionPoint}
use Rattle.std.specs.Option.{option_map}
use denote.Hole.Carrier.{roll}
use Rattle.esc_term.specs.declared.term.Term.{Term}
use Rattle.esc_term.specs.declared.formula.Formula.{Formula}
use Rattle.esc_term.specs.declared.formula.Formula.TheVariants as formula
use Rattle.esc_term.specs.declared.formula.Formula.TheOpen.{Formula-F}
use Rattle.esc_term.specs.declared.formula.Formula.TheViews.{out-Formula, out-roll-Formula}
use Rattle.esc_term.specs.declared.formula.Formula.TheViews.{roll-Formula}
use Rattle.esc_term.specs.declared.formula.Quant.{Quant}
use Rattle.esc_cover.specs.Atoms.{pair_equations}
use Rattle.esc_clause.specs.Occurrences.{occurrences_of}
use Rattle.esc_egraph.specs.Graph.{Graph}
use Rattle.esc_sharing.specs.Nodes.{node_count, node_term}
use Rattle.esc_book.specs.Book.{Distinction, HasNodes, IsPage, Outline, form_at, heads_of, own}
use Rattle.esc_book.specs.Book.{pairs_form, told_kind}
use Rattle.esc_book.specs.GroupInside.{node_pairs}
use Rattle.esc_book.specs.ReadingInside.{IsLocated, begin_at, pair_place}
use Rattle.esc_book.specs.declared.entry.Entry.{Entry}
use Rattle.esc_book.specs.declared.entry.Kind.{Kind}
use Rattle.esc_book.specs.declared.entry.Kind.TheVariants as kind
use Rattle.esc_book.specs.declared.page.Place.{Place}
use Rattle.esc_book.specs.declared.page.Place.TheVariants as place
use Rattle.esc_book.proofs.EntryForms.{of_form}
use Rattle.esc_book.proofs.Nested.{heads_first, occurrences_of-heads}
use Rattle.esc_book.proofs.Pairs.{pair_equations-map, slice_get-map}
use Rattle.esc_book.proofs.Reading.{begin_at-own, get-within, length-page, own_at, read}

-- ---- the pairs of nodes

pub all-get : {X : Type 0} (P : X → Type 0) (xs : List X) (k : ℕ) (x : X) → All P xs
    → slice_get xs k ≡ Some x → P x
all-get P xs k x all e =
    let l : k < length xs = get-within xs k x e in
    let both : Some (get_or xs k x) ≡ Some x = sym (slice_get-get_or xs k x l) ∙ e in
    let same : get_or xs k x ≡ x = cc in
    subst P same (all k x l)

module _ (P : ℕ → Type 0) where
  abbrev Both : ℕ × ℕ → Type 0
  Both p = P p.0 × P p.1

  with_one : (a : ℕ) (nodes : List ℕ) → P a → All P nodes → All Both (map (λ b. (a, b)) nodes)
  with_one a [] h all = All-nil Both
  with_one a (b ∷ nodes) h all =
      All-cons Both (a, b) (map (λ b. (a, b)) nodes) (h, All-head P b nodes all)
      (with_one a nodes h (All-tail P b nodes all))

  pub all_pairs : (nodes : List ℕ) → All P nodes → All Both (node_pairs nodes)
  all_pairs [] all = All-nil Both
  all_pairs (a ∷ nodes) all =
      All-append Both (map (λ b. (a, b)) nodes) (node_pairs nodes)
      (with_one a nodes (All-head P a nodes all) (All-tail P a nodes all))
      (all_pairs nodes (All-tail P a nodes all))

-- ---- distinctions by their entries

pub other_kind : (g : Graph) (k : Kind) (ts : List Term)
    → ((nodes : List ℕ) → k ≡ kind.Distinction nodes → ⊥) → told_kind g k ≡ Distinction ts → ⊥
other_kind g (kind.Constant is_true) ts other e = cc
other_kind g kind.Conjunction ts other e = cc
other_kind g kind.Disjunction ts other e = cc
other_kind g kind.Negation ts other e = cc
other_kind g kind.Implication ts other e = cc
other_kind g kind.Equivalence ts other e = cc
other_kind g kind.Labelled ts other e = cc
other_kind g (kind.Equation a b) ts other e = cc
other_kind g (kind.Order a b) ts other e = cc
other_kind g (kind.Distinction nodes) ts other e = other nodes refl
other_kind g (kind.Quantified f) ts other e = cc

no_pairs : (g : Graph) (k : Kind) (y : Formula-F Formula Quant)
    → ((nodes : List ℕ) → k ≡ kind.Distinction nodes → ⊥) → told_kind g k ≡ form_at y
    → pairs_form y ≡ []
no_pairs g k Formula-F.True other e = refl
no_pairs g k Formula-F.False other e = refl
no_pairs g k (Formula-F.And parts) other e = refl
no_pairs g k (Formula-F.Or parts) other e = refl
no_pairs g k (Formula-F.Not part) other e = refl
no_pairs g k (Formula-F.Implies left right) other e = refl
no_pairs g k (Formula-F.Iff left right) other e = refl
no_pairs g k (Formula-F.Forall quant) other e = refl
no_pairs g k (Formula-F.Exists quant) other e = refl
no_pairs g k (Formula-F.Eq s t) other e = refl
no_pairs g k (Formula-F.Less s t) other e = refl
no_pairs g k (Formula-F.Distinct ts) other e = absurd (other_kind g k ts other e)
no_pairs g k (Formula-F.LabelPos name part) other e = refl
no_pairs g k (Formula-F.LabelNeg name part) other e = refl

-- ---- entries

-- the formula of the entry at a place of the table, and what the entry has of it
pub record HasEntry (g : Graph) (f : Formula) (i : ℕ) (e : Entry) : Type 0 where
  pub of : Formula
  pub there : slice_get (heads_of f) i ≡ Some of
  pub begins : e.begin ≡ begin_at (heads_of f) i
  pub next : e.next ≡ i + length (heads_of of)
  pub form : told_kind g e.kind ≡ form_at (out-Formula of)
  pub nodes : HasNodes g e.kind

pub has_entry : (g : Graph) (f : Formula) (page : List Entry) → IsPage g f page → (i : ℕ)
    (e : Entry) → i < length page → e ≡ get_or page i e → HasEntry g f i e
has_entry g f page is i e l is_e =
    let found = read g f page is i e l in
    record {
      of = found.0;
      there = found.1.there;
      begins = ap (λ (x : Entry). x.begin) is_e ∙ ap (λ (o : Outline). o.begin) found.1.outline;
      next = ap (λ (x : Entry). x.next) is_e ∙ ap (λ (o : Outline). o.next) found.1.outline;
      form = ap (λ (x : Entry). told_kind g x.kind) is_e
          ∙ ap (λ (o : Outline). o.form) found.1.outline;
      nodes = subst (λ (x : Entry). HasNodes g x.kind) (sym is_e) (is.nodes i e l);
    }

-- ---- the entry that begins at a place

pub begins_located : (g : Graph) (f : Formula) (page : List Entry) → IsPage g f page → (at i : ℕ)
    (e : Entry) → i < length page → e ≡ get_or page i e → e.begin ≡ at
    → IsLocated g f page at (place.Entry i)
begins_located g f page is at i e l is_e same =
    let here = has_entry g f page is i e l is_e in
    let begins : begin_at (heads_of f) i ≡ at = sym here.begins ∙ same in
    let ends : begin_at (heads_of f) (suc i) ≡ begin_at (heads_of f) i + length (own here.of) =
    begin_at-own (heads_of f) i here.of here.there in
    let some : 0 < length (own here.of) = omega arith in
    let low : begin_at (heads_of f) i ≤ at = omega (arith, begins) in
    let none : at - begin_at (heads_of f) i ≡ 0 = omega (arith, begins) in (
      here.of,
      here.there,
      ap (λ l. slice_get l at) (occurrences_of-heads f)
          ∙ (own_at (heads_of f) i here.of at here.there low (λ more. omega (arith, begins, ends, some))
          ∙ ap (λ n. slice_get (own here.of) n) none),
      begins,
    )

-- ---- the last entry that begins at a place or before

module _ (g : Graph) (f : Formula) (page : List Entry) (is : IsPage g f page) (at behind : ℕ)
    (split : IsPartitionPoint (λ (e : Entry). nat_le e.begin at ≡ true)
    (λ (e : Entry). nat_le e.begin at ≡ false) page behind) (bound : behind ≤ length page) where
  pub nothing_before : behind ≡ 0 → slice_get (occurrences_of f) at ≡ None
  nothing_before none =
      let d : Entry = record { begin = 0; next = 0; kind = kind.Labelled } in
      let some : 0 < length page =
      omega (arith, length-page g f page is, ap length (heads_first f).1) in
      let begins : (get_or page 0 d).begin ≡ begin_at (heads_of f) 0 =
      ap (λ (o : Outline). o.begin) (read g f page is 0 d some).1.outline in
      let first : begin_at (heads_of f) 0 ≡ 0 = refl in
      let past : at < (get_or page 0 d).begin =
      leb-false (get_or page 0 d).begin at (split.1 0 d (omega (arith, none)) some) in
      absurd (omega (arith, past, begins, first))

  module _ (i : ℕ) (e : Entry) (last : i + 1 ≡ behind) (is_e : e ≡ get_or page i e) where
    within : i < length page
    within = omega (arith, last, bound)

    here : HasEntry g f i e
    here = has_entry g f page is i e within is_e

    pub begins_before : e.begin ≤ at
    begins_before =
        let low : (get_or page i e).begin ≤ at =
        leb-true (get_or page i e).begin at (split.0 i e (omega arith) (omega (arith, last))) in
        omega (arith, low, ap (λ (x : Entry). x.begin) is_e)

    before_next : suc i < length (heads_of f) → at < begin_at (heads_of f) (suc i)
    before_next more =
        let l : suc i < length page = omega (arith, more, length-page g f page is) in
        let begins : (get_or page (suc i) e).begin ≡ begin_at (heads_of f) (suc i) =
        ap (λ (o : Outline). o.begin) (read g f page is (suc i) e l).1.outline in
        let past : at < (get_or page (suc i) e).begin =
        leb-false (get_or page (suc i) e).begin at
        (split.1 (suc i) e (omega (arith, last)) l) in
        omega (arith, past, begins)

    stands : slice_get (occurrences_of f) at ≡ slice_get (own here.of) (at - e.begin)
    stands =
        let low : begin_at (heads_of f) i ≤ at = omega (arith, here.begins, begins_before) in
        ap (λ l. slice_get l at) (occurrences_of-heads f)
        ∙ (own_at (heads_of f) i here.of at here.there low before_next
        ∙ ap (λ n. slice_get (own here.of) (at - n)) (sym here.begins))

    pub entry_located : e.begin ≡ at → IsLocated g f page at (place.Entry i)
    entry_located same =
        let none : at - e.begin ≡ 0 = omega (arith, same) in (
          here.of,
          here.there,
          stands ∙ ap (λ n. slice_get (own here.of) n) none,
          sym here.begins ∙ same,
        )

    later : (k : ℕ) → at ≡ e.begin + 1 + k
        → slice_get (occurrences_of f) at ≡ slice_get (pairs_form (out-Formula here.of)) k
    later k parted =
        let ahead : at - e.begin ≡ suc k = omega (arith, parted) in
        stands ∙ ap (λ n. slice_get (own here.of) n) ahead

    pub nothing_there : (e.begin ≡ at → ⊥)
        → ((nodes : List ℕ) → e.kind ≡ kind.Distinction nodes → ⊥)
        → slice_get (occurrences_of f) at ≡ None
    nothing_there apart other =
        let k : ℕ = at - e.begin - 1 in
        let parted : at ≡ e.begin + 1 + k = omega (arith, begins_before, apart) in
        later k parted
        ∙ ap (λ l. slice_get l k) (no_pairs g e.kind (out-Formula here.of) other here.form)

    pub pair_located : (nodes : List ℕ) (k : ℕ) (p : Place) → e.kind ≡ kind.Distinction nodes
        → at ≡ e.begin + 1 + k → p ≡ pair_place (slice_get (node_pairs nodes) k)
        → IsLocated g f page at p
    unfolding roll-Formula roll
    pair_located nodes k p of_kind parted found =
        subst (IsLocated g f page at) (sym found) (by (slice_get (node_pairs nodes) k) refl)
      where
        equation : ℕ × ℕ → Formula
        equation q = formula.Eq (node_term g q.0) (node_term g q.1)

        pairs : pairs_form (out-Formula here.of) ≡ pair_equations (map (node_term g) nodes)
        pairs =
            let ts : List Term = map (node_term g) nodes in
            let same : here.of ≡ formula.Distinct ts =
            of_form (Distinction ts) here.of (ap (told_kind g) (sym of_kind) ∙ here.form) in
            ap pairs_form (ap out-Formula same ∙ out-roll-Formula (Formula-F.Distinct ts))

        equal : slice_get (occurrences_of f) at
            ≡ option_map equation (slice_get (node_pairs nodes) k)
        equal =
            later k parted ∙ (ap (λ l. slice_get l k) (pairs
            ∙ pair_equations-map (node_term g) nodes)
            ∙ slice_get-map equation (node_pairs nodes) k)

        by : (o : Option (ℕ × ℕ)) → slice_get (node_pairs nodes) k ≡ o
            → IsLocated g f page at (pair_place o)
        by None e = equal ∙ ap (option_map equation) e
        by (Some q) e =
            let are : All (λ a. a < node_count g) nodes = subst (HasNodes g) of_kind here.nodes in
            let both = all-get (λ (r : ℕ × ℕ). (r.0 < node_count g) × (r.1 < node_count g))
            (node_pairs nodes) k q (all_pairs (λ a. a < node_count g) nodes are) e in
            (equal ∙ ap (option_map equation) e, both.0, both.1)
