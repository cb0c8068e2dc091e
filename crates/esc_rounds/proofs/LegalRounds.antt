-- The facts of a round may follow the live ones.
use Rattle.std.proofs.Common.{◌≡◌, ◌≢◌, ℕ, ◌<◌, ◌⊎◌, inl, inr, Bool, true, false, not, ◌&&◌, IsTrue}
use Rattle.std.proofs.Common.{List}
use Rattle.std.proofs.Common.{[], ◌∷◌, ◌++◌, length, get_or, map, Some, refl, ap, sym, subst}
use Rattle.std.proofs.Common.{◌∙◌, arith}
use Rattle.std.specs.Prelude.{IsSome, slice_get}
use Rattle.std.specs.List.{All, AllZip, Contains, flat_map, list_all}
use Rattle.std.specs.Option.{option_map}
use Rattle.std.proofs.lemmas.List.{append_assoc, length-map}
use Rattle.std.proofs.lemmas.List.Concat.{flat_map-append}
use Rattle.std.proofs.lemmas.List.Elements.{All-append, All-contains, All-map, All-weaker}
use Rattle.std.proofs.lemmas.List.Elements.{Contains-append_cases, Contains-append_left}
use Rattle.std.proofs.lemmas.List.Elements.{Contains-get_or, filter_map-append}
use Rattle.std.proofs.lemmas.Option.{get_or_from_slice_get}
use Rattle.esc_term.specs.declared.term.Term.{Term}
use Rattle.esc_term.specs.declared.formula.Formula.{Formula}
use Rattle.esc_term.specs.declared.formula.Item.{Item}
use Rattle.esc_term.specs.Formula.{terms_of}
use Rattle.esc_term.specs.Term.{is_ground}
use Rattle.esc_term.proofs.Members.{Contains-cases, Contains-here, Contains-later, Contains-none}
use Rattle.esc_cover.specs.Atoms.{atoms_of}
use Rattle.esc_cover.proofs.TestLemmas.{all_at, all_from, and_both, kept}
use Rattle.esc_nodes.specs.Terms as nodes
use Rattle.esc_nodes.specs.Laws.{TermsAreGround, TermsAreOnce}
use Rattle.esc_nodes.specs.Nodes.{Shape, shape_at}
use Rattle.esc_fact.specs.Base.{Quantified, quantified_in}
use Rattle.esc_fact.specs.Fact.{IsFact, closed_at, formula_of, formulas_of, instance_of}
use Rattle.esc_fact.specs.Fact.{skolem_of, store}
use Rattle.esc_fact.specs.Legal.{HasAtom, HasTerm, IsDrawnFrom, IsLegal, is_first, made_facts}
use Rattle.esc_fact.specs.declared.base.Base.{Base}
use Rattle.esc_fact.specs.declared.fact.Fact.{Fact}
use Rattle.esc_fact.specs.declared.fact.Fact.TheVariants as fact
use Rattle.esc_match.specs.Order.{Precedes}
use Rattle.esc_match.proofs.Orders.{Contains-of_map, in_order-append}
use Rattle.esc_match.proofs.Orders.{in_order-map, in_order-pairs, in_order-weaker}
use Rattle.esc_trigger.specs.Laws.{is_trigger}
use Rattle.esc_maps.specs.Chosen.{StandsForClass}
use Rattle.esc_maps.specs.Maps.{IsReadAt, IsWrite}
use Rattle.esc_maps.specs.declared.map_match.MapMatch.TheVariants as map_match
use Rattle.esc_rounds.specs.Branch.{IsDrawn, IsKept, IsStanding}
use Rattle.esc_rounds.specs.Called.{CalledAt}
use Rattle.esc_rounds.specs.Due.{IsRound}
use Rattle.esc_rounds.specs.Facts.{argument, fact_of}
use Rattle.esc_rounds.specs.Laws.{RoundsAreLegal}
use Rattle.esc_rounds.specs.Standing.{IsDrawable, IsReady, Standing}
use Rattle.esc_rounds.specs.declared.draw.Draw.{Draw}
use Rattle.esc_rounds.specs.declared.draw.Draw.TheVariants.{Witness, Map, Instance}
use Rattle.esc_rounds.specs.declared.kept.Kept.{Kept}
use Rattle.esc_rounds.proofs.Active.{arg_has, matched_have, stand_has, write_has}
use Rattle.esc_rounds.proofs.Bounds.{called_drawable, get-there}
use Rattle.esc_rounds.proofs.Drawn.{drawn, drawn_once, instance_fact, kept_is, witness_fact}
use Rattle.esc_rounds.proofs.Drawn.{write_term}
use Rattle.esc_rounds.proofs.Matched.{in_order-from_pairs}
use Rattle.esc_rounds.proofs.Places.{before-less, less_not}
use Rattle.esc_rounds.proofs.Steps.{get-some}

-- ---- lists

-- where an element of two lists stands
split_at : {A : Type 0} (xs ys before after : List A) (x : A) → xs ++ ys ≡ before ++ x ∷ after
    → ((rest : List A) × (xs ≡ before ++ x ∷ rest))
    ⊎ ((more : List A) × (before ≡ xs ++ more) × (ys ≡ more ++ x ∷ after))
split_at [] ys before after x e = inr (before, refl, e)
split_at (y ∷ xs) ys [] after x e =
    let head : y ≡ x = cc in
    inl (xs, ap (λ z. z ∷ xs) head)
split_at (y ∷ xs) ys (b ∷ before) after x e =
    let head : y ≡ b = cc in
    let tail : xs ++ ys ≡ before ++ x ∷ after = cc in
    elim (split_at xs ys before after x tail) [
      | inl (rest, is) ↦ inl (rest, ap (λ z. z ∷ xs) head ∙ ap (λ zs. b ∷ zs) is)
      | inr (more, is, at) ↦ inr (
        more,
        ap (λ zs. b ∷ zs) is ∙ ap (λ z. z ∷ (xs ++ more)) (sym head),
        at,
      )
    ]

Contains-middle : {A : Type 0} (xs ys : List A) (x : A) → Contains (xs ++ x ∷ ys) x
Contains-middle [] ys x = Contains-here x ys
Contains-middle (y ∷ xs) ys x = Contains-later y (xs ++ x ∷ ys) x (Contains-middle xs ys x)

zip_found : {A B : Type 0} (R : A → B → Type 0) (xs : List A) (ys : List B) (x : A)
    → AllZip R xs ys → Contains xs x → (y : B) × Contains ys y × R x y
zip_found R [] [] x all c = absurd (Contains-none x c)
zip_found R [] (y ∷ ys) x all c = absurd all
zip_found R (z ∷ xs) [] x all c = absurd all
zip_found R (z ∷ xs) (y ∷ ys) x all c =
    elim (Contains-cases z xs x c) [
      | inl e ↦ (y, Contains-here y ys, subst (λ w. R w y) e all.0)
      | inr later ↦
          let found = zip_found R xs ys x all.1 later in
          (found.0, Contains-later y ys found.0 found.1, found.2)
    ]

all_append : {A : Type 0} (p : A → Bool) (xs ys : List A) → list_all p xs ≡ true
    → list_all p ys ≡ true → list_all p (xs ++ ys) ≡ true
all_append p xs ys first second =
    all_from p (xs ++ ys) (λ x c. elim (Contains-append_cases xs ys x c) [
      | inl a ↦ all_at p xs x first a
      | inr b ↦ all_at p ys x second b
    ])

pub get-within : {A : Type 0} (xs : List A) (k : ℕ) (x : A) → slice_get xs k ≡ Some x
    → Contains xs x
get-within xs k x e = (k, get-there xs k x e, get_or_from_slice_get xs k x x e)

-- ---- more facts hold no less

module _ (base : Base) (facts more : List Fact) where
  formulas_more : formulas_of base (facts ++ more) ≡ formulas_of base facts ++ formulas_of base more
  formulas_more = filter_map-append (formula_of base) facts more

  pub term_more : (t : Term) → HasTerm base facts t → HasTerm base (facts ++ more) t
  term_more t h =
      subst (λ fs. Contains (flat_map terms_of fs) t) (sym formulas_more)
      (subst (λ ts. Contains ts t)
      (sym (flat_map-append terms_of (formulas_of base facts) (formulas_of base more)))
      (Contains-append_left (flat_map terms_of (formulas_of base facts))
      (flat_map terms_of (formulas_of base more)) t h))

  pub atom_more : (f : Formula) → HasAtom base facts f → HasAtom base (facts ++ more) f
  atom_more f h =
      subst (λ fs. Contains (flat_map atoms_of fs) f) (sym formulas_more)
      (subst (λ ts. Contains ts f)
      (sym (flat_map-append atoms_of (formulas_of base facts) (formulas_of base more)))
      (Contains-append_left (flat_map atoms_of (formulas_of base facts))
      (flat_map atoms_of (formulas_of base more)) f h))

  pub drawn_more : (x : Fact) → IsDrawnFrom base facts x → IsDrawnFrom base (facts ++ more) x
  drawn_more (fact.Given k) h = tt
  drawn_more fact.NegGoal h = tt
  drawn_more (fact.Inst n us ts) h = (
    (h.0.0, h.0.1, atom_more (closed_at h.0.0 us) h.0.2),
    All-weaker (HasTerm base facts) (HasTerm base (facts ++ more)) term_more ts h.1,
  )
  drawn_more (fact.Skolem n us) h = (h.0, h.1, atom_more (closed_at h.0 us) h.2)
  drawn_more (fact.Map1 m i x) h = term_more (store m i x) h
  drawn_more (fact.Map2 m i x j) h = (term_more (store m i x) h.0, term_more j h.1)

-- ---- triggers of formulas that are kept

pub trigger_at : (s : Standing) (live : List Draw) → IsReady s live → (f : ℕ) (k : Kept) (i : ℕ)
    (trigger : List Term) → slice_get s.formulas f ≡ Some k → slice_get k.triggers i ≡ Some trigger
    → IsTrue (is_trigger k.count trigger)
trigger_at s live ready f k i trigger at numbered =
    let triggers : IsTrue (list_all (is_trigger k.count) k.triggers) =
    subst (λ (x : Kept). IsTrue (list_all (is_trigger x.count) x.triggers))
    (get_or_from_slice_get s.formulas f k k at)
    (ready.triggers f k (get-there s.formulas f k at)) in
    all_at (is_trigger k.count) k.triggers trigger triggers (get-within k.triggers i trigger
    numbered)

-- ---- what a round lists

module _ (base : Base) (facts : List Fact) (items : List Item) (s : Standing) (live : List Draw)
    (st : IsStanding base facts items s live) (ready : IsReady s live) (once : TermsAreOnce)
    (ground : TermsAreGround) where
  abbrev made : Draw → Fact
  made d = fact_of s.graph s.formulas d

  -- the fact of a draw is no fact of the base itself
  made_later : (d : Draw) → IsDrawable s.graph s.formulas d → is_first (made d) ≡ false
  made_later (Witness f) l =
      let k = get-some s.formulas f l in
      ap is_first (witness_fact s.graph s.formulas f k.0 k.1)
  made_later (Map (map_match.Write w)) h = refl
  made_later (Map (map_match.Read w j)) h = refl
  made_later (Instance f ns) h =
      let k = get-some s.formulas f h.0 in
      ap is_first (instance_fact s.graph s.formulas f k.0 k.1 ns)

  -- a draw of a live fact is live
  live_drawn : (d : Draw) → IsDrawable s.graph s.formulas d → Contains facts (made d)
      → Contains live d
  live_drawn d drawable c =
      let c_made : Contains (made_facts facts) (made d) =
      kept (λ x. not (is_first x)) facts (made d) c (ap not (made_later d drawable)) in
      let e = zip_found (IsDrawn base s) (made_facts facts) live (made d) st.drawn c_made in
      subst (Contains live)
      (drawn_once base facts items s live st once (made d) e.0 d
      (All-contains (IsDrawable s.graph s.formulas) live e.0 ready.drawable e.1) drawable e.2
      (drawn base facts items s live st once d drawable)) e.1

  made_once : (d e : Draw) → IsDrawable s.graph s.formulas d → IsDrawable s.graph s.formulas e
      → made d ≡ made e → d ≡ e
  made_once d e hd he same =
      drawn_once base facts items s live st once (made e) d e hd he
      (subst (λ x. IsDrawn base s x d) same (drawn base facts items s live st once d hd))
      (drawn base facts items s live st once e he)

  -- ---- what is called for is a fact, and is drawn from the live ones

  terms_ground : (ns : List ℕ) → All (λ n. n < length s.graph.nodes) ns
      → list_all is_ground (map (nodes.term_of s.graph.nodes) ns) ≡ true
  terms_ground ns there =
      all_from is_ground (map (nodes.term_of s.graph.nodes) ns) (λ t c.
      let h = Contains-of_map (nodes.term_of s.graph.nodes) ns t c in
      ap is_ground (sym h.2)
      ∙ ground s.graph.nodes st.graph.terms h.0
      (All-contains (λ n. n < length s.graph.nodes) ns h.0 there h.1))

  node_ground : (n : ℕ) → n < length s.graph.nodes
      → is_ground (nodes.term_of s.graph.nodes n) ≡ true
  node_ground n l = ground s.graph.nodes st.graph.terms n l

  pub kept_at : (f : ℕ) (k : Kept) → slice_get s.formulas f ≡ Some k → IsKept base facts k
  kept_at f k at = kept_is base facts items s live st once f k at (get-there s.formulas f k at)

  skolem_fact : (k : Kept) → IsKept base facts k → IsFact base (fact.Skolem k.number k.outer)
  skolem_fact k is = record {
    named = subst (λ o. IsSome (option_map (λ q. skolem_of k.number q k.outer) o))
        (sym is.numbered) refl;
    counts = λ q at.
        let numbered : slice_get (quantified_in base) k.number ≡ Some is.q = is.numbered in
        let same : is.q ≡ q = cc in
        is.as_many ∙ ap (λ (x : Quantified). x.outer) same;
    grounded = is.grounded;
  }

  instance_is_fact : (k : Kept) (ns : List ℕ) → IsKept base facts k → length ns ≡ k.count
      → All (λ n. n < length s.graph.nodes) ns
      → IsFact base (fact.Inst k.number k.outer (map (nodes.term_of s.graph.nodes) ns))
  instance_is_fact k ns is many there = record {
    named = subst (λ o. IsSome (option_map
        (λ q. instance_of q k.outer (map (nodes.term_of s.graph.nodes) ns)) o)) (sym is.numbered)
        refl;
    counts = λ q at.
        let numbered : slice_get (quantified_in base) k.number ≡ Some is.q = is.numbered in
        let same : is.q ≡ q = cc in (
          is.as_many ∙ ap (λ (x : Quantified). x.outer) same,
          length-map ns (nodes.term_of s.graph.nodes)
              ∙ (many ∙ (is.count ∙ ap (λ (x : Quantified). x.quant.count) same)),
        );
    grounded = all_append is_ground k.outer (map (nodes.term_of s.graph.nodes) ns) is.grounded
        (terms_ground ns there);
  }

  -- the arguments of a write
  abbrev args_from : List ℕ → List Term
  args_from xs =
      nodes.term_of s.graph.nodes (get_or xs 0 0) ∷ nodes.term_of s.graph.nodes (get_or xs 1 0)
      ∷ nodes.term_of s.graph.nodes (get_or xs 2 0) ∷ []

  write_ground : (w m i x : ℕ) → w < length s.graph.nodes
      → (shape_at s.graph.nodes w).args ≡ m ∷ i ∷ x ∷ []
      → list_all is_ground (args_from (shape_at s.graph.nodes w).args) ≡ true
  write_ground w m i x l is =
      and_both (ground_at 0) (ground_at 1 && (ground_at 2 && true)) (third 0 (omega arith))
      (and_both (ground_at 1) (ground_at 2 && true) (third 1 (omega arith))
      (and_both (ground_at 2) true (third 2 (omega arith)) refl))
    where
      ground_at : ℕ → Bool
      ground_at k =
          is_ground (nodes.term_of s.graph.nodes (get_or (shape_at s.graph.nodes w).args k 0))

      third : (k : ℕ) → k < 3 → ground_at k ≡ true
      third k low =
          let less : get_or (shape_at s.graph.nodes w).args k 0 < w =
          st.graph.terms.older w l k 0 (subst (λ xs. k < length xs) (sym is) low) in
          node_ground (get_or (shape_at s.graph.nodes w).args k 0) (omega (arith, less, l))

  called_fact : (d : Draw) (p : List ℕ) → CalledAt s d p → IsFact base (made d)
  called_fact (Witness f) p c =
      let k = c.1.formula in
      subst (IsFact base) (sym (witness_fact s.graph s.formulas f k c.1.is.kept))
      (skolem_fact k (kept_at f k c.1.is.kept))
  called_fact (Map (map_match.Write w)) p c =
      let is = c.0.0 in
      record {
        named = refl;
        counts = tt;
        grounded = write_ground w is.0 is.1 is.2 c.0.1.there (ap (λ (x : Shape). x.args) is.3);
      }
  called_fact (Map (map_match.Read w j)) p c =
      let is = c.0.0.0 in
      record {
        named = refl;
        counts = tt;
        grounded = all_append is_ground (args_from (shape_at s.graph.nodes w).args)
            (nodes.term_of s.graph.nodes j ∷ [])
            (write_ground w is.0 is.1 is.2 c.0.0.1.there (ap (λ (x : Shape). x.args) is.3))
            (and_both (is_ground (nodes.term_of s.graph.nodes j)) true
            (node_ground j c.0.1.there) refl);
      }
  called_fact (Instance f ns) p c =
      let k = c.3.formula in
      subst (IsFact base) (sym (instance_fact s.graph s.formulas f k c.3.is.kept ns))
      (instance_is_fact k ns (kept_at f k c.3.is.kept) c.3.many
      (All-weaker (StandsForClass s.graph s.depths) (λ n. n < length s.graph.nodes)
      (λ n stands. stands.there) ns c.3.stand))

  pub write_drawn : (w : ℕ) → w < length s.graph.nodes → IsWrite s.graph w
      → HasTerm base facts
      (store (argument s.graph w 0) (argument s.graph w 1) (argument s.graph w 2))
  write_drawn w l is =
      subst (HasTerm base facts) (write_term base facts items s live st once w l is)
      (write_has base facts items s live st w is.0 is.1 is.2 l (ap (λ (x : Shape). x.args) is.3))

  pub read_drawn : (w j : ℕ) → StandsForClass s.graph s.depths j → IsReadAt s.graph w j
      → HasTerm base facts (nodes.term_of s.graph.nodes j)
  read_drawn w j stands read =
      let args : (shape_at s.graph.nodes read.read).args ≡ read.map ∷ read.place ∷ [] =
      ap (λ (x : Shape). x.args) read.is in
      let within : Contains (shape_at s.graph.nodes read.read).args read.place =
      subst (λ xs. Contains xs read.place) (sym args)
      (Contains-later read.map (read.place ∷ []) read.place (Contains-here read.place [])) in
      let older = st.graph.terms.older read.read read.read_there within.0 read.place within.1 in
      let less : read.place < read.read = subst (λ n. n < read.read) within.2 older in
      let low = read.read_there in
      stand_has base facts items s live st j read.place stands (omega (arith, less, low)) read.at
      (arg_has base facts items s live st read.read read.place read.read_there within)

  pub instance_have : (f : ℕ) (ns p : List ℕ) → CalledAt s (Instance f ns) p
      → All (λ n. HasTerm base facts (nodes.term_of s.graph.nodes n)) ns
  instance_have f ns p c =
      matched_have base facts items s live st c.3.formula.count c.3.trigger ns c.2
      (trigger_at s live ready f c.3.formula c.1 c.3.trigger c.3.is.kept c.3.numbered) c.3.many
      c.3.match c.3.stand

  called_drawn : (d : Draw) (p : List ℕ) → CalledAt s d p → IsDrawnFrom base facts (made d)
  called_drawn (Witness f) p c =
      let k = c.1.formula in
      let is = kept_at f k c.1.is.kept in
      subst (IsDrawnFrom base facts) (sym (witness_fact s.graph s.formulas f k c.1.is.kept))
      (is.q, is.numbered, is.atom)
  called_drawn (Map (map_match.Write w)) p c = write_drawn w c.0.1.there c.0.0
  called_drawn (Map (map_match.Read w j)) p c =
      (write_drawn w c.0.0.1.there c.0.0.0, read_drawn w j c.0.1 c.0.2)
  called_drawn (Instance f ns) p c =
      let k = c.3.formula in
      let is = kept_at f k c.3.is.kept in
      subst (IsDrawnFrom base facts) (sym (instance_fact s.graph s.formulas f k c.3.is.kept ns)) (
        (is.q, is.numbered, is.atom),
        All-map (HasTerm base facts) (nodes.term_of s.graph.nodes) ns (instance_have f ns p c),
      )

  -- ---- the whole

  module _ (limit : ℕ) (list : List Draw) (legal : IsLegal base facts)
      (round : IsRound s live limit list) where
    listed_called : (d : Draw) → Contains list d → (p : List ℕ) × CalledAt s d p
    listed_called d c = let due = (round.exact d).0 c in (due.place, due.called)

    listed_drawable : (d : Draw) → Contains list d → IsDrawable s.graph s.formulas d
    listed_drawable d c = let h = listed_called d c in called_drawable s d h.0 h.1

    new_called : (x : Fact) → Contains (map made list) x
        → (d : Draw) × Contains list d × (made d ≡ x)
    new_called x c = Contains-of_map made list x c

    absent : (d : Draw) → Contains list d → Contains facts (made d) → ⊥
    absent d c there =
        let due = (round.exact d).0 c in
        let h = live_drawn d (listed_drawable d c) there in
        due.absent (h.0, d, h.1, h.2, (refl, refl))

    apart : (d e : Draw) → Precedes (CalledAt s) d e → d ≡ e → ⊥
    apart d e first same =
        let before = first.2 first.0 (subst (λ x. CalledAt s x first.0) same first.1) in
        less_not first.0 (before-less first.0 first.0 before)

    pub is_legal : IsLegal base (facts ++ map made list)
    is_legal = record {
      more = legal.more ++ map made list;
      begins = ap (λ xs. xs ++ map made list) legal.begins
          ∙ append_assoc _ legal.more (map made list);
      differ = in_order-pairs (λ a b. a ≢ b) (facts ++ map made list)
          (in_order-append (λ a b. a ≢ b) facts (map made list)
          (in_order-from_pairs (λ a b. a ≢ b) facts legal.differ)
          (in_order-map (λ a b. a ≢ b) made list
          (in_order-weaker (Precedes (CalledAt s)) (λ a b. made a ≢ made b) list
          (λ a b ca cb first same. apart a b first
          (made_once a b (listed_drawable a ca) (listed_drawable b cb) same))
          (in_order-from_pairs (Precedes (CalledAt s)) list round.ordered)))
          (λ x y cx cy same.
          let d = new_called y cy in
          absent d.0 d.1 (subst (Contains facts) (same ∙ sym d.2) cx)));
      are_facts = All-append (IsFact base) facts (map made list) legal.are_facts
          (All-map (IsFact base) made list (λ k d l.
          let h = listed_called (get_or list k d) (Contains-get_or list k d l) in
          called_fact (get_or list k d) h.0 h.1));
      drawn = λ before after x e. elim (split_at facts (map made list) before after x e) [
        | inl (rest, is) ↦ legal.drawn before rest x is
        | inr (more, is, at) ↦
            let d = new_called x (subst (λ xs. Contains xs x) (sym at)
            (Contains-middle more after x)) in
            let h = listed_called d.0 d.1 in
            subst (λ xs. IsDrawnFrom base xs x) (sym is)
            (drawn_more base facts more x
            (subst (IsDrawnFrom base facts) d.2 (called_drawn d.0 h.0 h.1)))
      ];
    }

pub rounds_are_legal : TermsAreOnce → TermsAreGround → RoundsAreLegal
rounds_are_legal once ground base facts items s live limit list legal st ready round =
    is_legal base facts items s live st ready once ground limit list legal round
