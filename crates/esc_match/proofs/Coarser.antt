-- Matches while nodes are made and classes joined.
use Rattle.std.proofs.Common.{◌≡◌, ℕ, pos, ◌-◌, ◌<◌, inl, inr, List, [], ◌∷◌}
use Rattle.std.proofs.Common.{length, get_or, reverse, refl, ap, sym, subst, ◌∙◌, arith}
use Rattle.std.specs.List.{All, Contains}
use Rattle.std.proofs.lemmas.Bool.{cases_lt}
use Rattle.std.proofs.lemmas.List.{get_or-reverse, get_or_append_left, get_or_past, length-append}
use Rattle.std.proofs.lemmas.List.{length-reverse}
use Rattle.std.proofs.lemmas.List.Elements.{All-contains, All-get_or, Contains-append_left}
use Rattle.std.proofs.lemmas.List.Elements.{Contains-append_right, Contains-get_or}
use Rattle.esc_term.specs.declared.term.Term.{Term}
use Rattle.esc_term.proofs.Members.{Contains-cases, Contains-here, Contains-later, Contains-none}
use Rattle.esc_nodes.specs.Nodes.{Shape, shape_at}
use Rattle.esc_nodes.specs.declared.top.Top.TheVariants as top
use Rattle.esc_egraph.specs.Graph.{Graph, IsGraph, number_of}
use Rattle.esc_egraph.specs.Congruence.{AllSame}
use Rattle.esc_match.specs.Laws.{IsAsBefore, IsCoarser, MatchesAreCongruent, MatchesStay}
use Rattle.esc_match.specs.Laws.{UnchangedMatchesAreOld}
use Rattle.esc_match.specs.Match.{Match, MatchAll, TriggerMatch}
use Rattle.esc_match.specs.Match as fits
use Rattle.esc_match.specs.Matches.{class_in}
use Rattle.esc_match.proofs.Growth.{args_there}

-- ---- other nodes of the same classes

module _ (g : Graph) (c d : ℕ → ℕ) (same : (k : ℕ) → c k ≡ d k) where
  mutual
    one_for : (p : Term) (n : ℕ) (matched : List ℕ) → Match g c p n matched
        → Match g d p n matched
    one_for p n matched (fits.variable _ _ _ k is class m) =
        fits.variable p n matched k is (class ∙ same k) m
    one_for p n matched (fits.numeral _ _ _ v node is l topped joined m) =
        fits.numeral p n matched v node is l topped joined m
    one_for p n matched (fits.application _ _ _ head ps node inside is l topped joined args m) =
        fits.application p n matched head ps node inside is l topped joined
        (all_for ps (shape_at g.nodes node).args inside args) m

    all_for : (ps : List Term) (ns matched : List ℕ) → MatchAll g c ps ns matched
        → MatchAll g d ps ns matched
    all_for ps ns matched (fits.none _ _ _ is at m) = fits.none ps ns matched is at m
    all_for ps ns matched (fits.more _ _ _ q qs node nodes first rest is at one others m) =
        fits.more ps ns matched q qs node nodes first rest is at (one_for q node first one)
        (all_for qs nodes rest others) m

same_class_in : (g : Graph) (members others : List ℕ) → AllSame (number_of g) members others
    → (k : ℕ) → class_in g members k ≡ class_in g others k
same_class_in g members others same k =
    elim (cases_lt k (length members)) [
      | inl l ↦
          let place : length members - 1 - k < length members = omega (arith, l) in
          ap (number_of g) (get_or-reverse members k 0 l)
          ∙ (same.places (length members - 1 - k) place
          ∙ (ap (λ i. number_of g (get_or others (i - 1 - k) 0)) same.lengths
          ∙ ap (number_of g) (sym (get_or-reverse others k 0 (omega (arith, l, same.lengths))))))
      | inr past ↦
          ap (number_of g) (get_or_past (reverse members) k 0
          (omega (arith, past, length-reverse members))
          ∙ sym (get_or_past (reverse others) k 0
          (omega (arith, past, same.lengths, length-reverse others))))
    ]

pub matches_are_congruent : MatchesAreCongruent
matches_are_congruent g trigger members others matched same m = record {
  nodes = m.nodes;
  there = m.there;
  match = all_for g (class_in g members) (class_in g others) (same_class_in g members others same)
      trigger m.nodes matched m.match;
}

-- ---- more nodes, coarser classes

module _ (old new : Graph) (coarser : IsCoarser old new) where
  there_still : (m : ℕ) → m < length old.nodes → m < length new.nodes
  there_still m l =
      omega (
        arith,
        l,
        ap length coarser.nodes.1,
        length-append old.nodes coarser.nodes.0,
      )

  shape_still : (m : ℕ) → m < length old.nodes → shape_at new.nodes m ≡ shape_at old.nodes m
  shape_still m l =
      ap (λ (nodes : List Shape). shape_at nodes m) coarser.nodes.1
      ∙ get_or_append_left old.nodes coarser.nodes.0 (record { top = top.Num (pos 0); args = [] }) m
      l

  module _ (members : List ℕ) where
    mutual
      one_still : (p : Term) (n : ℕ) (matched : List ℕ)
          → Match old (class_in old members) p n matched
          → Match new (class_in new members) p n matched
      one_still p n matched (fits.variable _ _ _ k is c m) =
          fits.variable p n matched k is
          (coarser.classes n (get_or (reverse members) k 0) c) m
      one_still p n matched (fits.numeral _ _ _ v node is l topped joined m) =
          fits.numeral p n matched v node is (there_still node l)
          (ap (λ (s : Shape). s.top) (shape_still node l) ∙ topped)
          (coarser.classes node n joined) m
      one_still p n matched (fits.application _ _ _ head ps node inside is l topped joined args m) =
          fits.application p n matched head ps node inside is (there_still node l)
          (ap (λ (s : Shape). s.top) (shape_still node l) ∙ topped)
          (coarser.classes node n joined)
          (subst (λ ns. MatchAll new (class_in new members) ps ns inside)
          (sym (ap (λ (s : Shape). s.args) (shape_still node l)))
          (all_still ps (shape_at old.nodes node).args inside args)) m

      all_still : (ps : List Term) (ns matched : List ℕ)
          → MatchAll old (class_in old members) ps ns matched
          → MatchAll new (class_in new members) ps ns matched
      all_still ps ns matched (fits.none _ _ _ is at m) = fits.none ps ns matched is at m
      all_still ps ns matched (fits.more _ _ _ q qs node nodes first rest is at one others m) =
          fits.more ps ns matched q qs node nodes first rest is at (one_still q node first one)
          (all_still qs nodes rest others) m

  -- ---- classes that did not change

  module _ (graph : IsGraph new) (members : List ℕ)
      (there : All (λ n. n < length new.nodes) members) where
    member_there : (k n : ℕ) → n < length new.nodes
        → get_or (reverse members) k 0 < length new.nodes
    member_there k n l =
        elim (cases_lt k (length members)) [
          | inl within ↦
              subst (λ m. m < length new.nodes) (sym (get_or-reverse members k 0 within))
              (All-get_or (λ m. m < length new.nodes) members (length members - 1 - k) 0
              (omega (arith, within)) there)
          | inr past ↦
              let none : get_or (reverse members) k 0 ≡ 0 =
              get_or_past (reverse members) k 0 (omega (arith, past, length-reverse members)) in
              subst (λ m. m < length new.nodes) (sym none) (omega (arith, l))
        ]

    alone_before : (n : ℕ) (matched : List ℕ) → matched ≡ n ∷ []
        → ((k : ℕ) → Contains matched k → IsAsBefore old new k) → IsAsBefore old new n
    alone_before n matched m before =
        before n (subst (λ xs. Contains xs n) (sym m) (Contains-here n []))

    mutual
      one_before : (p : Term) (n : ℕ) (matched : List ℕ)
          → Match new (class_in new members) p n matched → n < length new.nodes
          → ((k : ℕ) → Contains matched k → IsAsBefore old new k)
          → (n < length old.nodes) × Match old (class_in old members) p n matched
      one_before p n matched (fits.variable _ _ _ k is c m) l before =
          let alone = alone_before n matched m before in
          let class =
          alone (get_or (reverse members) k 0) (member_there k n l) (sym c) in
          ((alone n l refl).0, fits.variable p n matched k is (sym class.1) m)
      one_before p n matched (fits.numeral _ _ _ v node is in_range topped joined m) l before =
          let alone = alone_before n matched m before in
          let was = alone node in_range joined in (
            (alone n l refl).0,
            fits.numeral p n matched v node is was.0
                (ap (λ (s : Shape). s.top) (sym (shape_still node was.0)) ∙ topped) was.1 m,
          )
      one_before p n matched (fits.application _ _ _ head ps node inside is in_range topped joined
          args m) l before =
          let here =
          before node (subst (λ xs. Contains xs node) (sym m) (Contains-here node inside)) in
          let was = here n l (sym joined) in
          let node_was = (here node in_range refl).0 in
          let inner =
          all_before ps (shape_at new.nodes node).args inside args
          (args_there new graph node in_range)
          (λ k h.
          before k (subst (λ xs. Contains xs k) (sym m) (Contains-later node inside k h))) in (
            was.0,
            fits.application p n matched head ps node inside is node_was
                (ap (λ (s : Shape). s.top) (sym (shape_still node node_was)) ∙ topped) (sym was.1)
                (subst (λ ns. MatchAll old (class_in old members) ps ns inside)
                (ap (λ (s : Shape). s.args) (shape_still node node_was)) inner.1) m,
          )

      all_before : (ps : List Term) (ns matched : List ℕ)
          → MatchAll new (class_in new members) ps ns matched
          → ((n : ℕ) → Contains ns n → n < length new.nodes)
          → ((k : ℕ) → Contains matched k → IsAsBefore old new k)
          → ((n : ℕ) → Contains ns n → n < length old.nodes)
          × MatchAll old (class_in old members) ps ns matched
      all_before ps ns matched (fits.none _ _ _ is at m) within before = (
        λ n h. absurd (Contains-none n (subst (λ xs. Contains xs n) at h)),
        fits.none ps ns matched is at m,
      )
      all_before ps ns matched (fits.more _ _ _ q qs node nodes first rest is at one others m)
          within before =
          let here =
          one_before q node first one
          (within node (subst (λ xs. Contains xs node) (sym at) (Contains-here node nodes)))
          (λ k h. before k (subst (λ xs. Contains xs k) (sym m)
          (Contains-append_left first rest k h))) in
          let later =
          all_before qs nodes rest others
          (λ k h. within k (subst (λ xs. Contains xs k) (sym at) (Contains-later node nodes k h)))
          (λ k h. before k (subst (λ xs. Contains xs k) (sym m)
          (Contains-append_right first rest k h))) in (
            λ n h. elim (Contains-cases node nodes n (subst (λ xs. Contains xs n) at h)) [
              | inl e ↦ subst (λ k. k < length old.nodes) e here.0
              | inr behind ↦ later.0 n behind
            ],
            fits.more ps ns matched q qs node nodes first rest is at here.1 later.1 m,
          )

pub matches_stay : MatchesStay
matches_stay old new coarser trigger members matched m = record {
  nodes = m.nodes;
  there = λ k d l. there_still old new coarser (get_or m.nodes k d) (m.there k d l);
  match = all_still old new coarser members trigger m.nodes matched m.match;
}

pub unchanged_matches_are_old : UnchangedMatchesAreOld
unchanged_matches_are_old old new coarser graph trigger members matched there before m =
    let was =
    all_before old new coarser graph members there trigger m.nodes matched m.match
    (λ n h. All-contains (λ k. k < length new.nodes) m.nodes n m.there h)
    (λ k h. All-contains (IsAsBefore old new) matched k before h) in
    record {
      nodes = m.nodes;
      there = λ k d l. was.0 (get_or m.nodes k d) (Contains-get_or m.nodes k d l);
      match = was.1;
    }
