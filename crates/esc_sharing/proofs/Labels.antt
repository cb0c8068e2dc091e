-- What is known by labels, and labels that become one.
use Rattle.std.proofs.Common.{◌≡◌, ◌≢◌, ℕ, ◌<◌, ◌==◌, inl, inr, List, [], ◌∷◌}
use Rattle.std.proofs.Common.{length, get_or, map, if◌then◌else◌, refl, ap, ap₂, sym, subst, ◌∙◌, arith}
use Rattle.std.specs.List.{Contains}
use Rattle.std.proofs.lemmas.Bool.{cases_eq}
use Rattle.std.proofs.lemmas.Bool.Decides.{nat_tests}
use Rattle.std.proofs.lemmas.List.{get_or-map, get_or_default}
use Rattle.std.proofs.lemmas.List.Elements.{All-contains, Contains-get_or}
use Rattle.esc_term.specs.declared.term.Term.{Term}
use Rattle.esc_sharing.specs.KnownInside.{AreKnownBy, AreLabeled, IsRelabeled, KnowsMore, label_at}
use Rattle.esc_sharing.specs.KnownInside.{node_at, relabeled}
use Rattle.esc_sharing.specs.Numbers.{IsNumber}
use Rattle.esc_sharing.proofs.Lists.{All-each, Contains-map, Contains-of_map}
use Rattle.esc_sharing.proofs.ToldPairs.{JoinedBy}

-- ---- a label at a place

pub known_at : (known : List (ℕ × ℕ)) (i j : ℕ) → i < length known → j < length known
    → label_at known i ≡ label_at known j → AreKnownBy known (node_at known i) (node_at known j)
known_at known i j il jl same = record {
  first = label_at known i;
  second = label_at known j;
  a_there = Contains-get_or known i (0, 0) il;
  b_there = Contains-get_or known j (0, 0) jl;
  same = same;
}

pub entry_is : (known : List (ℕ × ℕ)) (i : ℕ) (entry : ℕ × ℕ) → i < length known
    → entry ≡ get_or known i entry → get_or known i (0, 0) ≡ entry
entry_is known i entry l read = sym (read ∙ get_or_default known i entry (0, 0) l)

pub pair_is : (known : List (ℕ × ℕ)) (i j : ℕ) (one other : ℕ × ℕ) → i < length known
    → j < length known → one ≡ get_or known i one → other ≡ get_or known j other
    → (let p : ℕ × ℕ = (node_at known i, node_at known j) in p) ≡ (one.0, other.0)
pair_is known i j one other il jl read_one read_other =
    ap₂ (λ (e f : ℕ × ℕ). let p : ℕ × ℕ = (e.0, f.0) in p) (entry_is known i one il read_one)
    (entry_is known j other jl read_other)

-- ---- one label for another

changed : ℕ → ℕ → ℕ → ℕ
changed from into label = if label == from then into else label

changed_at : (from into label : ℕ) → label ≡ from → changed from into label ≡ into
unfolding changed
changed_at from into label e = grind (arith, nat_tests)

changed_other : (from into label : ℕ) → label ≢ from → changed from into label ≡ label
unfolding changed
changed_other from into label ne = grind (arith, nat_tests)

module _ (known : List (ℕ × ℕ)) (from into : ℕ) where
  abbrev now : List (ℕ × ℕ)
  now = map (relabeled from into) known

  before : (c label : ℕ) → Contains now (c, label)
      → (old : ℕ) × Contains known (c, old) × (label ≡ changed from into old)
  unfolding changed
  before c label h =
      let found = Contains-of_map (relabeled from into) known (c, label) h in (
        found.0.1,
        subst (λ n. Contains known (n, found.0.1)) (ap (λ (e : ℕ × ℕ). e.0) found.2) found.1,
        sym (ap (λ (e : ℕ × ℕ). e.1) found.2),
      )

  pub relabeled_joined : (a b : ℕ) → Contains known (a, from) → Contains known (b, into)
      → (c d : ℕ) → AreKnownBy now c d → JoinedBy (AreKnownBy known) a b c d
  relabeled_joined a b ha hb c d h =
      go (before c h.first h.a_there) (before d h.second h.b_there)
    where
      known_by : (x y k l : ℕ) → Contains known (x, k) → Contains known (y, l) → k ≡ l
          → AreKnownBy known x y
      known_by x y k l hx hy e =
          record { first = k; second = l; a_there = hx; b_there = hy; same = e }

      go : (old : ℕ) × Contains known (c, old) × (h.first ≡ changed from into old)
          → (old : ℕ) × Contains known (d, old) × (h.second ≡ changed from into old)
          → JoinedBy (AreKnownBy known) a b c d
      go (k, hc, kc) (l, hd, ld) =
          elim (cases_eq k from) [
            | inl k_is ↦ elim (cases_eq l from) [
              | inl l_is ↦ inl (known_by c d k l hc hd (k_is ∙ sym l_is))
              | inr l_not ↦ inr (inl (
                known_by c a k from hc ha k_is,
                known_by d b l into hd hb (sym (changed_other from into l l_not)
                    ∙ (sym ld ∙ (sym h.same ∙ (kc ∙ changed_at from into k k_is)))),
              ))
            ]
            | inr k_not ↦ elim (cases_eq l from) [
              | inl l_is ↦ inr (inr (
                known_by c b k into hc hb (sym (changed_other from into k k_not)
                    ∙ (sym kc ∙ (h.same ∙ (ld ∙ changed_at from into l l_is)))),
                known_by d a l from hd ha l_is,
              ))
              | inr l_not ↦ inl (known_by c d k l hc hd (sym (changed_other from into k k_not)
                  ∙ (sym kc ∙ (h.same ∙ (ld ∙ changed_other from into l l_not)))))
            ]
          ]

nodes_relabeled : (from into : ℕ) (known : List (ℕ × ℕ))
    → map (λ entry. entry.0) (map (relabeled from into) known) ≡ map (λ entry. entry.0) known
nodes_relabeled from into [] = refl
nodes_relabeled from into (e ∷ es) = ap (λ ns. e.0 ∷ ns) (nodes_relabeled from into es)

-- more is known, and what is read at two places is so
module _ (known : List (ℕ × ℕ)) (from into : ℕ) (new : List (ℕ × ℕ))
    (is : new ≡ map (relabeled from into) known) where
  label_now : (i : ℕ) → i < length known
      → label_at new i ≡ changed from into (label_at known i)
  unfolding changed
  label_now i l = ap (λ ks. label_at ks i) is
      ∙ ap (λ (e : ℕ × ℕ). e.1) (get_or-map (relabeled from into) known i (0, 0) (0, 0) l)

  pub relabeled_more : KnowsMore known new
  relabeled_more = record {
    nodes = ap (λ ks. map (λ (e : ℕ × ℕ). e.0) ks) is ∙ nodes_relabeled from into known;
    kept = λ i j il jl same. label_now i il
        ∙ (ap (changed from into) same ∙ sym (label_now j jl));
  }

  pub relabeled_same : (i j : ℕ) → i < length known → j < length known
      → label_at known i ≡ into → label_at known j ≡ from → label_at new i ≡ label_at new j
  relabeled_same i j il jl first later =
      label_now i il ∙ (elim (cases_eq (label_at known i) from) [
        | inl e ↦ changed_at from into (label_at known i) e
        | inr ne ↦ changed_other from into (label_at known i) ne ∙ first
      ] ∙ sym (label_now j jl ∙ changed_at from into (label_at known j) later))

pub know_joined : (old new : List (ℕ × ℕ)) (a b : ℕ) → IsRelabeled old new a b
    → (c d : ℕ) → AreKnownBy new c d → JoinedBy (AreKnownBy old) a b c d
know_joined old new a b (inl same) c d h = inl (subst (λ ks. AreKnownBy ks c d) same h)
know_joined old new a b (inr (from, into, ha, hb, is)) c d h =
    relabeled_joined old from into a b ha hb c d (subst (λ ks. AreKnownBy ks c d) is h)

pub know_nodes : (old new : List (ℕ × ℕ)) (a b : ℕ) → IsRelabeled old new a b
    → map (λ entry. entry.0) new ≡ map (λ entry. entry.0) old
know_nodes old new a b (inl same) = ap (λ ks. map (λ (e : ℕ × ℕ). e.0) ks) same
know_nodes old new a b (inr (from, into, ha, hb, is)) =
    ap (λ ks. map (λ (e : ℕ × ℕ). e.0) ks) is ∙ nodes_relabeled from into old

-- ---- the entries are of the arithmetic nodes

pub labeled_still : (numbers : List (ℕ × Term)) (old new : List (ℕ × ℕ))
    → map (λ entry. entry.0) new ≡ map (λ entry. entry.0) old → AreLabeled numbers old
    → AreLabeled numbers new
labeled_still numbers old new same are = record {
  among = All-each (λ (entry : ℕ × ℕ). IsNumber numbers entry.0) new (λ entry h.
      let there = Contains-of_map (λ (e : ℕ × ℕ). e.0) old entry.0
      (subst (λ ns. Contains ns entry.0) same (Contains-map (λ (e : ℕ × ℕ). e.0) new entry h)) in
      subst (IsNumber numbers) there.2
      (All-contains (λ (e : ℕ × ℕ). IsNumber numbers e.0) old there.0 are.among there.1));
  each = λ a h.
      let at = are.each a h in
      let there = Contains-of_map (λ (e : ℕ × ℕ). e.0) new a
      (subst (λ ns. Contains ns a) (sym same)
      (Contains-map (λ (e : ℕ × ℕ). e.0) old (a, at.0) at.1)) in
      (there.0.1, subst (λ n. Contains new (n, there.0.1)) there.2 there.1);
}

-- the label of one place became that of another
pub told_joined : (known : List (ℕ × ℕ)) (i j : ℕ) (one other : ℕ × ℕ) → i < length known
    → j < length known → one ≡ get_or known i one → other ≡ get_or known j other
    → (c d : ℕ) → AreKnownBy (map (relabeled other.1 one.1) known) c d
    → JoinedBy (AreKnownBy known) one.0 other.0 c d
told_joined known i j one other il jl read_one read_other c d h =
    elim (relabeled_joined known other.1 one.1 other.0 one.0
    (subst (Contains known) (sym read_other) (Contains-get_or known j other jl))
    (subst (Contains known) (sym read_one) (Contains-get_or known i one il)) c d h) [
      | inl old ↦ inl old
      | inr (inl (left, right)) ↦ inr (inr (left, right))
      | inr (inr (left, right)) ↦ inr (inl (left, right))
    ]
