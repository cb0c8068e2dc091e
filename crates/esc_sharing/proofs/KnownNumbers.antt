-- The arithmetic nodes with labels by their classes.
use Rattle.std.proofs.Common.{◌≡◌, ℕ, ◌+◌, ◌<◌, ◌≤◌, inl, inr, List, [], ◌∷◌, ◌++◌, length, get_or}
use Rattle.std.proofs.Common.{take, refl, ap, sym, subst, ◌∙◌, arith, length-append}
use Rattle.std.specs.List.{Contains}
use Rattle.std.specs.List.Sorted.{IsPermutation}
use Rattle.std.proofs.lemmas.Bool.{cases_lt}
use Rattle.std.proofs.lemmas.List.{get_or-map, get_or-take, get_or_append_left, get_or_default, get_or_push}
use Rattle.std.proofs.lemmas.List.{length-map, length-take, take-map}
use Rattle.std.proofs.lemmas.List.Elements.{Contains-get_or}
use Rattle.std.proofs.lemmas.List.Sorted.{Contains-permutation, IsPermutation-sym}
use Rattle.esc_term.specs.declared.term.Term.{Term}
use Rattle.esc_egraph.specs.Graph.{Graph, number_of}
use Rattle.esc_sharing.specs.AddingInside.{WereKnown}
use Rattle.esc_sharing.specs.KnownInside.{AreKnownBy, AreLabeled, label_at, node_at}
use Rattle.esc_sharing.specs.Nodes.{node_count, node_term}
use Rattle.esc_sharing.specs.Numbers.{AreNumbersOf, IsNumber, nodes_of, number_node}
use Rattle.esc_sharing.proofs.Lists.{All-each}

pub number_there : (g : Graph) (numbers : List (ℕ × Term)) (place node : ℕ)
    → AreNumbersOf g numbers → place < length numbers → node ≡ number_node numbers place
    → node < node_count g
number_there g numbers place node are l is =
    let number = get_or numbers place (node, node_term g 0) in
    subst (λ n. n < node_count g)
    (sym (is ∙ get_or-map (λ (n : ℕ × Term). n.0) numbers place (node, node_term g 0) 0 l))
    (are place (node, node_term g 0) l).0

-- so many arithmetic nodes are listed, in their order
pub record AreListed (g : Graph) (numbers : List (ℕ × Term)) (before place : ℕ)
    (known : List (ℕ × ℕ)) : Type 0 where
  pub count : length known ≡ place
  pub nodes : (k : ℕ) → k < place → node_at known k ≡ number_node numbers k
  pub old : (k : ℕ) → k < place → k < before
      → (label_at known k ≡ number_of g (node_at known k)) × (label_at known k < node_count g)
  pub own : (k : ℕ) → k < place → before ≤ k → label_at known k ≡ node_count g + k

pub listed-starts : (g : Graph) (numbers : List (ℕ × Term)) (before : ℕ)
    → AreListed g numbers before 0 []
listed-starts g numbers before = record {
  count = refl;
  nodes = λ k l. absurd (omega (arith, l));
  old = λ k l. absurd (omega (arith, l));
  own = λ k l. absurd (omega (arith, l));
}

module _ (g : Graph) (numbers : List (ℕ × Term)) (before place : ℕ) (known : List (ℕ × ℕ))
    (are : AreListed g numbers before place known) where
  module _ (node label : ℕ) (is : node ≡ number_node numbers place)
      (old : place < before → (label ≡ number_of g node) × (label < node_count g))
      (own : before ≤ place → label ≡ node_count g + place) where
    abbrev next : List (ℕ × ℕ)
    next = known ++ (node, label) ∷ []

    here : get_or next place (0, 0) ≡ (node, label)
    here = get_or_push known (node, label) (0, 0) place are.count

    kept : (k : ℕ) → k < place → get_or next k (0, 0) ≡ get_or known k (0, 0)
    kept k l = get_or_append_left known ((node, label) ∷ []) (0, 0) k (omega (arith, l, are.count))

    -- what holds of each entry so far and of the new one holds of all
    each_entry : (P : ℕ → ℕ × ℕ → Type 0) → ((k : ℕ) → k < place → P k (get_or known k (0, 0)))
        → P place (node, label) → (k : ℕ) → k < place + 1 → P k (get_or next k (0, 0))
    each_entry P so_far new k l =
        elim (cases_lt k place) [
          | inl earlier ↦ subst (P k) (sym (kept k earlier)) (so_far k earlier)
          | inr last ↦ subst (λ j. P j (get_or next j (0, 0))) (omega (arith, l, last))
              (subst (P place) (sym here) new)
        ]

    pub listed-more : AreListed g numbers before (place + 1) next
    listed-more = record {
      count = omega (arith, length-append known ((node, label) ∷ []), are.count);
      nodes = each_entry (λ k e. e.0 ≡ number_node numbers k) are.nodes is;
      old = each_entry (λ k e. k < before → (e.1 ≡ number_of g e.0) × (e.1 < node_count g))
          are.old old;
      own = each_entry (λ k e. before ≤ k → e.1 ≡ node_count g + k) are.own own;
    }

  -- ---- all of them

  module _ (all : length numbers ≡ place) (moved : List (ℕ × ℕ))
      (permuted : IsPermutation known moved) where
    back : (entry : ℕ × ℕ) → Contains moved entry
        → (k : ℕ) × (k < place) × (get_or known k (0, 0) ≡ entry)
    back entry h =
        let found = Contains-permutation moved known entry (IsPermutation-sym known moved permuted) h
        in (
          found.0,
          omega (arith, found.1, are.count),
          get_or_default known found.0 (0, 0) entry found.1 ∙ found.2,
        )

    count_nodes : length (nodes_of numbers) ≡ place
    count_nodes = length-map numbers (λ (n : ℕ × Term). n.0) ∙ all

    is_number : (k : ℕ) → k < place → IsNumber numbers (node_at known k)
    is_number k l = subst (IsNumber numbers) (sym (are.nodes k l))
        (Contains-get_or (nodes_of numbers) k 0 (omega (arith, l, count_nodes)))

    pub listed-labeled : AreLabeled numbers moved
    listed-labeled = record {
      among = All-each (λ (entry : ℕ × ℕ). IsNumber numbers entry.0) moved (λ entry h.
          let at = back entry h in
          subst (IsNumber numbers) (ap (λ (e : ℕ × ℕ). e.0) at.2) (is_number at.0 at.1));
      each = λ a h.
          let l : h.0 < place = omega (arith, h.1, count_nodes) in
          let node : node_at known h.0 ≡ a = are.nodes h.0 l
          ∙ (get_or_default (nodes_of numbers) h.0 0 a h.1 ∙ h.2) in (
            label_at known h.0,
            Contains-permutation known moved (a, label_at known h.0) permuted
                (subst (λ n. Contains known (n, label_at known h.0)) node
                (Contains-get_or known h.0 (0, 0) (omega (arith, l, are.count)))),
          );
    }

    old_number : (k : ℕ) → k < place → k < before
        → IsNumber (take before numbers) (node_at known k)
    old_number k l low =
        subst (λ ns. Contains ns (node_at known k)) (take-map (λ (n : ℕ × Term). n.0) before numbers)
        (subst (Contains (take before (nodes_of numbers)))
        (get_or-take before (nodes_of numbers) k 0 low ∙ sym (are.nodes k l))
        (Contains-get_or (take before (nodes_of numbers)) k 0
        (omega (arith, low, l, count_nodes, length-take before (nodes_of numbers)))))

    at_places : (j k : ℕ) → j < place → k < place → label_at known j ≡ label_at known k
        → WereKnown (take before numbers) (number_of g) (node_at known j) (node_at known k)
    at_places j k jl kl same =
        elim (cases_lt j before) [
          | inl j_old ↦ elim (cases_lt k before) [
            | inl k_old ↦ inl (
              old_number j jl j_old,
              old_number k kl k_old,
              sym (are.old j jl j_old).0 ∙ (same ∙ (are.old k kl k_old).0),
            )
            | inr k_own ↦ absurd (omega (
              arith,
              same,
              (are.old j jl j_old).1,
              are.own k kl k_own,
            ))
          ]
          | inr j_own ↦ elim (cases_lt k before) [
            | inl k_old ↦ absurd (omega (
              arith,
              same,
              (are.old k kl k_old).1,
              are.own j jl j_own,
            ))
            | inr k_own ↦
                let one : j ≡ k = omega (arith, same, are.own j jl j_own, are.own k kl k_own) in
                inr (ap (node_at known) one)
          ]
        ]

    pub listed-known : (a b : ℕ) → AreKnownBy moved a b
        → WereKnown (take before numbers) (number_of g) a b
    listed-known a b h =
        let first = back (a, h.first) h.a_there in
        let second = back (b, h.second) h.b_there in
        let same : label_at known first.0 ≡ label_at known second.0 =
        ap (λ (e : ℕ × ℕ). e.1) first.2 ∙ (h.same ∙ sym (ap (λ (e : ℕ × ℕ). e.1) second.2)) in
        subst (λ n. WereKnown (take before numbers) (number_of g) n b)
        (ap (λ (e : ℕ × ℕ). e.0) first.2)
        (subst (WereKnown (take before numbers) (number_of g) (node_at known first.0))
        (ap (λ (e : ℕ × ℕ). e.0) second.2)
        (at_places first.0 second.0 first.1 second.1 same))
