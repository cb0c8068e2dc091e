-- Known nodes are told one after the other, until all of a class are known to be equal.
use Rattle.std.proofs.Common.{◌≡◌, ℕ, ◌+◌, ◌<◌, inl, inr, List, length, get_or, refl, ap, sym}
use Rattle.std.proofs.Common.{subst, ◌∙◌, arith}
use Rattle.std.specs.List.{All, Contains}
use Rattle.std.proofs.lemmas.Bool.{cases_lt}
use Rattle.std.proofs.lemmas.List.{get_or-map, get_or_default, length-map}
use Rattle.std.proofs.lemmas.List.Elements.{All-contains}
use Rattle.esc_term.specs.declared.term.Term.{Term}
use Rattle.esc_union.specs.Merges.{SameClass}
use Rattle.esc_egraph.specs.Graph.{Graph, number_of}
use Rattle.esc_sharing.specs.KnownInside.{AreKnownBy, AreLabeled, KnowsMore, label_at, node_at}
use Rattle.esc_sharing.specs.Nodes.{node_count}
use Rattle.esc_sharing.specs.Numbers.{AreNumbersOf, IsNumber}
use Rattle.esc_sharing.specs.SettlingInside.{AllAgree, IsOrder, IsUnsettled}
use Rattle.esc_sharing.specs.Shared.{AreToldIn, Shared}
use Rattle.esc_sharing.specs.declared.telling.Telling.{Telling}
use Rattle.esc_sharing.proofs.Labels.{known_at}
use Rattle.esc_sharing.proofs.Least.{number_of_node}
use Rattle.esc_sharing.proofs.Lists.{All-each}
use Rattle.esc_sharing.proofs.Seats.{telling_at}

-- ---- what is known grows

pub knows_same : (known : List (ℕ × ℕ)) → KnowsMore known known
knows_same known = record { nodes = refl; kept = λ i j il jl same. same }

module _ (known now : List (ℕ × ℕ)) (more : KnowsMore known now) where
  pub as_many : length now ≡ length known
  as_many = sym (length-map now (λ (e : ℕ × ℕ). e.0))
      ∙ (ap length more.nodes ∙ length-map known (λ (e : ℕ × ℕ). e.0))

  pub node_still : (i : ℕ) → i < length known → node_at now i ≡ node_at known i
  node_still i l =
      sym (get_or-map (λ (e : ℕ × ℕ). e.0) now i (0, 0) 0 (omega (arith, l, as_many)))
      ∙ (ap (λ ns. get_or ns i 0) more.nodes
      ∙ get_or-map (λ (e : ℕ × ℕ). e.0) known i (0, 0) 0 l)

pub knows_both : (first middle last : List (ℕ × ℕ)) → KnowsMore first middle
    → KnowsMore middle last → KnowsMore first last
knows_both first middle last a b = record {
  nodes = b.nodes ∙ a.nodes;
  kept = λ i j il jl same. b.kept i j (omega (arith, il, as_many first middle a))
      (omega (arith, jl, as_many first middle a)) (a.kept i j il jl same);
}

-- the nodes are the graph's
pub known_there : (known : List (ℕ × ℕ)) (v : Shared)
    → AreNumbersOf v.graph v.numbers → AreLabeled v.numbers known
    → All (λ entry. entry.0 < node_count v.graph) known
known_there known v of are =
    All-each (λ (entry : ℕ × ℕ). entry.0 < node_count v.graph) known (λ entry h.
    (number_of_node v of entry.0
    (All-contains (λ (e : ℕ × ℕ). IsNumber v.numbers e.0) known entry are.among h)).0)

-- ---- the pairs

-- so many were told
abbrev pub AreTold : List Telling → List (ℕ × ℕ) → ℕ → Type 0
AreTold order now end = (k : ℕ) → k < end → label_at now (telling_at order k).first
    ≡ label_at now (telling_at order k).later

module _ (g : Graph) (known : List (ℕ × ℕ)) (order : List Telling) (is : IsOrder g known order) where
  abbrev IsTelling : Telling → Type 0
  IsTelling t = (t.first < length known) × (t.later < length known)
      × SameClass (number_of g) (node_at known t.first) (node_at known t.later)

  telling_is : (k : ℕ) → k < length order → IsTelling (telling_at order k)
  telling_is k l = is.within k _ l

  module _ (numbers : List (ℕ × Term)) (labeled : AreLabeled numbers known)
      (now : List (ℕ × ℕ)) (more : KnowsMore known now) (place : ℕ) (t : Telling)
      (within : place < length order) (read : t ≡ get_or order place t) where
    here : IsTelling t
    here = subst IsTelling (sym read) (is.within place t within)

    is_number : (i : ℕ) → i < length known → IsNumber numbers (node_at now i)
    is_number i l = subst (IsNumber numbers) (sym (node_still known now more i l))
        (labeled.among i (0, 0) l)

    pub telling_first : t.first < length now
    telling_first = omega (arith, here.0, as_many known now more)

    pub telling_later : t.later < length now
    telling_later = omega (arith, here.1, as_many known now more)

    pub telling_pair : AreToldIn g numbers (node_at now t.first, node_at now t.later)
    telling_pair = record {
      first = is_number t.first here.0;
      second = is_number t.later here.1;
      together = ap (number_of g) (node_still known now more t.first here.0)
          ∙ (here.2 ∙ sym (ap (number_of g) (node_still known now more t.later here.1)));
    }

    module _ (last : List (ℕ × ℕ)) (on : KnowsMore now last)
        (told : label_at last t.first ≡ label_at last t.later) where
      pub told-step : AreTold order now place → AreTold order last (place + 1)
      told-step before k l =
          elim (cases_lt k place) [
            | inl earlier ↦
                let at = telling_is k (omega (arith, earlier, within)) in
                on.kept (telling_at order k).first (telling_at order k).later
                (omega (arith, at.0, as_many known now more))
                (omega (arith, at.1, as_many known now more)) (before k earlier)
            | inr after ↦
                let one : place ≡ k = omega (arith, l, after) in
                subst (λ j. label_at last (telling_at order j).first
                ≡ label_at last (telling_at order j).later) one
                (subst (λ (s : Telling). label_at last s.first ≡ label_at last s.later)
                (read ∙ get_or_default order place t _ within) told)
          ]

  -- ---- all of them

  module _ (v : Shared) (now : List (ℕ × ℕ)) (more : KnowsMore known now)
      (labeled : AreLabeled v.numbers known) (graph : v.graph ≡ g)
      (unsettled : IsUnsettled v (AreKnownBy now)) (told : AreTold order now (length order)) where
    label_of : (t : Telling) → Contains order t → label_at now t.first ≡ label_at now t.later
    label_of t h =
        subst (λ (s : Telling). label_at now s.first ≡ label_at now s.later)
        (get_or_default order h.0 _ t h.1 ∙ h.2) (told h.0 h.1)

    pub telling-done : AllAgree v
    telling-done x admitted a b an bn same =
        let one = labeled.each a an in
        let other = labeled.each b bn in
        let i = one.1.0 in
        let j = other.1.0 in
        let a_is : node_at known i ≡ a =
        ap (λ (e : ℕ × ℕ). e.0) (get_or_default known i (0, 0) _ one.1.1 ∙ one.1.2) in
        let b_is : node_at known j ≡ b =
        ap (λ (e : ℕ × ℕ). e.0) (get_or_default known j (0, 0) _ other.1.1 ∙ other.1.2) in
        let together : SameClass (number_of g) (node_at known i) (node_at known j) =
        ap (number_of g) a_is
        ∙ (subst (λ (h : Graph). SameClass (number_of h) a b) graph same
        ∙ sym (ap (number_of g) b_is)) in
        let both = is.each i j one.1.1 other.1.1 together in
        let labels : label_at now i ≡ label_at now j =
        ap (label_at now) (sym both.5)
        ∙ (sym (label_of both.0 both.2)
        ∙ (ap (label_at now) both.4
        ∙ (label_of both.1 both.3 ∙ ap (label_at now) both.6))) in
        unsettled.known_equal a b an bn
        (subst (λ n. AreKnownBy now n b) (node_still known now more i one.1.1 ∙ a_is)
        (subst (AreKnownBy now (node_at now i)) (node_still known now more j other.1.1 ∙ b_is)
        (known_at now i j (omega (arith, one.1.1, as_many known now more))
        (omega (arith, other.1.1, as_many known now more)) labels))) x admitted
