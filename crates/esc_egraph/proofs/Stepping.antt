-- The steps of a graph, where there is more and where it is taken back.
use Rattle.std.proofs.Common.{◌≡◌, ℕ, ◌<◌, List, [], ◌∷◌, ◌++◌, Bool, IsTrue, length, take, get_or, All, refl, sym, subst, arith}
use Rattle.std.proofs.lemmas.List.{get_or_append_left, get_or_at, length-append, length_push, length-take-le, take-append-le, take-take, take_all}
use Rattle.std.proofs.lemmas.List.Elements.{All-weaker, All-push}
use Rattle.std.proofs.lemmas.List.Quantifiers.{all_pairs_push}
use Rattle.esc_nodes.specs.Nodes.{Shape}
use Rattle.esc_union.proofs.Ends.{All-front, All-last}
use Rattle.esc_egraph.specs.PartsInside.{AreSteps, IsEarlier, IsWhole, IsWithin}
use Rattle.esc_egraph.specs.declared.step.Step.{Step}

pub AreSteps-none : (nodes : List Shape) (ms table : List (ℕ × ℕ)) → AreSteps nodes ms table []
AreSteps-none nodes ms table = record {
  within = λ k d l. absurd (omega (arith, l));
  in_order = λ i j d ij jl. absurd (omega (arith, jl));
}

-- what was whole then, by equations on what there was
whole_at : (n n' : List Shape) (m m' t t' : List (ℕ × ℕ)) → n ≡ n' → m ≡ m' → t ≡ t' → IsWhole n m t
    → IsWhole n' m' t'
whole_at n n' m m' t t' en em et w =
    subst (λ x. IsWhole n' m' x) et (subst (λ x. IsWhole n' x t) em
    (subst (λ x. IsWhole x m t) en w))

within_more : (nodes ns : List Shape) (ms more table ts : List (ℕ × ℕ)) (s : Step)
    → IsWithin nodes ms table s → IsWithin (nodes ++ ns) (ms ++ more) (table ++ ts) s
within_more nodes ns ms more table ts s is = record {
  nodes_then = omega (arith, is.nodes_then, length-append nodes ns);
  merges_then = omega (arith, is.merges_then, length-append ms more);
  table_then = omega (arith, is.table_then, length-append table ts);
  low_then = subst (λ t. All (λ (e : ℕ × ℕ). e.1 < s.nodes) t)
      (sym (take-append-le s.table table ts is.table_then)) is.low_then;
  whole_then = λ w. whole_at _ _ _ _ _ _
      (sym (take-append-le s.nodes nodes ns is.nodes_then))
      (sym (take-append-le s.merges ms more is.merges_then))
      (sym (take-append-le s.table table ts is.table_then))
      (is.whole_then w);
}

-- there are more nodes, merges or entries
pub AreSteps-more : (nodes ns : List Shape) (ms more table ts : List (ℕ × ℕ)) (steps : List Step)
    → AreSteps nodes ms table steps →
    AreSteps (nodes ++ ns) (ms ++ more) (table ++ ts) steps
AreSteps-more nodes ns ms more table ts steps is = record {
  within = All-weaker (IsWithin nodes ms table) (IsWithin (nodes ++ ns) (ms ++ more) (table ++ ts))
      (within_more nodes ns ms more table ts) steps is.within;
  in_order = is.in_order;
}

-- a step is made from what there is
pub AreSteps-made : (nodes : List Shape) (ms table : List (ℕ × ℕ)) (steps : List Step)
    (whole : Bool) (s : Step) →
    s ≡ record { whole = whole; nodes = length nodes; merges = length ms; table = length table } →
    All (λ e. e.1 < length nodes) table → (IsTrue whole → IsWhole nodes ms table)
    → AreSteps nodes ms table steps → AreSteps nodes ms table (steps ++ (s ∷ []))
AreSteps-made nodes ms table steps whole s e low w is =
    rw e (record {
      within = All-push (IsWithin nodes ms table) steps
          (record { whole = whole; nodes = length nodes; merges = length ms; table = length table })
          is.within (record {
            nodes_then = omega arith;
            merges_then = omega arith;
            table_then = omega arith;
            low_then = subst (λ t. All (λ (x : ℕ × ℕ). x.1 < length nodes) t)
                (sym (take_all (length table) table (omega arith))) low;
            whole_then = λ t. whole_at _ _ _ _ _ _
                (sym (take_all (length nodes) nodes (omega arith)))
                (sym (take_all (length ms) ms (omega arith)))
                (sym (take_all (length table) table (omega arith))) (w t);
          });
      in_order = all_pairs_push IsEarlier steps (record
          { whole = whole; nodes = length nodes; merges = length ms; table = length table })
          is.in_order
          (λ k d l. record {
            fewer_nodes = (is.within k d l).nodes_then;
            fewer_merges = (is.within k d l).merges_then;
            fewer_entries = (is.within k d l).table_then;
          });
    })

module _ (nodes : List Shape) (ms table : List (ℕ × ℕ)) (steps : List Step) (s : Step)
    (is : AreSteps nodes ms table (steps ++ (s ∷ []))) where
  last_step : IsWithin nodes ms table s
  last_step = All-last (IsWithin nodes ms table) steps s is.within

  earlier : (k : ℕ) (d : Step) → k < length steps → IsEarlier (get_or steps k d) s
  earlier k d l =
      subst (λ t. IsEarlier (get_or steps k d) t) (get_or_at steps s [] d (length steps) refl)
      (subst (λ t. IsEarlier t (get_or (steps ++ (s ∷ [])) (length steps) d))
      (get_or_append_left steps (s ∷ []) d k l)
      (is.in_order k (length steps) d l (omega (arith, length_push steps s))))

  within_less : (t : Step) → IsEarlier t s → IsWithin nodes ms table t
      → IsWithin (take s.nodes nodes) (take s.merges ms) (take s.table table) t
  within_less t before w = record {
    nodes_then = omega (
      arith,
      before.fewer_nodes,
      length-take-le s.nodes nodes
          last_step.nodes_then,
    );
    merges_then = omega (
      arith,
      before.fewer_merges,
      length-take-le s.merges ms
          last_step.merges_then,
    );
    table_then = omega (
      arith,
      before.fewer_entries,
      length-take-le s.table table
          last_step.table_then,
    );
    low_then = subst (λ u. All (λ (e : ℕ × ℕ). e.1 < t.nodes) u)
        (sym (take-take t.table s.table table before.fewer_entries)) w.low_then;
    whole_then = λ v. whole_at _ _ _ _ _ _
        (sym (take-take t.nodes s.nodes nodes before.fewer_nodes))
        (sym (take-take t.merges s.merges ms before.fewer_merges))
        (sym (take-take t.table s.table table before.fewer_entries)) (w.whole_then v);
  }

  pub AreSteps-back : AreSteps (take s.nodes nodes) (take s.merges ms) (take s.table table) steps
  AreSteps-back = record {
    within = λ k d l. within_less (get_or steps k d) (earlier k d l)
        (All-front (IsWithin nodes ms table) steps s is.within k d l);
    in_order = λ i j d ij jl.
        subst (λ t. IsEarlier t (get_or steps j d))
        (get_or_append_left steps (s ∷ []) d i (omega (arith, ij, jl)))
        (subst (λ t. IsEarlier (get_or (steps ++ (s ∷ [])) i d) t)
        (get_or_append_left steps (s ∷ []) d j jl)
        (is.in_order i j d ij (omega (arith, jl, length_push steps s))));
  }

  pub low_back : All (λ e. e.1 < s.nodes) (take s.table table)
  low_back = last_step.low_then

  pub whole_back : IsTrue s.whole → IsWhole (take s.nodes nodes) (take s.merges ms)
      (take s.table table)
  whole_back = last_step.whole_then
