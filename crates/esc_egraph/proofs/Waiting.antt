-- What waits while the classes are closed.
use Rattle.std.proofs.Common.{◌≡◌, ℕ, ◌<◌, ◌≤◌, List, [], ◌∷◌, ◌++◌, ◌⊎◌, ◌↔◌, inl, inr, Bool, IsTrue, length, take, refl, ap, sym, subst, ◌∙◌, arith}
use Rattle.std.specs.List.{Any, Contains}
use Rattle.std.proofs.lemmas.List.{append-nil, get_or_append_left, get_or_at, length-append, length_push, take-append-le}
use Rattle.std.proofs.Math.Seq.{take-append_seam}
use Rattle.esc_nodes.specs.Nodes.{Shape, shape_at}
use Rattle.esc_index.specs.Places.{entry_at}
use Rattle.esc_union.specs.Merges.{SameClass, class_number, merge_at}
use Rattle.esc_egraph.specs.Graph.{Graph}
use Rattle.esc_egraph.specs.Congruence.{IsBroken}
use Rattle.esc_egraph.specs.KeysInside.{key_of}
use Rattle.esc_egraph.specs.PassesInside.{IsUnited}
use Rattle.esc_egraph.specs.PartsInside.{graph_in, uses_of, IsSound}
use Rattle.esc_egraph.specs.ClosingInside.{IsClosing, IsEntered, IsMatchIn, IsSettled, IsAmong, IsSettledIn, IsTouched, IsWaiting, Waiting}
use Rattle.esc_egraph.specs.declared.parts.Parts.{Parts}
use Rattle.esc_egraph.specs.declared.record.EgraphRec.{EgraphRec}
use Rattle.esc_egraph.proofs.Closing.{IsClosing-starts, IsClosing-both}
use Rattle.esc_egraph.proofs.Settled.{settled_entered, settled_matched, settled_merged, settled_weaker}

-- how far closing has come
pub record Going {Whole : Type 0} (carry : EgraphRec → Whole) (entry : Parts) (first : List Whole)
    (now : Parts) (trail : List Whole) (broken : Bool) : Type 0 where
  pub sound : IsSound now
  pub step : IsClosing carry (graph_in entry) first (graph_in now) trail
  pub is_broken : IsTrue broken ↔ IsBroken (graph_in now)

pub Going-starts : {Whole : Type 0} (carry : EgraphRec → Whole) (entry : Parts) (trail : List Whole)
    (broken : Bool) → IsSound entry →
    IsTrue broken ↔ IsBroken (graph_in entry) → Going carry entry trail entry trail broken
Going-starts carry entry trail broken sound is = record
    { sound = sound; step = IsClosing-starts carry (graph_in entry) trail; is_broken = is }

pub Going-on : {Whole : Type 0} (carry : EgraphRec → Whole) (entry now exit : Parts)
    (first trail after : List Whole) (broken broken' : Bool) →
    Going carry entry first now trail broken → IsSound exit
    → IsClosing carry (graph_in now) trail (graph_in exit) after →
    IsTrue broken' ↔ IsBroken (graph_in exit) → Going carry entry first exit after broken'
Going-on carry entry now exit first trail after broken broken' going sound step is = record {
  sound = sound;
  step = IsClosing-both carry (graph_in entry) (graph_in now) (graph_in exit) first trail after
      going.step step;
  is_broken = is;
}

-- ---- the parts that stay

pub same_nodes : (p q : Parts) (ms : List (ℕ × ℕ)) → graph_in q
    ≡ record (graph_in p) { merges = ms } → q.nodes ≡ p.nodes
same_nodes p q ms e = ap (λ (h : Graph). h.nodes) e

pub same_uses : (p q : Parts) → IsSound p → IsSound q → q.nodes ≡ p.nodes → q.uses ≡ p.uses
same_uses p q p_is q_is e = q_is.used ∙ (ap uses_of e ∙ sym p_is.used)

-- ---- what later merges touch

touched_later : (nodes : List Shape) (ms more : List (ℕ × ℕ)) (from n : ℕ)
    → IsTouched nodes ms from n → IsTouched nodes (ms ++ more) from n
touched_later nodes ms more from n (i, low, high, any) =
    let front : take i (ms ++ more) ≡ take i ms = take-append-le i ms more (omega (arith, high)) in
    let at : merge_at (ms ++ more) i ≡ merge_at ms i = get_or_append_left ms more (0, 0) i high in (
      i,
      low,
      omega (arith, high, length-append ms more),
      rw (front, at) any,
    )

touched_now : (nodes : List Shape) (ms : List (ℕ × ℕ)) (m : ℕ × ℕ) (from n : ℕ) → from ≤ length ms →
    Any (λ a. SameClass (class_number ms) a m.0) (shape_at nodes n).args
    → IsTouched nodes (ms ++ (m ∷ [])) from n
touched_now nodes ms m from n low any =
    let front : take (length ms) (ms ++ (m ∷ [])) ≡ ms = take-append_seam ms (m ∷ []) in
    let at : merge_at (ms ++ (m ∷ [])) (length ms)
    ≡ m = get_or_at ms m [] (0, 0) (length ms) refl in (
      length ms,
      low,
      omega (arith, length_push ms m),
      rw (front, at) any,
    )

-- what waits goes on to wait
pub waiting_later : (p q : Parts) (more : List (ℕ × ℕ)) → q.nodes ≡ p.nodes → q.uses ≡ p.uses
    → q.classes.merges ≡ p.classes.merges ++ more →
    (w : Waiting) (n : ℕ) → IsWaiting p w n → IsWaiting q w n
waiting_later p q more nodes uses merges w n (inl over) =
    inl (
      over.0,
      over.1,
      subst (λ (ns : List Shape). (n < length ns)
          × Contains (shape_at ns n).args over.0) (sym nodes) over.2,
    )
waiting_later p q more nodes uses merges w n (inr (inl among)) =
    inr (inl (subst (λ us. IsAmong us w.member w.entries n) (sym uses) among))
waiting_later p q more nodes uses merges w n (inr (inr touched)) =
    inr (inr (subst (λ ms. IsTouched q.nodes ms w.merge n) (sym merges)
    (subst (λ ns. IsTouched ns (p.classes.merges ++ more) w.merge n) (sym nodes)
    (touched_later p.nodes p.classes.merges more w.merge n touched))))

settled_at : (p q : Parts) (ms table : List (ℕ × ℕ)) (Waits : ℕ → Type 0) → q.nodes ≡ p.nodes
    → q.classes.merges ≡ ms → q.table ≡ table →
    IsSettled p.nodes ms table Waits → IsSettledIn q Waits
settled_at p q ms table Waits nodes merges same is =
    subst (λ ns. IsSettled ns q.classes.merges q.table Waits) (sym nodes)
    (subst (λ xs. IsSettled p.nodes xs q.table Waits) (sym merges)
    (subst (λ t. IsSettled p.nodes ms t Waits) (sym same) is))

-- ---- the classes of two nodes are united

module _ (p q : Parts) (node : ℕ) (p_is : IsSound p) (q_is : IsSound q) (table : q.table ≡ p.table)
    (w : Waiting) (low : w.merge ≤ length p.classes.merges)
    (settled : IsSettledIn p (λ n. (n ≡ node) ⊎ IsWaiting p w n)) where
  by_merge : (m : ℕ × ℕ) → graph_in q ≡ record (graph_in p) {
    merges = p.classes.merges
        ++ (m ∷ []);
  } →
      IsSettledIn q (λ n. (n ≡ node) ⊎ IsWaiting q w n)
  by_merge m e =
      let nodes : q.nodes ≡ p.nodes = ap (λ (h : Graph). h.nodes) e in
      let merges : q.classes.merges ≡ p.classes.merges
      ++ (m ∷ []) = ap (λ (h : Graph). h.merges) e in
      settled_at p q (p.classes.merges ++ (m ∷ [])) p.table (λ n. (n ≡ node) ⊎ IsWaiting q w n)
      nodes merges table
      (settled_weaker p.nodes (p.classes.merges ++ (m ∷ [])) p.table
      (λ n. ((n ≡ node) ⊎ IsWaiting p w n) ⊎ Any (λ a. SameClass (class_number p.classes.merges) a
      m.0) (shape_at p.nodes n).args)
      (λ n. (n ≡ node) ⊎ IsWaiting q w n)
      (λ n nl waits. elim waits [
        | inl was ↦ elim was [
          | inl is ↦ inl is
          | inr v ↦ inr (waiting_later p q (m ∷ []) nodes (same_uses p q p_is q_is nodes)
              merges w n v)
        ]
        | inr any ↦ inr (inr (inr (subst (λ ms. IsTouched q.nodes ms w.merge n) (sym merges)
            (subst (λ ns. IsTouched ns (p.classes.merges ++ (m ∷ [])) w.merge n) (sym nodes)
            (touched_now p.nodes p.classes.merges m w.merge n low any)))))
      ])
      (settled_merged p.nodes p_is.graph.terms p.classes.merges m p.table (λ n. (n ≡ node)
      ⊎ IsWaiting p w n) settled))

  pub settled_united : (a b : ℕ) → IsUnited (graph_in p) (graph_in q) a b
      → IsSettledIn q (λ n. (n ≡ node) ⊎ IsWaiting q w n)
  settled_united a b (inl e) = by_merge (a, b) e
  settled_united a b (inr e) = by_merge (b, a) e

pub longer_united : (p q : Parts) (a b : ℕ) → IsUnited (graph_in p) (graph_in q) a b
    → length p.classes.merges ≤ length q.classes.merges
longer_united p q a b (inl e) = omega (
  arith,
  ap (λ (h : Graph). length h.merges) e,
  length_push
      p.classes.merges (a, b),
)
longer_united p q a b (inr e) = omega (
  arith,
  ap (λ (h : Graph). length h.merges) e,
  length_push
      p.classes.merges (b, a),
)

-- ---- a node is entered, where it has no match

pub settled_after : (p q : Parts) (node : ℕ) → IsSound p → IsSound q → node < length p.nodes
    → graph_in q ≡ graph_in p →
    ((IsEntered p (shape_at p.nodes node) × (q.table ≡ p.table))
    ⊎ ((IsEntered p (shape_at p.nodes node) → ⊥) × (q.table ≡ p.table
    ++ ((key_of (class_number p.classes.merges) (shape_at p.nodes node), node) ∷ [])))) →
    ((place : ℕ) → IsMatchIn p (shape_at p.nodes node) place
    → SameClass (class_number p.classes.merges) node (entry_at p.table place).1) →
    (w : Waiting) → IsSettledIn p (λ n. (n ≡ node) ⊎ IsWaiting p w n)
    → IsSettledIn q (IsWaiting q w)
settled_after p q node p_is q_is there same how all w settled =
    let nodes : q.nodes ≡ p.nodes = ap (λ (h : Graph). h.nodes) same in
    let merges : q.classes.merges ≡ p.classes.merges = ap (λ (h : Graph). h.merges) same in
    let waits : (n : ℕ) → n < length p.nodes → IsWaiting p w n → IsWaiting q w n =
    λ n nl v. waiting_later p q [] nodes (same_uses p q p_is q_is nodes) (merges
    ∙ sym (append-nil p.classes.merges)) w n v in
    elim how [
      | inl old ↦ settled_at p q p.classes.merges p.table (IsWaiting q w) nodes merges old.1
          (settled_weaker p.nodes p.classes.merges p.table (IsWaiting p w) (IsWaiting q w) waits
          (settled_matched p.nodes p.classes.merges p.table (IsWaiting p w) node there settled
          old.0.0 old.0.1 all))
      | inr new ↦ settled_at p q p.classes.merges (p.table
          ++ ((key_of (class_number p.classes.merges) (shape_at p.nodes node), node) ∷ []))
          (IsWaiting q w) nodes merges new.1
          (settled_weaker p.nodes p.classes.merges (p.table
          ++ ((key_of (class_number p.classes.merges) (shape_at p.nodes node), node) ∷ []))
          (IsWaiting p w) (IsWaiting q w) waits
          (settled_entered p.nodes p.classes.merges p.table (IsWaiting p w) node there settled
          (λ place m. new.0 (place, m))))
    ]

-- ---- what closing leaves

pub longer_step : {Whole : Type 0} (carry : EgraphRec → Whole) (entry now : Graph)
    (first trail : List Whole) → IsClosing carry entry first now trail →
    length entry.merges ≤ length now.merges
longer_step carry entry now first trail step = omega
    (arith, ap length step.more.1, length-append entry.merges step.more.0)

-- classes that are closed, where each node has a match, are settled once two are united
pub settled_joined : (p q : Parts) (a b start : ℕ) → IsSound p → q.table ≡ p.table → start
    ≡ length p.classes.merges →
    IsSettledIn p (λ n. ⊥) → IsUnited (graph_in p) (graph_in q) a b →
    IsSettledIn q (IsWaiting q (record { members = []; member = 0; entries = 0; merge = start }))
settled_joined p q a b start is table start_is settled united = elim united
    [ inl e ↦ by (a, b) e | inr e ↦ by (b, a) e ]
  where
    by : (m : ℕ × ℕ) → graph_in q ≡ record (graph_in p) { merges = p.classes.merges ++ (m ∷ []) } →
        IsSettledIn q (IsWaiting q (record {
          members = [];
          member = 0;
          entries = 0;
          merge
              = start;
        }))
    by m e =
        let nodes : q.nodes ≡ p.nodes = ap (λ (h : Graph). h.nodes) e in
        let merges : q.classes.merges ≡ p.classes.merges
        ++ (m ∷ []) = ap (λ (h : Graph). h.merges) e in
        let w : Waiting = record { members = []; member = 0; entries = 0; merge = start } in
        settled_at p q (p.classes.merges ++ (m ∷ [])) p.table (IsWaiting q w) nodes merges table
        (settled_weaker p.nodes (p.classes.merges ++ (m ∷ [])) p.table
        (λ n. ⊥ ⊎ Any (λ a. SameClass (class_number p.classes.merges) a m.0)
        (shape_at p.nodes n).args) (IsWaiting q w)
        (λ n nl waits. elim waits [
          | inl never ↦ absurd never
          | inr any ↦ inr (inr (subst (λ ms. IsTouched q.nodes ms start n) (sym merges)
              (subst (λ ns. IsTouched ns (p.classes.merges ++ (m ∷ [])) start n) (sym nodes)
              (touched_now p.nodes p.classes.merges m start n (omega (arith, start_is)) any))))
        ])
        (settled_merged p.nodes is.graph.terms p.classes.merges m p.table (λ n. ⊥) settled))
