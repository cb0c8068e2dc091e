-- A loop that joins classes until they are closed.
use Rattle.std.proofs.Common.{◌≡◌, ℕ, ◌<◌, List, [], ◌∷◌, ◌++◌, inl, inr, length, refl, ap, sym, subst, ◌∙◌, append_assoc, arith}
use Rattle.std.proofs.lemmas.List.{append-nil}
use Rattle.std.proofs.lemmas.List.Elements.{All-weaker}
use Rattle.esc_nodes.specs.Nodes.{Shape, shape_at}
use Rattle.esc_union.specs.Merges.{SameClass, class_number}
use Rattle.esc_union.proofs.Numbers.{same_more, pair_joined}
use Rattle.esc_egraph.specs.Graph.{Graph, IsGraph, Adds, number_of}
use Rattle.esc_egraph.specs.GraphUndo.{graph_undo, graph_back, CanGoBack}
use Rattle.esc_egraph.specs.Congruence.{AreAlike, IsCongruence, Meets, IsLeast, EqualWith}
use Rattle.esc_egraph.specs.ClosingInside.{IsClosing}
use Rattle.esc_egraph.specs.PassesInside.{IsUnited}
use Rattle.esc_egraph.specs.declared.record.EgraphRec.{EgraphRec}
use Rattle.esc_egraph.proofs.Joining.{merged_within, alike_within}
use Rattle.esc_trail.specs.Undo.{Notes}
use Rattle.esc_trail.proofs.Lawful.{equal_is_lawful}
use Rattle.esc_trail.proofs.Noting.{notes_both, notes_nothing}

pub IsClosing-starts : {Whole : Type 0} (carry : EgraphRec → Whole) (entry : Graph)
    (trail : List Whole) →
    IsClosing carry entry trail entry trail
IsClosing-starts carry entry trail = record {
  others = refl;
  more = ([], sym (append-nil entry.merges));
  meets = λ a b l m same. same;
  finest = λ rest closed meets. meets;
  undo = notes_nothing graph_undo carry trail trail entry entry refl refl;
}

pub adds_both : (first middle last : List (ℕ × ℕ)) → Adds first middle → Adds middle last
    → Adds first last
adds_both first middle last a b =
    (a.0 ++ b.0, b.1 ∙ (ap (λ ms. ms ++ b.0) a.1 ∙ append_assoc first a.0 b.0))

-- the nodes of a pair are nodes, and stand in one class wherever the classes are closed and coarser
pub record IsForced (nodes : List Shape) (number : ℕ → ℕ) (m : ℕ × ℕ) : Type 0 where
  pub there : m.0 < length nodes
  pub there_too : m.1 < length nodes
  pub forced : (rest : ℕ → ℕ) → IsCongruence nodes rest → Meets nodes (SameClass number) rest
      → SameClass rest m.0 m.1

pub alike_forced : (g : Graph) (a b : ℕ) → IsGraph g → a < length g.nodes → b < length g.nodes →
    AreAlike (number_of g) (shape_at g.nodes a) (shape_at g.nodes b)
    → IsForced g.nodes (number_of g) (a, b)
alike_forced g a b is al bl alike = record {
  there = al;
  there_too = bl;
  forced = λ rest closed coarser. closed a b al bl
      (alike_within (length g.nodes) (number_of g) rest _ _ coarser
      (All-weaker (λ x. x < a) (λ x. x < length g.nodes) (λ x l. omega (arith, l, al)) _
      (is.terms.older a al))
      (All-weaker (λ x. x < b) (λ x. x < length g.nodes) (λ x l. omega (arith, l, bl)) _
      (is.terms.older b bl))
      alike);
}

pub forced_back : (nodes : List Shape) (number : ℕ → ℕ) (a b : ℕ) → IsForced nodes number (a, b)
    → IsForced nodes number (b, a)
forced_back nodes number a b f = record {
  there = f.there_too;
  there_too = f.there;
  forced = λ rest closed coarser. sym (f.forced rest closed coarser);
}

module _ {Whole : Type 0} (carry : EgraphRec → Whole) (entry : Graph) (first : List Whole) where
  -- the step, where the graph differs from that at entry in its merges alone
  joins : (ms : List (ℕ × ℕ)) (trail after : List Whole) (m : ℕ × ℕ) →
      IsClosing carry entry first (record entry { merges = ms }) trail
      → IsForced entry.nodes (class_number ms) m →
      Notes graph_undo carry trail after (record entry { merges = ms })
      (record entry { merges = ms ++ (m ∷ []) }) →
      IsClosing carry entry first (record entry { merges = ms ++ (m ∷ []) }) after
  joins ms trail after m c force undo = record {
    others = refl;
    more = adds_both entry.merges ms (ms ++ (m ∷ [])) c.more (m ∷ [], refl);
    meets = λ x y xl yl same. same_more ms m x y (c.meets x y xl yl same);
    finest = λ rest closed meets.
        let coarser : Meets entry.nodes (SameClass (class_number ms)) rest = c.finest rest closed
        meets in
        merged_within entry.nodes ms m rest force.there force.there_too coarser
        (force.forced rest closed coarser);
    undo = notes_both graph_undo (equal_is_lawful graph_back CanGoBack) carry first trail after
        entry _ _ c.undo undo;
  }

  merges_one : (now exit : Graph) (trail after : List Whole) (m : ℕ × ℕ) →
      IsClosing carry entry first now trail → IsForced now.nodes (number_of now) m →
      exit ≡ record now { merges = now.merges ++ (m ∷ []) }
      → Notes graph_undo carry trail after now exit →
      IsClosing carry entry first exit after
  merges_one now exit trail after m c force e undo =
      let same : now ≡ record entry { merges = now.merges } = c.others in
      let left : exit ≡ record entry { merges = now.merges ++ (m ∷ []) } =
      e ∙ ap (λ (h : Graph). record h { merges = now.merges ++ (m ∷ []) }) same in
      subst (λ g. IsClosing carry entry first g after) (sym left)
      (joins now.merges trail after m
      (subst (λ g. IsClosing carry entry first g trail) same c)
      (subst (λ (g : Graph). IsForced g.nodes (class_number now.merges) m) same force)
      (subst (λ g. Notes graph_undo carry trail after g
      (record entry { merges = now.merges ++ (m ∷ []) })) same
      (subst (λ g. Notes graph_undo carry trail after now g) left undo)))

  pub IsClosing-joins : (now exit : Graph) (trail after : List Whole) (a b : ℕ) →
      IsClosing carry entry first now trail → IsForced now.nodes (number_of now) (a, b) →
      IsUnited now exit a b → Notes graph_undo carry trail after now exit →
      IsClosing carry entry first exit after
  IsClosing-joins now exit trail after a b c force (inl e) undo = merges_one now exit trail after
      (a, b) c force e undo
  IsClosing-joins now exit trail after a b c force (inr e) undo =
      merges_one now exit trail after (b, a) c (forced_back now.nodes (number_of now) a b force) e
      undo

  pub IsClosing-done : (now : Graph) (trail : List Whole) → IsClosing carry entry first now trail
      → IsCongruence now.nodes (number_of now) →
      IsLeast entry.nodes (SameClass (number_of entry)) (number_of now)
  IsClosing-done now trail c closed = record {
    closed = subst (λ nodes. IsCongruence nodes (number_of now))
        (ap (λ (h : Graph). h.nodes) c.others) closed;
    meets = c.meets;
    finest = c.finest;
  }

-- the least classes over those that the pair was merged in are the least over the old ones with the
-- new pair
least_merged : (nodes : List Shape) (ms : List (ℕ × ℕ)) (m : ℕ × ℕ) (a b : ℕ) (new : ℕ → ℕ) → m.0
    < length nodes → m.1 < length nodes →
    a < length nodes → b < length nodes →
    SameClass (class_number (ms ++ (m ∷ []))) a b → ((rest : ℕ → ℕ) → SameClass rest a b
    → SameClass rest m.0 m.1) →
    IsLeast nodes (SameClass (class_number (ms ++ (m ∷ [])))) new
    → IsLeast nodes (EqualWith (class_number ms) a b) new
least_merged nodes ms m a b new ml nl al bl joined turned least = record {
  closed = least.closed;
  meets = λ x y xl yl equal. elim equal [
    | inl same ↦ least.meets x y xl yl (same_more ms m x y same)
    | inr pq ↦ rw (pq.0, pq.1) (least.meets a b al bl joined)
  ];
  finest = λ rest closed meets.
      least.finest rest closed (merged_within nodes ms m rest ml nl
      (λ x y xl yl same. meets x y xl yl (inl same))
      (turned rest (meets a b al bl (inr (refl, refl)))));
}

pub least_united : (old united : Graph) (a b : ℕ) (new : ℕ → ℕ) → a < length old.nodes → b
    < length old.nodes → IsUnited old united a b →
    IsLeast united.nodes (SameClass (number_of united)) new
    → IsLeast old.nodes (EqualWith (number_of old) a b) new
least_united old united a b new al bl (inl e) least =
    least_merged old.nodes old.merges (a, b) a b new al bl al bl (pair_joined old.merges (a, b))
    (λ rest same. same)
    (subst (λ (h : Graph). IsLeast h.nodes (SameClass (number_of h)) new) e least)
least_united old united a b new al bl (inr e) least =
    least_merged old.nodes old.merges (b, a) a b new bl al al bl
    (sym (pair_joined old.merges (b, a))) (λ rest same. sym same)
    (subst (λ (h : Graph). IsLeast h.nodes (SameClass (number_of h)) new) e least)

-- closed classes where the pair stands in one are the least with it
pub least_same : (nodes : List Shape) (number : ℕ → ℕ) (a b : ℕ) → SameClass number a b
    → IsCongruence nodes number →
    IsLeast nodes (EqualWith number a b) number
least_same nodes number a b same closed = record {
  closed = closed;
  meets = λ x y xl yl equal. elim equal [
    | inl one ↦ one
    | inr pq ↦ rw (pq.0, pq.1) same
  ];
  finest = λ rest closed' meets x y xl yl one. meets x y xl yl (inl one);
}

-- ---- one change after another

pub IsClosing-both : {Whole : Type 0} (carry : EgraphRec → Whole) (entry middle exit : Graph)
    (first second third : List Whole) →
    IsClosing carry entry first middle second → IsClosing carry middle second exit third
    → IsClosing carry entry first exit third
IsClosing-both carry entry middle exit first second third a b =
    let nodes : middle.nodes ≡ entry.nodes = ap (λ (h : Graph). h.nodes) a.others in
    record {
      others = b.others ∙ ap (λ (h : Graph). record h { merges = exit.merges }) a.others;
      more = adds_both entry.merges middle.merges exit.merges a.more b.more;
      meets = λ x y xl yl same. subst (λ ns. Meets ns (SameClass (number_of middle))
          (number_of exit)) nodes b.meets x y xl yl (a.meets x y xl yl same);
      finest = λ rest closed meets.
          subst (λ ns. Meets ns (SameClass (number_of exit)) rest) nodes
          (b.finest rest (subst (λ ns. IsCongruence ns rest) (sym nodes) closed)
          (subst (λ ns. Meets ns (SameClass (number_of middle)) rest) (sym nodes)
          (a.finest rest closed meets)));
      undo = notes_both graph_undo (equal_is_lawful graph_back CanGoBack) carry first second third
          entry middle exit a.undo b.undo;
    }

-- the graph is as it was
pub IsClosing-same : {Whole : Type 0} (carry : EgraphRec → Whole) (entry exit : Graph)
    (first second : List Whole) → exit ≡ entry → second ≡ first →
    IsClosing carry entry first exit second
IsClosing-same carry entry exit first second e f =
    rw (e, f) (IsClosing-starts carry entry first)

-- the graph is as it was, and what is noted takes nothing back
pub IsClosing-kept : {Whole : Type 0} (carry : EgraphRec → Whole) (entry exit : Graph)
    (first second : List Whole) → exit ≡ entry →
    Notes graph_undo carry first second entry exit → IsClosing carry entry first exit second
IsClosing-kept carry entry exit first second e undo = record {
  others = e ∙ ap (λ (h : Graph). record entry { merges = h.merges }) (sym e);
  more = ([], ap (λ (h : Graph). h.merges) e ∙ sym (append-nil entry.merges));
  meets = λ a b l m same. subst (λ (h : Graph). SameClass (number_of h) a b) (sym e) same;
  finest = λ rest closed meets. subst (λ (h : Graph). Meets entry.nodes (SameClass (number_of h))
      rest) (sym e) meets;
  undo = undo;
}

-- ---- two classes are united, and the classes are closed

pub others_united : (old united new : Graph) (a b : ℕ) → IsUnited old united a b → new
    ≡ record united { merges = new.merges } → new ≡ record old { merges = new.merges }
others_united old united new a b (inl e) others = others
    ∙ ap (λ (h : Graph). record h { merges = new.merges }) e
others_united old united new a b (inr e) others = others
    ∙ ap (λ (h : Graph). record h { merges = new.merges }) e

pub adds_united : (old united new : Graph) (a b : ℕ) → IsUnited old united a b
    → Adds united.merges new.merges → Adds old.merges new.merges
adds_united old united new a b (inl e) more = adds_both old.merges united.merges new.merges (
  (a, b)
      ∷ [],
  ap (λ (h : Graph). h.merges) e,
) more
adds_united old united new a b (inr e) more = adds_both old.merges united.merges new.merges (
  (b, a)
      ∷ [],
  ap (λ (h : Graph). h.merges) e,
) more
