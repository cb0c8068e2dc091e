-- What is held stays sound under each change.
use Rattle.std.proofs.Common.{◌≡◌, ℕ, ◌+◌, ◌-◌, ◌<◌, ◌≤◌, List, [], ◌∷◌, ◌++◌, inl, inr, Bool, false, IsTrue, length, map, take, get_or, set, All, refl, ap, sym, subst, ◌∙◌, arith}
use Rattle.std.proofs.lemmas.List.{append-nil, get_or_at, length-append, length-map, length-take-le, length_push, take_all, take_at, take_more}
use Rattle.std.proofs.lemmas.List.Elements.{All-append, All-weaker, All-push, All-nil}
use Rattle.esc_nodes.specs.Nodes.{Shape, shape_at, AreTerms}
use Rattle.esc_union.specs.Merges.{SameClass, AreMerges, class_number}
use Rattle.esc_union.specs.Members.{members_of}
use Rattle.esc_union.proofs.Holding.{AreMerges-count, AreMerges-fewer}
use Rattle.esc_union.proofs.Members.{AreMerges-more}
use Rattle.esc_union.proofs.Moved.{members_are}
use Rattle.esc_egraph.specs.Graph.{Graph}
use Rattle.esc_egraph.specs.PartsInside.{graph_in, uses_of, joined_place, AreNumbered, AreSteps, IsFirst, IsSound, IsWhole, IsWithin}
use Rattle.esc_egraph.specs.SidesInside.{IsSided}
use Rattle.esc_egraph.specs.declared.parts.Parts.{Parts}
use Rattle.esc_egraph.specs.declared.step.Step.{Step}
use Rattle.esc_egraph.specs.GraphUndo.{CanGoBack, graph_back}
use Rattle.esc_egraph.specs.StepsInside.{IsTakenBack}
use Rattle.esc_egraph.specs.declared.record.EgraphRec.TheVariants.{Made}
use Rattle.esc_trail.proofs.Ends.{take-append_last}
use Rattle.esc_egraph.proofs.Entering.{whole_joined}
use Rattle.esc_egraph.proofs.GraphNotes.{all_back}
use Rattle.esc_egraph.proofs.Numerals.{AreNumbered-merged, AreNumbered-made, AreNumbered-fewer, AreNumbered-parted}
use Rattle.esc_egraph.proofs.Over.{uses_of-more, uses_of-none}
use Rattle.esc_egraph.proofs.Stepping.{AreSteps-back, AreSteps-made, AreSteps-more, AreSteps-none, low_back, whole_back}

-- the sides are held otherwise
pub sound_sided : (p q : Parts) → IsSound p → q.nodes ≡ p.nodes → q.classes ≡ p.classes
    → q.forbidden.items ≡ p.forbidden.items → IsSided p.classes.merges p.forbidden.items q.sides →
    q.numerals.items ≡ p.numerals.items → q.uses ≡ p.uses → q.table ≡ p.table → q.steps.items
    ≡ p.steps.items → q.whole ≡ p.whole → IsSound q
sound_sided p q is nodes classes forbidden sides numerals uses table steps whole = record {
  graph = rw (nodes, classes, forbidden) is.graph;
  as_many = rw (nodes, classes) is.as_many;
  sided = rw (classes, forbidden) sides;
  numbered = rw (nodes, classes, numerals) is.numbered;
  used = rw (uses, nodes) is.used;
  low = rw (table, nodes) is.low;
  tabled = rw (whole, nodes, classes, table) is.tabled;
  stepped = rw (nodes, classes, table, steps) is.stepped;
}

-- what is held of fields that are the same
pub sound_same : (p q : Parts) → IsSound p → q.nodes ≡ p.nodes → q.classes ≡ p.classes
    → q.forbidden.items ≡ p.forbidden.items → q.sides ≡ p.sides →
    q.numerals.items ≡ p.numerals.items → q.uses ≡ p.uses → q.table ≡ p.table → q.steps.items
    ≡ p.steps.items → q.whole ≡ p.whole → IsSound q
sound_same p q is nodes classes forbidden sides numerals uses table steps whole =
    sound_sided p q is nodes classes forbidden (rw sides is.sided) numerals uses table steps whole

-- two classes are merged
pub sound_merged : (p q : Parts) (m : ℕ × ℕ) (place : ℕ) (step : Step) → IsSound p → m.0
    < length p.nodes → m.1 < length p.nodes →
    (SameClass (class_number p.classes.merges) m.0 m.1 → ⊥) →
    place ≡ joined_place (get_or p.numerals.items (class_number p.classes.merges m.1) 0)
    (get_or p.numerals.items (class_number p.classes.merges m.0) 0)
    (length (members_of p.classes.merges (class_number p.classes.merges m.1)))
    (length (members_of p.classes.merges (class_number p.classes.merges m.0))) →
    step ≡ record {
      whole = p.whole;
      nodes = length p.nodes;
      merges = length p.classes.merges;
      table
          = length p.table;
    } →
    q.nodes ≡ p.nodes → q.classes ≡ record p.classes { merges = p.classes.merges ++ (m ∷ []) }
    → q.forbidden.items ≡ p.forbidden.items →
    IsSided (p.classes.merges ++ (m ∷ [])) p.forbidden.items q.sides →
    q.numerals.items ≡ set p.numerals.items (class_number p.classes.merges m.1) place → q.uses
    ≡ p.uses → q.table ≡ p.table →
    q.steps.items ≡ p.steps.items ++ (step ∷ []) → q.whole ≡ false → IsSound q
sound_merged p q m place step is there there_too apart place_is step_is nodes classes forbidden
    sides numerals uses table steps whole = record {
      graph = rw (nodes, classes, forbidden) (record {
        terms = is.graph.terms;
        merged = AreMerges-more (length p.nodes) p.classes.merges m is.graph.merged there
            there_too apart;
        paired = is.graph.paired;
      });
      as_many = rw (nodes, classes) is.as_many;
      sided = rw (classes, forbidden) sides;
      numbered = rw (nodes, classes, numerals) (AreNumbered-merged p.nodes p.classes.merges m
          p.numerals.items is.graph.merged there there_too apart is.numbered place place_is);
      used = rw (uses, nodes) is.used;
      low = rw (table, nodes) is.low;
      tabled = λ w. cc (w, whole);
      stepped = rw (nodes, classes, table, steps)
          (subst (λ ns. AreSteps ns (p.classes.merges ++ (m ∷ [])) p.table (p.steps.items
          ++ (step ∷ []))) (append-nil p.nodes)
          (subst (λ t. AreSteps (p.nodes ++ []) (p.classes.merges ++ (m ∷ [])) t (p.steps.items
          ++ (step ∷ []))) (append-nil p.table)
          (AreSteps-more p.nodes [] p.classes.merges (m ∷ []) p.table [] (p.steps.items
          ++ (step ∷ []))
          (AreSteps-made p.nodes p.classes.merges p.table p.steps.items p.whole step step_is is.low
          is.tabled is.stepped))));
    }

-- a node is entered
pub sound_entered : (p q : Parts) (e : ℕ × ℕ) → IsSound p → e.1 < length p.nodes →
    q.nodes ≡ p.nodes → q.classes ≡ p.classes → q.forbidden.items ≡ p.forbidden.items → q.sides
    ≡ p.sides →
    q.numerals.items ≡ p.numerals.items → q.uses ≡ p.uses → q.table ≡ p.table ++ (e ∷ [])
    → q.steps.items ≡ p.steps.items → q.whole ≡ p.whole →
    (IsTrue p.whole → IsWhole p.nodes p.classes.merges (p.table ++ (e ∷ []))) → IsSound q
sound_entered p q e is low nodes classes forbidden sides numerals uses table steps whole kept
    = record {
      graph = rw (nodes, classes, forbidden) is.graph;
      as_many = rw (nodes, classes) is.as_many;
      sided = rw (sides, classes, forbidden) is.sided;
      numbered = rw (nodes, classes, numerals) is.numbered;
      used = rw (uses, nodes) is.used;
      low = rw (table, nodes) (All-push (λ (x : ℕ × ℕ). x.1 < length p.nodes) p.table e is.low low);
      tabled = rw (whole, nodes, classes, table) kept;
      stepped = rw (nodes, classes, table, steps)
          (subst (λ ns. AreSteps ns p.classes.merges (p.table ++ (e ∷ [])) p.steps.items)
          (append-nil p.nodes)
          (subst (λ ms. AreSteps (p.nodes ++ []) ms (p.table ++ (e ∷ [])) p.steps.items)
          (append-nil p.classes.merges)
          (AreSteps-more p.nodes [] p.classes.merges [] p.table (e ∷ []) p.steps.items
          is.stepped)));
    }

-- each node has a match, or none is known to have one
pub sound_whole : (p q : Parts) → IsSound p → q.nodes ≡ p.nodes → q.classes ≡ p.classes
    → q.forbidden.items ≡ p.forbidden.items → q.sides ≡ p.sides →
    q.numerals.items ≡ p.numerals.items → q.uses ≡ p.uses → q.table ≡ p.table → q.steps.items
    ≡ p.steps.items →
    (IsTrue q.whole → IsWhole p.nodes p.classes.merges p.table) → IsSound q
sound_whole p q is nodes classes forbidden sides numerals uses table steps whole = record {
  graph = rw (nodes, classes, forbidden) is.graph;
  as_many = rw (nodes, classes) is.as_many;
  sided = rw (sides, classes, forbidden) is.sided;
  numbered = rw (nodes, classes, numerals) is.numbered;
  used = rw (uses, nodes) is.used;
  low = rw (table, nodes) is.low;
  tabled = rw (nodes, classes, table) whole;
  stepped = rw (nodes, classes, table, steps) is.stepped;
}

-- ---- a node is made

pub members_low : (count : ℕ) (ms : List (ℕ × ℕ)) → AreMerges count ms → (k : ℕ) → k < count
    → (i : ℕ) → i < length (members_of ms k) →
    get_or (members_of ms k) i 0 < count
members_low count ms are = members_are count ms are

pub sound_made : (p q : Parts) (s : Shape) (place : ℕ) (step : Step) (entries : List (ℕ × ℕ))
    → IsSound p → AreTerms (p.nodes ++ (s ∷ [])) →
    ((nodes : List Shape) (n : ℕ) → (shape_at nodes n).top ≡ s.top → IsFirst nodes (n ∷ []) place) →
    step ≡ record {
      whole = p.whole;
      nodes = length p.nodes;
      merges = length p.classes.merges;
      table
          = length p.table;
    } →
    All (λ e. e.1 < length p.nodes + 1) entries →
    (IsTrue p.whole → IsWhole (p.nodes ++ (s ∷ [])) p.classes.merges (p.table ++ entries)) →
    q.nodes ≡ p.nodes ++ (s ∷ []) → q.classes ≡ record p.classes { count = p.classes.count + 1 }
    → q.forbidden.items ≡ p.forbidden.items → q.sides ≡ p.sides →
    q.numerals.items ≡ p.numerals.items ++ (place ∷ []) → q.uses ≡ p.uses
    ++ map (λ a. (a, length p.nodes)) s.args → q.table ≡ p.table ++ entries →
    q.steps.items ≡ p.steps.items ++ (step ∷ []) → q.whole ≡ p.whole → IsSound q
sound_made p q s place step entries is terms alone step_is low whole nodes classes forbidden sides
    numerals uses table steps kept =
    let more : length (p.nodes ++ (s ∷ [])) ≡ length p.nodes + 1 = length_push p.nodes s in
    let wider : (ps : List (ℕ × ℕ)) → All (λ x. (x.0 < length p.nodes) × (x.1 < length p.nodes)) ps
    → All (λ x. (x.0 < length (p.nodes ++ (s ∷ [])))
    × (x.1 < length (p.nodes ++ (s ∷ [])))) ps =
    All-weaker (λ (x : ℕ × ℕ). (x.0 < length p.nodes) × (x.1 < length p.nodes))
    (λ x. (x.0 < length (p.nodes ++ (s ∷ []))) × (x.1 < length (p.nodes ++ (s ∷ []))))
    (λ x h. (omega (arith, more, h.0), omega (arith, more, h.1))) in
    record {
      graph = rw (nodes, classes, forbidden) (record {
        terms = terms;
        merged = AreMerges-count (length p.nodes) (length (p.nodes ++ (s ∷ []))) p.classes.merges
            is.graph.merged (wider p.classes.merges is.graph.merged.there);
        paired = wider p.forbidden.items is.graph.paired;
      });
      as_many = rw (nodes, classes) (omega (arith, more, is.as_many));
      sided = rw (sides, classes, forbidden) is.sided;
      numbered = rw (nodes, classes, numerals) (AreNumbered-made p.nodes s p.classes.merges
          p.numerals.items place is.graph.merged
          (members_low (length p.nodes) p.classes.merges is.graph.merged) is.numbered
          (alone (p.nodes ++ (s ∷ [])) (length p.nodes)
          (ap (λ (t : Shape). t.top) (get_or_at p.nodes s [] _ (length p.nodes) refl))));
      used = rw (uses, nodes) (ap (λ us. us ++ map (λ a. (a, length p.nodes)) s.args) is.used
          ∙ sym (uses_of-more p.nodes s));
      low = rw (table, nodes) (All-append (λ (e : ℕ × ℕ). e.1 < length (p.nodes ++ (s ∷ [])))
          p.table entries
          (All-weaker (λ (e : ℕ × ℕ). e.1 < length p.nodes) (λ e. e.1
          < length (p.nodes ++ (s ∷ []))) (λ e h. omega (arith, more, h)) p.table is.low)
          (All-weaker (λ (e : ℕ × ℕ). e.1 < length p.nodes + 1) (λ e. e.1
          < length (p.nodes ++ (s ∷ []))) (λ e h. omega (arith, more, h)) entries low));
      tabled = rw (kept, nodes, classes, table) whole;
      stepped = rw (nodes, classes, table, steps)
          (subst (λ ms. AreSteps (p.nodes ++ (s ∷ [])) ms (p.table ++ entries) (p.steps.items
          ++ (step ∷ []))) (append-nil p.classes.merges)
          (AreSteps-more p.nodes (s ∷ []) p.classes.merges [] p.table entries (p.steps.items
          ++ (step ∷ []))
          (AreSteps-made p.nodes p.classes.merges p.table p.steps.items p.whole step step_is is.low
          is.tabled is.stepped)));
    }

-- ---- the last node goes, the last merge is taken back

-- the table and the steps once they are taken back
pub record IsBack (nodes : List Shape) (ms table : List (ℕ × ℕ)) (steps : List Step) (whole : Bool)
    : Type 0 where
  pub low : All (λ e. e.1 < length nodes) table
  pub tabled : IsTrue whole → IsWhole nodes ms table
  pub stepped : AreSteps nodes ms table steps

pub back_steps : (nodes : List Shape) (ms table : List (ℕ × ℕ)) (steps : List Step) (n m : ℕ)
    (table' : List (ℕ × ℕ)) (steps' : List Step) (whole : Bool) →
    n ≤ length nodes → AreSteps nodes ms table steps
    → IsTakenBack n m table steps table' steps' whole →
    IsBack (take n nodes) (take m ms) table' steps' whole
back_steps nodes ms table steps n m table' steps' whole fewer is
    (inl (step, steps_is, n_is, m_is, table_is, whole_is)) =
    let before : AreSteps nodes ms table (steps' ++ (step ∷ [])) = subst (AreSteps nodes ms table)
    steps_is is in
    let count : length (take n nodes) ≡ n = length-take-le n nodes fewer in
    record {
      low = rw (table_is, count, ← n_is) (low_back nodes ms table steps' step before);
      tabled = rw (table_is, ← n_is, ← m_is, whole_is)
          (whole_back nodes ms table steps' step before);
      stepped = rw (table_is, ← n_is, ← m_is) (AreSteps-back nodes ms table steps' step before);
    }
back_steps nodes ms table steps n m table' steps' whole fewer is
    (inr (table_is, steps_is, whole_is)) = record {
      low = rw table_is (All-nil (λ (e : ℕ × ℕ). e.1 < length (take n nodes)));
      tabled = λ w. cc (w, whole_is);
      stepped = rw steps_is (AreSteps-none (take n nodes) (take m ms) table');
    }

pub within_table : (nodes : List Shape) (ms table : List (ℕ × ℕ)) (steps : List Step)
    → AreSteps nodes ms table steps → All (λ s. s.table ≤ length table) steps
within_table nodes ms table steps is = All-weaker (IsWithin nodes ms table) (λ (s : Step). s.table
    ≤ length table) (λ s w. w.table_then) steps is.within

-- the nodes without the last one have fewer uses by its arguments
pub uses_fewer : (nodes front : List Shape) (s : Shape) (n : ℕ) → nodes ≡ front ++ (s ∷ [])
    → n + length s.args ≡ length (uses_of nodes) → take n (uses_of nodes) ≡ uses_of front
uses_fewer nodes front s n is count =
    let more : uses_of nodes ≡ uses_of front ++ map (λ a. (a, length front)) s.args = ap uses_of is
    ∙ uses_of-more front s in
    let l : length (uses_of front) ≡ n =
    omega (
      arith,
      count,
      ap length more,
      length-append (uses_of front)
          (map (λ a. (a, length front)) s.args),
      length-map {B = ℕ × ℕ} s.args
          (λ a. (a, length front)),
    ) in
    ap (take n) more ∙ take_at (uses_of front) (map (λ a. (a, length front)) s.args) n l

pub sound_back_made : (p q : Parts) (n m : ℕ) → IsSound p → CanGoBack (graph_in p) Made → n + 1
    ≡ length p.nodes → m ≡ length p.classes.merges → AreTerms q.nodes →
    q.nodes ≡ take n p.nodes → q.classes ≡ record p.classes { count = p.classes.count - 1 }
    → q.forbidden.items ≡ p.forbidden.items → q.sides ≡ p.sides →
    q.numerals.items ≡ take n p.numerals.items → q.uses ≡ uses_of q.nodes →
    IsTakenBack n m p.table p.steps.items q.table q.steps.items q.whole → IsSound q
sound_back_made p q n m is can fewer m_is terms nodes classes forbidden sides numerals uses taken =
    let count : length (take n p.nodes) ≡ n = length-take-le n p.nodes (omega (arith, fewer)) in
    let back : IsBack (take n p.nodes) (take m p.classes.merges) q.table q.steps.items q.whole =
    back_steps p.nodes p.classes.merges p.table p.steps.items n m q.table q.steps.items q.whole
    (omega (arith, fewer)) is.stepped taken in
    let all : take m p.classes.merges ≡ p.classes.merges = take_all m p.classes.merges
    (omega (arith, m_is)) in
    let there : All (λ x. (x.0 < n) × (x.1 < n)) p.classes.merges = all_back n (length p.nodes)
    fewer p.classes.merges can.1 in
    record {
      graph = rw (nodes, classes, forbidden) (record {
        terms = subst AreTerms nodes terms;
        merged = rw count (AreMerges-count (length p.nodes) n p.classes.merges
            is.graph.merged there);
        paired = rw count (all_back n (length p.nodes) fewer p.forbidden.items can.2);
      });
      as_many = rw (nodes, classes) (omega (arith, count, fewer, is.as_many));
      sided = rw (sides, classes, forbidden) is.sided;
      numbered = rw (nodes, classes, numerals) (AreNumbered-fewer p.nodes p.classes.merges
          p.numerals.items n fewer
          (members_low n p.classes.merges (AreMerges-count (length p.nodes) n p.classes.merges
          is.graph.merged there)) is.numbered);
      used = uses;
      low = rw nodes back.low;
      tabled = rw (nodes, classes) (rw all at back.tabled);
      stepped = rw (nodes, classes) (rw all at back.stepped);
    }

pub sound_back_merged : (p q : Parts) (n m : ℕ) → IsSound p → n ≡ length p.nodes → 0
    < length p.classes.merges → m ≡ length p.classes.merges - 1 →
    q.nodes ≡ p.nodes → q.classes ≡ record p.classes { merges = take m p.classes.merges }
    → q.forbidden.items ≡ p.forbidden.items →
    IsSided (take m p.classes.merges) p.forbidden.items q.sides →
    q.numerals.items ≡ p.numerals.items → q.uses ≡ p.uses →
    IsTakenBack n m p.table p.steps.items q.table q.steps.items q.whole → IsSound q
sound_back_merged p q n m is n_is some m_is nodes classes forbidden sides numerals uses taken =
    let back : IsBack (take n p.nodes) (take m p.classes.merges) q.table q.steps.items q.whole =
    back_steps p.nodes p.classes.merges p.table p.steps.items n m q.table q.steps.items q.whole
    (omega (arith, n_is)) is.stepped taken in
    let all : take n p.nodes ≡ p.nodes = take_all n p.nodes (omega (arith, n_is)) in
    let split : p.classes.merges ≡ take m p.classes.merges
    ++ (get_or p.classes.merges m (0, 0) ∷ []) =
    sym (take_all (m + 1) p.classes.merges (omega (arith, m_is, some)))
    ∙ take_more p.classes.merges m (0, 0) (omega (arith, m_is, some)) in
    record {
      graph = rw (nodes, classes, forbidden) (record {
        terms = is.graph.terms;
        merged = AreMerges-fewer (length p.nodes) m p.classes.merges is.graph.merged;
        paired = is.graph.paired;
      });
      as_many = rw (nodes, classes) is.as_many;
      sided = rw (classes, forbidden) sides;
      numbered = rw (nodes, classes, numerals) (AreNumbered-parted p.nodes (take m p.classes.merges)
          (get_or p.classes.merges m (0, 0)) p.numerals.items
          (subst (λ ms. AreNumbered p.nodes ms p.numerals.items) split is.numbered));
      used = rw (uses, nodes) is.used;
      low = rw nodes (rw all at back.low);
      tabled = rw (nodes, classes) (rw all at back.tabled);
      stepped = rw (nodes, classes) (rw all at back.stepped);
    }

-- ---- a pair is forbidden, and the last one goes

pub sound_paired : (p q : Parts) → IsSound p → All (λ x. (x.0 < length p.nodes)
    × (x.1 < length p.nodes)) q.forbidden.items →
    q.nodes ≡ p.nodes → q.classes ≡ p.classes →
    IsSided p.classes.merges q.forbidden.items q.sides →
    q.numerals.items ≡ p.numerals.items → q.uses ≡ p.uses → q.table ≡ p.table → q.steps.items
    ≡ p.steps.items → q.whole ≡ p.whole → IsSound q
sound_paired p q is paired nodes classes sides numerals uses table steps whole = record {
  graph = rw (nodes, classes) (record {
    terms = is.graph.terms;
    merged = is.graph.merged;
    paired
        = paired;
  });
  as_many = rw (nodes, classes) is.as_many;
  sided = rw classes sides;
  numbered = rw (nodes, classes, numerals) is.numbered;
  used = rw (uses, nodes) is.used;
  low = rw (table, nodes) is.low;
  tabled = rw (whole, nodes, classes, table) is.tabled;
  stepped = rw (nodes, classes, table, steps) is.stepped;
}

-- ---- no nodes

pub sound_empty : (q : Parts) → q.nodes ≡ [] → q.classes ≡ record { count = 0; merges = [] }
    → q.forbidden.items ≡ [] → IsSided [] [] q.sides →
    q.numerals.items ≡ [] → q.uses ≡ [] → q.table ≡ [] → q.steps.items ≡ [] → IsSound q
sound_empty q nodes classes forbidden sides numerals uses table steps = record {
  graph = record {
    terms = rw nodes (record {
      older = λ k l. absurd (omega (arith, l));
      bare = λ k l. absurd
          (omega (arith, l));
      once = λ j k l m e. absurd (omega (arith, l));
    });
    merged = rw (nodes, classes) (record {
      there = All-nil (λ (m : ℕ × ℕ). (m.0 < 0) × (m.1 < 0));
      apart = λ i l same. absurd (omega (arith, l));
    });
    paired = rw forbidden (All-nil (λ (x : ℕ × ℕ). (x.0 < length q.nodes)
        × (x.1 < length q.nodes)));
  };
  as_many = rw (nodes, classes) refl;
  sided = rw (classes, forbidden) sides;
  numbered = rw (nodes, classes, numerals) (record
      { as_many = refl; first = λ k l. absurd (omega (arith, l)) });
  used = rw (uses, nodes) (sym uses_of-none);
  low = rw (table, nodes) (All-nil (λ (e : ℕ × ℕ). e.1 < 0));
  tabled = rw (nodes, classes, table) (λ w n l. absurd (omega (arith, l)));
  stepped = rw (nodes, classes, table, steps) (AreSteps-none [] [] []);
}

-- ---- the table is made anew

pub sound_indexed : (p q : Parts) → IsSound p → q.nodes ≡ p.nodes → q.classes ≡ p.classes
    → q.forbidden.items ≡ p.forbidden.items →
    IsSided p.classes.merges p.forbidden.items q.sides →
    q.numerals.items ≡ p.numerals.items → q.uses ≡ p.uses → q.steps.items ≡ []
    → All (λ e. e.1 < length p.nodes) q.table →
    (IsTrue q.whole → IsWhole p.nodes p.classes.merges q.table) → IsSound q
sound_indexed p q is nodes classes forbidden sides numerals uses steps low whole = record {
  graph = rw (nodes, classes, forbidden) is.graph;
  as_many = rw (nodes, classes) is.as_many;
  sided = rw (classes, forbidden) sides;
  numbered = rw (nodes, classes, numerals) is.numbered;
  used = rw (uses, nodes) is.used;
  low = rw nodes low;
  tabled = rw (nodes, classes) whole;
  stepped = rw steps (AreSteps-none q.nodes q.classes.merges q.table);
}

-- ---- what goes with the last node

module _ (nodes : List Shape) (uses : List (ℕ × ℕ)) (n : ℕ) (used : uses ≡ uses_of nodes) (fewer : n
    + 1 ≡ length nodes) where
  last_node : nodes ≡ take n nodes ++ (shape_at nodes n ∷ [])
  last_node = sym (take_all (n + 1) nodes (omega (arith, fewer)))
      ∙ take_more nodes n _ (omega (arith, fewer))

  pub uses_fit : length (shape_at nodes n).args ≤ length uses
  uses_fit =
      omega (
        arith,
        ap length (used ∙ (ap uses_of last_node ∙ uses_of-more (take n nodes) (shape_at nodes n))),
        length-append (uses_of (take n nodes)) (map (λ a. (a, length (take n nodes)))
            (shape_at nodes n).args),
        length-map {B = ℕ × ℕ} (shape_at nodes n).args (λ a. (a, length (take n nodes))),
      )

  pub uses_back : (k : ℕ) → k ≡ length uses - length (shape_at nodes n).args
      → take k uses ≡ uses_of (take n nodes)
  uses_back k k_is =
      ap (take k) used ∙ uses_fewer nodes (take n nodes) (shape_at nodes n) k last_node
      (omega (arith, k_is, uses_fit, ap length used))

-- a node is made, and goes into the class of another
pub whole_appended : (old mid p : Parts) (s : Shape) (n other : ℕ) → IsSound old → IsTrue old.whole
    → IsSound mid → mid.whole ≡ old.whole →
    graph_in mid ≡ record (graph_in old) { nodes = old.nodes ++ (s ∷ []) } →
    graph_in p ≡ record (graph_in mid) { merges = mid.classes.merges ++ ((n, other) ∷ []) }
    → p.table ≡ mid.table → n ≡ length old.nodes →
    IsWhole p.nodes p.classes.merges p.table
whole_appended old mid p s n other old_is was mid_is kept made merged table n_is =
    let nodes : p.nodes ≡ mid.nodes = ap (λ (h : Graph). h.nodes) merged in
    let merges : p.classes.merges ≡ mid.classes.merges
    ++ ((n, other) ∷ []) = ap (λ (h : Graph). h.merges) merged in
    let more : length mid.nodes ≡ length old.nodes + 1 = ap (λ (h : Graph). length h.nodes) made
    ∙ length_push old.nodes s in
    let first : AreMerges n mid.classes.merges =
    subst (λ k. AreMerges k mid.classes.merges) (sym n_is)
    (subst (AreMerges (length old.nodes)) (sym (ap (λ (h : Graph). h.merges) made))
    old_is.graph.merged) in
    rw (nodes, merges, table)
    (whole_joined mid.nodes mid_is.graph.terms mid.classes.merges n other mid.table first
    (omega (arith, n_is, more)) (mid_is.tabled (kept ∙ was)))

-- the graph with the node in the class of the other
pub graph_appended : (old mid p : Parts) (s : Shape) (m : ℕ × ℕ) → graph_in mid
    ≡ record (graph_in old) { nodes = old.nodes ++ (s ∷ []) } →
    graph_in p ≡ record (graph_in mid) { merges = mid.classes.merges ++ (m ∷ []) } →
    graph_in p ≡ record (graph_in old) {
      nodes = old.nodes ++ (s ∷ []);
      merges = old.classes.merges
          ++ (m ∷ []);
    }
graph_appended old mid p s m made merged = merged ∙ ap
    (λ (h : Graph). record h { merges = h.merges ++ (m ∷ []) }) made

-- a node that was made is taken away
pub graph_back_made : (old mid q : Parts) (s : Shape) → graph_in mid
    ≡ record (graph_in old) { nodes = old.nodes ++ (s ∷ []) } →
    graph_in q ≡ graph_back (graph_in mid) Made → graph_in q ≡ graph_in old
graph_back_made old mid q s made back =
    back ∙ (ap (λ (h : Graph). graph_back h Made) made
    ∙ ap (λ ns. record (graph_in old) { nodes = ns }) (take-append_last old.nodes s))
