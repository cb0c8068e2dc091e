-- The steps of forbidden pairs, where there is more and where it is taken back.
use Rattle.std.proofs.Common.{◌≡◌, ℕ, ◌<◌, ◌≤◌, List, [], ◌∷◌, ◌++◌, false, IsTrue, length, take, get_or, All, refl, sym, subst, arith}
use Rattle.std.proofs.lemmas.List.{append-nil, append_assoc, get_or_append_left, get_or_at, length-append, length_push, length-take-le, take-append-le, take-take, take_all, take_at}
use Rattle.std.proofs.lemmas.List.Elements.{All-weaker, All-push}
use Rattle.std.proofs.lemmas.List.Quantifiers.{all_pairs_push}
use Rattle.esc_union.specs.Merges.{SameClass, AreMerges, class_number}
use Rattle.esc_union.proofs.Ends.{All-front, All-last}
use Rattle.esc_union.proofs.Members.{IsTold, are_told}
use Rattle.esc_egraph.specs.SidesInside.{AreAddedUnder, AreByClass, ArePairSteps, IsCopied, IsHeldThen, IsSided, IsSooner, sides_of}
use Rattle.esc_egraph.specs.declared.pairs.PairStep.{PairStep}
use Rattle.esc_egraph.specs.declared.pairs.Sides.{Sides}
use Rattle.esc_egraph.proofs.ByClass.{AreByClass-merged, AreByClass-none, AreByClass-side}
use Rattle.esc_egraph.proofs.Sides.{sides_of-more, sides_of-none}

pub ArePairSteps-none : (ms ps entries : List (ℕ × ℕ)) → ArePairSteps ms ps entries []
ArePairSteps-none ms ps entries = record {
  within = λ k d l. absurd (omega (arith, l));
  in_order = λ i j d ij jl. absurd (omega (arith, jl));
}

-- what was held then, by equations on what there was
held_at : (m m' p p' e e' : List (ℕ × ℕ)) → m ≡ m' → p ≡ p' → e ≡ e'
    → AreByClass m (sides_of p) e → AreByClass m' (sides_of p') e'
held_at m m' p p' e e' em ep ee h =
    subst (λ x. AreByClass m' (sides_of p') x) ee (subst (λ x. AreByClass m' (sides_of x) e) ep
    (subst (λ x. AreByClass x (sides_of p) e) em h))

held_more : (ms more ps qs entries es : List (ℕ × ℕ)) (s : PairStep)
    → IsHeldThen ms ps entries s → IsHeldThen (ms ++ more) (ps ++ qs) (entries ++ es) s
held_more ms more ps qs entries es s is = record {
  merges_then = omega (arith, is.merges_then, length-append ms more);
  pairs_then = omega (arith, is.pairs_then, length-append ps qs);
  entries_then = omega (arith, is.entries_then, length-append entries es);
  held_then = held_at _ _ _ _ _ _
      (sym (take-append-le s.merges ms more is.merges_then))
      (sym (take-append-le s.pairs ps qs is.pairs_then))
      (sym (take-append-le s.entries entries es is.entries_then))
      is.held_then;
}

-- there are more merges, pairs or entries
pub ArePairSteps-more : (ms more ps qs entries es : List (ℕ × ℕ)) (steps : List PairStep)
    → ArePairSteps ms ps entries steps →
    ArePairSteps (ms ++ more) (ps ++ qs) (entries ++ es) steps
ArePairSteps-more ms more ps qs entries es steps is = record {
  within = All-weaker (IsHeldThen ms ps entries)
      (IsHeldThen (ms ++ more) (ps ++ qs) (entries ++ es))
      (held_more ms more ps qs entries es) steps is.within;
  in_order = is.in_order;
}

-- a step is made from what there is
pub ArePairSteps-made : (ms ps entries : List (ℕ × ℕ)) (steps : List PairStep) (s : PairStep) →
    s ≡ record { merges = length ms; pairs = length ps; entries = length entries } →
    AreByClass ms (sides_of ps) entries → ArePairSteps ms ps entries steps →
    ArePairSteps ms ps entries (steps ++ (s ∷ []))
ArePairSteps-made ms ps entries steps s e held is =
    rw e (record {
      within = All-push (IsHeldThen ms ps entries) steps
          (record { merges = length ms; pairs = length ps; entries = length entries })
          is.within (record {
            merges_then = omega arith;
            pairs_then = omega arith;
            entries_then = omega arith;
            held_then = held_at _ _ _ _ _ _
                (sym (take_all (length ms) ms (omega arith)))
                (sym (take_all (length ps) ps (omega arith)))
                (sym (take_all (length entries) entries (omega arith))) held;
          });
      in_order = all_pairs_push IsSooner steps
          (record { merges = length ms; pairs = length ps; entries = length entries })
          is.in_order
          (λ k d l. record {
            fewer_merges = (is.within k d l).merges_then;
            fewer_pairs = (is.within k d l).pairs_then;
            fewer_entries = (is.within k d l).entries_then;
          });
    })

module _ (ms ps entries : List (ℕ × ℕ)) (steps : List PairStep) (s : PairStep)
    (is : ArePairSteps ms ps entries (steps ++ (s ∷ []))) where
  last_step : IsHeldThen ms ps entries s
  last_step = All-last (IsHeldThen ms ps entries) steps s is.within

  sooner : (k : ℕ) (d : PairStep) → k < length steps → IsSooner (get_or steps k d) s
  sooner k d l =
      subst (λ t. IsSooner (get_or steps k d) t) (get_or_at steps s [] d (length steps) refl)
      (subst (λ t. IsSooner t (get_or (steps ++ (s ∷ [])) (length steps) d))
      (get_or_append_left steps (s ∷ []) d k l)
      (is.in_order k (length steps) d l (omega (arith, length_push steps s))))

  held_less : (t : PairStep) → IsSooner t s → IsHeldThen ms ps entries t
      → IsHeldThen (take s.merges ms) (take s.pairs ps) (take s.entries entries) t
  held_less t before w = record {
    merges_then = omega (
      arith,
      before.fewer_merges,
      length-take-le s.merges ms last_step.merges_then,
    );
    pairs_then = omega (
      arith,
      before.fewer_pairs,
      length-take-le s.pairs ps last_step.pairs_then,
    );
    entries_then = omega (
      arith,
      before.fewer_entries,
      length-take-le s.entries entries last_step.entries_then,
    );
    held_then = held_at _ _ _ _ _ _
        (sym (take-take t.merges s.merges ms before.fewer_merges))
        (sym (take-take t.pairs s.pairs ps before.fewer_pairs))
        (sym (take-take t.entries s.entries entries before.fewer_entries)) w.held_then;
  }

  pub ArePairSteps-back : ArePairSteps (take s.merges ms) (take s.pairs ps) (take s.entries entries)
      steps
  ArePairSteps-back = record {
    within = λ k d l. held_less (get_or steps k d) (sooner k d l)
        (All-front (IsHeldThen ms ps entries) steps s is.within k d l);
    in_order = λ i j d ij jl.
        subst (λ t. IsSooner t (get_or steps j d))
        (get_or_append_left steps (s ∷ []) d i (omega (arith, ij, jl)))
        (subst (λ t. IsSooner (get_or (steps ++ (s ∷ [])) i d) t)
        (get_or_append_left steps (s ∷ []) d j jl)
        (is.in_order i j d ij (omega (arith, jl, length_push steps s))));
  }

  pub held_back : AreByClass (take s.merges ms) (sides_of (take s.pairs ps))
      (take s.entries entries)
  held_back = last_step.held_then

-- ---- all of it

pub sided_none : (q : Sides) → q.entries ≡ [] → q.steps.items ≡ [] → IsSided [] [] q
sided_none q entries steps = record {
  held = λ w. rw (entries, sides_of-none) (AreByClass-none []);
  stepped = rw steps (ArePairSteps-none [] [] q.entries);
}

-- nothing is known
pub sided_lost : (ms ps : List (ℕ × ℕ)) (q : Sides) → q.steps.items ≡ [] → q.whole ≡ false
    → IsSided ms ps q
sided_lost ms ps q steps whole = record {
  held = λ w. cc (w, whole);
  stepped = rw steps (ArePairSteps-none ms ps q.entries);
}

-- the sides are entered anew
pub sided_entered : (ms ps : List (ℕ × ℕ)) (q : Sides) → AreByClass ms (sides_of ps) q.entries
    → q.steps.items ≡ [] → IsSided ms ps q
sided_entered ms ps q held steps = record {
  held = λ w. held;
  stepped = rw steps (ArePairSteps-none ms ps q.entries);
}

-- both sides of a pair
pub held_paired : (count : ℕ) (ms ps entries : List (ℕ × ℕ)) (a b : ℕ) → AreMerges count ms
    → a < count → b < count → AreByClass ms (sides_of ps) entries →
    AreByClass ms (sides_of (ps ++ ((a, b) ∷ [])))
    (entries ++ ((class_number ms a, b) ∷ ((class_number ms b, a) ∷ [])))
held_paired count ms ps entries a b are al bl is =
    let told : IsTold count ms = are_told count ms are in
    subst (λ ss. AreByClass ms ss (entries ++ ((class_number ms a, b)
    ∷ ((class_number ms b, a) ∷ [])))) (sym (sides_of-more ps (a, b)))
    (subst (λ ss. AreByClass ms ss (entries ++ ((class_number ms a, b)
    ∷ ((class_number ms b, a) ∷ [])))) (append_assoc (sides_of ps) ((a, b) ∷ []) ((b, a) ∷ []))
    (subst (λ es. AreByClass ms ((sides_of ps ++ ((a, b) ∷ [])) ++ ((b, a) ∷ [])) es)
    (append_assoc entries ((class_number ms a, b) ∷ []) ((class_number ms b, a) ∷ []))
    (AreByClass-side ms (sides_of ps ++ ((a, b) ∷ [])) (entries ++ ((class_number ms a, b) ∷ []))
    (b, a) (class_number ms b) (told.still b bl) refl
    (AreByClass-side ms (sides_of ps) entries (a, b) (class_number ms a) (told.still a al)
    refl is))))

pub sided_paired : (count : ℕ) (ms ps : List (ℕ × ℕ)) (p q : Sides) (a b : ℕ) (s : PairStep)
    → AreMerges count ms → a < count → b < count → IsSided ms ps p → IsTrue p.whole →
    s ≡ record { merges = length ms; pairs = length ps; entries = length p.entries } →
    q.entries ≡ p.entries ++ ((class_number ms a, b) ∷ ((class_number ms b, a) ∷ [])) →
    q.steps.items ≡ p.steps.items ++ (s ∷ []) → IsSided ms (ps ++ ((a, b) ∷ [])) q
sided_paired count ms ps p q a b s are al bl is whole s_is entries steps = record {
  held = λ w. rw entries (held_paired count ms ps p.entries a b are al bl (is.held whole));
  stepped = rw (entries, steps)
      (subst (λ xs. ArePairSteps xs (ps ++ ((a, b) ∷ [])) (p.entries ++ ((class_number ms a, b)
      ∷ ((class_number ms b, a) ∷ []))) (p.steps.items ++ (s ∷ []))) (append-nil ms)
      (ArePairSteps-more ms [] ps ((a, b) ∷ []) p.entries ((class_number ms a, b)
      ∷ ((class_number ms b, a) ∷ [])) (p.steps.items ++ (s ∷ []))
      (ArePairSteps-made ms ps p.entries p.steps.items s s_is (is.held whole) is.stepped)));
}

pub sided_merged : (count : ℕ) (ms ps : List (ℕ × ℕ)) (p q : Sides) (m : ℕ × ℕ) (s : PairStep)
    (small large : ℕ) → AreMerges count ms → m.0 < count → m.1 < count →
    (SameClass (class_number ms) m.0 m.1 → ⊥) → IsSided ms ps p → IsTrue p.whole →
    s ≡ record { merges = length ms; pairs = length ps; entries = length p.entries } →
    small ≡ class_number ms m.0 → large ≡ class_number ms m.1 →
    IsCopied p.entries small large q.entries →
    q.steps.items ≡ p.steps.items ++ (s ∷ []) → IsSided (ms ++ (m ∷ [])) ps q
sided_merged count ms ps p q m s small large are there there_too apart is whole s_is small_is
    large_is copied steps = record {
      held = λ w. rw copied.1
          (AreByClass-merged count ms m (sides_of ps) p.entries copied.0
          (are_told count ms are) there there_too apart (is.held whole)
          (subst (λ x. AreAddedUnder p.entries (class_number ms m.0) x copied.0) large_is
          (subst (λ x. AreAddedUnder p.entries x large copied.0) small_is copied.2)));
      stepped = rw (copied.1, steps)
          (subst (λ xs. ArePairSteps (ms ++ (m ∷ [])) xs (p.entries ++ copied.0)
          (p.steps.items ++ (s ∷ []))) (append-nil ps)
          (ArePairSteps-more ms (m ∷ []) ps [] p.entries copied.0 (p.steps.items ++ (s ∷ []))
          (ArePairSteps-made ms ps p.entries p.steps.items s s_is (is.held whole) is.stepped)));
    }

-- the last step is taken back
pub sided_back : (ms ps : List (ℕ × ℕ)) (p q : Sides) (n k : ℕ) (s : PairStep) → IsSided ms ps p
    → p.steps.items ≡ q.steps.items ++ (s ∷ []) → s.merges ≡ n → s.pairs ≡ k →
    q.entries ≡ take s.entries p.entries → IsSided (take n ms) (take k ps) q
sided_back ms ps p q n k s is steps n_is k_is entries =
    let before : ArePairSteps ms ps p.entries (q.steps.items ++ (s ∷ [])) =
    subst (ArePairSteps ms ps p.entries) steps is.stepped in
    record {
      held = λ w. rw (entries, ← n_is, ← k_is) (held_back ms ps p.entries q.steps.items s before);
      stepped = rw (entries, ← n_is, ← k_is)
          (ArePairSteps-back ms ps p.entries q.steps.items s before);
    }

pub within_entries : (ms ps : List (ℕ × ℕ)) (p : Sides) → IsSided ms ps p
    → All (λ s. s.entries ≤ length p.entries) p.steps.items
within_entries ms ps p is = All-weaker (IsHeldThen ms ps p.entries) (λ (s : PairStep). s.entries
    ≤ length p.entries) (λ s w. w.entries_then) p.steps.items is.stepped.within

-- a merge that was not made is taken back
pub sided_undone : (ms ps : List (ℕ × ℕ)) (m : ℕ × ℕ) (q : Sides) (n k : ℕ) → n ≡ length ms → k
    ≡ length ps → IsSided (take n (ms ++ (m ∷ []))) (take k ps) q → IsSided ms ps q
sided_undone ms ps m q n k n_is k_is is =
    subst (λ xs. IsSided ms xs q) (take_all k ps (omega (arith, k_is)))
    (subst (λ xs. IsSided xs (take k ps) q) (take_at ms (m ∷ []) n (sym n_is)) is)
