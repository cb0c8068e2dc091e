-- The shapes of entries, where arguments come and go at the end.
use Rattle.std.proofs.Common.{◌≡◌, ℕ, zero, suc, ◌+◌, ◌-◌, ◌<◌, ◌≤◌, List, [], ◌∷◌, ◌++◌, length, get_or, take, drop, map, All, refl, ap, sym, subst, ◌∙◌, arith, slice_range}
use Rattle.std.proofs.lemmas.List.{drop-append-le, drop-take, drop_at, get_or_append_left, get_or_at, length-append, length-drop, length-map, length-take-le, length_push, map-append, take-append-le, take-take, take_all, take_at}
use Rattle.std.proofs.lemmas.List.Elements.{All-weaker, All-push}
use Rattle.std.proofs.lemmas.List.Quantifiers.{all_pairs_push}
use Rattle.esc_nodes.specs.NodesInside.{AreSpans, shape_in}
use Rattle.esc_nodes.specs.declared.nodes.Entry.{Entry}
use Rattle.esc_union.proofs.Ends.{All-front, All-last}

-- the places before those that come
range-more : (args more : List ℕ) (s e : ℕ) → (s ≤ e) × (e ≤ length args)
    → slice_range (args ++ more) s e ≡ slice_range args s e
range-more args more s e l =
    ap (take (e - s)) (drop-append-le s args more (omega (arith, l.0, l.1)))
    ∙ take-append-le (e - s) (drop s args) more (omega (arith, l.1, length-drop s args))

-- the places before those that go
range-fewer : (args : List ℕ) (n s e : ℕ) → s ≤ e → e ≤ n
    → slice_range (take n args) s e ≡ slice_range args s e
range-fewer args n s e l within =
    let split : n ≡ s + (n - s) = omega (arith, l, within) in
    ap (λ k. take (e - s) (drop s (take k args))) split
    ∙ (ap (take (e - s)) (drop-take s (n - s) args)
    ∙ take-take (e - s) (n - s) (drop s args) (omega (arith, within)))

-- the places of those that come
range-own : (args more : List ℕ) (s e : ℕ) → s ≡ length args → e ≡ length args + length more
    → slice_range (args ++ more) s e ≡ more
range-own args more s e s_is e_is =
    ap (take (e - s)) (drop_at args more s (sym s_is))
    ∙ take_all (e - s) more (omega (arith, s_is, e_is))

shapes-same : (args others : List ℕ) (es : List Entry)
    → All (λ e. slice_range args e.start e.end ≡ slice_range others e.start e.end) es
    → map (shape_in args) es ≡ map (shape_in others) es
shapes-same args others [] same = refl
shapes-same args others (e ∷ es) same =
    ap (λ xs. record { top = e.top; args = xs } ∷ map (shape_in args) es) (same zero e
    (omega arith))
    ∙ ap (λ ss. shape_in others e ∷ ss) (shapes-same args others es (λ i d l. same (suc i) d
    (omega (arith, l))))

pub AreSpans-none : (args : List ℕ) → AreSpans args []
AreSpans-none args = record {
  within = λ i d l. absurd (omega (arith, l));
  in_order = λ i j d ij jl. absurd (omega (arith, jl));
}

-- ---- a node comes

module _ (args more : List ℕ) (es : List Entry) (spans : AreSpans args es) (e : Entry)
    (start : e.start ≡ length args) (end : e.end ≡ length args + length more) where
  pub shapes-push : map (shape_in (args ++ more)) (es ++ (e ∷ []))
      ≡ map (shape_in args) es ++ (record { top = e.top; args = more } ∷ [])
  shapes-push =
      map-append (shape_in (args ++ more)) es (e ∷ [])
      ∙ (ap (λ ss. ss ++ (shape_in (args ++ more) e ∷ [])) (shapes-same (args ++ more) args es
      (All-weaker (λ (f : Entry). (f.start ≤ f.end) × (f.end ≤ length args))
      (λ f. slice_range (args ++ more) f.start f.end ≡ slice_range args f.start f.end)
      (λ f l. range-more args more f.start f.end l) es spans.within))
      ∙ ap (λ xs. map (shape_in args) es ++ (record { top = e.top; args = xs } ∷ []))
      (range-own args more e.start e.end start end))

  pub AreSpans-push : AreSpans (args ++ more) (es ++ (e ∷ []))
  AreSpans-push = record {
    within = All-push (λ (f : Entry). (f.start ≤ f.end) × (f.end ≤ length (args ++ more))) es e
        (All-weaker (λ (f : Entry). (f.start ≤ f.end) × (f.end ≤ length args))
        (λ f. (f.start ≤ f.end) × (f.end ≤ length (args ++ more)))
        (λ f l. (l.0, omega (arith, l.1, length-append args more))) es spans.within)
        (omega (arith, start, end), omega (arith, end, length-append args more));
    in_order = all_pairs_push (λ (f g : Entry). f.end ≤ g.start) es e spans.in_order
        (λ k d l. omega (arith, start, (spans.within k d l).1));
  }

-- ---- the last node goes

module _ (args : List ℕ) (es : List Entry) (e : Entry)
    (spans : AreSpans args (es ++ (e ∷ []))) where
  last : (e.start ≤ e.end) × (e.end ≤ length args)
  last = All-last (λ (f : Entry). (f.start ≤ f.end) × (f.end ≤ length args)) es e spans.within

  front : All (λ (f : Entry). (f.start ≤ f.end) × (f.end ≤ length args)) es
  front = All-front (λ (f : Entry). (f.start ≤ f.end) × (f.end ≤ length args)) es e spans.within

  before : (k : ℕ) (d : Entry) → k < length es → (get_or es k d).end ≤ e.start
  before k d l =
      subst (λ (f : Entry). (get_or es k d).end ≤ f.start) (get_or_at es e [] d (length es) refl)
      (subst (λ (f : Entry). f.end ≤ (get_or (es ++ (e ∷ [])) (length es) d).start)
      (get_or_append_left es (e ∷ []) d k l)
      (spans.in_order k (length es) d l (omega (arith, length_push es e))))

  pub shapes-pop : map (shape_in (take e.start args)) es
      ≡ take (length (map (shape_in args) (es ++ (e ∷ []))) - 1)
      (map (shape_in args) (es ++ (e ∷ [])))
  shapes-pop =
      let count : length (map (shape_in args) es)
      ≡ length (map (shape_in args) (es ++ (e ∷ []))) - 1 =
      omega (
        arith,
        length-map es (shape_in args),
        length-map (es ++ (e ∷ [])) (shape_in args),
        length_push es e,
      ) in
      shapes-same (take e.start args) args es
      (λ k d l. range-fewer args e.start (get_or es k d).start (get_or es k d).end
      (front k d l).0 (before k d l))
      ∙ sym (ap (take (length (map (shape_in args) (es ++ (e ∷ []))) - 1))
      (map-append (shape_in args) es (e ∷ []))
      ∙ take_at (map (shape_in args) es) (shape_in args e ∷ [])
      (length (map (shape_in args) (es ++ (e ∷ []))) - 1) count)

  pub AreSpans-pop : AreSpans (take e.start args) es
  AreSpans-pop =
      let count : length (take e.start args) ≡ e.start = length-take-le e.start args
      (omega (arith, last.0, last.1)) in
      record {
        within = λ k d l. ((front k d l).0, omega (arith, count, before k d l));
        in_order = λ i j d ij jl.
            subst (λ (f : Entry). f.end ≤ (get_or es j d).start)
            (get_or_append_left es (e ∷ []) d i (omega (arith, ij, jl)))
            (subst (λ (f : Entry). (get_or (es ++ (e ∷ [])) i d).end ≤ f.start)
            (get_or_append_left es (e ∷ []) d j jl)
            (spans.in_order i j d ij (omega (arith, jl, length_push es e))));
      }
