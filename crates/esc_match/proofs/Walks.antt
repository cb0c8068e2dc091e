-- Loops over lists whose rest gives what the whole gives.
use Rattle.std.proofs.Common.{◌≡◌, ℕ, zero, suc, ◌+◌, ◌-◌, ◌<◌, ◌≤◌}
use Rattle.std.proofs.Common.{if◌then◌else◌, List, [], ◌∷◌, ◌++◌, length, get_or, drop, refl}
use Rattle.std.proofs.Common.{ap, sym, ◌∙◌, arith}
use Rattle.std.specs.Prelude.{Option, Some, None}
use Rattle.std.specs.List.{flat_map}
use Rattle.std.proofs.lemmas.List.{append_assoc, append-nil, drop_more, drop_all}
use Rattle.std.proofs.lemmas.Bool.{eq-eqb, ne_eqb}
use Rattle.esc_term.specs.declared.term.Term.{Term}
use Rattle.esc_egraph.specs.Graph.{Graph}
use Rattle.esc_match.specs.declared.way.Binding.{Binding}
use Rattle.esc_match.specs.declared.way.Way.{Way}
use Rattle.esc_match.specs.WaysInside.{class_bound, grown, grown_anywhere, grown_by_all}
use Rattle.esc_match.specs.WaysInside.{grown_by_parts, trigger_ways}
use Rattle.esc_match.specs.SubstitutionsInside.{nodes_for, or_zero}

-- what stands at a place comes first of the rest
dropped : {X : Type 0} (xs : List X) (i : ℕ) (x : X) → i < length xs → x ≡ get_or xs i x
    → drop i xs ≡ x ∷ drop (i + 1) xs
dropped xs i x l is = drop_more xs i x l ∙ ap (λ y. y ∷ drop (i + 1) xs) (sym is)

-- ---- a trigger

trigger_ways-cons : (g : Graph) (t : Term) (ts : List Term) (ws : List Way)
    → trigger_ways g (t ∷ ts) ws ≡ trigger_ways g ts (grown_anywhere g t ws)
unfolding trigger_ways
trigger_ways-cons g t ts ws = refl

trigger_ways-nil : (g : Graph) (ws : List Way) → trigger_ways g [] ws ≡ ws
unfolding trigger_ways
trigger_ways-nil g ws = refl

pub ways_step : (g : Graph) (ts : List Term) (i : ℕ) (t : Term) (ws more r : List Way)
    → i < length ts → t ≡ get_or ts i t → more ≡ grown_anywhere g t ws
    → trigger_ways g (drop i ts) ws ≡ r → trigger_ways g (drop (i + 1) ts) more ≡ r
ways_step g ts i t ws more r l is grows before =
    ap (trigger_ways g (drop (i + 1) ts)) grows
    ∙ (sym (trigger_ways-cons g t (drop (i + 1) ts) ws)
    ∙ (ap (λ us. trigger_ways g us ws) (sym (dropped ts i t l is)) ∙ before))

pub ways_done : (g : Graph) (ts : List Term) (i : ℕ) (ws start : List Way) → length ts ≤ i
    → trigger_ways g (drop i ts) ws ≡ trigger_ways g ts start → ws ≡ trigger_ways g ts start
ways_done g ts i ws start l before =
    sym (trigger_ways-nil g ws)
    ∙ (ap (λ us. trigger_ways g us ws) (sym (drop_all i ts l)) ∙ before)

pub ruleset trigger_walk = (ways_step, ways_done)

-- ---- terms with nodes, place by place

all-cons : (g : Graph) (t : Term) (ts : List Term) (n : ℕ) (ns : List ℕ) (ws : List Way)
    → grown_by_all g (t ∷ ts) (n ∷ ns) ws ≡ grown_by_all g ts ns (flat_map (grown g t n) ws)
unfolding grown_by_parts
all-cons g t ts n ns ws = refl

all-nil : (g : Graph) (ws : List Way) → grown_by_all g [] [] ws ≡ ws
unfolding grown_by_parts
all-nil g ws = refl

pub all_step : (g : Graph) (ts : List Term) (ns : List ℕ) (i : ℕ) (t : Term) (n : ℕ)
    (ws more r : List Way) → i < length ts → length ts ≡ length ns → t ≡ get_or ts i t
    → n ≡ get_or ns i n → more ≡ flat_map (grown g t n) ws
    → grown_by_all g (drop i ts) (drop i ns) ws ≡ r
    → grown_by_all g (drop (i + 1) ts) (drop (i + 1) ns) more ≡ r
all_step g ts ns i t n ws more r l same is at grows before =
    ap (grown_by_all g (drop (i + 1) ts) (drop (i + 1) ns)) grows
    ∙ (sym (all-cons g t (drop (i + 1) ts) n (drop (i + 1) ns) ws)
    ∙ (ap (λ us. grown_by_all g us (n ∷ drop (i + 1) ns) ws) (sym (dropped ts i t l is))
    ∙ (ap (λ ms. grown_by_all g (drop i ts) ms ws)
    (sym (dropped ns i n (omega (arith, l, same)) at)) ∙ before)))

pub all_done : (g : Graph) (ts : List Term) (ns : List ℕ) (i : ℕ) (ws start : List Way)
    → length ts ≤ i → length ts ≡ length ns
    → grown_by_all g (drop i ts) (drop i ns) ws ≡ grown_by_all g ts ns start
    → ws ≡ grown_by_all g ts ns start
all_done g ts ns i ws start l same before =
    sym (all-nil g ws)
    ∙ (ap (λ us. grown_by_all g us [] ws) (sym (drop_all i ts l))
    ∙ (ap (λ ms. grown_by_all g (drop i ts) ms ws) (sym (drop_all i ns (omega (arith, l, same))))
    ∙ before))

pub all_uneven : (g : Graph) (ts : List Term) (ns : List ℕ) (ws : List Way)
    → (length ts ≡ length ns → ⊥) → [] ≡ grown_by_all g ts ns ws
unfolding grown_by_parts
all_uneven g [] [] ws apart = absurd (apart refl)
all_uneven g [] (n ∷ ns) ws apart = refl
all_uneven g (t ∷ ts) [] ws apart = refl
all_uneven g (t ∷ ts) (n ∷ ns) ws apart =
    all_uneven g ts ns (flat_map (grown g t n) ws) (λ e. apart (ap suc e))

pub ruleset places_walk = (all_step, all_done, all_uneven)

-- ---- what is bound

bound-same : (b : Binding) (bs : List Binding) (k : ℕ) → b.variable ≡ k
    → class_bound (b ∷ bs) k ≡ Some b.class
unfolding class_bound
bound-same b bs k e =
    ap (λ c. if c then Some b.class else class_bound bs k) (eq-eqb b.variable k e)

bound-other : (b : Binding) (bs : List Binding) (k : ℕ) → (b.variable ≡ k → ⊥)
    → class_bound (b ∷ bs) k ≡ class_bound bs k
unfolding class_bound
bound-other b bs k ne =
    ap (λ c. if c then Some b.class else class_bound bs k) (ne_eqb b.variable k ne)

bound-nil : (k : ℕ) → class_bound [] k ≡ None
unfolding class_bound
bound-nil k = refl

pub bound_step : (bs : List Binding) (i k : ℕ) (b : Binding) (r : Option ℕ) → i < length bs
    → b ≡ get_or bs i b → (b.variable ≡ k → ⊥) → class_bound (drop i bs) k ≡ r
    → class_bound (drop (i + 1) bs) k ≡ r
bound_step bs i k b r l is ne before =
    sym (bound-other b (drop (i + 1) bs) k ne)
    ∙ (ap (λ cs. class_bound cs k) (sym (dropped bs i b l is)) ∙ before)

pub bound_found : (bs : List Binding) (i k : ℕ) (b : Binding) → i < length bs
    → b ≡ get_or bs i b → b.variable ≡ k → class_bound (drop i bs) k ≡ class_bound bs k
    → Some b.class ≡ class_bound bs k
bound_found bs i k b l is e before =
    sym (bound-same b (drop (i + 1) bs) k e)
    ∙ (ap (λ cs. class_bound cs k) (sym (dropped bs i b l is)) ∙ before)

pub bound_none : (bs : List Binding) (i k : ℕ) → length bs ≤ i
    → class_bound (drop i bs) k ≡ class_bound bs k → None ≡ class_bound bs k
bound_none bs i k l before =
    sym (bound-nil k) ∙ (ap (λ cs. class_bound cs k) (sym (drop_all i bs l)) ∙ before)

pub ruleset bound_walk = (bound_step, bound_found, bound_none)

-- ---- the numbers of classes

nodes_for-suc : (k : ℕ) (bs : List Binding)
    → nodes_for (suc k) bs ≡ or_zero (class_bound bs k) ∷ nodes_for k bs
unfolding nodes_for
nodes_for-suc k bs = refl

pub nodes_step : (bs : List Binding) (k : ℕ) (c : ℕ) (seen r : List ℕ) → 0 < k
    → c ≡ or_zero (class_bound bs (k - 1)) → seen ++ nodes_for k bs ≡ r
    → (seen ++ c ∷ []) ++ nodes_for (k - 1) bs ≡ r
nodes_step bs zero c seen r l is before = absurd (omega (arith, l))
nodes_step bs (suc k) c seen r l is before =
    let back : suc k - 1 ≡ k = omega arith in
    ap (λ j. (seen ++ c ∷ []) ++ nodes_for j bs) back
    ∙ (append_assoc seen (c ∷ []) (nodes_for k bs)
    ∙ (ap (λ d. seen ++ d ∷ nodes_for k bs) (is ∙ ap (λ j. or_zero (class_bound bs j)) back)
    ∙ (ap (λ ns. seen ++ ns) (sym (nodes_for-suc k bs)) ∙ before)))

nodes_for-zero : (bs : List Binding) → nodes_for zero bs ≡ []
unfolding nodes_for
nodes_for-zero bs = refl

pub nodes_done : (bs : List Binding) (k count : ℕ) (seen : List ℕ) → k ≤ 0
    → seen ++ nodes_for k bs ≡ nodes_for count bs → seen ≡ nodes_for count bs
nodes_done bs zero count seen l before =
    sym (append-nil seen) ∙ (ap (λ ns. seen ++ ns) (sym (nodes_for-zero bs)) ∙ before)
nodes_done bs (suc k) count seen l before = absurd (omega (arith, l))

pub ruleset nodes_walk = (nodes_step, nodes_done)
