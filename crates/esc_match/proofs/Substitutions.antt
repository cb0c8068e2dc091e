-- The nodes that a way gives the variables.
use Rattle.std.proofs.Common.{◌≡◌, ℕ, zero, suc, ◌-◌, ◌<◌, List, ◌∷◌, length, get_or}
use Rattle.std.proofs.Common.{reverse, refl, ap, sym, subst, ◌∙◌, arith}
use Rattle.std.specs.List.{All}
use Rattle.std.proofs.lemmas.List.{get_or-reverse}
use Rattle.std.proofs.lemmas.List.Elements.{All-cons, All-nil}
use Rattle.esc_match.specs.declared.way.Binding.{Binding}
use Rattle.esc_match.specs.WaysInside.{class_bound}
use Rattle.esc_match.specs.SubstitutionsInside.{nodes_for, or_zero}

pub length-nodes_for : (count : ℕ) (bs : List Binding) → length (nodes_for count bs) ≡ count
unfolding nodes_for
length-nodes_for zero bs = refl
length-nodes_for (suc k) bs = ap suc (length-nodes_for k bs)

pub nodes_for-all : (P : ℕ → Type 0) (count : ℕ) (bs : List Binding)
    → ((k : ℕ) → k < count → P (or_zero (class_bound bs k))) → All P (nodes_for count bs)
unfolding nodes_for
nodes_for-all P zero bs each = All-nil P
nodes_for-all P (suc k) bs each =
    All-cons P (or_zero (class_bound bs k)) (nodes_for k bs) (each k (omega arith))
    (nodes_for-all P k bs (λ j l. each j (omega (arith, l))))

pub nodes_for-same : (count : ℕ) (bs cs : List Binding)
    → ((k : ℕ) → k < count → class_bound bs k ≡ class_bound cs k)
    → nodes_for count bs ≡ nodes_for count cs
unfolding nodes_for
nodes_for-same zero bs cs each = refl
nodes_for-same (suc k) bs cs each =
    ap (λ o. or_zero o ∷ nodes_for k bs) (each k (omega arith))
    ∙ ap (λ ns. or_zero (class_bound cs k) ∷ ns)
    (nodes_for-same k bs cs (λ j l. each j (omega (arith, l))))

pub get_or-nodes_for : (count : ℕ) (bs : List Binding) (j : ℕ) → j < count
    → get_or (nodes_for count bs) j 0 ≡ or_zero (class_bound bs (count - 1 - j))
unfolding nodes_for
get_or-nodes_for zero bs j l = absurd (omega (arith, l))
get_or-nodes_for (suc k) bs zero l =
    ap (λ i. or_zero (class_bound bs i)) (omega arith)
get_or-nodes_for (suc k) bs (suc j) l =
    get_or-nodes_for k bs j (omega (arith, l))
    ∙ ap (λ i. or_zero (class_bound bs i)) (omega (arith, l))

-- the node of a variable, counted from the innermost one
pub reverse-nodes_for : (count : ℕ) (bs : List Binding) (k : ℕ) → k < count
    → get_or (reverse (nodes_for count bs)) k 0 ≡ or_zero (class_bound bs k)
reverse-nodes_for count bs k l =
    let within : k < length (nodes_for count bs) = subst (λ n. k < n)
    (sym (length-nodes_for count bs)) l in
    get_or-reverse (nodes_for count bs) k 0 within
    ∙ (ap (λ n. get_or (nodes_for count bs) (n - 1 - k) 0) (length-nodes_for count bs)
    ∙ (get_or-nodes_for count bs (count - 1 - k) (omega (arith, l))
    ∙ ap (λ i. or_zero (class_bound bs i)) (omega (arith, l))))
