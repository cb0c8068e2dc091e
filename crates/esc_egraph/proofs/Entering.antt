-- Matches where a node is made.
use Rattle.std.proofs.Common.{◌≡◌, ◌≢◌, ℕ, ◌+◌, ◌<◌, List, [], ◌∷◌, ◌++◌, ◌⊎◌, inl, inr, Bool, true, false, IsTrue, if◌then◌else◌, length, All, refl, sym, subst, arith}
use Rattle.std.proofs.lemmas.Bool.{cases_lt}
use Rattle.std.proofs.lemmas.List.{append-nil, get_or_append_left, get_or_at, length-append, length_push}
use Rattle.std.proofs.lemmas.List.Elements.{All-nil, All-weaker}
use Rattle.esc_nodes.specs.Nodes.{Shape, shape_at, AreTerms}
use Rattle.esc_index.specs.Places.{entry_at}
use Rattle.esc_union.specs.Merges.{AreMerges, class_number}
use Rattle.esc_union.proofs.Ends.{All-one}
use Rattle.esc_union.proofs.Numbers.{class_number-beyond}
use Rattle.esc_egraph.specs.Congruence.{AreAlike}
use Rattle.esc_egraph.specs.KeysInside.{key_of}
use Rattle.esc_egraph.specs.PartsInside.{IsMatch, IsWhole}
use Rattle.esc_egraph.proofs.Settled.{alike_same, match_alike, match_more}

-- the entries that a node gets
abbrev pub own_entries : Bool → ℕ × ℕ → List (ℕ × ℕ)
own_entries enters e = if enters then e ∷ [] else []

pub own_table : (enters : Bool) (table : List (ℕ × ℕ)) (e : ℕ × ℕ)
    → (if enters then table ++ (e ∷ []) else table) ≡ table ++ own_entries enters e
own_table true table e = refl
own_table false table e = sym (append-nil table)

pub own_low : (enters : Bool) (e : ℕ × ℕ) (n : ℕ) → e.1 < n
    → All (λ x. x.1 < n) (own_entries enters e)
own_low true e n l = All-one (λ (x : ℕ × ℕ). x.1 < n) e l
own_low false e n l = All-nil (λ (x : ℕ × ℕ). x.1 < n)

module _ (nodes : List Shape) (s : Shape) (ms table : List (ℕ × ℕ)) where
  old_shape : (k : ℕ) → k < length nodes → shape_at (nodes ++ (s ∷ [])) k ≡ shape_at nodes k
  old_shape k l = get_or_append_left nodes (s ∷ []) _ k l

  -- a match stays one
  match_made : (more : List (ℕ × ℕ)) (t : Shape) (place : ℕ) → IsMatch nodes ms table t place
      → IsMatch (nodes ++ (s ∷ [])) ms (table ++ more) t place
  match_made more t place w =
      let at : entry_at (table ++ more) place ≡ entry_at table place = get_or_append_left table more
      (0, 0) place w.there in
      record {
        there = omega (arith, w.there, length-append table more);
        node = subst (λ (x : ℕ × ℕ). x.1 < length (nodes ++ (s ∷ []))) (sym at)
            (omega (arith, w.node, length_push nodes s));
        key = subst (λ (x : ℕ × ℕ). x.0 ≡ key_of (class_number ms) t) (sym at) w.key;
        alike = subst (λ (x : ℕ × ℕ). AreAlike (class_number ms) (shape_at (nodes ++ (s ∷ [])) x.1)
            t) (sym at)
            (subst (λ u. AreAlike (class_number ms) u t)
            (sym (old_shape (entry_at table place).1 w.node)) w.alike);
      }

  own_match : IsMatch (nodes ++ (s ∷ [])) ms (table
      ++ ((key_of (class_number ms) s, length nodes) ∷ [])) s (length table)
  own_match =
      let at = sym (get_or_at table (key_of (class_number ms) s, length nodes) [] (0, 0)
      (length table) refl) in
      record {
        there = omega (arith, length_push table (key_of (class_number ms) s, length nodes));
        node = subst (λ (x : ℕ × ℕ). x.1 < length (nodes ++ (s ∷ []))) at
            (omega (arith, length_push nodes s));
        key = subst (λ (x : ℕ × ℕ). x.0 ≡ key_of (class_number ms) s) at refl;
        alike = subst (λ (x : ℕ × ℕ). AreAlike (class_number ms)
            (shape_at (nodes ++ (s ∷ [])) x.1) s) at
            (subst (λ u. AreAlike (class_number ms) u s)
            (sym (get_or_at nodes s [] _ (length nodes) refl))
            (alike_same (class_number ms) s));
      }

  new_match : (enters : Bool) → IsTrue enters ⊎ ((place : ℕ) × IsMatch nodes ms table s place) →
      (place : ℕ) × IsMatch (nodes ++ (s ∷ [])) ms (table
      ++ own_entries enters (key_of (class_number ms) s, length nodes)) s place
  new_match true how = (length table, own_match)
  new_match false (inl never) = cc never
  new_match false (inr m) = (m.0, match_made [] s m.0 m.1)

  pub whole_made : (enters : Bool) → IsTrue enters ⊎ ((place : ℕ) × IsMatch nodes ms table s place)
      → IsWhole nodes ms table →
      IsWhole (nodes ++ (s ∷ [])) ms (table ++ own_entries enters
      (key_of (class_number ms) s, length nodes))
  whole_made enters how whole n nl =
      elim (cases_lt n (length nodes)) [
        | inl old ↦
            let m = whole n old in
            subst (λ t. (place : ℕ) × IsMatch (nodes ++ (s ∷ [])) ms (table
            ++ own_entries enters (key_of (class_number ms) s, length nodes)) t place)
            (sym (old_shape n old)) (
              m.0,
              match_made (own_entries enters (key_of (class_number ms) s, length nodes))
                  (shape_at nodes n) m.0 m.1,
            )
        | inr new ↦
            let last : length nodes ≡ n = omega (arith, nl, new, length_push nodes s) in
            subst (λ t. (place : ℕ) × IsMatch (nodes ++ (s ∷ [])) ms (table
            ++ own_entries enters (key_of (class_number ms) s, length nodes)) t place)
            (sym (get_or_at nodes s [] _ n last)) (new_match enters how)
      ]

-- the new node goes into the class of another: no argument moves
pub whole_joined : (nodes : List Shape) → AreTerms nodes
    → (ms : List (ℕ × ℕ)) (n other : ℕ) (table : List (ℕ × ℕ)) → AreMerges n ms → n + 1
    ≡ length nodes →
    IsWhole nodes ms table → IsWhole nodes (ms ++ ((n, other) ∷ [])) table
whole_joined nodes are ms n other table merges count whole k kl =
    let beyond = class_number-beyond n ms merges.there in
    let m = whole k kl in (
      m.0,
      match_more nodes are ms (n, other) table (λ i. ⊥) k m.0 kl
          (All-weaker (λ a. a < k) (λ a. class_number ms a ≢ class_number ms n)
          (λ a l e. omega (
            arith,
            e,
            beyond.0 a (omega (arith, l, kl, count)),
            beyond.1 n
                (omega arith),
          )) (shape_at nodes k).args (are.older k kl)) m.1,
    )

-- a shape that has no match is alike to no node
pub none_alike : (nodes : List Shape) (ms table : List (ℕ × ℕ)) (s : Shape) → IsWhole nodes ms table
    → (((place : ℕ) × IsMatch nodes ms table s place) → ⊥) →
    (k : ℕ) → k < length nodes → AreAlike (class_number ms) (shape_at nodes k) s → ⊥
none_alike nodes ms table s whole none k kl alike =
    let m = whole k kl in
    none (m.0, match_alike nodes ms table (shape_at nodes k) s m.0 alike m.1)
