-- What waits over the members that a merge moved.
use Rattle.std.proofs.Common.{◌≡◌, ℕ, zero, suc, ◌+◌, ◌<◌, ◌≤◌, List, [], ◌∷◌, ◌++◌, ◌⊎◌, inl, inr, length, map, take, drop, get_or, refl, ap, sym, subst, ◌∙◌, arith}
use Rattle.std.specs.List.{Any, Contains}
use Rattle.std.proofs.lemmas.Bool.{cases_eq, cases_lt}
use Rattle.std.proofs.lemmas.List.{get_or_default, get_or_append_left, get_or-map, length-map, append-nil, append_assoc, take-append-le, drop_more}
use Rattle.std.proofs.lemmas.List.Elements.{All-get_or, All-weaker, Contains-append_cases, Contains-append_left, Contains-append_right}
use Rattle.esc_nodes.specs.Nodes.{Shape, shape_at}
use Rattle.esc_index.specs.Places.{entry_at, HasNone, IsLastBefore}
use Rattle.esc_union.specs.Merges.{SameClass, class_number, merge_at}
use Rattle.esc_union.specs.Members.{members_of, moved_by}
use Rattle.esc_union.proofs.Moved.{moved_exact}
use Rattle.esc_egraph.specs.ClosingInside.{HasArgument, IsAmong, IsSettledIn, IsWaiting, Waiting}
use Rattle.esc_egraph.specs.PartsInside.{uses_from, uses_of, IsSound}
use Rattle.esc_egraph.specs.declared.parts.Parts.{Parts}
use Rattle.esc_egraph.proofs.Settled.{settled_weaker}

-- ---- nodes by their arguments

-- an entry is of an argument and the node over it
pub record IsUse (first : ℕ) (nodes : List Shape) (e : ℕ × ℕ) : Type 0 where
  pub place : ℕ
  pub there : place < length nodes
  pub number : e.1 ≡ first + place
  pub argument : Contains (shape_at nodes place).args e.0

at_rest : (first : ℕ) (s : Shape) (nodes : List Shape) (e : ℕ × ℕ) → IsUse (first + 1) nodes e
    → IsUse first (s ∷ nodes) e
at_rest first s nodes e is = record {
  place = suc is.place;
  there = omega (arith, is.there);
  number = omega (arith, is.number);
  argument = is.argument;
}

uses_are : (first : ℕ) (nodes : List Shape) (e : ℕ × ℕ) → Contains (uses_from first nodes) e
    → IsUse first nodes e
uses_are first [] e c = absurd (omega (arith, c.1))
uses_are first (s ∷ nodes) e c =
    elim (Contains-append_cases (map (λ a. (a, first)) s.args) (uses_from (first + 1) nodes) e c) [
      | inl here ↦
          let l : here.0 < length s.args = omega (
            arith,
            here.1,
            length-map {B = ℕ × ℕ} s.args
                (λ a. (a, first)),
          ) in
          let at : (get_or s.args here.0 0, first)
          ≡ e = sym (get_or-map (λ a. (a, first)) s.args here.0 0 e l) ∙ here.2 in
          record {
            place = 0;
            there = omega arith;
            number = omega (arith, ap (λ (x : ℕ × ℕ). x.1) at);
            argument = (
              here.0,
              l,
              get_or_default s.args here.0 e.0 0 l
                  ∙ ap (λ (x : ℕ × ℕ). x.0) at,
            );
          }
      | inr rest ↦ at_rest first s nodes e (uses_are (first + 1) nodes e rest)
    ]

uses_have : (first : ℕ) (nodes : List Shape) (k a : ℕ) → k < length nodes
    → Contains (shape_at nodes k).args a → Contains (uses_from first nodes) (a, first + k)
uses_have first [] k a l c = absurd (omega (arith, l))
uses_have first (s ∷ nodes) zero a l c =
    let at : get_or (map (λ b. (b, first)) s.args) c.0 (a, first + 0) ≡ (a, first + 0) =
    get_or-map (λ b. (b, first)) s.args c.0 a (a, first + 0) c.1
    ∙ (ap (λ b. (b, first)) c.2 ∙ ap (λ n. (a, n)) (let e : first ≡ first + 0 = omega arith
    in e)) in
    Contains-append_left (map (λ b. (b, first)) s.args) (uses_from (first + 1) nodes) (a, first + 0)
    (c.0, omega (arith, c.1, length-map {B = ℕ × ℕ} s.args (λ b. (b, first))), at)
uses_have first (s ∷ nodes) (suc k) a l c =
    subst (λ n. Contains (uses_from first (s ∷ nodes)) (a, n)) (let e : (first + 1) + k ≡ first
    + suc k = omega arith in e)
    (Contains-append_right (map (λ b. (b, first)) s.args) (uses_from (first + 1) nodes)
    (a, (first + 1) + k)
    (uses_have (first + 1) nodes k a (omega (arith, l)) c))

uses_from-more : (first : ℕ) (nodes : List Shape) (s : Shape) →
    uses_from first (nodes ++ (s ∷ [])) ≡ uses_from first nodes
    ++ map (λ a. (a, first + length nodes)) s.args
uses_from-more first [] s =
    append-nil (map (λ a. (a, first)) s.args) ∙ ap (λ n. map (λ a. (a, n)) s.args) (let e : first
    ≡ first + 0 = omega arith in e)
uses_from-more first (t ∷ nodes) s =
    ap (λ xs. map (λ a. (a, first)) t.args ++ xs) (uses_from-more (first + 1) nodes s)
    ∙ (sym (append_assoc (map (λ a. (a, first)) t.args) (uses_from (first + 1) nodes)
    (map (λ a. (a, (first + 1) + length nodes)) s.args))
    ∙ ap (λ n. (map (λ a. (a, first)) t.args ++ uses_from (first + 1) nodes)
    ++ map (λ a. (a, n)) s.args)
    (let e : (first + 1) + length nodes ≡ first + suc (length nodes) = omega arith in e))

pub uses_of-more : (nodes : List Shape) (s : Shape) → uses_of (nodes ++ (s ∷ []))
    ≡ uses_of nodes ++ map (λ a. (a, length nodes)) s.args
unfolding uses_of
uses_of-more nodes s = uses_from-more 0 nodes s ∙ ap (λ n. uses_of nodes
    ++ map (λ a. (a, n)) s.args) (let e : 0 + length nodes ≡ length nodes = omega arith in e)

pub uses_of-none : uses_of [] ≡ []
unfolding uses_of
uses_of-none = refl

-- the node of an entry is one
pub use_low : (p : Parts) → IsSound p → (place : ℕ) → place < length p.uses
    → (entry_at p.uses place).1 < length p.nodes
unfolding uses_of
use_low p is place l =
    let u = uses_are 0 p.nodes (entry_at p.uses place)
    (subst (λ us. Contains us (entry_at p.uses place)) is.used
    (place, l, get_or_default p.uses place (entry_at p.uses place) (0, 0) l)) in
    omega (arith, u.there, u.number)

-- a node over an argument has an entry
pub use_there : (p : Parts) → IsSound p → (n a : ℕ) → HasArgument p.nodes n a
    → IsAmong p.uses a (length p.uses) n
unfolding uses_of
use_there p is n a has =
    let c = subst (λ us. Contains us (a, n)) (sym is.used)
    (subst (λ k. Contains (uses_of p.nodes) (a, k)) (let e : 0 + n ≡ n = omega arith
    in e) (uses_have 0 p.nodes n a has.0 has.1)) in
    let at : entry_at p.uses c.0 ≡ (a, n) = get_or_default p.uses c.0 (0, 0) (a, n) c.1 ∙ c.2 in
    (c.0, c.1, ap (λ (x : ℕ × ℕ). x.0) at, ap (λ (x : ℕ × ℕ). x.1) at)

-- ---- over one member

-- what waits over the member by its first entries, and over others
abbrev pub over : List ℕ → ℕ → ℕ → ℕ → Waiting
over members member entries merge = record {
  members = members;
  member = member;
  entries = entries;
  merge = merge;
}

pub record IsSettling (entry now : Parts) (member end : ℕ) : Type 0 where
  pub longer : length entry.classes.merges ≤ length now.classes.merges
  pub kept : (members : List ℕ) (merge : ℕ) → merge ≤ length entry.classes.merges →
      IsSettledIn entry (IsWaiting entry (over (member ∷ members) 0 0 merge))
      → IsSettledIn now (IsWaiting now (over members member end merge))

pub IsSettling-starts : (p : Parts) (member : ℕ) → IsSound p → IsSettling p p member (length p.uses)
IsSettling-starts p member is = record {
  longer = omega arith;
  kept = λ members merge low settled.
      settled_weaker p.nodes p.classes.merges p.table
      (IsWaiting p (over (member ∷ members) 0 0 merge))
      (IsWaiting p (over members member (length p.uses) merge))
      (λ n nl waits. starts members merge n waits) settled;
}
  where
    starts : (members : List ℕ) (merge n : ℕ) → IsWaiting p (over (member ∷ members) 0 0 merge) n
        → IsWaiting p (over members member (length p.uses) merge) n
    starts members merge n (inl (a, (zero, l, at), has)) = inr
        (inl (use_there p is n member (subst (HasArgument p.nodes n) (sym at) has)))
    starts members merge n (inl (a, (suc k, l, at), has)) = inl (a, (k, omega (arith, l), at), has)
    starts members merge n (inr (inl among)) = absurd (omega (arith, among.1))
    starts members merge n (inr (inr touched)) = inr (inr touched)

-- the last entry of the member before the end comes next
pub among_cases : (uses : List (ℕ × ℕ)) (member end place n : ℕ)
    → IsLastBefore uses member end place → IsAmong uses member end n →
    (n ≡ (entry_at uses place).1) ⊎ IsAmong uses member place n
among_cases uses member end place n last (k, l, key, is) =
    elim (cases_lt k place) [
      | inl less ↦ inr (k, less, key, is)
      | inr past ↦ elim (cases_eq k place) [
        | inl e ↦ inl (sym is ∙ ap (λ j. (entry_at uses j).1) e)
        | inr ne ↦ absurd (last.last k (omega (arith, past, ne)) l key)
      ]
    ]

pub over_next : (p : Parts) (members : List ℕ) (member end place merge : ℕ)
    → IsLastBefore p.uses member end place →
    IsSettledIn p (IsWaiting p (over members member end merge)) →
    IsSettledIn p (λ n. (n ≡ (entry_at p.uses place).1)
    ⊎ IsWaiting p (over members member place merge) n)
over_next p members member end place merge last settled =
    settled_weaker p.nodes p.classes.merges p.table (IsWaiting p (over members member end merge))
    (λ n. (n ≡ (entry_at p.uses place).1) ⊎ IsWaiting p (over members member place merge) n)
    (λ n nl waits. elim waits [
      | inl w ↦ inr (inl w)
      | inr w ↦ elim w [
        | inl among ↦ elim (among_cases p.uses member end place n last among)
            [ inl e ↦ inl e | inr rest ↦ inr (inr (inl rest)) ]
        | inr touched ↦ inr (inr (inr touched))
      ]
    ]) settled

-- no entry of the member is left
pub over_done : (p : Parts) (members : List ℕ) (member end merge : ℕ)
    → HasNone p.uses member 0 end →
    IsSettledIn p (IsWaiting p (over members member end merge))
    → IsSettledIn p (IsWaiting p (over members 0 0 merge))
over_done p members member end merge none settled =
    settled_weaker p.nodes p.classes.merges p.table (IsWaiting p (over members member end merge))
    (IsWaiting p (over members 0 0 merge))
    (λ n nl waits. elim waits [
      | inl w ↦ inl w
      | inr w ↦ elim w [
        | inl among ↦ absurd (none among.0 (omega arith) among.1 among.2)
        | inr touched ↦ inr (inr touched)
      ]
    ]) settled

-- ---- over all that a merge moved

-- what a merge touched stands over the members that it moved
pub over_moved : (p : Parts) (merge : ℕ) → IsSound p → merge < length p.classes.merges →
    IsSettledIn p (IsWaiting p (over [] 0 0 merge))
    → IsSettledIn p (IsWaiting p (over (moved_by p.classes.merges merge) 0 0 (merge + 1)))
over_moved p merge is l settled =
    settled_weaker p.nodes p.classes.merges p.table (IsWaiting p (over [] 0 0 merge))
    (IsWaiting p (over (moved_by p.classes.merges merge) 0 0 (merge + 1)))
    (λ n nl waits. elim waits [
      | inl w ↦ absurd (omega (arith, w.1.1))
      | inr w ↦ elim w [
        | inl among ↦ absurd (omega (arith, among.1))
        | inr touched ↦ elim (cases_lt merge touched.0) [
          | inl later ↦ inr (inr (touched.0, omega (arith, later), touched.2, touched.3))
          | inr now ↦ inl (here n nl (let e : touched.0 ≡ merge = omega (arith, now, touched.1)
              in e) touched.3)
        ]
      ]
    ]) settled
  where
    here : (n : ℕ) → n < length p.nodes → {i : ℕ} → i ≡ merge →
        Any (λ a. SameClass (class_number (take i p.classes.merges)) a
        (merge_at p.classes.merges i).0) (shape_at p.nodes n).args →
        (a : ℕ) × Contains (moved_by p.classes.merges merge) a × HasArgument p.nodes n a
    here n nl {i} e any =
        let hit = subst (λ j. Any (λ a. SameClass (class_number (take j p.classes.merges)) a
        (merge_at p.classes.merges j).0) (shape_at p.nodes n).args) e any in
        let low : hit.1 < length p.nodes =
        subst (λ a. a < length p.nodes) hit.3
        (All-get_or (λ a. a < length p.nodes) (shape_at p.nodes n).args hit.0 hit.1 hit.2
        (All-weaker (λ a. a < n) (λ a. a < length p.nodes) (λ a h. omega (arith, h, nl)) _
        (is.graph.terms.older n nl))) in (
          hit.1,
          (moved_exact (length p.nodes) p.classes.merges is.graph.merged merge l hit.1).1
              (low, hit.4),
          (nl, (hit.0, hit.2, hit.3)),
        )

-- one entry of the member less
pub IsSettling-step : (entry now exit : Parts) (member end place node : ℕ)
    → IsSettling entry now member end → IsLastBefore now.uses member end place →
    node ≡ (entry_at now.uses place).1 → length now.classes.merges ≤ length exit.classes.merges →
    ((w : Waiting) → w.merge ≤ length now.classes.merges
    → IsSettledIn now (λ n. (n ≡ node) ⊎ IsWaiting now w n)
    → IsSettledIn exit (IsWaiting exit w)) →
    IsSettling entry exit member place
IsSettling-step entry now exit member end place node is last node_is longer settles = record {
  longer = omega (arith, is.longer, longer);
  kept = λ members merge low s.
      settles (over members member place merge) (omega (arith, low, is.longer))
      (subst (λ m. IsSettledIn now (λ n. (n ≡ m) ⊎ IsWaiting now (over members member place merge)
      n)) (sym node_is)
      (over_next now members member end place merge last (is.kept members merge low s)));
}

-- what a merge moved stays where more is merged
pub moved_by-more : (ms more : List (ℕ × ℕ)) (i : ℕ) → i < length ms → moved_by (ms ++ more) i
    ≡ moved_by ms i
moved_by-more ms more i l =
    let front : take i (ms ++ more) ≡ take i ms = take-append-le i ms more (omega (arith, l)) in
    let at : merge_at (ms ++ more) i ≡ merge_at ms i = get_or_append_left ms more (0, 0) i l in
    ap (λ (x : ℕ × ℕ). members_of (take i (ms ++ more)) (class_number (take i (ms ++ more)) x.0)) at
    ∙ ap (λ xs. members_of xs (class_number xs (merge_at ms i).0)) front

-- the next member
pub over_member : (p : Parts) (moved : List ℕ) (place member merge : ℕ) → place < length moved
    → member ≡ get_or moved place member →
    IsSettledIn p (IsWaiting p (over (drop place moved) 0 0 merge))
    → IsSettledIn p (IsWaiting p (over (member ∷ drop (place + 1) moved) 0 0 merge))
over_member p moved place member merge l read settled =
    subst (λ xs. IsSettledIn p (IsWaiting p (over xs 0 0 merge)))
    (drop_more moved place member l ∙ ap (λ m. m ∷ drop (place + 1) moved) (sym read)) settled

-- nothing waits after the last merge
pub over_none : (p : Parts) (merge n : ℕ) → length p.classes.merges ≤ merge
    → IsWaiting p (over [] 0 0 merge) n → ⊥
over_none p merge n past (inl w) = omega (arith, w.1.1)
over_none p merge n past (inr (inl among)) = omega (arith, among.1)
over_none p merge n past (inr (inr touched)) = omega (arith, past, touched.1, touched.2)

pub over_all : (p : Parts) (members : List ℕ) (merge : ℕ) → members ≡ []
    → IsSettledIn p (IsWaiting p (over members 0 0 merge)) →
    IsSettledIn p (IsWaiting p (over [] 0 0 merge))
over_all p members merge e settled = subst (λ xs. IsSettledIn p (IsWaiting p (over xs 0 0 merge)))
    e settled
