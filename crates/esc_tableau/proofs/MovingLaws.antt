-- Two unknowns that rise differently with a column that can move differ somewhere.
use Rattle.std.proofs.Common.{◌≡◌, ◌≢◌, ◌⊎◌, inl, inr, ℕ, ◌+◌, ◌<◌, ◌≤◌, List, [], ◌∷◌, ◌++◌, Bool, true, false, Option, Some, None, length, get_or, pos, refl, sym, ap, ◌∙◌, subst, arith, true≢false}
use Rattle.std.proofs.lemmas.Int.{ints}
use Rattle.std.specs.Prelude.{◌↔◌, IsTrue}
use Rattle.std.specs.List.{Contains}
use Rattle.std.proofs.lemmas.Bool.{and_from, cases_lt}
use Rattle.std.proofs.lemmas.Bool.Decides.{Decides-int_eq}
use Rattle.std.proofs.lemmas.List.Elements.{Contains-append_left, Contains-push, Contains-push_cases}
use Rattle.esc_frac.specs.Sign.{sign_of}
use Rattle.esc_frac.specs.Rational.{ℚ, zero_ℚ, one_ℚ, ◌+ℚ◌, neg_ℚ, ◌*ℚ◌, inverse_ℚ, is_zero, ◌/ℚ◌, ◌≤ℚ◌}
use Rattle.esc_frac.specs.RationalLaws.{zero_from_num}
use Rattle.esc_frac.proofs.FieldLaws.{+ℚ_cancel, +ℚ_comm, neg_ℚ-zero, *ℚ_assoc, *ℚ_comm, *ℚ-inverse_ℚ, *ℚ-one, zero-*ℚ}
use Rattle.esc_frac.proofs.OrderLaws.{zero-≤ℚ}
use Rattle.esc_tableau.specs.Moving.{ArePartedIn, Blocks, CanMove, IsFree, MovesPart, move}
use Rattle.esc_tableau.specs.Rule.{absolute, falls, is_against, leaving, ratio, slope}
use Rattle.esc_tableau.specs.Table.{Table, IsTable, IsWithin, entry, nobody, owner, row_constant, sample, size}
use Rattle.esc_tableau.specs.declared.rule.Move.{Move}
use Rattle.esc_tableau.proofs.MoveLaws.{IsSolution-along, IsWithin-along, along, falls_parts, restricted_owner}
use Rattle.esc_tableau.proofs.Orders.{inverse_nonnegative, product_nonnegative}
use Rattle.esc_tableau.proofs.PeakLaws.{falls_bounds}
use Rattle.esc_tableau.proofs.Places.{owner_below}
use Rattle.esc_tableau.proofs.RuleLaws.{Leaves, bounding_some, least_none, least_some}
use Rattle.esc_tableau.proofs.SampleLaws.{sample-owner}
use Rattle.esc_tableau.proofs.Signs.{falls_signs, neg_neg, push}

-- ---- a factor that is not 0 may be left out

*ℚ_cancel : (x y d : ℚ) → d.num ≢ pos 0 → x *ℚ d ≡ y *ℚ d → x ≡ y
*ℚ_cancel x y d some same = undone x ∙ ap (λ z. z *ℚ inverse_ℚ d) same ∙ sym (undone y)
  where
    undone : (z : ℚ) → z ≡ z *ℚ d *ℚ inverse_ℚ d
    undone z = sym (*ℚ-one z) ∙ ap (λ w. z *ℚ w) (sym (*ℚ-inverse_ℚ d some))
        ∙ sym (*ℚ_assoc z d (inverse_ℚ d))

-- a quotient whose first number is not 0 is not 0
quotient_some : (k a : ℚ) → a.num ≢ pos 0 → k ≢ zero_ℚ → (k /ℚ a).num ≢ pos 0
quotient_some k a whole some none =
    some (sym (*ℚ-one k) ∙ ap (λ w. k *ℚ w) (sym (*ℚ-inverse_ℚ a whole) ∙ *ℚ_comm a (inverse_ℚ a))
    ∙ sym (*ℚ_assoc k (inverse_ℚ a) a) ∙ ap (λ w. w *ℚ a) (zero_from_num (k /ℚ a) none)
    ∙ zero-*ℚ a)

push_some : (up : Bool) (d : ℚ) → d.num ≢ pos 0 → (push up d).num ≢ pos 0
push_some true d some none = some none
push_some false d some none =
    some (ap (λ (q : ℚ). q.num) (sym (neg_neg d) ∙ ap neg_ℚ (zero_from_num (neg_ℚ d) none)
    ∙ neg_ℚ-zero))

module _ (t : Table) (ok : IsTable t) (within : IsWithin t (sample t)) (m : Move)
    (inside : m.column < length t.columns)
    (rising : (get_or t.columns m.column nobody).restricted ≡ true → m.up ≡ true)
    (free : IsFree t m) where
  -- how far one can go
  record Reach : Type 0 where
    pub far : ℚ
    pub above : zero_ℚ ≤ℚ far
    pub some : far.num ≢ pos 0
    pub least : (i : ℕ) → i < length t.owners → falls t m i ≡ true → far ≤ℚ ratio t m i

  reach : Reach
  reach = go (leaving t m) refl
    where
      go : (o : Option ℕ) → leaving t m ≡ o → Reach
      go None none = record {
        far = one_ℚ;
        above = zero-≤ℚ one_ℚ (omega (arith, ints));
        some = λ h. omega (arith, ints);
        least = λ i owned down.
            let no = least_none t m (size t) none (owner t i) (owner_below t ok i owned) in
            let yet = falls_bounds t ok m i owned down in cc;
      }
      go (Some r) leaves = by_row (least_some t m (size t) r leaves)
        where
          by_row : Leaves t m (size t) r → Reach
          by_row first =
              let bounds = bounding_some t m first.owner r first.bounds in
              let down = bounds.falls in
              let owned : r < length t.owners = subst (λ k. k < length t.owners) (sym bounds.row)
              bounds.owns in
              let signs = falls_signs m.up (entry t r m.column) (falls_parts t m r down).1 in
              let high : zero_ℚ ≤ℚ row_constant t r =
              subst (λ (x : ℚ). zero_ℚ ≤ℚ x) (sample-owner t ok r owned)
              (within (owner t r) (restricted_owner t r owned (falls_parts t m r down).0)) in
              record {
                far = ratio t m r;
                above = product_nonnegative (row_constant t r)
                    (inverse_ℚ (absolute (entry t r m.column))) high
                    (inverse_nonnegative (absolute (entry t r m.column)) signs.size);
                some = quotient_some (row_constant t r) (absolute (entry t r m.column)) signs.whole
                    (λ none. free r owned (down, none));
                least = λ i own falling. first.least (owner t i) i (owner_below t ok i own)
                    (falls_bounds t ok m i own falling);
              }

  pub parted_along : (u w : ℕ) → sample t u ≡ sample t w
      → slope t u m.column ≢ slope t w m.column → ArePartedIn t u w
  parted_along u w same other =
      let d = push m.up reach.far in (
        along t m.column d,
        IsSolution-along t ok m.column d inside,
        IsWithin-along t ok m reach.far inside within reach.above rising reach.least,
        λ e. other (*ℚ_cancel (slope t u m.column) (slope t w m.column) d
            (push_some m.up reach.far reach.some)
            (+ℚ_cancel (slope t u m.column *ℚ d) (slope t w m.column *ℚ d) (sample t w)
            (+ℚ_comm (slope t u m.column *ℚ d) (sample t w)
            ∙ ap (λ s. s +ℚ slope t u m.column *ℚ d) (sym same) ∙ e
            ∙ +ℚ_comm (sample t w) (slope t w m.column *ℚ d)))),
      )

pub moves_part : MovesPart
moves_part t ok within c inside (inl free) =
    parted_along t ok within (move c true) inside (λ _. refl) free
moves_part t ok within c inside (inr down) =
    parted_along t ok within (move c false) inside
    (λ marked. absurd (true≢false (sym marked ∙ down.0))) down.1

-- ---- whether a row blocks a move

pub blocks_by : (t : Table) (m : Move) (r : ℕ) → (get_or t.owners r nobody).restricted ≡ true
    → row_constant t r ≡ zero_ℚ → (b : Bool) → b ≡ is_against m.up (sign_of (entry t r m.column).num)
    → IsTrue b ↔ Blocks t m r
blocks_by t m r marked low b is = (
  λ h. (and_from _ _ marked (sym is ∙ h), low),
  λ k. is ∙ (falls_parts t m r k.0).1,
)

-- ---- the columns that can move

module _ (t : Table) (cs : List ℕ) (n : ℕ)
    (are : (c : ℕ) → Contains cs c ↔ ((c < n) × CanMove t c)) where
  pub moving_more : CanMove t n
      → (c : ℕ) → Contains (cs ++ n ∷ []) c ↔ ((c < n + 1) × CanMove t c)
  moving_more can c = (
    λ h. forth (Contains-push_cases cs n c h),
    λ k. back k.1 (cases_lt c n) k.0,
  )
    where
      forth : Contains cs c ⊎ (n ≡ c) → (c < n + 1) × CanMove t c
      forth (inl h) = let k = (are c).0 h in (omega (arith, k.0), k.1)
      forth (inr e) = (omega (arith, e), subst (CanMove t) e can)

      back : CanMove t c → (c < n) ⊎ (n ≤ c) → c < n + 1 → Contains (cs ++ n ∷ []) c
      back moves (inl h) less = Contains-append_left cs (n ∷ []) c ((are c).1 (h, moves))
      back moves (inr h) less = let e : n ≡ c = omega (arith, h, less) in
          subst (Contains (cs ++ n ∷ [])) e (Contains-push cs n)

  pub moving_still : (CanMove t n → ⊥) → (c : ℕ) → Contains cs c ↔ ((c < n + 1) × CanMove t c)
  moving_still cannot c = (
    λ h. let k = (are c).0 h in (omega (arith, k.0), k.1),
    λ k. back k.1 (cases_lt c n) k.0,
  )
    where
      back : CanMove t c → (c < n) ⊎ (n ≤ c) → c < n + 1 → Contains cs c
      back moves (inl h) less = (are c).1 (h, moves)
      back moves (inr h) less = let e : c ≡ n = omega (arith, h, less) in
          absurd (cannot (subst (CanMove t) e moves))

pub zero_when : (q : ℚ) → true ≡ is_zero q → q ≡ zero_ℚ
zero_when q h = zero_from_num q ((Decides-int_eq q.num (pos 0)).0 (sym h))
