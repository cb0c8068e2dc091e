-- A pivot at a row whose constant is 0 keeps the sample.
use Rattle.std.proofs.Common.{◌≡◌, ◌≢◌, ◌⊎◌, inl, inr, ℕ, ◌<◌, ◌≤◌, Result, Ok, Err, OnOk, OnErr, length, get_or, sym, ap, ◌∙◌, subst, arith, length-set}
use Rattle.std.proofs.lemmas.Bool.{cases_eq, cases_lt}
use Rattle.esc_frac.specs.Rational.{ℚ, zero_ℚ, ◌+ℚ◌, neg_ℚ, ◌*ℚ◌, inverse_ℚ, ◌≤ℚ◌}
use Rattle.esc_frac.proofs.FieldLaws.{+ℚ-zero, *ℚ-zero, zero-*ℚ, neg_ℚ-zero}
use Rattle.esc_rows.specs.Rows.{solved_constant}
use Rattle.esc_tableau.specs.Table.{Table, IsTable, IsWithin, SameSystem, nobody, owner, column, entry, row_entries, row_constant, row_of, sample, pivoted}
use Rattle.esc_tableau.proofs.Pivoted.{IsTable-pivoted, column-at_column, constant-at_other, constant-at_row, owner-at_other}
use Rattle.esc_tableau.proofs.Places.{owner-row_of, row_of-owner}
use Rattle.esc_tableau.proofs.SampleLaws.{sample-column, sample-no_row, sample-owner}

module _ (t : Table) (ok : IsTable t) (r c : ℕ) (row : r < length t.owners) (inside : c
    < length t.columns) (none : row_constant t r ≡ zero_ℚ) where
  new_ok : IsTable (pivoted t r c)
  new_ok = IsTable-pivoted t ok r c row inside

  rows_stay : length (pivoted t r c).owners ≡ length t.owners
  rows_stay = length-set t.owners r (get_or t.columns c nobody)

  solved_none : solved_constant (row_entries t r) c (row_constant t r) ≡ zero_ℚ
  solved_none =
      ap (λ (k : ℚ). neg_ℚ (k *ℚ inverse_ℚ (entry t r c))) none
      ∙ ap neg_ℚ (zero-*ℚ (inverse_ℚ (entry t r c)))
      ∙ neg_ℚ-zero

  -- another row keeps its constant
  other_stays : (i : ℕ) → i < length t.owners → i ≢ r → sample (pivoted t r c) (owner t i)
      ≡ sample t (owner t i)
  other_stays i within other =
      let lies : i < length (pivoted t r c).owners = omega (arith, within, rows_stay) in
      ap (sample (pivoted t r c)) (sym (owner-at_other t ok r c row inside i other))
      ∙ sample-owner (pivoted t r c) new_ok i lies
      ∙ constant-at_other t ok r c row inside i within other
      ∙ ap (λ (k : ℚ). row_constant t i +ℚ entry t i c *ℚ k) solved_none
      ∙ ap (λ (k : ℚ). row_constant t i +ℚ k) (*ℚ-zero (entry t i c))
      ∙ +ℚ-zero (row_constant t i)
      ∙ sym (sample-owner t ok i within)

  -- the row's owner becomes that of the column
  leaver_stays : sample (pivoted t r c) (owner t r) ≡ sample t (owner t r)
  leaver_stays =
      let lies : c < length (pivoted t r c).columns = omega
      (arith, inside, length-set t.columns c (get_or t.owners r nobody)) in
      ap (sample (pivoted t r c)) (sym (column-at_column t ok r c row inside))
      ∙ sample-column (pivoted t r c) new_ok c lies
      ∙ sym none
      ∙ sym (sample-owner t ok r row)

  owner_stays : (i : ℕ) → i < length t.owners → sample (pivoted t r c) (owner t i)
      ≡ sample t (owner t i)
  owner_stays i within = go (cases_eq i r)
    where
      go : (i ≡ r) ⊎ (i ≢ r) → sample (pivoted t r c) (owner t i) ≡ sample t (owner t i)
      go (inl e) = subst (λ (j : ℕ). sample (pivoted t r c) (owner t j) ≡ sample t (owner t j))
          (sym e) leaver_stays
      go (inr other) = other_stays i within other

  -- an unknown without a row gets at most the pivot's row, whose constant is 0
  rowless_none : (u : ℕ) → length t.owners ≤ row_of t u → sample (pivoted t r c) u ≡ zero_ℚ
  rowless_none u past = go (cases_lt (row_of (pivoted t r c) u) (length (pivoted t r c).owners))
    where
      go : (row_of (pivoted t r c) u < length (pivoted t r c).owners)
          ⊎ (length (pivoted t r c).owners ≤ row_of (pivoted t r c) u)
          → sample (pivoted t r c) u ≡ zero_ℚ
      go (inr still) = sample-no_row (pivoted t r c) new_ok u still
      go (inl owns) = by_row (cases_eq (row_of (pivoted t r c) u) r)
        where
          by_row : (row_of (pivoted t r c) u ≡ r) ⊎ (row_of (pivoted t r c) u ≢ r)
              → sample (pivoted t r c) u ≡ zero_ℚ
          by_row (inl e) = ap (row_constant (pivoted t r c)) e
              ∙ constant-at_row t ok r c row inside ∙ solved_none
          by_row (inr other) =
              let old : owner t (row_of (pivoted t r c) u) ≡ u = sym (owner-at_other t ok r c row
              inside (row_of (pivoted t r c) u) other)
              ∙ owner-row_of (pivoted t r c) new_ok u owns in
              let within : row_of (pivoted t r c) u < length t.owners = omega
              (arith, owns, rows_stay) in
              let here : row_of t u ≡ row_of (pivoted t r c) u = ap (row_of t) (sym old)
              ∙ row_of-owner t ok (row_of (pivoted t r c) u) within in
              absurd (omega (arith, past, here, within))

  pub sample-pivoted : (u : ℕ) → sample (pivoted t r c) u ≡ sample t u
  sample-pivoted u = go (cases_lt (row_of t u) (length t.owners))
    where
      go : (row_of t u < length t.owners) ⊎ (length t.owners ≤ row_of t u)
          → sample (pivoted t r c) u ≡ sample t u
      go (inl owns) = subst (λ (w : ℕ). sample (pivoted t r c) w ≡ sample t w)
          (owner-row_of t ok u owns) (owner_stays (row_of t u) owns)
      go (inr past) = rowless_none u past ∙ sym (sample-no_row t ok u past)

-- also where it was not made
pub sample_stays : {V E : Type 0} (old new : Table) (r c : ℕ) (x : Result V E) → IsTable old
    → r < length old.owners → c < length old.columns → row_constant old r ≡ zero_ℚ
    → OnOk x (new ≡ pivoted old r c) → OnErr x (new ≡ old) → (u : ℕ) → sample new u ≡ sample old u
sample_stays old new r c (Ok v) ok row inside none made kept u =
    ap (λ (t : Table). sample t u) made ∙ sample-pivoted old ok r c row inside none u
sample_stays old new r c (Err e) ok row inside none made kept u =
    ap (λ (t : Table). sample t u) kept

-- a sample that stays is within restrictions that stay
pub within_stays : (old new : Table) → SameSystem old new
    → ((u : ℕ) → sample new u ≡ sample old u) → IsWithin old (sample old)
    → IsWithin new (sample new)
within_stays old new same values within u h = subst (λ (q : ℚ). zero_ℚ ≤ℚ q) (sym (values u))
    (within u ((same.restrictions u).1 h))
