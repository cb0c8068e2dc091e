-- The facts of a log, each at its place with its formula.
use Rattle.std.proofs.Common.{◌≡◌, ℕ, zero, suc, ◌+◌, ◌<◌, List, [], ◌∷◌, length, get_or, refl, ap}
use Rattle.std.proofs.Common.{ap₂, sym, ◌∙◌, ◌≤◌, arith}
use Rattle.esc_term.specs.declared.formula.Formula.{Formula}
use Rattle.esc_fact.specs.declared.fact.Fact.{Fact}
use Rattle.esc_report.specs.LogText.{Entry, entries_from, entry}

pub length-entries : (place : ℕ) (facts : List Fact) (formulas : List Formula)
    → length formulas ≡ length facts → length (entries_from place facts formulas) ≡ length facts
length-entries place [] formulas same = refl
length-entries place (fact ∷ facts) [] same = absurd (omega (arith, same))
length-entries place (fact ∷ facts) (f ∷ fs) same =
    ap suc (length-entries (place + 1) facts fs (omega (arith, same)))

-- the entry at a place, whatever stands for places behind the last
pub get_or-entries : (place : ℕ) (facts : List Fact) (formulas : List Formula) (i : ℕ)
    (fact : Fact) (f : Formula) (e : Entry)
    → length formulas ≡ length facts → i < length facts
    → get_or (entries_from place facts formulas) i e
    ≡ entry (place + i) (get_or facts i fact) (get_or formulas i f)
get_or-entries place [] formulas i fact f e same h = absurd (omega (arith, h))
get_or-entries place (d ∷ ds) [] i fact f e same h = absurd (omega (arith, same))
get_or-entries place (d ∷ ds) (g ∷ gs) zero fact f e same h =
    let at : place ≡ place + 0 = omega arith in
    ap (λ n. entry n d g) at
get_or-entries place (d ∷ ds) (g ∷ gs) (suc i) fact f e same h =
    let at : (place + 1) + i ≡ place + suc i = omega arith in
    get_or-entries (place + 1) ds gs i fact f e (omega (arith, same)) (omega (arith, h))
    ∙ ap (λ n. entry n (get_or ds i fact) (get_or gs i f)) at

module _ (facts : List Fact) (formulas : List Formula) (same : length formulas ≡ length facts) where
  pub entry_at : (i : ℕ) (fact : Fact) (f : Formula) → i < length facts
      → fact ≡ get_or facts i fact → f ≡ get_or formulas i f
      → get_or (entries_from 0 facts formulas) i (entry i fact f) ≡ entry i fact f
  entry_at i fact f h fact_is formula_is =
      let at : 0 + i ≡ i = omega arith in
      get_or-entries 0 facts formulas i fact f (entry i fact f) same h
      ∙ ap (λ n. entry n (get_or facts i fact) (get_or formulas i f)) at
      ∙ ap₂ (λ d g. entry i d g) (sym fact_is) (sym formula_is)

  pub before_entries : (i : ℕ) → i < length facts → i < length (entries_from 0 facts formulas)
  before_entries i h = omega (arith, h, length-entries 0 facts formulas same)

  pub past_entries : (i : ℕ) → length facts ≤ i → length (entries_from 0 facts formulas) ≤ i
  past_entries i h = omega (arith, h, length-entries 0 facts formulas same)
