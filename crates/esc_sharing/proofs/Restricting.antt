-- What unknowns that are made and restricted leave to the theory.
use Rattle.std.proofs.Common.{◌≡◌, ℕ, false, ℤ, pos, ◌-ℤ◌, ◌≤ℤ◌, List, [], ◌∷◌, map}
use Rattle.std.proofs.Common.{Result, Ok, Err, IfErr, get_or, ap, ap₂, sym, ◌∙◌, arith}
use Rattle.std.proofs.Common.{append-nil}
use Rattle.std.proofs.lemmas.Int.{ints}
use Rattle.std.proofs.lemmas.List.Elements.{All-cons, All-head, All-nil, All-tail, All-weaker}
use Rattle.esc_term.specs.declared.term.Term.{Term}
use Rattle.esc_cover.specs.Assignment.{Assignment, Gap, NoneNegative, value}
use Rattle.esc_egraph.specs.declared.state.State.{State}
use Rattle.esc_egraph.specs.declared.state.State.TheVariants.{Open, Closed}
use Rattle.esc_simplex.specs.Barred.{IsBarred}
use Rattle.esc_simplex.specs.Calls.{EqualEnds, IsEqualAt, IsForTerm, KeepsLists, Makes}
use Rattle.esc_simplex.specs.Calls.{both_gaps, gap_in}
use Rattle.esc_simplex.specs.MakingInside.{AllowsAlike, GapRestrictedEnds, IsUp}
use Rattle.esc_simplex.specs.Senses.{Sense, sense_value, term_at}
use Rattle.esc_simplex.specs.SimplexLaws.{barred_more}
use Rattle.esc_simplex.specs.View.{Allows, IsSimplex, numbers_in, sense_in, senses_in}
use Rattle.esc_simplex.specs.declared.simplex.Simplex.{Simplex}
use Rattle.esc_simplex.specs.declared.stop.Stop.{Stop}
use Rattle.esc_simplex.specs.declared.stop.Stop.TheVariants as stop
use Rattle.esc_simplex.proofs.Gapped.{stands_for_made}
use Rattle.esc_simplex.proofs.Grown.{map-places}
use Rattle.esc_simplex.proofs.Making.{term_later}
use Rattle.esc_sharing.specs.Admitted.{AdmitsWithSome, RestrictEnds}
use Rattle.esc_sharing.specs.Numbers.{AddsMade, MayStandFor}
use Rattle.esc_sharing.specs.Stops.{IsNoForm, UnlessMemory}

-- ---- nodes and rows

pub numbers_later : (v w : Simplex) (May : Sense → Type 0) → Makes v w May → IsSimplex v
    → numbers_in w ≡ numbers_in v
numbers_later v w May makes h =
    ap (map (λ (pair : ℕ × ℕ). (pair.0, term_at w.made pair.1))) makes.bound
    ∙ map-places _ _ v.bound (0, 0) (λ k b. ap (λ t. ((get_or v.bound k (0, 0)).0, t))
    (term_later v w May makes (get_or v.bound k (0, 0)).1 (h.bound k (0, 0) b)))

pub numbers_kept : (v w : Simplex) → KeepsLists v w → numbers_in w ≡ numbers_in v
numbers_kept v w keeps = ap₂ (λ ms bound. map (λ (pair : ℕ × ℕ). (pair.0, term_at ms pair.1))
    bound) keeps.made keeps.bound

pub adds_made : (v w : Simplex) (May : Sense → Type 0) (terms : List Term) → Makes v w May
    → ((s : Sense) → May s → MayStandFor terms s) → AddsMade (senses_in v) (senses_in w) terms
adds_made v w May terms makes may = record {
  more = makes.senses;
  made = makes.means;
  may = All-weaker May (MayStandFor terms) may makes.senses makes.may;
}

pub adds_nothing : (old new : List Sense) (terms : List Term) → new ≡ old
    → AddsMade old new terms
adds_nothing old new terms same = record {
  more = [];
  made = same ∙ sym (append-nil old);
  may = All-nil (MayStandFor terms);
}

-- ---- one gap

module _ (v w : Simplex) (g : Gap) where
  up_alone : (x : Assignment) → IsUp g x → NoneNegative x (g ∷ [])
  up_alone x up = All-cons (λ f. IsUp f x) g [] up (All-nil (λ f. IsUp f x))

  pub some_alike : AllowsAlike v w → AdmitsWithSome (Allows v) (Allows w) (g ∷ [])
  some_alike alike = (
    0,
    λ x. (λ a. ((alike x).0 a, All-nil (λ f. IsUp f x)), λ a. (alike x).1 a.0),
  )

  pub restrict_ends : (r : Result State Stop) → GapRestrictedEnds v w g r
      → RestrictEnds (Allows v) (Allows w) (g ∷ []) r
  restrict_ends (Ok Open) ends = (
    λ x. (
      λ a. let both = (ends.0 x).0 a in (both.0, up_alone x both.1),
      λ a. (ends.0 x).1 (a.0, All-head (λ f. IsUp f x) g [] a.1),
    ),
    (ends.1.0, ends.1.1, up_alone ends.1.0 ends.1.2),
  )
  restrict_ends (Ok Closed) ends = (
    some_alike ends.0,
    λ x a up. ends.1 x a (All-head (λ f. IsUp f x) g [] up),
  )
  restrict_ends (Err s) ends = some_alike ends

-- ---- two unknowns that are made equal

pub value_at : (v : Simplex) (u : ℕ) → IsForTerm v u → (x : Assignment)
    → sense_value x (sense_in v u) ≡ value x (term_at v.made u)
value_at v u for x = ap (sense_value x) (stands_for_made v u for).is

level : (a b : ℤ) → a ≡ b → pos 0 ≤ℤ (a -ℤ b -ℤ pos 0)
level a b e = omega (arith, ints, e)

meet : (a b : ℤ) → pos 0 ≤ℤ (a -ℤ b -ℤ pos 0) → pos 0 ≤ℤ (b -ℤ a -ℤ pos 0) → a ≡ b
meet a b h k = omega (arith, ints, h, k)

module _ (v w : Simplex) (u y : ℕ) (first : IsForTerm v u) (second : IsForTerm v y) where
  abbrev upward : Gap
  upward = gap_in v u y false

  abbrev downward : Gap
  downward = gap_in v y u false

  none_negative : (x : Assignment) → IsEqualAt v u y x → NoneNegative x (both_gaps v u y)
  none_negative x e =
      let same = sym (value_at v u first x) ∙ e.1 ∙ value_at v y second x in
      All-cons (λ f. IsUp f x) upward (downward ∷ []) (level _ _ same)
      (All-cons (λ f. IsUp f x) downward [] (level _ _ (sym same)) (All-nil (λ f. IsUp f x)))

  values_meet : (x : Assignment) → NoneNegative x (both_gaps v u y)
      → sense_value x (sense_in v u) ≡ sense_value x (sense_in v y)
  values_meet x up =
      let above = All-head (λ f. IsUp f x) upward (downward ∷ []) up in
      let below = All-head (λ f. IsUp f x) downward []
      (All-tail (λ f. IsUp f x) upward (downward ∷ []) up) in
      value_at v u first x ∙ meet (value x (term_at v.made u)) (value x (term_at v.made y)) above
      below ∙ sym (value_at v y second x)

  pub equal_restricts : (r : Result State Stop) → EqualEnds v w u y r
      → RestrictEnds (Allows v) (Allows w) (both_gaps v u y) r
  equal_restricts (Ok Open) ends = (
    ends.0,
    (ends.1.0, ends.1.1.0, none_negative ends.1.0 ends.1.1),
  )
  equal_restricts (Ok Closed) ends = (
    (ends.0.0, ends.0.2),
    λ x a up. ends.1 x (a, values_meet x up),
  )
  equal_restricts (Err s) ends = (ends.0, ends.2)

-- ---- stops

pub barred_wider : {V : Type 0} (w : Simplex) (Gaps Wider : Gap → Type 0)
    → ((g : Gap) → Gaps g → Wider g) → (r : Result V Stop) → IfErr r (IsBarred w (λ t. ⊥) Gaps)
    → IfErr r (IsBarred w (λ t. ⊥) Wider)
barred_wider w Gaps Wider wider (Ok x) barred = tt
barred_wider w Gaps Wider wider (Err s) barred =
    barred_more w (λ t. ⊥) (λ t. ⊥) Gaps Wider (λ t k. k) wider s barred

pub unless_memory : {V : Type 0} (w : Simplex) (Terms More : Term → Type 0)
    (Gaps Wider : Gap → Type 0) → ((t : Term) → Terms t → More t)
    → ((g : Gap) → Gaps g → Wider g) → (r : Result V Stop) → IfErr r (IsBarred w Terms Gaps)
    → IfErr r (UnlessMemory (IsBarred w More Wider))
unless_memory w Terms More Gaps Wider more wider (Ok x) barred = tt
unless_memory w Terms More Gaps Wider more wider (Err (stop.Spill j)) barred =
    barred_more w Terms More Gaps Wider more wider (stop.Spill j) barred
unless_memory w Terms More Gaps Wider more wider (Err (stop.Form t)) barred =
    barred_more w Terms More Gaps Wider more wider (stop.Form t) barred
unless_memory w Terms More Gaps Wider more wider (Err (stop.Pivots j)) barred =
    barred_more w Terms More Gaps Wider more wider (stop.Pivots j) barred
unless_memory w Terms More Gaps Wider more wider (Err stop.Memory) barred = tt

pub names_no_form : {V : Type 0} (w : Simplex) (Gaps : Gap → Type 0) (r : Result V Stop)
    → IfErr r (IsBarred w (λ t. ⊥) Gaps) → IfErr r IsNoForm
names_no_form w Gaps (Ok x) barred = tt
names_no_form w Gaps (Err (stop.Spill j)) barred = tt
names_no_form w Gaps (Err (stop.Form t)) barred = barred.0
names_no_form w Gaps (Err (stop.Pivots j)) barred = tt
names_no_form w Gaps (Err stop.Memory) barred = tt
