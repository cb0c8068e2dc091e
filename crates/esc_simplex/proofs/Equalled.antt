-- What it shows that one gap of two terms is restricted, and then the other one.
use Rattle.std.proofs.Common.{◌≡◌, append_assoc, inl, inr, ℕ, false, ℤ, pos, ◌-ℤ◌, ◌≤ℤ◌, Result, Ok, Err, IfErr, List, [], ◌∷◌, ◌++◌, length, map, sym, ap, ap₂, ◌∙◌, subst, subst₂, arith}
use Rattle.std.specs.Prelude.{◌↔◌}
use Rattle.std.specs.List.{All, Contains}
use Rattle.std.proofs.lemmas.Int.{ints}
use Rattle.std.proofs.lemmas.List.{map-append}
use Rattle.std.proofs.lemmas.List.Elements.{All-contains, All-cons, All-head, All-nil, All-push, All-tail, All-take, Contains-push}
use Rattle.std.proofs.Math.Seq.{take-append_seam}
use Rattle.esc_term.specs.declared.term.Term.{Term}
use Rattle.esc_term.proofs.Members.{Contains-here, Contains-later}
use Rattle.esc_egraph.specs.declared.state.State.{State}
use Rattle.esc_egraph.specs.declared.state.State.TheVariants.{Open, Closed}
use Rattle.esc_cover.specs.Assignment.{Assignment, Gap, gap, value}
use Rattle.esc_simplex.specs.Barred.{IsBarred}
use Rattle.esc_simplex.specs.Calls.{AllowsSome, AllowsWith, AtLeastZeroEnds, EqualEnds, EqualRestricts, GapIsRestricted, IsEqualAt, IsForTerm, IsRestrictedLast, KeepsLists, Makes, both_gaps, gap_in}
use Rattle.esc_simplex.specs.MakingInside.{AllowsAlike, AllowsAlso, GapRestrictedEnds, GapRestricts, IsUp}
use Rattle.esc_simplex.specs.Senses.{Sense, StandsFor, gap_of, sense_value, senses_of, term_at}
use Rattle.esc_simplex.specs.SimplexLaws.{barred_more}
use Rattle.esc_simplex.specs.View.{Allows, IsInUse, IsSimplex, restrictions_in, sense_in}
use Rattle.esc_simplex.specs.declared.made.Made.{Made}
use Rattle.esc_simplex.specs.declared.simplex.Simplex.{Simplex}
use Rattle.esc_simplex.specs.declared.stop.Stop.{Stop}
use Rattle.esc_simplex.proofs.Gapped.{stands_for_made}
use Rattle.esc_simplex.proofs.Making.{in_use_later, makes_both, makes_more, term_later}
use Rattle.esc_simplex.proofs.Points.{allowed_at, used_made}

-- ---- one gap

abbrev AllUp : Assignment → List Sense → Type 0
AllUp x ss = All (λ s. pos 0 ≤ℤ sense_value x s) ss

up_push : (x : Assignment) (ss : List Sense) (s : Sense) → AllUp x (ss ++ s ∷ [])
    ↔ (AllUp x ss × (pos 0 ≤ℤ sense_value x s))
up_push x ss s = (
  λ h. (
    subst (AllUp x) (take-append_seam ss (s ∷ []))
        (All-take (λ s. pos 0 ≤ℤ sense_value x s) (length ss) (ss ++ s ∷ []) h),
    All-contains (λ s. pos 0 ≤ℤ sense_value x s) (ss ++ s ∷ []) s h (Contains-push ss s),
  ),
  λ h. All-push (λ s. pos 0 ≤ℤ sense_value x s) ss s h.0 h.1,
)

-- from the view v by m, in which u stands for the gap, to w
module _ (v m w : Simplex) (hm : IsSimplex m) (u : ℕ) (g : Gap)
    (before : restrictions_in m ≡ restrictions_in v) (used : IsInUse m u (gap_of g))
    (keeps : KeepsLists m w) where
  allows_after : (rs : List ℕ) → w.restricted ≡ rs → (x : Assignment)
      → Allows w x ↔ AllUp x (map (sense_in m) rs)
  allows_after rs same x = subst₂ (λ ms us. Allows w x ↔ Allows (record m
      { made = ms; restricted = us }) x) keeps.made same ((λ a. a), (λ a. a))

  allows_before : (x : Assignment) → Allows m x ↔ Allows v x
  allows_before x = subst (λ ss. AllUp x (restrictions_in m) ↔ AllUp x ss) before
      ((λ a. a), (λ a. a))

  alike : w.restricted ≡ m.restricted → AllowsAlike v w
  alike same x = (
    λ a. (allows_before x).0 ((allows_after m.restricted same x).0 a),
    λ a. (allows_after m.restricted same x).1 ((allows_before x).1 a),
  )

  is_up : (x : Assignment) → (pos 0 ≤ℤ sense_value x (sense_in m u)) ↔ IsUp g x
  is_up x = subst (λ s. (pos 0 ≤ℤ sense_value x s) ↔ IsUp g x) (sym used.stands.is)
      ((λ a. a), (λ a. a))

  also : IsRestrictedLast m w u → AllowsAlso v w g
  also (inl (there, same)) x = (
    λ a.
        let am = (allows_after m.restricted same x).0 a in
        ((allows_before x).0 am, (is_up x).0 (allowed_at m hm u there x am)),
    λ a. (alike same x).1 a.0,
  )
  also (inr more) x =
      let pushed = allows_after (m.restricted ++ u ∷ []) more x in
      let split = up_push x (map (sense_in m) m.restricted) (sense_in m u) in
      let apart = map-append (sense_in m) m.restricted (u ∷ []) in (
        λ a.
            let both = split.0 (subst (AllUp x) apart (pushed.0 a)) in
            ((allows_before x).0 both.0, (is_up x).0 both.1),
        λ a. pushed.1 (subst (AllUp x) (sym apart)
            (split.1 ((allows_before x).1 a.0, (is_up x).1 a.1))),
      )

  pub gap_ends : (r : Result State Stop) → AtLeastZeroEnds m w u r → GapRestrictedEnds v w g r
  gap_ends (Ok Open) ends = (
    also ends.0,
    (ends.1.0, (allows_before ends.1.0).0 ends.1.1.0, (is_up ends.1.0).0 ends.1.1.1),
  )
  gap_ends (Ok Closed) ends = (
    alike ends.0,
    λ x a up. ends.1 x ((allows_before x).1 a, (is_up x).1 up),
  )
  gap_ends (Err s) ends = alike ends

-- from v to m it was made, and from there to w it was restricted
module _ (v m w : Simplex) (h : IsSimplex v) (u : ℕ) (g : Gap) (new : u ≡ length v.made)
    (before : m.restricted ≡ v.restricted) (used : IsInUse m u (gap_of g))
    (keeps : KeepsLists m w) where
  unrestricted : Contains m.restricted u → ⊥
  unrestricted c = absurd (omega (
    arith,
    new,
    used_made v h u (All-contains (Contains v.unknowns) v.restricted u h.restricted
        (subst (λ rs. Contains rs u) before c)),
  ))

  used_then : IsInUse w u (gap_of g)
  used_then = record {
    listed = subst (λ us. Contains us u) (sym keeps.unknowns) used.listed;
    stands = subst (λ (ms : List Made). StandsFor (senses_of ms) u (gap_of g)) (sym keeps.made)
        used.stands;
  }

  pub gap_restricts : (r : Result State Stop) → AtLeastZeroEnds m w u r → GapRestricts v w g r
  gap_restricts (Ok Open) ends = go ends.0
    where
      go : IsRestrictedLast m w u → GapIsRestricted v w g
      go (inl there) = absurd (unrestricted there.0)
      go (inr more) = (u, used_then, more ∙ ap (λ rs. rs ++ u ∷ []) before)
  gap_restricts (Ok Closed) ends = ends.0 ∙ before
  gap_restricts (Err s) ends = ends ∙ before

-- ---- both gaps

-- terms are equal where neither of their gaps is negative
gaps_meet : (x : Assignment) (s t : Term) → IsUp (gap s t false) x → IsUp (gap t s false) x
    → value x s ≡ value x t
gaps_meet x s t first second = meet (value x s) (value x t) first second
  where
    meet : (a b : ℤ) → pos 0 ≤ℤ (a -ℤ b -ℤ pos 0) → pos 0 ≤ℤ (b -ℤ a -ℤ pos 0)
        → a ≡ b
    meet a b h k = omega (arith, ints, h, k)

gap_level : (x : Assignment) (s t : Term) → value x s ≡ value x t → IsUp (gap s t false) x
gap_level x s t same = level (value x s) (value x t) same
  where
    level : (a b : ℤ) → a ≡ b → pos 0 ≤ℤ (a -ℤ b -ℤ pos 0)
    level a b e = omega (arith, ints, e)

module _ (v : Simplex) (u y : ℕ) (upper : IsForTerm v u) (lower : IsForTerm v y) where
  abbrev first : Gap
  first = gap_in v u y false

  abbrev second : Gap
  second = gap_in v y u false

  value_at : (z : ℕ) → IsForTerm v z → (x : Assignment) → sense_value x (sense_in v z)
      ≡ value x (term_at v.made z)
  value_at z for x = ap (sense_value x) (stands_for_made v z for).is

  equal_gaps : (x : Assignment) → IsEqualAt v u y x → IsUp first x × IsUp second x
  equal_gaps x e =
      let same = sym (value_at u upper x) ∙ e.1 ∙ value_at y lower x in (
        gap_level x (term_at v.made u) (term_at v.made y) same,
        gap_level x (term_at v.made y) (term_at v.made u) (sym same),
      )

  equal_from : (x : Assignment) → IsUp first x → IsUp second x → sense_value x (sense_in v u)
      ≡ sense_value x (sense_in v y)
  equal_from x a b = value_at u upper x
      ∙ gaps_meet x (term_at v.made u) (term_at v.made y) a b ∙ sym (value_at y lower x)

  none_up : (w : Simplex) → AllowsAlike v w → AllowsSome v w (both_gaps v u y)
  none_up w same = (
    0,
    omega arith,
    λ x. (λ a. ((same x).0 a, All-nil (λ g. IsUp g x)), λ a. (same x).1 a.0),
  )

  -- the first stops it
  pub stopped_at_first : (w : Simplex) (s : Stop) → GapRestrictedEnds v w first (Err s)
      → EqualEnds v w u y (Err s)
  stopped_at_first w s ends = none_up w ends

  pub closed_at_first : (w : Simplex) → GapRestrictedEnds v w first (Ok Closed)
      → EqualEnds v w u y (Ok Closed)
  closed_at_first w ends = (
    none_up w ends.0,
    λ x e. ends.1 x e.0 (equal_gaps x e).0,
  )

  -- the first stands, and the second follows
  module _ (m w : Simplex) (stands : AllowsAlso v m first) where
    one_up : AllowsAlike m w → AllowsSome v w (both_gaps v u y)
    one_up same = (
      1,
      omega arith,
      λ x. (
        λ a.
            let am = (stands x).0 ((same x).0 a) in
            (am.0, All-cons (λ g. IsUp g x) first [] am.1 (All-nil (λ g. IsUp g x))),
        λ a. (same x).1 ((stands x).1 (a.0, All-head (λ g. IsUp g x) first [] a.1)),
      ),
    )

    both_up : AllowsAlso m w second → AllowsWith v w (both_gaps v u y)
    both_up more x = (
      λ a.
          let aw = (more x).0 a in
          let am = (stands x).0 aw.0 in (
            am.0,
            All-cons (λ g. IsUp g x) first (second ∷ []) am.1
                (All-cons (λ g. IsUp g x) second [] aw.1 (All-nil (λ g. IsUp g x))),
          ),
      λ a. (more x).1 (
        (stands x).1 (a.0, All-head (λ g. IsUp g x) first (second ∷ []) a.1),
        All-head (λ g. IsUp g x) second []
            (All-tail (λ g. IsUp g x) first (second ∷ []) a.1),
      ),
    )

    second_ends : (r : Result State Stop) → GapRestrictedEnds m w second r
        → EqualEnds v w u y r
    second_ends (Ok Open) ends =
        let x = ends.1.0 in
        let av = (stands x).0 ends.1.1 in
        (both_up ends.0, (x, (av.0, equal_from x av.1 ends.1.2)))
    second_ends (Ok Closed) ends = (
      one_up ends.0,
      λ x e.
          let up = equal_gaps x e in ends.1 x ((stands x).1 (e.0, up.0)) up.1,
    )
    second_ends (Err s) ends = one_up ends

-- the gap that is restricted second, read when the first was
module _ (v m : Simplex) (u y : ℕ) (upper : IsForTerm v u) (lower : IsForTerm v y)
    (May : Sense → Type 0) (makes : Makes v m May) where
  pub gap_later : gap_in m y u false ≡ gap_in v y u false
  gap_later = ap₂ (λ s t. gap s t false) (term_later v m May makes y lower)
      (term_later v m May makes u upper)

  pub ends_second : (w : Simplex) → AllowsAlso v m (gap_in v u y false) → (r : Result State Stop)
      → GapRestrictedEnds m w (gap_in m y u false) r → EqualEnds v w u y r
  ends_second w stands r ends = second_ends v u y upper lower m w stands r
      (subst (λ g. GapRestrictedEnds m w g r) gap_later ends)

  -- and is restricted behind the first
  pub restricts_second : (w : Simplex) (Might : Sense → Type 0) → Makes m w Might
      → GapIsRestricted v m (gap_in v u y false) → (r : Result State Stop)
      → GapRestricts m w (gap_in m y u false) r → EqualRestricts v w u y r
  restricts_second w Might more first (Ok Open) ends = (
    first.0,
    ends.0,
    in_use_later m w Might more first.0 (gap_of (gap_in v u y false)) first.1,
    subst (λ g. IsInUse w ends.0 (gap_of g)) gap_later ends.1,
    ends.2 ∙ ap (λ rs. rs ++ ends.0 ∷ []) first.2
        ∙ append_assoc v.restricted (first.0 ∷ []) (ends.0 ∷ []),
  )
  restricts_second w Might more first (Ok Closed) ends = inr (
    first.0,
    in_use_later m w Might more first.0 (gap_of (gap_in v u y false)) first.1,
    ends ∙ first.2,
  )
  restricts_second w Might more first (Err s) ends = inr (
    first.0,
    in_use_later m w Might more first.0 (gap_of (gap_in v u y false)) first.1,
    ends ∙ first.2,
  )

-- ---- what was made for both

abbrev pub MayBoth : Simplex → ℕ → ℕ → Sense → Type 0
MayBoth v u y s = (g : Gap) × Contains (both_gaps v u y) g × (s ≡ gap_of g)

module _ (v : Simplex) (u y : ℕ) where
  pub first_of_both : Contains (both_gaps v u y) (gap_in v u y false)
  first_of_both = Contains-here (gap_in v u y false) (gap_in v y u false ∷ [])

  pub second_of_both : Contains (both_gaps v u y) (gap_in v y u false)
  second_of_both = Contains-later (gap_in v u y false) (gap_in v y u false ∷ [])
      (gap_in v y u false) (Contains-here (gap_in v y u false) [])

  pub makes_first : (m : Simplex) → Makes v m (λ s. s ≡ gap_of (gap_in v u y false))
      → Makes v m (MayBoth v u y)
  makes_first m = makes_more v m (λ s. s ≡ gap_of (gap_in v u y false)) (MayBoth v u y)
      (λ s e. (gap_in v u y false, first_of_both, e))

  pub makes_second : (m w : Simplex) → IsSimplex m → gap_in m y u false ≡ gap_in v y u false
      → Makes v m (λ s. s ≡ gap_of (gap_in v u y false))
      → Makes m w (λ s. s ≡ gap_of (gap_in m y u false)) → Makes v w (MayBoth v u y)
  makes_second m w hm same first then = makes_both v m w (MayBoth v u y) hm (makes_first m first)
      (makes_more m w (λ s. s ≡ gap_of (gap_in m y u false)) (MayBoth v u y)
      (λ s e. (gap_in v y u false, second_of_both, e ∙ ap gap_of same)) then)

-- ---- stops

pub barred_once : {V : Type 0} (w : Simplex) (g : Gap) (r : Result V Stop)
    → IfErr r (IsBarred w (λ t. ⊥) (λ f. ⊥)) → IfErr r (IsBarred w (λ t. ⊥) (λ f. f ≡ g))
barred_once w g (Ok x) barred = tt
barred_once w g (Err s) barred = barred_more w (λ t. ⊥) (λ t. ⊥) (λ f. ⊥) (λ f. f ≡ g)
    (λ t k. k) (λ f k. absurd k) s barred

pub barred_at_second : {V : Type 0} (v m w : Simplex) (u y : ℕ)
    → gap_in m y u false ≡ gap_in v y u false → (r : Result V Stop)
    → IfErr r (IsBarred w (λ t. ⊥) (λ f. f ≡ gap_in m y u false))
    → IfErr r (IsBarred w (λ t. ⊥) (Contains (both_gaps v u y)))
barred_at_second v m w u y same (Ok x) barred = tt
barred_at_second v m w u y same (Err s) barred = barred_more w (λ t. ⊥) (λ t. ⊥)
    (λ f. f ≡ gap_in m y u false) (Contains (both_gaps v u y)) (λ t k. k)
    (λ f e. subst (Contains (both_gaps v u y)) (sym (e ∙ same)) (second_of_both v u y)) s barred
