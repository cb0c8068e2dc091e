-- Taking records back is lawful.
use Rattle.std.proofs.Common.{◌⊎◌, inl, inr, ◌≤◌, Bool, true, false, if◌then◌else◌, nat_lt, get_or, refl, sym, ap, subst, ◌∙◌, arith, length-set, eqb-true}
use Rattle.std.specs.Prelude.{◌≡◌, ℕ, ◌-◌, ◌<◌, List, length, map, take}
use Rattle.std.specs.List.{All, Contains}
use Rattle.std.proofs.lemmas.Bool.{cases_lt}
use Rattle.std.proofs.lemmas.List.{get_or-map, set_past, take-map}
use Rattle.std.proofs.lemmas.List.Elements.{All-take}
use Rattle.esc_frac.specs.Rational.{◌+ℚ◌}
use Rattle.esc_rows.specs.Rows.{Point, combination}
use Rattle.esc_rows.proofs.RowLemmas.{map-set_same}
use Rattle.esc_tableau.proofs.Counting.{passes_at_first}
use Rattle.esc_tableau.specs.Changes.{marked, with_mark}
use Rattle.esc_tableau.specs.Table.{Table, IsSolution, holds, nobody, place_of, row_constant, row_entries, row_of, size, unknowns}
use Rattle.esc_tableau.specs.declared.owner.Owner.{Owner}
use Rattle.std.specs.Prelude.{pos, ◌≤ℤ◌, Option, Some, None}
use Rattle.esc_term.specs.declared.term.Term.{Term}
use Rattle.esc_tableau.specs.Listed.{tabled}
use Rattle.esc_tableau.specs.declared.answers.Step.{Step}
use Rattle.esc_tableau.specs.declared.answers.Step.TheVariants.{Row, Ratio, Pivot}
use Rattle.esc_tableau.specs.declared.listed.Rows.{Rows}
use Rattle.esc_trail.specs.Undo.{IsLawful}
use Rattle.esc_cover.specs.Assignment.{Assignment, Gap}
use Rattle.esc_simplex.specs.Barred.{AreSensesAt, IsBarred, KeepsRows, KeptStepJams, MayBeMade}
use Rattle.esc_simplex.specs.declared.stop.Stop.{Stop}
use Rattle.esc_simplex.specs.declared.stop.Stop.TheVariants as stop
use Rattle.esc_simplex.specs.SimplexUndo.{AreSame, CanGoBack, HaveSameRows, freed, newest, simplex_back, simplex_undo}
use Rattle.esc_simplex.specs.Senses.{Sense, gap_of, sense_value, term, term_at}
use Rattle.esc_simplex.specs.View.{Allows, sense_in}
use Rattle.esc_simplex.specs.declared.record.SimplexRec.{SimplexRec}
use Rattle.esc_simplex.specs.declared.record.SimplexRec.TheVariants.{Listed, Bound, Restricted}
use Rattle.esc_simplex.specs.declared.simplex.Simplex.{Simplex}

-- ---- a mark changes no solution

module _ (os : List Owner) (u : ℕ) (b : Bool) where
  at_place : place_of os u < length os → u ≡ (get_or os (place_of os u) nobody).unknown
  at_place inside = sym (eqb-true _ u (passes_at_first (holds u) os nobody inside))

  marked_unknowns : unknowns (marked os u b (place_of os u)) ≡ unknowns os
  marked_unknowns = go (cases_lt (place_of os u) (length os))
    where
      go : (place_of os u < length os) ⊎ (length os ≤ place_of os u)
          → unknowns (marked os u b (place_of os u)) ≡ unknowns os
      go (inl h) = map-set_same (λ o. o.unknown) os (place_of os u)
          (record { unknown = u; restricted = b }) nobody (at_place h)
      go (inr h) = ap unknowns (set_past os (place_of os u)
          (record { unknown = u; restricted = b }) h)

  marked_unknown : (i : ℕ) → i < length os → (get_or (marked os u b (place_of os u)) i
      nobody).unknown ≡ (get_or os i nobody).unknown
  marked_unknown i inside =
      let within : i < length (marked os u b (place_of os u)) = omega
      (arith, length-set os (place_of os u) (record { unknown = u; restricted = b })) in
      sym (get_or-map (λ o. o.unknown) (marked os u b (place_of os u)) i nobody 0 within)
      ∙ ap (λ (us : List ℕ). get_or us i 0) marked_unknowns
      ∙ get_or-map (λ o. o.unknown) os i nobody 0 inside

module _ (t : Table) (u : ℕ) (b : Bool) (p : Point) where
  owners_long : length (with_mark t u b).owners ≡ length t.owners
  owners_long = length-set t.owners (row_of t u) (record { unknown = u; restricted = b })

  mark_more : IsSolution t p → IsSolution (with_mark t u b) p
  mark_more holds r row =
      let row' : r < length t.owners = omega (arith, owners_long) in
      ap p (marked_unknown t.owners u b r row') ∙ holds r row'
      ∙ ap (λ (cs : List ℕ). combination p (row_entries t r) cs +ℚ row_constant t r)
      (sym (marked_unknowns t.columns u b))

  mark_less : IsSolution (with_mark t u b) p → IsSolution t p
  mark_less holds r row =
      ap p (sym (marked_unknown t.owners u b r row)) ∙ holds r (omega (arith, owners_long))
      ∙ ap (λ (cs : List ℕ). combination p (row_entries t r) cs +ℚ row_constant t r)
      (marked_unknowns t.columns u b)

pub freed_more : (t : Table) (u : ℕ) (p : Point) → IsSolution t p → IsSolution (freed t u) p
freed_more t u p h = go (nat_lt u (size t))
  where
    go : (b : Bool) → IsSolution (if b then with_mark t u false else t) p
    go true = mark_more t u false p h
    go false = h

pub freed_less : (t : Table) (u : ℕ) (p : Point) → IsSolution (freed t u) p → IsSolution t p
freed_less t u p h = go (nat_lt u (size t)) h
  where
    go : (b : Bool) → IsSolution (if b then with_mark t u false else t) p → IsSolution t p
    go true k = mark_less t u false p k
    go false k = k

-- ---- the same rows

rows_refl : (us : List ℕ) (t : Table) → HaveSameRows us t t
rows_refl us t = record {
  forth = λ p h. (p, h, (λ k d b. refl));
  back = λ p h.
      (p, h, (λ k d b. refl));
}

rows_sym : (us : List ℕ) (t s : Table) → HaveSameRows us t s → HaveSameRows us s t
rows_sym us t s h = record { forth = h.back; back = h.forth }

rows_trans : (us : List ℕ) (t s r : Table) → HaveSameRows us t s → HaveSameRows us s r
    → HaveSameRows us t r
rows_trans us t s r h k = record {
  forth = λ p a. let b = h.forth p a in let c = k.forth b.0 b.1
      in (c.0, c.1, (λ i d l. c.2 i d l ∙ b.2 i d l));
  back = λ p a. let b = k.back p a in let c = h.back b.0 b.1
      in (c.0, c.1, (λ i d l. c.2 i d l ∙ b.2 i d l));
}

same_sym : (v w : Simplex) → AreSame v w → AreSame w v
same_sym v w h = record {
  unknowns = sym h.unknowns;
  senses = sym h.senses;
  bound = sym h.bound;
  numbers = sym h.numbers;
  restricted = sym h.restricted;
  restrictions = sym h.restrictions;
  limit = sym h.limit;
  rows = subst (λ us. HaveSameRows us w.tableau v.tableau) h.unknowns
      (rows_sym v.unknowns v.tableau w.tableau h.rows);
}

same_trans : (u v w : Simplex) → AreSame u v → AreSame v w → AreSame u w
same_trans u v w h k = record {
  unknowns = h.unknowns ∙ k.unknowns;
  senses = h.senses ∙ k.senses;
  bound = h.bound ∙ k.bound;
  numbers = h.numbers ∙ k.numbers;
  restricted = h.restricted ∙ k.restricted;
  restrictions = h.restrictions ∙ k.restrictions;
  limit = h.limit ∙ k.limit;
  rows = rows_trans u.unknowns u.tableau v.tableau w.tableau h.rows
      (subst (λ us. HaveSameRows us v.tableau w.tableau) (sym h.unknowns) k.rows);
}

rows_freed : (us : List ℕ) (t s : Table) (u w : ℕ) → HaveSameRows us t s
    → HaveSameRows us (freed t u) (freed s w)
rows_freed us t s u w h = record {
  forth = λ p a. let b = h.forth p (freed_less t u p a) in (b.0, freed_more s w b.0 b.1, b.2);
  back = λ p a. let b = h.back p (freed_less s w p a) in (b.0, freed_more t u b.0 b.1, b.2);
}

rows_fewer : (us : List ℕ) (n : ℕ) (t s : Table) → HaveSameRows us t s
    → HaveSameRows (take n us) t s
rows_fewer us n t s h = record {
  forth = λ p a. let b = h.forth p a in (b.0, b.1, All-take (λ u. b.0 u ≡ p u) n us b.2);
  back = λ p a. let b = h.back p a in (b.0, b.1, All-take (λ u. b.0 u ≡ p u) n us b.2);
}

same_can : (v w : Simplex) (rec : SimplexRec) → AreSame v w → CanGoBack w rec → CanGoBack v rec
same_can v w Listed h can = (
  subst (λ us. 0 < length us) (sym h.unknowns) can.0,
  subst (λ us. Contains v.restricted (newest us) → ⊥) (sym h.unknowns)
      (subst (λ rs. Contains rs (newest w.unknowns) → ⊥) (sym h.restricted) can.1),
  subst (λ us. Contains (map (λ pair. pair.1) v.bound) (newest us) → ⊥) (sym h.unknowns)
      (subst (λ bs. Contains (map (λ pair. pair.1) bs) (newest w.unknowns)
      → ⊥) (sym h.bound) can.2),
)
same_can v w Bound h can = subst (λ xs. 0 < length xs) (sym h.bound) can
same_can v w Restricted h can = subst (λ xs. 0 < length xs) (sym h.restricted) can

-- lists that are equal, and give equal lists, do so too without their newest entry
shorter : {X Y : Type 0} (f g : X → Y) (xs ys : List X) → xs ≡ ys → map f xs ≡ map g ys
    → map f (take (length xs - 1) xs) ≡ map g (take (length ys - 1) ys)
shorter f g xs ys same given =
    sym (take-map f (length xs - 1) xs) ∙ ap (λ us. take (length us - 1) (map f xs)) same
    ∙ ap (take (length ys - 1)) given ∙ take-map g (length ys - 1) ys

same_back : (v w : Simplex) (rec : SimplexRec) → AreSame v w → CanGoBack w rec
    → AreSame (simplex_back v rec) (simplex_back w rec)
same_back v w Listed h can = record {
  unknowns = ap (λ us. take (length us - 1) us) h.unknowns;
  senses = shorter (sense_in v) (sense_in w) v.unknowns w.unknowns h.unknowns h.senses;
  bound = h.bound;
  numbers = h.numbers;
  restricted = h.restricted;
  restrictions = h.restrictions;
  limit = h.limit;
  rows = rows_fewer v.unknowns (length v.unknowns - 1) v.tableau w.tableau h.rows;
}
same_back v w Bound h can = record {
  unknowns = h.unknowns;
  senses = h.senses;
  bound = ap (λ xs. take (length xs - 1) xs) h.bound;
  numbers = shorter (λ pair. (pair.0, term_at v.made pair.1))
      (λ pair. (pair.0, term_at w.made pair.1)) v.bound w.bound h.bound h.numbers;
  restricted = h.restricted;
  restrictions = h.restrictions;
  limit = h.limit;
  rows = h.rows;
}
same_back v w Restricted h can = record {
  unknowns = h.unknowns;
  senses = h.senses;
  bound = h.bound;
  numbers = h.numbers;
  restricted = ap (λ xs. take (length xs - 1) xs) h.restricted;
  restrictions = shorter (sense_in v) (sense_in w) v.restricted w.restricted h.restricted
      h.restrictions;
  limit = h.limit;
  rows = rows_freed v.unknowns v.tableau w.tableau (newest v.restricted)
      (newest w.restricted) h.rows;
}

pub simplex_lawful : IsLawful simplex_undo
simplex_lawful = record {
  reflexive = λ v. record {
    unknowns = refl;
    senses = refl;
    bound = refl;
    numbers = refl;
    restricted
        = refl;
    restrictions = refl;
    limit = refl;
    rows = rows_refl v.unknowns v.tableau;
  };
  symmetric = same_sym;
  transitive = same_trans;
  can_alike = same_can;
  back_alike = same_back;
}

-- ---- what follows for those that stand on it

pub same_allows : (v w : Simplex) → AreSame v w → (x : Assignment) → Allows v x → Allows w x
same_allows v w h x = subst (λ ss. All (λ s. pos 0 ≤ℤ sense_value x s) ss) h.restrictions

pub keeps_more : (v : Simplex) (Gaps Wider : Gap → Type 0) (rows : Rows) (So Also : List Sense
    → Table → Type 0)
    → ((g : Gap) → Gaps g → Wider g) → ((senses : List Sense) (t : Table) → So senses t
    → Also senses t) → KeepsRows v Gaps rows So → KeepsRows v Wider rows Also
keeps_more v Gaps Wider rows So Also wider further kept = record {
  senses = kept.senses;
  senses_are = go kept.senses_are;
  kept = kept.kept;
  at_view = kept.at_view;
  so = further kept.senses (tabled rows) kept.so;
}
  where
    go : AreSensesAt v Gaps kept.senses → AreSensesAt v Wider kept.senses
    go (inl e) = inl e
    go (inr e) = inr (e.0, wider e.0 e.1, e.2)

made_more : (senses : List Sense) (Terms More : Term → Type 0) (Gaps Wider : Gap → Type 0)
    → ((t : Term) → Terms t → More t) → ((g : Gap) → Gaps g → Wider g)
    → (s : Sense) → MayBeMade senses Terms Gaps s → MayBeMade senses More Wider s
made_more senses Terms More Gaps Wider more wider (term t) (inl h) = inl (more t h)
made_more senses Terms More Gaps Wider more wider (term t) (inr h) = inr h
made_more senses Terms More Gaps Wider more wider (gap_of g) (inl h) = inl (wider g h)
made_more senses Terms More Gaps Wider more wider (gap_of g) (inr h) = inr h

step_more : (May Might : Sense → Type 0) → ((s : Sense) → May s → Might s)
    → (senses : List Sense) (t : Table) (u : Option ℕ) (step : Step)
    → KeptStepJams May senses t u step → KeptStepJams Might senses t u step
step_more May Might more senses t None Row h = (h.0, more h.0 h.1, h.2)
step_more May Might more senses t None (Ratio w x) h = h
step_more May Might more senses t None (Pivot w x) h = h
step_more May Might more senses t (Some u) Row h = h
step_more May Might more senses t (Some u) (Ratio w x) h = h
step_more May Might more senses t (Some u) (Pivot w x) h = h

pub barred_more : (v : Simplex) (Terms More : Term → Type 0) (Gaps Wider : Gap → Type 0)
    → ((t : Term) → Terms t → More t) → ((g : Gap) → Gaps g → Wider g)
    → (s : Stop) → IsBarred v Terms Gaps s → IsBarred v More Wider s
barred_more v Terms More Gaps Wider more wider (stop.Spill j) h =
    keeps_more v Gaps Wider j.rows _ _ wider
    (λ senses t. step_more (MayBeMade senses Terms Gaps) (MayBeMade senses More Wider)
    (made_more senses Terms More Gaps Wider more wider) senses t j.unknown j.step) h
barred_more v Terms More Gaps Wider more wider (stop.Form t) h = (more t h.0, h.1)
barred_more v Terms More Gaps Wider more wider (stop.Pivots j) h
    = (h.0, keeps_more v Gaps Wider j.rows _ _ wider (λ senses t k. k) h.1)
barred_more v Terms More Gaps Wider more wider stop.Memory h = tt
