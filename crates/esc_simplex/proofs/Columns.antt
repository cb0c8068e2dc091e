-- A column is added for a term that arithmetic does not look into.
use Rattle.std.proofs.Common.{◌≡◌, ◌≢◌, ℕ, ◌*◌, ◌<◌, ◌≤◌, cond, ℤ, pos, ◌*ℤ◌, List, [], ◌∷◌, ◌++◌, length, get_or, refl, sym, ap, ap₂, ◌∙◌, subst, arith, mul-pos, mul_comm}
use Rattle.std.specs.List.{All}
use Rattle.std.proofs.lemmas.List.{get_or-map, length_push}
use Rattle.std.proofs.lemmas.List.Elements.{All-head, All-tail, All-cons, All-nil}
use Rattle.esc_term.specs.declared.term.Term.{Term}
use Rattle.esc_term.specs.Equal.{same_term, same_term-is}
use Rattle.esc_frac.specs.Rational.{ℚ, ratio, one_ℚ, ◌+ℚ◌, ◌*ℚ◌, neg_ℚ}
use Rattle.esc_frac.specs.RationalLaws.{den_pos, ratio-parts}
use Rattle.esc_linear.specs.Forms.{form, opaque_form, part}
use Rattle.esc_linear.specs.Laws.{weighted}
use Rattle.esc_linear.specs.declared.form.Form.{Form}
use Rattle.esc_linear.specs.declared.form.Part.{Part as Addend}
use Rattle.esc_linear.proofs.PartLemmas.{differ_when}
use Rattle.esc_tableau.specs.Changes.{AddsColumn}
use Rattle.esc_tableau.specs.Table.{IsTable, Table}
use Rattle.esc_cover.specs.Assignment.{Assignment}
use Rattle.esc_cover.specs.Counterexample.{fraction}
use Rattle.esc_simplex.specs.Senses.{AreRowsOf, Sense, StandsFor, sense_fraction, sense_of, senses_of, term, term_at}
use Rattle.esc_simplex.specs.SimplexUndo.{AreSame}
use Rattle.esc_simplex.specs.Steps.{gap_constant}
use Rattle.esc_simplex.specs.View.{IsBuiltAt, IsSimplex, sense_in, senses_in}
use Rattle.esc_simplex.specs.declared.made.Made.{Made}
use Rattle.esc_simplex.specs.declared.made.Made.TheVariants as made
use Rattle.esc_simplex.specs.declared.simplex.Simplex.{Simplex}
use Rattle.esc_simplex.proofs.FormValue.{given, value-form, value-opaque_form}
use Rattle.esc_simplex.proofs.Fractions.{ratio-through}
use Rattle.esc_simplex.proofs.Gapped.{is_made_for, many, term_in}
use Rattle.esc_simplex.proofs.Grown.{none, nought, same_grown, simplex_grown}
use Rattle.esc_simplex.proofs.Kept.{rows_alike}
use Rattle.esc_simplex.proofs.Making.{stands_new}
use Rattle.esc_simplex.proofs.Rowed.{gap_fraction, point_less, point_more}

-- ---- one term gets another fraction

module _ (x : Assignment) (o : Term) (q : ℚ) where
  abbrev numerator_with : Term → ℤ
  numerator_with t = cond (same_term t o) (q.num *ℤ pos x.denominator)
      (x.numerator t *ℤ pos q.den)

  abbrev pub with_fraction : Assignment
  with_fraction = record {
    denominator = x.denominator * q.den;
    positive = mul-pos x.positive (den_pos q);
    numerator = numerator_with;
  }

  given_it : given with_fraction o ≡ q
  given_it =
      ap (λ b. ratio (cond b (q.num *ℤ pos x.denominator) (x.numerator o *ℤ pos q.den))
      (x.denominator * q.den)) ((same_term-is o o).1 refl)
      ∙ ap (λ (d : ℕ). ratio (q.num *ℤ pos x.denominator) d) (mul_comm x.denominator q.den)
      ∙ ratio-through q.num q.den x.denominator (den_pos q) x.positive ∙ ratio-parts q

  given_other : (t : Term) → t ≢ o → given with_fraction t ≡ given x t
  given_other t h =
      ap (λ b. ratio (cond b (q.num *ℤ pos x.denominator) (x.numerator t *ℤ pos q.den))
      (x.denominator * q.den)) (differ_when t o h)
      ∙ ratio-through (x.numerator t) x.denominator q.den x.positive (den_pos q)

  weighted_kept : (parts : List Addend) → All (λ a. a.term ≢ o) parts
      → weighted (given with_fraction) parts ≡ weighted (given x) parts
  unfolding weighted
  weighted_kept [] other = refl
  weighted_kept (a ∷ parts) other =
      ap₂ (λ y z. a.factor *ℚ y +ℚ z)
      (given_other a.term (All-head (λ (b : Addend). b.term ≢ o) a parts other))
      (weighted_kept parts (All-tail (λ (b : Addend). b.term ≢ o) a parts other))

  fraction_kept : (t : Term) → All (λ a. a.term ≢ o) (form t).parts
      → fraction with_fraction t ≡ fraction x t
  fraction_kept t other = value-form with_fraction t
      ∙ ap (λ y. (form t).constant +ℚ y) (weighted_kept (form t).parts other)
      ∙ sym (value-form x t)

-- ---- a new term, of which nothing older is made

module _ (v : Simplex) (h : IsSimplex v) (o : Term)
    (new : (u : ℕ) → StandsFor (senses_in v) u (term o) → ⊥) where
  entry_at : (u : ℕ) → u < length v.made → sense_in v u ≡ sense_of v.made (get_or v.made u none)
  unfolding senses_of
  entry_at u b = get_or-map (sense_of v.made) v.made u none nought b

  module _ (x : Assignment) (q : ℚ) where
    term_kept : (u : ℕ) (t : Term) → StandsFor (senses_in v) u (term t)
        → fraction (with_fraction x o q) t ≡ fraction x t
    unfolding term_in
    term_kept u t for =
        go (get_or v.made u none) (h.built u none there) (sym (entry_at u there) ∙ for.is)
      where
        there : u < length v.made
        there = omega (arith, for.there, many v)

        go : (m : Made) → IsBuiltAt v.made u m → sense_of v.made m ≡ term t
            → fraction (with_fraction x o q) t ≡ fraction x t
        go (made.Term s) built e = subst (λ (r : Term). fraction (with_fraction x o q) r
            ≡ fraction x r) (ap term_in e)
            (fraction_kept x o q s (λ k d b same. new (built k d b).0
            (subst (λ (r : Term). StandsFor (senses_in v) (built k d b).0 (term r)) same
            (built k d b).2)))
        go (made.Gap y w strict) built e = absurd (cc)

    sense_kept : (u : ℕ) → u < length (senses_in v)
        → sense_fraction (with_fraction x o q) (sense_in v u) ≡ sense_fraction x (sense_in v u)
    sense_kept u b =
        go (get_or v.made u none) (h.built u none there) (entry_at u there)
      where
        there : u < length v.made
        there = omega (arith, b, many v)

        older : (y : ℕ) (t : Term) → StandsFor (senses_in v) y (term t)
            → fraction (with_fraction x o q) (term_at v.made y) ≡ fraction x (term_at v.made y)
        older y t for = subst (λ (r : Term). fraction (with_fraction x o q) r ≡ fraction x r)
            (sym (is_made_for v.made (get_or v.made y none) t
            (sym (entry_at y (omega (arith, for.there, many v))) ∙ for.is)))
            (term_kept y t for)

        go : (m : Made) → IsBuiltAt v.made u m → sense_in v u ≡ sense_of v.made m
            → sense_fraction (with_fraction x o q) (sense_in v u) ≡ sense_fraction x (sense_in v u)
        go (made.Term t) built e =
            ap (sense_fraction (with_fraction x o q)) e
            ∙ term_kept u t (record { there = b; is = e }) ∙ ap (sense_fraction x) (sym e)
        go (made.Gap y w strict) built e =
            ap (sense_fraction (with_fraction x o q)) e
            ∙ gap_fraction (with_fraction x o q) _
            ∙ ap₂ (λ a c. a +ℚ neg_ℚ c +ℚ gap_constant strict)
            (older y built.0.of built.0.stands) (older w built.1.of built.1.stands)
            ∙ sym (gap_fraction x _) ∙ ap (sense_fraction x) (sym e)

  module _ (opaque : form o ≡ opaque_form o) (t : Table) (ok : IsTable t)
      (adds : AddsColumn v.tableau t) where
    rows : AreRowsOf (senses_in v ++ term o ∷ []) t
    rows = record {
      size = omega (arith, adds.size, h.rows.size, length_push (senses_in v) (term o));
      sound = λ p s.
          let found = h.rows.sound p ((adds.solutions p).1 s) in
          let q : ℚ = p (length (senses_in v)) in (
            with_fraction found.0 o q,
            point_more (senses_in v) (term o) (with_fraction found.0 o q) p
                (λ u b. found.1 u b ∙ sym (sense_kept found.0 q u b))
                (sym (value-opaque_form (with_fraction found.0 o q) o opaque
                ∙ given_it found.0 o q)),
          );
      complete = λ p x is. (adds.solutions p).0
          (h.rows.complete p x (point_less (senses_in v) (term o) x p is));
    }

    abbrev with_entry : Simplex
    with_entry = record v { tableau = t; made = v.made ++ made.Term o ∷ [] }

    abbrev StandsBefore : Addend → Type 0
    StandsBefore a = (w : ℕ) × (w ≤ length v.made)
        × StandsFor (senses_in with_entry) w (term a.term)

    then_built : ((u : ℕ) (s : Sense) → StandsFor (senses_in v) u s
        → StandsFor (senses_in with_entry) u s)
        → IsBuiltAt (v.made ++ made.Term o ∷ []) (length v.made) (made.Term o)
    then_built more = subst (λ (f : Form). All StandsBefore f.parts) (sym opaque)
        (All-cons StandsBefore (part o one_ℚ) [] it (All-nil StandsBefore))
      where
        it : StandsBefore (part o one_ℚ)
        it = (
          length v.made,
          omega arith,
          stands_new v h (made.Term o) refl with_entry refl (length v.made) refl,
        )

    unique : (s : Term) → term o ≡ term s → form s ≡ opaque_form s → (w : ℕ)
        → StandsFor (senses_in v) w (term s) → ⊥
    unique s e f w for = new w (subst (StandsFor (senses_in v) w) (sym e) for)

    pub column_simplex : IsSimplex with_entry
    column_simplex = simplex_grown v h (made.Term o) t ok rows adds.restrictions
        (adds.within h.within) refl then_built unique

    pub column_same : AreSame with_entry v
    column_same = same_grown v h (made.Term o) t ok rows adds.restrictions (adds.within h.within)
        refl then_built unique (record {
          rows = rows_alike v.unknowns v.tableau t adds.solutions;
          restricted = λ u. (
            λ m. (h.marked u).0 ((adds.restrictions u).1 m),
            λ c. (adds.restrictions u).0 ((h.marked u).1 c),
          );
        })
