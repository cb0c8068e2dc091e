-- One entry more behind those that were made.
use Rattle.std.proofs.Common.{◌≡◌, ◌⊎◌, inl, inr, ℕ, suc, ◌<◌, ◌≤◌, pos, List, [], ◌∷◌, ◌++◌, length, map, get_or, refl, sym, ap, ap₂, ◌∙◌, subst, arith}
use Rattle.std.specs.Prelude.{◌↔◌}
use Rattle.std.proofs.lemmas.Bool.{cases_lt}
use Rattle.std.proofs.lemmas.List.{get_or_append_left, get_or_push, length_push, map-append}
use Rattle.std.proofs.lemmas.List.Elements.{All-contains}
use Rattle.esc_term.specs.declared.term.Term.{Term}
use Rattle.esc_term.specs.declared.term.Term.TheVariants.{Num}
use Rattle.esc_linear.specs.Forms.{form, opaque_form}
use Rattle.esc_tableau.specs.Table.{IsRestricted, IsTable, IsWithin, Table, sample}
use Rattle.esc_simplex.specs.Barred.{AreRowsAt}
use Rattle.esc_simplex.specs.Senses.{AreRowsOf, Sense, StandsFor, gap_of, sense_at, sense_of, senses_of, term, term_at, term_made}
use Rattle.esc_simplex.specs.SimplexUndo.{AreSame}
use Rattle.esc_simplex.specs.View.{IsBuiltAt, IsInUse, IsSimplex, OpaqueOnce, sense_in, senses_in}
use Rattle.esc_simplex.specs.declared.made.Made.{Made}
use Rattle.esc_simplex.specs.declared.made.Made.TheVariants as made
use Rattle.esc_simplex.specs.declared.simplex.Simplex.{Simplex}
use Rattle.esc_simplex.proofs.Gapped.{many}

abbrev pub none : Made
none = made.Term (Num (pos 0))

abbrev pub nought : Sense
nought = term (Num (pos 0))

-- functions that agree at each place of a list map it alike
pub map-places : {X Y : Type 0} (f g : X → Y) (xs : List X) (d : X)
    → ((k : ℕ) → k < length xs → f (get_or xs k d) ≡ g (get_or xs k d)) → map f xs ≡ map g xs
map-places f g [] d same = refl
map-places f g (x ∷ xs) d same = ap₂ (λ y ys. y ∷ ys) (same 0 (omega arith))
    (map-places f g xs d (λ k h. same (suc k) (omega arith)))

-- ---- entries among others

-- what is made of older unknowns means the same where these have the same terms
pub meaning_among : (ms ns : List Made) (u : ℕ) (m : Made) → IsBuiltAt ms u m
    → ((w : ℕ) → w < u → term_at ns w ≡ term_at ms w) → sense_of ns m ≡ sense_of ms m
meaning_among ms ns u (made.Term t) built same = refl
meaning_among ms ns u (made.Gap w y strict) built same =
    ap₂ (λ s t. gap_of (record { upper = s; lower = t; strict = strict }))
    (same w built.0.older) (same y built.1.older)

-- and what stands before it stands there too
pub built_among : (ms ns : List Made) (u : ℕ) → ((w : ℕ) (s : Sense) → w ≤ u
    → StandsFor (senses_of ms) w s → StandsFor (senses_of ns) w s)
    → (m : Made) → IsBuiltAt ms u m → IsBuiltAt ns u m
built_among ms ns u among (made.Term s) b = λ k d i. let at = b k d i
    in (at.0, at.1, among at.0 _ at.1 at.2)
built_among ms ns u among (made.Gap w y strict) b = (
  record {
    older = b.0.older;
    of = b.0.of;
    stands = among w (term b.0.of) (omega (arith, b.0.older)) b.0.stands;
  },
  record {
    older = b.1.older;
    of = b.1.of;
    stands = among y (term b.1.of) (omega (arith, b.1.older)) b.1.stands;
  },
)

module _ (ms : List Made) (m : Made) where
  old_term : (u : ℕ) → u < length ms → term_at (ms ++ m ∷ []) u ≡ term_at ms u
  old_term u h = ap term_made (get_or_append_left ms (m ∷ []) none u h)

  pub same_meaning : (x : Made) (u : ℕ) → IsBuiltAt ms u x → u ≤ length ms
      → sense_of (ms ++ m ∷ []) x ≡ sense_of ms x
  same_meaning x u built below = meaning_among ms (ms ++ m ∷ []) u x built
      (λ w b. old_term w (omega (arith, b, below)))

  pub senses_more : ((u : ℕ) (other : Made) → u < length ms → IsBuiltAt ms u (get_or ms u other))
      → sense_of (ms ++ m ∷ []) m ≡ sense_of ms m
      → senses_of (ms ++ m ∷ []) ≡ senses_of ms ++ sense_of ms m ∷ []
  unfolding senses_of
  senses_more built same =
      map-append (sense_of (ms ++ m ∷ [])) ms (m ∷ [])
      ∙ ap₂ (λ xs x. xs ++ x ∷ [])
      (map-places (sense_of (ms ++ m ∷ [])) (sense_of ms) ms none
      (λ k h. same_meaning (get_or ms k none) k (built k none h) (omega (arith, h))))
      same

module _ (v : Simplex) (h : IsSimplex v) (m : Made) (t : Table) (ok : IsTable t)
    (rows : AreRowsOf (senses_in v ++ sense_of v.made m ∷ []) t)
    (marks : (u : ℕ) → IsRestricted v.tableau u ↔ IsRestricted t u) (within : IsWithin t (sample t))
    (same : sense_of (v.made ++ m ∷ []) m ≡ sense_of v.made m)
    (built : ((u : ℕ) (s : Sense) → StandsFor (senses_in v) u s
    → StandsFor (senses_of (v.made ++ m ∷ [])) u s)
    → IsBuiltAt (v.made ++ m ∷ []) (length v.made) m)
    (opaque : (o : Term) → sense_of v.made m ≡ term o → form o ≡ opaque_form o → (w : ℕ)
    → StandsFor (senses_in v) w (term o) → ⊥) where
  abbrev grown : Simplex
  grown = record v { tableau = t; made = v.made ++ m ∷ [] }

  more : senses_in grown ≡ senses_in v ++ sense_of v.made m ∷ []
  more = senses_more v.made m h.built same

  sense_kept : (u : ℕ) → u < length v.made → sense_in grown u ≡ sense_in v u
  sense_kept u b = ap (λ ss. sense_at ss u) more ∙ get_or_append_left (senses_in v)
      (sense_of v.made m ∷ []) nought u (omega (arith, b, many v))

  stands_more : (u : ℕ) (s : Sense) → StandsFor (senses_in v) u s → StandsFor (senses_in grown) u s
  stands_more u s for = record {
    there = omega (arith, for.there, many v, many grown, length_push v.made m);
    is = sense_kept u (omega (arith, for.there, many v)) ∙ for.is;
  }

  stands_cases : (u : ℕ) (s : Sense) → StandsFor (senses_in grown) u s → StandsFor (senses_in v) u s
      ⊎ ((u ≡ length v.made) × (sense_of v.made m ≡ s))
  stands_cases u s for = go (cases_lt u (length v.made))
    where
      go : (u < length v.made) ⊎ (length v.made ≤ u) → StandsFor (senses_in v) u s
          ⊎ ((u ≡ length v.made) × (sense_of v.made m ≡ s))
      go (inl b) = inl (record {
        there = omega (arith, b, many v);
        is = sym (sense_kept u b)
            ∙ for.is;
      })
      go (inr g) =
          let same : u ≡ length v.made = omega (
            arith,
            g,
            for.there,
            many grown,
            length_push
                v.made m,
          ) in
          inr (
            same,
            sym (ap (λ ss. sense_at ss u) more
                ∙ get_or_push (senses_in v) (sense_of v.made m) nought u
                (omega (arith, same, many v))) ∙ for.is,
          )

  opaque_then : OpaqueOnce (senses_in grown)
  opaque_then u w o e a b = go (stands_cases u (term o) a) (stands_cases w (term o) b)
    where
      go : StandsFor (senses_in v) u (term o) ⊎ ((u ≡ length v.made) × (sense_of v.made m ≡ term o))
          → StandsFor (senses_in v) w (term o) ⊎ ((w ≡ length v.made)
          × (sense_of v.made m ≡ term o)) → u ≡ w
      go (inl x) (inl y) = h.opaque_once u w o e x y
      go (inl x) (inr y) = absurd (opaque o y.1 e u x)
      go (inr x) (inl y) = absurd (opaque o x.1 e w y)
      go (inr x) (inr y) = x.0 ∙ sym y.0

  built_then : (u : ℕ) (other : Made) → u < length (v.made ++ m ∷ [])
      → IsBuiltAt (v.made ++ m ∷ []) u (get_or (v.made ++ m ∷ []) u other)
  built_then u other b = go (cases_lt u (length v.made))
    where
      go : (u < length v.made) ⊎ (length v.made ≤ u)
          → IsBuiltAt (v.made ++ m ∷ []) u (get_or (v.made ++ m ∷ []) u other)
      go (inl l) = subst (IsBuiltAt (v.made ++ m ∷ []) u)
          (sym (get_or_append_left v.made (m ∷ []) other u l))
          (built_among v.made (v.made ++ m ∷ []) u (λ w s b. stands_more w s)
          (get_or v.made u other) (h.built u other l))
      go (inr g) =
          let same : length v.made ≡ u = omega (arith, g, b, length_push v.made m) in
          subst (IsBuiltAt (v.made ++ m ∷ []) u) (sym (get_or_push v.made m other u same))
          (subst (λ (k : ℕ). IsBuiltAt (v.made ++ m ∷ []) k m) same (built stands_more))

  in_use_more : (u : ℕ) (s : Sense) → IsInUse v u s → IsInUse grown u s
  in_use_more u s held = record { listed = held.listed; stands = stands_more u s held.stands }

  pub simplex_grown : IsSimplex grown
  simplex_grown = record {
    table = ok;
    rows = subst (λ ss. AreRowsOf ss t) (sym more) rows;
    opaque_once = opaque_then;
    built = built_then;
    listed = λ k d b. omega (arith, h.listed k d b, length_push v.made m);
    listed_once = h.listed_once;
    bound = λ k d b. ((h.bound k d b).0, in_use_more _ (term (h.bound k d b).0) (h.bound k d b).1);
    bound_once = h.bound_once;
    restricted = h.restricted;
    restricted_once = h.restricted_once;
    marked = λ u. (λ k. (h.marked u).0 ((marks u).1 k), λ c. (marks u).0 ((h.marked u).1 c));
    within = within;
  }

  pub same_grown : AreRowsAt v t → AreSame grown v
  same_grown at = record {
    unknowns = refl;
    senses = map-places (sense_in grown) (sense_in v) v.unknowns 0
        (λ k b. sense_kept (get_or v.unknowns k 0) (h.listed k 0 b));
    bound = refl;
    numbers = map-places _ _ v.bound (0, 0) (λ k b. ap (λ s. ((get_or v.bound k (0, 0)).0, s))
        (old_term v.made m (get_or v.bound k (0, 0)).1
        (omega (arith, (h.bound k (0, 0) b).1.stands.there, many v))));
    restricted = refl;
    restrictions = map-places (sense_in grown) (sense_in v) v.restricted 0
        (λ k b. sense_kept (get_or v.restricted k 0)
        (All-contains (λ u. u < length v.made) v.unknowns (get_or v.restricted k 0) h.listed
        (h.restricted k 0 b)));
    limit = refl;
    rows = record { forth = at.rows.back; back = at.rows.forth };
  }
