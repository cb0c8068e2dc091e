-- What calls that make unknowns add.
use Rattle.std.proofs.Common.{◌≡◌, ℕ, ◌<◌, pos, ◌≤ℤ◌, [], ◌∷◌, ◌++◌, Result, Ok, Err, OnOk, OnErr, length, map, get_or, sym, ap, ◌∙◌, subst, arith, append-nil, append_assoc, length-append}
use Rattle.std.specs.Prelude.{◌↔◌}
use Rattle.std.specs.List.{All, Contains}
use Rattle.std.proofs.lemmas.List.{get_or_append_left, get_or_push, length_push}
use Rattle.std.proofs.lemmas.List.Elements.{All-append, All-contains, All-nil, All-cons, All-weaker, Contains-append_left, Contains-append_right, Contains-get_or, Contains-push}
use Rattle.esc_simplex.specs.Calls.{IsForTerm, KeepsLists, Makes}
use Rattle.esc_simplex.specs.MakingInside.{AllowsAlike}
use Rattle.esc_simplex.specs.Senses.{Sense, StandsFor, sense_at, sense_of, sense_value, senses_of, term, term_at}
use Rattle.esc_simplex.specs.View.{IsInUse, IsSimplex, restrictions_in, sense_in, senses_in}
use Rattle.esc_simplex.specs.declared.made.Made.{Made}
use Rattle.esc_simplex.specs.declared.simplex.Simplex.{Simplex}
use Rattle.esc_simplex.proofs.Gapped.{many, stands_for_made, term_in}
use Rattle.esc_simplex.proofs.Grown.{map-places, nought, senses_more}

pub makes_kept : (v w : Simplex) (May : Sense → Type 0) → w.made ≡ v.made → w.unknowns ≡ v.unknowns
    → w.bound ≡ v.bound → w.limit ≡ v.limit → Makes v w May
makes_kept v w May made unknowns bound limit = record {
  entries = [];
  made = made ∙ sym (append-nil v.made);
  senses = [];
  means = ap senses_of made ∙ sym (append-nil (senses_in v));
  may = All-nil May;
  unknowns = [];
  listed = unknowns ∙ sym (append-nil v.unknowns);
  listed_may = All-nil (λ u. May (sense_in w u));
  bound = bound;
  limit = limit;
}

module _ (v : Simplex) (h : IsSimplex v) (m : Made)
    (means : sense_of (v.made ++ m ∷ []) m ≡ sense_of v.made m)
    (w : Simplex) (made : w.made ≡ v.made ++ m ∷ []) where
  senses_then : senses_in w ≡ senses_in v ++ sense_of v.made m ∷ []
  senses_then = ap senses_of made ∙ senses_more v.made m h.built means

  pub sense_new : (u : ℕ) → u ≡ length v.made → sense_in w u ≡ sense_of v.made m
  sense_new u e = ap (λ ss. sense_at ss u) senses_then
      ∙ get_or_push (senses_in v) (sense_of v.made m) nought u (many v ∙ sym e)

  pub stands_new : (u : ℕ) → u ≡ length v.made → StandsFor (senses_in w) u (sense_of v.made m)
  stands_new u e = record {
    there = omega (
      arith,
      e,
      many v,
      ap length senses_then,
      length_push (senses_in v)
          (sense_of v.made m),
    );
    is = sense_new u e;
  }

  pub new_there : (u : ℕ) → u ≡ length v.made → u < length w.made
  new_there u e = omega (arith, e, ap length made, length_push v.made m)

  pub new_unlisted : (u : ℕ) → u ≡ length v.made → w.unknowns ≡ v.unknowns
      → Contains w.unknowns u → ⊥
  new_unlisted u e same c = absurd (omega (
    arith,
    e,
    All-contains (λ y. y < length v.made)
        v.unknowns u h.listed (subst (λ us. Contains us u) same c),
  ))

  module _ (May : Sense → Type 0) (may : May (sense_of v.made m)) (bound : w.bound ≡ v.bound)
      (limit : w.limit ≡ v.limit) where
    pub makes_made : w.unknowns ≡ v.unknowns → Makes v w May
    makes_made same = record {
      entries = m ∷ [];
      made = made;
      senses = sense_of v.made m ∷ [];
      means = senses_then;
      may = All-cons May (sense_of v.made m) [] may (All-nil May);
      unknowns = [];
      listed = same ∙ sym (append-nil v.unknowns);
      listed_may = All-nil (λ u. May (sense_in w u));
      bound = bound;
      limit = limit;
    }

    pub makes_listed : (u : ℕ) → u ≡ length v.made → w.unknowns ≡ v.unknowns ++ u ∷ []
        → Makes v w May
    makes_listed u e same = record {
      entries = m ∷ [];
      made = made;
      senses = sense_of v.made m ∷ [];
      means = senses_then;
      may = All-cons May (sense_of v.made m) [] may (All-nil May);
      unknowns = u ∷ [];
      listed = same;
      listed_may = All-cons (λ y. May (sense_in w y)) u [] (subst May (sym (sense_new u e)) may)
          (All-nil (λ y. May (sense_in w y)));
      bound = bound;
      limit = limit;
    }

-- ---- what stood before such a call

module _ (v w : Simplex) (May : Sense → Type 0) (makes : Makes v w May) where
  pub sense_later : (u : ℕ) → u < length (senses_in v) → sense_in w u ≡ sense_in v u
  sense_later u b = ap (λ ss. sense_at ss u) makes.means
      ∙ get_or_append_left (senses_in v) makes.senses nought u b

  pub stands_later : (u : ℕ) (s : Sense) → StandsFor (senses_in v) u s
      → StandsFor (senses_in w) u s
  stands_later u s for = record {
    there = omega (
      arith,
      for.there,
      ap length makes.means,
      length-append (senses_in v) makes.senses,
    );
    is = sense_later u for.there ∙ for.is;
  }

  pub in_use_later : (u : ℕ) (s : Sense) → IsInUse v u s → IsInUse w u s
  in_use_later u s held = record {
    listed = subst (λ us. Contains us u) (sym makes.listed)
        (Contains-append_left v.unknowns makes.unknowns u held.listed);
    stands = stands_later u s held.stands;
  }

  pub for_later : (u : ℕ) → IsForTerm v u → IsForTerm w u
  for_later u for = (for.0, in_use_later u (term for.0) for.1)

  -- and such an unknown has the same term
  pub term_later : (u : ℕ) → IsForTerm v u → term_at w.made u ≡ term_at v.made u
  unfolding term_in
  term_later u for =
      let before = stands_later u _ (stands_for_made v u for) in
      let after = stands_for_made w u (for_later u for) in
      ap term_in (sym after.is ∙ before.is)

  pub restrictions_later : IsSimplex v → w.restricted ≡ v.restricted → restrictions_in w
      ≡ restrictions_in v
  restrictions_later h same =
      ap (map (sense_in w)) same
      ∙ map-places (sense_in w) (sense_in v) v.restricted 0 (λ k b. sense_later
      (get_or v.restricted k 0) (omega (
        arith,
        many v,
        All-contains (λ u. u < length v.made) v.unknowns (get_or v.restricted k 0) h.listed
            (h.restricted k 0 b),
      )))

-- ---- calls one after another

pub makes_more : (v w : Simplex) (May Might : Sense → Type 0) → ((s : Sense) → May s → Might s)
    → Makes v w May → Makes v w Might
makes_more v w May Might more makes = record {
  entries = makes.entries;
  made = makes.made;
  senses = makes.senses;
  means = makes.means;
  may = All-weaker May Might more makes.senses makes.may;
  unknowns = makes.unknowns;
  listed = makes.listed;
  listed_may = All-weaker (λ u. May (sense_in w u)) (λ u. Might (sense_in w u))
      (λ u. more (sense_in w u)) makes.unknowns makes.listed_may;
  bound = makes.bound;
  limit = makes.limit;
}

pub makes_both : (u v w : Simplex) (May : Sense → Type 0) → IsSimplex v → Makes u v May
    → Makes v w May → Makes u w May
makes_both u v w May h first then = record {
  entries = first.entries ++ then.entries;
  made = then.made ∙ ap (λ ms. ms ++ then.entries) first.made
      ∙ append_assoc u.made first.entries then.entries;
  senses = first.senses ++ then.senses;
  means = then.means ∙ ap (λ ss. ss ++ then.senses) first.means
      ∙ append_assoc (senses_in u) first.senses then.senses;
  may = All-append May first.senses then.senses first.may then.may;
  unknowns = first.unknowns ++ then.unknowns;
  listed = then.listed ∙ ap (λ us. us ++ then.unknowns) first.listed
      ∙ append_assoc u.unknowns first.unknowns then.unknowns;
  listed_may = All-append (λ y. May (sense_in w y)) first.unknowns then.unknowns
      (λ k d b. subst May (sym (sense_later v w May then (get_or first.unknowns k d)
      (omega (
        arith,
        many v,
        older (get_or first.unknowns k d)
            (Contains-get_or first.unknowns k d b),
      )))) (first.listed_may k d b))
      then.listed_may;
  bound = then.bound ∙ first.bound;
  limit = then.limit ∙ first.limit;
}
  where
    older : (y : ℕ) → Contains first.unknowns y → y < length v.made
    older y c = All-contains (λ y. y < length v.made) v.unknowns y h.listed
        (subst (λ us. Contains us y) (sym first.listed)
        (Contains-append_right u.unknowns first.unknowns y c))

-- a call after it that keeps the lists
pub makes_keeping : (u v w : Simplex) (May : Sense → Type 0) → Makes u v May → KeepsLists v w
    → Makes u w May
makes_keeping u v w May makes keeps = record {
  entries = makes.entries;
  made = keeps.made ∙ makes.made;
  senses = makes.senses;
  means = ap senses_of keeps.made ∙ makes.means;
  may = makes.may;
  unknowns = makes.unknowns;
  listed = keeps.unknowns ∙ makes.listed;
  listed_may = subst (λ ms. All (λ y. May (sense_at (senses_of ms) y)) makes.unknowns)
      (sym keeps.made) makes.listed_may;
  bound = keeps.bound ∙ makes.bound;
  limit = keeps.limit ∙ makes.limit;
}

-- an unknown that was made before comes into use, where it is not
pub makes_used : {E : Type 0} (v w : Simplex) (u : ℕ) (r : Result Unit E)
    → OnOk r (w ≡ record v { unknowns = v.unknowns ++ u ∷ [] }) → OnErr r (w ≡ v)
    → Makes v w (λ s. s ≡ sense_in v u)
makes_used v w u (Ok x) ok err = record {
  entries = [];
  made = ap (λ (s : Simplex). s.made) ok ∙ sym (append-nil v.made);
  senses = [];
  means = ap senses_in ok ∙ sym (append-nil (senses_in v));
  may = All-nil (λ s. s ≡ sense_in v u);
  unknowns = u ∷ [];
  listed = ap (λ (s : Simplex). s.unknowns) ok;
  listed_may = All-cons (λ y. sense_in w y ≡ sense_in v u) u []
      (ap (λ (s : Simplex). sense_in s u) ok) (All-nil (λ y. sense_in w y ≡ sense_in v u));
  bound = ap (λ (s : Simplex). s.bound) ok;
  limit = ap (λ (s : Simplex). s.limit) ok;
}
makes_used v w u (Err e) ok err = makes_kept v w (λ s. s ≡ sense_in v u)
    (ap (λ (s : Simplex). s.made) err) (ap (λ (s : Simplex). s.unknowns) err)
    (ap (λ (s : Simplex). s.bound) err) (ap (λ (s : Simplex). s.limit) err)

pub used_now : {E : Type 0} (v w : Simplex) (u : ℕ) (r : Result Unit E)
    → OnOk r (w ≡ record v { unknowns = v.unknowns ++ u ∷ [] }) → OnOk r (Contains w.unknowns u)
used_now v w u (Ok x) ok = subst (λ (s : Simplex). Contains s.unknowns u) (sym ok)
    (Contains-push v.unknowns u)
used_now v w u (Err e) ok = tt

pub used_rest : {E : Type 0} (v w : Simplex) (u : ℕ) (r : Result Unit E)
    → OnOk r (w ≡ record v { unknowns = v.unknowns ++ u ∷ [] }) → OnErr r (w ≡ v)
    → w ≡ record v { unknowns = w.unknowns }
used_rest v w u (Ok x) ok err = ok ∙ ap (λ (s : Simplex). record v { unknowns = s.unknowns })
    (sym ok)
used_rest v w u (Err e) ok err = err ∙ ap (λ (s : Simplex). record v { unknowns = s.unknowns })
    (sym err)

-- what is allowed does not change by it
pub allows_alike : (v w : Simplex) (May : Sense → Type 0) → Makes v w May → IsSimplex v
    → w.restricted ≡ v.restricted → AllowsAlike v w
allows_alike v w May makes h same x = subst (λ ss. All (λ s. pos 0 ≤ℤ sense_value x s)
    (restrictions_in w) ↔ All (λ s. pos 0 ≤ℤ sense_value x s) ss)
    (restrictions_later v w May makes h same) ((λ a. a), (λ a. a))
