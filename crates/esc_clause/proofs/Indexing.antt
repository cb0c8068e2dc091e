-- The first decision with a key, in a list that gets one decision more, or loses its last.
use Rattle.std.proofs.Common.{◌≡◌, ℕ, suc, zero, ◌+◌, ◌<◌, ◌≤◌, ◌==◌, Bool, true, false}
use Rattle.std.proofs.Common.{if◌then◌else◌, cond, List, [], ◌∷◌, ◌++◌, Some, None, Option, length}
use Rattle.std.proofs.Common.{get_or, refl, ap, sym, ◌∙◌, arith}
use Rattle.std.proofs.lemmas.Bool.{eqb-true}
use Rattle.std.specs.Option.{is_some}
use Rattle.esc_cover.proofs.TestLemmas.{and_left, and_right}
use Rattle.esc_clause.specs.DecisionsInside.{key_of, place_from, same_key}
use Rattle.esc_clause.specs.Refinement.{by_decision, judged_by}
use Rattle.esc_clause.specs.declared.decision.Decision.{Decision}
use Rattle.esc_clause.specs.declared.occurrence.Occurrence.{Occurrence}
use Rattle.esc_clause.specs.declared.truth.Truth.{Truth}

pub found_within : (n : ℕ) (ds : List Decision) (key : ℕ × ℕ) (i : ℕ)
    → place_from n ds key ≡ Some i → (n ≤ i) × (i < n + length ds)
found_within n [] key i e = cc
found_within n (d ∷ ds) key i e =
    pick (same_key (key_of d.at) key) (λ h. found_within (n + 1) ds key i h) e
  where
    pick : (b : Bool) → (place_from (n + 1) ds key ≡ Some i
        → (n + 1 ≤ i) × (i < n + 1 + length ds))
        → (if b then Some n else place_from (n + 1) ds key) ≡ Some i
        → (n ≤ i) × (i < n + length (d ∷ ds))
    pick true ih h = let same : n ≡ i = cc in (omega arith, omega arith)
    pick false ih h = let rest = ih h in (omega (arith, rest.0), omega (arith, rest.1))

pub found_judged : (judge : Occurrence → Truth) (n : ℕ) (ds : List Decision) (item : Occurrence)
    (m : ℕ) (dd : Decision) →
    place_from n ds (key_of item) ≡ Some (n + m)
    → judged_by judge ds item ≡ by_decision (get_or ds m dd) item
found_judged judge n [] item m dd e = cc
found_judged judge n (d ∷ ds) item m dd e =
    pick (same_key (key_of d.at) (key_of item)) m
    (λ k h. found_judged judge (n + 1) ds item k dd h) e
  where
    pick : (b : Bool) (m : ℕ) → ((k : ℕ) → place_from (n + 1) ds (key_of item) ≡ Some (n + 1 + k)
        → judged_by judge ds item ≡ by_decision (get_or ds k dd) item)
        → (if b then Some n else place_from (n + 1) ds (key_of item)) ≡ Some (n + m) →
        (if b then by_decision d item else judged_by judge ds item)
        ≡ by_decision (get_or (d ∷ ds) m dd) item
    pick true zero ih h = refl
    pick true (suc m) ih h = let same : n ≡ n + suc m = cc in absurd (omega arith)
    pick false zero ih h = let rest = found_within (n + 1) ds (key_of item) (n + 0) h in
        absurd (omega (arith, rest.0))
    pick false (suc m) ih h = ih m (h ∙ ap (λ k. Some k) (omega arith))

pub none_judged : (judge : Occurrence → Truth) (n : ℕ) (ds : List Decision) (item : Occurrence) →
    place_from n ds (key_of item) ≡ None → judged_by judge ds item ≡ judge item
none_judged judge n [] item e = refl
none_judged judge n (d ∷ ds) item e =
    pick (same_key (key_of d.at) (key_of item)) (λ h. none_judged judge (n + 1) ds item h) e
  where
    pick : (b : Bool) → (place_from (n + 1) ds (key_of item) ≡ None
        → judged_by judge ds item ≡ judge item)
        → (if b then Some n else place_from (n + 1) ds (key_of item)) ≡ None →
        (if b then by_decision d item else judged_by judge ds item) ≡ judge item
    pick true ih h = cc
    pick false ih h = ih h

other_key : (n : ℕ) (ds : List Decision) (d : Decision) (key : ℕ × ℕ)
    → same_key (key_of d.at) key ≡ false → place_from n (ds ++ (d ∷ [])) key ≡ place_from n ds key
other_key n [] d key e = ap (λ b. if b then Some n else None) e
other_key n (c ∷ ds) d key e =
    ap (λ r. if same_key (key_of c.at) key then Some n else r) (other_key (n + 1) ds d key e)

first_here : (n : ℕ) (ds : List Decision) (d : Decision) (key : ℕ × ℕ)
    → same_key (key_of d.at) key ≡ true → place_from n ds key ≡ None →
    place_from n (ds ++ (d ∷ [])) key ≡ Some (n + length ds)
first_here n [] d key e none =
    ap (λ b. if b then Some n else None) e ∙ ap (λ k. Some k) (omega arith)
first_here n (c ∷ ds) d key e none =
    pick (same_key (key_of c.at) key) (λ h. first_here (n + 1) ds d key e h) none
  where
    pick : (b : Bool) → (place_from (n + 1) ds key ≡ None
        → place_from (n + 1) (ds ++ (d ∷ [])) key ≡ Some (n + 1 + length ds))
        → (if b then Some n else place_from (n + 1) ds key) ≡ None →
        (if b then Some n else place_from (n + 1) (ds ++ (d ∷ [])) key) ≡ Some (n + length (c ∷ ds))
    pick true ih h = cc
    pick false ih h = ih h ∙ ap (λ k. Some k) (omega arith)

first_before : (n : ℕ) (ds : List Decision) (d : Decision) (key : ℕ × ℕ) (i : ℕ)
    → place_from n ds key ≡ Some i → place_from n (ds ++ (d ∷ [])) key ≡ Some i
first_before n [] d key i e = cc
first_before n (c ∷ ds) d key i e =
    pick (same_key (key_of c.at) key) (λ h. first_before (n + 1) ds d key i h) e
  where
    pick : (b : Bool) → (place_from (n + 1) ds key ≡ Some i
        → place_from (n + 1) (ds ++ (d ∷ [])) key ≡ Some i)
        → (if b then Some n else place_from (n + 1) ds key) ≡ Some i
        → (if b then Some n else place_from (n + 1) (ds ++ (d ∷ [])) key) ≡ Some i
    pick true ih h = h
    pick false ih h = ih h

same_key_is : (k l : ℕ × ℕ) → same_key k l ≡ true → k ≡ l
same_key_is (a, b) (c, d) e =
    let x : a ≡ c = eqb-true a c (and_left (a == c) (b == d) e) in
    let y : b ≡ d = eqb-true b d (and_right (a == c) (b == d) e) in
    cc

-- ---- a look-up that leads to the first decision

module _ (f : ℕ × ℕ → Option ℕ) (ds : List Decision) (d : Decision) where
  pub push_new : (g : ℕ × ℕ → Option ℕ) → ((k : ℕ × ℕ) → f k ≡ place_from 0 ds k)
      → f (key_of d.at) ≡ None →
      ((q : ℕ × ℕ) → g q ≡ cond (same_key (key_of d.at) q) (Some (length ds)) (f q)) → (k : ℕ × ℕ)
      → g k ≡ place_from 0 (ds ++ (d ∷ [])) k
  push_new g leads none put k = pick (same_key (key_of d.at) k) refl
    where
      pick : (b : Bool) → same_key (key_of d.at) k ≡ b → g k ≡ place_from 0 (ds ++ (d ∷ [])) k
      pick true e =
          put k ∙ (ap (λ b. cond b (Some (length ds)) (f k)) e
          ∙ (ap (λ n. Some n) (omega arith)
          ∙ sym (first_here 0 ds d k e
          (sym (leads k) ∙ (ap f (sym (same_key_is (key_of d.at) k e)) ∙ none)))))
      pick false e =
          put k ∙ (ap (λ b. cond b (Some (length ds)) (f k)) e
          ∙ (leads k ∙ sym (other_key 0 ds d k e)))

  pub push_known : (i : ℕ) → ((k : ℕ × ℕ) → f k ≡ place_from 0 ds k) → f (key_of d.at) ≡ Some i
      → (k : ℕ × ℕ) → f k ≡ place_from 0 (ds ++ (d ∷ [])) k
  push_known i leads known k = pick (same_key (key_of d.at) k) refl
    where
      pick : (b : Bool) → same_key (key_of d.at) k ≡ b → f k ≡ place_from 0 (ds ++ (d ∷ [])) k
      pick true e =
          let here : f k ≡ Some i = ap f (sym (same_key_is (key_of d.at) k e)) ∙ known in
          here ∙ sym (first_before 0 ds d k i (sym (leads k) ∙ here))
      pick false e = leads k ∙ sym (other_key 0 ds d k e)

  pub pop_first : (g : ℕ × ℕ → Option ℕ) → ((k : ℕ × ℕ) → f k ≡ place_from 0 (ds ++ (d ∷ [])) k)
      → f (key_of d.at) ≡ Some (length ds) →
      ((q : ℕ × ℕ) → g q ≡ cond (same_key (key_of d.at) q) None (f q)) → (k : ℕ × ℕ)
      → g k ≡ place_from 0 ds k
  pop_first g leads last out k = pick (same_key (key_of d.at) k) refl
    where
      gone : (o : Option ℕ) → place_from 0 ds k ≡ o → f k ≡ Some (length ds)
          → None ≡ place_from 0 ds k
      gone None e h = sym e
      gone (Some i) e h =
          let same : i ≡ length ds = let both : Some i ≡ Some (length ds) =
          sym (first_before 0 ds d k i e) ∙ (sym (leads k) ∙ h) in cc in
          absurd (omega (arith, (found_within 0 ds k i e).1))

      pick : (b : Bool) → same_key (key_of d.at) k ≡ b → g k ≡ place_from 0 ds k
      pick true e =
          put_out ∙ gone (place_from 0 ds k) refl
          (ap f (sym (same_key_is (key_of d.at) k e)) ∙ last)
        where
          put_out : g k ≡ None
          put_out = out k ∙ ap (λ b. cond b None (f k)) e
      pick false e = out k ∙ (ap (λ b. cond b None (f k)) e ∙ (leads k ∙ other_key 0 ds d k e))

  pub pop_later : ((k : ℕ × ℕ) → f k ≡ place_from 0 (ds ++ (d ∷ [])) k)
      → (f (key_of d.at) ≡ Some (length ds) → ⊥) → (k : ℕ × ℕ) → f k ≡ place_from 0 ds k
  pop_later leads earlier k = pick (same_key (key_of d.at) k) refl
    where
      there : (o : Option ℕ) → place_from 0 ds k ≡ o → same_key (key_of d.at) k ≡ true
          → f k ≡ place_from 0 ds k
      there None h e =
          absurd (earlier (ap f (same_key_is (key_of d.at) k e)
          ∙ (leads k ∙ (first_here 0 ds d k e h ∙ ap (λ n. Some n) (omega arith)))))
      there (Some i) h e = leads k ∙ (first_before 0 ds d k i h ∙ sym h)

      pick : (b : Bool) → same_key (key_of d.at) k ≡ b → f k ≡ place_from 0 ds k
      pick true e = there (place_from 0 ds k) refl e
      pick false e = leads k ∙ other_key 0 ds d k e

pub known_there : (o : Option ℕ) → is_some o ≡ true → (i : ℕ) × (o ≡ Some i)
known_there None e = cc
known_there (Some i) e = (i, refl)

pub none_there : (o : Option ℕ) → is_some o ≡ false → o ≡ None
none_there None e = refl
none_there (Some i) e = cc
