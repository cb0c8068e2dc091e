-- What each step of a round does to the list.
use Rattle.std.proofs.Common.{◌≡◌, ◌≢◌, ℕ, ◌+◌, ◌<◌, inl, inr, Bool, true, false, not}
use Rattle.std.proofs.Common.{IsTrue, if◌then◌else◌, List, [], ◌∷◌, ◌++◌, length, get_or, map, take}
use Rattle.std.proofs.Common.{Some, refl, ap, sym, subst, ◌∙◌, arith, true≢false}
use Rattle.std.specs.Prelude.{slice_get}
use Rattle.std.specs.List.{All, Contains, list_all}
use Rattle.std.specs.Option.{option_map_or}
use Rattle.std.proofs.lemmas.List.{take_more}
use Rattle.std.proofs.lemmas.List.Elements.{All-contains, Contains-append_left}
use Rattle.std.proofs.lemmas.List.Elements.{Contains-get_or, Contains-push, Contains-push_cases}
use Rattle.std.proofs.lemmas.Map.Views.{Contains-from_any}
use Rattle.std.proofs.lemmas.Option.{slice_get-get_or}
use Rattle.esc_term.specs.declared.term.Term.{Term}
use Rattle.esc_cover.proofs.TestLemmas.{all_at}
use Rattle.esc_egraph.specs.Graph.{Graph}
use Rattle.esc_match.specs.Matches.{AreMatches, WantedMatch}
use Rattle.esc_match.proofs.Orders.{Contains-map}
use Rattle.esc_match.specs.declared.substitution.Substitution.{Substitution}
use Rattle.esc_trigger.specs.Laws.{is_trigger}
use Rattle.esc_maps.specs.Chosen.{StandFor}
use Rattle.esc_maps.specs.declared.map_match.MapMatch.TheVariants as map_match
use Rattle.esc_rounds.specs.KeyInside.{key_of, same_key-is}
use Rattle.esc_rounds.specs.ListingInside.{AreKeysOf, IsListedTo, IsTriggerDone, Listed, count_at}
use Rattle.esc_rounds.specs.ListingInside.{has_key, instance_at, with_all_due, witnesses_of}
use Rattle.esc_rounds.specs.Standing.{AreThere, IsDrawable, Standing}
use Rattle.esc_rounds.specs.declared.draw.Draw.{Draw}
use Rattle.esc_rounds.specs.declared.draw.Draw.TheVariants.{Witness, Map, Instance}
use Rattle.esc_rounds.specs.declared.key.Key.{Key}
use Rattle.esc_rounds.specs.declared.kept.Kept.{Kept}
use Rattle.esc_rounds.specs.declared.kept.Literal.{Literal}
use Rattle.esc_rounds.proofs.Bounds.{witness_called}
use Rattle.esc_rounds.proofs.Calls.{fits_three, fits_two, keys_differ}
use Rattle.esc_rounds.proofs.Groups.{AreCalledIn, Fits, listed_group}
use Rattle.esc_rounds.proofs.Matched.{trigger_called}
use mathlib.Core.Bool.{beq}

pub get-some : {A : Type 0} (xs : List A) (i : ℕ) → i < length xs
    → (x : A) × (slice_get xs i ≡ Some x)
get-some [] i l = absurd (omega (arith, l))
get-some (x ∷ xs) i l = (get_or (x ∷ xs) i x, slice_get-get_or (x ∷ xs) i x l)

-- ---- tests of signs

pub beq_same : (a b : Bool) → not (beq a b) ≡ false → a ≡ b
beq_same true true e = refl
beq_same true false e = absurd (true≢false e)
beq_same false true e = absurd (true≢false e)
beq_same false false e = refl

pub beq_differ : (a b : Bool) → not (beq a b) ≡ true → a ≢ b
beq_differ true true e same = true≢false (sym e)
beq_differ true false e same = true≢false same
beq_differ false true e same = true≢false (sym same)
beq_differ false false e same = true≢false (sym e)

-- ---- what is there

pub drawable_there : (g : Graph) (formulas : List Kept) (d : Draw) → IsDrawable g formulas d
    → AreThere g d
drawable_there g formulas (Witness f) is = tt
drawable_there g formulas (Map (map_match.Write w)) is = is.0
drawable_there g formulas (Map (map_match.Read w j)) is = (is.0, is.2)
drawable_there g formulas (Instance f ns) is = is.1

-- ---- the keys of live facts

module _ (g : Graph) (live : List Draw) (i : ℕ) (d : Draw) (keys now : List Key) (k : Key) where
  pub keys_more : i < length live → d ≡ get_or live i d → k ≡ key_of g d
      → now ≡ (if has_key keys k then keys else keys ++ k ∷ []) → AreKeysOf g (take i live) keys
      → AreKeysOf g (take (i + 1) live) now
  keys_more l at key_is grown are =
      subst (λ ds. AreKeysOf g ds now)
      (sym (take_more live i d l ∙ ap (λ x. take i live ++ x ∷ []) (sym at))) all
    where
      first : Draw → Type 0
      first e = Contains (take i live ++ d ∷ []) e

      go : (b : Bool) → has_key keys k ≡ b
          → AreKeysOf g (take i live ++ d ∷ []) (if b then keys else keys ++ k ∷ [])
      go true e j = (
        λ c.
            let h = (are j).0 c in
            (h.0, Contains-append_left (take i live) (d ∷ []) h.0 h.1, h.2),
        λ h. elim (Contains-push_cases (take i live) d h.0 h.1) [
          | inl old ↦ (are j).1 (h.0, old, h.2)
          | inr new ↦ subst (Contains keys) (key_is ∙ (ap (key_of g) new ∙ h.2))
              (Contains-from_any (λ x y. (same_key-is x y).0) k keys e)
        ],
      )
      go false e j = (
        λ c. elim (Contains-push_cases keys k j c) [
          | inl old ↦
              let h = (are j).0 old in
              (h.0, Contains-append_left (take i live) (d ∷ []) h.0 h.1, h.2)
          | inr new ↦ (d, Contains-push (take i live) d, sym key_is ∙ new)
        ],
        λ h. elim (Contains-push_cases (take i live) d h.0 h.1) [
          | inl old ↦ Contains-append_left keys (k ∷ []) j ((are j).1 (h.0, old, h.2))
          | inr new ↦ subst (Contains (keys ++ k ∷ [])) (key_is ∙ (ap (key_of g) new ∙ h.2))
              (Contains-push keys k)
        ],
      )

      all : AreKeysOf g (take i live ++ d ∷ []) now
      all = subst (AreKeysOf g (take i live ++ d ∷ [])) (sym grown) (go (has_key keys k) refl)

-- ---- steps

module _ (s : Standing) (live its : List Key) (limit : ℕ) (same : its ≡ live) (now next : Listed)
  where
    pub listed_step : (front : List ℕ) (n : ℕ) (draws : List Draw) → Fits s (front ++ n ∷ [])
        → AreCalledIn s front n draws → next ≡ with_all_due s its limit now draws
        → IsListedTo s live limit (front ++ n ∷ []) now
        → IsListedTo s live limit (front ++ (n + 1) ∷ []) next
    listed_step front n draws fits are is listed =
        subst (IsListedTo s live limit (front ++ (n + 1) ∷ []))
        (sym (is ∙ ap (λ keys. with_all_due s keys limit now draws) same))
        (listed_group s live limit front n (keys_differ s) fits draws now are listed)

    pub witness_step : (i : ℕ) (d : Literal) → i < length s.literals
        → All (λ l. l.formula < length s.formulas) s.literals
        → next ≡ with_all_due s its limit now (witnesses_of s (get_or s.literals i d))
        → IsListedTo s live limit (0 ∷ i ∷ []) now → IsListedTo s live limit (0 ∷ (i + 1) ∷ []) next
    witness_step i d l below is listed =
        let literal : Literal = get_or s.literals i d in
        let formula = get-some s.formulas literal.formula (below i d l) in
        listed_step (0 ∷ []) i (witnesses_of s literal) (fits_two s 0 i)
        (witness_called s i literal formula.0 (slice_get-get_or s.literals i d l) formula.1) is
        listed

    pub trigger_step : (i k : ℕ) (standing : List ℕ) (literal : Literal) (formula : Kept)
        (trigger : List Term) → StandFor s.graph s.depths standing
        → slice_get s.literals i ≡ Some literal
        → slice_get s.formulas literal.formula ≡ Some formula
        → literal.holds ≡ formula.universal → slice_get formula.triggers k ≡ Some trigger
        → IsTriggerDone s its limit standing literal.formula (count_at s literal.formula) trigger
        now
        next → IsListedTo s live limit (2 ∷ i ∷ k ∷ []) now
        → IsListedTo s live limit (2 ∷ i ∷ (k + 1) ∷ []) next
    trigger_step i k standing literal formula trigger stand there kept universal numbered done =
        let count : count_at s literal.formula ≡ formula.count =
        ap (λ o. option_map_or (λ (x : Kept). x.count) o 0) kept in
        let are : AreMatches s.graph formula.count trigger (λ n. true)
        (map (λ (m : Substitution). m.nodes) done.found) =
        subst (λ n. AreMatches s.graph n trigger (λ m. true)
        (map (λ (m : Substitution). m.nodes) done.found)) count done.are in
        listed_step (2 ∷ i ∷ []) k (map (instance_at literal.formula standing) done.found)
        (fits_three s i k)
        (trigger_called s standing stand i k literal.formula literal formula trigger
        (record { there = there; formula_is = refl; kept = kept }) universal numbered done.found
        are)
        done.done

-- ---- triggers

pub trigger_is : (s : Standing) (f k : ℕ) (formula : Kept) (trigger : List Term)
    → All (λ x. IsTrue (list_all (is_trigger x.count) x.triggers)) s.formulas
    → slice_get s.formulas f ≡ Some formula → f < length s.formulas
    → formula ≡ get_or s.formulas f formula → k < length formula.triggers
    → trigger ≡ get_or formula.triggers k trigger → IsTrue (is_trigger (count_at s f) trigger)
trigger_is s f k formula trigger all kept there at low is =
    let count : formula.count ≡ count_at s f =
    sym (ap (λ o. option_map_or (λ (x : Kept). x.count) o 0) kept) in
    let listed : IsTrue (list_all (is_trigger formula.count) formula.triggers) =
    subst (λ (x : Kept). IsTrue (list_all (is_trigger x.count) x.triggers)) (sym at)
    (all f formula there) in
    subst (λ n. IsTrue (is_trigger n trigger)) count
    (all_at (is_trigger formula.count) formula.triggers trigger listed (k, low, sym is))

-- ---- matches

pub matches_there : (g : Graph) (count : ℕ) (trigger : List Term) (wants : ℕ → Bool)
    (found : List Substitution)
    → AreMatches g count trigger wants (map (λ (m : Substitution). m.nodes) found)
    → All (λ (m : Substitution). All (λ n. n < length g.nodes) m.nodes) found
matches_there g count trigger wants found are k d l =
    (All-contains (λ ns. (matched : List ℕ) × WantedMatch g count trigger wants ns matched)
    (map (λ (m : Substitution). m.nodes) found) (get_or found k d).nodes are.sound
    (Contains-map (λ (m : Substitution). m.nodes) found (get_or found k d)
    (Contains-get_or found k d l))).1.there
