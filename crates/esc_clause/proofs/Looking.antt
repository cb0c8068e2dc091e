-- Looking through the items of a clause.
use Rattle.std.proofs.Common.{◌≡◌, ℕ, ◌+◌, ◌<◌, Bool, true, false, not, ◌&&◌, ◌||◌, cond, List, []}
use Rattle.std.proofs.Common.{◌∷◌, ◌++◌, Some, length, take, drop, map, refl, ap, sym, ◌∙◌}
use Rattle.std.proofs.lemmas.List.{drop_more, map-append, take-append-drop, take_more, append-nil}
use Rattle.std.proofs.lemmas.List.Elements.{filter-append}
use Rattle.std.proofs.lemmas.List.Folds.{list_any-append}
use Rattle.std.specs.List.{filter, list_any}
use Rattle.esc_cover.proofs.TestLemmas.{or_left, or_right}
use Rattle.esc_clause.specs.ClauseContext.{Clause, items_left}
use Rattle.esc_clause.specs.ClausesUndo.{member_at, no_member}
use Rattle.esc_clause.specs.PassesInside.{is_failing, stays, with_item}
use Rattle.esc_clause.specs.Refinement.{first, is_no, is_satisfied, is_yes, left_of, refined_among}
use Rattle.esc_clause.specs.declared.member.Member.{Member}
use Rattle.esc_clause.specs.declared.occurrence.Occurrence.{Occurrence}
use Rattle.esc_clause.specs.declared.truth.Refined.{Refined}
use Rattle.esc_clause.specs.declared.truth.Truth.{Truth}

-- ---- what is left

items_left-append : (xs ys : Clause) → items_left (xs ++ ys) ≡ items_left xs ++ items_left ys
items_left-append xs ys =
    ap (map (λ (m : Member). m.item)) (filter-append (λ (m : Member). not m.gone) xs ys)
    ∙ map-append (λ (m : Member). m.item) (filter (λ (m : Member). not m.gone) xs)
    (filter (λ (m : Member). not m.gone) ys)

items_left-more : (c : Clause) (place : ℕ) → place < length c
    → items_left (take (place + 1) c)
    ≡ items_left (take place c) ++ items_left (member_at c place ∷ [])
items_left-more c place l =
    ap items_left (take_more c place no_member l)
    ∙ items_left-append (take place c) (member_at c place ∷ [])

items_left-parts : (c : Clause) (place : ℕ) → place < length c
    → items_left c
    ≡ items_left (take place c) ++ items_left (member_at c place ∷ drop (place + 1) c)
items_left-parts c place l =
    ap items_left (sym (take-append-drop place c)
    ∙ ap (λ ys. take place c ++ ys) (drop_more c place no_member l))
    ∙ items_left-append (take place c) (member_at c place ∷ drop (place + 1) c)

module _ (truth : Occurrence → Truth) where
  -- the item is left and holds
  abbrev pub holds : Member → Bool
  holds m = not m.gone && is_yes (truth m.item)

  left_of-cons : (m : Member) (rest : Clause)
      → left_of truth (items_left (m ∷ rest))
      ≡ cond (stays truth m) (m.item ∷ left_of truth (items_left rest))
      (left_of truth (items_left rest))
  left_of-cons m rest = go m.gone
    where
      others : Clause
      others = filter (λ (n : Member). not n.gone) rest

      go : (g : Bool) → left_of truth (map (λ (n : Member). n.item)
          (cond (not g) (m ∷ others) others))
          ≡ cond (not g && not (is_no (truth m.item))) (m.item ∷ left_of truth (items_left rest))
          (left_of truth (items_left rest))
      go true = refl
      go false = refl

  is_satisfied-cons : (m : Member) (rest : Clause)
      → is_satisfied truth (items_left (m ∷ rest))
      ≡ (holds m || is_satisfied truth (items_left rest))
  is_satisfied-cons m rest = go m.gone
    where
      others : Clause
      others = filter (λ (n : Member). not n.gone) rest

      go : (g : Bool) → is_satisfied truth (map (λ (n : Member). n.item)
          (cond (not g) (m ∷ others) others))
          ≡ ((not g && is_yes (truth m.item)) || is_satisfied truth (items_left rest))
      go true = refl
      go false = refl

  left_of-more : (c : Clause) (place : ℕ) → place < length c
      → left_of truth (items_left (take (place + 1) c))
      ≡ left_of truth (items_left (take place c))
      ++ cond (stays truth (member_at c place)) ((member_at c place).item ∷ []) []
  left_of-more c place l =
      let m = member_at c place in
      ap (left_of truth) (items_left-more c place l)
      ∙ filter-append (λ i. not (is_no (truth i))) (items_left (take place c)) (items_left (m ∷ []))
      ∙ ap (λ xs. left_of truth (items_left (take place c)) ++ xs) (left_of-cons m [])

  -- an item that is left holds
  pub satisfied_at : (c : Clause) (place : ℕ) → place < length c
      → holds (member_at c place) ≡ true → is_satisfied truth (items_left c) ≡ true
  satisfied_at c place l held =
      let m = member_at c place in
      ap (is_satisfied truth) (items_left-parts c place l)
      ∙ list_any-append (λ i. is_yes (truth i)) (items_left (take place c))
      (items_left (m ∷ drop (place + 1) c))
      ∙ or_right (is_satisfied truth (items_left (take place c)))
      (is_satisfied truth (items_left (m ∷ drop (place + 1) c)))
      (is_satisfied-cons m (drop (place + 1) c)
      ∙ or_left (holds m) (is_satisfied truth (items_left (drop (place + 1) c))) held)

  -- ---- what all items come to

  with_item-among : (items : List Occurrence) (item : Occurrence)
      → with_item (refined_among (items ∷ [])) item ≡ refined_among ((items ++ item ∷ []) ∷ [])
  with_item-among [] item = refl
  with_item-among (i ∷ []) item = refl
  with_item-among (i ∷ j ∷ items) item = refl

  -- of the items before a place none holds, those that do not fail come to what is told, and
  -- whether some fail
  pub record Scanning (c : Clause) (place : ℕ) (told : Refined) (failing : Bool) : Type 0 where
    pub unsatisfied : is_satisfied truth (items_left (take place c)) ≡ false
    pub comes : told ≡ refined_among (left_of truth (items_left (take place c)) ∷ [])
    pub fails : failing ≡ list_any (is_failing truth) (take place c)

  come_to : (items : List Occurrence) (m : Member) (told : Refined)
      → told ≡ refined_among (items ∷ []) → (b : Bool)
      → cond b (with_item told m.item) told
      ≡ refined_among ((items ++ cond b (m.item ∷ []) []) ∷ [])
  come_to items m told comes true =
      ap (λ r. with_item r m.item) comes ∙ with_item-among items m.item
  come_to items m told comes false =
      comes ∙ ap (λ xs. refined_among (xs ∷ [])) (sym (append-nil items))

  fail_or_not : (failing b : Bool) → cond b true failing ≡ (failing || (b || false))
  fail_or_not true true = refl
  fail_or_not true false = refl
  fail_or_not false true = refl
  fail_or_not false false = refl

  pub Scanning-more : (c : Clause) (place : ℕ) (told : Refined) (failing : Bool)
      → Scanning c place told failing → place < length c → holds (member_at c place) ≡ false
      → Scanning c (place + 1)
      (cond (stays truth (member_at c place)) (with_item told (member_at c place).item) told)
      (cond (is_failing truth (member_at c place)) true failing)
  Scanning-more c place told failing so l fails =
      let m = member_at c place in
      record {
        unsatisfied =
            ap (is_satisfied truth) (items_left-more c place l)
            ∙ list_any-append (λ i. is_yes (truth i)) (items_left (take place c))
            (items_left (m ∷ []))
            ∙ ap (λ b. b || is_satisfied truth (items_left (m ∷ []))) so.unsatisfied
            ∙ is_satisfied-cons m [] ∙ ap (λ b. b || false) fails;
        comes =
            come_to (left_of truth (items_left (take place c))) m told so.comes (stays truth m)
            ∙ ap (λ xs. refined_among (xs ∷ [])) (sym (left_of-more c place l));
        fails =
            fail_or_not failing (is_failing truth m)
            ∙ ap (λ b. b || (is_failing truth m || false)) so.fails
            ∙ sym (list_any-append (is_failing truth) (take place c) (m ∷ []))
            ∙ ap (list_any (is_failing truth)) (sym (take_more c place no_member l));
      }

  -- ---- the first that does not fail

  -- each item before a place fails, or has gone
  pub record AllFail (c : Clause) (place : ℕ) : Type 0 where
    pub none : left_of truth (items_left (take place c)) ≡ []

  pub AllFail-more : (c : Clause) (place : ℕ) → AllFail c place → place < length c
      → stays truth (member_at c place) ≡ false → AllFail c (place + 1)
  AllFail-more c place so l fails =
      let m = member_at c place in
      record {
        none =
            left_of-more c place l
            ∙ ap (λ xs. xs ++ cond (stays truth m) (m.item ∷ []) []) so.none
            ∙ ap (λ b. cond b (m.item ∷ []) []) fails;
      }

  pub AllFail-found : (c : Clause) (place : ℕ) → AllFail c place → place < length c
      → stays truth (member_at c place) ≡ true
      → first (left_of truth (items_left c)) ≡ Some (member_at c place).item
  AllFail-found c place so l kept =
      let m = member_at c place in
      let rest = left_of truth (items_left (drop (place + 1) c)) in
      ap (λ xs. first (left_of truth xs)) (items_left-parts c place l)
      ∙ ap first (filter-append (λ i. not (is_no (truth i))) (items_left (take place c))
      (items_left (m ∷ drop (place + 1) c)))
      ∙ ap (λ xs. first (xs ++ left_of truth (items_left (m ∷ drop (place + 1) c)))) so.none
      ∙ ap first (left_of-cons m (drop (place + 1) c))
      ∙ ap (λ b. first (cond b (m.item ∷ rest) rest)) kept
