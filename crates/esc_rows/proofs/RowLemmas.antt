-- The entries of a row that another's multiple is added to.
use Rattle.std.proofs.Common.{◌≡◌, ◌≢◌, ℕ, zero, suc, ◌+◌, ◌<◌, ◌≤◌, List, [], ◌∷◌, map, length, set, get_or, refl, sym, ap, ◌∙◌, subst, arith, below_more, get_or-set_other, get_or-set_same, length-set, true≢false, Result, Ok, Err, IsOk, IsErr, Vec, take, drop, ◌++◌, pos, ap₂}
use Rattle.std.proofs.lemmas.List.{ext_get_or, length-map, get_or-map, map-set, set-get_or}
use Rattle.std.proofs.Math.Seq.{take-append_seam}
use Rattle.std.specs.Vec.{with_items}
use Rattle.esc_frac.specs.Rational.{ℚ, zero_ℚ, ◌+ℚ◌, ◌*ℚ◌, neg_ℚ, inverse_ℚ, ◌/ℚ◌}
use Rattle.esc_rows.specs.Steps.{StepFits, EliminationFits}
use Rattle.esc_frac.specs.RationalLaws.{zero_from_num}
use Rattle.esc_frac.proofs.FieldLaws.{+ℚ-zero}
use Rattle.esc_rows.specs.Rows.{plus_multiple, solved, eliminated}
use Rattle.esc_rows.proofs.Combinations.{zero-*ℚ}

pub length-plus_multiple : (e : ℚ) (bs ns : List ℚ) → length bs ≡ length ns
    → length (plus_multiple e bs ns) ≡ length bs
length-plus_multiple e [] ns h = refl
length-plus_multiple e (b ∷ bs) [] h = absurd (omega arith)
length-plus_multiple e (b ∷ bs) (n ∷ ns) h = omega
    (arith, length-plus_multiple e bs ns (omega arith))

pub get_or-plus_multiple : (e : ℚ) (bs ns : List ℚ) (i : ℕ) → i < length bs → length bs ≡ length ns
    → get_or (plus_multiple e bs ns) i zero_ℚ ≡ get_or bs i zero_ℚ +ℚ e *ℚ get_or ns i zero_ℚ
get_or-plus_multiple e [] ns i h l = absurd (omega arith)
get_or-plus_multiple e (b ∷ bs) [] i h l = absurd (omega arith)
get_or-plus_multiple e (b ∷ bs) (n ∷ ns) zero h l = refl
get_or-plus_multiple e (b ∷ bs) (n ∷ ns) (suc i) h l = get_or-plus_multiple e bs ns i (omega arith)
    (omega arith)

-- a list of these sums is the row
pub same_from_sums : (e : ℚ) (bs ns row : List ℚ) → length bs ≡ length ns → length row ≡ length bs
    → ((j : ℕ) → j < length row → get_or row j zero_ℚ ≡ get_or bs j zero_ℚ
    +ℚ e *ℚ get_or ns j zero_ℚ) → row ≡ plus_multiple e bs ns
same_from_sums e bs ns row h k sums =
    ext_get_or zero_ℚ row (plus_multiple e bs ns) (k ∙ sym (length-plus_multiple e bs ns h))
    (λ i inside. sums i inside ∙ sym (get_or-plus_multiple e bs ns i (omega arith) h))

-- an element within a list is the same with every default
pub element_is : (xs : List ℚ) (i : ℕ) (x : ℚ) → i < length xs → x ≡ get_or xs i x → x
    ≡ get_or xs i zero_ℚ
element_is xs i x h e = e ∙ within xs i h
  where
    within : (xs : List ℚ) (i : ℕ) → i < length xs → get_or xs i x ≡ get_or xs i zero_ℚ
    within [] i h = absurd (omega arith)
    within (y ∷ ys) zero h = refl
    within (y ∷ ys) (suc i) h = within ys i (omega arith)

-- no result is both
pub not_both : {V E : Type 0} (r : Result V E) → IsOk r → IsErr r → ⊥
not_both (Ok x) h k = true≢false (sym k)
not_both (Err e) h k = true≢false (sym h)

pub length-solved : (es : List ℚ) (c : ℕ) → length (solved es c) ≡ length es
length-solved es c = length-set (map (λ a. neg_ℚ (a /ℚ get_or es c zero_ℚ)) es) c
    (inverse_ℚ (get_or es c zero_ℚ)) ∙ length-map es (λ a. neg_ℚ (a /ℚ get_or es c zero_ℚ))

-- a list with the solved row's entries is the solved row
pub same_from_solved : (es : List ℚ) (c : ℕ) (row : List ℚ) → length row ≡ length es
    → ((j : ℕ) → j < length row → get_or row j zero_ℚ ≡ get_or (solved es c) j zero_ℚ) → row
    ≡ solved es c
same_from_solved es c row h same = ext_get_or zero_ℚ row (solved es c) (h
    ∙ sym (length-solved es c)) same

-- ---- a loop over rows, each of which but one is rewritten by f

-- what the loop keeps: the rows below p are rewritten, the others and the kept one are as they were
pub record RewrittenBelow (f : List ℚ → List ℚ) (old rows : List (List ℚ)) (kept p : ℕ) :
    Type 0 where
  pub done : (i : ℕ) → i < p → i ≢ kept → get_or rows i [] ≡ f (get_or old i [])
  pub left : (i : ℕ) → p ≤ i → get_or rows i [] ≡ get_or old i []
  pub same : get_or rows kept [] ≡ get_or old kept []

pub RewrittenBelow_more : (f : List ℚ → List ℚ) (old rows : List (List ℚ)) (kept p : ℕ) → p
    < length rows → p ≢ kept → RewrittenBelow f old rows kept p
    → RewrittenBelow f old (set rows p (f (get_or old p []))) kept (p + 1)
RewrittenBelow_more f old rows kept p inside other h = record {
  done = below_more _ _
      (λ i below ne. let apart : i ≢ p = omega arith
      in get_or-set_other rows p i (f (get_or old p [])) [] apart ∙ h.done i below ne)
      (λ ne. get_or-set_same rows p (f (get_or old p [])) [] inside);
  left = λ i above. let apart : i ≢ p = omega arith
      in get_or-set_other rows p i (f (get_or old p [])) [] apart ∙ h.left i (omega arith);
  same = let apart : kept ≢ p = omega arith in get_or-set_other rows p kept (f (get_or old p [])) []
      apart ∙ h.same;
}

pub RewrittenBelow_past : (f : List ℚ → List ℚ) (old rows : List (List ℚ)) (kept p : ℕ) → p ≡ kept
    → RewrittenBelow f old rows kept p → RewrittenBelow f old rows kept (p + 1)
RewrittenBelow_past f old rows kept p here h = record {
  done = below_more _ _ h.done (λ ne. absurd (ne here));
  left = λ i above. h.left i (omega arith);
  same = h.same;
}

-- as many elements written back are the elements
pub items-with_items : {X Z : Type 0} (v : Vec X Z) (ws : List X) → length ws ≡ length v.items
    → (with_items v ws).items ≡ ws
items-with_items v ws h =
    ap (λ (n : ℕ). take n (ws ++ drop (length ws) v.items)) (v.ok.0 ∙ sym h)
    ∙ take-append_seam ws (drop (length ws) v.items)

-- a step fits at equal numbers
pub same_step : {x y z x' y' z' : ℚ} → x ≡ x' → y ≡ y' → z ≡ z' → StepFits x y z → StepFits x' y' z'
same_step {y = y} {z = z} {x' = x'} {y' = y'} e f g h =
    subst (λ (a : ℚ). StepFits x' y' a) g (subst (λ (a : ℚ). StepFits x' a z) f
    (subst (λ (a : ℚ). StepFits a y z) e h))

pub same_elimination : {row row' : List ℚ} {k k' : ℚ} (c : ℕ) (solved : List ℚ) (n : ℚ) → row ≡ row'
    → k ≡ k' → ((get_or row c zero_ℚ).num ≢ pos 0 → EliminationFits row k c solved n)
    → (get_or row' c zero_ℚ).num ≢ pos 0 → EliminationFits row' k' c solved n
same_elimination {row = row} {k' = k'} c solved n e f h =
    subst (λ (r : List ℚ). (get_or r c zero_ℚ).num ≢ pos 0 → EliminationFits r k' c solved n) e
    (subst (λ (x : ℚ). (get_or row c zero_ℚ).num ≢ pos 0 → EliminationFits row x c solved n) f h)

-- a row that does not have the unknown stays as it is
pub eliminated-zero : (es ns : List ℚ) (c : ℕ) → length es ≡ length ns → (get_or es c zero_ℚ).num
    ≡ pos 0 → eliminated es c ns ≡ es
eliminated-zero es ns c h none =
    let e : get_or es c zero_ℚ ≡ zero_ℚ = zero_from_num (get_or es c zero_ℚ) none in
    ap (λ (x : ℚ). plus_multiple x (set es c zero_ℚ) ns) e
    ∙ kept (set es c zero_ℚ) ns (length-set es c zero_ℚ ∙ h)
    ∙ ap (λ (x : ℚ). set es c x) (sym e) ∙ set-get_or es c zero_ℚ
  where
    kept : (bs ns : List ℚ) → length bs ≡ length ns → plus_multiple zero_ℚ bs ns ≡ bs
    kept [] ns l = refl
    kept (b ∷ bs) [] l = absurd (omega arith)
    kept (b ∷ bs) (n ∷ ns) l =
        ap₂ (λ x xs. x ∷ xs) (ap (λ (x : ℚ). b +ℚ x) (zero-*ℚ n) ∙ +ℚ-zero b)
        (kept bs ns (omega arith))

-- ---- a loop over constants, to each of which but one a multiple of n is added

-- what the loop keeps: the constants below p are sums, the others are as they were
pub record SummedBelow (ess : List (List ℚ)) (c : ℕ) (n : ℚ) (old ks : List ℚ) (kept p : ℕ) :
    Type 0 where
  pub done : (i : ℕ) → i < p → i ≢ kept → get_or ks i zero_ℚ ≡ get_or old i zero_ℚ
      +ℚ get_or (get_or ess i []) c zero_ℚ *ℚ n
  pub left : (i : ℕ) → p ≤ i → get_or ks i zero_ℚ ≡ get_or old i zero_ℚ

pub SummedBelow_more : (ess : List (List ℚ)) (c : ℕ) (n : ℚ) (old ks : List ℚ) (kept p : ℕ) (x : ℚ)
    → p < length ks → x ≡ get_or old p zero_ℚ +ℚ get_or (get_or ess p []) c zero_ℚ *ℚ n
    → SummedBelow ess c n old ks kept p → SummedBelow ess c n old (set ks p x) kept (p + 1)
SummedBelow_more ess c n old ks kept p x inside is h = record {
  done = below_more _ _
      (λ i below ne. let apart : i ≢ p = omega arith in get_or-set_other ks p i x zero_ℚ apart
      ∙ h.done i below ne)
      (λ ne. get_or-set_same ks p x zero_ℚ inside ∙ is);
  left = λ i above. let apart : i ≢ p = omega arith in get_or-set_other ks p i x zero_ℚ apart
      ∙ h.left i (omega arith);
}

pub SummedBelow_past : (ess : List (List ℚ)) (c : ℕ) (n : ℚ) (old ks : List ℚ) (kept p : ℕ) → p
    ≡ kept → SummedBelow ess c n old ks kept p → SummedBelow ess c n old ks kept (p + 1)
SummedBelow_past ess c n old ks kept p here h = record {
  done = below_more _ _ h.done (λ ne. absurd (ne here));
  left = λ i above. h.left i (omega arith);
}

-- an element is replaced by one that f sees as the same
pub map-set_same : {A B : Type 0} (f : A → B) (xs : List A) (i : ℕ) (y d : A) → f y
    ≡ f (get_or xs i d) → map f (set xs i y) ≡ map f xs
map-set_same f xs i y d e =
    map-set f xs i y ∙ ap (set (map f xs) i) e ∙ sym (map-set f xs i (get_or xs i d))
    ∙ ap (map f) (set-get_or xs i d)

-- where every row is rewritten, the rows are those of f
pub rewritten_all : (f : List ℚ → List ℚ) (old rows : List (List ℚ)) (kept p : ℕ) → length rows
    ≡ length old → length old ≤ kept → length old ≤ p → RewrittenBelow f old rows kept p → rows
    ≡ map f old
rewritten_all f old rows kept p l past whole h =
    ext_get_or [] rows (map f old) (l ∙ sym (length-map old f))
    (λ i inside. h.done i (omega (arith, l)) (omega (arith, l))
    ∙ sym (get_or-map f old i [] [] (omega (arith, l))))
