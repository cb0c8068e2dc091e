-- Going through the clauses.
use Rattle.std.proofs.Common.{◌≡◌, ℕ, ◌+◌, ◌<◌, ◌≤◌, Bool, true, false, not, ◌||◌, cond}
use Rattle.std.proofs.Common.{if◌then◌else◌, List, [], ◌∷◌, ◌++◌, length, take, drop, set, get_or}
use Rattle.std.proofs.Common.{map, refl, ap, sym, ◌∙◌}
use Rattle.std.proofs.lemmas.List.{take_more, drop_all, drop_more, take-append-drop, map-append}
use Rattle.std.proofs.lemmas.List.{set-get_or, take_all}
use Rattle.std.proofs.lemmas.List.Elements.{filter-append, filter_map-append}
use Rattle.std.proofs.lemmas.List.Folds.{list_any-append}
use Rattle.std.specs.List.{filter, filter_map, list_any}
use Rattle.esc_trail.specs.Undo.{Notes}
use Rattle.esc_trail.proofs.Lawful.{equal_is_lawful}
use Rattle.esc_trail.proofs.Noting.{notes_nothing, notes_both}
use Rattle.esc_clause.proofs.MappedFront.{length-mapped_before, mapped_before, mapped_item}
use Rattle.esc_clause.proofs.MappedFront.{mapped_more, mapped_sets}
use Rattle.esc_clause.specs.ClauseContext.{Clause, ClauseContext, items_left, no_clause}
use Rattle.esc_clause.specs.ClausesUndo.{clauses_undo, clauses_back, CanGoBack}
use Rattle.esc_clause.specs.PassesInside.{clause_at, joined, waiting_of, with_clause}
use Rattle.esc_clause.specs.Refinement.{first, is_empty, is_failed, is_no, is_satisfied, is_yes}
use Rattle.esc_clause.specs.Refinement.{judged_by, left_of, lightened, lightened_among, lighter}
use Rattle.esc_clause.specs.Refinement.{refined, refined_among, single, split_among, thinned}
use Rattle.esc_clause.specs.Refinement.{unit_among}
use Rattle.esc_clause.specs.declared.occurrence.Occurrence.{Occurrence}
use Rattle.esc_clause.specs.declared.record.ClauseRec.{ClauseRec}
use Rattle.esc_clause.specs.declared.truth.Refined.{Refined}
use Rattle.esc_clause.specs.declared.truth.Refined.TheVariants.{Empty, Quiet, Unit}
use Rattle.esc_clause.specs.declared.truth.Truth.{Truth}
use Rattle.esc_clause.specs.declared.truth.Truth.TheVariants.{Yes, No, Open}

pub waiting-append : (truth : Occurrence → Truth) (xs ys : List Clause)
    → waiting_of truth (xs ++ ys) ≡ waiting_of truth xs ++ waiting_of truth ys
waiting-append truth xs ys =
    ap (λ cs. map (λ (c : Clause). left_of truth (items_left c)) cs)
    (filter-append (λ (c : Clause). not (is_satisfied truth (items_left c))) xs ys)
    ∙ map-append (λ (c : Clause). left_of truth (items_left c))
    (filter (λ (c : Clause). not (is_satisfied truth (items_left c))) xs)
    (filter (λ (c : Clause). not (is_satisfied truth (items_left c))) ys)

joined_by : (a b : Bool) (us vs : List Occurrence) →
    (if a || b then Empty else unit_among (us ++ vs))
    ≡ joined (if a then Empty else unit_among us) (if b then Empty else unit_among vs)
joined_by true b us vs = refl
joined_by false true [] vs = refl
joined_by false true (u ∷ us) vs = refl
joined_by false false [] vs = refl
joined_by false false (u ∷ us) [] = refl
joined_by false false (u ∷ us) (v ∷ vs) = refl

pub refined-append : (xs ys : List (List Occurrence))
    → refined_among (xs ++ ys) ≡ joined (refined_among xs) (refined_among ys)
refined-append xs ys =
    ap (λ b. if b then Empty else unit_among (filter_map single (xs ++ ys)))
    (list_any-append is_empty xs ys)
    ∙ (ap (λ us. if list_any is_empty xs || list_any is_empty ys then Empty else unit_among us)
    (filter_map-append single xs ys)
    ∙ joined_by (list_any is_empty xs) (list_any is_empty ys) (filter_map single xs)
    (filter_map single ys))

-- ---- one clause

-- what holds does not fail
held_stays : (t : Truth) → is_yes t ≡ true → is_no t ≡ false
held_stays Yes e = refl
held_stays No e = cc
held_stays Open e = cc

left_by : (held fails more : Bool) (item : Occurrence) (items : List Occurrence)
    → (held ≡ true → fails ≡ false) → (more ≡ true → is_empty items ≡ false)
    → (held || more) ≡ true → is_empty (cond (not fails) (item ∷ items) items) ≡ false
left_by held false more item items stays rest e = refl
left_by true true more item items stays rest e = let never = stays refl in cc
left_by false true more item items stays rest e = rest e

something_left : (truth : Occurrence → Truth) (items : List Occurrence)
    → is_satisfied truth items ≡ true → is_empty (left_of truth items) ≡ false
something_left truth [] e = cc
something_left truth (i ∷ items) e =
    left_by (is_yes (truth i)) (is_no (truth i)) (is_satisfied truth items) i
    (left_of truth items) (held_stays (truth i)) (something_left truth items) e

-- what one clause comes to, by whether it is satisfied and by what does not fail
abbrev comes_to : Bool → List Occurrence → Refined
comes_to held items = refined_among (cond (not held) (items ∷ []) [])

failed_if : (held : Bool) (items : List Occurrence) → comes_to held items ≡ Empty
    → is_empty items ≡ true
failed_if true items e = cc
failed_if false [] e = refl
failed_if false (i ∷ []) e = cc
failed_if false (i ∷ j ∷ items) e = cc

not_failed : (held : Bool) (items : List Occurrence) → (held ≡ true → is_empty items ≡ false)
    → (comes_to held items ≡ Empty → ⊥) → is_empty items ≡ false
not_failed true items left other = left refl
not_failed false [] left other = absurd (other refl)
not_failed false (i ∷ items) left other = refl

module _ (truth : Occurrence → Truth) (c : Clause) where
  pub lightened_satisfied : is_satisfied truth (items_left c) ≡ true → lightened truth c ≡ c
  lightened_satisfied held = ap (λ b. if b then c else thinned truth c) held

  pub lightened_open : is_satisfied truth (items_left c) ≡ false
      → lightened truth c ≡ thinned truth c
  lightened_open waits = ap (λ b. if b then c else thinned truth c) waits

  comes : refined_among (waiting_of truth (c ∷ []))
      ≡ comes_to (is_satisfied truth (items_left c)) (left_of truth (items_left c))
  comes = go (is_satisfied truth (items_left c))
    where
      go : (held : Bool)
          → refined_among (map (λ (d : Clause). left_of truth (items_left d))
          (cond (not held) (c ∷ []) []))
          ≡ comes_to held (left_of truth (items_left c))
      go true = refl
      go false = refl

  pub failed_if_empty : refined_among (waiting_of truth (c ∷ [])) ≡ Empty
      → is_failed truth c ≡ true
  failed_if_empty e =
      failed_if (is_satisfied truth (items_left c)) (left_of truth (items_left c)) (sym comes ∙ e)

  pub not_failed_unless_empty : (refined_among (waiting_of truth (c ∷ [])) ≡ Empty → ⊥)
      → is_failed truth c ≡ false
  not_failed_unless_empty other =
      not_failed (is_satisfied truth (items_left c)) (left_of truth (items_left c))
      (something_left truth (items_left c)) (λ e. other (comes ∙ e))

-- going through a clause that stays as it is leaves all as it was
pub lightened_same : (truth : Occurrence → Truth) (old new : ClauseContext) (at : ℕ) → new ≡ old
    → lightened truth (clause_at old at) ≡ clause_at old at
    → new ≡ with_clause old at (lightened truth (clause_at old at))
lightened_same truth old new at same stays =
    same ∙ sym (ap (λ cs. record old { clauses = cs }) (set-get_or old.clauses at no_clause))
    ∙ ap (λ c. with_clause old at c) (sym stays)

-- ---- where to split

-- each clause before a place is satisfied
pub record NoneWaits (truth : Occurrence → Truth) (cs : List Clause) (at : ℕ) : Type 0 where
  pub none : waiting_of truth (take at cs) ≡ []

waiting_more : (truth : Occurrence → Truth) (cs : List Clause) (at : ℕ) (d : Clause)
    → at < length cs →
    waiting_of truth (take (at + 1) cs)
    ≡ waiting_of truth (take at cs) ++ waiting_of truth (get_or cs at d ∷ [])
waiting_more truth cs at d l =
    ap (λ xs. waiting_of truth xs) (take_more cs at d l)
    ∙ waiting-append truth (take at cs) (get_or cs at d ∷ [])

pub NoneWaits-found : (truth : Occurrence → Truth) (cs : List Clause) (at : ℕ) (d : Clause)
    → NoneWaits truth cs at → at < length cs →
    is_satisfied truth (items_left (get_or cs at d)) ≡ false
    → split_among (waiting_of truth cs) ≡ first (left_of truth (items_left (get_or cs at d)))
NoneWaits-found truth cs at d so l fails =
    let parts : cs ≡ take at cs ++ (get_or cs at d ∷ drop (at + 1) cs) =
    sym (take-append-drop at cs) ∙ ap (λ ys. take at cs ++ ys) (drop_more cs at d l) in
    ap (λ xs. split_among (waiting_of truth xs)) parts
    ∙ (ap split_among (waiting-append truth (take at cs) (get_or cs at d ∷ drop (at + 1) cs))
    ∙ (ap (λ ws. split_among (ws ++ waiting_of truth (get_or cs at d ∷ drop (at + 1) cs))) so.none
    ∙ rw fails refl))

-- ---- what all come to

joined-Empty : (told : Refined) → joined told Empty ≡ Empty
joined-Empty Empty = refl
joined-Empty Quiet = refl
joined-Empty (Unit item) = refl

-- the clauses before a place are gone through, and none of them has failed
pub record NoneFailed (truth : Occurrence → Truth) (cs : List Clause) (at : ℕ) : Type 0 where
  pub ahead :
      lightened_among truth cs
      ≡ map (lightened truth) (take at cs) ++ lightened_among truth (drop at cs)

-- one clause more
ahead_more : (truth : Occurrence → Truth) (cs : List Clause) (at : ℕ) (d : Clause) (b : Bool)
    → NoneFailed truth cs at → at < length cs → is_failed truth (get_or cs at d) ≡ b
    → lightened_among truth cs
    ≡ map (lightened truth) (take (at + 1) cs)
    ++ (if b then drop (at + 1) cs else lightened_among truth (drop (at + 1) cs))
ahead_more truth cs at d b so l failed =
    let behind = drop (at + 1) cs in
    so.ahead
    ∙ ap (λ ds. map (lightened truth) (take at cs) ++ lightened_among truth ds)
    (drop_more cs at d l)
    ∙ ap (λ f. map (lightened truth) (take at cs)
    ++ lightened truth (get_or cs at d) ∷ (if f then behind else lightened_among truth behind))
    failed
    ∙ sym (mapped_more (lightened truth) cs at d
    (if b then behind else lightened_among truth behind) l)

NoneFailed-all : (truth : Occurrence → Truth) (cs : List Clause) (at : ℕ)
    → NoneFailed truth cs at → length cs ≤ at
    → lightened_among truth cs ≡ mapped_before (lightened truth) cs at
NoneFailed-all truth cs at so l =
    so.ahead
    ∙ ap (λ ds. map (lightened truth) (take at cs) ++ lightened_among truth ds) (drop_all at cs l)
    ∙ sym (ap (λ ds. map (lightened truth) (take at cs) ++ ds) (drop_all at cs l))

-- the clauses before a place were gone through, and come to what is told
pub record Refining {Whole : Type 0} (carry : ClauseRec → Whole) (judge : Occurrence → Truth)
    (old : ClauseContext) (before : List Whole) (now : ClauseContext) (after : List Whole) (at : ℕ)
    (told : Refined) : Type 0 where
  pub lighter : now ≡ record old {
    clauses = mapped_before (lightened (judged_by judge old.decisions)) old.clauses at;
  }
  pub so_far : told ≡ refined_among
      (waiting_of (judged_by judge old.decisions) (take at old.clauses))
  pub undo : Notes clauses_undo carry before after old now

module _ {Whole : Type 0} (carry : ClauseRec → Whole) (judge : Occurrence → Truth)
    (old : ClauseContext) (before : List Whole) where
  abbrev truth : Occurrence → Truth
  truth = judged_by judge old.decisions

  -- what holds between two clauses
  abbrev pub Passing : ClauseContext → List Whole → ℕ → Refined → Type 0
  Passing now after at told =
      Refining carry judge old before now after at told × NoneFailed truth old.clauses at

  pub Refining-starts : (after : List Whole) → after ≡ before → Passing old after 0 Quiet
  Refining-starts after kept = (
    record {
      lighter = refl;
      so_far = refl;
      undo = notes_nothing clauses_undo carry before after old old kept refl;
    },
    record { ahead = refl },
  )

  module _ (now : ClauseContext) (after : List Whole) (at : ℕ) (told : Refined) where
    pub Refining-length : Refining carry judge old before now after at told
        → length now.clauses ≡ length old.clauses
    Refining-length so =
        ap (λ (v : ClauseContext). length v.clauses) so.lighter
        ∙ length-mapped_before (lightened truth) old.clauses at

    here_as_it_was : Refining carry judge old before now after at told → at < length old.clauses
        → clause_at now at ≡ clause_at old at
    here_as_it_was so l =
        ap (λ (v : ClauseContext). clause_at v at) so.lighter
        ∙ mapped_item (lightened truth) old.clauses at no_clause l

    pub Refining-told : Refining carry judge old before now after at told
        → length old.clauses ≤ at → told ≡ refined judge old
    Refining-told so l =
        so.so_far
        ∙ ap (λ cs. refined_among (waiting_of truth cs)) (take_all at old.clauses l)

    pub Refining-done : Passing now after at told → length old.clauses ≤ at
        → now ≡ lighter judge old
    Refining-done so l =
        so.0.lighter
        ∙ ap (λ cs. record old { clauses = cs })
        (sym (NoneFailed-all truth old.clauses at so.1 l))

    module _ (later : ClauseContext) (longer : List Whole) (here both : Refined)
        (so : Passing now after at told) (l : at < length old.clauses)
        (joins : both ≡ joined told here)
        (comes : here ≡ refined_among
        (waiting_of (judged_by judge now.decisions) (clause_at now at ∷ [])))
        (settled : later ≡ with_clause now at
        (lightened (judged_by judge now.decisions) (clause_at now at)))
        (undo : Notes clauses_undo carry after longer now later) where
      is : here ≡ refined_among (waiting_of truth (clause_at old at ∷ []))
      is =
          comes
          ∙ ap (λ (v : ClauseContext). refined_among (waiting_of (judged_by judge v.decisions)
          (clause_at now at ∷ []))) so.0.lighter
          ∙ ap (λ c. refined_among (waiting_of truth (c ∷ []))) (here_as_it_was so.0 l)

      pub Refining-more : Refining carry judge old before later longer (at + 1) both
      Refining-more = record {
        lighter =
            settled
            ∙ ap (λ (v : ClauseContext). with_clause v at
            (lightened (judged_by judge v.decisions) (clause_at now at))) so.0.lighter
            ∙ ap (λ c. record old {
              clauses =
                  set (mapped_before (lightened truth) old.clauses at) at (lightened truth c);
            }) (here_as_it_was so.0 l)
            ∙ ap (λ cs. record old { clauses = cs })
            (mapped_sets (lightened truth) old.clauses at no_clause l);
        so_far =
            joins ∙ ap (λ t. joined t here) so.0.so_far
            ∙ ap (λ h. joined (refined_among (waiting_of truth (take at old.clauses))) h) is
            ∙ sym (refined-append (waiting_of truth (take at old.clauses))
            (waiting_of truth (clause_at old at ∷ [])))
            ∙ ap refined_among (sym (waiting_more truth old.clauses at no_clause l));
        undo =
            notes_both clauses_undo (equal_is_lawful clauses_back CanGoBack) carry before after
            longer old now later so.0.undo undo;
      }

      pub Passing-more : (here ≡ Empty → ⊥) → Passing later longer (at + 1) both
      Passing-more other = (
        Refining-more,
        record {
          ahead = ahead_more truth old.clauses at no_clause false so.1 l
              (not_failed_unless_empty truth (clause_at old at) (λ e. other (is ∙ e)));
        },
      )

      -- the clause has failed, and those behind it are as they were
      pub Refining-stops : here ≡ Empty → later ≡ lighter judge old
      Refining-stops empty =
          Refining-more.lighter
          ∙ ap (λ cs. record old { clauses = cs })
          (sym (ahead_more truth old.clauses at no_clause true so.1 l
          (failed_if_empty truth (clause_at old at) (sym is ∙ empty))))

      -- and so all have
      pub Refining-empty : here ≡ Empty → both ≡ refined judge old
      Refining-empty empty =
          let told_empty : both ≡ Empty =
          joins ∙ ap (λ h. joined told h) empty ∙ joined-Empty told in
          let n = at + 1 in
          let behind = refined_among (waiting_of truth (drop n old.clauses)) in
          told_empty
          ∙ sym (ap (λ cs. refined_among (waiting_of truth cs))
          (sym (take-append-drop n old.clauses))
          ∙ ap refined_among (waiting-append truth (take n old.clauses) (drop n old.clauses))
          ∙ refined-append (waiting_of truth (take n old.clauses))
          (waiting_of truth (drop n old.clauses))
          ∙ ap (λ r. joined r behind) (sym Refining-more.so_far ∙ told_empty))
