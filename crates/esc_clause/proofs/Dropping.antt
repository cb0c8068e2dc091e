-- Dropping the items of a clause that fail, from the front.
use Rattle.std.proofs.Common.{◌≡◌, ℕ, ◌+◌, ◌<◌, ◌≤◌, Bool, true, false, not, ◌&&◌, ◌||◌, List, []}
use Rattle.std.proofs.Common.{◌∷◌, length, set, refl, ap, sym, ◌∙◌, arith}
use Rattle.std.proofs.lemmas.Bool.{or_parts}
use Rattle.std.proofs.lemmas.List.{get_or-set_same, set-get_or, set-set}
use Rattle.std.specs.List.{list_any}
use Rattle.esc_trail.specs.Records.{Records}
use Rattle.esc_trail.specs.Undo.{Notes}
use Rattle.esc_trail.proofs.Lawful.{equal_is_lawful}
use Rattle.esc_trail.proofs.Noting.{notes_nothing, notes_both}
use Rattle.esc_clause.proofs.MappedFront.{mapped_before, mapped_item, mapped_keeps, mapped_sets}
use Rattle.esc_clause.proofs.MappedFront.{mapped_all}
use Rattle.esc_clause.specs.ClauseContext.{Clause, ClauseContext, no_clause}
use Rattle.esc_clause.specs.ClausesUndo.{clauses_undo, clauses_back, CanGoBack, member_at}
use Rattle.esc_clause.specs.ClausesUndo.{no_member, with_gone}
use Rattle.esc_clause.specs.PassesInside.{clause_at, with_clause, is_failing}
use Rattle.esc_clause.specs.Refinement.{is_no, thinned, thinned_member}
use Rattle.esc_clause.specs.declared.member.Member.{Member}
use Rattle.esc_clause.specs.declared.occurrence.Occurrence.{Occurrence}
use Rattle.esc_clause.specs.declared.record.ClauseRec.{ClauseRec}
use Rattle.esc_clause.specs.declared.truth.Truth.{Truth}

-- ---- one item

gone_as : (g fails : Bool) → (not g && fails) ≡ false → (g || fails) ≡ g
gone_as true fails e = refl
gone_as false fails e = e

gone_now : (g fails : Bool) → (not g && fails) ≡ true → (g || fails) ≡ true
gone_now true fails e = refl
gone_now false fails e = e

pub left_if_failing : (g fails : Bool) → (not g && fails) ≡ true → g ≡ false
left_if_failing true fails e = cc
left_if_failing false fails e = refl

thinned_same : (truth : Occurrence → Truth) (m : Member) → is_failing truth m ≡ false
    → thinned_member truth m ≡ m
thinned_same truth m e =
    ap (λ g. record { item = m.item; gone = g }) (gone_as m.gone (is_no (truth m.item)) e)

thinned_gone : (truth : Occurrence → Truth) (m : Member) → is_failing truth m ≡ true
    → thinned_member truth m ≡ record { item = m.item; gone = true }
thinned_gone truth m e =
    ap (λ g. record { item = m.item; gone = g }) (gone_now m.gone (is_no (truth m.item)) e)

-- ---- the items before a place

module _ (truth : Occurrence → Truth) (c : Clause) where
  -- the clause without the items before a place that fail
  abbrev pub thinned_before : ℕ → Clause
  thinned_before = mapped_before (thinned_member truth) c

  -- the item has gone, or does not fail, and stays as it is
  pub thinned_keeps : (place : ℕ) → place < length c
      → is_failing truth (member_at c place) ≡ false
      → thinned_before place ≡ thinned_before (place + 1)
  thinned_keeps place l e =
      mapped_keeps (thinned_member truth) c place no_member l
      (thinned_same truth (member_at c place) e)

  -- the item fails, and goes
  pub thinned_drops : (place : ℕ) → place < length c
      → is_failing truth (member_at c place) ≡ true
      → with_gone (thinned_before place) place true ≡ thinned_before (place + 1)
  thinned_drops place l e =
      ap (λ n. set (thinned_before place) place (record { item = n.item; gone = true }))
      (mapped_item (thinned_member truth) c place no_member l)
      ∙ ap (λ n. set (thinned_before place) place n)
      (sym (thinned_gone truth (member_at c place) e))
      ∙ mapped_sets (thinned_member truth) c place no_member l

-- no item that is left fails, and none goes
pub thinned_none : (truth : Occurrence → Truth) (c : Clause)
    → list_any (is_failing truth) c ≡ false → thinned truth c ≡ c
thinned_none truth [] e = refl
thinned_none truth (m ∷ c) e =
    let neither = or_parts (is_failing truth m) (list_any (is_failing truth) c) e in
    ap (λ n. n ∷ thinned truth c) (thinned_same truth m neither.0)
    ∙ ap (λ d. m ∷ d) (thinned_none truth c neither.1)

-- ---- with the trail

pub record Dropping {Whole : Type 0} (carry : ClauseRec → Whole) (truth : Occurrence → Truth)
    (old : ClauseContext) (before : List Whole) (now : ClauseContext) (trail : Records Whole)
    (at place : ℕ) : Type 0 where
  pub thinned : now ≡ with_clause old at (thinned_before truth (clause_at old at) place)
  pub room : length (clause_at old at) ≤ trail.spare + place
  pub undo : Notes clauses_undo carry before trail.records old now

module _ {Whole : Type 0} (carry : ClauseRec → Whole) (truth : Occurrence → Truth)
    (old : ClauseContext) (before : List Whole) (at : ℕ) where
  pub Dropping-starts : (trail : Records Whole) → length (clause_at old at) ≤ trail.spare
      → trail.records ≡ before → Dropping carry truth old before old trail at 0
  Dropping-starts trail room kept = record {
    thinned = sym (ap (λ cs. record old { clauses = cs }) (set-get_or old.clauses at no_clause));
    room = omega (arith, room);
    undo = notes_nothing clauses_undo carry before trail.records old old kept refl;
  }

  -- the clause that is being thinned, as it stands
  pub Dropping-here : (now : ClauseContext) (trail : Records Whole) (place : ℕ)
      → Dropping carry truth old before now trail at place → at < length old.clauses
      → clause_at now at ≡ thinned_before truth (clause_at old at) place
  Dropping-here now trail place so there =
      ap (λ (v : ClauseContext). clause_at v at) so.thinned
      ∙ get_or-set_same old.clauses at (thinned_before truth (clause_at old at) place) no_clause
      there

  pub Dropping-item : (now : ClauseContext) (trail : Records Whole) (place : ℕ)
      → Dropping carry truth old before now trail at place → at < length old.clauses
      → place < length (clause_at old at)
      → member_at (clause_at now at) place ≡ member_at (clause_at old at) place
  Dropping-item now trail place so there l =
      ap (λ (c : Clause). member_at c place) (Dropping-here now trail place so there)
      ∙ mapped_item (thinned_member truth) (clause_at old at) place no_member l

  pub Dropping-keeps : (now : ClauseContext) (trail : Records Whole) (place : ℕ)
      → Dropping carry truth old before now trail at place → at < length old.clauses
      → place < length (clause_at old at)
      → is_failing truth (member_at (clause_at now at) place) ≡ false
      → Dropping carry truth old before now trail at (place + 1)
  Dropping-keeps now trail place so there l keeps = record {
    thinned = so.thinned
        ∙ ap (λ d. with_clause old at d)
        (thinned_keeps truth (clause_at old at) place l
        (ap (is_failing truth) (sym (Dropping-item now trail place so there l)) ∙ keeps));
    room = omega (arith, so.room);
    undo = so.undo;
  }

  pub Dropping-drops : (now : ClauseContext) (trail : Records Whole) (place : ℕ)
      (later : ClauseContext) (longer : Records Whole)
      → Dropping carry truth old before now trail at place → at < length old.clauses
      → place < length (clause_at old at)
      → is_failing truth (member_at (clause_at now at) place) ≡ true
      → later ≡ with_clause now at (with_gone (clause_at now at) place true)
      → trail.spare ≤ longer.spare + 1
      → Notes clauses_undo carry trail.records longer.records now later
      → Dropping carry truth old before later longer at (place + 1)
  Dropping-drops now trail place later longer so there l fails left room undo =
      let c = clause_at old at in
      let drops =
      thinned_drops truth c place l
      (ap (is_failing truth) (sym (Dropping-item now trail place so there l)) ∙ fails) in
      record {
        thinned = left
            ∙ ap (λ d. with_clause now at (with_gone d place true))
            (Dropping-here now trail place so there)
            ∙ ap (λ d. with_clause now at d) drops
            ∙ ap (λ v. with_clause v at (thinned_before truth c (place + 1))) so.thinned
            ∙ ap (λ cs. record old { clauses = cs })
            (set-set old.clauses at (thinned_before truth c place)
            (thinned_before truth c (place + 1)));
        room = omega (arith, so.room, room);
        undo =
            notes_both clauses_undo (equal_is_lawful clauses_back CanGoBack) carry before
            trail.records longer.records old now later so.undo undo;
      }

  pub Dropping-done : (now : ClauseContext) (trail : Records Whole) (place : ℕ)
      → Dropping carry truth old before now trail at place
      → length (clause_at old at) ≤ place
      → now ≡ with_clause old at (thinned truth (clause_at old at))
  Dropping-done now trail place so l =
      so.thinned
      ∙ ap (λ d. with_clause old at d)
      (mapped_all (thinned_member truth) (clause_at old at) place l)
