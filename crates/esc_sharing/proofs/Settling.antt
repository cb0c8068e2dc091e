-- The theory was asked for equalities, and is the same but for its rows.
use Rattle.std.proofs.Common.{◌≡◌, ℕ, List, [], refl, sym, subst}
use Rattle.std.specs.Prelude.{None, Ok}
use Rattle.esc_term.specs.declared.term.Term.{Term}
use Rattle.esc_cover.specs.Assignment.{Assignment}
use Rattle.esc_trail.specs.Undo.{IsLawful, Undo}
use Rattle.esc_trail.proofs.Noting.{notes_nothing}
use Rattle.esc_egraph.specs.declared.record.EgraphRec.{EgraphRec}
use Rattle.esc_distinct.specs.declared.record.GroupRec.{GroupRec}
use Rattle.esc_simplex.specs.Senses.{Sense}
use Rattle.esc_sharing.specs.Admitted.{AreEqualBy, AreTwoNumbers, NextEnds}
use Rattle.esc_sharing.specs.Numbers.{AddsMade, number_terms}
use Rattle.esc_sharing.specs.SettlingInside.{AllAgree, IsUnsettled, Keeps}
use Rattle.esc_sharing.specs.Shared.{IsShared, Shared, seen}
use Rattle.esc_sharing.specs.SharingUndo.{part_carried}
use Rattle.esc_sharing.specs.declared.record.ShareRec.{ShareRec}
use Rattle.esc_sharing.specs.declared.sharing.Sharing.{Sharing}
use Rattle.esc_sharing.proofs.SharingNotes.{keeps_theory}
use Rattle.esc_sharing.proofs.Whole.{settled}

-- another theory that admits the same
unsettled_alike : (v : Shared) (Known : ℕ → ℕ → Type 0) (Admits : Assignment → Type 0) (Sound : Type 0)
    → ((x : Assignment) → v.admits x → Admits x) → ((x : Assignment) → Admits x → v.admits x)
    → Sound → IsUnsettled v Known → IsUnsettled (record v { admits = Admits; sound = Sound }) Known
unsettled_alike v Known Admits Sound forth back sound is = record {
  parts = record {
    sound = sound;
    graph = is.parts.graph;
    met = is.parts.met;
    sides = is.parts.sides;
    equations = is.parts.equations;
    forbidden = is.parts.forbidden;
    members = is.parts.members;
    unbroken = is.parts.unbroken;
    numbers = is.parts.numbers;
    told = is.parts.told;
  };
  exact = λ x. ((λ a. (is.exact x).0 (back x a)), (λ a. forth x ((is.exact x).1 a)));
  some = (is.some.0, forth is.some.0 is.some.1);
  demanded = is.demanded;
  known_equal = λ a b an bn together x admitted. is.known_equal a b an bn together x
      (back x admitted);
}

module _ {T Q : Type 0} (undo : Undo T Q) (law : IsLawful undo) (is_sound : T → Type 0)
    (admits : T → Assignment → Type 0) (numbers_of : T → List (ℕ × Term))
    (same_admits : (v w : T) → undo.same v w → (x : Assignment) → admits v x → admits w x)
    (same_numbers : (v w : T) → undo.same v w → numbers_of v ≡ numbers_of w)
    (entry : Sharing T) (exit : T) (same : undo.same entry.theory exit) where
  forth : (x : Assignment) → admits entry.theory x → admits exit x
  forth = same_admits entry.theory exit same

  back : (x : Assignment) → admits exit x → admits entry.theory x
  back = same_admits exit entry.theory (law.symmetric entry.theory exit same)

  numbers : numbers_of entry.theory ≡ numbers_of exit
  numbers = same_numbers entry.theory exit same

  abbrev v : Shared
  v = seen is_sound admits numbers_of entry

  abbrev with_numbers : List (ℕ × Term) → Shared
  with_numbers ns = record v { admits = admits exit; sound = is_sound exit; numbers = ns }

  pub asked_unsettled : (Known : ℕ → ℕ → Type 0) → IsUnsettled v Known → is_sound exit
      → IsUnsettled (seen is_sound admits numbers_of (record entry { theory = exit })) Known
  asked_unsettled Known is sound =
      subst (λ ns. IsUnsettled (with_numbers ns) Known) numbers
      (unsettled_alike v Known (admits exit) (is_sound exit) forth back sound is)

  pub asked_two : (a b : ℕ) → AreTwoNumbers entry.graph (numbers_of entry.theory) a b
      → AreTwoNumbers entry.graph (numbers_of exit) a b
  asked_two a b two = subst (λ ns. AreTwoNumbers entry.graph ns a b) numbers two

  of_asked_two : (a b : ℕ) → AreTwoNumbers entry.graph (numbers_of exit) a b
      → AreTwoNumbers entry.graph (numbers_of entry.theory) a b
  of_asked_two a b two = subst (λ ns. AreTwoNumbers entry.graph ns a b) (sym numbers) two

  pub asked_equal : (s t : Term) → AreEqualBy (admits entry.theory) s t
      → AreEqualBy (admits exit) s t
  asked_equal s t equal x admitted = equal x (back x admitted)

  asked_agree : AllAgree v
      → AllAgree (seen is_sound admits numbers_of (record entry { theory = exit }))
  asked_agree agree =
      subst (λ ns. AllAgree (with_numbers ns)) numbers
      (λ x admitted. agree x (back x admitted))

  -- nothing is left to be told
  pub asked_shared : (Known : ℕ → ℕ → Type 0) → IsUnsettled v Known → is_sound exit → AllAgree v
      → NextEnds entry.graph (numbers_of entry.theory) (admits entry.theory) (Ok None)
      → IsShared (seen is_sound admits numbers_of (record entry { theory = exit }))
  asked_shared Known is sound agree none =
      settled (seen is_sound admits numbers_of (record entry { theory = exit })) Known
      (asked_unsettled Known is sound) (asked_agree agree)
      (λ a b two.
      let parted = none a b (of_asked_two a b two) in
      (parted.0, forth parted.0 parted.1, parted.2))

  module _ {W : Type 0} (nodes : EgraphRec → W) (groups : GroupRec → W) (lists : ShareRec → W)
      (theory : Q → W) (made_of : T → List Sense) where
    pub asked_keeps : (records : List W) → is_sound exit
        → AddsMade (made_of entry.theory) (made_of exit) (number_terms (numbers_of entry.theory))
        → Keeps undo (part_carried nodes groups lists theory) is_sound numbers_of made_of [] []
        records records entry (record entry { theory = exit })
    asked_keeps records sound made =
        keeps_theory undo law nodes groups lists theory is_sound numbers_of made_of records records
        entry exit sound (sym numbers) made
        (notes_nothing undo theory records records entry.theory exit refl
        (law.symmetric entry.theory exit same))
