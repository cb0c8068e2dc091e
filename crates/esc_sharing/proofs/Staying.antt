-- What a sharing promises, it promises again where records were taken back.
use Rattle.std.proofs.Common.{◌≡◌, ℕ, List, [], ◌∷◌, drop, length, map, refl, ap, subst}
use Rattle.std.proofs.Common.{arith, length-append}
use Rattle.esc_term.specs.declared.term.Term.{Term}
use Rattle.esc_cover.specs.Assignment.{Assignment}
use Rattle.esc_egraph.specs.Graph.{Graph}
use Rattle.esc_trail.specs.Undo.{CanRewind, IsLawful, Undo, rewind}
use Rattle.esc_trail.proofs.Noting.{keeps_mark}
use Rattle.esc_sharing.specs.Shared.{IsShared, Shared, seen}
use Rattle.esc_sharing.specs.SharingUndo.{AreSame, part_carried, sharing_lawful, sharing_undo}
use Rattle.esc_sharing.specs.Staying.{MarkStays, PromiseStays}
use Rattle.esc_sharing.specs.declared.literal.Lit.{Lit}
use Rattle.esc_sharing.specs.declared.record.PartRec.{PartRec}
use Rattle.esc_sharing.specs.declared.record.PartRec.TheVariants.{Nodes, Groups, Lists, Theory}
use Rattle.esc_sharing.specs.declared.record.ShareRec.TheVariants.{Asserted, Told}
use Rattle.esc_sharing.specs.declared.sharing.Sharing.{Sharing}

-- another theory that admits the same
admitting_alike : (v : Shared) (Admits : Assignment → Type 0) (Sound : Type 0)
    → ((x : Assignment) → v.admits x → Admits x) → ((x : Assignment) → Admits x → v.admits x)
    → Sound → IsShared v → IsShared (record v { admits = Admits; sound = Sound })
admitting_alike v Admits Sound forth back sound is = record {
  parts = record {
    sound = sound;
    graph = is.parts.graph;
    met = is.parts.met;
    sides = is.parts.sides;
    equations = is.parts.equations;
    forbidden = is.parts.forbidden;
    members = is.parts.members;
    unbroken = is.parts.unbroken;
    numbers = is.parts.numbers;
    told = is.parts.told;
  };
  least = is.least;
  consistent = is.consistent;
  exact = λ x. ((λ a. (is.exact x).0 (back x a)), (λ a. forth x ((is.exact x).1 a)));
  some = (is.some.0, forth is.some.0 is.some.1);
  agree = record {
    one_value = λ x a. is.agree.one_value x (back x a);
    parted = λ a b two. let p = is.agree.parted a b two in (p.0, forth p.0 p.1, p.2);
  };
}

module _ {T Q : Type 0} (undo : Undo T Q) (lawful : IsLawful undo) (sound : T → Type 0)
    (admits : T → Assignment → Type 0) (numbers : T → List (ℕ × Term))
    (same_admits : (v w : T) → undo.same v w → (x : Assignment) → admits v x → admits w x)
    (same_numbers : (v w : T) → undo.same v w → numbers v ≡ numbers w)
    (back_sound : (v : T) (rec : Q) → undo.can v rec → sound v → sound (undo.back v rec)) where
  abbrev whole : Undo (Sharing T) (PartRec Q)
  whole = sharing_undo undo

  abbrev carry : PartRec Q → PartRec Q
  carry = part_carried (λ rec. Nodes rec) (λ rec. Groups rec) (λ rec. Lists rec) (λ rec. Theory rec)

  carry-self : (rec : PartRec Q) → carry rec ≡ rec
  carry-self (Nodes rec) = refl
  carry-self (Groups rec) = refl
  carry-self (Lists rec) = refl
  carry-self (Theory rec) = refl

  -- ---- a sharing that is the same

  module _ (v w : Sharing T) (same : AreSame undo v w) (ok : sound w.theory) where
    abbrev made : Graph → List (List ℕ) → List Lit → List (ℕ × ℕ) → List (ℕ × Term) → Shared
    made graph groups asserted told ns = record {
      graph = graph;
      groups = groups;
      asserted = asserted;
      told = told;
      numbers = ns;
      admits = admits w.theory;
      sound = sound w.theory;
    }

    same_shared : IsShared (seen sound admits numbers v) → IsShared (seen sound admits numbers w)
    same_shared shared =
        subst (λ g. IsShared (made g w.groups w.asserted w.told (numbers w.theory))) same.graph
        (subst (λ x. IsShared (made v.graph x w.asserted w.told (numbers w.theory))) same.groups
        (subst (λ x. IsShared (made v.graph v.groups x w.told (numbers w.theory))) same.asserted
        (subst (λ x. IsShared (made v.graph v.groups v.asserted x (numbers w.theory))) same.told
        (subst (λ x. IsShared (made v.graph v.groups v.asserted v.told x))
        (same_numbers v.theory w.theory same.theory)
        (admitting_alike (seen sound admits numbers v) (admits w.theory) (sound w.theory)
        (same_admits v.theory w.theory same.theory)
        (same_admits w.theory v.theory (lawful.symmetric v.theory w.theory same.theory))
        ok shared)))))

  pub promise_stays : PromiseStays undo sound admits numbers
  promise_stays v w same ok shared = same_shared v w same ok shared

  -- ---- what holds of the theory between any two calls holds where records were taken back

  back_keeps : (s : Sharing T) (rec : PartRec Q) → whole.can s rec → sound s.theory
      → sound (whole.back s rec).theory
  back_keeps s (Nodes rec) can h = h
  back_keeps s (Groups rec) can h = h
  back_keeps s (Lists Asserted) can h = h
  back_keeps s (Lists Told) can h = h
  back_keeps s (Theory rec) can h = back_sound s.theory rec can h

  rewound_keeps : (s : Sharing T) (recs : List (PartRec Q)) → CanRewind whole s recs
      → sound s.theory → sound (rewind whole s recs).theory
  rewound_keeps s [] can h = h
  rewound_keeps s (rec ∷ recs) can h =
      back_keeps (rewind whole s recs) rec can.1 (rewound_keeps s recs can.0 h)

  -- ---- marks

  pub mark_stays : MarkStays undo sound admits numbers
  mark_stays v w before after mark notes ok stands =
      let laws = sharing_lawful undo lawful in
      let kept = keeps_mark whole laws carry carry-self mark before after v w notes stands.within
      stands.rewinds in
      record {
        within = omega (
          arith,
          stands.within,
          ap length notes.noted,
          length-append before (map carry notes.recs),
        );
        rewinds = kept.undoable;
        shared = promise_stays (rewind whole v (drop mark before)) (rewind whole w (drop mark after))
            (laws.symmetric (rewind whole w (drop mark after)) (rewind whole v (drop mark before))
            kept.view) (rewound_keeps w (drop mark after) kept.undoable ok) stands.shared;
      }
