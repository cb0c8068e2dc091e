-- How a sharing takes records back: a record goes to its own part, and the others stay.
use Rattle.std.proofs.Common.{refl, sym, ap, subst, ◌∙◌}
use Rattle.std.specs.Prelude.{◌≡◌, ◌-◌, ◌<◌, List, length, take}
use Rattle.esc_trail.specs.Undo.{Undo, IsLawful}
use Rattle.esc_egraph.specs.GraphUndo.{graph_undo}
use Rattle.esc_egraph.specs.declared.record.EgraphRec.{EgraphRec}
use Rattle.esc_distinct.specs.GroupsUndo.{groups_undo}
use Rattle.esc_distinct.specs.declared.record.GroupRec.{GroupRec}
use Rattle.esc_sharing.specs.declared.record.PartRec.{PartRec}
use Rattle.esc_sharing.specs.declared.record.PartRec.TheVariants.{Nodes, Groups, Lists, Theory}
use Rattle.esc_sharing.specs.declared.record.ShareRec.{ShareRec}
use Rattle.esc_sharing.specs.declared.record.ShareRec.TheVariants.{Asserted, Told}
use Rattle.esc_sharing.specs.declared.sharing.Sharing.{Sharing}

-- all but the last of a list
abbrev pub but_last : {X : Type 0} → List X → List X
but_last xs = take (length xs - 1) xs

abbrev pub sharing_back : {T Q : Type 0} → Undo T Q → Sharing T → PartRec Q → Sharing T
sharing_back theory s (Nodes rec) = record s { graph = graph_undo.back s.graph rec }
sharing_back theory s (Groups rec) = record s { groups = groups_undo.back s.groups rec }
sharing_back theory s (Lists Asserted) = record s { asserted = but_last s.asserted }
sharing_back theory s (Lists Told) = record s { told = but_last s.told }
sharing_back theory s (Theory rec) = record s { theory = theory.back s.theory rec }

abbrev pub CanGoBack : {T Q : Type 0} → Undo T Q → Sharing T → PartRec Q → Type 0
CanGoBack theory s (Nodes rec) = graph_undo.can s.graph rec
CanGoBack theory s (Groups rec) = groups_undo.can s.groups rec
CanGoBack theory s (Lists Asserted) = 0 < length s.asserted
CanGoBack theory s (Lists Told) = 0 < length s.told
CanGoBack theory s (Theory rec) = theory.can s.theory rec

-- equal but for the theory, which agrees in what it restores
pub record AreSame {T Q : Type 0} (undo : Undo T Q) (v w : Sharing T) : Type 0 where
  pub graph : v.graph ≡ w.graph
  pub groups : v.groups ≡ w.groups
  pub asserted : v.asserted ≡ w.asserted
  pub told : v.told ≡ w.told
  pub theory : undo.same v.theory w.theory

abbrev pub sharing_undo : {T Q : Type 0} → Undo T Q → Undo (Sharing T) (PartRec Q)
sharing_undo theory = record {
  back = sharing_back theory;
  can = CanGoBack theory;
  same = AreSame theory;
}

-- a record of a part as one of the whole trail
abbrev pub part_carried : {W Q : Type 0} → (EgraphRec → W) → (GroupRec → W) → (ShareRec → W)
    → (Q → W) → PartRec Q → W
part_carried nodes groups lists theory (Nodes rec) = nodes rec
part_carried nodes groups lists theory (Groups rec) = groups rec
part_carried nodes groups lists theory (Lists rec) = lists rec
part_carried nodes groups lists theory (Theory rec) = theory rec

-- ---- it is lawful where the theory's is

module _ {T Q : Type 0} (undo : Undo T Q) (law : IsLawful undo) where
  same_can : (v w : Sharing T) (rec : PartRec Q) → AreSame undo v w → CanGoBack undo w rec
      → CanGoBack undo v rec
  same_can v w (Nodes rec) h can = subst (λ g. graph_undo.can g rec) (sym h.graph) can
  same_can v w (Groups rec) h can = subst (λ g. groups_undo.can g rec) (sym h.groups) can
  same_can v w (Lists Asserted) h can = subst (λ xs. 0 < length xs) (sym h.asserted) can
  same_can v w (Lists Told) h can = subst (λ xs. 0 < length xs) (sym h.told) can
  same_can v w (Theory rec) h can = law.can_alike v.theory w.theory rec h.theory can

  same_back : (v w : Sharing T) (rec : PartRec Q) → AreSame undo v w → CanGoBack undo w rec
      → AreSame undo (sharing_back undo v rec) (sharing_back undo w rec)
  same_back v w (Nodes rec) h can = record {
    graph = ap (λ g. graph_undo.back g rec) h.graph;
    groups = h.groups;
    asserted = h.asserted;
    told = h.told;
    theory = h.theory;
  }
  same_back v w (Groups rec) h can = record {
    graph = h.graph;
    groups = ap (λ g. groups_undo.back g rec) h.groups;
    asserted = h.asserted;
    told = h.told;
    theory = h.theory;
  }
  same_back v w (Lists Asserted) h can = record {
    graph = h.graph;
    groups = h.groups;
    asserted = ap but_last h.asserted;
    told = h.told;
    theory = h.theory;
  }
  same_back v w (Lists Told) h can = record {
    graph = h.graph;
    groups = h.groups;
    asserted = h.asserted;
    told = ap but_last h.told;
    theory = h.theory;
  }
  same_back v w (Theory rec) h can = record {
    graph = h.graph;
    groups = h.groups;
    asserted = h.asserted;
    told = h.told;
    theory = law.back_alike v.theory w.theory rec h.theory can;
  }

  pub sharing_lawful : IsLawful (sharing_undo undo)
  sharing_lawful = record {
    reflexive = λ v. record {
      graph = refl;
      groups = refl;
      asserted = refl;
      told = refl;
      theory = law.reflexive v.theory;
    };
    symmetric = λ v w h. record {
      graph = sym h.graph;
      groups = sym h.groups;
      asserted = sym h.asserted;
      told = sym h.told;
      theory = law.symmetric v.theory w.theory h.theory;
    };
    transitive = λ u v w h k. record {
      graph = h.graph ∙ k.graph;
      groups = h.groups ∙ k.groups;
      asserted = h.asserted ∙ k.asserted;
      told = h.told ∙ k.told;
      theory = law.transitive u.theory v.theory w.theory h.theory k.theory;
    };
    can_alike = same_can;
    back_alike = same_back;
  }
