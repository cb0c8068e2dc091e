use Rattle.std.proofs.Common.{◌≡◌, map, take}
use Rattle.std.specs.List.{All, filter}
use Rattle.esc_cover.specs.Classes.{leaders}
use Rattle.esc_sharing.specs.Nodes.{same_in, terms_in}
use Rattle.esc_outcome.specs.Found.{members_of}
use Rattle.esc_context.specs.ClassesInside.{HasSample}
use Rattle.esc_context.proofs.ClassTerms.{AreListed}
use Rattle.esc_context.proofs.classes.classes_of.Given as goal

abbrev pub invariant-nodes : goal.invariant-nodes
invariant-nodes l = record {
  listed : AreListed l.fn.sharing.graph l.index l.listed.items;
  shown : members_of l.classes
      ≡ map (λ leader. filter (same_in l.fn.sharing.graph leader) (terms_in l.fn.sharing.graph))
      (leaders (same_in l.fn.sharing.graph) (take l.index (terms_in l.fn.sharing.graph)));
  values : All (HasSample l.fn.sharing) l.classes;
}
