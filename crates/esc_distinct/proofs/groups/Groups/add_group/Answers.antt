use Rattle.std.proofs.Common.{◌≡◌, [], ◌∷◌, ◌++◌, arith, length-append}
use Rattle.std.proofs.lemmas.Grind.{common_steps}
use Rattle.esc_distinct.specs.GroupsUndo.{groups_undo}
use Rattle.esc_distinct.specs.declared.record.GroupRec.TheVariants.{Added}
use Rattle.esc_trail.proofs.Ends.{take-append_last}
use Rattle.esc_trail.proofs.Noting.{notes_one}
use Rattle.esc_distinct.proofs.groups.Groups.add_group.Goals as goal

pub returns-clause-undo : goal.returns-clause-undo
returns-clause-undo g c =
    let longer : c.push.new.self.items ≡ c.args.self.now ++ (c.args.nodes.now ∷ []) =
    grind (arith, common_steps) in
    rw longer (notes_one groups_undo g.R.CarriesGroups.carried_group _ _ c.args.self.now
    (c.args.self.now ++ (c.args.nodes.now ∷ [])) Added (cc)
    (omega (arith, length-append c.args.self.now (c.args.nodes.now ∷ [])))
    (take-append_last c.args.self.now c.args.nodes.now))
