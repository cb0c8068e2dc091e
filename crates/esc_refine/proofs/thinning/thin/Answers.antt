use Rattle.std.proofs.Common.{refl}
use Rattle.esc_refine.proofs.Lightened.{notes_clauses, says_so}
use Rattle.esc_refine.proofs.Thins.{is_thinner, judged_on, ready_on, still_branch, tells_of}
use Rattle.esc_refine.proofs.thinning.thin.Goals as goal

pub refine-requires : goal.refine-requires
refine-requires c =
    record {
      ready = ready_on _ c.args.branch.now
          (record {
            book = refl;
            saying = record {
              graph = c.graph.ensures;
              groups = c.groups.ensures;
              asserted = c.asserted.ensures;
            };
            literals = refl;
          }) c.saying_laws.ensures c.requires.branch;
    }

pub returns-clause-thinner : goal.returns-clause-thinner
returns-clause-thinner c =
    is_thinner c.args.branch.now _ c.refine.new.self c.refine.result c.refine.ensures.ok
    c.refine.ensures.err

pub returns-clause-branch : goal.returns-clause-branch
returns-clause-branch c =
    still_branch c.args.branch.now _ c.refine.new.self c.requires.branch
    (judged_on c.args.branch.now _ c.graph.ensures) c.refine.result
    (says_so c.args.branch.now c.requires.branch.shared c.unquantified_laws.ensures.least
    c.model_laws.ensures.sound) c.refine.ensures.ok

pub returns-clause-tells : goal.returns-clause-tells
returns-clause-tells c =
    tells_of c.args.branch.now _ c.refine.new.self c.requires.branch
    (judged_on c.args.branch.now _ c.graph.ensures) c.refine.result
    (says_so c.args.branch.now c.requires.branch.shared c.unquantified_laws.ensures.least
    c.model_laws.ensures.sound) c.refine.ensures.ok c.refine.ensures.exact

pub returns-clause-undo : goal.returns-clause-undo
returns-clause-undo c =
    notes_clauses c.args.branch.now c.args.trail.now.records c.refine.new.trail.records
    c.refine.new.self c.refine.ensures.undo
