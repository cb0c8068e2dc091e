use Rattle.std.proofs.Common.{subst, sym, ap, ◌∙◌}
use Rattle.esc_simplex.specs.View.{IsSimplex}
use Rattle.esc_simplex.specs.declared.simplex.Simplex.{Simplex}
use Rattle.esc_live.specs.declared.branch.LiveBranch.{LiveBranch}
use Rattle.esc_live.proofs.NewBranch.{new_branch, new_given}
use Rattle.esc_live.proofs.branch.LiveBranch.new.Goals as goal

pub returns-clause-branch : goal.returns-clause-branch
returns-clause-branch c =
    let v : LiveBranch = record {
      sharing = c.in_ok-sharing.sharing;
      clauses = c.new-3.result;
      book = c.new-4.result;
      literals = c.new-5.result;
      alloc = c.args.alloc;
    } in
    new_branch v c.in_ok-sharing.ensures.shared c.in_ok-sharing.ensures.terms
    c.in_ok-sharing.ensures.literals
    (ap (λ (t : Simplex). t.bound) c.in_ok-sharing.ensures.theory ∙ c.new.ensures.bound)
    (ap (λ (t : Simplex). t.made) c.in_ok-sharing.ensures.theory ∙ c.new.ensures.made)
    c.new-3.ensures c.new-4.ensures c.new-5.ensures

pub returns-clause-given : goal.returns-clause-given
returns-clause-given c =
    let v : LiveBranch = record {
      sharing = c.in_ok-sharing.sharing;
      clauses = c.new-3.result;
      book = c.new-4.result;
      literals = c.new-5.result;
      alloc = c.args.alloc;
    } in
    new_given v c.in_ok-sharing.ensures.shared c.in_ok-sharing.ensures.terms
    c.in_ok-sharing.ensures.literals
    (ap (λ (t : Simplex). t.bound) c.in_ok-sharing.ensures.theory ∙ c.new.ensures.bound)
    (ap (λ (t : Simplex). t.made) c.in_ok-sharing.ensures.theory ∙ c.new.ensures.made)
    c.new-3.ensures c.new-4.ensures c.new-5.ensures
    (subst IsSimplex (sym c.in_ok-sharing.ensures.theory) c.new.ensures.simplex)
