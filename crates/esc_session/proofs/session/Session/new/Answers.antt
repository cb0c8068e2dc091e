use Rattle.std.proofs.Common.{None, refl}
use Rattle.esc_session.specs.declared.session.Session.{Session}
use Rattle.esc_session.proofs.Beginning.{new_between}
use Rattle.esc_session.proofs.session.Session.new.Goals as goal

pub returns-clause-between : goal.returns-clause-between
returns-clause-between c =
    let made : Session = record {
      alloc = c.args.alloc;
      base = record { background = c.new.result; negated = None };
      batches = c.new-2.result;
      goals = 0;
      limits = c.args.limits;
      search = c.in_ok-new.field-0;
    } in
    new_between made c.new.ensures refl c.new-2.ensures c.in_ok-new.ensures.ready
    c.in_ok-new.ensures.limits
