use Rattle.std.proofs.Common.{inr, ℕ, IfErr, sym, subst}
use Rattle.esc_tableau.specs.Run.{IsGreatest, PeakHolds}
use Rattle.esc_tableau.specs.declared.answers.Peak.TheVariants.{Positive}
use Rattle.esc_tableau.proofs.RunLaws.{err_is}
use Rattle.esc_simplex.specs.Steps.{ExceedStops}
use Rattle.esc_simplex.proofs.Exceeding.{keeps_system, nowhere, positive_ends}
use Rattle.esc_simplex.proofs.Keeping.{keeps_itself}
use Rattle.esc_simplex.proofs.maximising.exceeds.Goals as goal

pub returns-in_err-unknown-clause-keeps : goal.returns-in_err-unknown-clause-keeps
returns-in_err-unknown-clause-keeps c =
    keeps_itself c.args.tableau.now c.add_gap_row.new.tableau c.in_err-unknown.ensures.err
    c.requires.table c.requires.within

pub returns-in_err-found-clause-keeps : goal.returns-in_err-found-clause-keeps
returns-in_err-found-clause-keeps c = keeps_system c.args.tableau.now c.add_gap_row.new.tableau
    c.maximised-found.new.tableau c.drop_last.new.self c.args.upper c.args.lower
    c.requires.table c.drop_last.ensures.table c.requires.upper c.requires.lower
    c.in_ok-unknown.ensures.adds c.maximised-found.ensures.keeps c.drop_last.ensures.drops

pub returns-in_err-found-clause-stops : goal.returns-in_err-found-clause-stops
returns-in_err-found-clause-stops c =
    subst (λ r. IfErr r (ExceedStops c.args.tableau.now c.args.upper c.args.lower c.args.limit))
    (sym (err_is c.from_residual-in_err-found.result c.in_err-found.field-0.0
    c.from_residual-in_err-found.ensures))
    (inr (record {
      start = c.add_gap_row.new.tableau;
      now = c.maximised-found.new.tableau;
      made = record {
        table = c.in_ok-unknown.ensures.table;
        adds = c.in_ok-unknown.ensures.adds;
        within = c.in_ok-unknown.ensures.adds.within c.requires.within;
      };
      kept = c.maximised-found.ensures.keeps;
      unknown = c.in_ok-unknown.unknown;
      is_new = c.in_ok-unknown.ensures.unknown;
      stops = c.in_err-found.ensures.stops;
    }))

pub returns-in-NotPositive-clause-keeps : goal.returns-in-NotPositive-clause-keeps
returns-in-NotPositive-clause-keeps c = keeps_system c.args.tableau.now c.add_gap_row.new.tableau
    c.maximised-found.new.tableau c.drop_last.new.self c.args.upper c.args.lower
    c.requires.table c.drop_last.ensures.table c.requires.upper c.requires.lower
    c.in_ok-unknown.ensures.adds c.maximised-found.ensures.keeps c.drop_last.ensures.drops

pub returns-in-NotPositive-clause-ends : goal.returns-in-NotPositive-clause-ends
returns-in-NotPositive-clause-ends c = nowhere c.args.tableau.now c.add_gap_row.new.tableau
    c.maximised-found.new.tableau c.drop_last.new.self c.args.upper c.args.lower
    c.requires.table c.drop_last.ensures.table c.requires.upper c.requires.lower
    c.in_ok-unknown.ensures.adds c.maximised-found.ensures.keeps c.drop_last.ensures.drops
    (subst (IsGreatest c.maximised-found.new.tableau) c.in_ok-unknown.ensures.unknown
    (subst (PeakHolds c.maximised-found.new.tableau c.in_ok-unknown.unknown) c.in-NotPositive.is
    c.in_ok-found.ensures.holds))

pub returns-in-Positive-clause-keeps : goal.returns-in-Positive-clause-keeps
returns-in-Positive-clause-keeps c = keeps_system c.args.tableau.now c.add_gap_row.new.tableau
    c.maximised-found.new.tableau c.drop_last.new.self c.args.upper c.args.lower
    c.requires.table c.drop_last.ensures.table c.requires.upper c.requires.lower
    c.in_ok-unknown.ensures.adds c.maximised-found.ensures.keeps c.drop_last.ensures.drops

pub returns-in-Positive-clause-ends : goal.returns-in-Positive-clause-ends
returns-in-Positive-clause-ends c = positive_ends c.args.tableau.now c.add_gap_row.new.tableau
    c.maximised-found.new.tableau c.drop_last.new.self c.args.upper c.args.lower
    c.requires.table c.drop_last.ensures.table c.requires.upper c.requires.lower
    c.in_ok-unknown.ensures.adds c.maximised-found.ensures.keeps c.drop_last.ensures.drops
    c.in-Positive.ray
    (subst (λ (u : ℕ). PeakHolds c.maximised-found.new.tableau u (Positive c.in-Positive.ray))
    c.in_ok-unknown.ensures.unknown
    (subst (PeakHolds c.maximised-found.new.tableau c.in_ok-unknown.unknown) c.in-Positive.is
    c.in_ok-found.ensures.holds))
