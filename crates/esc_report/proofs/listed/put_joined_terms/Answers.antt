use Rattle.std.proofs.Common.{subst, sym}
use Rattle.std.specs.Prelude.{Ok}
use Rattle.esc_io.specs.Putting.{Delivers}
use Rattle.esc_io.specs.declared.faults.Failed.{Failed}
use Rattle.esc_io.proofs.PuttingLemmas.{Delivers-start}
use Rattle.esc_print.specs.Terms.{term_text}
use Rattle.esc_report.proofs.Joining.{joined-empty, joined-first}
use Rattle.esc_report.proofs.listed.put_joined_terms.Goals as goal

pub returns-in-Some : goal.returns-in-Some
returns-in-Some g c =
    subst (λ text. Delivers g.K.Sink.written g.K.Sink.faults c.args.sink.now
    c.put_first_term.new.sink c.put_first_term.result text)
    (sym (joined-first (term_text c.args.names.now 0) c.args.terms.now c.in-Some.first.now
    c.in-Some.rest.now c.in-Some.ensures.cases.0)) c.put_first_term.ensures

pub returns-in-None : goal.returns-in-None
returns-in-None g c =
    subst (λ text. Delivers {E = Failed} g.K.Sink.written g.K.Sink.faults c.args.sink.now
    c.args.sink.now (Ok (tt {0})) text)
    (sym (joined-empty (term_text c.args.names.now 0) c.args.terms.now c.in-None.ensures.cases))
    (Delivers-start c.args.sink.now)
