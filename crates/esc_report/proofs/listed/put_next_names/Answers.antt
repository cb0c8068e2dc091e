use Rattle.std.proofs.Common.{◌++◌, get_or}
use Rattle.std.proofs.lemmas.List.{get_or_default}
use Rattle.esc_term.specs.declared.term.Sym.{Sym}
use Rattle.esc_print.specs.Names.{name_text}
use Rattle.esc_print.specs.Terms.{blank, spaced}
use Rattle.esc_report.proofs.Eaches.{each_done, each_failed, each_start, each_step}
use Rattle.esc_report.proofs.listed.put_next_names.Goals as goal

pub list-init : goal.list-init
list-init g c =
    each_start (λ s. blank ++ name_text c.args.names.now s) c.args.list.now c.args.sink.now

pub returns-in_err-put_next_name : goal.returns-in_err-put_next_name
unfolding spaced
returns-in_err-put_next_name g c =
    let list = c.args.list.now in
    let i = c.list.name-index in
    let name : Sym = get_or list i (record { 0 = 0 }) in
    each_failed (λ s. blank ++ name_text c.args.names.now s) list i name c.list-test.true
    (get_or_default list i name (record { 0 = 0 }) c.list-test.true) c.list.invariant
    c.from_residual.ensures.0 c.in_err-put_next_name.ensures

pub list-preserved : goal.list-preserved
list-preserved g c =
    let list = c.args.list.now in
    let i = c.list.name-index in
    let name : Sym = get_or list i (record { 0 = 0 }) in
    each_step (λ s. blank ++ name_text c.args.names.now s) list i name c.list-test.true
    (get_or_default list i name (record { 0 = 0 }) c.list-test.true) c.list.invariant
    c.in_ok-put_next_name.ensures

pub returns : goal.returns
unfolding spaced
returns g c =
    each_done (λ s. blank ++ name_text c.args.names.now s) c.args.list.now c.list.name-index
    c.list-test.false c.list.invariant
