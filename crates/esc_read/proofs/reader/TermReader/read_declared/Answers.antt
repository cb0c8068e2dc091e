use Rattle.std.proofs.Common.{rules, arith}
use Rattle.esc_read.proofs.Declaring.{Declaring-ends, Declaring-fails, Declaring-starts}
use Rattle.esc_read.proofs.Declaring.{Declaring-step}
use Rattle.esc_read.proofs.reader.TermReader.read_declared.Goals as goal

pub items-init : goal.items-init
items-init c = Declaring-starts _ c.args.items.now

pub items-preserved : goal.items-preserved
items-preserved c =
    Declaring-step c.args.items.now c.items.place c.index-items-place.result c.read_variable.result
    c.in_ok-read_variable.field-0
    c.items-test.true c.index-items-place.is c.items.invariant c.read_variable.ensures.read
    c.in_ok-read_variable.was
    c.read_variable.ensures.names c.read_variable.ensures.scope

pub returns-in_err-read_variable : goal.returns-in_err-read_variable
returns-in_err-read_variable c =
    Declaring-fails c.args.items.now c.items.place c.index-items-place.result c.read_variable.result
    c.from_residual.result c.in_err-read_variable.field-0.0
    c.items-test.true c.index-items-place.is c.items.invariant c.read_variable.ensures.read
    c.in_err-read_variable.was
    c.read_variable.ensures.names (search rules)

pub returns : goal.returns
returns c = Declaring-ends c.args.items.now c.items.place (omega arith) c.items.invariant
