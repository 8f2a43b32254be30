use Rattle.std.proofs.Common.{sym, subst}
use Rattle.lh_read.specs.InOrder.{state_of}
use Rattle.lh_read.specs.Reading.{NamesFirstFault}
use Rattle.lh_read.proofs.Progress.{At-start, At-next, At-fault, At-end, At-open, nothing_left}
use Rattle.lh_read.proofs.read_exact.Goals as goal

pub loop-rest-init : goal.loop-rest-init
loop-rest-init c = At-start c.args.text.now c.new-reader.result c.new-reader.ensures.start c.new-reader.ensures.order

pub loop-rest-preserved : goal.loop-rest-preserved
loop-rest-preserved c =
    At-next c.args.text.now c.loop-rest.rest.now c.next_line.result.0.now c.next_line.result.1.now c.loop-rest.number c.loop-rest.reader c.read_line.new.reader c.loop-rest.invariant
    c.next_line.ensures.lines c.next_line.ensures.shorter c.in_default.ensures.step c.in_default.ensures.order

pub returns-in-Err-clause-reads : goal.returns-in-Err-clause-reads
returns-in-Err-clause-reads c =
    subst (λ f. NamesFirstFault f c.args.text.now) (sym c.fault_at.ensures)
    (At-fault c.args.text.now c.loop-rest.rest.now c.next_line.result.0.now c.next_line.result.1.now c.loop-rest.number c.loop-rest.reader c.in-Err.fault (state_of c.read_line.new.reader)
    c.loop-rest.invariant c.next_line.ensures.lines c.in-Err.ensures.step)

pub returns-then-is_inside-clause-reads : goal.returns-then-is_inside-clause-reads
returns-then-is_inside-clause-reads c =
    At-open c.args.text.now c.loop-rest.rest.now c.loop-rest.number c.loop-rest.reader c.loop-rest.invariant (nothing_left c.loop-rest.rest.now c.loop-rest-test.ensures) (sym c.if-is_inside.ensures)

pub returns-clause-reads : goal.returns-clause-reads
returns-clause-reads c =
    At-end c.args.text.now c.loop-rest.rest.now c.loop-rest.number c.loop-rest.reader c.loop-rest.invariant (nothing_left c.loop-rest.rest.now c.loop-rest-test.ensures) (sym c.if-is_inside.ensures)
