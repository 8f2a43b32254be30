use Rattle.lh_read.proofs.Progress.{told-ok, told-only, told-fault}
use Rattle.lh_read.proofs.read.Goals as goal

pub returns-clause-ok : goal.returns-clause-ok
returns-clause-ok c = told-ok c.read_exact.result c.args.text.now c.read_exact.ensures.reads

pub returns-clause-only : goal.returns-clause-only
returns-clause-only c = told-only c.read_exact.result c.args.text.now c.read_exact.ensures.reads

pub returns-clause-fault : goal.returns-clause-fault
returns-clause-fault c = told-fault c.read_exact.result c.args.text.now c.read_exact.ensures.reads
