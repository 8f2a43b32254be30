use Rattle.std.proofs.Common.{sym}
use Rattle.lh_read_pieces.proofs.Runs.{before_last-none, before_last-other, before_last-same}
use Rattle.lh_read_pieces.proofs.times.before_last.Goals as goal

pub returns-then-len-eq0 : goal.returns-then-len-eq0
returns-then-len-eq0 c = sym (before_last-none c.args.last c.args.word.now c.if-len-eq0.true)

pub returns-then-word-len : goal.returns-then-word-len
returns-then-word-len c = sym (before_last-other c.args.last c.args.word.now c.if-len-eq0.false c.if-word-len.true)

pub returns : goal.returns
returns c = sym (before_last-same c.args.last c.args.word.now c.if-len-eq0.false c.if-word-len.false)
