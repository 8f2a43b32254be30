use Rattle.lh_read.proofs.Computed.{reads-or_bad}
use Rattle.lh_read.proofs.reading_law.Goals as goal

pub returns : goal.returns
returns c = reads-or_bad
