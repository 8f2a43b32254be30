use Rattle.lh_emit_def.proofs.Whole.{once-passes, once-senses}
use Rattle.lh_emit_def.proofs.Plain.{once-plain}
use Rattle.lh_emit_def.proofs.Sites.{once-no_fault}
use Rattle.lh_emit_def.proofs.laws.once_law.Goals as goal

pub returns : goal.returns
returns c = record { entity = once-plain; right = once-no_fault; passes = once-passes; senses = once-senses }
