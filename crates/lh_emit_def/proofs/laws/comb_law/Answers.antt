use Rattle.lh_emit_def.proofs.Whole.{comb-passes, comb-senses}
use Rattle.lh_emit_def.proofs.Plain.{comb-plain}
use Rattle.lh_emit_def.proofs.Sites.{comb-no_fault}
use Rattle.lh_emit_def.proofs.laws.comb_law.Goals as goal

pub returns : goal.returns
returns c = record { entity = comb-plain; right = comb-no_fault; passes = comb-passes; senses = comb-senses }
