use Rattle.lh_emit_def.proofs.Whole.{edge-passes, edge-senses}
use Rattle.lh_emit_def.proofs.Plain.{edge-plain}
use Rattle.lh_emit_def.proofs.Sites.{edge-no_fault}
use Rattle.lh_emit_def.proofs.laws.edge_law.Goals as goal

pub returns : goal.returns
returns c = record { entity = edge-plain; right = edge-no_fault; passes = edge-passes; senses = edge-senses }
