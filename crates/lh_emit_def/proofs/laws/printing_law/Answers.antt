use Rattle.lh_emit_def.proofs.PrintableEntities.{comb-printable, edge-printable, once-printable}
use Rattle.lh_emit_def.proofs.laws.printing_law.Goals as goal

pub returns : goal.returns
returns c = record { comb = comb-printable; edge = edge-printable; once = once-printable }
