use Rattle.lh_text_laws.proofs.Readings.{every_reading_is_spelled}
use Rattle.lh_text_laws.proofs.canonical_text_reads_back.Goals as goal

pub returns : goal.returns
returns c = every_reading_is_spelled
