use Rattle.lh_text_laws.proofs.Readings.{canon_has_its_lines, canon_has_its_tokens}
use Rattle.lh_text_laws.proofs.canonical_text_has_its_lines.Goals as goal

pub returns : goal.returns
returns c = record { lines = canon_has_its_lines; tokens = canon_has_its_tokens }
