use Rattle.lh_unit.specs.Arena.{contents}
use Rattle.lh_run.proofs.lowering.lower_file.Goals as goal

pub returns-clause-writes : goal.returns-clause-writes
returns-clause-writes g c = c.write_texts.ensures.writes (contents c.args.file.now) c.in_ok-texts.ensures.texts
