use Rattle.lh_unit.specs.Contents.{new_unit}
use Rattle.lh_unit.specs.Arena.{unit_name_at}
use Rattle.lh_lower_copy.proofs.Opened.{adds-by, not-again}
use Rattle.lh_lower_copy.proofs.adding.begin.Goals as goal

pub wanting-requires : goal.wanting-requires
wanting-requires c = not-again c.in-Err.fault c.args.m.now c.begin_unit.new.self c.args.unit c.args.kind c.requires.undefined c.in-Err.ensures

pub returns-in-Ok : goal.returns-in-Ok
returns-in-Ok c = adds-by c.args.m.now c.begin_unit.new.self c.args.unit (new_unit (unit_name_at c.args.m.now c.args.unit.0) c.args.kind) c.in-Ok.ensures.1
