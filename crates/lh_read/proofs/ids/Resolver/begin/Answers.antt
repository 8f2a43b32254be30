use Rattle.lh_read_pieces.specs.LexemeOf.{unit_name_of}
use Rattle.lh_read.proofs.Args.{unit-begun}
use Rattle.lh_read.proofs.ids.Resolver.begin.Goals as goal

pub returns : goal.returns
returns c = unit-begun c.args.self.now.module c.unit_id.new.self.module c.begin_unit.new.self c.in_ok-unit.unit (unit_name_of c.args.name.now) c.args.kind c.in_ok-unit.ensures c.in_ok-begin_unit.ensures
