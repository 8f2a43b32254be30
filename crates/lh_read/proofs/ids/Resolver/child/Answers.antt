use Rattle.lh_read_pieces.specs.LexemeOf.{unit_name_of}
use Rattle.lh_read_phrases.specs.SyntaxOf.{operands_of}
use Rattle.lh_read.proofs.Lists.{child-placed}
use Rattle.lh_read.proofs.ids.Resolver.child.Goals as goal

pub returns : goal.returns
returns c =
    child-placed c.args.self.now.module c.unit_id.new.self.module c.operands.new.self.module c.operands-2.new.self.module c.args.unit c.in_ok-of.of c.in_ok-inputs.inputs
    c.in_ok-outputs.outputs (unit_name_of c.args.name.now) (operands_of c.args.inputs) (operands_of c.args.outputs)
    c.in_ok-of.ensures c.in_ok-inputs.ensures c.in_ok-outputs.ensures
