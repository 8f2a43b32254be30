use Rattle.lh_lower_copy.proofs.Copies.{copies-declare}
use Rattle.lh_lower_copy.proofs.copying.Copying.add_declare.Goals as goal

pub returns-clause-copies : goal.returns-clause-copies
returns-clause-copies c = copies-declare c.add_declare.result c.args.self.now.from.now c.args.self.now.to c.add_declare.new.self c.args.declare c.add_declare.ensures
