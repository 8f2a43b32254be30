use Rattle.std.proofs.Common.{refl}
use Rattle.lh_lower.proofs.LoweredItems.{declare-lowers}
use Rattle.lh_lower.proofs.lowering.Lowering.take.Goals as goal

pub returns-in_ok-copy-in-Declare-clause-lowers : goal.returns-in_ok-copy-in-Declare-clause-lowers
returns-in_ok-copy-in-Declare-clause-lowers c =
    rw c.in-Declare.is (declare-lowers c.add_declare.result c.args.self.now _ c.in-Declare.declare c.in_ok-copy-in-Declare.field-0 c.in_ok-copy-in-Declare.ensures refl refl c.add_declare.ensures.from refl
    c.add_declare.ensures.copies)
