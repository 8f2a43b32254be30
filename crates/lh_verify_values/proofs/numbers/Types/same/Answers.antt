use Rattle.lh_verify_values.proofs.TypeNumbers.{same-number}
use Rattle.lh_verify_values.proofs.numbers.Types.same.Goals as goal

pub returns : goal.returns
returns c = same-number _ _ c.self.view_is c.self.invariant c.args.number c.args.other
