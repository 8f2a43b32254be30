use Rattle.std.proofs.Common.{Some, ap}
use Rattle.lh_unit.specs.Held.{datum_held}
use Rattle.lh_exec.proofs.machine.Machine.run_const.Goals as goal

pub returns : goal.returns
returns c = λ a p st. c.give.ensures a p (Some (datum_held c.args.value.now)) st (ap (λ d. Some (datum_held d)) c.in_ok-value.ensures)
