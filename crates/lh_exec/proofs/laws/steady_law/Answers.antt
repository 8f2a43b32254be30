use Rattle.lh_exec.proofs.BeginsHeld.{begin-holds, activation-steady}
use Rattle.lh_eval_laws.proofs.OperandsFound.{is-some}
use Rattle.lh_unit.specs.Activation.{control_at}
use Rattle.lh_unit.specs.Arena.{unit_text_at}
use Rattle.lh_exec.proofs.laws.steady_law.Goals as goal

pub returns-clause-begins : goal.returns-clause-begins
returns-clause-begins c = λ a u args w s p b no_halt.
    let z = begin-holds a u b.arena b.within b.process b.formed w args b.ranges s.stand b.fits p b.stands no_halt in
    is-some (control_at (unit_text_at a u) p) z.0 z.1

pub returns-clause-steady : goal.returns-clause-steady
returns-clause-steady c = λ a u args now t s p b x e points q r. activation-steady a u b.arena b.within b.process b.formed now t args b.ranges s.stand b.fits p b.stands x e points q r
