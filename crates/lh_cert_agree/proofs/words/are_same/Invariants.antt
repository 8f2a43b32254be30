use Rattle.lh_cert_agree.specs.Gates.{AreSame}
use Rattle.lh_cert_agree.proofs.words.are_same.Given as goal

abbrev pub invariant-loop-block : goal.invariant-loop-block
invariant-loop-block l = AreSame l.gates l.a l.b l.block
