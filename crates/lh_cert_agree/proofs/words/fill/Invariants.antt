use Rattle.std.proofs.Common.{take}
use Rattle.lh_cert_agree.specs.Gates.{AreWords}
use Rattle.lh_cert_agree.proofs.words.fill.Given as goal

abbrev pub invariant-loop-gate : goal.invariant-loop-gate
invariant-loop-gate l = AreWords (take l.gate-index l.gates) l.block l.words.items
