use Rattle.std.proofs.Common.{◌≡◌, min, take}
use Rattle.lh_elab.specs.Graph.{max_counted}
use Rattle.lh_elab.specs.Refusals.{arg_bits_of}
use Rattle.lh_elab.proofs.refusal.arg_bits.Given as goal

abbrev pub invariant-loop-arg : goal.invariant-loop-arg
invariant-loop-arg l = l.bits ≡ min (arg_bits_of (take l.arg-index l.args)) max_counted
