use Rattle.lh_selftest_design.specs.Generated.{signals_of}
use Rattle.lh_selftest_design.proofs.Links.{Written}
use Rattle.lh_selftest_design.proofs.generator.put_all_signals.Given as goal

abbrev pub invariant-loop-i : goal.invariant-loop-i
invariant-loop-i l = Written signals_of l.fn.to.items l.to.items l.i
