use Rattle.lh_selftest_design.specs.Generated.{instances_of}
use Rattle.lh_selftest_design.proofs.Links.{Written}
use Rattle.lh_selftest_design.proofs.generator.put_all_instances.Given as goal

abbrev pub invariant-loop-i : goal.invariant-loop-i
invariant-loop-i l = Written instances_of l.fn.to.items l.to.items l.i
