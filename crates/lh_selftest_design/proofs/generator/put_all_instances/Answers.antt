use Rattle.lh_selftest_design.specs.Generated.{instances_of}
use Rattle.lh_selftest_design.proofs.Links.{Written-next}
use Rattle.lh_selftest_design.proofs.generator.put_all_instances.Goals as goal

pub loop-i-preserved : goal.loop-i-preserved
loop-i-preserved c = Written-next instances_of c.args.to.now.items _ _ c.loop-i.i c.into.result c.into.ensures c.loop-i.invariant c.in_ok-put_instances.ensures
