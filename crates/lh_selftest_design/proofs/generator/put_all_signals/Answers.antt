use Rattle.lh_selftest_design.specs.Generated.{signals_of}
use Rattle.lh_selftest_design.proofs.Links.{Written-next}
use Rattle.lh_selftest_design.proofs.generator.put_all_signals.Goals as goal

pub loop-i-preserved : goal.loop-i-preserved
loop-i-preserved c = Written-next signals_of c.args.to.now.items _ _ c.loop-i.i c.into.result c.into.ensures c.loop-i.invariant c.in_ok-put_signals.ensures
