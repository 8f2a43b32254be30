use Rattle.lh_selftest_design.proofs.Pieces.{last-of-four}
use Rattle.lh_selftest_design.proofs.generator.put_chain.Goals as goal

pub returns : goal.returns
returns c = last-of-four c.put-2.result _ _ _ _ _ _ _ _ _ c.in_ok-put.ensures c.in_ok-put_all_signals.ensures c.in_ok-put_all_instances.ensures c.put-2.ensures
