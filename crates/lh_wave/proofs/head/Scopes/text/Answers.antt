use Rattle.std.proofs.Common.{length, ap}
use Rattle.lh_wave.proofs.OwnedLemmas.{head_whole}
use Rattle.lh_wave.proofs.head.Scopes.text.Goals as goal

pub returns : goal.returns
returns c = head_whole c.finish.result c.args.self.now.«module».now c.args.self.now.design.now _ _ _ _ _ (ap length c.instances.ensures) c.new-to.ensures.empty c.put.ensures c.put-2.ensures
    c.put-3.ensures c.finish.ensures.whole c.finish.ensures.bytes
