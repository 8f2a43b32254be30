use Rattle.lh_region.proofs.HeadBlock.{heads-agree}
use Rattle.lh_region.proofs.laws.head_law.Goals as goal

pub returns : goal.returns
returns c = heads-agree
