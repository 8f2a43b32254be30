use Rattle.lh_kernel_wakes.proofs.IndexEntries.{noted_more}
use Rattle.lh_kernel_wakes.proofs.sensing.Index.enter.Goals as goal

pub returns-clause-has : goal.returns-clause-has
returns-clause-has c = noted_more _ _ c.args.signal c.args.instance _ _ c.self.view_is c.requires c.index_mut.ensures.value c.in_ok-enter.ensures.has
