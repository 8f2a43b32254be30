use Rattle.lh_selftest_laws.proofs.Short.{generated-short}
use Rattle.lh_selftest_laws.proofs.ChainReads.{generated-reads}
use Rattle.lh_selftest_laws.proofs.laws.reading_law.Goals as goal

pub returns : goal.returns
returns c = record { short = generated-short; reads = generated-reads c.modules_are_spelled_by_items.ensures.together c.printable_items_are_spelled.ensures.spelled }
