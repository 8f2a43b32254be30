use Rattle.lh_selftest_laws.proofs.ChainReads.{chain-spelled}
use Rattle.lh_selftest_laws.proofs.Faultless.{chain-faultless}
use Rattle.lh_selftest_laws.proofs.laws.well_formed_law.Goals as goal

pub returns : goal.returns
returns c = record {
  faultless = chain-faultless;
  formed = λ n l h. (chain-spelled c.modules_are_spelled_by_items.ensures.together c.printable_items_are_spelled.ensures.spelled n h, chain-faultless n l h);
}
