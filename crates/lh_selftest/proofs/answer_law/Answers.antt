use Rattle.lh_selftest.proofs.Whole.{answer_is_of_file}
use Rattle.lh_selftest.proofs.answer_law.Goals as goal

pub returns : goal.returns
returns c = answer_is_of_file
