use Rattle.lh_read_phrases.specs.Words.{head_of}
use Rattle.lh_read_phrases.proofs.words.find_head.Goals as goal

pub returns : goal.returns
unfolding head_of
returns c = c.find.ensures
