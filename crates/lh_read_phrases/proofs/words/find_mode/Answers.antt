use Rattle.lh_read_phrases.specs.Words.{mode_of}
use Rattle.lh_read_phrases.proofs.words.find_mode.Goals as goal

pub returns : goal.returns
unfolding mode_of
returns c = c.find.ensures
