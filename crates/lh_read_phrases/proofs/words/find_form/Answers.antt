use Rattle.lh_read_phrases.specs.Words.{form_of}
use Rattle.lh_read_phrases.proofs.words.find_form.Goals as goal

pub returns : goal.returns
unfolding form_of
returns c = c.find.ensures
