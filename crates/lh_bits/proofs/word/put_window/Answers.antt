use Rattle.std.proofs.Common.{inl, inr}
use Rattle.lh_bits.proofs.WordBits.{put_inside, put_outside}
use Rattle.lh_bits.proofs.word.put_window.Goals as goal

pub returns-clause-before : goal.returns-clause-before
returns-clause-before c = λ i h. rw c.ones_below.ensures (put_outside c.args.words.now c.args.at c.args.n c.args.x i c.requires.one_word c.requires.within c.requires.some c.requires.small (inl h))

pub returns-clause-each : goal.returns-clause-each
returns-clause-each c = λ j h. rw c.ones_below.ensures (put_inside c.args.words.now c.args.at c.args.n c.args.x j c.requires.one_word c.requires.within c.requires.small h)

pub returns-clause-after : goal.returns-clause-after
returns-clause-after c = λ i h. rw c.ones_below.ensures (put_outside c.args.words.now c.args.at c.args.n c.args.x i c.requires.one_word c.requires.within c.requires.some c.requires.small (inr h))
