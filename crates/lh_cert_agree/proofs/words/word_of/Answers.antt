use Rattle.std.proofs.Common.{◌+◌, ◌*◌, ◌∙◌}
use Rattle.lh_cert_agree.proofs.Wording.{and_gate, or_gate, differ_gate, same_gate, choice_gate}
use Rattle.lh_cert_agree.proofs.words.word_of.Goals as goal

pub returns-in-And : goal.returns-in-And
returns-in-And c = λ i l. and_gate i c.args.words.now (64 * c.args.block + i) c.args.gate c.in-And.a c.in-And.b _ _ c.in-And.is c.word_at-in-And.ensures c.word_at-in-And-2.ensures

pub returns-in-Or : goal.returns-in-Or
returns-in-Or c = λ i l. or_gate i c.args.words.now (64 * c.args.block + i) c.args.gate c.in-Or.a c.in-Or.b _ _ c.in-Or.is c.word_at-in-Or.ensures c.word_at-in-Or-2.ensures

pub returns-in-Differ : goal.returns-in-Differ
returns-in-Differ c = λ i l. differ_gate i c.args.words.now (64 * c.args.block + i) c.args.gate c.in-Differ.a c.in-Differ.b _ _ c.in-Differ.is c.word_at-in-Differ.ensures
    c.word_at-in-Differ-2.ensures

pub returns-in-Same : goal.returns-in-Same
returns-in-Same c = λ i l. c.opposite-in-Same.ensures i l
    ∙ same_gate i c.args.words.now (64 * c.args.block + i) c.args.gate c.in-Same.a c.in-Same.b _ _ c.in-Same.is c.word_at-in-Same.ensures c.word_at-in-Same-2.ensures

pub returns-in-Choice : goal.returns-in-Choice
returns-in-Choice c = λ i l. c.chosen.ensures i l
    ∙ choice_gate i c.args.words.now (64 * c.args.block + i) c.args.gate c.in-Choice.c c.in-Choice.f c.in-Choice.t _ _ _ c.in-Choice.is c.word_at-in-Choice.ensures
    c.word_at-in-Choice-2.ensures c.word_at-in-Choice-3.ensures
