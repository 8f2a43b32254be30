use Rattle.std.proofs.Common.{◌<◌, ◌+◌, false, take, length, get_or, arith, ap, ◌∙◌, ◌*◌}
use Rattle.lh_cert_agree.specs.Gates.{gate_bit, column}
use Rattle.std.proofs.lemmas.List.{take_more}
use Rattle.lh_cert_agree.specs.declared.gates.Gate.TheVariants as gate
use Rattle.lh_cert_agree.proofs.Wording.{words_next}
use Rattle.lh_cert_agree.proofs.words.fill.Goals as goal

pub loop-gate-preserved : goal.loop-gate-preserved
loop-gate-preserved c =
    let l : c.loop-gate.gate-index < length c.args.gates.now = omega arith in
    words_next c.args.block (take c.loop-gate.gate-index c.args.gates.now) (take (c.loop-gate.gate-index + 1) c.args.gates.now) _ c.loop-gate.words.items c.push.new.self.items c.word_of-word.result
    c.loop-gate.invariant (take_more c.args.gates.now c.loop-gate.gate-index (gate.Given false) l) c.in_ok-push.ensures.items
    (λ i b. c.word_of-word.ensures i b
    ∙ ap (λ ws. gate_bit (64 * c.args.block + i) (column i ws) (get_or c.args.gates.now c.loop-gate.gate-index (gate.Given false))) c.deref.ensures.value)
