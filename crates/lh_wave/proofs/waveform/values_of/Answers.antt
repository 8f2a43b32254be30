use Rattle.std.proofs.Common.{map, ap, ◌∙◌}
use Rattle.std.proofs.lemmas.List.{take_all}
use Rattle.lh_types.specs.ValueOf.{datum_of}
use Rattle.lh_wave.proofs.ValueLines.{values_more}
use Rattle.lh_wave.proofs.waveform.values_of.Goals as goal

pub loop-c-init : goal.loop-c-init
loop-c-init c = ap (map datum_of) c.in_ok-values.ensures.items

pub loop-c-preserved : goal.loop-c-preserved
loop-c-preserved c =
    values_more c.loop-c.values.items c.push.new.self.items c.args.changes.now c.loop-c.c-index c.c-item.result c.in_ok-value.value c.loop-c.invariant c.loop-c-test.true c.c-item.is c.in_ok-value.ensures
    c.in_ok-push.ensures.items

pub returns : goal.returns
returns c = c.loop-c.invariant ∙ ap (map (λ x. datum_of x.value)) (take_all c.loop-c.c-index c.args.changes.now c.loop-c-test.false)
