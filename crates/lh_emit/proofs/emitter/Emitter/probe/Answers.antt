use Rattle.std.proofs.Common.{◌≡◌}
use Rattle.lh_emit.proofs.GivenLines.{can-probe, gives-probe, probe-not, inst-cause, inst-no-memory}
use Rattle.lh_emit.proofs.emitter.Emitter.probe.Goals as goal

pub take_part-requires : goal.take_part-requires
take_part-requires c = can-probe c.args.terms.now c.args.origin.now c.args.self.now c.args._t c.args.part.now c.requires.can c.requires.probed

pub returns-in_err-value : goal.returns-in_err-value
returns-in_err-value c =
    inst-cause c.args.terms.now c.args.origin.now c.args.self.now c.args._t c.args.terms.now c.take_part.new.self c.from_residual.result c.in_err-value.field-0.0 c.from_residual.ensures.1
    (probe-not c.args.terms.now c.args.origin.now c.args.self.now c.args._t c.args.part.now c.in_err-value.field-0.0 c.requires.probed c.in_err-value.ensures)

pub returns-in_err-from : goal.returns-in_err-from
returns-in_err-from c =
    inst-no-memory c.args.terms.now c.args.origin.now c.args.self.now c.args._t c.args.terms.now c.take_part.new.self c.from_residual-in_err-from.result c.from_residual-in_err-from.ensures.1

pub returns : goal.returns
returns c = gives-probe c.args.terms.now c.args.origin.now c.args.self.now c.args._t c.args.part.now c.take_part.new.self c.in_ok-value.value c.in_ok-from.from c.requires.probed c.in_ok-value.ensures
    c.in_ok-from.ensures
