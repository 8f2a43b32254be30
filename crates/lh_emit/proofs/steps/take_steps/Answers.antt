use Rattle.std.proofs.Common.{◌≡◌, ◌∙◌, length, get_or, refl, ap, arith}
use Rattle.lh_emit.proofs.StepLaws.{walks-first, walks-on, walks-cause, walks-end, step-can, types-left, type-first, err-cause, gives-fault}
use Rattle.lh_emit.specs.Steps.{WalksNot}
use Rattle.lh_emit.proofs.steps.take_steps.Goals as goal

pub loop-left-init : goal.loop-left-init
loop-left-init c = record { walks = walks-first c.args.route.now c.args.lines.now c.args.from c.requires.room c.requires.within; types = c.requires.types }

pub step_inst-requires : goal.step_inst-requires
step_inst-requires c = type-first c.loop-left.left.now c.step-item.result c.loop-left.invariant.types c.in-len1-up.len_at_least c.step-item.is

pub give-requires : goal.give-requires
give-requires c = record {
  room = c.loop-left.invariant.walks.room;
  named = step-can c.args.route.now c.args.lines.now c.args.from c.loop-left.lines c.loop-left.value c.loop-left.left.now c.step-item.result c.in_ok-inst.inst c.loop-left.invariant.walks
      c.in-len1-up.len_at_least c.step-item.is c.in_ok-inst.ensures;
}

pub loop-left-preserved : goal.loop-left-preserved
loop-left-preserved c = record {
  walks = walks-on c.args.route.now c.args.lines.now c.args.from c.loop-left.lines c.loop-left.value c.loop-left.left.now c.step-item.result c.in_ok-inst.inst c.loop-left.invariant.walks
      c.in-len1-up.len_at_least c.step-item.is c.in_ok-inst.ensures
      c.give.new.self c.in_ok-value.value c.in_ok-value.ensures;
  types = types-left c.loop-left.left.now c.loop-left.invariant.types;
}

pub returns-clause-walks : goal.returns-clause-walks
returns-clause-walks c = walks-end c.args.route.now c.args.lines.now c.args.from c.loop-left.lines c.loop-left.value c.loop-left.left.now c.loop-left.invariant.walks c.in_default.len_below

pub returns-in_err-value-clause-cause : goal.returns-in_err-value-clause-cause
returns-in_err-value-clause-cause c =
    err-cause c.from_residual-in_err-value.result c.in_err-value.field-0.0 (WalksNot c.args.route.now c.args.lines.now c.args.from) c.from_residual-in_err-value.ensures.1
    (walks-cause c.args.route.now c.args.lines.now c.args.from c.loop-left.lines c.loop-left.value c.loop-left.left.now c.step-item.result c.in_ok-inst.inst c.loop-left.invariant.walks
    c.in-len1-up.len_at_least c.step-item.is c.in_ok-inst.ensures
    c.in_err-value.field-0.0 (gives-fault c.loop-left.lines c.give.new.self c.in_ok-inst.inst c.in_err-value.field-0.0 c.in_err-value.ensures))
