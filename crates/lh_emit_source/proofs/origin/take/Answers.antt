use Rattle.lh_emit_source.proofs.FirstSteps.{takes-none, takes-seen, takes-new}
use Rattle.lh_emit_source.proofs.origin.take.Goals as goal

pub returns-in_default : goal.returns-in_default
returns-in_default c = takes-none c.args.parts.now.parts.items c.args.value c.args.firsts.now c.in_default.ensures

pub returns-then-is_some : goal.returns-then-is_some
returns-then-is_some c =
    takes-seen c.args.parts.now.parts.items c.args.value c.args.firsts.now c.in-Some.part.now c.first_of.result c.kept_for.result.now c.in-Some.ensures c.kept_for.ensures c.first_of.ensures
    c.if-is_some.ensures

pub returns : goal.returns
returns c =
    let p = c.in-Some.part.now in
    takes-new c.args.parts.now.parts.items c.args.value c.args.firsts.now c.add.new.firsts p c.key_of.result c.in-Some.ensures c.key_of.ensures c.requires.is_in c.in_ok-add.ensures
