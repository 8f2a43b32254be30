use Rattle.std.proofs.Common.{◌≡◌, arith}
use Rattle.lh_lower_copy.proofs.Bodies.{body-start, body-new, body-next, body-done, none-left}
use Rattle.lh_lower_copy.proofs.entities.put_lines.Goals as goal

pub loop-line-init : goal.loop-line-init
loop-line-init c =
    let h : c.into_iter-line-iterator.result.rest.items ≡ c.args.lines = cc (c.into_iter-line-iterator.ensures.into_iter_gives.0, c.into_vec-line-items.ensures) in
    (tt, tt, body-start c.args.m.now c.args.unit c.into_iter-line-iterator.result.rest.items c.args.lines h c.requires.opened c.requires.within c.requires.fit)

pub put_inst-requires-clause-begun : goal.put_inst-requires-clause-begun
put_inst-requires-clause-begun c = (body-new c.args.m.now c.loop-line.m c.args.unit c.loop-line.line-iterator.rest.items c.next.new.self.rest.items c.args.lines c.in-Some.line
    c.in-Some.ensures.steps.0 c.loop-line.invariant.2).begun

pub put_inst-requires-clause-within : goal.put_inst-requires-clause-within
put_inst-requires-clause-within c = (body-new c.args.m.now c.loop-line.m c.args.unit c.loop-line.line-iterator.rest.items c.next.new.self.rest.items c.args.lines c.in-Some.line
    c.in-Some.ensures.steps.0 c.loop-line.invariant.2).within

pub put_inst-requires-clause-placed : goal.put_inst-requires-clause-placed
put_inst-requires-clause-placed c = (body-new c.args.m.now c.loop-line.m c.args.unit c.loop-line.line-iterator.rest.items c.next.new.self.rest.items c.args.lines c.in-Some.line
    c.in-Some.ensures.steps.0 c.loop-line.invariant.2).placed

pub put_inst-requires-clause-room : goal.put_inst-requires-clause-room
put_inst-requires-clause-room c = (body-new c.args.m.now c.loop-line.m c.args.unit c.loop-line.line-iterator.rest.items c.next.new.self.rest.items c.args.lines c.in-Some.line c.in-Some.ensures.steps.0
    c.loop-line.invariant.2).room

pub loop-line-preserved : goal.loop-line-preserved
loop-line-preserved c = (
  tt,
  tt,
  body-next c.args.m.now c.loop-line.m c.args.unit c.loop-line.line-iterator.rest.items c.next.new.self.rest.items c.args.lines c.in-Some.line c.in-Some.ensures.steps.0
      c.loop-line.invariant.2 c.put_inst.new.m c.requires.opened c.in_ok-put_inst.ensures,
)

pub returns : goal.returns
returns c =
    let rest = c.loop-line.line-iterator.rest.items in
    body-done c.args.m.now c.loop-line.m c.args.unit rest c.args.lines (none-left rest (omega (arith, c.in-None.ensures.steps.0, c.loop-line.line-iterator.rest.ok))) c.loop-line.invariant.2
