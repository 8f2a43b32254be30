use Rattle.std.proofs.Common.{sym, subst}
use Rattle.lh_verify.specs.Verifying.{FirstFaultOfItem}
use Rattle.lh_verify.proofs.NumbersKept.{params-grow}
use Rattle.lh_verify.proofs.ModuleFaults.{item-first, none-more, item-begun, item-is}
use Rattle.lh_verify.proofs.verify.find_among.Goals as goal

pub returns-in-Some : goal.returns-in-Some
returns-in-Some c = item-first c.args.m.now c.items-item-items.result.now c.loop-item.item-index c.item-item.result c.in-Some.fault (sym c.items-item-items.ensures.items)
    (item-is c.args.m.now c.items-item-items.result.now c.loop-item.item-index c.item-item.result c.items-item-items.ensures.sound c.items-item-items.ensures.items c.loop-item-test.true
    c.item-item.is)
    c.loop-item-test.true c.item-item.is c.loop-item.invariant.none (subst (FirstFaultOfItem c.args.m.now c.item-item.result) c.in-Some.is c.in_ok-fault.ensures.says)

pub loop-item-preserved : goal.loop-item-preserved
loop-item-preserved c = record {
  items = c.loop-item.invariant.items;
  none = none-more c.args.m.now c.items-item-items.result.now c.loop-item.item-index c.item-item.result c.loop-item-test.true c.item-item.is c.loop-item.invariant.none
      (subst (FirstFaultOfItem c.args.m.now c.item-item.result) c.in_default.is c.in_ok-fault.ensures.says);
  params = params-grow c.loop-item.types c.find_in.new.types c.args.m.now c.args.params.now c.in_ok-fault.ensures.grows c.loop-item.invariant.params;
}

pub find_in-requires-clause-begun : goal.find_in-requires-clause-begun
find_in-requires-clause-begun c = item-begun c.args.m.now c.items-item-items.result.now c.loop-item.item-index c.item-item.result c.items-item-items.ensures.sound c.items-item-items.ensures.items
    c.loop-item-test.true c.item-item.is

pub find_in-requires-clause-placed : goal.find_in-requires-clause-placed
find_in-requires-clause-placed c = item-is c.args.m.now c.items-item-items.result.now c.loop-item.item-index c.item-item.result c.items-item-items.ensures.sound c.items-item-items.ensures.items
    c.loop-item-test.true c.item-item.is
