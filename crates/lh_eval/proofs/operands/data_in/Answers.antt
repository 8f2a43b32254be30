use Rattle.std.proofs.Common.{◌<◌, ◌+◌, ◌++◌, List, length, map, drop, ap, ◌∙◌, subst}
use Rattle.std.specs.Option.{option_map}
use Rattle.lh_types.specs.Values.{Datum}
use Rattle.lh_types.specs.ValueOf.{datum_of}
use Rattle.lh_unit.proofs.Lists.{drop-item}
use Rattle.lh_unit.specs.Within.{Each}
use Rattle.lh_unit.specs.declared.inst.Typed.{Typed}
use Rattle.lh_eval.specs.Holding.{data_in}
use Rattle.lh_eval.proofs.DataIn.{data-more, data-none}
use Rattle.lh_eval.proofs.operands.data_in.Goals as goal

pub returns-in-None : goal.returns-in-None
returns-in-None c =
    let i = c.loop-operand.operand-index in
    let os = c.args.operands.now in
    let step = drop-item os i c.operand-item.result c.loop-operand-test.true c.operand-item.is in
    data-none c.args.slots.now (drop i os) (drop (i + 1) os) c.operand-item.result _ _ step c.in-None.ensures c.loop-operand.invariant.same

pub loop-operand-preserved : goal.loop-operand-preserved
loop-operand-preserved c =
    let i = c.loop-operand.operand-index in
    let os = c.args.operands.now in
    let step = drop-item os i c.operand-item.result c.loop-operand-test.true c.operand-item.is in
    record {
      same = ap (λ (xs : List Datum). option_map (λ ds. xs ++ ds) (data_in c.args.slots.now (drop (i + 1) os))) c.in_ok-push_copy-in-Some.ensures
          ∙ data-more c.args.slots.now (drop i os) (drop (i + 1) os) c.operand-item.result _ _ _ step c.in-Some.ensures c.loop-operand.invariant.same;
      within = (subst (Each (λ (o : Typed). o.value.0 < length c.args.slots.now)) step c.loop-operand.invariant.within).1;
    }
