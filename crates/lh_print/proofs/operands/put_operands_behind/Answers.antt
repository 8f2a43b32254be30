use Rattle.std.proofs.Common.{map, ap}
use Rattle.lh_unit.specs.Arena.{naming, sizes}
use Rattle.lh_unit.specs.Naming.{operand_text}
use Rattle.lh_unit.specs.Within.{OperandWithin}
use Rattle.lh_unit.specs.Pieces.{behind_commas}
use Rattle.lh_unit.specs.Canon.{operand}
use Rattle.lh_unit.proofs.Lists.{drop-item, Each-item}
use Rattle.lh_print.proofs.Joined.{behind_step}
use Rattle.lh_print.proofs.operands.put_operands_behind.Goals as goal

pub loop-typed-preserved : goal.loop-typed-preserved
loop-typed-preserved c = behind_step _ _ _ _ (operand (operand_text (naming c.args.view.module.now c.args.view.unit.0) c.typed-item.result)) _ _
    (ap (λ l. behind_commas (map operand (map (operand_text (naming c.args.view.module.now c.args.view.unit.0)) l)))
    (drop-item c.args.args.now c.loop-typed.typed-index c.typed-item.result c.loop-typed-test.true c.typed-item.is)) c.put_operand.ensures c.loop-typed.invariant

pub put_operand-requires : goal.put_operand-requires
put_operand-requires c = record {
  placed = Each-item (OperandWithin (sizes c.args.view.module.now c.args.view.unit.0)) c.args.args.now c.loop-typed.typed-index c.typed-item.result c.requires.placed
      c.loop-typed-test.true c.typed-item.is;
}
