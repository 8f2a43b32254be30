use Rattle.std.proofs.Common.{◌≡◌, map, drop}
use Rattle.std.specs.Prelude.{filter}
use Rattle.lh_unit.specs.Naming.{Naming, operand_text, arg_text}
use Rattle.lh_unit.specs.Within.{Each, OperandWithin}
use Rattle.lh_unit.specs.WellFormed.{arguments_fit}
use Rattle.lh_verify.specs.OperandTests.{on_side}
use Rattle.lh_verify_values.specs.Facts.{text_in, naming_in, sizes_in}
use Rattle.lh_verify.proofs.arguments.side_fits.Given as goal

abbrev pub invariant-loop-k : goal.invariant-loop-k
invariant-loop-k l = record {
  within : Each (OperandWithin (sizes_in l.scope)) l.rest;
  fits : (f : Naming) → arguments_fit (text_in l.scope) (map (operand_text (naming_in l.scope)) l.rest) (filter (on_side l.side) (map (arg_text f) (drop l.k l.params)))
      ≡ arguments_fit (text_in l.scope) (map (operand_text (naming_in l.scope)) l.args) (filter (on_side l.side) (map (arg_text f) l.params));
}
