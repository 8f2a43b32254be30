-- The operands of an instruction are in place.
use Rattle.lh_unit.specs.Within.{Sizes, ValueWithin}
use Rattle.lh_verify_operands.specs.declared.uses.Use.{Use}

-- the value of an operand has an entry
abbrev pub UseWithin : Sizes → Use → Type 0
UseWithin s x = ValueWithin s x.value
