-- The fault of a line that spells nothing, or that the module refuses.
use Rattle.lh_read_pieces.specs.declared.fault.ScanFault.{ScanFault}
use Rattle.lh_read_pieces.specs.declared.fault.ScanFault.TheVariants as scan
use Rattle.lh_unit.specs.declared.inst.UnitFault.{UnitFault}
use Rattle.lh_unit.specs.declared.inst.UnitFault.TheVariants as unit
use Rattle.lh_read.specs.declared.faults.LineFault.{LineFault}
use Rattle.lh_read.specs.declared.faults.LineFault.TheVariants.{Syntax, UnitTooLarge, DuplicateName, OutOfMemory}

-- of tokens that spell no item
abbrev pub spelling_fault : ScanFault → LineFault
spelling_fault scan.NotSpelled = Syntax
spelling_fault scan.OutOfMemory = OutOfMemory

-- of an item that the module refuses
abbrev pub fault_of : UnitFault → LineFault
fault_of unit.UnitTooLarge = UnitTooLarge
fault_of unit.DuplicateName = DuplicateName
fault_of unit.OutOfMemory = OutOfMemory
