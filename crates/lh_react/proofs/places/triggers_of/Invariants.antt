use Rattle.std.proofs.Common.{map, take}
use Rattle.lh_unit.specs.Arena.{unit_text_at}
use Rattle.lh_react.specs.Standing.{line_in}
use Rattle.lh_react.proofs.TriggerLists.{Found}
use Rattle.lh_react.proofs.places.triggers_of.Given as goal

abbrev pub invariant-loop-inst : goal.invariant-loop-inst
invariant-loop-inst l = Found (unit_text_at l.m l.unit.0) l.args (map (line_in l.m l.unit.0) (take l.inst-index l.insts)) l.bits
