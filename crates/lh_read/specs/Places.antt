-- The places that a reader holds.
use Rattle.std.specs.Prelude.{Bool, true, false, Option, Some, None}
use Rattle.lh_unit.specs.Reads as reads
use Rattle.lh_unit.specs.Reads.{outside, in_entity, before_labels, in_empty_block, in_block}
use Rattle.lh_unit.specs.declared.inst.UnitId.{UnitId}
use Rattle.lh_unit.specs.declared.inst.UnitKind.{UnitKind}
use Rattle.lh_unit.specs.declared.inst.UnitKind.TheVariants as kind
use Rattle.lh_read.specs.declared.places.LinePlace.{LinePlace}
use Rattle.lh_read.specs.declared.places.LinePlace.TheVariants.{Outside, InEntity, BeforeLabels, InEmptyBlock, InBlock}

-- the place without the unit that is open there
abbrev pub place_held : LinePlace → reads.LinePlace
place_held Outside = outside
place_held (InEntity u) = in_entity
place_held (BeforeLabels u) = before_labels
place_held (InEmptyBlock u) = in_empty_block
place_held (InBlock u) = in_block

abbrev pub is_inside : LinePlace → Bool
is_inside Outside = false
is_inside (InEntity u) = true
is_inside (BeforeLabels u) = true
is_inside (InEmptyBlock u) = true
is_inside (InBlock u) = true

-- the open unit, where an instruction may stand
abbrev pub block_unit : LinePlace → Option UnitId
block_unit Outside = None
block_unit (InEntity u) = Some u
block_unit (BeforeLabels u) = None
block_unit (InEmptyBlock u) = Some u
block_unit (InBlock u) = Some u

-- the open unit, where a label may stand
abbrev pub label_unit : LinePlace → Option UnitId
label_unit Outside = None
label_unit (InEntity u) = None
label_unit (BeforeLabels u) = Some u
label_unit (InEmptyBlock u) = None
label_unit (InBlock u) = Some u

-- whether the unit may end
abbrev pub may_close : LinePlace → Bool
may_close Outside = false
may_close (InEntity u) = true
may_close (BeforeLabels u) = false
may_close (InEmptyBlock u) = false
may_close (InBlock u) = true

-- the place behind a header
abbrev pub behind_header : UnitKind → UnitId → LinePlace
behind_header kind.Entity u = InEntity u
behind_header kind.Func u = BeforeLabels u
behind_header kind.Proc u = BeforeLabels u

-- the place behind an instruction
abbrev pub behind_inst : LinePlace → LinePlace
behind_inst Outside = Outside
behind_inst (InEntity u) = InEntity u
behind_inst (BeforeLabels u) = BeforeLabels u
behind_inst (InEmptyBlock u) = InBlock u
behind_inst (InBlock u) = InBlock u
