-- What an entity is emitted for, by ids: the arguments of a flat text, and the steps to its parts.
use Rattle.std.specs.Prelude.{◌≡◌, ◌<◌, List, map, Option, Some, None}
use Rattle.lh_types.specs.Types.{TypeTree}
use Rattle.lh_types.specs.declared.op.Op.{Op}
use Rattle.lh_unit_names.specs.declared.name.UnitName.{UnitName}
use Rattle.lh_unit.specs.Naming.{Naming, value_text}
use Rattle.lh_unit.specs.declared.inst.Arg.{Arg}
use Rattle.lh_flat.specs.declared.flat.Flat.{Flat}
use Rattle.lh_flat.specs.Flat.{flat_unit}
use Rattle.lh_flat.specs.Below.{IdsBelow}
use Rattle.lh_flat.specs.Reads.{flat_text}
use Rattle.lh_flat_parts.specs.Steps.{HasSteps, IsPartTable}
use Rattle.lh_region.specs.Forms.{Names}
use Rattle.lh_emit_def.specs.Emitted.{PartStep, Source}
use Rattle.lh_emit_def.specs.Reached.{steps_in}
use Rattle.lh_emit_source.specs.declared.origin.RouteStep.{RouteStep}
use Rattle.lh_emit_source.specs.declared.origin.Origin.{Origin}
use Rattle.lh_emit_source.specs.Firsts.{AreFirsts}

-- what an entity is emitted for, of a flat text by some names
abbrev pub source_by : UnitName → Naming → Flat → Source
source_by name f t = record { args = (flat_text f t).args; steps = steps_in (flat_unit name (flat_text f t)) }

-- an operation, and the type of the part that it leads to
abbrev pub step_text : PartStep → Op × TypeTree
step_text s = (s.op, s.to.ty)

abbrev pub route_text : RouteStep → Op × TypeTree
route_text s = (s.op, s.ty)

-- the steps are those
abbrev pub AreStepsOf : List PartStep → List RouteStep → Type 0
AreStepsOf xs route = map route_text route ≡ map step_text xs

-- The flat text is formed by these names, its ids are within its numbers, and the parts are those of its values; the arguments have the
-- names that are kept.
pub record IsOrigin (f : Naming) (o : Origin) : Type 0 where
  pub names : Names o.flat.now f
  pub below : IdsBelow o.flat.now
  pub steps : HasSteps o.flat.now
  pub table : IsPartTable o.flat.now o.parts.now
  pub named : map (λ (a : Arg). value_text f a.value) o.flat.now.args ≡ o.names
  pub firsts : AreFirsts o

-- what an entity is emitted for is of such a text
pub record IsSource (o : Origin) (s : Source) : Type 0 where
  pub name : UnitName
  pub naming : Naming
  pub origin : IsOrigin naming o
  pub is : s ≡ source_by name naming o.flat.now

abbrev pub args_of : Origin → List Arg
args_of o = o.flat.now.args
