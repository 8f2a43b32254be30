use Rattle.std.proofs.Common.{◌+◌, length, refl}
use Rattle.std.proofs.lemmas.Option.{slice_get_read, slice_get_past}
use Rattle.lh_unit.specs.Arena.{table_at}
use Rattle.lh_flat.proofs.CopiedIds.{id-argument, id-unbound, id-result, id-missing}
use Rattle.lh_flat.proofs.copy.new_id.Goals as goal

pub returns-in-Some : goal.returns-in-Some
returns-in-Some c =
    id-argument (table_at c.args.view.module.now c.args.view.unit.0) (c.value_def.ensures.sound.tables c.args.view.unit.0 c.args.view.in_place) c.args.args.now c.args.from c.args.value.0 c.in-Arg.place
    c.in-Some.id.now c.in-Arg.ensures.definition
    (slice_get_read c.args.args.now (length c.args.args.now) c.in-Arg.place c.in-Some.id.now refl c.in-Some.ensures.lookup.3.0 c.in-Some.ensures.lookup.1)

pub returns-in-None : goal.returns-in-None
returns-in-None c =
    id-unbound (table_at c.args.view.module.now c.args.view.unit.0) (c.value_def.ensures.sound.tables c.args.view.unit.0 c.args.view.in_place) c.args.args.now c.args.from c.args.value.0 c.in-Arg.place
    c.in-Arg.ensures.definition (slice_get_past c.args.args.now c.in-Arg.place c.in-None.ensures.lookup.3)

pub returns-in-Inst : goal.returns-in-Inst
returns-in-Inst c =
    id-result (table_at c.args.view.module.now c.args.view.unit.0) (c.value_def.ensures.sound.tables c.args.view.unit.0 c.args.view.in_place) c.args.args.now c.args.from c.args.value.0 c.in-Inst.inst
    (c.args.from + c.in-Inst.inst.0) c.in-Inst.ensures.definition refl

pub returns-in-Missing : goal.returns-in-Missing
returns-in-Missing c =
    id-missing (table_at c.args.view.module.now c.args.view.unit.0) (c.value_def.ensures.sound.tables c.args.view.unit.0 c.args.view.in_place) c.args.args.now c.args.from c.args.value.0
    c.in-Missing.ensures.definition
