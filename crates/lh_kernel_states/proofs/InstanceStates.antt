-- What is kept of an instance stands for its state.
use Rattle.std.proofs.Common.{◌∙◌, ap, refl, if◌then◌else◌, unwrap_or, is_some, Option, Some, None}
use Rattle.lh_unit.specs.declared.inst.UnitKind.{UnitKind}
use Rattle.lh_unit.specs.declared.inst.UnitKind.TheVariants as kind
use Rattle.lh_unit.specs.Contents.{UnitText, new_unit}
use Rattle.lh_unit.specs.Arena.{unit_name_at, unit_text_at}
use Rattle.lh_unit.specs.World.{of_process, of_entity}
use Rattle.lh_unit.proofs.ById.{unit_named-by_id}
use Rattle.lh_elab.specs.Probed.{probed_in}
use Rattle.lh_exec.proofs.Begins.{some-state, waits-as-held, waits-within}
use Rattle.lh_kernel_states.specs.declared.state.InstState.TheVariants.{Process, Entity}
use Rattle.lh_kernel_states.specs.Laws.{FittingStand, SensesAlike, WakesAlike, SensesWithin, InstanceUnitIsNamed}

pub fitting-stand : FittingStand
fitting-stand a width i (Process s) is h = let w = some-state a i.unit.0 width i.args s.stand h.1 in (of_process w.0, w.1)
fitting-stand a width i (Entity s) is h = (of_entity s.memory, refl)

pub senses-alike : SensesAlike
senses-alike a width i (Process s) (of_process p) h k = (waits-as-held a i.unit.0 i.args s.stand p k).0
senses-alike a width i (Process s) (of_entity memory) h k = absurd k
senses-alike a width i (Entity s) (of_process p) h k = absurd k
senses-alike a width i (Entity s) (of_entity memory) h k = ap (λ (x : Option UnitKind). probed_in x (unit_text_at a i.unit.0) i.args i.sigs) h.0

pub wakes-alike : WakesAlike
wakes-alike a i (Process s) (of_process p) k = (waits-as-held a i.unit.0 i.args s.stand p k).1
wakes-alike a i (Process s) (of_entity memory) k = absurd k
wakes-alike a i (Entity s) (of_process p) k = absurd k
wakes-alike a i (Entity s) (of_entity memory) k = refl

pub senses-within : SensesWithin
senses-within a width i (Process s) probes h w = waits-within a i.unit.0 width s.stand h.1
senses-within a width i (Entity s) probes h w = w

pub unit-is_named : InstanceUnitIsNamed
unit-is_named a u o l k e =
    let n = unit_name_at a u in
    ap (λ (x : Option UnitText). unwrap_or x (new_unit n kind.Entity)) (unit_named-by_id a u o l ∙ ap (λ (x : Option UnitKind). if is_some x then Some (unit_text_at a u) else None) e)
