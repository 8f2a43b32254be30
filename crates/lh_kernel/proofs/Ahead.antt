-- What a plan comes to was not noted.
use Rattle.std.proofs.Common.{◌≡◌, ℕ, List, Option, None, refl, sym, subst}
use Rattle.lh_time.specs.declared.Instant.{Instant}
use Rattle.lh_unit.specs.Within.{Each}
use Rattle.lh_elab.specs.Answer.{InstanceIs}
use Rattle.lh_kernel_wakes.specs.Rising.{IsRising}
use Rattle.lh_kernel_states.proofs.InstanceStates.{fitting-stand}
use Rattle.lh_kernel.specs.States.{StatesFit}
use Rattle.lh_kernel.specs.Ran.{AllRan}
use Rattle.lh_kernel.specs.Moves.{AreFresh}
use Rattle.lh_kernel.specs.Phases.{HasLooked, IsPlanned, awake_in}
use Rattle.lh_kernel.specs.declared.machine.SimState.{SimState}
use Rattle.lh_kernel.specs.declared.plan.FramePlan.{FramePlan}
use Rattle.lh_kernel.specs.declared.noted.Move.{Move}
use Rattle.lh_kernel.proofs.StateLaws.{some_stand}
use Rattle.lh_kernel.proofs.Acts.{ran_instances, ran_rise}
use Rattle.lh_kernel.proofs.Exact.{fresh_moves}
use Rattle.lh_kernel.proofs.Wished.{instances_of}
use Rattle.lh_kernel.proofs.LookedBits.{rises_awake}

-- the numbers of those who did something rise
pub plan_rises : (x : SimState) (t : Instant) (p : FramePlan) (width : ℕ) → Each (InstanceIs x.«module».now width) x.design.instances.items →
    StatesFit x.«module».now width x.design.instances.items x.states.items → IsPlanned x t p →
    IsRising (instances_of p.acts.items)
plan_rises x t p width f h k =
    let s = some_stand fitting-stand x.«module».now width x.design.instances.items x.states.items f h in
    ran_rise x.«module».now x.looked t x.design.instances.items s.0 (awake_in x t) p.acts.items p.runaway (rises_awake x t (awake_in x t) refl) (k.ran s.0 s.1)

-- where none ran away, exactly the woken did something
pub plan_instances : (x : SimState) (t : Instant) (p : FramePlan) (width : ℕ) → Each (InstanceIs x.«module».now width) x.design.instances.items →
    StatesFit x.«module».now width x.design.instances.items x.states.items → IsPlanned x t p →
    p.runaway ≡ None → instances_of p.acts.items ≡ awake_in x t
plan_instances x t p width f h k e =
    let s = some_stand fitting-stand x.«module».now width x.design.instances.items x.states.items f h in
    ran_instances x.«module».now x.looked t x.design.instances.items s.0 (awake_in x t) p.acts.items
    (subst (λ (r : Option ℕ). AllRan x.«module».now x.looked t x.design.instances.items s.0 (awake_in x t) p.acts.items r) e (k.ran s.0 s.1))

pub fresh_plan : (x : SimState) (t : Instant) (touched : List ℕ) (p : FramePlan) → HasLooked x t touched → IsPlanned x t p → AreFresh p.moves.items x.noted
fresh_plan x t touched p h k =
    fresh_moves x.«module».now x.design.instances.items x.design.signals.items x.states.items x.probes.items x.noted p.acts.items p.moves.items h.kept.noted h.kept.probes k.moves

pub fresh_as : (x : SimState) (t : Instant) (touched : List ℕ) (p : FramePlan) (ms : List Move) → HasLooked x t touched → IsPlanned x t p → ms ≡ p.moves.items → AreFresh ms x.noted
fresh_as x t touched p ms h k e = subst (λ (ns : List Move). AreFresh ns x.noted) (sym e) (fresh_plan x t touched p h k)
