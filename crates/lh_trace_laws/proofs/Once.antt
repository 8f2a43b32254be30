-- That an entity may stand for a process that runs once: a signal that is set after a nanosecond.
use Rattle.std.proofs.Common.{◌≡◌, ◌≤◌, List, [], ◌∷◌, map, Bool, refl, Option, Some, None, arith, inr}
use Rattle.std.specs.Prelude.{codes}
use Rattle.lh_time.specs.declared.Instant.{Instant}
use Rattle.lh_types.specs.Values.{int_value}
use Rattle.lh_types.specs.declared.part.Range.{Range}
use Rattle.lh_unit.specs.declared.inst.UnitKind.TheVariants as kind
use Rattle.lh_unit.specs.Contents.{const_text, drv_text, halt_text, LineText, ArgText, UnitText, unit_text}
use Rattle.lh_unit.specs.Held.{datum_held, Env, with_held}
use Rattle.lh_unit.specs.Activation.{Control, Activated, halted, start_point, run, activate}
use Rattle.lh_unit.specs.Hierarchy.{Instance}
use Rattle.lh_unit.specs.Pass.{pass, probes}
use Rattle.lh_unit.specs.World.{Rules, rules_of}
use Rattle.lh_unit.specs.Trace.{SameTrace}
use Rattle.lh_trace_laws.specs.Replacing.{MayStand}
use Rattle.lh_trace_laws.proofs.Samples.{global, gives, does, typed, bit_signal, output, block, delay}
use Rattle.lh_trace_laws.proofs.ActivationsLaw.{run_enough}
use Rattle.lh_trace_laws.proofs.StandsFor.{scene, fresh, sensed, OnceFor}
use Rattle.lh_trace_laws.proofs.MayStandLaw.{once_may_stand}
use Rattle.lh_trace_laws.proofs.ReplacingLaw.{replaced_same_trace}

abbrev args : List ArgText
args = output (codes "q") bit_signal ∷ []

abbrev process_lines : List LineText
process_lines =
    gives (codes "one") (const_text (int_value 1 1))
    ∷ gives (codes "t") (const_text (delay 1000000 0 0))
    ∷ does (drv_text (typed bit_signal (codes "q")) (codes "one") (codes "t") None)
    ∷ does halt_text
    ∷ []

abbrev as_process : UnitText
as_process = record { kind = kind.Proc; name = global (codes "sets"); args = args; result = None; blocks = block (codes "entry") process_lines ∷ [] }

abbrev as_entity : UnitText
as_entity = record {
  kind = kind.Entity;
  name = global (codes "sets");
  args = args;
  result = None;
  blocks = record {
    label = None;
    lines =
        gives (codes "v0") (const_text (int_value 1 1))
        ∷ gives (codes "v1") (const_text (delay 1000000 0 0))
        ∷ does (drv_text (typed bit_signal (codes "q")) (codes "v0") (codes "v1") None)
        ∷ [];
  } ∷ [];
}

abbrev after : Env → Env
after e = with_held (with_held e (codes "one") (datum_held (int_value 1 1))) (codes "t") (datum_held (delay 1000000 0 0))

module _ (r : Rules) (enough : 4 ≤ r.bound) (i : Instance) (q : Range) (one_arg : i.args ≡ q ∷ []) where
  abbrev at_entry : Control
  at_entry = record { unit = as_process; block = codes "entry"; rest = process_lines; held = (fresh as_process i).held }

  abbrev ended : (now : List Bool) → Instant → Option Activated
  ended now t = Some (record { state = record { stand = halted; held = after (fresh as_process i).held }; wish = (pass as_entity i.args i.sigs now None t).wish; outcomes = [] })

  four_steps : (now : List Bool) (t : Instant) → run 4 (scene r now t) (start_point at_entry) ≡ ended now t
  unfolding pass
  four_steps now t = rw one_arg refl

  halts_so : (now : List Bool) (t : Instant) → activate r.bound (scene r now t) as_process (fresh as_process i) ≡ ended now t
  unfolding activate
  halts_so now t = run_enough (scene r now t) 4 r.bound (start_point at_entry) _ enough (four_steps now t)

  senses_none : sensed as_entity i ≡ []
  unfolding probes
  senses_none = refl

  sets_once : OnceFor r as_process as_entity i
  sets_once = record {
    is_process = refl;
    is_entity = refl;
    probes_nothing = senses_none;
    once = λ now t. record { held = after (fresh as_process i).held; is = halts_so now t };
  }

-- an instance has one argument
one_argument : (r : Rules) (i : Instance) → 4 ≤ r.bound → (rs : List Range) → i.args ≡ rs → map (λ (a : Range). a.len) rs ≡ 1 ∷ [] → OnceFor r as_process as_entity i
one_argument r i b (q ∷ []) e w = sets_once r b i q e
one_argument r i b [] e w = absurd cc
one_argument r i b (q ∷ z ∷ more) e w = absurd cc

-- The entity may stand for the process, in every module and every instance.
pub sets_stands : (r : Rules) → 4 ≤ r.bound → MayStand r as_process as_entity
sets_stands r b = once_may_stand r as_process as_entity refl refl refl refl (refl, (refl, (refl, tt))) (λ i w. one_argument r i b i.args refl w.args)

-- and so a file has the same trace with either
pub sets_same_trace : SameTrace (unit_text as_process ∷ []) (unit_text as_entity ∷ [])
sets_same_trace = replaced_same_trace 1000000 (unit_text as_process ∷ []) (unit_text as_entity ∷ []) (inr (sets_stands (rules_of 1000000 (unit_text as_process ∷ [])) (omega arith)), tt)
