-- That an entity may stand for a process: a buffer.
use Rattle.std.proofs.Common.{◌≡◌, ◌≤◌, ℕ, List, [], ◌∷◌, map, Bool, refl, Option, Some, None, arith, inr}
use Rattle.std.specs.Prelude.{codes}
use Rattle.lh_time.specs.declared.Instant.{Instant}
use Rattle.lh_time.specs.Due.{due_of}
use Rattle.lh_types.specs.Bits.{value_bits, value_from_bits}
use Rattle.lh_types.specs.Wish.{Wish, no_wish, with_drive}
use Rattle.lh_types.specs.declared.part.Range.{Range}
use Rattle.lh_unit.specs.declared.inst.UnitKind.TheVariants as kind
use Rattle.lh_unit.specs.Contents.{const_text, prb_text, drv_text, wait_text, ArgText, UnitText, unit_text}
use Rattle.lh_unit.specs.Held.{datum_held, part_held, Env, with_held, bits_in}
use Rattle.lh_unit.specs.Activation.{Control, Activated, start_point, run, activate}
use Rattle.lh_unit.specs.Hierarchy.{Instance}
use Rattle.lh_unit.specs.Pass.{pass, probes}
use Rattle.lh_unit.specs.World.{Rules, rules_of}
use Rattle.lh_unit.specs.Trace.{SameTrace}
use Rattle.lh_trace_laws.specs.Replacing.{MayStand}
use Rattle.lh_trace_laws.proofs.Samples.{global, gives, does, typed, bit, bit_signal, input, output, block, delay}
use Rattle.lh_trace_laws.proofs.ActivationsLaw.{run_enough}
use Rattle.lh_trace_laws.proofs.StandsFor.{scene, fresh, waiting_at, EndsAt, sensed, CombFor}
use Rattle.lh_trace_laws.proofs.MayStandLaw.{comb_may_stand}
use Rattle.lh_trace_laws.proofs.ReplacingLaw.{replaced_same_trace}

abbrev args : List ArgText
args = input (codes "x") bit_signal ∷ output (codes "q") bit_signal ∷ []

abbrev as_process : UnitText
as_process = record {
  kind = kind.Proc;
  name = global (codes "buffer");
  args = args;
  result = None;
  blocks = block (codes "entry") (
      gives (codes "xp") (prb_text (typed bit_signal (codes "x")))
      ∷ gives (codes "d") (const_text (delay 1000000 0 0))
      ∷ does (drv_text (typed bit_signal (codes "q")) (codes "xp") (codes "d") None)
      ∷ does (wait_text (codes "entry") None (codes "x" ∷ []))
      ∷ []) ∷ [];
}

abbrev as_entity : UnitText
as_entity = record {
  kind = kind.Entity;
  name = global (codes "buffer");
  args = args;
  result = None;
  blocks = record {
    label = None;
    lines =
        gives (codes "v0") (prb_text (typed bit_signal (codes "x")))
        ∷ gives (codes "v1") (const_text (delay 1000000 0 0))
        ∷ does (drv_text (typed bit_signal (codes "q")) (codes "v0") (codes "v1") None)
        ∷ [];
  } ∷ [];
}

abbrev the_wish : Range → Range → List Bool → Instant → Wish
the_wish x q now t = with_drive no_wish (due_of t (record { fs = 1000000; delta = 0; eps = 0 })) q.lo (value_bits (value_from_bits bit (bits_in now x)))

abbrev after : Range → List Bool → Env → Env
after x now e = with_held (with_held e (codes "xp") (datum_held (value_from_bits bit (bits_in now x)))) (codes "d") (datum_held (delay 1000000 0 0))

-- it holds its arguments
abbrev Holds : Range → Range → Env → Type 0
Holds x q e = (e (codes "x") ≡ Some (part_held x)) × (e (codes "q") ≡ Some (part_held q))

abbrev at_entry : Env → Control
at_entry e = record {
  unit = as_process;
  block = codes "entry";
  held = e;
  rest =
      gives (codes "xp") (prb_text (typed bit_signal (codes "x")))
      ∷ gives (codes "d") (const_text (delay 1000000 0 0))
      ∷ does (drv_text (typed bit_signal (codes "q")) (codes "xp") (codes "d") None)
      ∷ does (wait_text (codes "entry") None (codes "x" ∷ []))
      ∷ [];
}

module _ (r : Rules) (enough : 4 ≤ r.bound) (x q : Range) where
  abbrev ended : List Bool → Instant → Env → Option Activated
  ended now t e = Some (record { state = waiting_at (codes "entry") (codes "entry") (x ∷ []) (after x now e); wish = the_wish x q now t; outcomes = [] })

  four_steps : (now : List Bool) (t : Instant) (e : Env) → Holds x q e → run 4 (scene r now t) (start_point (at_entry e)) ≡ ended now t e
  four_steps now t e h = rw (h.0, h.1) (rw h.0 refl)

  runs_so : (now : List Bool) (t : Instant) (e : Env) → Holds x q e → run r.bound (scene r now t) (start_point (at_entry e)) ≡ ended now t e
  runs_so now t e h = run_enough (scene r now t) 4 r.bound (start_point (at_entry e)) _ enough (four_steps now t e h)

  fresh_so : (now : List Bool) (t : Instant) (i : Instance) → i.args ≡ x ∷ q ∷ [] → activate r.bound (scene r now t) as_process (fresh as_process i) ≡ ended now t (fresh as_process i).held
  unfolding activate
  fresh_so now t i e = runs_so now t (fresh as_process i).held (rw e (refl, refl))

  waiting_so : (now : List Bool) (t : Instant) (b : List ℕ) (e : Env) (on : List Range) → Holds x q e → activate r.bound (scene r now t) as_process (waiting_at b (codes "entry") on e) ≡ ended now t e
  unfolding activate
  waiting_so now t b e on h = runs_so now t e h

  pass_so : (now : List Bool) (t : Instant) (sigs : List Range) (memory : Option (List Bool)) → (pass as_entity (x ∷ q ∷ []) sigs now memory t).wish ≡ the_wish x q now t
  unfolding pass
  pass_so now t sigs memory = refl

  senses_so : (sigs : List Range) → probes as_entity (x ∷ q ∷ []) sigs ≡ x ∷ []
  unfolding probes
  senses_so sigs = refl

  first_ends : (now : List Bool) (t : Instant) (i : Instance) (memory : Option (List Bool)) → i.args ≡ x ∷ q ∷ []
      → EndsAt (λ b. Holds x q) (codes "entry") (sensed as_entity i) (pass as_entity i.args i.sigs now memory t).wish (activate r.bound (scene r now t) as_process (fresh as_process i))
  first_ends now t i memory e = rw (fresh_so now t i e, e, pass_so now t i.sigs memory, senses_so i.sigs)
      (record { block = codes "entry"; held = after x now (fresh as_process i).held; parts = x ∷ []; known = rw e (refl, refl); same_parts = λ k. refl; is = rw e refl })

  later_ends : (now : List Bool) (t : Instant) (i : Instance) (memory : Option (List Bool)) (b : List ℕ) (held : Env) (on : List Range) → i.args ≡ x ∷ q ∷ [] → Holds x q held
      → EndsAt (λ b. Holds x q) (codes "entry") (sensed as_entity i) (pass as_entity i.args i.sigs now memory t).wish
      (activate r.bound (scene r now t) as_process (waiting_at b (codes "entry") on held))
  later_ends now t i memory b held on e h = rw (waiting_so now t b held on h, e, pass_so now t i.sigs memory, senses_so i.sigs)
      (record { block = codes "entry"; held = after x now held; parts = x ∷ []; known = h; same_parts = λ k. refl; is = refl })

  buffer_for : (i : Instance) → i.args ≡ x ∷ q ∷ [] → CombFor r as_process as_entity i
  buffer_for i e = record {
    is_process = refl;
    is_entity = refl;
    to = codes "entry";
    holds = λ b. Holds x q;
    first = λ now t memory. first_ends now t i memory e;
    later = λ now t memory b held on h. later_ends now t i memory b held on e h;
  }

-- an instance has two arguments
two_args : (r : Rules) (i : Instance) → 4 ≤ r.bound → (rs : List Range) → i.args ≡ rs → map (λ (a : Range). a.len) rs ≡ 1 ∷ 1 ∷ [] → CombFor r as_process as_entity i
two_args r i b (x ∷ q ∷ []) e w = buffer_for r b x q i e
two_args r i b [] e w = absurd cc
two_args r i b (x ∷ []) e w = absurd cc
two_args r i b (x ∷ q ∷ z ∷ more) e w = absurd cc

-- The entity may stand for the process, in every module and every instance.
pub buffer_stands : (r : Rules) → 4 ≤ r.bound → MayStand r as_process as_entity
buffer_stands r b = comb_may_stand r as_process as_entity refl refl refl refl (refl, (refl, (refl, tt))) (λ i w. two_args r i b i.args refl w.args)

-- and so a file has the same trace with either
pub buffer_same_trace : SameTrace (unit_text as_process ∷ []) (unit_text as_entity ∷ [])
buffer_same_trace = replaced_same_trace 1000000 (unit_text as_process ∷ []) (unit_text as_entity ∷ []) (inr (buffer_stands (rules_of 1000000 (unit_text as_process ∷ [])) (omega arith)), tt)
