-- An entity that gives the same as a process on all values may stand for it.
use Rattle.std.proofs.Common.{◌≡◌, ℕ, List, Bool, true, false, ◌||◌, refl, ap, Option, Some, None}
use Rattle.std.specs.List.{list_any}
use Rattle.lh_time.specs.declared.Instant.{Instant}
use Rattle.lh_types.specs.declared.part.Range.{Range}
use Rattle.lh_unit.specs.Contents.{UnitText}
use Rattle.lh_unit.specs.Held.{Env}
use Rattle.lh_unit.specs.Activation.{ProcessState, activate}
use Rattle.lh_unit.specs.Hierarchy.{Instance}
use Rattle.lh_unit.specs.Pass.{pass}
use Rattle.lh_unit.specs.World.{State, of_process, of_entity, start_by, process_act, entity_act, runs, if_woken, act, bit_numbers, bit_differs, Rules}
use Rattle.lh_trace_laws.proofs.BitSets.{SameSet, same_any}
use Rattle.lh_trace_laws.proofs.StandsFor.{scene, fresh, waiting_at, EndsAt, sensed, CombFor}
use Rattle.lh_trace_laws.proofs.Simulation.{Matches, SimulationRelation}

module _ (r : Rules) (x y : UnitText) (i : Instance) (c : CombFor r x y i) where
  -- after the first frame the process waits, and the entity has run
  record AtHead (a b : State) : Type 0 where
    block : List ℕ
    held : Env
    on : List Range
    memory : Option (List Bool)
    known : c.holds block held
    same_parts : SameSet (bit_numbers on) (sensed y i)
    process : a ≡ of_process (waiting_at block c.to on held)
    entity : b ≡ of_entity memory

  abbrev CombRelated : (before : Option (List Bool)) → State → State → Type 0
  CombRelated None a b = (a ≡ of_process (fresh x i)) × (b ≡ of_entity None)
  CombRelated (Some old) a b = AtHead a b

  both_run : (now : List Bool) (t : Instant) (p : ProcessState) (m : Option (List Bool)) → EndsAt c.holds c.to (sensed y i) (pass y i.args i.sigs now m t).wish (activate r.bound (scene r now t) x p)
      → Matches AtHead (process_act p (activate r.bound (scene r now t) x p)) (entity_act (pass y i.args i.sigs now m t))
  both_run now t p m e = rw e.is (record {
    answer = refl;
    after = record { block = e.block; held = e.held; on = e.parts; memory = Some (pass y i.args i.sigs now m t).seen; known = e.known; same_parts = e.same_parts; process = refl; entity = refl };
  })

  -- both run or both rest
  both_or_none : (b : Bool) (now : List Bool) (t : Instant) (block : List ℕ) (e : Env) (on : List Range) (m : Option (List Bool)) → c.holds block e → SameSet (bit_numbers on) (sensed y i)
      → Matches AtHead (if_woken b (runs r now t x i (of_process (waiting_at block c.to on e))) (of_process (waiting_at block c.to on e))) (if_woken b (runs r now t y i (of_entity m)) (of_entity m))
  both_or_none true now t block e on m k h = both_run now t (waiting_at block c.to on e) m (c.later now t m block e on k)
  both_or_none false now t block e on m k h = record {
    answer = refl;
    after = record { block = block; held = e; on = on; memory = m; known = k; same_parts = h; process = refl; entity = refl };
  }

  comb_keeps : (before : Option (List Bool)) (now : List Bool) (t : Instant) (a b : State) → CombRelated before a b
      → Matches AtHead (act r (record { before = before; now = now; at = t }) x i a) (act r (record { before = before; now = now; at = t }) y i b)
  comb_keeps None now t a b h = rw (h.0, h.1) (both_run now t (fresh x i) None (c.first now t None))
  comb_keeps (Some old) now t a b h =
      rw (h.process, h.entity, same_any (bit_differs old now) (bit_numbers h.on) (sensed y i) h.same_parts)
      (both_or_none (list_any (bit_differs old now) (sensed y i) || false) now t h.block h.held h.on h.memory h.known h.same_parts)

  pub comb_simulation : SimulationRelation r x y i
  comb_simulation = record {
    R = CombRelated;
    start_of = (ap (λ k. start_by k x i) c.is_process, ap (λ k. start_by k y i) c.is_entity);
    keeps = λ m a b h. comb_keeps m.before m.now m.at a b h;
  }
