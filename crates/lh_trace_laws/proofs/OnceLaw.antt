-- An entity that gives in its one pass what a process gives before it halts may stand for it.
use Rattle.std.proofs.Common.{◌≡◌, ℕ, List, [], Bool, false, ◌||◌, refl, ap, Option, Some, None}
use Rattle.std.specs.List.{list_any}
use Rattle.lh_time.specs.declared.Instant.{Instant}
use Rattle.lh_unit.specs.Contents.{UnitText}
use Rattle.lh_unit.specs.Held.{Env}
use Rattle.lh_unit.specs.Activation.{halted}
use Rattle.lh_unit.specs.Hierarchy.{Instance}
use Rattle.lh_unit.specs.Pass.{pass}
use Rattle.lh_unit.specs.World.{State, of_process, of_entity, start_by, act, bit_differs, Rules}
use Rattle.lh_trace_laws.proofs.StandsFor.{fresh, OnceFor}
use Rattle.lh_trace_laws.proofs.Simulation.{Matches, SimulationRelation}

module _ (r : Rules) (x y : UnitText) (i : Instance) (c : OnceFor r x y i) where
  -- after the first frame the process has halted, and the entity has run
  record HasRun (a b : State) : Type 0 where
    held : Env
    memory : Option (List Bool)
    process : a ≡ of_process (record { stand = halted; held = held })
    entity : b ≡ of_entity memory

  abbrev OnceRelated : (before : Option (List Bool)) → State → State → Type 0
  OnceRelated None a b = (a ≡ of_process (fresh x i)) × (b ≡ of_entity None)
  OnceRelated (Some old) a b = HasRun a b

  -- nothing wakes an entity that senses nothing
  never_woken : (test : ℕ → Bool) (ks : List ℕ) → ks ≡ [] → (list_any test ks || false) ≡ false
  never_woken test ks e = ap (λ k. list_any test k || false) e

  once_keeps : (before : Option (List Bool)) (now : List Bool) (t : Instant) (a b : State) → OnceRelated before a b
      → Matches HasRun (act r (record { before = before; now = now; at = t }) x i a) (act r (record { before = before; now = now; at = t }) y i b)
  once_keeps None now t a b h =
      let d = c.once now t in
      rw (h.0, h.1, d.is) (record {
        answer = refl;
        after = record { held = d.held; memory = Some (pass y i.args i.sigs now None t).seen; process = refl; entity = refl };
      })
  once_keeps (Some old) now t a b h =
      rw (h.process, h.entity, never_woken (bit_differs old now) _ c.probes_nothing) (record {
        answer = refl;
        after = record { held = h.held; memory = h.memory; process = refl; entity = refl };
      })

  pub once_simulation : SimulationRelation r x y i
  once_simulation = record {
    R = OnceRelated;
    start_of = (ap (λ k. start_by k x i) c.is_process, ap (λ k. start_by k y i) c.is_entity);
    keeps = λ m a b h. once_keeps m.before m.now m.at a b h;
  }
