-- What one run of an instance gives is sound.
use Rattle.std.proofs.Common.{◌≡◌, ℕ, List, [], ◌∷◌, ◌++◌, Bool, true, Option, Some, None, Ok, sym, subst}
use Rattle.std.proofs.lemmas.Bool.{false≢true}
use Rattle.lh_time.specs.declared.Instant.{Instant}
use Rattle.lh_time.specs.Order.{instant_lt, IsLaterIfAny}
use Rattle.lh_types.specs.Wish.{Wish}
use Rattle.lh_bits.specs.Writes as writes
use Rattle.lh_unit.specs.Activation.{ProcessState, Activated, activate}
use Rattle.lh_unit.specs.Arena.{Arena, kind_at, contents, unit_text_at}
use Rattle.lh_unit.specs.declared.inst.UnitKind.TheVariants as kind
use Rattle.lh_unit.specs.Pass.{pass}
use Rattle.lh_unit.specs.Within.{Each}
use Rattle.lh_unit.specs.World.{of_process, of_entity, process_act, rules_of}
use Rattle.lh_eval.specs.declared.instance.Instance.{Instance}
use Rattle.lh_eval.specs.Grouped.{is_filled, IsGrouped}
use Rattle.lh_eval.specs.WishOf.{bits_due, writes_wish}
use Rattle.lh_eval.specs.Wishing.{BitsWithin}
use Rattle.lh_design.specs.Texts.{instance_text}
use Rattle.lh_exec.specs.declared.process.Act.{Act}
use Rattle.lh_exec.specs.declared.state.Stand.{Stand}
use Rattle.lh_exec.specs.declared.state.Stand.TheVariants as stand
use Rattle.lh_exec.specs.Standing.{scene_of}
use Rattle.lh_exec.specs.declared.state.ProcState.{ProcState}
use Rattle.lh_exec.specs.States as process
use Rattle.lh_exec.specs.States.{ActivationOrRunaway, waited_by, WakesLater, WakesLaterBy}
use Rattle.lh_exec.specs.Laws.{wake_of}
use Rattle.lh_react.specs.declared.entity.EntAct.{EntAct}
use Rattle.lh_react.specs.Standing as entity
use Rattle.lh_react.specs.Standing.{Reacts}
use Rattle.lh_react.specs.State.{EntityState}
use Rattle.lh_trace_laws.specs.Wishes.{IsLate}
use Rattle.lh_trace_laws.proofs.Late.{runs_late}
use Rattle.lh_kernel_states.specs.declared.state.InstState.{InstState}
use Rattle.lh_kernel_states.specs.States.{StateFits}
use Rattle.lh_kernel_states.specs.declared.state.InstState.TheVariants.{Process, Entity}
use Rattle.lh_kernel_states.specs.Runs.{ActIsSound}

pub process-fits : (a : Arena) (width : ℕ) (i : Instance) (s : InstState) (x : ProcState) → s ≡ Process x → StateFits a width i s →
    (kind_at a i.unit.0 ≡ Some kind.Proc) × process.ProcStateFits a i.unit.0 width x
process-fits a width i s x e h = subst (StateFits a width i) e h

pub entity-fits : (a : Arena) (width : ℕ) (i : Instance) (s : InstState) (x : EntityState) → s ≡ Entity x → StateFits a width i s →
    (kind_at a i.unit.0 ≡ Some kind.Entity) × entity.EntityStateFits (unit_text_at a i.unit.0) i.args x
entity-fits a width i s x e h = subst (StateFits a width i) e h

rest-late : (t u : Instant) (bs : List (ℕ × Bool)) (rest : Wish) → IsLate t (bits_due u bs ++ rest) → IsLate t rest
rest-late t u [] rest l = l
rest-late t u (b ∷ bs) rest l = rest-late t u bs rest l.1

first-late : (t u : Instant) (bs : List (ℕ × Bool)) (rest : Wish) → is_filled bs ≡ true → IsLate t (bits_due u bs ++ rest) → instant_lt t u ≡ true
first-late t u [] rest f l = absurd (false≢true f)
first-late t u (b ∷ bs) rest f l = l.0

each-late : (t : Instant) (ws : List (Instant × List (ℕ × Bool))) → IsGrouped ws → IsLate t (writes_wish ws) → Each (λ (d : Instant × List (ℕ × Bool)). instant_lt t d.0 ≡ true) ws
each-late t [] g l = tt
each-late t (d ∷ more) g l = (first-late t d.0 d.1 (writes_wish more) g.0 l, each-late t more g.3 (rest-late t d.0 d.1 (writes_wish more) l))

bits-within : (width : ℕ) (bs : List (ℕ × Bool)) → BitsWithin width bs → writes.BitsWithin width bs
bits-within width [] h = tt
bits-within width (b ∷ bs) h = (h.0, bits-within width bs h.1)

each-within : (width : ℕ) (ws : List (Instant × List (ℕ × Bool))) → Each (λ (d : Instant × List (ℕ × Bool)). BitsWithin width d.1) ws →
    Each (λ (d : Instant × List (ℕ × Bool)). writes.BitsWithin width d.1) ws
each-within width [] h = tt
each-within width (d ∷ more) h = (bits-within width d.1 h.0, each-within width more h.1)

wakes-later : (t : Instant) (s : Stand) → WakesLaterBy t s → IsLaterIfAny t (wake_of (waited_by s))
wakes-later t stand.New h = tt
wakes-later t (stand.Waits w) h = by w.on.wake h
  where
    by : (o : Option Instant) → WakesLaterBy t (stand.Waits (record w { on = record w.on { wake = o } })) → IsLaterIfAny t o
    by None h = tt
    by (Some u) h = h
wakes-later t stand.Halted h = tt

-- what an activation gives
pub process-sound : (a : Arena) (width : ℕ) (now : List Bool) (t : Instant) (i : Instance) (p : ProcessState) (x : Act) →
    kind_at a i.unit.0 ≡ Some kind.Proc → ActivationOrRunaway a i.unit.0 i.args width (Ok x) (activate 1000000 (scene_of a now t) (unit_text_at a i.unit.0) p) → WakesLater t x.next →
    ActIsSound a width t i (record { next = Process x.next; wishes = x.wishes; outcomes = x.outcomes })
process-sound a width now t i p x k h later =
    by (activate 1000000 (scene_of a now t) (unit_text_at a i.unit.0) p) h (runs_late (rules_of 1000000 (contents a)) now t (unit_text_at a i.unit.0) (instance_text a i) (of_process p))
  where
    by : (done : Option Activated) → ActivationOrRunaway a i.unit.0 i.args width (Ok x) done → IsLate t (process_act p done).wish →
        ActIsSound a width t i (record { next = Process x.next; wishes = x.wishes; outcomes = x.outcomes })
    by (Some d) g l = record {
      fits = (k, g.fits);
      wakes = wakes-later t x.next.stand later;
      grouped = g.grouped;
      within = each-within width x.wishes g.within;
      later = each-late t x.wishes g.grouped (subst (IsLate t) (sym g.wish) l);
    }
    by None g l = absurd g

-- what a pass gives
pub entity-sound : (a : Arena) (width : ℕ) (now : List Bool) (t : Instant) (i : Instance) (memory : Option (List Bool)) (x : EntAct) (outcomes : List Bool) →
    kind_at a i.unit.0 ≡ Some kind.Entity → Reacts (unit_text_at a i.unit.0) i.args width (pass (unit_text_at a i.unit.0) i.args i.sigs now memory t) x →
    ActIsSound a width t i (record { next = Entity x.next; wishes = x.wishes; outcomes = outcomes })
entity-sound a width now t i memory x outcomes k h = record {
  fits = (k, h.fits);
  wakes = tt;
  grouped = h.grouped;
  within = each-within width x.wishes h.within;
  later = each-late t x.wishes h.grouped (subst (IsLate t) (sym h.wish) (runs_late (rules_of 1000000 (contents a)) now t (unit_text_at a i.unit.0) (instance_text a i) (of_entity memory)));
}
