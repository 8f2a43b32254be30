-- The bits of an instant that were looked at.
use Rattle.std.proofs.Common.{◌≡◌, ℕ, ◌<◌, List, Bool, length, Option, Some, None, Result, IfOk, OnErr, arith, ap, sym, ◌∙◌, subst}
use Rattle.lh_time.specs.declared.Instant.{Instant}
use Rattle.lh_queue.specs.Holds.{entries}
use Rattle.lh_types.specs.Raised.{raised}
use Rattle.lh_types.specs.declared.part.Range.{Range}
use Rattle.lh_types.specs.declared.memory.NoMemory.{NoMemory}
use Rattle.lh_unit.specs.Arena.{Arena}
use Rattle.lh_unit.specs.World.{State}
use Rattle.lh_unit.specs.Frames.{activated_count}
use Rattle.lh_eval.specs.declared.instance.Instance.{Instance}
use Rattle.lh_kernel_wakes.specs.Rising.{IsOneOf, IsRising}
use Rattle.lh_kernel_states.specs.declared.state.InstState.{InstState}
use Rattle.lh_kernel.specs.declared.run.Ran.{Ran}
use Rattle.lh_kernel.specs.States.{StatesStand, StatesFit}
use Rattle.lh_kernel.specs.Woken.{AreAsleep, awake_from}
use Rattle.lh_unit.specs.Within.{Each}
use Rattle.lh_design.specs.declared.Signal.{Signal}
use Rattle.lh_kernel.specs.declared.noted.Move.{Move}
use Rattle.lh_kernel.specs.declared.run.Activation.{Activation}
use Rattle.lh_kernel.specs.Moves.{AreMoves, SensesFit}
use Rattle.lh_kernel.proofs.Exact.{senses_fit}
use Rattle.lh_kernel.specs.Ran.{AllRan, ActOfOne}
use Rattle.lh_kernel.specs.Phases.{HasLooked, moment_in, awake_in, RisesWithin}
use Rattle.lh_kernel.proofs.Awake.{awake_rises, awake_known}
use Rattle.lh_kernel.specs.declared.machine.SimState.{SimState}
use Rattle.lh_kernel.proofs.Places.{as_many}
use Rattle.lh_trace_laws.proofs.ValuesLaw.{as_many as length_values}

-- there are as many as the signals have
pub looked_width : (x : SimState) (t : Instant) (touched : List ℕ) → HasLooked x t touched → length x.looked ≡ length x.design.init
looked_width x t touched h = ap length h.looked ∙ length_values (entries x.queue.held) t 0 x.bits ∙ h.kept.width

pub looked_fit : (x : SimState) (t : Instant) (touched : List ℕ) → HasLooked x t touched → StatesFit x.«module».now (length x.looked) x.design.instances.items x.states.items
looked_fit x t touched h = subst (λ n. StatesFit x.«module».now n x.design.instances.items x.states.items) (sym (looked_width x t touched h)) h.kept.fit

-- in the first frame all wake
pub all_awake : (x : SimState) (t : Instant) (touched ks all : List ℕ) → HasLooked x t touched → x.last ≡ None → ks ≡ all →
    ((a : Arena) (now : List Bool) (u : Instant) (ss : List InstState) → length ss ≡ length x.design.instances.items →
    all ≡ awake_from 0 a (record { before = None; now = now; at = u }) x.design.instances.items ss) →
    ks ≡ awake_in x t
all_awake x t touched ks all h e v f =
    v ∙ f x.«module».now x.looked t x.states.items (as_many x.«module».now (length x.looked) x.design.instances.items x.states.items (looked_fit x t touched h))
    ∙ ap (λ (o : Option Instant). awake_in (record x { last = o }) t) (sym e)

pub are_asleep : (x : SimState) (t : Instant) (touched : List ℕ) (ss : List InstState) (ps : List (List Range)) → HasLooked x t touched → ss ≡ x.states.items → ps ≡ x.probes.items →
    AreAsleep x.«module».now x.design ss ps x.noted t
are_asleep x t touched ss ps h e f =
    subst (λ (zs : List InstState). AreAsleep x.«module».now x.design zs ps x.noted t) (sym e)
    (subst (λ (zs : List (List Range)). AreAsleep x.«module».now x.design x.states.items zs x.noted t) (sym f)
    (record { fill = h.kept.design.fill; fit = h.kept.fit; probed = h.kept.probes; probed_within = h.kept.probes_within; noted = h.kept.noted; to_come = h.comes.wakes }))

-- in a later frame those that are found wake
pub some_awake : (x : SimState) (t l : Instant) (touched ks woken : List ℕ) (ss : List InstState) (ps : List (List Range)) → HasLooked x t touched →
    x.last ≡ Some l → ks ≡ woken → ss ≡ x.states.items → ps ≡ x.probes.items →
    ((a : Arena) → AreAsleep a x.design ss ps x.noted t → woken ≡ awake_from 0 a (record { before = Some x.bits; now = x.looked; at = t }) x.design.instances.items ss) →
    ks ≡ awake_in x t
some_awake x t l touched ks woken ss ps h e v p q f =
    v ∙ f x.«module».now (are_asleep x t touched ss ps h p q)
    ∙ ap (awake_from 0 x.«module».now (record { before = Some x.bits; now = x.looked; at = t }) x.design.instances.items) p
    ∙ ap (λ (o : Option Instant). awake_in (record x { last = o }) t) (sym e)

pub rises_awake : (x : SimState) (t : Instant) (ks : List ℕ) → ks ≡ awake_in x t → IsRising ks
rises_awake x t ks e = subst IsRising (sym e) (awake_rises x.«module».now (moment_in x t) x.design.instances.items x.states.items 0)

pub known_awake : (x : SimState) (t : Instant) (ks : List ℕ) → ks ≡ awake_in x t → (k : ℕ) → IsOneOf k ks → k < length x.design.instances.items
known_awake x t ks e k h = omega (arith, awake_known x.«module».now (moment_in x t) x.design.instances.items x.states.items 0 k (subst (IsOneOf k) e h))

pub ran_by : (a : Arena) (now : List Bool) (t : Instant) (is : List Instance) (ss zs : List InstState) (ks js : List ℕ) (r : Result Ran NoMemory) → zs ≡ ss → js ≡ ks →
    ((ps : List State) → StatesStand a is zs ps → IfOk r (λ (x : Ran). AllRan a now t is ps js x.acts.items x.runaway)) → (ps : List State) →
    StatesStand a is ss ps → IfOk r (λ (x : Ran). AllRan a now t is ps ks x.acts.items x.runaway)
ran_by a now t is ss zs ks js r e f h ps s =
    subst (λ (ls : List ℕ). IfOk r (λ (x : Ran). AllRan a now t is ps ls x.acts.items x.runaway)) f (h ps (subst (λ (ys : List InstState). StatesStand a is ys ps) (sym e) s))

pub tally_by : (old new : ℕ) (ks js : List ℕ) (r : Result Ran NoMemory) → js ≡ ks →
    IfOk r (λ (x : Ran). new ≡ raised old (activated_count x.runaway js)) → IfOk r (λ (x : Ran). new ≡ raised old (activated_count x.runaway ks))
tally_by old new ks js r f h = subst (λ (ls : List ℕ). IfOk r (λ (x : Ran). new ≡ raised old (activated_count x.runaway ls))) f h

pub err_by : (old new : ℕ) (ks js : List ℕ) (r : Result Ran NoMemory) → js ≡ ks → OnErr r (RisesWithin js old new) → OnErr r (RisesWithin ks old new)
err_by old new ks js r f h = subst (λ (ls : List ℕ). OnErr r (RisesWithin ls old new)) f h

-- what the instances sensed and will sense lies within the signals
pub moves_fit : (x : SimState) (t : Instant) (touched : List ℕ) (xs : List Activation) → HasLooked x t touched → Each (ActOfOne x.«module».now (length x.looked) t x.design.instances.items) xs →
    (ps : List (List Range)) (ss : List InstState) (acts : List Activation) → ps ≡ x.probes.items → ss ≡ x.states.items → acts ≡ xs → Each (SensesFit (length x.design.init) ps ss) acts
moves_fit x t touched xs h sound ps ss acts p s e =
    let w : Each (ActOfOne x.«module».now (length x.design.init) t x.design.instances.items) xs =
    subst (λ (n : ℕ). Each (ActOfOne x.«module».now n t x.design.instances.items) xs) (looked_width x t touched h) sound in
    let f : Each (SensesFit (length x.design.init) x.probes.items x.states.items) xs =
    senses_fit x.«module».now (length x.design.init) t x.design.instances.items x.states.items x.probes.items xs h.kept.fit h.kept.probes h.kept.probes_within w in
    subst (λ (zs : List (List Range)). Each (SensesFit (length x.design.init) zs ss) acts) (sym p)
    (subst (λ (zs : List InstState). Each (SensesFit (length x.design.init) x.probes.items zs) acts) (sym s)
    (subst (λ (zs : List Activation). Each (SensesFit (length x.design.init) x.probes.items x.states.items) zs) (sym e) f))

pub moves_as : (signals : List Signal) (ps qs : List (List Range)) (ss zs : List InstState) (xs ys : List Activation) (ms : List Move) → ps ≡ qs →
    ss ≡ zs → xs ≡ ys → AreMoves signals ps ss xs ms → AreMoves signals qs zs ys ms
moves_as signals ps qs ss zs xs ys ms p s e h =
    subst (λ (rs : List (List Range)). AreMoves signals rs zs ys ms) p
    (subst (λ (rs : List InstState). AreMoves signals ps rs ys ms) s (subst (λ (rs : List Activation). AreMoves signals ps ss rs ms) e h))
