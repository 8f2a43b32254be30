-- A frame that is taken: what is kept after it, and which worlds the machine then stands for.
use Rattle.std.proofs.Common.{◌≡◌, ◌≢◌, ◌<◌, ℕ, List, [], ◌∷◌, ◌++◌, map, Bool, true, false, length, Option, Some, None, refl, ap, sym, ◌∙◌, subst}
use Rattle.std.specs.Option.{option_map}
use Rattle.std.proofs.lemmas.Option.{slice_get_within}
use Rattle.lh_time.specs.declared.Instant.{Instant}
use Rattle.lh_time.specs.Order.{instant_le}
use Rattle.lh_time.proofs.OrderLemmas.{instant_le-lt}
use Rattle.lh_types.specs.declared.frame.Outcome.{Outcome}
use Rattle.lh_types.specs.Pictures.{Showing, Picture, picture, showing_of}
use Rattle.lh_types.specs.History.{Made, Claim, claims, values_by, bits_at, bits_after}
use Rattle.lh_history_laws.proofs.Frames.{histories_join}
use Rattle.lh_history_laws.proofs.Instants.{le_self}
use Rattle.lh_design.specs.declared.Signal.{Signal}
use Rattle.lh_unit.specs.Arena.{Arena, contents}
use Rattle.lh_unit.specs.World.{Moment, World, Act, bits_before, moment_of, bits_of, acts_at, made_by, afters}
use Rattle.lh_unit.specs.Trace.{least_runaway, outcomes_of}
use Rattle.lh_unit.specs.Frames.{woken_from, woken_at, signal_values, changes_by, values_before}
use Rattle.lh_unit.specs.Within.{Each}
use Rattle.lh_trace_laws.proofs.TraceLaw.{bits_stay_law}
use Rattle.lh_trace_laws.proofs.ValuesLaw.{as_many as length_values}
use Rattle.lh_eval.specs.declared.instance.Instance.{Instance}
use Rattle.lh_queue.specs.declared.wish.Wish.{Wish}
use Rattle.lh_queue.specs.Queued.{QueuedWish, due_later, BitsWithin, EachWithin, EachNames}
use Rattle.lh_queue.specs.Holds.{entries, HoldsFor, IsAfter, IsFrom, AreBitsAt, HoldsOn}
use Rattle.lh_queue.proofs.KeptWishes.{later_within, later_names}
use Rattle.lh_design.specs.Texts.{instance_text, signal_text, design_text}
use Rattle.lh_kernel_states.specs.declared.state.InstState.{InstState}
use Rattle.lh_kernel.specs.States.{StatesStand, StatesFit, WakesItself}
use Rattle.lh_kernel.specs.Touched.{bits_then}
use Rattle.lh_kernel.specs.Ran.{AllRan, ActOfOne, states_after}
use Rattle.lh_kernel.specs.Noted.{IsNotedFor}
use Rattle.lh_kernel.specs.Moves.{AreFresh, HasEntered, HasLeft, IsSameNoted}
use Rattle.lh_kernel.specs.Puts.{wishes_ran, WerePut, CanBePut}
use Rattle.lh_kernel.specs.Kept.{IsKept, IsWaiting, WakesAfter}
use Rattle.lh_kernel.specs.Simulation.{StandsFor, simulation_of}
use Rattle.lh_kernel.specs.Stepped.{shows_at, acts_in, world_then}
use Rattle.lh_kernel.specs.Phases.{ComesNext, IsPlanned, IsAhead, IsFrame, moment_in, awake_in, looked_at, woken_in}
use Rattle.lh_kernel.specs.declared.machine.SimState.{SimState}
use Rattle.lh_kernel.specs.declared.plan.FramePlan.{FramePlan}
use Rattle.lh_kernel.specs.declared.noted.Noted.{Noted}
use Rattle.lh_kernel.specs.declared.noted.Move.{Move}
use Rattle.lh_kernel.specs.declared.run.Activation.{Activation}
use Rattle.lh_kernel.proofs.Ahead.{plan_rises, plan_instances}
use Rattle.lh_kernel.proofs.Acts.{InstancesAreKnown, woken_same, defined_acts, runaway_same, outcomes_same, afters_stand, claims_ran}
use Rattle.lh_kernel.proofs.After.{after_fit, after_wakes}
use Rattle.lh_kernel.proofs.Exact.{fresh_moves, noted_after}
use Rattle.lh_kernel.proofs.PutWishes.{entries_put, put_each, put_within, put_names, put_holds}
use Rattle.lh_kernel.proofs.Wished.{can_all, each_wish, each_grouped, filled_names, entries_same, later_each, later_waits, made_before, IsMadeElsewhen}
use Rattle.lh_kernel.proofs.Places.{as_many}

-- What is known once the bits of a planned frame are taken, in terms of the machine before.
pub record IsTaken (old : SimState) (t : Instant) (p : FramePlan) (b l : List Bool) (q : List QueuedWish) (n : Noted) : Type 0 where
  pub plan : IsPlanned (looked_at old t) t p
  pub bits : b ≡ bits_then old.queue.held t old.bits
  pub looked : l ≡ bits_then old.queue.held t old.bits
  pub later : q ≡ due_later t old.queue.held
  pub values : AreBitsAt old.queue.held old.bits t b
  pub holds : HoldsOn old.queue.held t q
  pub entered : HasEntered p.moves.items old.noted n

pub is_taken : (old mid : SimState) (t : Instant) (p : FramePlan) (b : List Bool) (q : List QueuedWish) →
    mid ≡ record old { looked = mid.looked; queue = mid.queue; noted = mid.noted } → IsAhead old t p mid →
    q ≡ due_later t mid.queue.held → b ≡ values_by (entries mid.queue.held) t 0 mid.bits → AreBitsAt mid.queue.held mid.bits t b → HoldsOn mid.queue.held t q → IsTaken old t p b mid.looked q mid.noted
is_taken old mid t p b q e a l v r h =
    let be : mid.bits ≡ old.bits = ap (λ (m : SimState). m.bits) e in
    record {
      plan = a.plan;
      bits = v ∙ ap (λ (x : List QueuedWish). values_by (entries x) t 0 mid.bits) a.held ∙ ap (λ (x : List Bool). values_by (entries old.queue.held) t 0 x) be;
      looked = a.looked;
      later = l ∙ ap (due_later t) a.held;
      values = subst (λ (x : List Bool). AreBitsAt old.queue.held x t b) be (subst (λ (x : List QueuedWish). AreBitsAt x mid.bits t b) a.held r);
      holds = subst (λ (x : List QueuedWish). HoldsOn x t q) a.held h;
      entered = a.noted;
    }

bits_same : (history : List Made) (init : List Bool) (last : Option Instant) → bits_after history init last ≡ bits_after history init last
bits_same history init None = refl
bits_same history init (Some l) = refl

after_from : (t : Instant) (o : Option Instant) → IsAfter o t → IsFrom o t
after_from t None a = tt
after_from t (Some l) a = instant_le-lt l t a

from_last : (old : SimState) (t : Instant) (w : World) → ComesNext old t → StandsFor (simulation_of old false) w → IsFrom w.last t
from_last old t w comes h = after_from t w.last (subst (λ (o : Option Instant). IsAfter o t) (sym h.last) comes.after)

-- the bits taken are those of the frame
bits_are : (old : SimState) (t : Instant) (w : World) → ComesNext old t → StandsFor (simulation_of old false) w → (b : List Bool) →
    AreBitsAt old.queue.held old.bits t b → b ≡ bits_at w.history w.init t
bits_are old t w comes h b r = r w.history w.init w.last h.wishes (from_last old t w comes h) (sym h.bits ∙ bits_same w.history w.init w.last)

-- the moment of the frame is that of the world
moment_is : (old : SimState) (t : Instant) (w : World) → ComesNext old t → StandsFor (simulation_of old false) w → (b : List Bool) →
    b ≡ bits_then old.queue.held t old.bits → AreBitsAt old.queue.held old.bits t b →
    moment_of w t ≡ moment_in (looked_at old t) t
moment_is old t w comes h b bits values =
    same (bits_before w) (option_map (λ l. old.bits) old.last) (bits_at w.history w.init t) (bits_then old.queue.held t old.bits) (before_is w.last h.bits ∙ ap (option_map (λ l. old.bits)) h.last)
    (sym (bits_are old t w comes h b values) ∙ bits)
  where
    same : (o p : Option (List Bool)) (x y : List Bool) → o ≡ p → x ≡ y → ◌≡◌ {A = Moment} (record { before = o; now = x; at = t }) (record { before = p; now = y; at = t })
    same o p x y e f = cc

    before_is : (last : Option Instant) → bits_after w.history w.init last ≡ old.bits → option_map (bits_at w.history w.init) last ≡ option_map (λ l. old.bits) last
    before_is None e = refl
    before_is (Some l) e = ap (λ (x : List Bool). Some x) e

-- who wakes by what is kept is who wakes by the definition
pub awake_are_woken : (old : SimState) (t : Instant) (b : List Bool) → IsKept old → ComesNext old t → b ≡ bits_then old.queue.held t old.bits →
    AreBitsAt old.queue.held old.bits t b → (w : World) → StandsFor (simulation_of old false) w →
    awake_in (looked_at old t) t ≡ woken_in old w t
unfolding woken_at
awake_are_woken old t b kept comes bits values w h =
    let a = old.«module».now in
    let known : InstancesAreKnown a (length old.design.init) old.design.instances.items old.states.items w.states =
    record { arena = kept.design.arena; instances = kept.design.fits; fit = kept.fit; stand = h.states } in
    sym (ap (λ (m : Moment). woken_from 0 (contents a) m (map (instance_text a) old.design.instances.items) w.states) (moment_is old t w comes h b bits values)
    ∙ woken_same a (length old.design.init) old.design.instances.items old.states.items w.states (moment_in (looked_at old t) t) known)

-- the instances that did something are there
all_there : (a : Arena) (width n : ℕ) (t : Instant) (is : List Instance) (xs : List Activation) → n ≡ length is → Each (ActOfOne a width t is) xs → Each (λ (x : Activation). x.instance < n) xs
all_there a width n t is [] e s = tt
all_there a width n t is (x ∷ xs) e s = (subst (λ (m : ℕ). x.instance < m) (sym e) (slice_get_within is x.instance s.0.instance s.0.is), all_there a width n t is xs e s.1)

pub there_ahead : (old mid : SimState) (t : Instant) (p : FramePlan) → mid ≡ record old { looked = mid.looked; queue = mid.queue; noted = mid.noted } → IsKept old → IsAhead old t p mid →
    Each (λ (x : Activation). x.instance < length mid.states.items) p.acts.items
there_ahead old mid t p e k a =
    all_there old.«module».now (length (looked_at old t).looked) (length mid.states.items) t old.design.instances.items p.acts.items
    (ap (λ (m : SimState). length m.states.items) e ∙ as_many old.«module».now (length old.design.init) old.design.instances.items old.states.items k.fit) a.plan.sound

module _ (old : SimState) (t : Instant) (p : FramePlan) (kept : IsKept old) (comes : ComesNext old t) (plan : IsPlanned (looked_at old t) t p) where
  as_wide : length (looked_at old t).looked ≡ length old.design.init
  as_wide = length_values (entries old.queue.held) t 0 old.bits ∙ kept.width

  sound : Each (ActOfOne old.«module».now (length old.design.init) t old.design.instances.items) p.acts.items
  sound = subst (λ (n : ℕ). Each (ActOfOne old.«module».now n t old.design.instances.items) p.acts.items) as_wide plan.sound

  -- the wishes can be put
  pub can_taken : (q : List QueuedWish) → q ≡ due_later t old.queue.held → CanBePut q (wishes_ran t p.acts.items)
  can_taken q e =
      subst (λ (x : List QueuedWish). CanBePut x (wishes_ran t p.acts.items)) (sym e)
      (can_all (due_later t old.queue.held) t p.acts.items (later_each (IsMadeElsewhen t) t old.queue.held (made_before t old.last old.queue.held comes.after kept.waiting))
      (each_grouped old.«module».now (length old.design.init) t old.design.instances.items p.acts.items sound)
      (plan_rises (looked_at old t) t p (length old.design.init) kept.design.fits kept.fit plan))

  -- what is kept after the frame, where none ran away
  pub kept_frame : (new : SimState) (b l : List Bool) (q : List QueuedWish) (n : Noted) →
      new ≡ record old { bits = b; looked = l; last = Some t; states = new.states; queue = new.queue; noted = new.noted } →
      IsTaken old t p b l q n → p.runaway ≡ None → new.states.items ≡ states_after old.states.items p.acts.items → WerePut q (wishes_ran t p.acts.items) new.queue.held →
      HasLeft p.moves.items n new.noted → IsKept new
  kept_frame new b l q n e k r s put left =
      let is = old.design.instances.items in
      let a = old.«module».now in
      let w : length (looked_at old t).looked ≡ length old.design.init = as_wide in
      let itself : (u : Instant) (j : ℕ) → WakesItself old.states.items u j → instant_le t u ≡ true = λ u j h. comes.wakes u j ((kept.noted.wakes u j).1 h) in
      let wakes : Each (WakesAfter (Some t)) (states_after old.states.items p.acts.items) =
      after_wakes a (length old.design.init) (moment_in (looked_at old t) t) is old.states.items p.acts.items kept.fit itself
      (plan_instances (looked_at old t) t p (length old.design.init) kept.design.fits kept.fit plan r) sound in
      let noted : IsNotedFor a is old.design.signals.items (states_after old.states.items p.acts.items) new.noted =
      noted_after a is old.design.signals.items old.states.items old.probes.items old.noted n new.noted p.acts.items p.moves.items kept.noted kept.probes plan.moves k.entered left
      (plan_rises (looked_at old t) t p (length old.design.init) kept.design.fits kept.fit plan) in
      let held : EachWithin (length old.design.init) q = subst (EachWithin (length old.design.init)) (sym k.later) (later_within (length old.design.init) old.queue.held t kept.within) in
      let named : EachNames q = subst EachNames (sym k.later) (later_names old.queue.held t kept.names) in
      let waits : Each (IsWaiting (Some t)) q = subst (Each (IsWaiting (Some t))) (sym k.later) (later_waits t old.last old.queue.held comes.after kept.waiting) in
      let m : SimState = record old { bits = b; looked = l; last = Some t; states = new.states; queue = new.queue; noted = new.noted } in
      let f : IsKept m = record {
        design = kept.design;
        width = ap length k.bits ∙ length_values (entries old.queue.held) t 0 old.bits ∙ kept.width;
        same = k.looked ∙ sym k.bits;
        probes = kept.probes;
        probes_within = kept.probes_within;
        fit = subst (StatesFit a (length old.design.init) is) (sym s) (after_fit a (length old.design.init) t is old.states.items p.acts.items kept.fit sound);
        noted = subst (λ (zs : List InstState). IsNotedFor a is old.design.signals.items zs new.noted) (sym s) noted;
        within = put_within (length old.design.init) q (wishes_ran t p.acts.items) new.queue.held put held
            (each_wish (λ (w : Wish). BitsWithin (length old.design.init) w.bits) a (length old.design.init) t is p.acts.items (λ i d x y z. y) sound);
        names = put_names q (wishes_ran t p.acts.items) new.queue.held put named
            (each_wish (λ (w : Wish). w.bits ≢ []) a (length old.design.init) t is p.acts.items (λ i d x y z. filled_names d.1 x) sound);
        waiting = put_each (IsWaiting (Some t)) q (wishes_ran t p.acts.items) new.queue.held put waits
            (each_wish (λ (w : Wish). (key : ℕ) → IsWaiting (Some t) (record { key = key; wish = w })) a (length old.design.init) t is p.acts.items (λ i d x y z key. (le_self t, z)) sound);
        wakes = subst (Each (WakesAfter (Some t))) (sym s) wakes;
      } in
      subst IsKept (sym e) f

  -- in a world that the machine stands for
  module _ (w : World) (h : StandsFor (simulation_of old false) w) where
    module _ (b : List Bool) (bits : b ≡ bits_then old.queue.held t old.bits) (values : AreBitsAt old.queue.held old.bits t b) where
      now_is : bits_at w.history w.init t ≡ bits_then old.queue.held t old.bits
      now_is = sym (bits_are old t w comes h b values) ∙ bits

      known : InstancesAreKnown old.«module».now (length old.design.init) old.design.instances.items old.states.items w.states
      known = record { arena = kept.design.arena; instances = kept.design.fits; fit = kept.fit; stand = h.states }

      abbrev moment : Moment
      moment = moment_in (looked_at old t) t

      acts_are : acts_in (simulation_of old false) w t ≡ defined_acts old.«module».now moment old.design.instances.items w.states
      unfolding acts_at
      acts_are = ap (λ (m : Moment). defined_acts old.«module».now m old.design.instances.items w.states) (moment_is old t w comes h b bits values)

      changes_are : map showing_of p.frame.changes ≡ changes_by (values_before (design_text old.«module».now old.design) w)
          (signal_values (map signal_text old.design.signals.items) (bits_at w.history w.init t))
      changes_are =
          let signals = map signal_text old.design.signals.items in
          let now = bits_then old.queue.held t old.bits in
          plan.changes
          ∙ ap (λ (o : Option Instant). changes_by (option_map (λ u. signal_values signals old.bits) o) (signal_values signals now)) (sym h.last)
          ∙ ap (λ (x : List Bool). changes_by (option_map (λ u. signal_values signals x) w.last) (signal_values signals now)) (sym h.bits)
          ∙ ap (λ (x : List Bool). changes_by (option_map (λ u. signal_values signals (bits_of w)) w.last) (signal_values signals x)) (sym now_is)

      outcomes_are : p.frame.outcomes ≡ outcomes_of 0 (acts_in (simulation_of old false) w t)
      outcomes_are =
          plan.outcomes
          ∙ outcomes_same old.«module».now (length old.design.init) old.design.instances.items old.states.items w.states moment known p.acts.items p.runaway (plan.ran w.states h.states)
          ∙ ap (outcomes_of 0) (sym acts_are)

      same_picture : (t u : Instant) (xs ys : List Showing) (os zs : List Outcome) → t ≡ u → xs ≡ ys → os ≡ zs →
          ◌≡◌ {A = Picture} (record { at = t; changes = xs; outcomes = os }) (record { at = u; changes = ys; outcomes = zs })
      same_picture t u xs ys os zs e f g = cc

      shows_it : picture p.frame ≡ shows_at (simulation_of old false) w t
      shows_it = same_picture p.frame.at t _ _ p.frame.outcomes (outcomes_of 0 (acts_in (simulation_of old false) w t)) plan.at changes_are outcomes_are

      ends_it : least_runaway 0 (acts_in (simulation_of old false) w t) ≡ p.runaway
      ends_it =
          ap (least_runaway 0) acts_are
          ∙ runaway_same old.«module».now (length old.design.init) old.design.instances.items old.states.items w.states moment known p.acts.items p.runaway (plan.ran w.states h.states)

      ran_all : p.runaway ≡ None → AllRan old.«module».now (bits_then old.queue.held t old.bits) t old.design.instances.items w.states (awake_in (looked_at old t) t) p.acts.items None
      ran_all r = subst (λ (o : Option ℕ). AllRan old.«module».now (bits_then old.queue.held t old.bits) t old.design.instances.items w.states
          (awake_in (looked_at old t) t) p.acts.items o) r (plan.ran w.states h.states)

      claims_are : p.runaway ≡ None → claims (w.history ++ made_by t 0 (acts_in (simulation_of old false) w t)) ≡ claims w.history ++ entries_put (wishes_ran t p.acts.items)
      claims_are r =
          histories_join w.history (made_by t 0 (acts_in (simulation_of old false) w t))
          ∙ ap (λ (cs : List Claim). claims w.history ++ cs)
          (ap (λ (xs : List Act). claims (made_by t 0 xs)) acts_are
          ∙ claims_ran old.«module».now (length old.design.init) old.design.instances.items old.states.items w.states moment known p.acts.items (ran_all r)
          ∙ sym (entries_same t p.acts.items))

      stands_after : (new : SimState) (l : List Bool) (q : List QueuedWish) (n : Noted) →
          new ≡ record old { bits = b; looked = l; last = Some t; states = new.states; queue = new.queue; noted = new.noted } →
          IsTaken old t p b l q n → p.runaway ≡ None → new.states.items ≡ states_after old.states.items p.acts.items → WerePut q (wishes_ran t p.acts.items) new.queue.held →
          StandsFor (simulation_of new false) (world_then (simulation_of old false) w t)
      stands_after new l q n e k r s put =
          let a = old.«module».now in
          let is = old.design.instances.items in
          let m : SimState = record old { bits = b; looked = l; last = Some t; states = new.states; queue = new.queue; noted = new.noted } in
          let held : HoldsFor q (claims w.history) (Some t) = k.holds (claims w.history) w.last h.wishes (from_last old t w comes h) in
          let later : Each (λ (v : Wish). IsAfter (Some t) v.due) (wishes_ran t p.acts.items) =
          each_wish (λ (v : Wish). IsAfter (Some t) v.due) a (length old.design.init) t is p.acts.items (λ i d x y z. z) sound in
          let more : HoldsFor new.queue.held (claims w.history ++ entries_put (wishes_ran t p.acts.items)) (Some t) =
          put_holds q (wishes_ran t p.acts.items) new.queue.held (claims w.history) (Some t) put held later in
          let stand : StatesStand a is (states_after old.states.items p.acts.items) (afters (defined_acts a moment is w.states)) =
          afters_stand a (length old.design.init) is old.states.items w.states moment known p.acts.items (ran_all r) in
          let f : StandsFor (simulation_of m false) (world_then (simulation_of old false) w t) = record {
            goes_on = refl;
            init = h.init;
            last = refl;
            bits = bits_stay_law 1000000 (contents a) (design_text a old.design) w t ∙ sym (bits_are old t w comes h b values);
            wishes = subst (λ (cs : List Claim). HoldsFor new.queue.held cs (Some t)) (sym (claims_are r)) more;
            states = subst (λ (zs : List InstState). StatesStand a is zs (afters (acts_in (simulation_of old false) w t))) (sym s)
                (subst (λ (xs : List Act). StatesStand a is (states_after old.states.items p.acts.items) (afters xs)) (sym acts_are) stand);
          } in
          subst (λ (x : SimState). StandsFor (simulation_of x false) (world_then (simulation_of old false) w t)) (sym e) f

  -- it is the frame that each such world has next
  pub frame_goes_on : (new : SimState) (b l : List Bool) (q : List QueuedWish) (n : Noted) →
      new ≡ record old { bits = b; looked = l; last = Some t; states = new.states; queue = new.queue; noted = new.noted } →
      IsTaken old t p b l q n → p.runaway ≡ None → new.states.items ≡ states_after old.states.items p.acts.items → WerePut q (wishes_ran t p.acts.items) new.queue.held → IsFrame old new t p.frame None
  frame_goes_on new b l q n e k r s put = record {
    at = plan.at;
    shows = λ w h. shows_it w h b k.bits k.values;
    ends = λ w h. ends_it w h b k.bits k.values ∙ r;
    bits = λ w h. ap (λ (m : SimState). m.bits) e ∙ bits_are old t w comes h b k.values;
    goes_on = λ x w h. stands_after w h b k.bits k.values new l q n e k r s put;
  }

  pub frame_ends : (new : SimState) (b l : List Bool) (q : List QueuedWish) (n : Noted) (i : ℕ) → new.bits ≡ b → IsTaken old t p b l q n → p.runaway ≡ Some i → IsFrame old new t p.frame (Some i)
  frame_ends new b l q n i e k r = record {
    at = plan.at;
    shows = λ w h. shows_it w h b k.bits k.values;
    ends = λ w h. ends_it w h b k.bits k.values ∙ r;
    bits = λ w h. e ∙ bits_are old t w comes h b k.values;
    goes_on = λ x. absurd (clash x);
  }
    where
      clash : Some i ≡ None → ⊥
      clash z = cc

-- what was entered is taken back
pub back_same : (old : SimState) (t : Instant) (p : FramePlan) (b l : List Bool) (q : List QueuedWish) (n new : Noted) (ms : List Move) → IsKept old → IsTaken old t p b l q n → ms ≡ p.moves.items →
    ((before : Noted) → AreFresh ms before → HasEntered ms before n → IsSameNoted before new) → IsSameNoted old.noted new
back_same old t p b l q n new ms kept k e f =
    let fresh : AreFresh p.moves.items old.noted =
    fresh_moves old.«module».now old.design.instances.items old.design.signals.items old.states.items old.probes.items old.noted p.acts.items p.moves.items kept.noted kept.probes k.plan.moves in
    f old.noted (subst (λ (xs : List Move). AreFresh xs old.noted) (sym e) fresh) (subst (λ (xs : List Move). HasEntered xs old.noted n) (sym e) k.entered)

-- what is noted is the same
same_noted : (a : Arena) (is : List Instance) (signals : List Signal) (ss : List InstState) (n m : Noted) → IsNotedFor a is signals ss n → IsSameNoted n m → IsNotedFor a is signals ss m
same_noted a is signals ss n m h s = record {
  long = s.long ∙ h.long;
  senses = λ i k. (λ x. (h.senses i k).0 ((s.senses i k).0 x), λ x. (s.senses i k).1 ((h.senses i k).1 x));
  wakes = λ u k. (λ x. (h.wakes u k).0 ((s.wakes u k).0 x), λ x. (s.wakes u k).1 ((h.wakes u k).1 x));
}

-- where an instance ran away, what is kept is kept on
pub kept_runaway : (old new : SimState) (t : Instant) (p : FramePlan) (b l : List Bool) (q : List QueuedWish) (n : Noted) → IsKept old →
    new ≡ record old { bits = b; looked = l; queue = new.queue; noted = new.noted } →
    IsTaken old t p b l q n → new.queue.held ≡ q → IsSameNoted old.noted new.noted → IsKept new
kept_runaway old new t p b l q n kept e k held s =
    let eq : new.queue.held ≡ due_later t old.queue.held = held ∙ k.later in
    let m : SimState = record old { bits = b; looked = l; queue = new.queue; noted = new.noted } in
    let f : IsKept m = record {
      design = kept.design;
      width = ap length k.bits ∙ length_values (entries old.queue.held) t 0 old.bits ∙ kept.width;
      same = k.looked ∙ sym k.bits;
      probes = kept.probes;
      probes_within = kept.probes_within;
      fit = kept.fit;
      noted = same_noted old.«module».now old.design.instances.items old.design.signals.items old.states.items old.noted new.noted kept.noted s;
      within = subst (EachWithin (length old.design.init)) (sym eq) (later_within (length old.design.init) old.queue.held t kept.within);
      names = subst EachNames (sym eq) (later_names old.queue.held t kept.names);
      waiting = subst (Each (IsWaiting old.last)) (sym eq) (later_each (IsWaiting old.last) t old.queue.held kept.waiting);
      wakes = kept.wakes;
    } in
    subst IsKept (sym e) f

-- when memory runs out all is kept as it was
pub kept_same : (old new : SimState) → IsKept old → new ≡ record old { looked = new.looked; queue = new.queue; noted = new.noted } → new.looked ≡ old.bits → new.queue.held ≡ old.queue.held →
    IsSameNoted old.noted new.noted → IsKept new
kept_same old new kept e l eq s =
    let m : SimState = record old { looked = new.looked; queue = new.queue; noted = new.noted } in
    let f : IsKept m = record {
      design = kept.design;
      width = kept.width;
      same = l;
      probes = kept.probes;
      probes_within = kept.probes_within;
      fit = kept.fit;
      noted = same_noted old.«module».now old.design.instances.items old.design.signals.items old.states.items old.noted new.noted kept.noted s;
      within = subst (EachWithin (length old.design.init)) (sym eq) kept.within;
      names = subst EachNames (sym eq) kept.names;
      waiting = subst (Each (IsWaiting old.last)) (sym eq) kept.waiting;
      wakes = kept.wakes;
    } in
    subst IsKept (sym e) f
