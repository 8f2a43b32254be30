-- The acts of a frame, as the definition has them, by what the code ran.
use Rattle.std.proofs.Common.{◌≡◌, ℕ, suc, ◌+◌, ◌<◌, List, [], ◌∷◌, ◌++◌, map, length, Bool, true, false, if◌then◌else◌, Option, Some, None, slice_get, slice_set, refl, ap, sym, ◌∙◌, subst, inl, inr, append_assoc, add-zero, zero-add, length-append, arith}
use Rattle.std.proofs.lemmas.Option.{same_Some}
use Rattle.std.proofs.Math.Seq.{set-append_seam}
use Rattle.lh_time.specs.declared.Instant.{Instant}
use Rattle.lh_types.specs.declared.frame.Outcome.{Outcome}
use Rattle.lh_types.specs.History.{Claim, claims_of, claims, kept}
use Rattle.lh_history_laws.specs.Frames.{due_entries}
use Rattle.lh_history_laws.proofs.Frames.{wishes_split, histories_join, claims-kept}
use Rattle.lh_unit.specs.Arena.{Arena, IsArena, contents, unit_name_at, unit_text_at}
use Rattle.lh_unit.specs.Within.{Each}
use Rattle.lh_unit.specs.Contents.{UnitText}
use Rattle.lh_unit.specs.declared.inst.UnitKind.TheVariants as kind
use Rattle.lh_unit.specs.World.{State, Moment, Act, rules_of, wakes, woken, if_woken, act, acts_from, unit_of, made_by, afters, wake_of}
use Rattle.lh_unit.specs.Trace.{least_runaway, outcomes_of}
use Rattle.lh_unit.specs.Frames.{woken_from}
use Rattle.lh_eval.specs.declared.instance.Instance.{Instance}
use Rattle.lh_design.specs.Texts.{instance_text}
use Rattle.lh_kernel_wakes.specs.Rising.{IsRising, AreAbove}
use Rattle.lh_elab.specs.Answer.{InstanceIs}
use Rattle.lh_kernel_states.specs.declared.state.InstState.{InstState}
use Rattle.lh_elab.specs.Probed.{probed_by}
use Rattle.lh_kernel_states.specs.States.{StateIs, StateFits, parts_sensed}
use Rattle.lh_kernel_states.specs.Runs.{ActIs}
use Rattle.lh_kernel_states.proofs.InstanceStates.{senses-alike, wakes-alike, unit-is_named}
use Rattle.lh_kernel.specs.declared.run.Activation.{Activation}
use Rattle.lh_kernel.specs.States.{StatesStand, StatesFit}
use Rattle.lh_kernel.specs.Woken.{awakes, awake_from}
use Rattle.lh_kernel.specs.Ran.{done_by, DoesSo, AllRan, outcomes_by, outcomes_ran, states_after}

-- what is known of the instances of a design and of what is kept of them
pub record InstancesAreKnown (a : Arena) (width : ℕ) (is : List Instance) (ss : List InstState) (ps : List State) : Type 0 where
  pub arena : IsArena a
  pub instances : Each (InstanceIs a width) is
  pub fit : StatesFit a width is ss
  pub stand : StatesStand a is ss ps

-- what the instances do by the definition
abbrev pub defined_acts : Arena → Moment → List Instance → List State → List Act
defined_acts a m is ps = acts_from (rules_of 1000000 (contents a)) (contents a) m (map (instance_text a) is) ps

-- the entries of what activations wish
abbrev pub entries_ran : Instant → List Activation → List Claim
entries_ran t [] = []
entries_ran t (x ∷ xs) = due_entries t x.instance x.act.wishes ++ entries_ran t xs

-- ---- units by their names

-- the units of the instances by their names are those by their ids
abbrev AreNamed : Arena → List Instance → Type 0
AreNamed a is = Each (λ (i : Instance). unit_of (contents a) (unit_name_at a i.unit.0) ≡ unit_text_at a i.unit.0) is

pub is-named : (a : Arena) (width : ℕ) (i : Instance) → IsArena a → InstanceIs a width i → unit_of (contents a) (unit_name_at a i.unit.0) ≡ unit_text_at a i.unit.0
is-named a width i o h = elim h.kind [ inl e ↦ unit-is_named a i.unit.0 o h.unit kind.Proc e | inr e ↦ unit-is_named a i.unit.0 o h.unit kind.Entity e ]

are-named : (a : Arena) (width : ℕ) (is : List Instance) → IsArena a → Each (InstanceIs a width) is → AreNamed a is
are-named a width [] o h = tt
are-named a width (i ∷ is) o h = (is-named a width i o h.0, are-named a width is o h.1)

-- ---- who is woken

awakes-same : (a : Arena) (width : ℕ) (i : Instance) (s : InstState) (p : State) (m : Moment) → StateFits a width i s → StateIs a i s p →
    woken m (unit_text_at a i.unit.0) (instance_text a i) p ≡ awakes a m i s
awakes-same a width i s p m f k =
    ap (λ rs. wakes m rs (wake_of p)) (sym (senses-alike a width i s p f k)) ∙ ap (wakes m (parts_sensed s (probed_by a i))) (sym (wakes-alike a i s p k))

-- ---- what each instance does, woken or not

-- an instance in a frame: its state, whether it is woken, and what it does where it is
record Task : Type 0 where
  instance : Instance
  state : State
  is_woken : Bool
  does : Act

abbrev tasks : Arena → Moment → List Instance → List State → List Task
tasks a m [] ps = []
tasks a m (i ∷ is) [] = []
tasks a m (i ∷ is) (p ∷ ps) =
    record { instance = i; state = p; is_woken = woken m (unit_text_at a i.unit.0) (instance_text a i) p; does = done_by a m.now m.at i p } ∷ tasks a m is ps

abbrev task_act : Task → Act
task_act x = if_woken x.is_woken x.does x.state

abbrev numbers_of : ℕ → List Task → List ℕ
numbers_of k [] = []
numbers_of k (x ∷ xs) = if x.is_woken then k ∷ numbers_of (k + 1) xs else numbers_of (k + 1) xs

acts-tasks : (a : Arena) (m : Moment) (is : List Instance) (ps : List State) → AreNamed a is → defined_acts a m is ps ≡ map task_act (tasks a m is ps)
acts-tasks a m [] ps n = refl
acts-tasks a m (i ∷ is) [] n = refl
acts-tasks a m (i ∷ is) (p ∷ ps) n =
    let r = rules_of 1000000 (contents a) in
    let x = instance_text a i in
    ap (λ (v : UnitText). act r m v x p ∷ defined_acts a m is ps) n.0 ∙ ap (λ (ds : List Act). act r m (unit_text_at a i.unit.0) x p ∷ ds) (acts-tasks a m is ps n.1)

numbers-tasks : (k : ℕ) (a : Arena) (m : Moment) (is : List Instance) (ps : List State) → AreNamed a is → woken_from k (contents a) m (map (instance_text a) is) ps ≡ numbers_of k (tasks a m is ps)
numbers-tasks k a m [] ps n = refl
numbers-tasks k a m (i ∷ is) [] n = refl
numbers-tasks k a m (i ∷ is) (p ∷ ps) n =
    let x = instance_text a i in
    let u = unit_text_at a i.unit.0 in
    let rest = woken_from (k + 1) (contents a) m (map (instance_text a) is) ps in
    ap (λ (v : UnitText). if woken m v x p then k ∷ rest else rest) n.0 ∙ ap (λ (ks : List ℕ). if woken m u x p then k ∷ ks else ks) (numbers-tasks (k + 1) a m is ps n.1)

awake-tasks : (k : ℕ) (a : Arena) (width : ℕ) (m : Moment) (is : List Instance) (ss : List InstState) (ps : List State) → StatesFit a width is ss →
    StatesStand a is ss ps → awake_from k a m is ss ≡ numbers_of k (tasks a m is ps)
awake-tasks k a width m [] ss ps f h = refl
awake-tasks k a width m (i ∷ is) [] ps f h = absurd f
awake-tasks k a width m (i ∷ is) (s ∷ ss) [] f h = absurd h
awake-tasks k a width m (i ∷ is) (s ∷ ss) (p ∷ ps) f h =
    ap (λ (ks : List ℕ). if awakes a m i s then k ∷ ks else ks) (awake-tasks (k + 1) a width m is ss ps f.1 h.1)
    ∙ ap (λ (b : Bool). if b then k ∷ numbers_of (k + 1) (tasks a m is ps) else numbers_of (k + 1) (tasks a m is ps)) (sym (awakes-same a width i s p m f.0 h.0))

-- the instances that wake by what is kept of them are those that are woken
pub woken_same : (a : Arena) (width : ℕ) (is : List Instance) (ss : List InstState) (ps : List State) (m : Moment) →
    InstancesAreKnown a width is ss ps → woken_from 0 (contents a) m (map (instance_text a) is) ps ≡ awake_from 0 a m is ss
woken_same a width is ss ps m h = numbers-tasks 0 a m is ps (are-named a width is h.arena h.instances) ∙ sym (awake-tasks 0 a width m is ss ps h.fit h.stand)

-- the first instance of a list did this: it rests, it ran away and ends the list, or it did what the definition has it do
abbrev DidFirst : Arena → (is_woken : Bool) → (k : ℕ) → Instance → Act → List Activation → Option ℕ → (rest : List Activation → Option ℕ → Type 0) → Type 0
DidFirst a false k i d xs r rest = rest xs r
DidFirst a true k i d [] None rest = ⊥
DidFirst a true k i d [] (Some j) rest = (j ≡ k) × (d.ran_away ≡ true)
DidFirst a true k i d (x ∷ xs) r rest = (x.instance ≡ k) × ActIs a i x.act d × rest xs r

-- instances in a row, the first of this number, did this in turn
abbrev Did : Arena → List Task → (k : ℕ) → List Activation → Option ℕ → Type 0
Did a [] k [] None = Unit {0}
Did a [] k _ _ = ⊥
Did a (x ∷ ts) k xs r = DidFirst a x.is_woken k x.instance x.does xs r (Did a ts (k + 1))

-- the rows of instances and states from a number on
record From (is₀ is : List Instance) (ps₀ ps : List State) (k : ℕ) : Type 0 where
  instances : (j : ℕ) → slice_get is₀ (k + j) ≡ slice_get is j
  states : (j : ℕ) → slice_get ps₀ (k + j) ≡ slice_get ps j

next-place : (k j : ℕ) → k + 1 + j ≡ k + suc j
next-place k j = omega arith

from-next : (is₀ is : List Instance) (ps₀ ps : List State) (k : ℕ) (i : Instance) (p : State) → From is₀ (i ∷ is) ps₀ (p ∷ ps) k → From is₀ is ps₀ ps (k + 1)
from-next is₀ is ps₀ ps k i p h = record {
  instances = λ j. ap (slice_get is₀) (next-place k j) ∙ h.instances (suc j);
  states = λ j. ap (slice_get ps₀) (next-place k j) ∙ h.states (suc j);
}

here-instance : (is₀ is : List Instance) (ps₀ ps : List State) (k : ℕ) (i : Instance) (p : State) → From is₀ (i ∷ is) ps₀ (p ∷ ps) k → (j : Instance) → slice_get is₀ k ≡ Some j → j ≡ i
here-instance is₀ is ps₀ ps k i p h j e = same_Some j i (sym e ∙ ap (slice_get is₀) (sym (add-zero k)) ∙ h.instances 0)

here-state : (is₀ is : List Instance) (ps₀ ps : List State) (k : ℕ) (i : Instance) (p : State) → From is₀ (i ∷ is) ps₀ (p ∷ ps) k → (q : State) → slice_get ps₀ k ≡ Some q → q ≡ p
here-state is₀ is ps₀ ps k i p h q e = same_Some q p (sym e ∙ ap (slice_get ps₀) (sym (add-zero k)) ∙ h.states 0)

does-here : (a : Arena) (now : List Bool) (t : Instant) (is₀ is : List Instance) (ps₀ ps : List State) (k : ℕ) (i : Instance) (p : State) (P : Instance → Act → Type 0) →
    From is₀ (i ∷ is) ps₀ (p ∷ ps) k → DoesSo a now t is₀ ps₀ k P → P i (done_by a now t i p)
does-here a now t is₀ is ps₀ ps k i p P h d =
    let e = here-instance is₀ is ps₀ ps k i p h d.instance d.is in
    let f = here-state is₀ is ps₀ ps k i p h d.state d.stands in
    subst (λ (j : Instance). P j (done_by a now t j p)) e (subst (λ (q : State). P d.instance (done_by a now t d.instance q)) f d.does)

did-by : (a : Arena) (m : Moment) (is₀ is : List Instance) (ps₀ ps : List State) (k : ℕ) (xs : List Activation) (r : Option ℕ) → From is₀ is ps₀ ps k →
    AllRan a m.now m.at is₀ ps₀ (numbers_of k (tasks a m is ps)) xs r → Did a (tasks a m is ps) k xs r
did-by a m is₀ [] ps₀ ps k [] None h q = tt
did-by a m is₀ [] ps₀ ps k [] (Some j) h q = absurd q
did-by a m is₀ [] ps₀ ps k (x ∷ xs) r h q = absurd q
did-by a m is₀ (i ∷ is) ps₀ [] k [] None h q = tt
did-by a m is₀ (i ∷ is) ps₀ [] k [] (Some j) h q = absurd q
did-by a m is₀ (i ∷ is) ps₀ [] k (x ∷ xs) r h q = absurd q
did-by a m is₀ (i ∷ is) ps₀ (p ∷ ps) k xs r h q =
    by (woken m (unit_text_at a i.unit.0) (instance_text a i) p) xs r q (λ ys s. did-by a m is₀ is ps₀ ps (k + 1) ys s (from-next is₀ is ps₀ ps k i p h))
  where
    by : (b : Bool) (xs : List Activation) (r : Option ℕ) → AllRan a m.now m.at is₀ ps₀ (if b then k ∷ numbers_of (k + 1) (tasks a m is ps) else numbers_of (k + 1) (tasks a m is ps)) xs r →
        ((ys : List Activation) (s : Option ℕ) → AllRan a m.now m.at is₀ ps₀ (numbers_of (k + 1) (tasks a m is ps)) ys s → Did a (tasks a m is ps) (k + 1) ys s) →
        DidFirst a b k i (done_by a m.now m.at i p) xs r (Did a (tasks a m is ps) (k + 1))
    by false xs r q ih = ih xs r q
    by true [] None q ih = absurd q
    by true [] (Some j) q ih = (q.0, does-here a m.now m.at is₀ is ps₀ ps k i p (λ _ d. d.ran_away ≡ true) h q.1)
    by true (x ∷ xs) r q ih = (q.0, does-here a m.now m.at is₀ is ps₀ ps k i p (λ j d. ActIs a j x.act d) h q.1, ih xs r q.2)

-- ---- the least that ran away, and the outcomes

runaway-of : (a : Arena) (ts : List Task) (k : ℕ) (xs : List Activation) (r : Option ℕ) → Did a ts k xs r → least_runaway k (map task_act ts) ≡ r
runaway-of a [] k [] None h = refl
runaway-of a [] k [] (Some j) h = absurd h
runaway-of a [] k (x ∷ xs) r h = absurd h
runaway-of a (y ∷ ts) k xs r h = by y.is_woken xs r h (runaway-of a ts (k + 1))
  where
    by : (b : Bool) (xs : List Activation) (r : Option ℕ) → DidFirst a b k y.instance y.does xs r (Did a ts (k + 1)) →
        ((xs : List Activation) (r : Option ℕ) → Did a ts (k + 1) xs r → least_runaway (k + 1) (map task_act ts) ≡ r) → least_runaway k (if_woken b y.does y.state ∷ map task_act ts) ≡ r
    by false xs r h ih = ih xs r h
    by true [] None h ih = absurd h
    by true [] (Some j) h ih = ap (λ b. if b then Some k else least_runaway (k + 1) (map task_act ts)) h.1 ∙ ap (λ n. Some n) (sym h.0)
    by true (x ∷ xs) r h ih = ap (λ b. if b then Some k else least_runaway (k + 1) (map task_act ts)) h.1.ends ∙ ih xs r h.2

outcomes_at : ℕ → List Bool → List Outcome
outcomes_at k bs = map (λ passed. record { instance = k; passed = passed }) bs

same-outcomes : (a : Arena) (i : Instance) (k : ℕ) (x : Activation) (d : Act) → x.instance ≡ k → ActIs a i x.act d → outcomes_by x ≡ outcomes_at k d.outcomes
unfolding outcomes_at
same-outcomes a i k x d e h = ap (λ n. outcomes_at n x.act.outcomes) e ∙ ap (outcomes_at k) h.outcomes

outcomes-of : (a : Arena) (ts : List Task) (k : ℕ) (xs : List Activation) (r : Option ℕ) → Did a ts k xs r → outcomes_ran xs ≡ outcomes_of k (map task_act ts)
unfolding outcomes_at
outcomes-of a [] k [] None h = refl
outcomes-of a [] k [] (Some j) h = absurd h
outcomes-of a [] k (x ∷ xs) r h = absurd h
outcomes-of a (y ∷ ts) k xs r h = by y.is_woken xs r h (outcomes-of a ts (k + 1))
  where
    by : (b : Bool) (xs : List Activation) (r : Option ℕ) → DidFirst a b k y.instance y.does xs r (Did a ts (k + 1)) →
        ((xs : List Activation) (r : Option ℕ) → Did a ts (k + 1) xs r → outcomes_ran xs ≡ outcomes_of (k + 1) (map task_act ts)) →
        outcomes_ran xs ≡ outcomes_of k (if_woken b y.does y.state ∷ map task_act ts)
    by false xs r h ih = ih xs r h
    by true [] None h ih = absurd h
    by true [] (Some j) h ih = sym (ap (λ b. if b then [] else outcomes_at k y.does.outcomes ++ outcomes_of (k + 1) (map task_act ts)) h.1)
    by true (x ∷ xs) r h ih =
        ap (λ os. os ++ outcomes_ran xs) (same-outcomes a y.instance k x y.does h.0 h.1)
        ∙ ap (λ os. outcomes_at k y.does.outcomes ++ os) (ih xs r h.2)
        ∙ sym (ap (λ b. if b then [] else outcomes_at k y.does.outcomes ++ outcomes_of (k + 1) (map task_act ts)) h.1.ends)

-- ---- the states that follow, and the entries that are added

one_more : (pre : List InstState) (s : InstState) (k : ℕ) → length pre ≡ k → length (pre ++ s ∷ []) ≡ k + 1
one_more pre s k e = length-append pre (s ∷ []) ∙ ap (λ n. n + 1) e

-- the states of the instances from a number on, after those before them
record AreLeft (a : Arena) (is : List Instance) (pre : List InstState) (after : List InstState) (ps : List State) : Type 0 where
  left : List InstState
  same : after ≡ pre ++ left
  stand : StatesStand a is left ps

left-more : (a : Arena) (i : Instance) (is : List Instance) (pre : List InstState) (s : InstState) (after : List InstState) (p : State)
    (ps : List State) → StateIs a i s p → AreLeft a is (pre ++ s ∷ []) after ps → AreLeft a (i ∷ is) pre after (p ∷ ps)
left-more a i is pre s after p ps k h = record { left = s ∷ h.left; same = h.same ∙ append_assoc pre (s ∷ []) h.left; stand = (k, h.stand) }

set-here : (pre : List InstState) (s v : InstState) (ss : List InstState) (k n : ℕ) → length pre ≡ k → n ≡ k → slice_set (pre ++ s ∷ ss) n v ≡ (pre ++ v ∷ []) ++ ss
set-here pre s v ss k n e f = ap (λ m. slice_set (pre ++ s ∷ ss) m v) (f ∙ sym e) ∙ set-append_seam pre s ss v ∙ sym (append_assoc pre (v ∷ []) ss)

left-after : (a : Arena) (ts : List Task) (k : ℕ) (xs : List Activation) (pre ss : List InstState) → length pre ≡ k →
    StatesStand a (map (λ (x : Task). x.instance) ts) ss (map (λ (x : Task). x.state) ts) →
    Did a ts k xs None → AreLeft a (map (λ (x : Task). x.instance) ts) pre (states_after (pre ++ ss) xs) (afters (map task_act ts))
left-after a [] k [] pre ss l q h = record { left = ss; same = refl; stand = q }
left-after a [] k (x ∷ xs) pre ss l q h = absurd h
left-after a (y ∷ ts) k xs pre [] l q h = absurd q
left-after a (y ∷ ts) k xs pre (s ∷ ss) l q h = by y.is_woken xs h (λ ys v. left-after a ts (k + 1) ys (pre ++ v ∷ []) ss (one_more pre v k l) q.1)
  where
    by : (b : Bool) (xs : List Activation) → DidFirst a b k y.instance y.does xs None (Did a ts (k + 1)) →
        ((ys : List Activation) (v : InstState) → Did a ts (k + 1) ys None →
        AreLeft a (map (λ (x : Task). x.instance) ts) (pre ++ v ∷ []) (states_after ((pre ++ v ∷ []) ++ ss) ys) (afters (map task_act ts))) →
        AreLeft a (y.instance ∷ map (λ (x : Task). x.instance) ts) pre (states_after (pre ++ s ∷ ss) xs) ((if_woken b y.does y.state).after ∷ afters (map task_act ts))
    by false xs h ih = left-more a y.instance (map (λ (x : Task). x.instance) ts) pre s (states_after (pre ++ s ∷ ss) xs) y.state (afters (map task_act ts)) q.0
        (subst (λ (all : List InstState). AreLeft a (map (λ (x : Task). x.instance) ts) (pre ++ s ∷ []) (states_after all xs) (afters (map task_act ts))) (append_assoc pre (s ∷ []) ss) (ih xs s h))
    by true [] h ih = absurd h
    by true (x ∷ xs) h ih = left-more a y.instance (map (λ (x : Task). x.instance) ts) pre x.act.next
        (states_after (slice_set (pre ++ s ∷ ss) x.instance x.act.next) xs) y.does.after (afters (map task_act ts)) h.1.next
        (subst (λ (all : List InstState). AreLeft a (map (λ (x : Task). x.instance) ts) (pre ++ x.act.next ∷ []) (states_after all xs)
        (afters (map task_act ts))) (sym (set-here pre s x.act.next ss k x.instance l h.0)) (ih xs x.act.next h.2))

claims-first : (a : Arena) (t : Instant) (i : Instance) (k : ℕ) (x : Activation) (d : Act) → x.instance ≡ k → ActIs a i x.act d → claims (kept t k d.wish) ≡ due_entries t x.instance x.act.wishes
claims-first a t i k x d e h =
    claims-kept t k d.wish ∙ ap (claims_of t k) (sym h.wish) ∙ wishes_split t k x.act.wishes ∙ ap (λ n. due_entries t n x.act.wishes) (sym e)

claims-of : (a : Arena) (t : Instant) (ts : List Task) (k : ℕ) (xs : List Activation) → Did a ts k xs None → claims (made_by t k (map task_act ts)) ≡ entries_ran t xs
claims-of a t [] k [] h = refl
claims-of a t [] k (x ∷ xs) h = absurd h
claims-of a t (y ∷ ts) k xs h = by y.is_woken xs h (claims-of a t ts (k + 1))
  where
    by : (b : Bool) (xs : List Activation) → DidFirst a b k y.instance y.does xs None (Did a ts (k + 1)) →
        ((xs : List Activation) → Did a ts (k + 1) xs None → claims (made_by t (k + 1) (map task_act ts)) ≡ entries_ran t xs) →
        claims (made_by t k (if_woken b y.does y.state ∷ map task_act ts)) ≡ entries_ran t xs
    by false xs h ih = ih xs h
    by true [] h ih = absurd h
    by true (x ∷ xs) h ih =
        histories_join (kept t k y.does.wish) (made_by t (k + 1) (map task_act ts))
        ∙ ap (λ cs. cs ++ claims (made_by t (k + 1) (map task_act ts))) (claims-first a t y.instance k x y.does h.0 h.1)
        ∙ ap (λ cs. due_entries t x.instance x.act.wishes ++ cs) (ih xs h.2)

-- ---- the whole

instances-tasks : (a : Arena) (m : Moment) (is : List Instance) (ss : List InstState) (ps : List State) → StatesStand a is ss ps → map (λ (x : Task). x.instance) (tasks a m is ps) ≡ is
instances-tasks a m [] ss ps h = refl
instances-tasks a m (i ∷ is) [] ps h = absurd h
instances-tasks a m (i ∷ is) (s ∷ ss) [] h = absurd h
instances-tasks a m (i ∷ is) (s ∷ ss) (p ∷ ps) h = ap (λ js. i ∷ js) (instances-tasks a m is ss ps h.1)

states-tasks : (a : Arena) (m : Moment) (is : List Instance) (ss : List InstState) (ps : List State) → StatesStand a is ss ps → map (λ (x : Task). x.state) (tasks a m is ps) ≡ ps
states-tasks a m [] [] [] h = refl
states-tasks a m [] [] (p ∷ ps) h = absurd h
states-tasks a m [] (s ∷ ss) ps h = absurd h
states-tasks a m (i ∷ is) [] ps h = absurd h
states-tasks a m (i ∷ is) (s ∷ ss) [] h = absurd h
states-tasks a m (i ∷ is) (s ∷ ss) (p ∷ ps) h = ap (λ qs. p ∷ qs) (states-tasks a m is ss ps h.1)

module _ (a : Arena) (width : ℕ) (is : List Instance) (ss : List InstState) (ps : List State) (m : Moment) (known : InstancesAreKnown a width is ss ps) where
  -- those who wake at the moment did this in turn, up to the first that ran away
  abbrev TheyRan : List Activation → Option ℕ → Type 0
  TheyRan xs r = AllRan a m.now m.at is ps (awake_from 0 a m is ss) xs r

  are-tasks : defined_acts a m is ps ≡ map task_act (tasks a m is ps)
  are-tasks = acts-tasks a m is ps (are-named a width is known.arena known.instances)

  all-did : (xs : List Activation) (r : Option ℕ) → TheyRan xs r → Did a (tasks a m is ps) 0 xs r
  all-did xs r h =
      did-by a m is is ps ps 0 xs r
      (record { instances = λ j. ap (slice_get is) (zero-add j); states = λ j. ap (slice_get ps) (zero-add j) })
      (subst (λ (ks : List ℕ). AllRan a m.now m.at is ps ks xs r) (awake-tasks 0 a width m is ss ps known.fit known.stand) h)

  -- the least instance that ran away is the one at which the runs ended
  pub runaway_same : (xs : List Activation) (r : Option ℕ) → TheyRan xs r → least_runaway 0 (defined_acts a m is ps) ≡ r
  runaway_same xs r h = ap (least_runaway 0) are-tasks ∙ runaway-of a (tasks a m is ps) 0 xs r (all-did xs r h)

  -- the outcomes of the frame are those of what ran
  pub outcomes_same : (xs : List Activation) (r : Option ℕ) → TheyRan xs r → outcomes_ran xs ≡ outcomes_of 0 (defined_acts a m is ps)
  outcomes_same xs r h = outcomes-of a (tasks a m is ps) 0 xs r (all-did xs r h) ∙ sym (ap (outcomes_of 0) are-tasks)

  -- what is kept after the frame stands for the states after it
  pub afters_stand : (xs : List Activation) → TheyRan xs None → StatesStand a is (states_after ss xs) (afters (defined_acts a m is ps))
  afters_stand xs h =
      let ts = tasks a m is ps in
      let i = instances-tasks a m is ss ps known.stand in
      let p = states-tasks a m is ss ps known.stand in
      let q : StatesStand a (map (λ (x : Task). x.instance) ts) ss (map (λ (x : Task). x.state) ts) =
      subst (λ (js : List Instance). StatesStand a js ss (map (λ (x : Task). x.state) ts)) (sym i) (subst (λ (qs : List State). StatesStand a is ss qs) (sym p) known.stand) in
      let l = left-after a ts 0 xs [] ss refl q (all-did xs None h) in
      subst (λ (ds : List Act). StatesStand a is (states_after ss xs) (afters ds)) (sym are-tasks)
      (subst (λ (js : List Instance). StatesStand a js (states_after ss xs) (afters (map task_act ts))) i
      (subst (λ (new : List InstState). StatesStand a (map (λ (x : Task). x.instance) ts) new (afters (map task_act ts))) (sym l.same) l.stand))

  -- the entries that the frame adds are those of what ran
  pub claims_ran : (xs : List Activation) → TheyRan xs None → claims (made_by m.at 0 (defined_acts a m is ps)) ≡ entries_ran m.at xs
  claims_ran xs h = ap (λ (ds : List Act). claims (made_by m.at 0 ds)) are-tasks ∙ claims-of a m.at (tasks a m is ps) 0 xs (all-did xs None h)

-- ---- the numbers of what ran

pub ran_instances : (a : Arena) (now : List Bool) (t : Instant) (is : List Instance) (ps : List State) (ks : List ℕ) (xs : List Activation) →
    AllRan a now t is ps ks xs None → map (λ (x : Activation). x.instance) xs ≡ ks
ran_instances a now t is ps [] [] h = refl
ran_instances a now t is ps [] (x ∷ xs) h = absurd h
ran_instances a now t is ps (k ∷ ks) [] h = absurd h
ran_instances a now t is ps (k ∷ ks) (x ∷ xs) h = ap (λ n. n ∷ map (λ (x : Activation). x.instance) xs) h.0 ∙ ap (λ ns. k ∷ ns) (ran_instances a now t is ps ks xs h.2)

ran-above : (a : Arena) (now : List Bool) (t : Instant) (is : List Instance) (ps : List State) (k : ℕ) (ks : List ℕ) (xs : List Activation)
    (r : Option ℕ) → AreAbove k ks → AllRan a now t is ps ks xs r → AreAbove k (map (λ (x : Activation). x.instance) xs)
ran-above a now t is ps k ks [] r u h = tt
ran-above a now t is ps k [] (x ∷ xs) r u h = absurd h
ran-above a now t is ps k (j ∷ ks) (x ∷ xs) r u h = (subst (λ n. k < n) (sym h.0) u.0, ran-above a now t is ps k ks xs r u.1 h.2)

pub ran_rise : (a : Arena) (now : List Bool) (t : Instant) (is : List Instance) (ps : List State) (ks : List ℕ) (xs : List Activation)
    (r : Option ℕ) → IsRising ks → AllRan a now t is ps ks xs r → IsRising (map (λ (x : Activation). x.instance) xs)
ran_rise a now t is ps ks [] r u h = tt
ran_rise a now t is ps [] (x ∷ xs) r u h = absurd h
ran_rise a now t is ps (k ∷ ks) (x ∷ xs) r u h =
    (subst (λ n. AreAbove n (map (λ (x : Activation). x.instance) xs)) (sym h.0) (ran-above a now t is ps k ks xs r u.0 h.2), ran_rise a now t is ps ks xs r u.1 h.2)
