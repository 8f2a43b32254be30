-- Two modules on one design whose instances are alike one by one run the same.
use Rattle.std.proofs.Common.{◌≡◌, ℕ, zero, suc, ◌+◌, List, [], ◌∷◌, ◌++◌, Bool, if◌then◌else◌, refl, ap, sym, ◌∙◌, Option, Some, None, append_assoc}
use Rattle.std.specs.Option.{option_map_or}
use Rattle.lh_time.specs.declared.Instant.{Instant}
use Rattle.lh_types.specs.Wish.{Wish}
use Rattle.lh_types.specs.History.{Made, Claim, claims, claims_of, is_due_by, greater, greatest_from, value_by, values_by, bits_at, sooner, soonest_due}
use Rattle.lh_history_laws.proofs.Claims.{AllLate, greatest_late}
use Rattle.lh_unit.specs.Contents.{ItemText}
use Rattle.lh_unit.specs.Hierarchy.{Instance}
use Rattle.lh_unit.specs.Design.{Design}
use Rattle.lh_unit.specs.World.{State, wake_of, Moment, Act, Rules, rules_of, unit_of, World, bits_before, moment_of, acts_from, acts_at, kept, made_by, afters, next_world, soonest_wake, instant_after, next_instant}
use Rattle.lh_unit.specs.Trace.{Run, least_runaway, outcomes_of, frame_of, goes_on, at_bound, run_at, run_from}
use Rattle.lh_trace_laws.specs.Replacing.{Answer}
use Rattle.lh_trace_laws.specs.Wishes.{IsLate}
use Rattle.lh_trace_laws.proofs.Late.{act_late}
use Rattle.lh_trace_laws.proofs.Simulation.{Matches, Alike, alike_keeps}

late_append : (t : Instant) (xs ys : List Claim) → AllLate t xs → AllLate t ys → AllLate t (xs ++ ys)
late_append t [] ys a b = b
late_append t (x ∷ xs) ys a b = (a.0, late_append t xs ys a.1 b)

claims_late : (t made : Instant) (i : ℕ) (w : Wish) → IsLate t w → AllLate t (claims_of made i w)
claims_late t made i [] a = tt
claims_late t made i (e ∷ more) a = (a.0, claims_late t made i more a.1)

kept_late : (t : Instant) (i : ℕ) (w : Wish) → IsLate t w → AllLate t (claims (kept t i w))
kept_late t i [] a = tt
kept_late t i (e ∷ more) a = late_append t (claims_of t i (e ∷ more)) [] (claims_late t t i (e ∷ more) a) tt

pub claims-append : (xs ys : List Made) → claims (xs ++ ys) ≡ claims xs ++ claims ys
claims-append [] ys = refl
claims-append (x ∷ xs) ys = ap (λ cs. claims_of x.made x.instance x.wish ++ cs) (claims-append xs ys) ∙ sym (append_assoc (claims_of x.made x.instance x.wish) (claims xs) (claims ys))

made_late : (r : Rules) (items : List ItemText) (f : Moment) (k : ℕ) (is : List Instance) (ss : List State) → AllLate f.at (claims (made_by f.at k (acts_from r items f is ss)))
made_late r items f k [] ss = tt
made_late r items f k (i ∷ is) [] = tt
made_late r items f k (i ∷ is) (s ∷ ss) =
    rw claims-append (late_append f.at _ _ (kept_late f.at k _ (act_late r f (unit_of items i.unit) i s)) (made_late r items f (k + 1) is ss))

greatest_append_late : (bit : ℕ) (t : Instant) (b : Option Claim) (cs fresh : List Claim) → AllLate t fresh → greatest_from bit t b (cs ++ fresh) ≡ greatest_from bit t b cs
greatest_append_late bit t b [] fresh a = greatest_late bit t b fresh a
greatest_append_late bit t b (c ∷ more) fresh a = greatest_append_late bit t (if is_due_by bit t c then Some (greater b c) else b) more fresh a

values_append_late : (t : Instant) (cs fresh : List Claim) → AllLate t fresh → (k : ℕ) (init : List Bool) → values_by (cs ++ fresh) t k init ≡ values_by cs t k init
values_append_late t cs fresh a k [] = refl
values_append_late t cs fresh a k (b ∷ more) =
    ap (λ o. option_map_or (λ (c : Claim). c.value) o b ∷ values_by (cs ++ fresh) t (k + 1) more) (greatest_append_late k t None cs fresh a)
    ∙ ap (λ vs. value_by cs b k t ∷ vs) (values_append_late t cs fresh a (k + 1) more)

-- The wishes of a frame do not change the bits of that frame.
pub bits_stay : (bound : ℕ) (items : List ItemText) (d : Design) (w : World) (t : Instant) → bits_at (next_world bound items d w t).history w.init t ≡ bits_at w.history w.init t
unfolding bits_at acts_at
bits_stay bound items d w t =
    ap (λ cs. values_by cs t 0 w.init) (claims-append w.history (made_by t 0 (acts_at bound items d w t)))
    ∙ values_append_late t (claims w.history) (claims (made_by t 0 (acts_at bound items d w t)))
    (made_late (rules_of bound items) items (moment_of w t) 0 d.instances w.states) 0 w.init

module _ (r : Rules) (m m' : List ItemText) where
  -- the instances are alike, one by one
  abbrev pub Related : (before : Option (List Bool)) → List Instance → List State → List State → Type 0
  Related before [] ps qs = ps ≡ qs
  Related before (i ∷ is) [] qs = ⊥
  Related before (i ∷ is) (a ∷ ps) [] = ⊥
  Related before (i ∷ is) (a ∷ ps) (b ∷ qs) = Alike r (unit_of m i.unit) (unit_of m' i.unit) i before a b × Related before is ps qs

  abbrev AllMatch : (now : List Bool) → List Instance → List Act → List Act → Type 0
  AllMatch now [] ps qs = ps ≡ qs
  AllMatch now (i ∷ is) [] qs = ⊥
  AllMatch now (i ∷ is) (a ∷ ps) [] = ⊥
  AllMatch now (i ∷ is) (a ∷ ps) (b ∷ qs) = Matches (Alike r (unit_of m i.unit) (unit_of m' i.unit) i (Some now)) a b × AllMatch now is ps qs

  same_wakes : (before : Option (List Bool)) (t : Instant) (is : List Instance) (ps qs : List State) → Related before is ps qs → soonest_wake t ps ≡ soonest_wake t qs
  same_wakes before t [] ps qs h = ap (soonest_wake t) h
  same_wakes before t (i ∷ is) [] qs h = absurd h
  same_wakes before t (i ∷ is) (a ∷ ps) [] h = absurd h
  same_wakes before t (i ∷ is) (a ∷ ps) (b ∷ qs) h =
      let w : wake_of a ≡ wake_of b = h.0.wake in
      let ih : soonest_wake t ps ≡ soonest_wake t qs = same_wakes before t is ps qs h.1 in
      cc

  acts_match : (f : Moment) (is : List Instance) (ps qs : List State) → Related f.before is ps qs → AllMatch f.now is (acts_from r m f is ps) (acts_from r m' f is qs)
  acts_match f [] ps qs h = refl
  acts_match f (i ∷ is) [] qs h = absurd h
  acts_match f (i ∷ is) (a ∷ ps) [] h = absurd h
  acts_match f (i ∷ is) (a ∷ ps) (b ∷ qs) h = (alike_keeps r (unit_of m i.unit) (unit_of m' i.unit) i f a b h.0, acts_match f is ps qs h.1)

  same_made : (t : Instant) (now : List Bool) (k : ℕ) (is : List Instance) (ps qs : List Act) → AllMatch now is ps qs → made_by t k ps ≡ made_by t k qs
  same_made t now k [] ps qs h = ap (made_by t k) h
  same_made t now k (i ∷ is) [] qs h = absurd h
  same_made t now k (i ∷ is) (a ∷ ps) [] h = absurd h
  same_made t now k (i ∷ is) (a ∷ ps) (b ∷ qs) h =
      let w : a.wish ≡ b.wish = ap (λ (z : Answer). z.wish) h.0.answer in
      let ih : made_by t (k + 1) ps ≡ made_by t (k + 1) qs = same_made t now (k + 1) is ps qs h.1 in
      cc

  same_outcomes : (now : List Bool) (k : ℕ) (is : List Instance) (ps qs : List Act) → AllMatch now is ps qs → outcomes_of k ps ≡ outcomes_of k qs
  same_outcomes now k [] ps qs h = ap (outcomes_of k) h
  same_outcomes now k (i ∷ is) [] qs h = absurd h
  same_outcomes now k (i ∷ is) (a ∷ ps) [] h = absurd h
  same_outcomes now k (i ∷ is) (a ∷ ps) (b ∷ qs) h =
      let w : a.ran_away ≡ b.ran_away = ap (λ (z : Answer). z.ran_away) h.0.answer in
      let o : a.outcomes ≡ b.outcomes = ap (λ (z : Answer). z.outcomes) h.0.answer in
      let ih : outcomes_of (k + 1) ps ≡ outcomes_of (k + 1) qs = same_outcomes now (k + 1) is ps qs h.1 in
      cc

  same_runaway : (now : List Bool) (k : ℕ) (is : List Instance) (ps qs : List Act) → AllMatch now is ps qs → least_runaway k ps ≡ least_runaway k qs
  same_runaway now k [] ps qs h = ap (least_runaway k) h
  same_runaway now k (i ∷ is) [] qs h = absurd h
  same_runaway now k (i ∷ is) (a ∷ ps) [] h = absurd h
  same_runaway now k (i ∷ is) (a ∷ ps) (b ∷ qs) h =
      let w : a.ran_away ≡ b.ran_away = ap (λ (z : Answer). z.ran_away) h.0.answer in
      let ih : least_runaway (k + 1) ps ≡ least_runaway (k + 1) qs = same_runaway now (k + 1) is ps qs h.1 in
      cc

  afters_related : (now : List Bool) (is : List Instance) (ps qs : List Act) → AllMatch now is ps qs → Related (Some now) is (afters ps) (afters qs)
  afters_related now [] ps qs h = ap afters h
  afters_related now (i ∷ is) [] qs h = absurd h
  afters_related now (i ∷ is) (a ∷ ps) [] h = absurd h
  afters_related now (i ∷ is) (a ∷ ps) (b ∷ qs) h = (h.0.after, afters_related now is ps qs h.1)

-- the relation between the two worlds
pub record Worlds (bound : ℕ) (m m' : List ItemText) (d : Design) (v w : World) : Type 0 where
  pub init : v.init ≡ w.init
  pub last : v.last ≡ w.last
  pub history : v.history ≡ w.history
  pub states : Related (rules_of bound m) m m' (bits_before v) d.instances v.states w.states

module _ (bound : ℕ) (m m' : List ItemText) (d : Design) (same_rules : rules_of bound m' ≡ rules_of bound m) where
  same_next : (v w : World) → Worlds bound m m' d v w → next_instant v ≡ next_instant w
  same_next v w h = rw (← h.last, ← h.history) (at v.last)
    where
      at : (o : Option Instant) → instant_after o v.history v.states ≡ instant_after o v.history w.states
      at None = refl
      at (Some t) = ap (sooner (soonest_due t (claims v.history))) (same_wakes (rules_of bound m) m m' _ t d.instances v.states w.states h.states)

  acts_of_frame : (v w : World) (t : Instant) → Worlds bound m m' d v w → AllMatch (rules_of bound m) m m' (bits_at v.history v.init t) d.instances (acts_at bound m d v t) (acts_at bound m' d w t)
  unfolding acts_at
  acts_of_frame v w t h =
      rw (same_rules, ← h.last, ← h.init, ← h.history) (acts_match (rules_of bound m) m m' (moment_of v t) d.instances v.states w.states h.states)

  next_related : (v w : World) (t : Instant) → Worlds bound m m' d v w → Worlds bound m m' d (next_world bound m d v t) (next_world bound m' d w t)
  next_related v w t h =
      let match : AllMatch (rules_of bound m) m m' (bits_at v.history v.init t) d.instances (acts_at bound m d v t) (acts_at bound m' d w t) = acts_of_frame v w t h in
      let e : made_by t 0 (acts_at bound m d v t) ≡ made_by t 0 (acts_at bound m' d w t) = same_made (rules_of bound m) m m' t _ 0 d.instances _ _ match in
      record {
        init = h.init;
        last = refl;
        history = ap (λ k. k ++ made_by t 0 (acts_at bound m d v t)) h.history ∙ ap (λ es. w.history ++ es) e;
        states = rw (bits_stay bound m d v t) (afters_related (rules_of bound m) m m' (bits_at v.history v.init t) d.instances _ _ match);
      }

  same_frame : (v w : World) (t : Instant) → Worlds bound m m' d v w
      → frame_of d.signals t (bits_at v.history v.init t) (acts_at bound m d v t) ≡ frame_of d.signals t (bits_at w.history w.init t) (acts_at bound m' d w t)
  same_frame v w t h =
      let o : outcomes_of 0 (acts_at bound m d v t) ≡ outcomes_of 0 (acts_at bound m' d w t) = same_outcomes (rules_of bound m) m m' _ 0 d.instances _ _ (acts_of_frame v w t h) in
      let p : v.history ≡ w.history = h.history in
      let q : v.init ≡ w.init = h.init in
      cc

  same_runaway_of : (v w : World) (t : Instant) → Worlds bound m m' d v w → least_runaway 0 (acts_at bound m d v t) ≡ least_runaway 0 (acts_at bound m' d w t)
  same_runaway_of v w t h = same_runaway (rules_of bound m) m m' _ 0 d.instances _ _ (acts_of_frame v w t h)

  same_at : (v w : World) → Worlds bound m m' d v w → (o : Option Instant) (more more' : World → Run)
      → ((v w : World) → Worlds bound m m' d v w → more v ≡ more' w) → run_at bound m d v o more ≡ run_at bound m' d w o more'
  same_at v w h None more more' ih = refl
  same_at v w h (Some t) more more' ih =
      let f : frame_of d.signals t (bits_at v.history v.init t) (acts_at bound m d v t) ≡ frame_of d.signals t (bits_at w.history w.init t) (acts_at bound m' d w t) = same_frame v w t h in
      let a : least_runaway 0 (acts_at bound m d v t) ≡ least_runaway 0 (acts_at bound m' d w t) = same_runaway_of v w t h in
      let k : more (next_world bound m d v t) ≡ more' (next_world bound m' d w t) = ih _ _ (next_related v w t h) in
      ap (λ f'. goes_on f' (least_runaway 0 (acts_at bound m d v t)) (more (next_world bound m d v t))) f
      ∙ ap (λ a'. goes_on (frame_of d.signals t (bits_at w.history w.init t) (acts_at bound m' d w t)) a' (more (next_world bound m d v t))) a
      ∙ ap (goes_on (frame_of d.signals t (bits_at w.history w.init t) (acts_at bound m' d w t)) (least_runaway 0 (acts_at bound m' d w t))) k

  pub same_run : (n : ℕ) (v w : World) → Worlds bound m m' d v w → run_from bound m d n v ≡ run_from bound m' d n w
  same_run zero v w h = ap at_bound (same_next v w h)
  same_run (suc n) v w h =
      same_at v w h (next_instant v) (run_from bound m d n) (run_from bound m' d n) (same_run n)
      ∙ ap (λ o. run_at bound m' d w o (run_from bound m' d n)) (same_next v w h)
