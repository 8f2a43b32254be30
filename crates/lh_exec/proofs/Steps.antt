-- The machine stands for the point that an instruction leads to.
use Rattle.std.proofs.Common.{◌≡◌, ℕ, ◌<◌, ◌≤◌, nat_lt, List, [], ◌∷◌, ◌++◌, length, reverse, set, Bool, true, if◌then◌else◌, Option, Some, None, is_some, IfSome, refl, ap, sym, ◌∙◌, subst, arith, lt-ltb, le-ltb}
use Rattle.std.specs.Option.{option_map}
use Rattle.std.proofs.lemmas.Option.{same_Some}
use Rattle.std.proofs.lemmas.List.{reverse-append, length-reverse}
use Rattle.lh_types.specs.Values.{Datum}
use Rattle.lh_unit.specs.Activation.{Control, Caller, Point, goes, no_step, gives, stores, opens, returns, goes_back, Stand, ends_at}
use Rattle.lh_unit.specs.Arena.{Arena, naming}
use Rattle.lh_unit.specs.Held.{Held, Env, datum_held, cell_held, datum_at, cell_at, with_held, with_result}
use Rattle.lh_unit.specs.Hierarchy.{if_held}
use Rattle.lh_unit.specs.Naming.{value_text, maybe_text, operand_text}
use Rattle.lh_unit.specs.declared.inst.ValueId.{ValueId}
use Rattle.lh_unit.specs.declared.inst.Typed.{Typed}
use Rattle.lh_eval.specs.Holding.{Holds, MaybeIn, given, datum_in, cell_in}
use Rattle.lh_eval.proofs.HeldByIds.{same-held, holds-given, holds-more}
use Rattle.lh_exec.specs.declared.machine.UnitFrame.{UnitFrame}
use Rattle.lh_exec.specs.declared.machine.Call.{Call}
use Rattle.lh_exec.specs.declared.machine.Machine.{Machine}
use Rattle.lh_exec.specs.declared.machine.Flow.TheVariants as flow
use Rattle.lh_exec.specs.Standing.{FrameIs, CallIs, CallsAre, MachineIs, InstLeads, MaybeFrame, returned_in, back}

calls-long : (a : Arena) (cs : List Call) (ds : List Caller) → CallsAre a cs ds → length cs ≡ length ds
calls-long a [] [] k = refl
calls-long a [] (d ∷ ds) k = absurd k
calls-long a (c ∷ cs) [] k = absurd k
calls-long a (c ∷ cs) (d ∷ ds) k = let e = calls-long a cs ds k.1 in omega (arith, e)

-- the last call is the first caller
pub calls-last : (a : Arena) (cs rest : List Call) (c : Call) (ds : List Caller) → cs ≡ rest ++ c ∷ [] → CallsAre a (reverse cs) ds → (d : Caller) × (more : List Caller) × (ds ≡ d ∷ more)
    × CallIs a c d × CallsAre a (reverse rest) more
calls-last a cs rest c ds e k = by ds (subst (λ (xs : List Call). CallsAre a xs ds) (ap reverse e ∙ reverse-append rest (c ∷ [])) k)
  where
    by : (ys : List Caller) → CallsAre a (c ∷ reverse rest) ys → (d : Caller) × (more : List Caller) × (ys ≡ d ∷ more) × CallIs a c d × CallsAre a (reverse rest) more
    by [] h = absurd h
    by (d ∷ more) h = (d, more, refl, h.0, h.1)

pub no-callers : (a : Arena) (cs : List Call) (ds : List Caller) → cs ≡ [] → CallsAre a (reverse cs) ds → ds ≡ []
no-callers a cs ds e k = by ds (subst (λ (xs : List Call). CallsAre a (reverse xs) ds) e k)
  where
    by : (ys : List Caller) → CallsAre a [] ys → ys ≡ []
    by [] h = refl
    by (d ∷ more) h = absurd h

pub some-callers : (a : Arena) (cs : List Call) (ds : List Caller) → 0 < length cs → CallsAre a (reverse cs) ds → 0 < length ds
some-callers a cs ds h k = let e = calls-long a (reverse cs) ds k in omega (arith, e, length-reverse cs)

-- where a call is open, an activation does not end
pub does-not-end : (p : Point) (cs : List Caller) (o : Option Stand) → 0 < length cs → ends_at p cs o ≡ no_step
does-not-end p [] o h = absurd (omega (arith, h))
does-not-end p (c ∷ cs) o h = refl

module _ (a : Arena) (m : Machine) (p : Point) (k : MachineIs a m p) where
  -- other things are held
  pub holds-now : (s : List (Option Held)) (e : Env) → Holds a m.frame.unit.0 s e
      → MachineIs a (record m { frame = record m.frame { slots = s } }) (record p { control = record p.control { held = e } })
  holds-now s e h = record {
    arena = k.arena;
    frame = record {
      within = k.frame.within;
      has_blocks = k.frame.has_blocks;
      label = k.frame.label;
      stands = k.frame.stands;
      unit = k.frame.unit;
      block = k.frame.block;
      rest = k.frame.rest;
      held = h;
    };
    callers = k.callers;
    wish = k.wish;
    outcomes = k.outcomes;
  }

  pub gives-leads : (name : Option ValueId) (x : Held) (h : Option Held) (s : List (Option Held)) → Some x ≡ h → MaybeIn m.frame.slots name → s ≡ given m.frame.slots name (Some x)
      → InstLeads a (record m { frame = record m.frame { slots = s } }) flow.Goes p.control.unit (gives p (maybe_text (naming a m.frame.unit.0) name) h)
  gives-leads name x h s q w e =
      let here = holds-now s (if_held p.control.held (maybe_text (naming a m.frame.unit.0) name) (Some x))
      (subst (λ (y : List (Option Held)). Holds a m.frame.unit.0 y (if_held p.control.held (maybe_text (naming a m.frame.unit.0) name) (Some x))) (sym e)
      (holds-given a m.frame.unit.0 m.frame.slots p.control.held name (Some x) k.arena k.frame.within k.frame.held w)) in
      subst (λ (y : Option Held). InstLeads a (record m { frame = record m.frame { slots = s } }) flow.Goes p.control.unit (gives p (maybe_text (naming a m.frame.unit.0) name) y)) q here

  pub stores-leads : (to value : ValueId) (h : Held) (s : List (Option Held)) → to.0 < length m.frame.slots → value.0 < length m.frame.slots → is_some (cell_in m.frame.slots to) ≡ true
      → Some h ≡ option_map cell_held (datum_in m.frame.slots value) → s ≡ set m.frame.slots to.0 (Some h)
      → let f = naming a m.frame.unit.0 in InstLeads a (record m { frame = record m.frame { slots = s } }) flow.Goes p.control.unit (stores p (value_text f to)
      (cell_at p.control.held (value_text f to)) (datum_at p.control.held (value_text f value)))
  stores-leads to value h s w v i g e =
      let b = same-held a m.frame.unit.0 m.frame.slots p.control.held k.frame.held in
      by (cell_at p.control.held (value_text (naming a m.frame.unit.0) to)) (datum_at p.control.held (value_text (naming a m.frame.unit.0) value)) (sym (ap is_some (b.cell to w)) ∙ i)
      (g ∙ ap (option_map cell_held) (b.datum value v))
    where
      by : (x y : Option Datum) → is_some x ≡ true → Some h ≡ option_map cell_held y
          → InstLeads a (record m { frame = record m.frame { slots = s } }) flow.Goes p.control.unit (stores p (value_text (naming a m.frame.unit.0) to) x y)
      by None y c d = absurd cc
      by (Some x) None c d = absurd cc
      by (Some x) (Some y) c d =
          let same : h ≡ cell_held y = same_Some h (cell_held y) d in
          let more = holds-more a m.frame.unit.0 m.frame.slots p.control.held to h k.arena k.frame.within k.frame.held w in
          holds-now s (with_held p.control.held (value_text (naming a m.frame.unit.0) to) (cell_held y))
          (subst (λ (z : List (Option Held)). Holds a m.frame.unit.0 z (with_held p.control.held (value_text (naming a m.frame.unit.0) to) (cell_held y))) (sym e)
          (subst (λ (z : Held). Holds a m.frame.unit.0 (set m.frame.slots to.0 (Some h)) (with_held p.control.held (value_text (naming a m.frame.unit.0) to) z)) same more))

  -- a call is opened
  pub opens-leads : (f : UnitFrame) (c : Control) (name : Option ValueId) (n : Machine) → FrameIs a f c → MaybeIn m.frame.slots name → length m.callers.items < 256 → n.frame ≡ f
      → n.callers.items ≡ m.callers.items ++ record { frame = m.frame; result = name } ∷ [] → n.wishes ≡ m.wishes → n.outcomes ≡ m.outcomes
      → InstLeads a n flow.Goes p.control.unit (opens p (maybe_text (naming a m.frame.unit.0) name) (Some c))
  opens-leads f c name n g w few e calls wish outcomes =
      let r : Option (List ℕ) = maybe_text (naming a m.frame.unit.0) name in
      let long : length p.callers ≡ length m.callers.items = sym (calls-long a (reverse m.callers.items) p.callers k.callers) ∙ length-reverse m.callers.items in
      let room : nat_lt (length p.callers) 256 ≡ true = lt-ltb (length p.callers) 256 (omega (arith, long, few)) in
      let here : MachineIs a n (record p { control = c; callers = record { control = p.control; result = r } ∷ p.callers }) = record {
        arena = k.arena;
        frame = subst (λ (x : UnitFrame). FrameIs a x c) (sym e) g;
        callers = subst (λ (xs : List Call). CallsAre a xs (record { control = p.control; result = r } ∷ p.callers))
            (sym (ap reverse calls ∙ reverse-append m.callers.items (record { frame = m.frame; result = name } ∷ [])))
            (record { frame = k.frame; within = w; result = refl }, k.callers);
        wish = wish ∙ k.wish;
        outcomes = outcomes ∙ k.outcomes;
      } in
      subst (λ (b : Bool). InstLeads a n flow.Goes p.control.unit (if b then goes (record p { control = c; callers = record { control = p.control; result = r } ∷ p.callers }) else no_step)) (sym room)
      here

  -- no more may be opened
  pub opens-none : (r : Option (List ℕ)) (o : Option Control) → 256 ≤ length m.callers.items → opens p r o ≡ no_step
  opens-none r None h = refl
  opens-none r (Some c) h =
      let long : length p.callers ≡ length m.callers.items = sym (calls-long a (reverse m.callers.items) p.callers k.callers) ∙ length-reverse m.callers.items in
      ap (λ b. if b then goes (record p { control = c; callers = record { control = p.control; result = r } ∷ p.callers }) else no_step) (le-ltb (length p.callers) 256 (omega (arith, long, h)))

  -- the last call goes on
  pub back-leads : (c : Call) (rest : List Call) (h : Option Held) (s : List (Option Held)) (n : Machine) → m.callers.items ≡ rest ++ c ∷ [] → s ≡ given c.frame.slots c.result h
      → n.frame ≡ record c.frame { slots = s } → n.callers.items ≡ rest → n.wishes ≡ m.wishes → n.outcomes ≡ m.outcomes
      → InstLeads a n flow.Goes p.control.unit (back p h p.callers)
  back-leads c rest h s n e g frame callers wish outcomes =
      let q = calls-last a m.callers.items rest c p.callers e k.callers in
      let d = q.0 in
      let here : MachineIs a n (record p { control = record q.0.control { held = if_held q.0.control.held q.0.result h }; callers = q.1 }) = record {
        arena = k.arena;
        frame = subst (λ (x : UnitFrame). FrameIs a x (record q.0.control { held = if_held q.0.control.held q.0.result h })) (sym frame)
            (record {
              within = q.3.frame.within;
              has_blocks = q.3.frame.has_blocks;
              label = q.3.frame.label;
              stands = q.3.frame.stands;
              unit = q.3.frame.unit;
              block = q.3.frame.block;
              rest = q.3.frame.rest;
              held = subst (λ (y : List (Option Held)). Holds a c.frame.unit.0 y (if_held q.0.control.held q.0.result h)) (sym g)
                  (subst (λ (y : Option (List ℕ)). Holds a c.frame.unit.0 (given c.frame.slots c.result h) (if_held q.0.control.held y h)) (sym q.3.result)
                  (holds-given a c.frame.unit.0 c.frame.slots q.0.control.held c.result h k.arena q.3.frame.within q.3.frame.held q.3.within));
            });
        callers = subst (λ (xs : List Call). CallsAre a (reverse xs) q.1) (sym callers) q.4;
        wish = wish ∙ k.wish;
        outcomes = outcomes ∙ k.outcomes;
      } in
      subst (λ (cs : List Caller). InstLeads a n flow.Goes p.control.unit (back p h cs)) (sym q.2) here

-- what a `ret` leads to is that the last call goes on with what it gives
abbrev pub MaybeTyped : List (Option Held) → Option Typed → Type 0
MaybeTyped slots o = IfSome o (λ (x : Typed). x.value.0 < length slots)

pub returns-back : (a : Arena) (u : ℕ) (slots : List (Option Held)) (p : Point) (o : Option Typed) (h : Option Held) → Holds a u slots p.control.held → MaybeTyped slots o
    → returned_in slots o ≡ Some h → (cs : List Caller) → returns p (option_map (operand_text (naming a u)) o) cs ≡ back p h cs
returns-back a u slots p None h d w e [] = refl
returns-back a u slots p None h d w e (c ∷ cs) = ap (λ (x : Option Held). back p x (c ∷ cs)) (same_Some None h e)
returns-back a u slots p (Some o) h d w e [] = refl
returns-back a u slots p (Some o) h d w e (c ∷ cs) = by (datum_at p.control.held (value_text (naming a u) o.value))
    (sym (ap (option_map (λ (x : Datum). Some (datum_held x))) ((same-held a u slots p.control.held d).datum o.value w)) ∙ e)
  where
    by : (v : Option Datum) → option_map (λ (x : Datum). Some (datum_held x)) v ≡ Some h → goes_back p c cs (option_map (λ (x : Datum). with_result c.control.held c.result (datum_held x)) v)
        ≡ back p h (c ∷ cs)
    by None q = absurd cc
    by (Some x) q = ap (λ (y : Option Held). back p y (c ∷ cs)) (same_Some (Some (datum_held x)) h q)

pub returns-none : (a : Arena) (u : ℕ) (slots : List (Option Held)) (p : Point) (o : Option Typed) → Holds a u slots p.control.held → MaybeTyped slots o → returned_in slots o ≡ None
    → (cs : List Caller) → returns p (option_map (operand_text (naming a u)) o) cs ≡ no_step
returns-none a u slots p None d w e cs = absurd cc
returns-none a u slots p (Some o) d w e [] = refl
returns-none a u slots p (Some o) d w e (c ∷ cs) = by (datum_at p.control.held (value_text (naming a u) o.value))
    (sym (ap (option_map (λ (x : Datum). Some (datum_held x))) ((same-held a u slots p.control.held d).datum o.value w)) ∙ e)
  where
    by : (v : Option Datum) → option_map (λ (x : Datum). Some (datum_held x)) v ≡ None → goes_back p c cs (option_map (λ (x : Datum). with_result c.control.held c.result (datum_held x)) v) ≡ no_step
    by None q = refl
    by (Some x) q = absurd cc

-- a frame that is there, or not, for a call
pub opens-some : (a : Arena) (f : UnitFrame) (o : Option Control) (K : Option Control → Type 0) → MaybeFrame a (Some f) o → ((c : Control) → FrameIs a f c → K (Some c)) → K o
opens-some a f None K k go = absurd k
opens-some a f (Some c) K k go = go c k

pub opens-lost : (a : Arena) (n : Machine) (p : Point) (r : Option (List ℕ)) (o : Option Control) → MaybeFrame a None o → InstLeads a n flow.Lost p.control.unit (opens p r o)
opens-lost a n p r None k = tt
opens-lost a n p r (Some c) k = absurd k
