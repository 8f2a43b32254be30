-- At each point of an activation each instruction finds what it looks for, and after it what is there is held.
use Rattle.std.proofs.Common.{◌≡◌, ℕ, List, [], ◌∷◌, ◌++◌, length, map, Bool, true, false, Option, Some, None, IsSome, refl, ap, sym, ◌∙◌, subst, append_assoc, arith}
use Rattle.std.specs.List.{list_any}
use Rattle.std.specs.Option.{option_and_then, option_map}
use Rattle.std.proofs.lemmas.Bool.{false≢true}
use Rattle.lh_time.specs.declared.Instant.{Instant}
use Rattle.lh_time.specs.Due.{due_of}
use Rattle.lh_types.specs.Types.{TypeTree, time_type, void_type, signal_type, pointer_type}
use Rattle.lh_types.specs.Values.{Datum}
use Rattle.lh_types.specs.declared.part.Range.{Range}
use Rattle.lh_unit.specs.Contents.{OperandText, LineText, BlockText, ArgText, UnitText, ItemText, is_result_name, defines_value}
use Rattle.lh_unit_names.specs.Names.{same_name}
use Rattle.lh_unit.specs.Named.{block_of, is_function}
use Rattle.lh_unit.specs.Held.{Held, datum_held, cell_held, part_held, Env, as_datum, as_cell, datum_at, cell_at, data_at, parts_at, front}
use Rattle.lh_unit.specs.Kinds.{Kind, a_datum, a_time, a_signal, a_pointer, kind_of, Use, used, all_used, maybe_used, takes, data_or_time_needed, time_needed, signal_needed}
use Rattle.lh_unit.specs.Places.{is_terminator, leads_to}
use Rattle.lh_unit.specs.SpellsInst.{gives_value}
use Rattle.lh_unit.specs.Typing.{value_type, is_value_type}
use Rattle.lh_unit.specs.WellFormed.{in_entity, in_process, in_function}
use Rattle.lh_unit.specs.Activation.{Scene, Control, Caller, Point, Next, goes, ends, no_step, entered, wake_at, functions}
use Rattle.lh_unit.specs.Within.{Each}
use Rattle.lh_unit.specs.declared.inst.UnitKind.{UnitKind}
use Rattle.lh_unit.specs.declared.inst.UnitKind.TheVariants as kind
use Rattle.lh_verify_laws.specs.Calls.{ArgumentsAre}
use Rattle.lh_verify_laws.specs.Defined.{IsThere}
use Rattle.lh_verify_laws.specs.KindsOf.{HasTypeOfKind}
use Rattle.lh_verify_laws.specs.Operands.{IsOf, MayBeOf}
use Rattle.lh_eval.specs.Fitting.{IsTypeWithinLimits, FitsHeld, Fits}
use Rattle.lh_verify_laws.proofs.EachItem.{each-split}
use Rattle.lh_verify_laws.proofs.AtPlaces.{place-at}
use Rattle.lh_verify_laws.proofs.There.{there-before}
use Rattle.lh_eval_laws.proofs.OperandsFound.{some-of, carries-value, part-at, delay-at}
use Rattle.lh_eval_laws.proofs.FindingPass.{AllHeld, named_in}
use Rattle.lh_exec.specs.Sound.{LineRight, FunctionsRight, PointFits, IsLabel, StandHolds}
use Rattle.lh_exec.proofs.Heads.{signal-used}
use Rattle.lh_exec.proofs.KeepsFit.{block-has}
use Rattle.lh_exec.proofs.Placed.{PlaceRight, UnitSteady, FunctionsSteady, GivesNamed, NotNil, place-of}
use Rattle.lh_exec.proofs.Paths.{unnamed, PhiHeld, PhisHeld, phis-more, ControlHolds, line-in, edge-holds}

-- ---- points

-- At the place of an open call each value is held that is there, but its result.
pub record CallerHolds (d : Caller) : Type 0 where
  pub steady : UnitSteady d.control.unit
  pub text : BlockText
  pub block : block_of d.control.block d.control.unit.blocks ≡ Some text
  pub before : List LineText
  pub split : text.lines ≡ before ++ d.control.rest
  pub there : (n : List ℕ) → defines_value n d.control.unit ≡ true → IsThere d.control.unit text before n → is_result_name n d.result ≡ false → IsSome (d.control.held n)
  pub phis : PhisHeld d.control.held d.control.rest
  pub more : NotNil d.control.rest
  pub valued : (n : List ℕ) → d.result ≡ Some n → value_type d.control.unit n ≡ Some void_type → ⊥

-- a process stands below all calls, and each of them is of a function
abbrev pub CallersHold : UnitText → List Caller → Type 0
CallersHold u [] = u.kind ≡ kind.Proc
CallersHold u (d ∷ more) = (is_function u.kind ≡ true) × CallerHolds d × CallersHold d.control.unit more

pub record PointHolds (p : Point) : Type 0 where
  pub control : ControlHolds p.control
  pub callers : CallersHold p.control.unit p.callers

abbrev pub NextHolds : UnitText → Next → Type 0
NextHolds v (goes p) = PointHolds p
NextHolds v (ends d) = StandHolds v d.state.held d.state.stand
NextHolds v no_step = Unit {0}

-- ---- values

kind-datum : (w : ℕ) (h : Held) (t : TypeTree) (k : Kind) → kind_of t ≡ Some k → takes data_or_time_needed k ≡ true → FitsHeld w h t → (d : Datum) × (as_datum h ≡ Some d)
kind-datum w (datum_held d) t k e g f = (d, refl)
kind-datum w (cell_held d) (pointer_type t) a_pointer e g f = absurd cc
kind-datum w (cell_held d) (pointer_type t) a_datum e g f = absurd cc
kind-datum w (cell_held d) (pointer_type t) a_time e g f = absurd cc
kind-datum w (cell_held d) (pointer_type t) a_signal e g f = absurd cc
kind-datum w (cell_held d) _ k e g f = absurd f
kind-datum w (part_held r) (signal_type t) a_signal e g f = absurd cc
kind-datum w (part_held r) (signal_type t) a_datum e g f = absurd cc
kind-datum w (part_held r) (signal_type t) a_time e g f = absurd cc
kind-datum w (part_held r) (signal_type t) a_pointer e g f = absurd cc
kind-datum w (part_held r) _ k e g f = absurd f

cell-of : (w : ℕ) (h : Held) (t : TypeTree) → FitsHeld w h (pointer_type t) → (d : Datum) × (as_cell h ≡ Some d) × IsTypeWithinLimits t
cell-of w (datum_held d) t f = absurd f.0
cell-of w (cell_held d) t f = (d, refl, f.0)
cell-of w (part_held r) t f = absurd f

pub value-is : (t : TypeTree) → IsTypeWithinLimits t → is_value_type t ≡ true
value-is time_type v = refl
value-is t v = carries-value t v

module _ (u : UnitText) (w : ℕ) (e : Env) (f : Fits u w e) where
  pub datum-used : (n : List ℕ) → HasTypeOfKind u (used data_or_time_needed n) → IsSome (e n) → (d : Datum) × (datum_at e n ≡ Some d)
  datum-used n k h =
      let x = some-of (e n) h in
      let d = kind-datum w x.0 k.0 k.1 k.3 k.4 (f n x.0 k.0 x.1 k.2) in
      (d.0, ap (option_and_then as_datum) x.1 ∙ d.1)

  pub cell-there : (n : List ℕ) (t : TypeTree) → IsOf u (pointer_type t) n → IsSome (e n) → (d : Datum) × (cell_at e n ≡ Some d) × IsTypeWithinLimits t
  cell-there n t o h =
      let x = some-of (e n) h in
      let d = cell-of w x.0 t (f n x.0 (pointer_type t) x.1 o) in
      (d.0, ap (option_and_then as_cell) x.1 ∙ d.1, d.2)

  pub data-used : (os : List OperandText) → Each (HasTypeOfKind u) (all_used data_or_time_needed os) → AllHeld e (all_used data_or_time_needed os) → (ds : List Datum) × (data_at e os ≡ Some ds)
      × (length ds ≡ length os)
  data-used [] k h = ([], refl, refl)
  data-used (o ∷ os) k h =
      let d = datum-used o.value k.0 h.0 in
      let ds = data-used os k.1 h.1 in
      (d.0 ∷ ds.0, ap (λ x. front x (data_at e os)) d.1 ∙ ap (front (Some d.0)) ds.1, omega (arith, ds.2))

  pub parts-used : (ns : List (List ℕ)) → Each (HasTypeOfKind u) (map (used signal_needed) ns) → AllHeld e (map (used signal_needed) ns) → (rs : List Range) × (parts_at e ns ≡ Some rs)
  parts-used [] k h = ([], refl)
  parts-used (n ∷ ns) k h =
      let s = signal-used u n k.0 in
      let r = part-at u w e f n s.0 s.1 h.0 in
      let rs = parts-used ns k.1 h.1 in
      (r.0 ∷ rs.0, ap (λ x. front x (parts_at e ns)) r.1 ∙ ap (front (Some r.0)) rs.1)

  pub wake-used : (t : Instant) (after : Option (List ℕ)) → MayBeOf u time_type after → AllHeld e (maybe_used time_needed after) → (o : Option Instant) × (wake_at t e after ≡ Some o)
  wake-used t None k h = (None, refl)
  wake-used t (Some n) k h = let d = delay-at u w e f n k h.0 in (due_of t d.0, ap (option_map (due_of t)) d.1)

pub as-many : (u : UnitText) (os : List OperandText) (xs : List ArgText) → ArgumentsAre u os xs → length os ≡ length xs
as-many u [] [] a = refl
as-many u [] (x ∷ xs) a = absurd a
as-many u (o ∷ os) [] a = absurd a
as-many u (o ∷ os) (x ∷ xs) a = let q = as-many u os xs a.1 in omega (arith, q)

-- ---- kinds of units

pub function-apart : (k : UnitKind) → is_function k ≡ true → in_process k ≡ true → ⊥
function-apart kind.Func f p = false≢true p
function-apart kind.Proc f p = false≢true f
function-apart kind.Entity f p = false≢true f

pub process-apart : (k : UnitKind) → k ≡ kind.Proc → in_function k ≡ true → ⊥
process-apart k e f = false≢true (sym (ap in_function e) ∙ f)

pub entity-apart : {A : Type 0} (k : UnitKind) → in_entity k ≡ false → in_entity k ≡ true → A
entity-apart k e f = absurd (false≢true (sym e ∙ f))

pub no-callers : (u : UnitText) (cs : List Caller) → CallersHold u cs → in_process u.kind ≡ true → cs ≡ []
no-callers u [] k p = refl
no-callers u (d ∷ more) k p = absurd (function-apart u.kind k.0 p)

pub some-caller : (u : UnitText) (cs : List Caller) → CallersHold u cs → in_function u.kind ≡ true → (c : Caller) × (more : List Caller) × (cs ≡ c ∷ more)
some-caller u [] k p = absurd (process-apart u.kind k p)
some-caller u (d ∷ more) k p = (d, more, refl)

module _ (items : List ItemText) (now : List Bool) (t : Instant) (fs : FunctionsRight items) (ss : FunctionsSteady items) (u : UnitText) where
  abbrev s : Scene
  s = record { functions = functions items; now = now; at = t }

  abbrev w : ℕ
  w = length now

  -- ---- an instruction, by its point

  module _ (p : Point) (f : PointFits items w u p) (k : PointHolds p) (l : LineText) (rest : List LineText) (e : p.control.rest ≡ l ∷ rest) where
    pub here-split : k.control.text.lines ≡ k.control.before ++ l ∷ rest
    here-split = k.control.split ∙ ap (λ ls. k.control.before ++ ls) e

    pub here-place : (j : ℕ) × (d : Bool) × PlaceRight p.control.unit (place-at j d k.control.text k.control.before l rest)
    here-place = place-of p.control.unit k.control.steady p.control.block k.control.text k.control.before l rest k.control.block here-split

    pub here-right : LineRight items p.control.unit l
    here-right = line-in items p.control.unit f.control.right p.control.block k.control.text k.control.block k.control.before l rest here-split

    pub here-given : GivesNamed l
    here-given =
        let all = block-has (λ (b : BlockText). Each GivesNamed b.lines) p.control.block p.control.unit.blocks k.control.text k.control.steady.given k.control.block in
        (each-split GivesNamed k.control.before (l ∷ rest) (subst (Each GivesNamed) here-split all)).1.0

    pub here-held : (us : List Use) → Each (λ (x : Use). defines_value x.value p.control.unit ≡ true) us → Each (IsThere p.control.unit k.control.text k.control.before) (named_in us)
        → AllHeld p.control.held us
    here-held [] d h = tt
    here-held (x ∷ us) d h = (k.control.there x.value d.0 h.0, here-held us d.1 h.1)

    pub here-more : is_terminator l.inst ≡ false → NotNil rest
    here-more inner = at rest refl
      where
        at : (ls : List LineText) → rest ≡ ls → NotNil ls
        at [] q = absurd (false≢true (sym inner ∙ (here-place.2.ends k.control.steady.runs).last_ends q))
        at (x ∷ ls) q = tt

    pub here-phis : PhiHeld p.control.held l.inst l.result × PhisHeld p.control.held rest
    here-phis = subst (PhisHeld p.control.held) e k.control.phis

    -- past it, where its result is held
    pub advance : is_terminator l.inst ≡ false → (e' : Env) → ((n : List ℕ) → IsSome (p.control.held n) → IsSome (e' n)) → ((n : List ℕ) → is_result_name n l.result ≡ true → IsSome (e' n))
        → ControlHolds (record p.control { rest = rest; held = e' })
    advance inner e' stays result = record {
      steady = k.control.steady;
      text = k.control.text;
      block = k.control.block;
      before = k.control.before ++ l ∷ [];
      split = here-split ∙ sym (append_assoc k.control.before (l ∷ []) rest);
      there = λ n d h. at n d h (is_result_name n l.result) refl;
      phis = phis-more p.control.held e' rest stays here-phis.1;
      more = here-more inner;
    }
      where
        at : (n : List ℕ) → defines_value n p.control.unit ≡ true → IsThere p.control.unit k.control.text (k.control.before ++ l ∷ []) n → (b : Bool) → is_result_name n l.result ≡ b → IsSome (e' n)
        at n d h true q = result n q
        at n d h false q = stays n (k.control.there n d (there-before p.control.unit k.control.text k.control.before l n q h))

    pub advances : is_terminator l.inst ≡ false → (e' : Env) → ((n : List ℕ) → IsSome (p.control.held n) → IsSome (e' n)) → ((n : List ℕ) → is_result_name n l.result ≡ true → IsSome (e' n))
        → PointHolds (record p { control = record p.control { rest = rest; held = e' } })
    advances inner e' stays result = record { control = advance inner e' stays result; callers = k.callers }

    -- what gives no value has inner result
    pub no-result : gives_value l.inst ≡ false → (n : List ℕ) → is_result_name n l.result ≡ true → IsSome (p.control.held n)
    no-result inner n q = absurd (false≢true (sym (unnamed l here-given inner n) ∙ q))

    -- the edge to a block
    pub leads : is_terminator l.inst ≡ true → (to : List ℕ) → IsLabel p.control.unit to → list_any (λ m. same_name m to) (leads_to l.inst) ≡ true → (c : Control)
        × (entered p.control.unit p.control.held p.control.block to ≡ Some c) × (c.unit ≡ p.control.unit) × ControlHolds c
    leads last to b named =
        edge-holds items w p.control.unit k.control.steady f.control.right p.control.held f.control.fits p.control.block k.control.text k.control.block k.control.before l rest here-split last
        k.control.there to b.0 b.1 named

    -- the caller of a call
    pub calling : is_terminator l.inst ≡ false → ((n : List ℕ) → l.result ≡ Some n → value_type p.control.unit n ≡ Some void_type → ⊥)
        → CallerHolds (record { control = record p.control { rest = rest }; result = l.result })
    calling inner valued = record {
      steady = k.control.steady;
      text = k.control.text;
      block = k.control.block;
      before = k.control.before ++ l ∷ [];
      split = here-split ∙ sym (append_assoc k.control.before (l ∷ []) rest);
      there = λ n d h q. k.control.there n d (there-before p.control.unit k.control.text k.control.before l n q h);
      phis = here-phis.1;
      more = here-more inner;
      valued = valued;
    }
