-- Turns that are right tell which values come from a `prb`.
use Rattle.std.proofs.Common.{◌≡◌, ℕ, ◌+◌, ◌<◌, ◌≤◌, zero, suc, Bool, true, false, not, ◌||◌, ◌&&◌, nat_eq, nat_lt, nat_le, if◌then◌else◌, List, [], ◌∷◌, length, map, get_or, Option, Some, None, refl, ap, sym, ◌∙◌, subst, arith, ltb-true, leb-true}
use Rattle.std.specs.List.{list_any}
use Rattle.std.specs.Option.{option_map, option_map_or}
use Rattle.std.proofs.lemmas.Bool.Decides.{nat_tests}
use Rattle.std.proofs.lemmas.Option.{slice_get-get_or, slice_get_within}
use Rattle.std.proofs.lemmas.Bool.{or_right, and_parts, not-true}
use Rattle.lh_unit.specs.Kinds as kinds
use Rattle.lh_unit.specs.Naming.{Naming, value_text, inst_text}
use Rattle.lh_unit.specs.Within.{Sizes, Each, ValueWithin, InstWithin}
use Rattle.lh_unit.specs.Table.{is_result}
use Rattle.lh_unit.specs.ById.{inst_making}
use Rattle.lh_unit.specs.WellFormed.{values_named, comes_from_probe, depends_on_probe}
use Rattle.lh_unit.specs.Arena.{Arena, IsArena, naming, sizes, table_at, unit_text_at, unit_count, value_count, inst_count}
use Rattle.lh_unit.specs.declared.inst.ValueId.{ValueId}
use Rattle.lh_unit.specs.declared.inst.Inst.{Inst}
use Rattle.lh_unit.specs.declared.inst.Inst.TheVariants as inst
use Rattle.lh_unit.specs.declared.table.TableLine.{TableLine}
use Rattle.lh_unit.proofs.Lists.{nat_eq-is, some_inj}
use Rattle.lh_unit.proofs.ById.{inst_giving-by_id}
use Rattle.lh_verify_operands.specs.declared.uses.Use.{Use}
use Rattle.lh_verify_operands.specs.Uses.{use_text, uses_of}
use Rattle.lh_verify_operands.proofs.UsesText.{uses-text}
use Rattle.lh_verify_operands.specs.Operands.{UseWithin}
use Rattle.lh_verify_labels.specs.Marking.{comes_from, Reaches, Advances}
use Rattle.lh_verify_labels.specs.Turns.{turn_of, is_before, comes_by, result_led, line_led, all_led, with_turns}
use Rattle.lh_verify_labels.proofs.MarkingSteps.{making-has}
use Rattle.lh_verify_operands.proofs.UsesWithin.{uses-within}

-- ---- truth

-- ---- tests of operands

any-more : (T S : Use → Bool) (P : Use → Type 0) → ((x : Use) → P x → T x ≡ true → S x ≡ true) → (us : List Use) → Each P us → list_any T us ≡ true → list_any S us ≡ true
any-more T S P h [] e a = absurd cc
any-more T S P h (x ∷ us) e a = by (T x) refl (any-more T S P h us e.1)
  where
    by : (b : Bool) → T x ≡ b → (list_any T us ≡ true → list_any S us ≡ true) → (S x || list_any S us) ≡ true
    by true q r = ap (λ z. z || list_any S us) (h x e.0 q)
    by false q r = or_right (S x) (list_any S us) (r (sym (ap (λ z. z || list_any T us) q) ∙ a))

-- what passes one test passes the other
module _ (s : Sizes) (T S : ValueId → Bool) (h : (v : ValueId) → ValueWithin s v → T v ≡ true → S v ≡ true) where
  others-more : (i : Inst) → InstWithin s i → list_any (λ (x : Use). T x.value) (uses_of i) ≡ true → list_any (λ (x : Use). S x.value) (uses_of i) ≡ true
  others-more i w a = any-more (λ (x : Use). T x.value) (λ (x : Use). S x.value) (UseWithin s) (λ x p q. h x.value p q) (uses_of i) (uses-within s i w) a

  comes-more : (i : Inst) → InstWithin s i → comes_by T i ≡ true → comes_by S i ≡ true
  comes-more (inst.Prb x) w a = refl
  comes-more (inst.Const d) w a = others-more (inst.Const d) w a
  comes-more (inst.Pure o args) w a = others-more (inst.Pure o args) w a
  comes-more (inst.Var x) w a = others-more (inst.Var x) w a
  comes-more (inst.Ld x) w a = others-more (inst.Ld x) w a
  comes-more (inst.St to value) w a = others-more (inst.St to value) w a
  comes-more (inst.Sig x) w a = others-more (inst.Sig x) w a
  comes-more (inst.Drv to value after cond) w a = others-more (inst.Drv to value after cond) w a
  comes-more (inst.Reg to triggers) w a = others-more (inst.Reg to triggers) w a
  comes-more (inst.Child u inputs outputs) w a = others-more (inst.Child u inputs outputs) w a
  comes-more (inst.Call u result args) w a = others-more (inst.Call u result args) w a
  comes-more (inst.Phi ty edges) w a = others-more (inst.Phi ty edges) w a
  comes-more (inst.Br to) w a = others-more (inst.Br to) w a
  comes-more (inst.Branch cond first second) w a = others-more (inst.Branch cond first second) w a
  comes-more (inst.Wait to after signals) w a = others-more (inst.Wait to after signals) w a
  comes-more inst.Halt w a = others-more inst.Halt w a
  comes-more (inst.Ret None) w a = others-more (inst.Ret None) w a
  comes-more (inst.Ret (Some x)) w a = others-more (inst.Ret (Some x)) w a

-- marks are a test
marked-by : (marks : List Bool) (i : Inst) → comes_from marks i ≡ comes_by (λ v. get_or marks v.0 false) i
marked-by marks (inst.Prb x) = refl
marked-by marks (inst.Const d) = refl
marked-by marks (inst.Pure o args) = refl
marked-by marks (inst.Var x) = refl
marked-by marks (inst.Ld x) = refl
marked-by marks (inst.St to value) = refl
marked-by marks (inst.Sig x) = refl
marked-by marks (inst.Drv to value after cond) = refl
marked-by marks (inst.Reg to triggers) = refl
marked-by marks (inst.Child u inputs outputs) = refl
marked-by marks (inst.Call u result args) = refl
marked-by marks (inst.Phi ty edges) = refl
marked-by marks (inst.Br to) = refl
marked-by marks (inst.Branch cond first second) = refl
marked-by marks (inst.Wait to after signals) = refl
marked-by marks inst.Halt = refl
marked-by marks (inst.Ret None) = refl
marked-by marks (inst.Ret (Some x)) = refl

-- a test of names is one of ids
module _ (f : Naming) (D : List ℕ → Bool) where
  any-named : (us : List Use) → list_any D (map (λ (x : kinds.Use). x.value) (map (use_text f) us)) ≡ list_any (λ (x : Use). D (value_text f x.value)) us
  any-named [] = refl
  any-named (x ∷ us) = ap (λ z. D (value_text f x.value) || z) (any-named us)

  others-named : (i : Inst) → list_any D (values_named (inst_text f i)) ≡ list_any (λ (x : Use). D (value_text f x.value)) (uses_of i)
  others-named i = ap (λ l. list_any D (map (λ (x : kinds.Use). x.value) l)) (sym (uses-text f i)) ∙ any-named (uses_of i)

  named-by : (i : Inst) → comes_from_probe D (inst_text f i) ≡ comes_by (λ v. D (value_text f v)) i
  named-by (inst.Prb x) = refl
  named-by (inst.Const d) = others-named (inst.Const d)
  named-by (inst.Pure o args) = others-named (inst.Pure o args)
  named-by (inst.Var x) = others-named (inst.Var x)
  named-by (inst.Ld x) = others-named (inst.Ld x)
  named-by (inst.St to value) = others-named (inst.St to value)
  named-by (inst.Sig x) = others-named (inst.Sig x)
  named-by (inst.Drv to value after cond) = others-named (inst.Drv to value after cond)
  named-by (inst.Reg to triggers) = others-named (inst.Reg to triggers)
  named-by (inst.Child u inputs outputs) = others-named (inst.Child u inputs outputs)
  named-by (inst.Call u result args) = others-named (inst.Call u result args)
  named-by (inst.Phi ty edges) = others-named (inst.Phi ty edges)
  named-by (inst.Br to) = others-named (inst.Br to)
  named-by (inst.Branch cond first second) = others-named (inst.Branch cond first second)
  named-by (inst.Wait to after signals) = others-named (inst.Wait to after signals)
  named-by inst.Halt = others-named inst.Halt
  named-by (inst.Ret None) = others-named (inst.Ret None)
  named-by (inst.Ret (Some x)) = others-named (inst.Ret (Some x))

-- ---- the line that gives a value

-- the line that gives a value is led, where all lines are
making-led : (n : ℕ) (turns : List ℕ) (ls : List TableLine) (v : ValueId) (i : Inst) → all_led n turns ls ≡ true → inst_making ls v.0 ≡ Some i → result_led n turns (Some v) i ≡ true
making-led n turns [] v i h e = absurd cc
making-led n turns (l ∷ ls) v i h e = by (is_result l.result v.0) refl e (making-led n turns ls v i (and_parts (line_led n turns l) (all_led n turns ls) h).1)
  where
    here : (r : Option ValueId) → is_result r v.0 ≡ true → result_led n turns r l.inst ≡ true → result_led n turns (Some v) l.inst ≡ true
    here None t q = absurd cc
    here (Some w) t q = let k : w.0 ≡ v.0 = nat_eq-is w.0 v.0 t in let z : w ≡ v = λ j. record { 0 = k j } in subst (λ (x : ValueId). result_led n turns (Some x) l.inst ≡ true) z q

    by : (c : Bool) → is_result l.result v.0 ≡ c → (if c then Some l.inst else inst_making ls v.0) ≡ Some i → (inst_making ls v.0 ≡ Some i → result_led n turns (Some v) i ≡ true)
        → result_led n turns (Some v) i ≡ true
    by true q g r = subst (λ (x : Inst). result_led n turns (Some v) x ≡ true) (some_inj l.inst i g) (here l.result q (and_parts (line_led n turns l) (all_led n turns ls) h).0)
    by false q g r = r g

-- a value that comes from something has a line
some-line : (T : Inst → Bool) (o : Option Inst) → option_map_or T o false ≡ true → (i : Inst) × (o ≡ Some i) × (T i ≡ true)
some-line T None e = absurd cc
some-line T (Some i) e = (i, refl, e)

-- ---- marks by turns

with_turns-length : (turns : List ℕ) → length (with_turns turns) ≡ length turns
with_turns-length [] = refl
with_turns-length (t ∷ ts) = ap suc (with_turns-length ts)

with_turns-at : (turns : List ℕ) (v : ℕ) → get_or (with_turns turns) v false ≡ not (nat_eq (get_or turns v 0) 0)
with_turns-at [] v = refl
with_turns-at (t ∷ ts) zero = refl
with_turns-at (t ∷ ts) (suc v) = with_turns-at ts v

not-zero : (a : ℕ) → nat_eq a 0 ≡ false → a ≤ 0 → ⊥
not-zero a e h = grind (arith, nat_tests)

module _ (a : Arena) (u : ℕ) (o : IsArena a) (h : u < unit_count a) (turns : List ℕ)
    (led : all_led (inst_count a u) turns (table_at a u).lines ≡ true)
    (closed : Advances (table_at a u).lines (with_turns turns) (value_count a u) (with_turns turns)) where
  -- the value comes from a `prb` within k instructions
  abbrev within : ℕ → ValueId → Bool
  within k v = depends_on_probe k (unit_text_at a u) (value_text (naming a u) v)

  abbrev marked : ValueId → Bool
  marked v = get_or (with_turns turns) v.0 false

  abbrev making : ValueId → Option Inst
  making v = inst_making (table_at a u).lines v.0

  placed : (v : ValueId) (i : Inst) → making v ≡ Some i → InstWithin (sizes a u) i
  placed v i e = making-has (InstWithin (sizes a u)) (table_at a u).lines (λ j l q. o.placed u j l q) v.0 i e

  giving : (D : List ℕ → Bool) (g : Option Inst) → option_map_or (comes_from_probe D) (option_map (inst_text (naming a u)) g) false
      ≡ option_map_or (comes_by (λ v. D (value_text (naming a u) v))) g false
  giving D None = refl
  giving D (Some i) = named-by (naming a u) D i

  within-step : (k : ℕ) (v : ValueId) → v.0 < value_count a u → within (suc k) v ≡ option_map_or (comes_by (within k)) (making v) false
  within-step k v w =
      ap (λ z. option_map_or (comes_from_probe (depends_on_probe k (unit_text_at a u))) z false) (inst_giving-by_id a u o h v.0 w)
      ∙ giving (depends_on_probe k (unit_text_at a u)) (making v)

  marking : (g : Option Inst) → option_map_or (comes_from (with_turns turns)) g false ≡ option_map_or (comes_by marked) g false
  marking None = refl
  marking (Some i) = marked-by (with_turns turns) i

  marked-step : (v : ValueId) → v.0 < value_count a u → marked v ≡ option_map_or (comes_by marked) (making v) false
  marked-step v w =
      closed.marked v.0 (marked v) (slice_get-get_or (with_turns turns) v.0 false (omega (arith, w, closed.long)))
      ∙ marking (making v)

  -- what comes from a `prb` is marked
  complete : (k : ℕ) (v : ValueId) → v.0 < value_count a u → within k v ≡ true → marked v ≡ true
  complete zero v w e = absurd cc
  complete (suc k) v w e =
      let x = some-line (comes_by (within k)) (making v) (sym (within-step k v w) ∙ e) in
      marked-step v w ∙ ap (λ z. option_map_or (comes_by marked) z false) x.1
      ∙ comes-more (sizes a u) (within k) marked (λ y p q. complete k y p q) x.0 (placed v x.0 x.1) x.2

  -- what has a turn comes from a `prb` within as many instructions
  has-turn : (v : ValueId) → marked v ≡ not (nat_eq (turn_of turns v) 0)
  has-turn v = with_turns-at turns v.0

  led-by : (v : ValueId) → v.0 < value_count a u → marked v ≡ true → (i : Inst) × (making v ≡ Some i)
      × ((nat_le (turn_of turns v) (inst_count a u) && comes_by (is_before turns (turn_of turns v)) i) ≡ true)
  led-by v w e =
      let x = some-line (comes_by marked) (making v) (sym (marked-step v w) ∙ e) in
      let q : nat_eq (turn_of turns v) 0 ≡ false = not-true (nat_eq (turn_of turns v) 0) (sym (has-turn v) ∙ e) in
      let r : result_led (inst_count a u) turns (Some v) x.0 ≡ true = making-led (inst_count a u) turns (table_at a u).lines v x.0 led x.1 in
      (x.0, x.1, sym (ap (λ z. z || (nat_le (turn_of turns v) (inst_count a u) && comes_by (is_before turns (turn_of turns v)) x.0)) q) ∙ r)

  sound : (r : ℕ) (v : ValueId) → v.0 < value_count a u → marked v ≡ true → turn_of turns v ≤ r → within r v ≡ true
  sound zero v w e t =
      let q : nat_eq (turn_of turns v) 0 ≡ false = not-true (nat_eq (turn_of turns v) 0) (sym (has-turn v) ∙ e) in
      absurd (not-zero (turn_of turns v) q t)
  sound (suc r) v w e t =
      let x = led-by v w e in
      let y = and_parts (nat_le (turn_of turns v) (inst_count a u)) (comes_by (is_before turns (turn_of turns v)) x.0) x.2 in
      within-step r v w ∙ ap (λ z. option_map_or (comes_by (within r)) z false) x.1
      ∙ comes-more (sizes a u) (is_before turns (turn_of turns v)) (within r)
      (λ z p q.
      let b = and_parts (not (nat_eq (turn_of turns z) 0)) (nat_lt (turn_of turns z) (turn_of turns v)) q in
      let l : turn_of turns z < turn_of turns v = ltb-true (turn_of turns z) (turn_of turns v) b.1 in
      sound r z p (has-turn z ∙ b.0) (omega (arith, l, t)))
      x.0 (placed v x.0 x.1) y.1

  same : (v : ValueId) → v.0 < value_count a u → (x : Bool) → marked v ≡ x → (y : Bool) → within (inst_count a u + 1) v ≡ y → x ≡ y
  same v w true e true q = refl
  same v w false e false q = refl
  same v w false e true q = sym e ∙ complete (inst_count a u + 1) v w q
  same v w true e false q =
      let x = led-by v w e in
      let y = and_parts (nat_le (turn_of turns v) (inst_count a u)) (comes_by (is_before turns (turn_of turns v)) x.0) x.2 in
      let m : turn_of turns v ≤ inst_count a u = leb-true (turn_of turns v) (inst_count a u) y.0 in
      let l : turn_of turns v ≤ inst_count a u + 1 = omega (arith, m) in
      sym (sound (inst_count a u + 1) v w e l) ∙ q

  pub turns-reach : Reaches a u (inst_count a u + 1) (with_turns turns)
  turns-reach = record {
    long = closed.long;
    marked = λ v x g.
        let z : ValueId = record { 0 = v } in
        let w : v < value_count a u = omega (arith, slice_get_within (with_turns turns) v x g, closed.long) in
        let m : marked z ≡ x = some_inj (marked z) x (sym (slice_get-get_or (with_turns turns) v false (omega (arith, w, closed.long))) ∙ g) in
        same z w x m (within (inst_count a u + 1) z) refl;
  }
