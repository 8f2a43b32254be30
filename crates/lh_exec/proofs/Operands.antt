-- What an instruction asks of its operands is there, where what is held fits.
use Rattle.std.proofs.Common.{◌≡◌, ℕ, ◌<◌, ◌^◌, List, [], ◌∷◌, length, map, Bool, true, false, Option, Some, None, Result, IfOk, IfSome, if◌then◌else◌, inl, inr, ◌⊎◌, ap, sym, ◌∙◌, subst, arith}
use Rattle.std.specs.Option.{option_map}
use Rattle.lh_time.specs.declared.Instant.{Instant}
use Rattle.lh_types.specs.Types.{TypeTree}
use Rattle.lh_types.specs.declared.op.Op.{Op}
use Rattle.lh_types.specs.declared.memory.NoMemory.{NoMemory}
use Rattle.lh_unit.specs.Contents.{UnitText}
use Rattle.lh_unit.specs.Named.{function_named}
use Rattle.lh_unit_names.specs.UnitNames.{is_assert}
use Rattle.lh_unit.specs.Activation.{Scene, executes, tells, opens, asserted, called, returns, functions}
use Rattle.lh_unit.specs.Arena.{Arena, InstPlaced, contents, naming, sizes, kind_at, blocks_at, unit_count, value_count, unit_name_at, unit_text_at}
use Rattle.lh_unit.specs.Held.{data_at}
use Rattle.lh_unit.specs.Naming.{Naming, inst_text, maybe_text, operand_text}
use Rattle.lh_unit.specs.Table.{HasBlocks, is_block}
use Rattle.lh_unit.specs.WellFormed.{IsWellFormed}
use Rattle.lh_unit.specs.Within.{Each, OperandWithin, ValueWithin, MaybeWithin}
use Rattle.lh_unit.specs.declared.inst.UnitId.{UnitId}
use Rattle.lh_unit.specs.declared.inst.BlockId.{BlockId}
use Rattle.lh_unit.specs.declared.inst.ValueId.{ValueId}
use Rattle.lh_unit.specs.declared.inst.Typed.{Typed}
use Rattle.lh_unit.specs.declared.inst.Inst.{Inst}
use Rattle.lh_unit.specs.declared.inst.Inst.TheVariants as inst
use Rattle.lh_verify_laws.specs.Calls.{AssertIsRight, FunctionIsRight}
use Rattle.lh_eval.specs.Holding.{MaybeIn, part_in, datum_in}
use Rattle.lh_eval.specs.Fitting.{Fits, OperandsFit, ProbeFits, DriveFits}
use Rattle.lh_eval_laws.proofs.SlotsFit.{operation-has, probe-has, drive-has}
use Rattle.lh_exec.specs.declared.machine.Machine.{Machine}
use Rattle.lh_exec.specs.declared.machine.Flow.{Flow}
use Rattle.lh_exec.specs.Standing.{Does, InstLeads, scene_of}
use Rattle.lh_exec.specs.Sound.{LineRight, MachineFits}
use Rattle.lh_exec.proofs.KeepsFit.{function-is}
use Rattle.lh_exec.proofs.Rights.{called-unit, label-stands}

-- the clause of an instruction
pub arm : (r : Result Flow NoMemory) (a : Arena) (old new : Machine) (s : Scene) (f : Naming) (n : Option (List ℕ)) (i j : Inst) → i ≡ j → Does r a old new (executes s (inst_text f j) n)
    → Does r a old new (executes s (inst_text f i) n)
arm r a old new s f n i j e k = subst (λ (x : Inst). Does r a old new (executes s (inst_text f x) n)) (sym e) k

-- a `ret`, whether it has an operand or not
pub ret-leads : (a : Arena) (m n : Machine) (r : Result Flow NoMemory) (s : Scene) (o : Option Typed) (name : Option (List ℕ))
    → Does r a m n (λ p. returns p (option_map (operand_text (naming a m.frame.unit.0)) o) p.callers)
    → Does r a m n (executes s (inst_text (naming a m.frame.unit.0) (inst.Ret o)) name)
ret-leads a m n r s None name k = k
ret-leads a m n r s (Some o) name k = k

module _ (a : Arena) (w : ℕ) (m : Machine) (f : MachineFits a w m) where
  pub slots-long : length m.frame.slots ≡ value_count a m.frame.unit.0
  slots-long = f.is.frame.held.long

  pub in-slots : (v : ValueId) → ValueWithin (sizes a m.frame.unit.0) v → v.0 < length m.frame.slots
  in-slots v h = omega (arith, h, slots-long)

  pub maybe-slots : (v : Option ValueId) → MaybeWithin (sizes a m.frame.unit.0) v → MaybeIn m.frame.slots v
  maybe-slots None h = tt
  maybe-slots (Some v) h = in-slots v h

  pub all-slots : (os : List Typed) → Each (OperandWithin (sizes a m.frame.unit.0)) os → Each (λ (o : Typed). o.value.0 < length m.frame.slots) os
  all-slots [] h = tt
  all-slots (o ∷ os) h = (in-slots o.value h.0, all-slots os h.1)

  pub values-slots : (vs : List ValueId) → Each (ValueWithin (sizes a m.frame.unit.0)) vs → Each (λ (v : ValueId). v.0 < length m.frame.slots) vs
  values-slots [] h = tt
  values-slots (v ∷ vs) h = (in-slots v h.0, values-slots vs h.1)

  pub ret-slots : (o : Option Typed) → InstPlaced a m.frame.unit.0 (inst.Ret o) → IfSome o (λ (x : Typed). x.value.0 < length m.frame.slots)
  ret-slots None h = tt
  ret-slots (Some o) h = in-slots o.value h

  fits-here : Fits (unit_text_at a m.frame.unit.0) w f.point.control.held
  fits-here = subst (λ (v : UnitText). Fits v w f.point.control.held) f.is.frame.unit f.fits.control.fits

  abbrev Right : Option ValueId → Inst → Type 0
  Right name i = LineRight (contents a) (unit_text_at a m.frame.unit.0) (record { result = maybe_text (naming a m.frame.unit.0) name; inst = inst_text (naming a m.frame.unit.0) i })

  pub pure-has : w < 2 ^ 32 → (name : Option ValueId) (i : Inst) (o : Op) (args xs : List Typed) → i ≡ inst.Pure o args → xs ≡ args → Right name i → InstPlaced a m.frame.unit.0 i
      → OperandsFit a m.frame.unit.0 m.frame.slots o xs
  pure-has few name i o args xs e g r p =
      let r' = subst (Right name) e r in
      subst (OperandsFit a m.frame.unit.0 m.frame.slots o) (sym g)
      (operation-has a m.frame.unit.0 w m.frame.slots f.point.control.held f.is.frame.held fits-here few o args (subst (InstPlaced a m.frame.unit.0) e p) r'.sound.row r'.sound.written)

  pub prb-has : (now : List Bool) → length now ≡ w → (name : Option ValueId) (i : Inst) (s : Typed) → i ≡ inst.Prb s → Right name i → InstPlaced a m.frame.unit.0 i → ProbeFits now m.frame.slots s
  prb-has now l name i s e r p =
      let r' = subst (Right name) e r in
      probe-has a m.frame.unit.0 w m.frame.slots f.point.control.held f.is.frame.held fits-here now l s (in-slots s.value (subst (InstPlaced a m.frame.unit.0) e p)) r'.sound.row

  pub drv-has : w < 2 ^ 32 → (name : Option ValueId) (i : Inst) (to : Typed) (value after : ValueId) (cond : Option ValueId) → i ≡ inst.Drv to value after cond → Right name i
      → InstPlaced a m.frame.unit.0 i → DriveFits (part_in m.frame.slots to.value) (datum_in m.frame.slots value)
  drv-has few name i to value after cond e r p =
      let r' = subst (Right name) e r in
      let p' = subst (InstPlaced a m.frame.unit.0) e p in
      drive-has a m.frame.unit.0 w m.frame.slots f.point.control.held f.is.frame.held fits-here few to.value value r'.sound.row.0 (in-slots to.value p'.0) (in-slots value p'.1) r'.sound.row.1.1
      r'.sound.row.2

  module _ (g : IsWellFormed (contents a)) where
    function-blocks : (v : UnitId) (ty : TypeTree) (args : List Typed) (n : Option ValueId) → v.0 < unit_count a → is_assert (unit_name_at a v.0) ≡ false
        → ((is_assert (unit_name_at a v.0) ≡ true) × AssertIsRight (unit_text_at a m.frame.unit.0) ty (map (operand_text (naming a m.frame.unit.0)) args))
        ⊎ ((is_assert (unit_name_at a v.0) ≡ false) × FunctionIsRight (contents a) (unit_text_at a m.frame.unit.0) (unit_name_at a v.0) ty (map (operand_text (naming a m.frame.unit.0)) args))
        → HasBlocks (kind_at a v.0)
    function-blocks v ty args n h free (inl x) = absurd cc
    function-blocks v ty args n h free (inr x) = (called-unit a f.is.arena g v.0 h x.1.of x.1.named x.1.function).1

    pub call-blocks : (name : Option ValueId) (i : Inst) (v : UnitId) (ty : TypeTree) (args : List Typed) → i ≡ inst.Call v ty args → Right name i → InstPlaced a m.frame.unit.0 i
        → is_assert (unit_name_at a v.0) ≡ false → HasBlocks (kind_at a v.0)
    call-blocks name i v ty args e r p n = function-blocks v ty args name (subst (InstPlaced a m.frame.unit.0) e p).0 n (subst (Right name) e r).named

    -- what a call leads to, by the unit's id
    pub call-leads : (res : Result Flow NoMemory) (n : Machine) (now : List Bool) (t : Instant) (name : Option ValueId) (v : UnitId) (ty : TypeTree) (args : List Typed) → v.0 < unit_count a
        → Right name (inst.Call v ty args)
        → Does res a m n (λ p. if is_assert (unit_name_at a v.0) then tells p (asserted p.control.held (map (operand_text (naming a m.frame.unit.0)) args)) else opens p
        (maybe_text (naming a m.frame.unit.0) name) (called (Some (unit_text_at a v.0)) (data_at p.control.held (map (operand_text (naming a m.frame.unit.0)) args))))
        → Does res a m n (executes (scene_of a now t) (inst_text (naming a m.frame.unit.0) (inst.Call v ty args)) (maybe_text (naming a m.frame.unit.0) name))
    call-leads res n now t name v ty args h r k = by r.named
      where
        by : ((is_assert (unit_name_at a v.0) ≡ true) × AssertIsRight (unit_text_at a m.frame.unit.0) ty (map (operand_text (naming a m.frame.unit.0)) args))
            ⊎ ((is_assert (unit_name_at a v.0) ≡ false) × FunctionIsRight (contents a) (unit_text_at a m.frame.unit.0) (unit_name_at a v.0) ty (map (operand_text (naming a m.frame.unit.0)) args))
            → Does res a m n (executes (scene_of a now t) (inst_text (naming a m.frame.unit.0) (inst.Call v ty args)) (maybe_text (naming a m.frame.unit.0) name))
        by (inl x) = λ p st.
            subst (λ (b : Bool). IfOk res (λ fl. InstLeads a n fl p.control.unit
            (if b then tells p (asserted p.control.held (map (operand_text (naming a m.frame.unit.0)) args)) else opens p (maybe_text (naming a m.frame.unit.0) name)
            (called (function_named (unit_name_at a v.0) (functions (contents a))) (data_at p.control.held (map (operand_text (naming a m.frame.unit.0)) args)))))) (sym x.0)
            (subst (λ (b : Bool). IfOk res (λ fl. InstLeads a n fl p.control.unit
            (if b then tells p (asserted p.control.held (map (operand_text (naming a m.frame.unit.0)) args)) else opens p (maybe_text (naming a m.frame.unit.0) name)
            (called (Some (unit_text_at a v.0)) (data_at p.control.held (map (operand_text (naming a m.frame.unit.0)) args)))))) x.0 (k p st))
        by (inr x) =
            let of = (called-unit a f.is.arena g v.0 h x.1.of x.1.named x.1.function).0 in
            let found : function_named (unit_name_at a v.0) (functions (contents a)) ≡ Some (unit_text_at a v.0) = function-is (unit_name_at a v.0) (contents a) x.1.of x.1.named x.1.function
            ∙ ap Some of in
            λ p st. subst (λ (o : Option UnitText). IfOk res
            (λ fl. InstLeads a n fl p.control.unit (if is_assert (unit_name_at a v.0) then tells p (asserted p.control.held (map (operand_text (naming a m.frame.unit.0)) args)) else opens p
            (maybe_text (naming a m.frame.unit.0) name) (called o (data_at p.control.held (map (operand_text (naming a m.frame.unit.0)) args)))))) (sym found) (k p st)

    pub br-stands : (name : Option ValueId) (i : Inst) (to : BlockId) → i ≡ inst.Br to → Right name i → InstPlaced a m.frame.unit.0 i → is_block (blocks_at a m.frame.unit.0) to.0 ≡ true
    br-stands name i to e r p = label-stands a f.is.arena g m.frame.unit.0 f.is.frame.within f.is.frame.has_blocks to.0 (subst (InstPlaced a m.frame.unit.0) e p) (subst (Right name) e r).labels.0

    pub zero-stands : (name : Option ValueId) (i : Inst) (cond : ValueId) (zero one : BlockId) → i ≡ inst.Branch cond zero one → Right name i → InstPlaced a m.frame.unit.0 i
        → is_block (blocks_at a m.frame.unit.0) zero.0 ≡ true
    zero-stands name i cond zero one e r p = label-stands a f.is.arena g m.frame.unit.0 f.is.frame.within f.is.frame.has_blocks zero.0 (subst (InstPlaced a m.frame.unit.0) e p).1
        (subst (Right name) e r).labels.0

    pub one-stands : (name : Option ValueId) (i : Inst) (cond : ValueId) (zero one : BlockId) → i ≡ inst.Branch cond zero one → Right name i → InstPlaced a m.frame.unit.0 i
        → is_block (blocks_at a m.frame.unit.0) one.0 ≡ true
    one-stands name i cond zero one e r p = label-stands a f.is.arena g m.frame.unit.0 f.is.frame.within f.is.frame.has_blocks one.0 (subst (InstPlaced a m.frame.unit.0) e p).2
        (subst (Right name) e r).labels.1.0
