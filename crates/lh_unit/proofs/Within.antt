-- An instruction that is in place stays in place as tables grow.
use Rattle.std.proofs.Common.{◌≤◌, List, [], ◌∷◌, Option, Some, None, arith}
use Rattle.lh_unit.specs.Within.{Sizes, Each, ValueWithin, MaybeWithin, OperandWithin, TriggerWithin, EdgeWithin, InstWithin}
use Rattle.lh_unit.specs.declared.inst.Typed.{Typed}
use Rattle.lh_unit.specs.declared.inst.RegTrigger.{RegTrigger}
use Rattle.lh_unit.specs.declared.inst.PhiEdge.{PhiEdge}
use Rattle.lh_unit.specs.declared.inst.ValueId.{ValueId}
use Rattle.lh_unit.specs.declared.inst.Inst.{Inst}
use Rattle.lh_unit.specs.declared.inst.Inst.TheVariants as inst

pub Each-more : {X : Type 0} (P Q : X → Type 0) (xs : List X) → ((x : X) → P x → Q x) → Each P xs → Each Q xs
Each-more P Q [] h w = tt
Each-more P Q (x ∷ xs) h w = (h x w.0, Each-more P Q xs h w.1)

module _ (s t : Sizes) (u : s.units ≤ t.units) (v : s.values ≤ t.values) (b : s.labels ≤ t.labels) where
  value : (x : ValueId) → ValueWithin s x → ValueWithin t x
  value x h = omega (arith, h, v)

  pub MaybeWithin-more : (x : Option ValueId) → MaybeWithin s x → MaybeWithin t x
  MaybeWithin-more None h = tt
  MaybeWithin-more (Some x) h = value x h

  pub OperandWithin-more : (x : Typed) → OperandWithin s x → OperandWithin t x
  OperandWithin-more x h = value x.value h

  pub TriggerWithin-more : (x : RegTrigger) → TriggerWithin s x → TriggerWithin t x
  TriggerWithin-more x h = (value x.value h.0, value x.trigger h.1, MaybeWithin-more x.gate h.2, MaybeWithin-more x.after h.3)

  pub EdgeWithin-more : (x : PhiEdge) → EdgeWithin s x → EdgeWithin t x
  EdgeWithin-more x h = (value x.value h.0, omega (arith, h.1, b))

  operands : (xs : List Typed) → Each (OperandWithin s) xs → Each (OperandWithin t) xs
  operands xs = Each-more (OperandWithin s) (OperandWithin t) xs OperandWithin-more

  within : (i : Inst) → InstWithin s i → InstWithin t i
  within (inst.Const x) h = tt
  within (inst.Pure op args) h = operands args h
  within (inst.Var x) h = OperandWithin-more x h
  within (inst.Ld x) h = OperandWithin-more x h
  within (inst.St to x) h = (OperandWithin-more to h.0, value x h.1)
  within (inst.Sig x) h = OperandWithin-more x h
  within (inst.Prb x) h = OperandWithin-more x h
  within (inst.Drv to x after cond) h = (OperandWithin-more to h.0, value x h.1, value after h.2, MaybeWithin-more cond h.3)
  within (inst.Reg to triggers) h = (OperandWithin-more to h.0, Each-more (TriggerWithin s) (TriggerWithin t) triggers TriggerWithin-more h.1)
  within (inst.Child unit inputs outputs) h = (omega (arith, h.0, u), operands inputs h.1, operands outputs h.2)
  within (inst.Call unit result args) h = (omega (arith, h.0, u), operands args h.1)
  within (inst.Phi ty edges) h = Each-more (EdgeWithin s) (EdgeWithin t) edges EdgeWithin-more h
  within (inst.Br to) h = omega (arith, h, b)
  within (inst.Branch cond zero one) h = (value cond h.0, omega (arith, h.1, b), omega (arith, h.2, b))
  within (inst.Wait to after signals) h = (omega (arith, h.0, b), MaybeWithin-more after h.1, Each-more (ValueWithin s) (ValueWithin t) signals value h.2)
  within inst.Halt h = tt
  within (inst.Ret None) h = tt
  within (inst.Ret (Some x)) h = OperandWithin-more x h

pub InstWithin-more : (s t : Sizes) (i : Inst) → s.units ≤ t.units → s.values ≤ t.values → s.labels ≤ t.labels → InstWithin s i → InstWithin t i
InstWithin-more s t i u v b h = within s t u v b i h
