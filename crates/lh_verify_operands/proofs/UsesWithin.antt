-- The operands of an instruction that is in place are in place.
use Rattle.std.proofs.Common.{List, [], ◌∷◌, Option, Some, None}
use Rattle.lh_unit.specs.Within.{Sizes, Each, OperandWithin, ValueWithin, MaybeWithin, TriggerWithin, EdgeWithin, InstWithin}
use Rattle.lh_unit.specs.declared.inst.ValueId.{ValueId}
use Rattle.lh_unit.specs.declared.inst.Typed.{Typed}
use Rattle.lh_unit.specs.declared.inst.RegTrigger.{RegTrigger}
use Rattle.lh_unit.specs.declared.inst.PhiEdge.{PhiEdge}
use Rattle.lh_unit.specs.declared.inst.Inst.{Inst}
use Rattle.lh_unit.specs.declared.inst.Inst.TheVariants as inst
use Rattle.lh_verify_operands.specs.declared.uses.Need.{Need}
use Rattle.lh_verify_operands.specs.declared.uses.Need.TheVariants.{Data, Time, Signal, DataOrTime}
use Rattle.lh_verify_operands.specs.Operands.{UseWithin}
use Rattle.lh_verify_operands.specs.Uses.{uses_of, all_used, values_used, maybe_used, edges_used, trigger_uses, triggers_uses, operation_need}
use Rattle.lh_unit.proofs.Lists.{Each-append}

all-within : (s : Sizes) (n : Need) (os : List Typed) → Each (OperandWithin s) os → Each (UseWithin s) (all_used n os)
all-within s n [] h = tt
all-within s n (o ∷ os) h = (h.0, all-within s n os h.1)

values-within : (s : Sizes) (n : Need) (vs : List ValueId) → Each (ValueWithin s) vs → Each (UseWithin s) (values_used n vs)
values-within s n [] h = tt
values-within s n (v ∷ vs) h = (h.0, values-within s n vs h.1)

maybe-within : (s : Sizes) (n : Need) (v : Option ValueId) → MaybeWithin s v → Each (UseWithin s) (maybe_used n v)
maybe-within s n None h = tt
maybe-within s n (Some v) h = (h, tt)

edges-within : (s : Sizes) (es : List PhiEdge) → Each (EdgeWithin s) es → Each (UseWithin s) (edges_used es)
edges-within s [] h = tt
edges-within s (e ∷ es) h = (h.0.0, edges-within s es h.1)

triggers-within : (s : Sizes) (gs : List RegTrigger) → Each (TriggerWithin s) gs → Each (UseWithin s) (triggers_uses gs)
triggers-within s [] h = tt
triggers-within s (g ∷ gs) h =
    Each-append (UseWithin s) (trigger_uses g) (triggers_uses gs)
    (h.0.0, (h.0.1, Each-append (UseWithin s) (maybe_used Data g.gate) (maybe_used Time g.after) (maybe-within s Data g.gate h.0.2) (maybe-within s Time g.after h.0.3)))
    (triggers-within s gs h.1)

pub uses-within : (s : Sizes) (i : Inst) → InstWithin s i → Each (UseWithin s) (uses_of i)
uses-within s (inst.Const d) h = tt
uses-within s (inst.Pure o args) h = all-within s (operation_need o args) args h
uses-within s (inst.Var a) h = (h, tt)
uses-within s (inst.Ld p) h = (h, tt)
uses-within s (inst.St to value) h = (h.0, (h.1, tt))
uses-within s (inst.Sig a) h = (h, tt)
uses-within s (inst.Prb a) h = (h, tt)
uses-within s (inst.Drv to value after cond) h = (h.0, (h.1, (h.2, maybe-within s Data cond h.3)))
uses-within s (inst.Reg to triggers) h = (h.0, triggers-within s triggers h.1)
uses-within s (inst.Child u inputs outputs) h = Each-append (UseWithin s) (all_used Signal inputs) (all_used Signal outputs) (all-within s Signal inputs h.1) (all-within s Signal outputs h.2)
uses-within s (inst.Call u result args) h = all-within s DataOrTime args h.1
uses-within s (inst.Phi ty edges) h = edges-within s edges h
uses-within s (inst.Br to) h = tt
uses-within s (inst.Branch cond zero one) h = (h.0, tt)
uses-within s (inst.Wait to after signals) h = Each-append (UseWithin s) (maybe_used Time after) (values_used Signal signals) (maybe-within s Time after h.1) (values-within s Signal signals h.2)
uses-within s inst.Halt h = tt
uses-within s (inst.Ret None) h = tt
uses-within s (inst.Ret (Some o)) h = (h, tt)
