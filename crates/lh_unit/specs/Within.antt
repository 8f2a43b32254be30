-- Every id that an instruction holds is an entry.
use Rattle.std.specs.Prelude.{ℕ, ◌<◌, List, [], ◌∷◌, length, Option, Some, None}
use Rattle.lh_unit.specs.Table.{Table}
use Rattle.lh_unit.specs.declared.inst.Typed.{Typed}
use Rattle.lh_unit.specs.declared.inst.RegTrigger.{RegTrigger}
use Rattle.lh_unit.specs.declared.inst.PhiEdge.{PhiEdge}
use Rattle.lh_unit.specs.declared.inst.ValueId.{ValueId}
use Rattle.lh_unit.specs.declared.inst.Inst.{Inst}
use Rattle.lh_unit.specs.declared.inst.Inst.TheVariants as inst

-- how many units a module has, and how many values and labels one of them has
pub record Sizes : Type 0 where
  pub units : ℕ
  pub values : ℕ
  pub labels : ℕ

-- the sizes of a unit with this table, in a module with n units
abbrev pub sizes_of : ℕ → Table → Sizes
sizes_of n t = record { units = n; values = length t.values; labels = length t.labels }

-- each item of a list
abbrev pub Each : {X : Type 0} → (X → Type 0) → List X → Type 0
Each P [] = Unit {0}
Each P (x ∷ more) = P x × Each P more

abbrev pub ValueWithin : Sizes → ValueId → Type 0
ValueWithin s v = v.0 < s.values

abbrev pub MaybeWithin : Sizes → Option ValueId → Type 0
MaybeWithin s None = Unit {0}
MaybeWithin s (Some v) = ValueWithin s v

abbrev pub OperandWithin : Sizes → Typed → Type 0
OperandWithin s t = ValueWithin s t.value

abbrev pub TriggerWithin : Sizes → RegTrigger → Type 0
TriggerWithin s t = ValueWithin s t.value × ValueWithin s t.trigger × MaybeWithin s t.gate × MaybeWithin s t.after

abbrev pub EdgeWithin : Sizes → PhiEdge → Type 0
EdgeWithin s e = ValueWithin s e.value × (e.block.0 < s.labels)

-- each id of an instruction is an entry
abbrev pub InstWithin : Sizes → Inst → Type 0
InstWithin s (inst.Const v) = Unit {0}
InstWithin s (inst.Pure op args) = Each (OperandWithin s) args
InstWithin s (inst.Var t) = OperandWithin s t
InstWithin s (inst.Ld t) = OperandWithin s t
InstWithin s (inst.St to value) = OperandWithin s to × ValueWithin s value
InstWithin s (inst.Sig t) = OperandWithin s t
InstWithin s (inst.Prb t) = OperandWithin s t
InstWithin s (inst.Drv to value after cond) = OperandWithin s to × ValueWithin s value × ValueWithin s after × MaybeWithin s cond
InstWithin s (inst.Reg to triggers) = OperandWithin s to × Each (TriggerWithin s) triggers
InstWithin s (inst.Child unit inputs outputs) = (unit.0 < s.units) × Each (OperandWithin s) inputs × Each (OperandWithin s) outputs
InstWithin s (inst.Call unit result args) = (unit.0 < s.units) × Each (OperandWithin s) args
InstWithin s (inst.Phi ty edges) = Each (EdgeWithin s) edges
InstWithin s (inst.Br to) = to.0 < s.labels
InstWithin s (inst.Branch cond zero one) = ValueWithin s cond × (zero.0 < s.labels) × (one.0 < s.labels)
InstWithin s (inst.Wait to after signals) = (to.0 < s.labels) × MaybeWithin s after × Each (ValueWithin s) signals
InstWithin s inst.Halt = Unit {0}
InstWithin s (inst.Ret None) = Unit {0}
InstWithin s (inst.Ret (Some t)) = OperandWithin s t
