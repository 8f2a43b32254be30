-- The operands of an instruction by ids, and of which kind each must be.
use Rattle.std.specs.Prelude.{List, [], ◌∷◌, ◌++◌, map, Option, Some, None, if◌then◌else◌}
use Rattle.lh_types.specs.Types.{TypeTree, time_type, signal_type}
use Rattle.lh_types.specs.Faults.{is_data}
use Rattle.lh_types.specs.declared.op.Op.{Op}
use Rattle.lh_types.specs.declared.op.Op.TheVariants as op
use Rattle.lh_unit.specs.declared.inst.ValueId.{ValueId}
use Rattle.lh_unit.specs.declared.inst.Typed.{Typed}
use Rattle.lh_unit.specs.declared.inst.RegTrigger.{RegTrigger}
use Rattle.lh_unit.specs.declared.inst.PhiEdge.{PhiEdge}
use Rattle.lh_unit.specs.declared.inst.Inst.{Inst}
use Rattle.lh_unit.specs.declared.inst.Inst.TheVariants as inst
use Rattle.lh_unit.specs.Naming.{Naming, value_text}
use Rattle.lh_unit.specs.Kinds as kinds
use Rattle.lh_verify_operands.specs.declared.uses.Need.{Need}
use Rattle.lh_verify_operands.specs.declared.uses.Need.TheVariants.{Data, Time, Signal, Pointer, DataOrTime, DataOrSignal}
use Rattle.lh_verify_operands.specs.declared.uses.Use.{Use}

-- what a row takes in one place
abbrev pub need_as : Need → kinds.Need
need_as Data = kinds.data_needed
need_as Time = kinds.time_needed
need_as Signal = kinds.signal_needed
need_as Pointer = kinds.pointer_needed
need_as DataOrTime = kinds.data_or_time_needed
need_as DataOrSignal = kinds.data_or_signal_needed

-- an operand by its name
abbrev pub use_text : Naming → Use → kinds.Use
use_text f u = kinds.used (need_as u.need) (value_text f u.value)

abbrev pub used : Need → ValueId → Use
used need v = record { value = v; need = need }

-- the values of operands
abbrev pub values_of : List Use → List ValueId
values_of us = map (λ (u : Use). u.value) us

-- operands whose places take the same
abbrev pub all_used : Need → List Typed → List Use
all_used need os = map (λ (o : Typed). used need o.value) os

-- values whose places take the same
abbrev pub values_used : Need → List ValueId → List Use
values_used need vs = map (used need) vs

-- an operand that may be absent
abbrev pub maybe_used : Need → Option ValueId → List Use
maybe_used need None = []
maybe_used need (Some v) = used need v ∷ []

-- `extf` and `exts` are of data or of a signal, as the type that is written says
abbrev pub step_need : Option TypeTree → Need
step_need (Some (signal_type t)) = Signal
step_need (Some t) = if is_data t then Data else DataOrSignal
step_need None = DataOrSignal

-- `sig` is of data, and a time is of the right kind where `time` is written
abbrev pub initial_need : Option TypeTree → Need
initial_need (Some time_type) = DataOrTime
initial_need _ = Data

-- the type that is written before the first operand
abbrev pub first_type : List Typed → Option TypeTree
first_type [] = None
first_type (o ∷ more) = o.ty

-- what the operands of an operation must be
abbrev pub operation_need : Op → List Typed → Need
operation_need (op.Extf k) args = step_need (first_type args)
operation_need (op.Exts at len) args = step_need (first_type args)
operation_need _ args = Data

-- the operands of one trigger of a register
abbrev pub trigger_uses : RegTrigger → List Use
trigger_uses g = used Data g.value ∷ used Data g.trigger ∷ maybe_used Data g.gate ++ maybe_used Time g.after

abbrev pub triggers_uses : List RegTrigger → List Use
triggers_uses [] = []
triggers_uses (g ∷ more) = trigger_uses g ++ triggers_uses more

abbrev pub edges_used : List PhiEdge → List Use
edges_used es = map (λ (e : PhiEdge). used DataOrTime e.value) es

-- the operands of an instruction, in the order of the spelling
abbrev pub uses_of : Inst → List Use
uses_of (inst.Const d) = []
uses_of (inst.Pure o args) = all_used (operation_need o args) args
uses_of (inst.Var a) = used DataOrTime a.value ∷ []
uses_of (inst.Ld p) = used Pointer p.value ∷ []
uses_of (inst.St to value) = used Pointer to.value ∷ used DataOrTime value ∷ []
uses_of (inst.Sig a) = used (initial_need a.ty) a.value ∷ []
uses_of (inst.Prb s) = used Signal s.value ∷ []
uses_of (inst.Drv to value after cond) = used Signal to.value ∷ used Data value ∷ used Time after ∷ maybe_used Data cond
uses_of (inst.Reg to triggers) = used Signal to.value ∷ triggers_uses triggers
uses_of (inst.Child u inputs outputs) = all_used Signal inputs ++ all_used Signal outputs
uses_of (inst.Call f result args) = all_used DataOrTime args
uses_of (inst.Phi ty edges) = edges_used edges
uses_of (inst.Br to) = []
uses_of (inst.Branch cond zero one) = used Data cond ∷ []
uses_of (inst.Wait to after signals) = maybe_used Time after ++ values_used Signal signals
uses_of inst.Halt = []
uses_of (inst.Ret None) = []
uses_of (inst.Ret (Some o)) = used DataOrTime o.value ∷ []
