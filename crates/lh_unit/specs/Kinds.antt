-- The four kinds of values, and of which kind each operand of an instruction must be.
use Rattle.std.specs.Prelude.{ℕ, List, [], ◌∷◌, ◌++◌, map, Bool, true, false, if◌then◌else◌, Option, Some, None}
use Rattle.std.specs.Option.{option_and_then}
use Rattle.lh_types.specs.Types.{TypeTree, int_type, time_type, void_type, array_type, tuple_type, signal_type, pointer_type}
use Rattle.lh_types.specs.Faults.{is_data}
use Rattle.lh_types.specs.Classes.{class_of, taken_step}
use Rattle.lh_types.specs.declared.op.Op.{Op}
use Rattle.lh_types.specs.declared.part.Step.{Step}
use Rattle.lh_unit.specs.Contents.{OperandText, TriggerText, EdgeText, InstText, const_text, pure_text, var_text, ld_text, st_text, sig_text, prb_text, drv_text, reg_text, child_text, call_text, phi_text, br_text, branch_text, wait_text, halt_text, ret_text, UnitText}
use Rattle.lh_unit.specs.Typing.{or_else, first_type, result_type, arg_named, inst_giving}

-- the four kinds
pub data Kind : Type 0 where
  a_datum : Kind
  a_time : Kind
  a_signal : Kind
  a_pointer : Kind

-- the kind of a value of this type; void is none
abbrev pub kind_of : TypeTree → Option Kind
kind_of (int_type n) = Some a_datum
kind_of (array_type n t) = Some a_datum
kind_of (tuple_type r) = Some a_datum
kind_of time_type = Some a_time
kind_of (signal_type t) = Some a_signal
kind_of (pointer_type t) = Some a_pointer
kind_of void_type = None

-- the kind of what an instruction gives; `var` gives a pointer and `sig` a signal, also where no type is such
abbrev pub result_kind : InstText → Option Kind
result_kind (var_text a) = Some a_pointer
result_kind (sig_text a) = Some a_signal
result_kind i = option_and_then kind_of (result_type i)

-- the kind of the value of this name
abbrev pub value_kind : UnitText → List ℕ → Option Kind
value_kind u n = or_else (option_and_then (λ a. kind_of a.ty) (arg_named n u.args)) (option_and_then result_kind (inst_giving n u.blocks))

-- what a row takes in one place
pub data Need : Type 0 where
  data_needed : Need
  time_needed : Need
  signal_needed : Need
  pointer_needed : Need
  data_or_time_needed : Need
  data_or_signal_needed : Need

-- a place takes a value of this kind
abbrev pub takes : Need → Kind → Bool
takes data_needed a_datum = true
takes time_needed a_time = true
takes signal_needed a_signal = true
takes pointer_needed a_pointer = true
takes data_or_time_needed a_datum = true
takes data_or_time_needed a_time = true
takes data_or_signal_needed a_datum = true
takes data_or_signal_needed a_signal = true
takes _ _ = false

-- an operand, and what its row takes in its place
pub record Use : Type 0 where
  pub value : List ℕ
  pub need : Need

-- an operand of a place
abbrev pub used : Need → List ℕ → Use
used need n = record { value = n; need = need }

-- operands whose places take the same
abbrev pub all_used : Need → List OperandText → List Use
all_used need os = map (λ (o : OperandText). used need o.value) os

-- an operand that may be absent
abbrev pub maybe_used : Need → Option (List ℕ) → List Use
maybe_used need None = []
maybe_used need (Some n) = used need n ∷ []

-- `extf` and `exts` are of data or of a signal, as the type that is written says; where it says neither, either is taken
abbrev pub step_need : Option TypeTree → Need
step_need (Some (signal_type t)) = signal_needed
step_need (Some t) = if is_data t then data_needed else data_or_signal_needed
step_need None = data_or_signal_needed

-- `sig` is of data; under a written `time` a time is of the right kind too, since there the type is wrong
abbrev pub initial_need : Option TypeTree → Need
initial_need (Some time_type) = data_or_time_needed
initial_need _ = data_needed

-- what each operand of an operation is of, by the step to the part that it takes, if it takes one
abbrev pub part_need : Option Step → List OperandText → Need
part_need None args = data_needed
part_need (Some s) args = step_need (first_type args)

-- the operands of an operation
abbrev pub operation_uses : Op → List OperandText → List Use
operation_uses o args = all_used (part_need (taken_step (class_of o)) args) args

-- the operands of a register's triggers
abbrev pub trigger_uses : List TriggerText → List Use
trigger_uses [] = []
trigger_uses (g ∷ more) =
    used data_needed g.value ∷ used data_needed g.trigger ∷ maybe_used data_needed g.gate ++ maybe_used time_needed g.after ++ trigger_uses more

-- the operands of an instruction, in the order of the spelling
abbrev pub uses : InstText → List Use
uses (const_text d) = []
uses (pure_text o args) = operation_uses o args
uses (var_text a) = used data_or_time_needed a.value ∷ []
uses (ld_text p) = used pointer_needed p.value ∷ []
uses (st_text to value) = used pointer_needed to.value ∷ used data_or_time_needed value ∷ []
uses (sig_text a) = used (initial_need a.ty) a.value ∷ []
uses (prb_text s) = used signal_needed s.value ∷ []
uses (drv_text to value after cond) = used signal_needed to.value ∷ used data_needed value ∷ used time_needed after ∷ maybe_used data_needed cond
uses (reg_text to triggers) = used signal_needed to.value ∷ trigger_uses triggers
uses (child_text u inputs outputs) = all_used signal_needed inputs ++ all_used signal_needed outputs
uses (call_text f result args) = all_used data_or_time_needed args
uses (phi_text ty edges) = map (λ (e : EdgeText). used data_or_time_needed e.value) edges
uses (br_text to) = []
uses (branch_text cond first second) = used data_needed cond ∷ []
uses (wait_text to after signals) = maybe_used time_needed after ++ map (used signal_needed) signals
uses halt_text = []
uses (ret_text None) = []
uses (ret_text (Some o)) = used data_or_time_needed o.value ∷ []
