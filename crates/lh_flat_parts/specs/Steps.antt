-- Which part of an argument a signal of a process is: the argument, or a part of another signal that `extf` or `exts` takes.
use Rattle.std.specs.Prelude.{◌≡◌, ℕ, zero, suc, ◌+◌, ◌^◌, ◌<◌, List, [], ◌∷◌, length, Bool, false, nat_eq, if◌then◌else◌, Option, Some, None, slice_index_or}
use Rattle.std.specs.Option.{option_and_then, option_map}
use Rattle.std.specs.List.{flat_map}
use Rattle.lh_types.specs.Types.{TypeTree, bit_count}
use Rattle.lh_types.specs.Parts.{range_of}
use Rattle.lh_types.specs.declared.op.Op.{Op}
use Rattle.lh_types.specs.declared.part.Step.{Step}
use Rattle.lh_types.specs.declared.part.Range.{Range}
use Rattle.lh_unit.specs.Typing.{carried, or_else}
use Rattle.lh_unit.specs.Effects.{step_of}
use Rattle.lh_unit.specs.Within.{Each}
use Rattle.lh_unit.specs.declared.inst.ValueId.{ValueId}
use Rattle.lh_unit.specs.declared.inst.Typed.{Typed}
use Rattle.lh_unit.specs.declared.inst.Arg.{Arg}
use Rattle.lh_unit.specs.declared.inst.Inst.{Inst}
use Rattle.lh_unit.specs.declared.inst.Inst.TheVariants as inst
use Rattle.lh_term.specs.declared.part.Part.{Part}
use Rattle.lh_term.specs.Parts.{whole_argument}
use Rattle.lh_flat.specs.declared.flat.FlatInst.{FlatInst}
use Rattle.lh_flat.specs.declared.flat.FlatBlock.{FlatBlock}
use Rattle.lh_flat.specs.declared.flat.Flat.{Flat}
use Rattle.lh_flat_parts.specs.declared.step.PartStep.{PartStep}
use Rattle.lh_flat_parts.specs.declared.table.PartTable.{PartTable}

-- ---- steps

-- the step of an operation from a value to a part of this type, where the operation is a step and the type is there
abbrev pub step_if : Op → ValueId → Option Step → Option TypeTree → Option PartStep
step_if o v (Some s) (Some t) = Some (record { from = v; op = o; ty = t })
step_if o v _ _ = None

-- the step of an operation on one signal, whose part has the type that is written
abbrev pub step_on : Op → List Typed → Option PartStep
step_on o (x ∷ []) = step_if o x.value (step_of o) (option_and_then carried x.ty)
step_on o _ = None

-- the step that an instruction is, if it is one
abbrev pub step_in : Inst → Option PartStep
step_in (inst.Pure o args) = step_on o args
step_in _ = None

-- the value is the result
abbrev pub is_result : ℕ → Option ValueId → Bool
is_result v None = false
is_result v (Some r) = nat_eq r.0 v

-- what is there, if the value is the result
abbrev pub if_result : {A : Type 0} → ℕ → Option ValueId → Option A → Option A
if_result v r x = if is_result v r then x else None

-- the step that gives a value, among these instructions
abbrev pub step_giving : List FlatInst → ℕ → Option PartStep
step_giving [] v = None
step_giving (l ∷ more) v = or_else (step_giving more v) (if_result v l.result (step_in l.inst))

-- one more result, where there is a step
abbrev pub with_result : Option ValueId → Option PartStep → List ValueId → List ValueId
with_result (Some v) (Some s) more = v ∷ more
with_result _ _ more = more

-- the results of steps, in text order
abbrev pub step_results : List FlatInst → List ValueId
step_results [] = []
step_results (l ∷ more) = with_result l.result (step_in l.inst) (step_results more)

-- the instructions of blocks, in text order
abbrev pub insts_in : List FlatBlock → List FlatInst
insts_in blocks = flat_map (λ (b : FlatBlock). b.insts) blocks

-- ---- parts

-- the value as an argument, of these from argument k on, that is a signal
abbrev pub argument_from : (k : ℕ) → List Arg → ℕ → Option Part
argument_from k [] v = None
argument_from k (a ∷ more) v = or_else (argument_from (k + 1) more v) (if nat_eq a.value.0 v then option_map (whole_argument k) (carried a.ty) else None)

abbrev pub argument_of : List Arg → ℕ → Option Part
argument_of args v = argument_from 0 args v

-- the bits of a type that an operation takes, where it is a step and fits
abbrev pub range_by : TypeTree → Op → Option Range
range_by t o = option_and_then (λ s. range_of t (s ∷ [])) (step_of o)

-- these bits of a part, as a part of this type
abbrev pub part_within : Part → TypeTree → Range → Part
part_within p t r = record { arg = p.arg; lo = p.lo + r.lo; ty = t }

-- the part that a step leads to, if it fits
abbrev pub stepped : Part → PartStep → Option Part
stepped p s = option_map (part_within p s.ty) (range_by p.ty s.op)

-- the part of a value: by its step from the part of another, if there is a step, else as an argument
abbrev pub part_by : (part : ℕ → Option Part) → Option PartStep → (argument : Option Part) → Option Part
part_by f None a = a
part_by f (Some s) a = option_and_then (λ p. stepped p s) (f s.from.0)

-- the part of a value to which fewer than n steps from an argument lead
abbrev pub part_found : (n : ℕ) → (step : ℕ → Option PartStep) → (argument : ℕ → Option Part) → ℕ → Option Part
part_found zero f a v = None
part_found (suc n) f a v = part_by (part_found n f a) (f v) (a v)

-- some number of steps from an argument leads to this part of the value
abbrev pub IsFound : (step : ℕ → Option PartStep) → (argument : ℕ → Option Part) → ℕ → Part → Type 0
IsFound f a v p = (n : ℕ) × (part_found n f a v ≡ Some p)

-- the value is this part
abbrev pub IsPart : Flat → ℕ → Part → Type 0
IsPart t v p = IsFound (step_giving (insts_in t.blocks)) (argument_of t.args) v p

-- the type of the part that a value is
abbrev pub type_carried : Flat → ℕ → Option TypeTree
type_carried t v = or_else (option_map (λ s. s.ty) (step_giving (insts_in t.blocks) v)) (option_map (λ p. p.ty) (argument_of t.args v))

-- the ids of a step, if there is one, are below this number
abbrev pub StepWithin : (values : ℕ) → Option ValueId → Option PartStep → Type 0
StepWithin n (Some v) (Some s) = (v.0 < n) × (s.from.0 < n)
StepWithin n _ _ = Unit {0}

-- Ids are in place, no argument is a result, and a step's part has as many bits as its type.
pub record HasSteps (t : Flat) : Type 0 where
  pub args : Each (λ (a : Arg). a.value.0 < t.values) t.args
  pub few : length t.args < 2 ^ 32
  pub within : Each (λ (l : FlatInst). StepWithin t.values l.result (step_in l.inst)) (insts_in t.blocks)
  pub apart : (v : ℕ) (p : Part) → argument_of t.args v ≡ Some p → step_giving (insts_in t.blocks) v ≡ None
  pub fit : (v : ℕ) (s : PartStep) (whole : TypeTree) (r : Range) → step_giving (insts_in t.blocks) v ≡ Some s → type_carried t s.from.0 ≡ Some whole → range_by whole s.op ≡ Some r
      → r.len ≡ bit_count s.ty

-- what is kept of value v
abbrev pub step_at : List (Option PartStep) → ℕ → Option PartStep
step_at steps v = slice_index_or steps v None

abbrev pub part_at : List (Option Part) → ℕ → Option Part
part_at parts v = slice_index_or parts v None

-- The steps and parts of the values of a flat text.
pub record IsPartTable (t : Flat) (table : PartTable) : Type 0 where
  pub long : length table.parts.items ≡ t.values
  pub long_steps : length table.steps.given.items ≡ t.values
  pub steps : (v : ℕ) → v < t.values → step_at table.steps.given.items v ≡ step_giving (insts_in t.blocks) v
  pub results : table.steps.results.items ≡ step_results (insts_in t.blocks)
  pub sound : (v : ℕ) (p : Part) → part_at table.parts.items v ≡ Some p → IsPart t v p
  pub whole : (v : ℕ) (p : Part) → v < t.values → IsPart t v p → part_at table.parts.items v ≡ Some p
