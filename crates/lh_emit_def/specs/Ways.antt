-- Which parts the steps of a source lead to, and which parts a term has.
use Rattle.std.specs.Prelude.{◌≡◌, ◌+◌, List, [], ◌∷◌, Option, Some, slice_get}
use Rattle.std.specs.Option.{option_and_then, option_map}
use Rattle.lh_types.specs.Types.{TypeTree, int_type, time_type, signal_type, IsData}
use Rattle.lh_types.specs.Parts as Parts
use Rattle.lh_types.specs.Parts.{step_part}
use Rattle.lh_types.specs.declared.op.Op.{Op}
use Rattle.lh_types.specs.declared.part.Step.{Step}
use Rattle.lh_unit.specs.Contents.{ArgText}
use Rattle.lh_unit.specs.Effects.{step_of}
use Rattle.lh_term.specs.Tree.{Tree}
use Rattle.lh_term.specs.Leaves.{AllParts}
use Rattle.lh_term.specs.declared.part.Part.{Part}
use Rattle.lh_term.specs.Parts.{whole_argument}
use Rattle.lh_term.specs.Types.{IsTyped, type_of}
use Rattle.lh_unit.specs.Within.{Each}
use Rattle.lh_emit_def.specs.Given.{Drive, TriggerTree, EdgeRowTree}
use Rattle.lh_emit_def.specs.Emitted.{PartStep, Source}

-- the part of a part
abbrev pub inner : Part → Parts.Part → Part
inner p q = record { arg = p.arg; lo = p.lo + q.lo; ty = q.of }

-- the part of a part to which a step leads
abbrev pub part_by_step : Part → Step → Option Part
part_by_step p s = option_map (inner p) (step_part p.ty s)

-- the part of a part that `extf` or `exts` names
abbrev pub part_by : Part → Op → Option Part
part_by p o = option_and_then (part_by_step p) (step_of o)

-- the steps lead from one part to another
abbrev pub StepsLead : Part → List PartStep → Part → Type 0
StepsLead p [] q = p ≡ q
StepsLead p (st ∷ more) q = (part_by p st.op ≡ Some st.to) × StepsLead st.to more q

-- the steps of a source lead to a part from the whole of its argument
pub record IsReached (s : Source) (p : Part) : Type 0 where
  pub arg : ArgText
  pub carries : TypeTree
  pub there : slice_get s.args p.arg ≡ Some arg
  pub signal : arg.ty ≡ signal_type carries
  pub leads : StepsLead (whole_argument p.arg carries) (s.steps p) p

-- the term is typed, and its parts are reached
pub record TermIsGiven (s : Source) (t : Tree) : Type 0 where
  pub typed : IsTyped t
  pub parts : AllParts (IsReached s) t

-- so are those of a drive: its condition is one bit, its value is of the type that the part carries, and its delay a time
pub record DriveIsGiven (s : Source) (d : Drive) : Type 0 where
  pub cond : TermIsGiven s d.cond
  pub is_condition : type_of d.cond ≡ int_type 1
  pub is_value : type_of d.value ≡ d.part.ty
  pub is_delay : type_of d.delay ≡ time_type
  pub carries : IsData d.part.ty
  pub value : TermIsGiven s d.value
  pub delay : TermIsGiven s d.delay
  pub part : IsReached s d.part

-- a part that is waited on
pub record WaitIsGiven (s : Source) (p : Part) : Type 0 where
  pub is_data : IsData p.ty
  pub part : IsReached s p

-- a trigger of a register: its part and its gate are one bit
pub record TriggerIsGiven (s : Source) (g : TriggerTree) : Type 0 where
  pub is_data : IsData g.part.ty
  pub is_bit : g.part.ty ≡ int_type 1
  pub is_gate : type_of g.gate ≡ int_type 1
  pub part : IsReached s g.part
  pub gate : TermIsGiven s g.gate

-- a row of registers: its value is of the type that the part carries, and its delay a time
pub record RowIsGiven (s : Source) (r : EdgeRowTree) : Type 0 where
  pub is_value : type_of r.value ≡ r.part.ty
  pub is_delay : type_of r.delay ≡ time_type
  pub carries : IsData r.part.ty
  pub value : TermIsGiven s r.value
  pub delay : TermIsGiven s r.delay
  pub part : IsReached s r.part
  pub triggers : Each (TriggerIsGiven s) r.triggers
