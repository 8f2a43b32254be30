-- What the operands of a sound instruction are, where what slots hold fits: an operation, a probe and a drive have what they ask.
use Rattle.std.specs.Prelude.{ℕ, ◌<◌, ◌^◌, List, length, map, Bool, Option}
use Rattle.lh_types.specs.Types.{TypeTree, signal_type}
use Rattle.lh_types.specs.declared.op.Op.{Op}
use Rattle.lh_unit.specs.Contents.{pure_text, prb_text}
use Rattle.lh_unit.specs.Held.{Held, Env}
use Rattle.lh_unit.specs.Arena.{Arena, naming, sizes, unit_text_at}
use Rattle.lh_unit.specs.Naming.{value_text, operand_text}
use Rattle.lh_unit.specs.Within.{Each, OperandWithin}
use Rattle.lh_unit.specs.declared.inst.ValueId.{ValueId}
use Rattle.lh_unit.specs.declared.inst.Typed.{Typed}
use Rattle.lh_verify_laws.specs.Operands.{RowIs, IsOf}
use Rattle.lh_eval.specs.Holding.{Holds, part_in, datum_in}
use Rattle.lh_eval.specs.Fitting.{Fits, OperandsFit, ProbeFits, DriveFits}
use Rattle.lh_eval.specs.Sound.{HasOperands}

-- an operation has what it asks of its operands
abbrev pub OperationsHave : Type 0
OperationsHave = (a : Arena) (u width : ℕ) (slots : List (Option Held)) (e : Env) → Holds a u slots e → Fits (unit_text_at a u) width e → width < 2 ^ 32 → (o : Op) (args : List Typed) →
    Each (OperandWithin (sizes a u)) args → RowIs (unit_text_at a u) (pure_text o (map (operand_text (naming a u)) args)) → HasOperands o (map (operand_text (naming a u)) args)
    → OperandsFit a u slots o args

-- so has a probe
abbrev pub ProbesHave : Type 0
ProbesHave = (a : Arena) (u : ℕ) (now : List Bool) (slots : List (Option Held)) (e : Env) → Holds a u slots e → Fits (unit_text_at a u) (length now) e → (s : Typed) →
    s.value.0 < length slots → RowIs (unit_text_at a u) (prb_text (operand_text (naming a u) s)) → ProbeFits now slots s

-- so has a drive of a value to a signal that carries its type
abbrev pub DrivesHave : Type 0
DrivesHave = (a : Arena) (u width : ℕ) (slots : List (Option Held)) (e : Env) → Holds a u slots e → Fits (unit_text_at a u) width e → width < 2 ^ 32 → (to value : ValueId) (t : TypeTree) →
    to.0 < length slots → value.0 < length slots → IsOf (unit_text_at a u) (signal_type t) (value_text (naming a u) to) → IsOf (unit_text_at a u) t (value_text (naming a u) value) → DriveFits (part_in slots to) (datum_in slots value)
