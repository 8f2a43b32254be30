-- The entities of small processes, from their rows.
use Rattle.std.specs.Prelude.{◌≡◌, ℕ, List, [], ◌∷◌, Some, None, codes, true, false}
use Rattle.lh_types.specs.Types.{TypeTree, array_type, tuple_type, signal_type, no_types, more_types}
use Rattle.lh_types.specs.Values.{int_value, array_value, no_values, more_values}
use Rattle.lh_types.specs.declared.op.Op.TheVariants as op
use Rattle.lh_unit.specs.declared.inst.UnitKind.TheVariants as kind
use Rattle.lh_unit.specs.declared.inst.Mode.TheVariants.{Rise, Fall}
pub use Rattle.lh_unit.specs.Worded.{bit, byte, word, global, typed, plain, gives, does, time}
use Rattle.lh_unit.specs.Contents.{const_text, pure_text, drv_text, prb_text, reg_text, ArgText, UnitText}
use Rattle.lh_term.specs.Tree.{Tree, constant, now_of, operation_on, choice_of}
use Rattle.lh_term.specs.declared.part.Part.{Part}
use Rattle.lh_term.specs.Parts.{whole_argument}
use Rattle.lh_emit_def.specs.Given.{Drive}
use Rattle.lh_emit_def.specs.Emitted.{PartStep}
use Rattle.lh_emit_def.specs.Entities.{emits, comb_emission, edge_emission, once_emission, entity_with}

-- ---- words for short

abbrev pub of : TypeTree → TypeTree
of t = signal_type t

abbrev pub input : List ℕ → TypeTree → ArgText
input n t = record { name = n; ty = signal_type t; output = false }

abbrev pub output : List ℕ → TypeTree → ArgText
output n t = record { name = n; ty = signal_type t; output = true }

abbrev pub process : List ℕ → List ArgText → UnitText
process n args = record { kind = kind.Proc; name = global n; args = args; result = None; blocks = [] }

abbrev pub no_steps : Part → List PartStep
no_steps p = []

abbrev pub one_delta : Tree
one_delta = constant (time 0 1)

abbrev pub one : Tree
one = constant (int_value 1 1)

abbrev pub number : ℕ → ℕ → Tree
number w n = constant (int_value w n)

-- ---- a flip-flop, and the sum that it takes

abbrev pub flip_flop : UnitText
flip_flop = process (codes "acc_ff") (input (codes "clk") bit ∷ input (codes "d") word ∷ output (codes "q") word ∷ [])

abbrev pub FlipFlopEmits : Type 0
FlipFlopEmits =
    edge_emission flip_flop no_steps
    (record { part = whole_argument 2 word; value = now_of (whole_argument 1 word); delay = one_delta; triggers = record { rise = true; part = whole_argument 0 bit; gate = one } ∷ [] } ∷ [])
    ≡ emits (entity_with flip_flop (
    gives (codes "v0") (prb_text (typed (of word) (codes "d")))
    ∷ gives (codes "v1") (prb_text (typed (of bit) (codes "clk")))
    ∷ gives (codes "v2") (const_text (time 0 1))
    ∷ does (reg_text (typed (of word) (codes "q")) (record { value = codes "v0"; mode = Rise; trigger = codes "v1"; gate = None; after = Some (codes "v2") } ∷ []))
    ∷ []))

abbrev pub sum : UnitText
sum = process (codes "acc_comb") (input (codes "q") word ∷ input (codes "x") word ∷ input (codes "en") bit ∷ output (codes "d") word ∷ [])

abbrev pub q_now : Tree
q_now = now_of (whole_argument 0 word)

abbrev pub SumEmits : Type 0
SumEmits =
    comb_emission sum no_steps (whole_argument 0 word ∷ whole_argument 1 word ∷ whole_argument 2 bit ∷ [])
    (record {
      cond = one;
      part = whole_argument 3 word;
      value = choice_of (now_of (whole_argument 2 bit)) q_now (operation_on op.Add (q_now ∷ now_of (whole_argument 1 word) ∷ []));
      delay = one_delta;
    } ∷ [])
    ≡ emits (entity_with sum (
    gives (codes "v0") (prb_text (typed (of word) (codes "q")))
    ∷ gives (codes "v1") (prb_text (typed (of word) (codes "x")))
    ∷ gives (codes "v2") (prb_text (typed (of bit) (codes "en")))
    ∷ gives (codes "v3") (pure_text op.Add (typed word (codes "v0") ∷ plain (codes "v1") ∷ []))
    ∷ gives (codes "v4") (pure_text op.Array (typed word (codes "v0") ∷ plain (codes "v3") ∷ []))
    ∷ gives (codes "v5") (pure_text op.Mux (typed word (codes "v4") ∷ plain (codes "v2") ∷ []))
    ∷ gives (codes "v6") (const_text (time 0 1))
    ∷ does (drv_text (typed (of word) (codes "d")) (codes "v5") (codes "v6") None)
    ∷ []))

-- ---- a flip-flop with asynchronous reset: two registers, and the second takes its delay and its edge from the first

abbrev pub reset_flip_flop : UnitText
reset_flip_flop = process (codes "ffr") (input (codes "clk") bit ∷ input (codes "rst") bit ∷ input (codes "d") byte ∷ output (codes "q") byte ∷ [])

abbrev pub clk_part : Part
clk_part = whole_argument 0 bit

abbrev pub rst_part : Part
rst_part = whole_argument 1 bit

abbrev pub ResetFlipFlopEmits : Type 0
ResetFlipFlopEmits =
    edge_emission reset_flip_flop no_steps
    (record {
      part = whole_argument 3 byte;
      value = number 8 0;
      delay = one_delta;
      triggers =
          record { rise = true; part = clk_part; gate = operation_on op.Not (now_of rst_part ∷ []) }
          ∷ record { rise = false; part = rst_part; gate = one }
          ∷ [];
    }
    ∷ record { part = whole_argument 3 byte; value = now_of (whole_argument 2 byte); delay = one_delta; triggers = record { rise = true; part = clk_part; gate = now_of rst_part } ∷ [] }
    ∷ [])
    ≡ emits (entity_with reset_flip_flop (
    gives (codes "v0") (const_text (int_value 8 0))
    ∷ gives (codes "v1") (prb_text (typed (of bit) (codes "clk")))
    ∷ gives (codes "v2") (prb_text (typed (of bit) (codes "rst")))
    ∷ gives (codes "v3") (pure_text op.Not (typed bit (codes "v2") ∷ []))
    ∷ gives (codes "v4") (const_text (time 0 1))
    ∷ does (reg_text (typed (of byte) (codes "q")) (
    record { value = codes "v0"; mode = Rise; trigger = codes "v1"; gate = Some (codes "v3"); after = Some (codes "v4") }
    ∷ record { value = codes "v0"; mode = Fall; trigger = codes "v2"; gate = None; after = Some (codes "v4") }
    ∷ []))
    ∷ gives (codes "v5") (prb_text (typed (of byte) (codes "d")))
    ∷ does (reg_text (typed (of byte) (codes "q")) (
    record { value = codes "v5"; mode = Rise; trigger = codes "v1"; gate = Some (codes "v2"); after = Some (codes "v4") }
    ∷ []))
    ∷ []))

-- ---- a constant, on nothing and on one bit

abbrev pub constant_process : UnitText
constant_process = process (codes "k") (input (codes "e") bit ∷ output (codes "q") byte ∷ [])

abbrev pub five : List Drive
five = record { cond = one; part = whole_argument 1 byte; value = number 8 5; delay = constant (time 1000000 0) } ∷ []

abbrev pub ConstantEmits : Type 0
ConstantEmits =
    comb_emission constant_process no_steps [] five
    ≡ emits (entity_with constant_process (
    gives (codes "v0") (const_text (int_value 8 5))
    ∷ gives (codes "v1") (const_text (time 1000000 0))
    ∷ does (drv_text (typed (of byte) (codes "q")) (codes "v0") (codes "v1") None)
    ∷ []))

abbrev pub ConstantWaits : Type 0
ConstantWaits =
    comb_emission constant_process no_steps (whole_argument 0 bit ∷ []) five
    ≡ emits (entity_with constant_process (
    gives (codes "v0") (prb_text (typed (of bit) (codes "e")))
    ∷ gives (codes "v1") (const_text (int_value 8 5))
    ∷ gives (codes "v2") (const_text (time 1000000 0))
    ∷ does (drv_text (typed (of byte) (codes "q")) (codes "v1") (codes "v2") None)
    ∷ []))

-- ---- three drives that share a delay; one has a condition

abbrev pub three_drives : UnitText
three_drives = process (codes "al") (input (codes "c") bit ∷ output (codes "d") byte ∷ output (codes "e") byte ∷ [])

abbrev pub drive_to : ℕ → ℕ → Tree → Drive
drive_to i n c = record { cond = c; part = whole_argument i byte; value = number 8 n; delay = one_delta }

abbrev pub ThreeDrivesEmit : Type 0
ThreeDrivesEmit =
    comb_emission three_drives no_steps (whole_argument 0 bit ∷ []) (drive_to 1 1 one ∷ drive_to 2 2 one ∷ drive_to 1 3 (now_of (whole_argument 0 bit)) ∷ [])
    ≡ emits (entity_with three_drives (
    gives (codes "v0") (prb_text (typed (of bit) (codes "c")))
    ∷ gives (codes "v1") (const_text (int_value 8 1))
    ∷ gives (codes "v2") (const_text (time 0 1))
    ∷ does (drv_text (typed (of byte) (codes "d")) (codes "v1") (codes "v2") None)
    ∷ gives (codes "v3") (const_text (int_value 8 2))
    ∷ does (drv_text (typed (of byte) (codes "e")) (codes "v3") (codes "v2") None)
    ∷ gives (codes "v4") (const_text (int_value 8 3))
    ∷ does (drv_text (typed (of byte) (codes "d")) (codes "v4") (codes "v2") (Some (codes "v0")))
    ∷ []))

-- ---- a process that drives once

abbrev pub sets : UnitText
sets = process (codes "p") (output (codes "s") byte ∷ [])

abbrev pub SetsEmits : Type 0
SetsEmits =
    once_emission sets no_steps (record { cond = one; part = whole_argument 0 byte; value = number 8 1; delay = constant (time 1000000 0) } ∷ [])
    ≡ emits (entity_with sets (
    gives (codes "v0") (const_text (int_value 8 1))
    ∷ gives (codes "v1") (const_text (time 1000000 0))
    ∷ does (drv_text (typed (of byte) (codes "s")) (codes "v0") (codes "v1") None)
    ∷ []))

-- ---- a part that is driven: its two steps, past the name of an argument; and a constant array, part by part

abbrev pub stepped : UnitText
stepped = process (codes "steps") (input (codes "v1") bit ∷ output (codes "q") (tuple_type (more_types (array_type 4 byte) no_types)) ∷ [])

abbrev pub field : Part
field = record { arg = 1; lo = 0; ty = array_type 4 byte }

abbrev pub middle : Part
middle = record { arg = 1; lo = 8; ty = array_type 2 byte }

abbrev pub SteppedEmits : Type 0
SteppedEmits =
    once_emission stepped (λ p. record { op = op.Extf 0; to = field } ∷ record { op = op.Exts 1 2; to = middle } ∷ [])
    (record { cond = one; part = middle; value = constant (array_value (more_values (int_value 8 7) (more_values (int_value 8 7) no_values))); delay = one_delta } ∷ [])
    ≡ emits (entity_with stepped (
    gives (codes "v0") (const_text (int_value 8 7))
    ∷ gives (codes "v2") (pure_text op.Array (typed byte (codes "v0") ∷ plain (codes "v0") ∷ []))
    ∷ gives (codes "v3") (const_text (time 0 1))
    ∷ gives (codes "v4") (pure_text (op.Extf 0) (typed (of (array_type 4 byte)) (codes "q") ∷ []))
    ∷ gives (codes "v5") (pure_text (op.Exts 1 2) (typed (of (array_type 2 byte)) (codes "v4") ∷ []))
    ∷ does (drv_text (typed (of (array_type 2 byte)) (codes "v5")) (codes "v2") (codes "v3") None)
    ∷ []))

-- each of these
pub record WorkedEntities : Type 0 where
  pub flip_flop_emits : FlipFlopEmits
  pub sum_emits : SumEmits
  pub reset_flip_flop_emits : ResetFlipFlopEmits
  pub constant_emits : ConstantEmits
  pub constant_waits : ConstantWaits
  pub three_drives_emit : ThreeDrivesEmit
  pub sets_emits : SetsEmits
  pub stepped_emits : SteppedEmits
