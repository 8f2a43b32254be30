-- Small files with edges of blocks, calls, parts of signals and registers, and their traces.
use Rattle.std.specs.Prelude.{◌≡◌, ℕ, List, [], ◌∷◌, Some, None, codes, refl}
use Rattle.std.specs.Fmt.{digits}
use Rattle.lh_time.specs.Due.{instant}
use Rattle.lh_types.specs.Types.{TypeTree, int_type, tuple_type, signal_type, row_of}
use Rattle.lh_types.specs.Values.{Datum, int_value, tuple_value, data_row}
use Rattle.lh_types.specs.Apply.{apply}
use Rattle.lh_types.specs.ApplyInt.{integer_row, row_width}
use Rattle.lh_types.specs.History.{bits_at}
use Rattle.lh_types.specs.declared.op.Op.TheVariants as op
use Rattle.lh_unit.specs.declared.inst.UnitKind.TheVariants as kind
use Rattle.lh_unit.specs.declared.inst.Mode.TheVariants.{Rise, Both, Low}
use Rattle.lh_unit.specs.Contents.{OperandText, const_text, pure_text, sig_text, prb_text, drv_text, reg_text, child_text, call_text, phi_text, br_text, wait_text, halt_text, ret_text, ItemText, unit_text}
use Rattle.lh_unit.specs.Activation.{activate}
use Rattle.lh_unit.specs.Pass.{pass, probes}
use Rattle.lh_unit.specs.Design.{visit, design_of, refusal_of}
use Rattle.lh_unit.specs.World.{acts_at}
use Rattle.lh_unit.specs.Trace.{Frame, End, quiet, steps, Run, Shown, ShownSignal, ran, trace}
use Rattle.lh_unit.specs.Worded.{byte}
use Rattle.lh_trace_laws.proofs.Samples.{global, gives, does, typed, bit, bit_signal, byte_signal, input, output, entity, process, block, delay}

abbrev name : List ℕ → OperandText
name n = record { value = n; ty = None }

abbrev frame : (fs delta : ℕ) → List Datum → Frame
frame fs delta vs = record { at = instant fs delta 0; values = vs; outcomes = [] }

abbrev ended : End → List Frame → Run
ended e fs = record { frames = fs; end = e }

abbrev top : List ℕ → List Shown
top n = record { label = n; parent = None } ∷ []

abbrev signal : List ℕ → TypeTree → ShownSignal
signal n t = record { instance = 0; name = n; ty = t }

-- Two `phi` that change places at each turn; the edge of a `wait` counts.
abbrev swapping : List ItemText
swapping = process (codes "p") (output (codes "q") byte_signal ∷ []) (
    block (codes "entry") (
    gives (codes "a") (const_text (int_value 8 1))
    ∷ gives (codes "b") (const_text (int_value 8 2))
    ∷ gives (codes "z") (const_text (delay 0 0 0))
    ∷ gives (codes "d") (const_text (delay 1000000 0 0))
    ∷ does (br_text (codes "loop"))
    ∷ [])
    ∷ block (codes "loop") (
    gives (codes "x") (phi_text byte (record { value = codes "a"; block = codes "entry" } ∷ record { value = codes "y"; block = codes "loop" } ∷ []))
    ∷ gives (codes "y") (phi_text byte (record { value = codes "b"; block = codes "entry" } ∷ record { value = codes "x"; block = codes "loop" } ∷ []))
    ∷ does (drv_text (typed byte_signal (codes "q")) (codes "x") (codes "z") None)
    ∷ does (wait_text (codes "loop") (Some (codes "d")) [])
    ∷ [])
    ∷ []) ∷ []

abbrev byte_of : ℕ → List Datum
byte_of n = int_value 8 n ∷ []

pub swapping_trace : trace swapping (global (codes "p")) 6 ≡ ran (top (codes "p")) (signal (codes "q") byte ∷ []) (ended steps (
    frame 0 0 (byte_of 0) ∷ frame 0 1 (byte_of 1) ∷ frame 1000000 0 (byte_of 1) ∷ frame 1000000 1 (byte_of 2) ∷ frame 2000000 0 (byte_of 2) ∷ frame 2000000 1 (byte_of 1) ∷ []))
unfolding activate pass probes visit design_of refusal_of bits_at acts_at
swapping_trace = refl

-- A call with a result; the caller keeps its own values.
abbrev calling : List ItemText
calling =
    unit_text (record {
      kind = kind.Func;
      name = global (codes "f");
      args = input (codes "a") byte ∷ input (codes "b") byte ∷ [];
      result = Some byte;
      blocks = block (codes "entry") (
          gives (codes "x") (pure_text op.Sub (typed byte (codes "a") ∷ name (codes "b") ∷ []))
          ∷ does (ret_text (Some (typed byte (codes "x"))))
          ∷ []) ∷ [];
    })
    ∷ process (codes "p") (output (codes "q") byte_signal ∷ []) (
    block (codes "entry") (
    gives (codes "x") (const_text (int_value 8 9))
    ∷ gives (codes "b") (const_text (int_value 8 4))
    ∷ gives (codes "z") (const_text (delay 0 0 0))
    ∷ gives (codes "r") (call_text (global (codes "f")) byte (typed byte (codes "x") ∷ typed byte (codes "b") ∷ []))
    ∷ gives (codes "s") (pure_text op.Add (typed byte (codes "r") ∷ name (codes "x") ∷ []))
    ∷ does (drv_text (typed byte_signal (codes "q")) (codes "s") (codes "z") None)
    ∷ does halt_text
    ∷ [])
    ∷ [])
    ∷ []

pub calling_trace : trace calling (global (codes "p")) 6 ≡ ran (top (codes "p")) (signal (codes "q") byte ∷ []) (ended quiet (frame 0 0 (byte_of 0) ∷ frame 0 1 (byte_of 14) ∷ []))
unfolding activate pass probes visit design_of refusal_of bits_at acts_at apply integer_row row_width
calling_trace = refl

-- A field of a struct of signals is driven and handed to an instance, which drives some bits of it later.
abbrev pair : TypeTree
pair = tuple_type (row_of (int_type 4 ∷ byte ∷ []))

abbrev parts : List ItemText
parts =
    entity (codes "t") [] (
    gives (codes "n") (const_text (int_value 4 5))
    ∷ gives (codes "b") (const_text (int_value 8 255))
    ∷ gives (codes "v") (pure_text op.Tuple (typed (int_type 4) (codes "n") ∷ typed byte (codes "b") ∷ []))
    ∷ gives (codes "s") (sig_text (typed pair (codes "v")))
    ∷ gives (codes "f") (pure_text (op.Extf 1) (typed byte_signal (codes "s") ∷ []))
    ∷ does (child_text (global (codes "u")) [] (typed byte_signal (codes "f") ∷ []))
    ∷ [])
    ∷ process (codes "u") (output (codes "w") byte_signal ∷ []) (
    block (codes "entry") (
    gives (codes "g") (pure_text (op.Exts 2 3) (typed (signal_type (int_type 3)) (codes "w") ∷ []))
    ∷ gives (codes "k") (const_text (int_value 3 2))
    ∷ gives (codes "d") (const_text (delay 5 0 0))
    ∷ does (drv_text (typed (signal_type (int_type 3)) (codes "g")) (codes "k") (codes "d") None)
    ∷ does halt_text
    ∷ [])
    ∷ [])
    ∷ []

abbrev pair_of : ℕ → ℕ → List Datum
pair_of n b = tuple_value (data_row (int_value 4 n ∷ int_value 8 b ∷ [])) ∷ []

-- bits 2 to 4 of the byte become 0, 1, 0
pub parts_trace : trace parts (global (codes "t")) 6 ≡
    ran (record { label = codes "t"; parent = None } ∷ record { label = codes "u_1"; parent = Some 0 } ∷ []) (signal (codes "s") pair ∷ [])
    (ended quiet (frame 0 0 (pair_of 5 255) ∷ frame 5 0 (pair_of 5 235) ∷ []))
unfolding activate pass probes visit design_of refusal_of bits_at acts_at apply integer_row row_width digits
parts_trace = refl

-- A register with three triggers: the first that fires drives, and its gate counts. Both edges of a clock that is driven by the entity itself.
abbrev clocked : List ItemText
clocked = entity (codes "t") [] (
    gives (codes "z") (const_text (int_value 1 0))
    ∷ gives (codes "one") (const_text (int_value 8 1))
    ∷ gives (codes "two") (const_text (int_value 8 2))
    ∷ gives (codes "zero") (const_text (int_value 8 0))
    ∷ gives (codes "d") (const_text (delay 5 0 0))
    ∷ gives (codes "c") (sig_text (typed bit (codes "z")))
    ∷ gives (codes "q") (sig_text (typed byte (codes "zero")))
    ∷ gives (codes "cp") (prb_text (typed bit_signal (codes "c")))
    ∷ gives (codes "cn") (pure_text op.Not (typed bit (codes "cp") ∷ []))
    ∷ does (drv_text (typed bit_signal (codes "c")) (codes "cn") (codes "d") None)
    ∷ does (reg_text (typed byte_signal (codes "q")) (
    record { value = codes "one"; mode = Rise; trigger = codes "cp"; gate = Some (codes "z"); after = None }
    ∷ record { value = codes "two"; mode = Both; trigger = codes "cp"; gate = Some (codes "cp"); after = None }
    ∷ record { value = codes "one"; mode = Low; trigger = codes "cp"; gate = None; after = None }
    ∷ []))
    ∷ []) ∷ []

abbrev at_clock : ℕ → ℕ → List Datum
at_clock c q = int_value 1 c ∷ int_value 8 q ∷ []

pub clocked_trace : trace clocked (global (codes "t")) 6 ≡ ran (top (codes "t")) (signal (codes "c") bit ∷ signal (codes "q") byte ∷ []) (ended steps (
    frame 0 0 (at_clock 0 0) ∷ frame 0 1 (at_clock 0 1) ∷ frame 5 0 (at_clock 1 1) ∷ frame 5 1 (at_clock 1 2) ∷ frame 10 0 (at_clock 0 2) ∷ frame 10 1 (at_clock 0 1) ∷ []))
unfolding activate pass probes visit design_of refusal_of bits_at acts_at apply integer_row row_width
clocked_trace = refl
