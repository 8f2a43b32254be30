-- Small files, as contents.
use Rattle.std.specs.Prelude.{ℕ, List, [], ◌∷◌, ◌++◌, map, Some, None, codes}
use Rattle.lh_types.specs.Types.{TypeTree, int_type, void_type, signal_type}
use Rattle.lh_types.specs.Values.{Datum, int_value, time_value}
use Rattle.lh_unit.specs.declared.inst.UnitKind.TheVariants as kind
use Rattle.lh_unit.specs.declared.inst.Mode.{Mode}
use Rattle.lh_unit.specs.declared.inst.Mode.TheVariants.{Rise}
pub use Rattle.lh_unit.specs.Worded.{bit, global, typed, gives, does, input, output, block}
use Rattle.lh_unit.specs.Contents.{const_text, sig_text, drv_text, prb_text, reg_text, child_text, call_text, wait_text, halt_text, ret_text, LineText, BlockText, ArgText, UnitText, ItemText, unit_text}

abbrev pub bit_signal : TypeTree
bit_signal = signal_type bit

abbrev pub byte_signal : TypeTree
byte_signal = signal_type (int_type 8)

abbrev pub entity : List ℕ → List ArgText → List LineText → ItemText
entity n args lines = unit_text (record { kind = kind.Entity; name = global n; args = args; result = None; blocks = record { label = None; lines = lines } ∷ [] })

abbrev pub process : List ℕ → List ArgText → List BlockText → ItemText
process n args blocks = unit_text (record { kind = kind.Proc; name = global n; args = args; result = None; blocks = blocks })

abbrev pub delay : ℕ → ℕ → ℕ → Datum
delay fs delta eps = time_value (record { fs = fs; delta = delta; eps = eps })

-- a signal that is driven to 1 after a nanosecond
abbrev pub one_drive : List ItemText
one_drive = entity (codes "t") [] (
    gives (codes "z") (const_text (int_value 1 0))
    ∷ gives (codes "o") (const_text (int_value 1 1))
    ∷ gives (codes "d") (const_text (delay 1000000 0 0))
    ∷ gives (codes "a") (sig_text (typed bit (codes "z")))
    ∷ does (drv_text (typed bit_signal (codes "a")) (codes "o") (codes "d") None)
    ∷ []) ∷ []

-- two processes that drive one byte at one instant, with 1 and with 2
abbrev pub one_byte : List ℕ → ℕ → ItemText
one_byte n v = process n (output (codes "s") byte_signal ∷ []) (
    block (codes "entry") (
    gives (codes "v") (const_text (int_value 8 v))
    ∷ gives (codes "d") (const_text (delay 1000000 0 0))
    ∷ does (drv_text (typed byte_signal (codes "s")) (codes "v") (codes "d") None)
    ∷ does halt_text
    ∷ [])
    ∷ [])

abbrev pub connected : List ℕ → List (List ℕ) → LineText
connected n outputs = does (child_text (global n) [] (map (λ o. record { value = o; ty = None }) outputs))

abbrev pub two_drivers : List ItemText
two_drivers =
    one_byte (codes "p") 1
    ∷ one_byte (codes "r") 2
    ∷ entity (codes "t") [] (
    gives (codes "z") (const_text (int_value 8 0))
    ∷ gives (codes "s") (sig_text (typed (int_type 8) (codes "z")))
    ∷ connected (codes "r") (codes "s" ∷ [])
    ∷ connected (codes "p") (codes "s" ∷ [])
    ∷ [])
    ∷ []

-- a register with one trigger
abbrev pub register : Mode → LineText
register m = does (reg_text (typed bit_signal (codes "q")) (record { value = codes "o"; mode = m; trigger = codes "cp"; gate = None; after = None } ∷ []))

-- a register whose trigger is 1 from the start
abbrev pub high_from_start : Mode → List ItemText
high_from_start m = entity (codes "t") [] (
    gives (codes "z") (const_text (int_value 1 0))
    ∷ gives (codes "o") (const_text (int_value 1 1))
    ∷ gives (codes "c") (sig_text (typed bit (codes "o")))
    ∷ gives (codes "q") (sig_text (typed bit (codes "z")))
    ∷ gives (codes "cp") (prb_text (typed bit_signal (codes "c")))
    ∷ register m
    ∷ []) ∷ []

-- a register whose trigger rises after a nanosecond
abbrev pub rises_later : List ItemText
rises_later = entity (codes "t") [] (
    gives (codes "z") (const_text (int_value 1 0))
    ∷ gives (codes "o") (const_text (int_value 1 1))
    ∷ gives (codes "d") (const_text (delay 1000000 0 0))
    ∷ gives (codes "c") (sig_text (typed bit (codes "z")))
    ∷ gives (codes "q") (sig_text (typed bit (codes "z")))
    ∷ does (drv_text (typed bit_signal (codes "c")) (codes "o") (codes "d") None)
    ∷ gives (codes "cp") (prb_text (typed bit_signal (codes "c")))
    ∷ register Rise
    ∷ []) ∷ []

-- a process that waits for a nanosecond, and then drives its output after another
abbrev pub waits_for : List ItemText
waits_for = process (codes "p") (output (codes "q") bit_signal ∷ []) (
    block (codes "entry") (
    gives (codes "o") (const_text (int_value 1 1))
    ∷ gives (codes "d") (const_text (delay 1000000 0 0))
    ∷ does (wait_text (codes "next") (Some (codes "d")) [])
    ∷ [])
    ∷ block (codes "next") (
    does (drv_text (typed bit_signal (codes "q")) (codes "o") (codes "d") None)
    ∷ does halt_text
    ∷ [])
    ∷ []) ∷ []

-- a drive with the zero delay
abbrev pub zero_delay : List ItemText
zero_delay = entity (codes "t") [] (
    gives (codes "z") (const_text (int_value 1 0))
    ∷ gives (codes "o") (const_text (int_value 1 1))
    ∷ gives (codes "d") (const_text (delay 0 0 0))
    ∷ gives (codes "a") (sig_text (typed bit (codes "z")))
    ∷ does (drv_text (typed bit_signal (codes "a")) (codes "o") (codes "d") None)
    ∷ []) ∷ []

-- an assertion that fails
abbrev pub failing : List ItemText
failing = process (codes "p") [] (
    block (codes "entry") (
    gives (codes "z") (const_text (int_value 1 0))
    ∷ does (call_text (global (codes "llhd.assert")) void_type (typed bit (codes "z") ∷ []))
    ∷ does halt_text
    ∷ [])
    ∷ []) ∷ []

-- a function that calls itself without end
abbrev pub endless : List ItemText
endless =
    unit_text (record {
      kind = kind.Func;
      name = global (codes "f");
      args = [];
      result = Some void_type;
      blocks = block (codes "entry") (does (call_text (global (codes "f")) void_type []) ∷ does (ret_text None) ∷ []) ∷ [];
    })
    ∷ process (codes "p") [] (
    block (codes "entry") (does (call_text (global (codes "f")) void_type []) ∷ does (wait_text (codes "entry") None []) ∷ []) ∷ [])
    ∷ []

-- five drives with five delays
abbrev pub delayed : List ℕ → List ℕ → Datum → List LineText
delayed s d v =
    gives d (const_text v) ∷ gives s (sig_text (typed bit (codes "z"))) ∷ does (drv_text (typed bit_signal s) (codes "z") d None) ∷ []

abbrev pub five_delays : UnitText
five_delays = record {
  kind = kind.Entity;
  name = global (codes "t");
  args = [];
  result = None;
  blocks = record {
    label = None;
    lines = gives (codes "z") (const_text (int_value 1 0)) ∷ delayed (codes "a") (codes "d0") (delay 0 0 0) ++ delayed (codes "b") (codes "d1") (delay 0 1 0)
        ++ delayed (codes "c") (codes "d2") (delay 0 1 4) ++ delayed (codes "d") (codes "d3") (delay 0 0 1) ++ delayed (codes "e") (codes "d4") (delay 1000000 2 3);
  } ∷ [];
}
