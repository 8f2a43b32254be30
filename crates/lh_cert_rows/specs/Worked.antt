-- The rows of two small entities.
use Rattle.std.specs.Prelude.{◌≡◌, ℕ, List, [], ◌∷◌, Some, None, codes, true}
use Rattle.lh_types.specs.Types.{TypeTree, signal_type}
use Rattle.lh_types.specs.Values.{int_value}
use Rattle.lh_types.specs.declared.op.Op.TheVariants as op
use Rattle.lh_unit.specs.declared.inst.UnitKind.TheVariants as kind
use Rattle.lh_unit.specs.declared.inst.Mode.TheVariants.{Rise, Both}
use Rattle.lh_unit.specs.Worded.{bit, byte, word, global, typed, plain, gives, does, time, body}
use Rattle.lh_unit.specs.Contents.{const_text, pure_text, drv_text, prb_text, reg_text, LineText, ArgText, UnitText}
use Rattle.lh_term.specs.Tree.{Tree, constant, now_of, operation_on, choice_of}
use Rattle.lh_term.specs.Parts.{whole_argument}
use Rattle.lh_term.specs.Make.{bit_of}
use Rattle.lh_cert_rows.specs.Rows.{driven_by, registered}
use Rattle.lh_cert_rows.specs.Reading.{read}

abbrev pub entity : List ℕ → List ArgText → List LineText → UnitText
entity n args lines = record { kind = kind.Entity; name = global n; args = args; result = None; blocks = body lines }

abbrev pub port : List ℕ → TypeTree → ArgText
port n t = record { name = n; ty = signal_type t; output = true }

-- a flip-flop with a second trigger, which has a gate and no delay
abbrev pub flip_flop : UnitText
flip_flop = entity (codes "ff") (port (codes "clk") bit ∷ port (codes "d") word ∷ port (codes "q") word ∷ []) (
    gives (codes "v0") (prb_text (typed (signal_type word) (codes "d")))
    ∷ gives (codes "v1") (prb_text (typed (signal_type bit) (codes "clk")))
    ∷ gives (codes "v2") (const_text (time 0 1))
    ∷ gives (codes "v3") (pure_text op.Not (typed bit (codes "v1") ∷ []))
    ∷ does (reg_text (typed (signal_type word) (codes "q")) (
    record { value = codes "v0"; mode = Rise; trigger = codes "v1"; gate = None; after = Some (codes "v2") }
    ∷ record { value = codes "v0"; mode = Both; trigger = codes "v3"; gate = Some (codes "v1"); after = None } ∷ []))
    ∷ [])

abbrev pub clock : Tree
clock = now_of (whole_argument 0 bit)

abbrev pub data_now : Tree
data_now = now_of (whole_argument 1 word)

-- a choice by `mux` of a part of a signal, which drives under a condition
abbrev pub chooser : UnitText
chooser = entity (codes "choose") (port (codes "a") word ∷ port (codes "b") bit ∷ port (codes "y") byte ∷ []) (
    gives (codes "p") (pure_text (op.Exts 8 8) (typed (signal_type byte) (codes "a") ∷ []))
    ∷ gives (codes "v0") (prb_text (typed (signal_type byte) (codes "p")))
    ∷ gives (codes "v1") (prb_text (typed (signal_type bit) (codes "b")))
    ∷ gives (codes "v2") (const_text (int_value 8 7))
    ∷ gives (codes "v3") (pure_text op.Array (typed byte (codes "v2") ∷ plain (codes "v0") ∷ []))
    ∷ gives (codes "v4") (pure_text op.Mux (plain (codes "v3") ∷ plain (codes "v1") ∷ []))
    ∷ gives (codes "v5") (const_text (time 0 1))
    ∷ does (drv_text (typed (signal_type byte) (codes "y")) (codes "v4") (codes "v5") (Some (codes "v1")))
    ∷ does (drv_text (typed (signal_type byte) (codes "y")) (codes "v0") (codes "v5") None)
    ∷ [])

-- What they probe, in the order of the text, and their rows.
pub record WorkedEntities : Type 0 where
  pub clocked_probes : (read flip_flop).probes ≡ whole_argument 1 word ∷ whole_argument 0 bit ∷ []
  pub clocked_rows : (read flip_flop).rows ≡ registered (whole_argument 2 word) (
      record { mode = Rise; operand = clock; gate = bit_of true; value = data_now; delay = constant (time 0 1) }
      ∷ record { mode = Both; operand = operation_on op.Not (clock ∷ []); gate = clock; value = data_now; delay = constant (time 0 0) } ∷ []) ∷ []
  pub chosen_probes : (read chooser).probes ≡ record { arg = 0; lo = 8; ty = byte } ∷ whole_argument 1 bit ∷ []
  pub chosen_rows : (read chooser).rows ≡
      driven_by (record { cond = now_of (whole_argument 1 bit); part = whole_argument 2 byte; value = choice_of (now_of (whole_argument 1 bit)) (constant (int_value 8 7)) (now_of (record { arg = 0; lo = 8; ty = byte })); delay = constant (time 0 1) })
      ∷ driven_by (record { cond = bit_of true; part = whole_argument 2 byte; value = now_of (record { arg = 0; lo = 8; ty = byte }); delay = constant (time 0 1) })
      ∷ []
