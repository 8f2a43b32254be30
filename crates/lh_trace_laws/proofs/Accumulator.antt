-- An accumulator with its testbench, as processes and as entities, and its trace.
use Rattle.std.specs.Prelude.{◌≡◌, ℕ, List, [], ◌∷◌, true, Option, Some, None, codes, refl}
use Rattle.std.specs.Fmt.{digits}
use Rattle.lh_time.specs.Due.{instant}
use Rattle.lh_types.specs.Types.{TypeTree, int_type, void_type, signal_type, pointer_type}
use Rattle.lh_types.specs.Values.{Datum, int_value}
use Rattle.lh_types.specs.Apply.{apply}
use Rattle.lh_types.specs.ApplyInt.{integer_row, row_width}
use Rattle.lh_types.specs.History.{bits_at}
use Rattle.lh_types.specs.declared.op.Op.{Op}
use Rattle.lh_types.specs.declared.op.Op.TheVariants as op
use Rattle.lh_unit.specs.declared.inst.UnitKind.TheVariants as kind
use Rattle.lh_unit.specs.declared.inst.Mode.TheVariants.{Rise}
use Rattle.lh_unit.specs.Contents.{OperandText, InstText, const_text, pure_text, var_text, ld_text, st_text, sig_text, prb_text, drv_text, reg_text, child_text, call_text, br_text, branch_text, wait_text, halt_text, ret_text, LineText, ArgText, ItemText, unit_text}
use Rattle.lh_unit.specs.Activation.{activate}
use Rattle.lh_unit.specs.Pass.{pass, probes}
use Rattle.lh_unit.specs.Design.{visit, design_of, refusal_of}
use Rattle.lh_unit.specs.World.{acts_at}
use Rattle.lh_types.specs.declared.frame.Outcome.{Outcome}
use Rattle.lh_unit.specs.Trace.{Frame, quiet, Run, Shown, ShownSignal, ran, trace}
use Rattle.lh_unit.specs.Worded.{word}
use Rattle.lh_trace_laws.proofs.Samples.{global, gives, does, typed, bit, bit_signal, input, output, entity, process, block, delay}

abbrev word_signal : TypeTree
word_signal = signal_type word

abbrev name : List ℕ → OperandText
name n = record { value = n; ty = None }

abbrev binary : Op → TypeTree → List ℕ → List ℕ → InstText
binary o t x y = pure_text o (typed t x ∷ name y ∷ [])

abbrev drives : TypeTree → List ℕ → List ℕ → List ℕ → LineText
drives t to value after = does (drv_text (typed t to) value after None)

abbrev instance : List ℕ → (inputs outputs : List OperandText) → LineText
instance u inputs outputs = does (child_text (global u) inputs outputs)

abbrev bit_at : List ℕ → OperandText
bit_at = typed bit_signal

abbrev word_at : List ℕ → OperandText
word_at = typed word_signal

abbrev testbench : ItemText
testbench = entity (codes "acc_tb") [] (
    gives (codes "zero0") (const_text (int_value 1 0))
    ∷ gives (codes "zero1") (const_text (int_value 32 0))
    ∷ gives (codes "clk") (sig_text (typed bit (codes "zero0")))
    ∷ gives (codes "en") (sig_text (typed bit (codes "zero0")))
    ∷ gives (codes "x") (sig_text (typed word (codes "zero1")))
    ∷ gives (codes "q") (sig_text (typed word (codes "zero1")))
    ∷ instance (codes "acc") (bit_at (codes "clk") ∷ word_at (codes "x") ∷ bit_at (codes "en") ∷ []) (word_at (codes "q") ∷ [])
    ∷ instance (codes "acc_tb_initial") (word_at (codes "q") ∷ []) (bit_at (codes "clk") ∷ word_at (codes "x") ∷ bit_at (codes "en") ∷ [])
    ∷ [])

abbrev accumulator : ItemText
accumulator = entity (codes "acc") (input (codes "clk") bit_signal ∷ input (codes "x") word_signal ∷ input (codes "en") bit_signal ∷ output (codes "q") word_signal ∷ []) (
    gives (codes "zero") (const_text (int_value 32 0))
    ∷ gives (codes "d") (sig_text (typed word (codes "zero")))
    ∷ instance (codes "acc_ff") (bit_at (codes "clk") ∷ word_at (codes "d") ∷ []) (word_at (codes "q") ∷ [])
    ∷ instance (codes "acc_comb") (word_at (codes "q") ∷ word_at (codes "x") ∷ bit_at (codes "en") ∷ []) (word_at (codes "d") ∷ [])
    ∷ [])

abbrev ff_args : List ArgText
ff_args = input (codes "clk") bit_signal ∷ input (codes "d") word_signal ∷ output (codes "q") word_signal ∷ []

abbrev comb_args : List ArgText
comb_args = input (codes "q") word_signal ∷ input (codes "x") word_signal ∷ input (codes "en") bit_signal ∷ output (codes "d") word_signal ∷ []

abbrev ff_process : ItemText
ff_process = process (codes "acc_ff") ff_args (
    block (codes "init") (
    gives (codes "clk0") (prb_text (bit_at (codes "clk")))
    ∷ does (wait_text (codes "check") None (codes "clk" ∷ []))
    ∷ [])
    ∷ block (codes "check") (
    gives (codes "clk1") (prb_text (bit_at (codes "clk")))
    ∷ gives (codes "chg") (binary op.Neq bit (codes "clk0") (codes "clk1"))
    ∷ gives (codes "posedge") (binary op.And bit (codes "chg") (codes "clk1"))
    ∷ does (branch_text (codes "posedge") (codes "init") (codes "event"))
    ∷ [])
    ∷ block (codes "event") (
    gives (codes "dp") (prb_text (word_at (codes "d")))
    ∷ gives (codes "delay") (const_text (delay 0 1 0))
    ∷ drives word_signal (codes "q") (codes "dp") (codes "delay")
    ∷ does (br_text (codes "init"))
    ∷ [])
    ∷ [])

abbrev comb_process : ItemText
comb_process = process (codes "acc_comb") comb_args (
    block (codes "entry") (
    gives (codes "qp") (prb_text (word_at (codes "q")))
    ∷ gives (codes "enp") (prb_text (bit_at (codes "en")))
    ∷ gives (codes "delay") (const_text (delay 0 1 0))
    ∷ drives word_signal (codes "d") (codes "qp") (codes "delay")
    ∷ does (branch_text (codes "enp") (codes "final") (codes "enabled"))
    ∷ [])
    ∷ block (codes "enabled") (
    gives (codes "xp") (prb_text (word_at (codes "x")))
    ∷ gives (codes "sum") (binary op.Add word (codes "qp") (codes "xp"))
    ∷ drives word_signal (codes "d") (codes "sum") (codes "delay")
    ∷ does (br_text (codes "final"))
    ∷ [])
    ∷ block (codes "final") (does (wait_text (codes "entry") None (codes "q" ∷ codes "x" ∷ codes "en" ∷ [])) ∷ [])
    ∷ [])

abbrev initial : ItemText
initial = process (codes "acc_tb_initial") (input (codes "q") word_signal ∷ output (codes "clk") bit_signal ∷ output (codes "x") word_signal ∷ output (codes "en") bit_signal ∷ []) (
    block (codes "entry") (
    gives (codes "bit0") (const_text (int_value 1 0))
    ∷ gives (codes "bit1") (const_text (int_value 1 1))
    ∷ gives (codes "zero") (const_text (int_value 32 0))
    ∷ gives (codes "one") (const_text (int_value 32 1))
    ∷ gives (codes "del1") (const_text (delay 1000000 0 0))
    ∷ gives (codes "del2") (const_text (delay 2000000 0 0))
    ∷ gives (codes "i") (var_text (typed word (codes "zero")))
    ∷ drives bit_signal (codes "en") (codes "bit1") (codes "del2")
    ∷ does (br_text (codes "loop"))
    ∷ [])
    ∷ block (codes "loop") (
    gives (codes "ip") (ld_text (typed (pointer_type word) (codes "i")))
    ∷ drives word_signal (codes "x") (codes "ip") (codes "del2")
    ∷ drives bit_signal (codes "clk") (codes "bit1") (codes "del1")
    ∷ drives bit_signal (codes "clk") (codes "bit0") (codes "del2")
    ∷ does (wait_text (codes "next") (Some (codes "del2")) [])
    ∷ [])
    ∷ block (codes "next") (
    gives (codes "qp") (prb_text (word_at (codes "q")))
    ∷ does (call_text (global (codes "acc_tb_check")) void_type (typed word (codes "ip") ∷ typed word (codes "qp") ∷ []))
    ∷ gives (codes "in") (binary op.Add word (codes "ip") (codes "one"))
    ∷ does (st_text (typed (pointer_type word) (codes "i")) (codes "in"))
    ∷ gives (codes "cont") (binary op.Ult word (codes "ip") (codes "one"))
    ∷ does (branch_text (codes "cont") (codes "end") (codes "loop"))
    ∷ [])
    ∷ block (codes "end") (does halt_text ∷ [])
    ∷ [])

abbrev check : ItemText
check = unit_text (record {
  kind = kind.Func;
  name = global (codes "acc_tb_check");
  args = input (codes "i") word ∷ input (codes "q") word ∷ [];
  result = Some void_type;
  blocks = block (codes "entry") (
      gives (codes "one") (const_text (int_value 32 1))
      ∷ gives (codes "two") (const_text (int_value 32 2))
      ∷ gives (codes "dec") (binary op.Sub word (codes "i") (codes "one"))
      ∷ gives (codes "prod") (binary op.Umul word (codes "i") (codes "dec"))
      ∷ gives (codes "sum") (binary op.Udiv word (codes "prod") (codes "two"))
      ∷ gives (codes "ok") (binary op.Eq word (codes "q") (codes "sum"))
      ∷ does (call_text (global (codes "llhd.assert")) void_type (typed bit (codes "ok") ∷ []))
      ∷ does (ret_text None)
      ∷ []) ∷ [];
})

abbrev pub as_processes : List ItemText
as_processes = testbench ∷ accumulator ∷ ff_process ∷ comb_process ∷ initial ∷ check ∷ []

-- the entities that may stand for the two processes
abbrev ff_entity : ItemText
ff_entity = entity (codes "acc_ff") ff_args (
    gives (codes "v0") (prb_text (word_at (codes "d")))
    ∷ gives (codes "v1") (prb_text (bit_at (codes "clk")))
    ∷ gives (codes "v2") (const_text (delay 0 1 0))
    ∷ does (reg_text (word_at (codes "q")) (record { value = codes "v0"; mode = Rise; trigger = codes "v1"; gate = None; after = Some (codes "v2") } ∷ []))
    ∷ [])

abbrev comb_entity : ItemText
comb_entity = entity (codes "acc_comb") comb_args (
    gives (codes "v0") (prb_text (word_at (codes "q")))
    ∷ gives (codes "v1") (prb_text (word_at (codes "x")))
    ∷ gives (codes "v2") (prb_text (bit_at (codes "en")))
    ∷ gives (codes "v3") (binary op.Add word (codes "v0") (codes "v1"))
    ∷ gives (codes "v4") (pure_text op.Array (typed word (codes "v0") ∷ name (codes "v3") ∷ []))
    ∷ gives (codes "v5") (pure_text op.Mux (typed word (codes "v4") ∷ name (codes "v2") ∷ []))
    ∷ gives (codes "v6") (const_text (delay 0 1 0))
    ∷ drives word_signal (codes "d") (codes "v5") (codes "v6")
    ∷ [])

abbrev pub as_entities : List ItemText
as_entities = testbench ∷ accumulator ∷ ff_entity ∷ comb_entity ∷ initial ∷ check ∷ []

abbrev shown : List ℕ → Option ℕ → Shown
shown n p = record { label = n; parent = p }

abbrev the_instances : List Shown
the_instances =
    shown (codes "acc_tb") None ∷ shown (codes "acc_1") (Some 0) ∷ shown (codes "acc_ff_2") (Some 1) ∷ shown (codes "acc_comb_3") (Some 1)
    ∷ shown (codes "acc_tb_initial_4") (Some 0) ∷ []

abbrev signal : ℕ → List ℕ → ℕ → ShownSignal
signal i n width = record { instance = i; name = n; ty = int_type width }

abbrev the_signals : List ShownSignal
the_signals = signal 0 (codes "clk") 1 ∷ signal 0 (codes "en") 1 ∷ signal 0 (codes "x") 32 ∷ signal 0 (codes "q") 32 ∷ signal 1 (codes "d") 32 ∷ []

abbrev values : (clk en x q d : ℕ) → List Datum
values clk en x q d = int_value 1 clk ∷ int_value 1 en ∷ int_value 32 x ∷ int_value 32 q ∷ int_value 32 d ∷ []

abbrev frame : (fs delta : ℕ) → List Datum → List Outcome → Frame
frame fs delta vs os = record { at = instant fs delta 0; values = vs; outcomes = os }

abbrev passes : List Outcome
passes = record { instance = 4; passed = true } ∷ []

abbrev the_run : Run
the_run = record {
  frames =
      frame 0 0 (values 0 0 0 0 0) []
      ∷ frame 0 1 (values 0 0 0 0 0) []
      ∷ frame 1000000 0 (values 1 0 0 0 0) []
      ∷ frame 1000000 1 (values 1 0 0 0 0) []
      ∷ frame 2000000 0 (values 0 1 0 0 0) passes
      ∷ frame 2000000 1 (values 0 1 0 0 0) []
      ∷ frame 3000000 0 (values 1 1 0 0 0) []
      ∷ frame 3000000 1 (values 1 1 0 0 0) []
      ∷ frame 4000000 0 (values 0 1 1 0 0) passes
      ∷ frame 4000000 1 (values 0 1 1 0 1) []
      ∷ [];
  end = quiet;
}

pub processes_trace : trace as_processes (global (codes "acc_tb")) 20 ≡ ran the_instances the_signals the_run
unfolding activate pass probes visit design_of refusal_of bits_at acts_at digits apply integer_row row_width
processes_trace = refl

pub entities_trace : trace as_entities (global (codes "acc_tb")) 20 ≡ ran the_instances the_signals the_run
unfolding activate pass probes visit design_of refusal_of bits_at acts_at digits apply integer_row row_width
entities_trace = refl
