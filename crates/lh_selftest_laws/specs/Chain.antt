-- What the text of a chain says: the entity of the chain, its register and its adder, and the testbench.
use Rattle.std.specs.Prelude.{ℕ, ◌+◌, List, [], ◌∷◌, ◌++◌, Some, None, codes, decimal}
use Rattle.std.specs.List.{flat_map, range_with_len}
use Rattle.lh_types.specs.Types.{pointer_type, void_type}
use Rattle.lh_types.specs.declared.op.Op.TheVariants as op
use Rattle.lh_unit.specs.Contents.{var_text, ld_text, st_text, call_text, br_text, branch_text, wait_text, halt_text, LineText, BlockText, UnitText, ItemText, unit_text}
use Rattle.lh_selftest_design.specs.Summary.{chain_name}
use Rattle.lh_selftest_laws.specs.Words.{bit, word, unit_at, typed, signal, gives, does, number, delay, begins_with, two, probe, drive, instance, input, output, block, process, top}

-- ---- the chain

-- the signal before the link of this number: before link 0 the one with which the chain begins, before any other what the register of the link before it holds
abbrev pub stage : (number : ℕ) → List ℕ
stage k = codes "x" ++ decimal k

-- the signal that the register of a link is given, and takes at the next rise of the clock
abbrev pub next_of : (link : ℕ) → List ℕ
next_of i = codes "d" ++ decimal i

-- the constants, the clock, and the one with which the chain begins
abbrev pub chain_first : List LineText
chain_first =
    gives (codes "z1") (number 1 0)
    ∷ gives (codes "z") (number 32 0)
    ∷ gives (codes "o") (number 32 1)
    ∷ gives (codes "clk") (begins_with bit "z1")
    ∷ gives (stage 0) (begins_with word "o")
    ∷ []

-- the two signals of a link, which begin with 0
abbrev pub link_signals : (link : ℕ) → List LineText
link_signals i = gives (next_of i) (begins_with word "z") ∷ gives (stage (i + 1)) (begins_with word "z") ∷ []

-- the register of a link takes its next value, and shows what it holds as the stage behind the link
abbrev pub link_register : (link : ℕ) → LineText
link_register i = instance "ff" (signal bit (codes "clk") ∷ signal word (next_of i) ∷ []) (signal word (stage (i + 1)) ∷ [])

-- the next value is the sum of what the register holds and of the stage before the link
abbrev pub link_adder : (link : ℕ) → LineText
link_adder i = instance "comb" (signal word (stage (i + 1)) ∷ signal word (stage i) ∷ []) (signal word (next_of i) ∷ [])

-- the two instances of a link
abbrev pub link_instances : (link : ℕ) → List LineText
link_instances i = link_register i ∷ link_adder i ∷ []

-- the testbench counts with the first register, and drives the clock
abbrev pub chain_last : List LineText
chain_last = instance "tb" (signal word (stage 1) ∷ []) (signal bit (codes "clk") ∷ []) ∷ []

-- the signals of all links stand before the instances
abbrev pub chain_lines : (links : ℕ) → List LineText
chain_lines n = chain_first ++ flat_map link_signals (range_with_len 0 n) ++ flat_map link_instances (range_with_len 0 n) ++ chain_last

abbrev pub chain_unit : (links : ℕ) → UnitText
chain_unit n = top chain_name (chain_lines n)

-- ---- the register: at each rise of the clock it takes what it is given

-- it notes the clock, and waits until the clock changes
abbrev pub register_init : BlockText
register_init = block "init" (gives (codes "clk0") (probe bit "clk") ∷ does (wait_text (codes "check") None (codes "clk" ∷ [])) ∷ [])

-- where the clock has not risen it waits again
abbrev pub register_check : BlockText
register_check = block "check" (
    gives (codes "clk1") (probe bit "clk")
    ∷ gives (codes "chg") (two op.Neq bit "clk0" "clk1")
    ∷ gives (codes "posedge") (two op.And bit "chg" "clk1")
    ∷ does (branch_text (codes "posedge") (codes "init") (codes "event"))
    ∷ [])

-- it takes what it is given, one delta step later
abbrev pub register_event : BlockText
register_event = block "event" (
    gives (codes "dp") (probe word "d")
    ∷ gives (codes "delay") (delay 0 1)
    ∷ does (drive word "q" "dp" "delay")
    ∷ does (br_text (codes "init"))
    ∷ [])

abbrev pub register_unit : UnitText
register_unit = process "ff" (input "clk" bit ∷ input "d" word ∷ output "q" word ∷ []) (register_init ∷ register_check ∷ register_event ∷ [])

-- ---- the adder: at each change of an input it gives the sum

abbrev pub adder_entry : BlockText
adder_entry = block "entry" (
    gives (codes "qp") (probe word "q")
    ∷ gives (codes "xp") (probe word "x")
    ∷ gives (codes "s") (two op.Add word "qp" "xp")
    ∷ gives (codes "t") (delay 0 1)
    ∷ does (drive word "d" "s" "t")
    ∷ does (wait_text (codes "entry") None (codes "q" ∷ codes "x" ∷ []))
    ∷ [])

abbrev pub adder_unit : UnitText
adder_unit = process "comb" (input "q" word ∷ input "x" word ∷ output "d" word ∷ []) (adder_entry ∷ [])

-- ---- the testbench: eight ticks of the clock, and after each the assertion that the first register has counted it

-- the constants, and the count of ticks, which begins with 0
abbrev pub testbench_entry : BlockText
testbench_entry = block "entry" (
    gives (codes "z") (number 32 0)
    ∷ gives (codes "one") (number 32 1)
    ∷ gives (codes "eight") (number 32 8)
    ∷ gives (codes "b0") (number 1 0)
    ∷ gives (codes "b1") (number 1 1)
    ∷ gives (codes "t1") (delay 1000000 0)
    ∷ gives (codes "t2") (delay 2000000 0)
    ∷ gives (codes "n") (var_text (typed word (codes "z")))
    ∷ does (br_text (codes "loop"))
    ∷ [])

-- one tick: the clock rises after 1 ns and falls after 2 ns
abbrev pub testbench_loop : BlockText
testbench_loop = block "loop" (
    does (drive bit "clk" "b1" "t1")
    ∷ does (drive bit "clk" "b0" "t2")
    ∷ does (wait_text (codes "next") (Some (codes "t2")) [])
    ∷ [])

-- the tick is counted, and the register must have counted the same; the testbench goes on while it has counted fewer than eight
abbrev pub testbench_next : BlockText
testbench_next = block "next" (
    gives (codes "i") (ld_text (typed (pointer_type word) (codes "n")))
    ∷ gives (codes "i1") (two op.Add word "i" "one")
    ∷ does (st_text (typed (pointer_type word) (codes "n")) (codes "i1"))
    ∷ gives (codes "qp") (probe word "q")
    ∷ gives (codes "ok") (two op.Eq word "qp" "i1")
    ∷ does (call_text (unit_at "llhd.assert") void_type (typed bit (codes "ok") ∷ []))
    ∷ gives (codes "c") (two op.Ult word "i1" "eight")
    ∷ does (branch_text (codes "c") (codes "done") (codes "loop"))
    ∷ [])

abbrev pub testbench_done : BlockText
testbench_done = block "done" (does halt_text ∷ [])

abbrev pub testbench_unit : UnitText
testbench_unit = process "tb" (input "q" word ∷ output "clk" bit ∷ []) (testbench_entry ∷ testbench_loop ∷ testbench_next ∷ testbench_done ∷ [])

-- ---- the file

-- The items of the file of a chain of this many links: its entity, the register, the adder and the testbench.
abbrev pub chain_file : (links : ℕ) → List ItemText
chain_file n = unit_text (chain_unit n) ∷ unit_text register_unit ∷ unit_text adder_unit ∷ unit_text testbench_unit ∷ []
