-- Small modules, and words to write them.
use Rattle.std.specs.Prelude.{ℕ, zero, suc, ◌+◌, List, [], ◌∷◌, ◌++◌, map, Option, Some, None, codes, true, false}
use Prim.Native.String.{String}
use Rattle.std.specs.Fmt.{decimal}
use Rattle.lh_types.specs.Types.{TypeTree, int_type, array_type, void_type, signal_type, pointer_type}
use Rattle.lh_types.specs.declared.op.Op.{Op}
use Rattle.lh_types.specs.declared.op.Op.TheVariants as op
use Rattle.lh_unit_names.specs.declared.name.UnitName.{UnitName}
use Rattle.lh_unit.specs.declared.inst.UnitKind.TheVariants as unit_kind
use Rattle.lh_unit.specs.declared.inst.Mode.{Mode}
pub use Rattle.lh_unit.specs.Worded.{bit, byte, word, does, number}
use Rattle.lh_unit.specs.Worded.{time}
use Rattle.lh_unit.specs.Contents.{OperandText, EdgeText, TriggerText, InstText, const_text, pure_text, var_text, ld_text, st_text, sig_text, prb_text, drv_text, reg_text, child_text, call_text, phi_text, br_text, branch_text, wait_text, halt_text, ret_text, LineText, BlockText, ArgText, UnitText, ItemText, unit_text}

-- ---- words for short

abbrev pub global : String → UnitName
global n = record { sigil = 64; name = codes n }

-- an operand with its type, and without
abbrev pub typed : TypeTree → String → OperandText
typed t n = record { value = codes n; ty = Some t }

abbrev pub plain : String → OperandText
plain n = record { value = codes n; ty = None }

-- a line with a result
abbrev pub gives : String → InstText → LineText
gives n i = record { result = Some (codes n); inst = i }

-- const time
abbrev pub delay : (fs delta : ℕ) → InstText
delay fs delta = const_text (time fs delta)

-- an operation on two values
abbrev pub two : Op → TypeTree → String → String → InstText
two o t a b = pure_text o (typed t a ∷ plain b ∷ [])

abbrev pub one : Op → TypeTree → String → InstText
one o t a = pure_text o (typed t a ∷ [])

abbrev pub probe : TypeTree → String → InstText
probe t s = prb_text (typed (signal_type t) s)

-- drv T$ %s, %v after %d, without and with `if %c`
abbrev pub drive : TypeTree → (s v d : String) → InstText
drive t s v d = drv_text (typed (signal_type t) s) (codes v) (codes d) None

abbrev pub drive_if : TypeTree → (s v d c : String) → InstText
drive_if t s v d c = drv_text (typed (signal_type t) s) (codes v) (codes d) (Some (codes c))

abbrev pub goes : String → InstText
goes b = br_text (codes b)

-- to the first block where the condition is 0, to the second where it is 1
abbrev pub branches : (c zero one : String) → InstText
branches c z o = branch_text (codes c) (codes z) (codes o)

abbrev pub waits : String → List String → InstText
waits b ss = wait_text (codes b) None (map codes ss)

abbrev pub waits_until : String → String → InstText
waits_until b t = wait_text (codes b) (Some (codes t)) []

abbrev pub phi_edge : (v b : String) → EdgeText
phi_edge v b = record { value = codes v; block = codes b }

abbrev pub input : String → TypeTree → ArgText
input n t = record { name = codes n; ty = signal_type t; output = false }

abbrev pub output : String → TypeTree → ArgText
output n t = record { name = codes n; ty = signal_type t; output = true }

abbrev pub block : String → List LineText → BlockText
block n lines = record { label = Some (codes n); lines = lines }

abbrev pub process_unit : String → List ArgText → List BlockText → UnitText
process_unit n args blocks = record { kind = unit_kind.Proc; name = global n; args = args; result = None; blocks = blocks }

abbrev pub process : String → List ArgText → List BlockText → ItemText
process n args blocks = unit_text (process_unit n args blocks)

abbrev pub entity : String → List ArgText → List LineText → ItemText
entity n args lines = unit_text (record { kind = unit_kind.Entity; name = global n; args = args; result = None; blocks = record { label = None; lines = lines } ∷ [] })

abbrev pub function : String → List ArgText → TypeTree → List BlockText → ItemText
function n args t blocks = unit_text (record { kind = unit_kind.Func; name = global n; args = args; result = Some t; blocks = blocks })

abbrev pub parameter : String → TypeTree → ArgText
parameter n t = record { name = codes n; ty = t; output = false }

abbrev pub signal : TypeTree → String → OperandText
signal t n = typed (signal_type t) n

abbrev pub child : String → (inputs outputs : List OperandText) → LineText
child n ins outs = does (child_text (global n) ins outs)

abbrev pub calls : String → List OperandText → LineText
calls f args = does (call_text (global f) void_type args)

abbrev pub trigger : (v : String) → Mode → (t : String) → (gate : Option String) → (d : String) → TriggerText
trigger v m t None d = record { value = codes v; mode = m; trigger = codes t; gate = None; after = Some (codes d) }
trigger v m t (Some g) d = record { value = codes v; mode = m; trigger = codes t; gate = Some (codes g); after = Some (codes d) }

abbrev pub register : TypeTree → String → List TriggerText → LineText
register t s ts = does (reg_text (typed (signal_type t) s) ts)

-- ---- an accumulator and its testbench

abbrev pub acc_tb : ItemText
acc_tb = entity "acc_tb" [] (
    gives "zero0" (number 1 0)
    ∷ gives "zero1" (number 32 0)
    ∷ gives "clk" (sig_text (typed bit "zero0"))
    ∷ gives "en" (sig_text (typed bit "zero0"))
    ∷ gives "x" (sig_text (typed word "zero1"))
    ∷ gives "q" (sig_text (typed word "zero1"))
    ∷ child "acc" (signal bit "clk" ∷ signal word "x" ∷ signal bit "en" ∷ []) (signal word "q" ∷ [])
    ∷ child "acc_tb_initial" (signal word "q" ∷ []) (signal bit "clk" ∷ signal word "x" ∷ signal bit "en" ∷ [])
    ∷ [])

abbrev pub acc : ItemText
acc = entity "acc" (input "clk" bit ∷ input "x" word ∷ input "en" bit ∷ output "q" word ∷ []) (
    gives "zero" (number 32 0)
    ∷ gives "d" (sig_text (typed word "zero"))
    ∷ child "acc_ff" (signal bit "clk" ∷ signal word "d" ∷ []) (signal word "q" ∷ [])
    ∷ child "acc_comb" (signal word "q" ∷ signal word "x" ∷ signal bit "en" ∷ []) (signal word "d" ∷ [])
    ∷ [])

abbrev pub acc_ff_args : List ArgText
acc_ff_args = input "clk" bit ∷ input "d" word ∷ output "q" word ∷ []

-- The value that is loaded is probed at the edge.
abbrev pub acc_ff : ItemText
acc_ff = process "acc_ff" acc_ff_args (
    block "init" (gives "clk0" (probe bit "clk") ∷ does (waits "check" ("clk" ∷ [])) ∷ [])
    ∷ block "check" (
    gives "clk1" (probe bit "clk")
    ∷ gives "chg" (two op.Neq bit "clk0" "clk1")
    ∷ gives "posedge" (two op.And bit "chg" "clk1")
    ∷ does (branches "posedge" "init" "event")
    ∷ [])
    ∷ block "event" (gives "dp" (probe word "d") ∷ gives "delay" (delay 0 1) ∷ does (drive word "q" "dp" "delay") ∷ does (goes "init") ∷ [])
    ∷ [])

-- the same with the value probed before the wait
abbrev pub acc_ff_early : ItemText
acc_ff_early = process "acc_ff" acc_ff_args (
    block "init" (gives "clk0" (probe bit "clk") ∷ gives "dp" (probe word "d") ∷ does (waits "check" ("clk" ∷ [])) ∷ [])
    ∷ block "check" (
    gives "clk1" (probe bit "clk")
    ∷ gives "chg" (two op.Neq bit "clk0" "clk1")
    ∷ gives "posedge" (two op.And bit "chg" "clk1")
    ∷ does (branches "posedge" "init" "event")
    ∷ [])
    ∷ block "event" (gives "delay" (delay 0 1) ∷ does (drive word "q" "dp" "delay") ∷ does (goes "init") ∷ [])
    ∷ [])

-- the same with another signal, probed before the wait, in place of the clock's value after it
abbrev pub acc_ff_enabled : ItemText
acc_ff_enabled = process "acc_ff" (input "clk" bit ∷ input "d" word ∷ input "en" bit ∷ output "q" word ∷ []) (
    block "init" (gives "clk0" (probe bit "clk") ∷ gives "en0" (probe bit "en") ∷ does (waits "check" ("clk" ∷ [])) ∷ [])
    ∷ block "check" (
    gives "clk1" (probe bit "clk")
    ∷ gives "chg" (two op.Neq bit "clk0" "clk1")
    ∷ gives "posedge" (two op.And bit "chg" "en0")
    ∷ does (branches "posedge" "init" "event")
    ∷ [])
    ∷ block "event" (gives "dp" (probe word "d") ∷ gives "delay" (delay 0 1) ∷ does (drive word "q" "dp" "delay") ∷ does (goes "init") ∷ [])
    ∷ [])

abbrev pub acc_comb_args : List ArgText
acc_comb_args = input "q" word ∷ input "x" word ∷ input "en" bit ∷ output "d" word ∷ []

-- the logic of the accumulator, which waits on these signals
abbrev pub acc_comb : (waited : List String) → ItemText
acc_comb waited = process "acc_comb" acc_comb_args (
    block "entry" (
    gives "qp" (probe word "q")
    ∷ gives "enp" (probe bit "en")
    ∷ gives "delay" (delay 0 1)
    ∷ does (drive word "d" "qp" "delay")
    ∷ does (branches "enp" "final" "enabled")
    ∷ [])
    ∷ block "enabled" (gives "xp" (probe word "x") ∷ gives "sum" (two op.Add word "qp" "xp") ∷ does (drive word "d" "sum" "delay") ∷ does (goes "final") ∷ [])
    ∷ block "final" (does (waits "entry" waited) ∷ [])
    ∷ [])

abbrev pub acc_tb_initial : ItemText
acc_tb_initial = process "acc_tb_initial" (input "q" word ∷ output "clk" bit ∷ output "x" word ∷ output "en" bit ∷ []) (
    block "entry" (
    gives "bit0" (number 1 0)
    ∷ gives "bit1" (number 1 1)
    ∷ gives "zero" (number 32 0)
    ∷ gives "one" (number 32 1)
    ∷ gives "del1" (delay 1000000 0)
    ∷ gives "del2" (delay 2000000 0)
    ∷ gives "i" (var_text (typed word "zero"))
    ∷ does (drive bit "en" "bit1" "del2")
    ∷ does (goes "loop")
    ∷ [])
    ∷ block "loop" (
    gives "ip" (ld_text (typed (pointer_type word) "i"))
    ∷ does (drive word "x" "ip" "del2")
    ∷ does (drive bit "clk" "bit1" "del1")
    ∷ does (drive bit "clk" "bit0" "del2")
    ∷ does (waits_until "next" "del2")
    ∷ [])
    ∷ block "next" (
    gives "qp" (probe word "q")
    ∷ calls "acc_tb_check" (typed word "ip" ∷ typed word "qp" ∷ [])
    ∷ gives "in" (two op.Add word "ip" "one")
    ∷ does (st_text (typed (pointer_type word) "i") (codes "in"))
    ∷ gives "cont" (two op.Ult word "ip" "one")
    ∷ does (branches "cont" "end" "loop")
    ∷ [])
    ∷ block "end" (does halt_text ∷ [])
    ∷ [])

abbrev pub acc_tb_check : ItemText
acc_tb_check = function "acc_tb_check" (parameter "i" word ∷ parameter "q" word ∷ []) void_type (
    block "entry" (
    gives "one" (number 32 1)
    ∷ gives "two" (number 32 2)
    ∷ gives "dec" (two op.Sub word "i" "one")
    ∷ gives "prod" (two op.Umul word "i" "dec")
    ∷ gives "sum" (two op.Udiv word "prod" "two")
    ∷ gives "ok" (two op.Eq word "q" "sum")
    ∷ calls "llhd.assert" (typed bit "ok" ∷ [])
    ∷ does (ret_text None)
    ∷ [])
    ∷ [])

-- ---- a flip-flop with asynchronous reset

abbrev pub ffr_args : List ArgText
ffr_args = input "clk" bit ∷ input "rst" bit ∷ input "d" byte ∷ output "q" byte ∷ []

abbrev pub ffr : ItemText
ffr = process "ffr" ffr_args (
    block "entry" (gives "z" (number 8 0) ∷ gives "del" (delay 0 1) ∷ does (goes "init") ∷ [])
    ∷ block "init" (gives "c0" (probe bit "clk") ∷ gives "r0" (probe bit "rst") ∷ does (waits "check" ("clk" ∷ "rst" ∷ [])) ∷ [])
    ∷ block "check" (
    gives "c1" (probe bit "clk")
    ∷ gives "r1" (probe bit "rst")
    ∷ gives "cc" (two op.Neq bit "c0" "c1")
    ∷ gives "pos" (two op.And bit "cc" "c1")
    ∷ gives "nr" (one op.Not bit "r1")
    ∷ gives "rc" (two op.Neq bit "r0" "r1")
    ∷ gives "neg" (two op.And bit "rc" "nr")
    ∷ gives "ev" (two op.Or bit "pos" "neg")
    ∷ does (branches "ev" "init" "event")
    ∷ [])
    ∷ block "event" (does (branches "r1" "reset" "load") ∷ [])
    ∷ block "reset" (does (drive byte "q" "z" "del") ∷ does (goes "init") ∷ [])
    ∷ block "load" (gives "dp" (probe byte "d") ∷ does (drive byte "q" "dp" "del") ∷ does (goes "init") ∷ [])
    ∷ [])

-- ---- a constant, on what is waited on

abbrev pub five_args : List ArgText
five_args = input "e" bit ∷ output "q" byte ∷ []

abbrev pub five : (waited : List String) → ItemText
five waited = process "k" five_args (
    block "entry" (gives "five" (number 8 5) ∷ gives "t" (delay 1000000 0) ∷ does (drive byte "q" "five" "t") ∷ does (waits "entry" waited) ∷ []) ∷ [])

-- ---- three drives

abbrev pub al_args : List ArgText
al_args = input "c" bit ∷ output "d" byte ∷ output "e" byte ∷ []

abbrev pub al : ItemText
al = process "al" al_args (
    block "entry" (
    gives "cp" (probe bit "c")
    ∷ gives "k1" (number 8 1)
    ∷ gives "k2" (number 8 2)
    ∷ gives "k3" (number 8 3)
    ∷ gives "t" (delay 0 1)
    ∷ does (drive byte "d" "k1" "t")
    ∷ does (drive byte "e" "k2" "t")
    ∷ does (branches "cp" "done" "more")
    ∷ [])
    ∷ block "more" (does (drive byte "d" "k3" "t") ∷ does (goes "done") ∷ [])
    ∷ block "done" (does (waits "entry" ("c" ∷ [])) ∷ [])
    ∷ [])

-- ---- a loop, whose body is executed n times, where n is 1 or more

abbrev pub lp_args : List ArgText
lp_args = input "a" word ∷ output "q" word ∷ []

abbrev pub lp_entry : (n : ℕ) → List LineText
lp_entry n =
    gives "z" (number 32 0)
    ∷ gives "one" (number 32 1)
    ∷ gives "n" (number 32 n)
    ∷ gives "t" (delay 0 1)
    ∷ gives "ap" (probe word "a")
    ∷ gives "i" (var_text (typed word "z"))
    ∷ gives "s" (var_text (typed word "z"))
    ∷ does (goes "loop")
    ∷ []

abbrev pub lp_body : List LineText
lp_body =
    gives "sp" (ld_text (typed (pointer_type word) "s"))
    ∷ gives "sn" (two op.Add word "sp" "ap")
    ∷ does (st_text (typed (pointer_type word) "s") (codes "sn"))
    ∷ gives "ip" (ld_text (typed (pointer_type word) "i"))
    ∷ gives "in" (two op.Add word "ip" "one")
    ∷ does (st_text (typed (pointer_type word) "i") (codes "in"))
    ∷ gives "c" (two op.Ult word "in" "n")
    ∷ does (branches "c" "done" "loop")
    ∷ []

abbrev pub lp_done : List LineText
lp_done = gives "r" (ld_text (typed (pointer_type word) "s")) ∷ does (drive word "q" "r" "t") ∷ does (waits "entry" ("a" ∷ [])) ∷ []

abbrev pub lp_unit : (n : ℕ) → UnitText
lp_unit n = process_unit "lp" lp_args (block "entry" (lp_entry n) ∷ block "loop" lp_body ∷ block "done" lp_done ∷ [])

-- a loop without an end
abbrev pub endless : ItemText
endless = process "e" [] (block "entry" (does (goes "again") ∷ []) ∷ block "again" (does (goes "again") ∷ []) ∷ [])

-- ---- functions that call each other

abbrev pub recursive : ItemText
recursive = function "f" [] void_type (block "entry" (calls "f" [] ∷ does (ret_text None) ∷ []) ∷ [])

abbrev pub caller_unit : (f : String) → UnitText
caller_unit f = process_unit "p" [] (block "entry" (calls f [] ∷ does (waits "entry" []) ∷ []) ∷ [])

abbrev pub caller : (f : String) → ItemText
caller f = unit_text (caller_unit f)

-- the function of number k, with these lines before its `ret`
abbrev pub numbered : ℕ → List LineText → ItemText
numbered k lines = unit_text (record {
  kind = unit_kind.Func;
  name = record { sigil = 64; name = codes "f" ++ decimal k };
  args = [];
  result = Some void_type;
  blocks = block "e" (lines ++ does (ret_text None) ∷ []) ∷ [];
})

abbrev pub calls_number : ℕ → LineText
calls_number k = does (call_text (record { sigil = 64; name = codes "f" ++ decimal k }) void_type [])

-- n functions from number k on, each of which calls the next; the last only returns
abbrev pub chain : (n k : ℕ) → List ItemText
chain zero k = []
chain (suc zero) k = numbered k [] ∷ []
chain (suc (suc n)) k = numbered k (calls_number (k + 1) ∷ []) ∷ chain (suc n) (k + 1)

-- ---- a process that calls one function twice, on what it gave

abbrev pub increment : ItemText
increment = function "inc" (parameter "v" byte ∷ []) byte (
    block "e" (gives "one" (number 8 1) ∷ gives "w" (two op.Add byte "v" "one") ∷ does (ret_text (Some (typed byte "w"))) ∷ []) ∷ [])

abbrev pub calls_twice_args : List ArgText
calls_twice_args = input "a" byte ∷ output "q" byte ∷ []

abbrev pub calls_twice : ItemText
calls_twice = process "c" calls_twice_args (
    block "entry" (
    gives "ap" (probe byte "a")
    ∷ gives "x" (call_text (global "inc") byte (typed byte "ap" ∷ []))
    ∷ gives "y" (call_text (global "inc") byte (typed byte "x" ∷ []))
    ∷ gives "t" (delay 0 1)
    ∷ does (drive byte "q" "y" "t")
    ∷ does (waits "entry" ("a" ∷ []))
    ∷ [])
    ∷ [])

-- ---- a process that drives the low half of a signal

abbrev pub half : TypeTree
half = int_type 4

abbrev pub low_half : String → InstText
low_half n = one (op.Exts 0 4) (signal_type half) n

abbrev pub drives_half_args : List ArgText
drives_half_args = input "a" half ∷ output "q" byte ∷ []

abbrev pub drives_half : ItemText
drives_half = process "h" drives_half_args (
    block "entry" (
    gives "low" (low_half "q") ∷ gives "ap" (probe half "a") ∷ gives "t" (delay 0 1) ∷ does (drive half "low" "ap" "t") ∷ does (waits "entry" ("a" ∷ [])) ∷ [])
    ∷ [])

-- ---- processes that drive once

abbrev pub sets : (n : String) → (value : ℕ) → ItemText
sets n v = process n (output "s" byte ∷ []) (block "entry" (gives "one" (number 8 v) ∷ gives "t" (delay 1000000 0) ∷ does (drive byte "s" "one" "t") ∷ does halt_text ∷ []) ∷ [])

-- the same, which first probes what it drives
abbrev pub sets_and_probes : ItemText
sets_and_probes = process "p" (output "s" byte ∷ []) (
    block "entry" (gives "sp" (probe byte "s") ∷ gives "one" (number 8 1) ∷ gives "t" (delay 1000000 0) ∷ does (drive byte "s" "one" "t") ∷ does halt_text ∷ []) ∷ [])

-- a process that asserts and halts
abbrev pub fails : ItemText
fails = process "p" [] (block "entry" (gives "z" (number 1 0) ∷ calls "llhd.assert" (typed bit "z" ∷ []) ∷ does halt_text ∷ []) ∷ [])

-- the entity with both processes
abbrev pub both_set : ItemText
both_set = entity "t" [] (
    gives "z" (number 8 0) ∷ gives "s" (sig_text (typed byte "z")) ∷ child "r" [] (signal byte "s" ∷ []) ∷ child "p" [] (signal byte "s" ∷ []) ∷ [])

-- ---- a process that waits in two blocks

abbrev pub two_waits_args : List ArgText
two_waits_args = input "c" bit ∷ output "q" byte ∷ []

-- in one where the signal is 0, in the other where it is 1, after a drive; for the same block, the first one also on `more`
abbrev pub two_waits : (more : List String) → ItemText
two_waits more = process "w" two_waits_args (
    block "entry" (gives "cp" (probe bit "c") ∷ gives "k1" (number 8 1) ∷ gives "t" (delay 0 1) ∷ does (branches "cp" "low" "high") ∷ [])
    ∷ block "low" (does (waits "entry" ("c" ∷ more)) ∷ [])
    ∷ block "high" (does (drive byte "q" "k1" "t") ∷ does (waits "entry" ("c" ∷ [])) ∷ [])
    ∷ [])

-- ---- a process whose second region begins with a `phi`: which block it waited in tells what the clock was

abbrev pub remembers_args : List ArgText
remembers_args = input "clk" bit ∷ input "d" byte ∷ output "q" byte ∷ []

-- by these lines, which say of `was` and `c1` whether the clock rose
abbrev pub remembers : (rises : List LineText) → ItemText
remembers rises = process "m" remembers_args (
    block "init" (gives "c0" (probe bit "clk") ∷ gives "zero" (number 1 0) ∷ gives "one" (number 1 1) ∷ gives "t" (delay 0 1) ∷ does (branches "c0" "low" "high") ∷ [])
    ∷ block "low" (does (waits "check" ("clk" ∷ [])) ∷ [])
    ∷ block "high" (does (waits "check" ("clk" ∷ [])) ∷ [])
    ∷ block "check" (
    gives "was" (phi_text bit (phi_edge "zero" "low" ∷ phi_edge "one" "high" ∷ []))
    ∷ gives "c1" (probe bit "clk")
    ∷ rises
    ++ does (branches "rise" "init" "event")
    ∷ [])
    ∷ block "event" (gives "dp" (probe byte "d") ∷ does (drive byte "q" "dp" "t") ∷ does (goes "init") ∷ [])
    ∷ [])

-- ---- a process that chooses between two values of this type

abbrev pub chooser : TypeTree → ItemText
chooser t = process "y" (input "c" bit ∷ input "a" t ∷ input "b" t ∷ output "q" t ∷ []) (
    block "entry" (
    gives "cp" (probe bit "c")
    ∷ gives "x" (probe t "a")
    ∷ gives "y" (probe t "b")
    ∷ gives "t" (delay 0 1)
    ∷ does (drive t "q" "x" "t")
    ∷ does (drive_if t "q" "y" "t" "cp")
    ∷ does (waits "entry" ("c" ∷ "a" ∷ "b" ∷ []))
    ∷ [])
    ∷ [])

-- it changed, and is 1
abbrev pub changed_to_one : List LineText
changed_to_one = gives "changed" (two op.Neq bit "was" "c1") ∷ gives "rise" (two op.And bit "changed" "c1") ∷ []

-- it was not 1, and is 1
abbrev pub not_one_before : List LineText
not_one_before = gives "low" (one op.Not bit "was") ∷ gives "rise" (two op.And bit "low" "c1") ∷ []

-- an array in an array and so on, n times
abbrev pub nested : ℕ → TypeTree
nested zero = bit
nested (suc n) = array_type 1 (nested n)
