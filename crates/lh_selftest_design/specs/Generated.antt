-- The text of the design that `selftest` lowers and simulates: a chain of links, each a register and an adder, and a testbench.
-- The adder of a link gives its register the sum of what it holds and what the link before holds; the chain begins with a one.
-- So the first register counts the ticks of the clock, which the testbench asserts.
use Rattle.std.specs.Prelude.{ℕ, ◌+◌, List, ◌++◌, codes, decimal}
use Rattle.std.specs.List.{flat_map, range_with_len}

-- the lines of `@chain` before those of its links
abbrev pub chain_begins : List ℕ
chain_begins =
    codes "entity @chain () -> () {\n"
    ++ codes "    %z1 = const i1 0\n"
    ++ codes "    %z = const i32 0\n"
    ++ codes "    %o = const i32 1\n"
    ++ codes "    %clk = sig i1 %z1\n"
    ++ codes "    %x0 = sig i32 %o\n"

-- the signals of a link: what its register is given, and what its register holds
abbrev pub signals_of : (link : ℕ) → List ℕ
signals_of i =
    codes "    %d" ++ decimal i ++ codes " = sig i32 %z\n"
    ++ codes "    %x" ++ decimal (i + 1) ++ codes " = sig i32 %z\n"

-- the instance of a link's register
abbrev pub register_line : (link : ℕ) → List ℕ
register_line i = codes "    inst @ff (i1$ %clk, i32$ %d" ++ decimal i ++ codes ") -> (i32$ %x" ++ decimal (i + 1) ++ codes ")\n"

-- the instance of a link's adder
abbrev pub adder_line : (link : ℕ) → List ℕ
adder_line i = codes "    inst @comb (i32$ %x" ++ decimal (i + 1) ++ codes ", i32$ %x" ++ decimal i ++ codes ") -> (i32$ %d" ++ decimal i ++ codes ")\n"

-- the instances of a link
abbrev pub instances_of : (link : ℕ) → List ℕ
instances_of i = register_line i ++ adder_line i

-- the lines of `@chain` after those of its links
abbrev pub chain_ends : List ℕ
chain_ends =
    codes "    inst @tb (i32$ %x1) -> (i1$ %clk)\n"
    ++ codes "}\n"

-- the links are numbered from 0; the signals of all links stand before the instances
abbrev pub chain : (links : ℕ) → List ℕ
chain n = chain_begins ++ flat_map signals_of (range_with_len 0 n) ++ flat_map instances_of (range_with_len 0 n) ++ chain_ends

-- a register: at each rise of the clock it takes what it is given
abbrev pub register : List ℕ
register =
    codes "proc @ff (i1$ %clk, i32$ %d) -> (i32$ %q) {\n"
    ++ codes "init:\n"
    ++ codes "    %clk0 = prb i1$ %clk\n"
    ++ codes "    wait %check, %clk\n"
    ++ codes "check:\n"
    ++ codes "    %clk1 = prb i1$ %clk\n"
    ++ codes "    %chg = neq i1 %clk0, %clk1\n"
    ++ codes "    %posedge = and i1 %chg, %clk1\n"
    ++ codes "    br %posedge, %init, %event\n"
    ++ codes "event:\n"
    ++ codes "    %dp = prb i32$ %d\n"
    ++ codes "    %delay = const time 0s 1d\n"
    ++ codes "    drv i32$ %q, %dp after %delay\n"
    ++ codes "    br %init\n"
    ++ codes "}\n"

-- an adder: at each change of an input it gives the sum
abbrev pub adder : List ℕ
adder =
    codes "proc @comb (i32$ %q, i32$ %x) -> (i32$ %d) {\n"
    ++ codes "entry:\n"
    ++ codes "    %qp = prb i32$ %q\n"
    ++ codes "    %xp = prb i32$ %x\n"
    ++ codes "    %s = add i32 %qp, %xp\n"
    ++ codes "    %t = const time 0s 1d\n"
    ++ codes "    drv i32$ %d, %s after %t\n"
    ++ codes "    wait %entry, %q, %x\n"
    ++ codes "}\n"

-- the testbench: eight ticks of the clock, and after each the assertion that the first register has counted it
abbrev pub testbench : List ℕ
testbench =
    codes "proc @tb (i32$ %q) -> (i1$ %clk) {\n"
    ++ codes "entry:\n"
    ++ codes "    %z = const i32 0\n"
    ++ codes "    %one = const i32 1\n"
    ++ codes "    %eight = const i32 8\n"
    ++ codes "    %b0 = const i1 0\n"
    ++ codes "    %b1 = const i1 1\n"
    ++ codes "    %t1 = const time 1ns\n"
    ++ codes "    %t2 = const time 2ns\n"
    ++ codes "    %n = var i32 %z\n"
    ++ codes "    br %loop\n"
    ++ codes "loop:\n"
    ++ codes "    drv i1$ %clk, %b1 after %t1\n"
    ++ codes "    drv i1$ %clk, %b0 after %t2\n"
    ++ codes "    wait %next for %t2\n"
    ++ codes "next:\n"
    ++ codes "    %i = ld i32* %n\n"
    ++ codes "    %i1 = add i32 %i, %one\n"
    ++ codes "    st i32* %n, %i1\n"
    ++ codes "    %qp = prb i32$ %q\n"
    ++ codes "    %ok = eq i32 %qp, %i1\n"
    ++ codes "    call void @llhd.assert (i1 %ok)\n"
    ++ codes "    %c = ult i32 %i1, %eight\n"
    ++ codes "    br %c, %done, %loop\n"
    ++ codes "done:\n"
    ++ codes "    halt\n"
    ++ codes "}\n"

-- The text of a chain of this many links.
abbrev pub generated : (links : ℕ) → List ℕ
generated n = chain n ++ register ++ adder ++ testbench
