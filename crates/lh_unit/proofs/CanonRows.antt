-- Canonical lines, computed from the definition.
use Rattle.std.proofs.Common.{◌≡◌, ℕ, Bool, true, false, List, [], ◌∷◌, ◌++◌, Some, None, refl}
use Rattle.std.specs.Prelude.{codes}
use Rattle.std.specs.Fmt.{digits}
use Prim.Native.String.{String}
use Rattle.lh_types.specs.Types.{TypeTree, int_type, time_type, void_type, array_type, tuple_type, signal_type, pointer_type, no_types, more_types}
use Rattle.lh_types.specs.Values.{int_value, time_value}
use Rattle.lh_types.specs.declared.op.Op.TheVariants as op
use Rattle.lh_unit.specs.Contents.{OperandText, InstText, ArgText, const_text, pure_text, st_text, sig_text, prb_text, drv_text, reg_text, child_text, call_text, phi_text, br_text, branch_text, wait_text, halt_text, ret_text, unit_text, declare_text}
use Rattle.lh_unit.specs.Pieces.{render}
use Rattle.lh_unit.specs.CanonTypes.{type_pieces, time_text}
use Rattle.lh_unit.specs.Canon.{line_pieces, canon, header, declaration}
use Rattle.lh_unit_names.specs.declared.name.UnitName.{UnitName}
use Rattle.lh_unit.specs.declared.inst.UnitKind.TheVariants as kind
use Rattle.lh_unit.specs.declared.inst.Mode.TheVariants as mode
use Rattle.lh_unit.specs.declared.inst.Declare.TheVariants as declare

abbrev i1 : TypeTree
i1 = int_type 1

abbrev i8 : TypeTree
i8 = int_type 8

abbrev i32 : TypeTree
i32 = int_type 32

-- an operand with its type, and one without
abbrev typed : TypeTree → String → OperandText
typed t n = record { value = codes n; ty = Some t }

abbrev bare : String → OperandText
bare n = record { value = codes n; ty = None }

abbrev at : String → UnitName
at n = record { sigil = 64; name = codes n }

abbrev argument : Bool → TypeTree → String → ArgText
argument out t n = record { name = codes n; ty = t; output = out }

abbrev gives : String → InstText → List ℕ
gives r i = render (line_pieces (Some (codes r)) i)

abbrev does : InstText → List ℕ
does i = render (line_pieces None i)

negative_constant_is_unsigned : gives "x" (const_text (int_value 8 128)) ≡ codes "    %x = const i8 128"
unfolding digits
negative_constant_is_unsigned = refl

widest_constant : gives "x" (const_text (int_value 128 340282366920938463463374607431768211455)) ≡ codes "    %x = const i128 340282366920938463463374607431768211455"
unfolding digits
widest_constant = refl

time_in_picoseconds : gives "x" (const_text (time_value (record { fs = 1500000; delta = 0; eps = 0 }))) ≡ codes "    %x = const time 1500ps"
unfolding digits
time_in_picoseconds = refl

time_of_one_delta : gives "t" (const_text (time_value (record { fs = 0; delta = 1; eps = 0 }))) ≡ codes "    %t = const time 0s 1d"
unfolding digits
time_of_one_delta = refl

time_of_all_three : gives "t" (const_text (time_value (record { fs = 1000000; delta = 2; eps = 3 }))) ≡ codes "    %t = const time 1ns 2d 3e"
unfolding digits
time_of_all_three = refl

times : (time_text 3000000000000000 ≡ codes "3s") × (time_text 20000000000000 ≡ codes "20ms") × (time_text 7000000000 ≡ codes "7us") × (time_text 1001 ≡ codes "1001fs")
    × (time_text 18446744073709551615 ≡ codes "18446744073709551615fs")
unfolding digits
times = (refl, refl, refl, refl, refl)

types : render (type_pieces (pointer_type (array_type 4 (tuple_type (more_types i8 (more_types (array_type 2 i1) no_types)))))) ≡ codes "[4 x {i8, [2 x i1]}]*"
unfolding digits
types = refl

signal : gives "a" (sig_text (typed i8 "z")) ≡ codes "    %a = sig i8 %z"
unfolding digits
signal = refl

probe : gives "qp" (prb_text (typed (signal_type i32) "q")) ≡ codes "    %qp = prb i32$ %q"
unfolding digits
probe = refl

sum : gives "s" (pure_text op.Add (typed i32 "qp" ∷ bare "xp" ∷ [])) ≡ codes "    %s = add i32 %qp, %xp"
unfolding digits
sum = refl

shift_with_types : gives "s" (pure_text op.Shl (typed i8 "b" ∷ typed i8 "h" ∷ bare "n" ∷ [])) ≡ codes "    %s = shl i8 %b, i8 %h, %n"
unfolding digits
shift_with_types = refl

part : gives "p" (pure_text (op.Exts 3 4) (typed i8 "x" ∷ [])) ≡ codes "    %p = exts i8 %x, 3, 4"
unfolding digits
part = refl

part_replaced : gives "p" (pure_text (op.Insf 2) (typed (array_type 3 i8) "x" ∷ bare "v" ∷ [])) ≡ codes "    %p = insf [3 x i8] %x, %v, 2"
unfolding digits
part_replaced = refl

array : gives "a" (pure_text op.Array (typed i8 "x" ∷ bare "y" ∷ [])) ≡ codes "    %a = [i8 %x, %y]"
unfolding digits
array = refl

repeated : gives "a" (pure_text (op.Repeat 7) (typed i8 "x" ∷ [])) ≡ codes "    %a = [7 x i8 %x]"
unfolding digits
repeated = refl

struct : gives "a" (pure_text op.Tuple (typed i8 "x" ∷ typed i1 "y" ∷ [])) ≡ codes "    %a = {i8 %x, i1 %y}"
unfolding digits
struct = refl

stored : does (st_text (typed (pointer_type i32) "i") (codes "in")) ≡ codes "    st i32* %i, %in"
unfolding digits
stored = refl

driven : does (drv_text (typed (signal_type i8) "q") (codes "v0") (codes "v1") (Some (codes "c"))) ≡ codes "    drv i8$ %q, %v0 after %v1 if %c"
unfolding digits
driven = refl

register : does (reg_text (typed (signal_type i8) "q") (
    record { value = codes "v0"; mode = mode.Rise; trigger = codes "v1"; gate = Some (codes "v3"); after = Some (codes "v4") }
    ∷ record { value = codes "v2"; mode = mode.Low; trigger = codes "v1"; gate = None; after = None }
    ∷ [])) ≡ codes "    reg i8$ %q, [%v0, rise %v1 if %v3 after %v4], [%v2, low %v1]"
unfolding digits
register = refl

child : does (child_text (at "acc") (typed (signal_type i1) "clk" ∷ bare "x" ∷ []) (typed (signal_type i32) "q" ∷ [])) ≡ codes "    inst @acc (i1$ %clk, %x) -> (i32$ %q)"
unfolding digits
child = refl

child_without_ports : does (child_text (record { sigil = 37; name = codes "u" }) [] []) ≡ codes "    inst %u () -> ()"
unfolding digits
child_without_ports = refl

called : does (call_text (at "llhd.assert") void_type (typed i1 "ok" ∷ [])) ≡ codes "    call void @llhd.assert (i1 %ok)"
unfolding digits
called = refl

merged : gives "p" (phi_text time_type (record { value = codes "a"; block = codes "b" } ∷ record { value = codes "c"; block = codes "d" } ∷ [])) ≡ codes "    %p = phi time [%a, %b], [%c, %d]"
unfolding digits
merged = refl

branches : (does (br_text (codes "loop")) ≡ codes "    br %loop") × (does (branch_text (codes "c") (codes "done") (codes "loop")) ≡ codes "    br %c, %done, %loop")
branches = (refl, refl)

waits : (does (wait_text (codes "entry") None []) ≡ codes "    wait %entry")
    × (does (wait_text (codes "next") (Some (codes "t2")) []) ≡ codes "    wait %next for %t2")
    × (does (wait_text (codes "entry") (Some (codes "t")) (codes "q" ∷ codes "x" ∷ [])) ≡ codes "    wait %entry for %t, %q, %x")
waits = (refl, refl, refl)

ends : (does halt_text ≡ codes "    halt") × (does (ret_text None) ≡ codes "    ret") × (does (ret_text (Some (typed i8 "v"))) ≡ codes "    ret i8 %v")
unfolding digits
ends = (refl, refl, refl)

function_header : render (header kind.Func (at "acc_tb_check") (argument false i32 "i" ∷ argument false i32 "q" ∷ []) (Some void_type)) ≡ codes "func @acc_tb_check (i32 %i, i32 %q) void {"
unfolding digits
function_header = refl

process_header : render (header kind.Proc (at "acc_ff") (argument false (signal_type i1) "clk" ∷ argument false (signal_type i32) "d" ∷ argument true (signal_type i32) "q" ∷ []) None)
    ≡ codes "proc @acc_ff (i1$ %clk, i32$ %d) -> (i32$ %q) {"
unfolding digits
process_header = refl

declared_function : render (declaration (declare.Func (at "f") (i8 ∷ time_type ∷ []) void_type)) ≡ codes "declare @f (i8, time) void"
unfolding digits
declared_function = refl

declared_unit : render (declaration (declare.Unit (at "e") (signal_type i8 ∷ []) [])) ≡ codes "declare @e (i8$) -> ()"
unfolding digits
declared_unit = refl

-- two items: a process with its labels, and a declaration
file : canon (unit_text (record {
  kind = kind.Proc;
  name = at "p";
  args = [];
  result = None;
  blocks =
      record { label = Some (codes "entry"); lines = record { result = None; inst = call_text (at "f") void_type [] } ∷ record { result = None; inst = br_text (codes "end") } ∷ [] }
      ∷ record { label = Some (codes "end"); lines = record { result = None; inst = halt_text } ∷ [] }
      ∷ [];
})
    ∷ declare_text (declare.Func (at "f") [] void_type) ∷ [])
    ≡ codes "proc @p () -> () {" ++ 10 ∷ codes "entry:" ++ 10 ∷ codes "    call void @f ()" ++ 10 ∷ codes "    br %end" ++ 10 ∷ codes "end:" ++ 10 ∷ codes "    halt" ++ 10 ∷ codes "}" ++ 10
    ∷ codes "declare @f () void" ++ 10 ∷ []
file = refl

-- the sample with one signal that is driven once
blink : canon (unit_text (record {
  kind = kind.Entity;
  name = at "t";
  args = [];
  result = None;
  blocks = record {
    label = None;
    lines =
        record { result = Some (codes "z"); inst = const_text (int_value 1 0) }
        ∷ record { result = Some (codes "o"); inst = const_text (int_value 1 1) }
        ∷ record { result = Some (codes "d"); inst = const_text (time_value (record { fs = 1000000; delta = 0; eps = 0 })) }
        ∷ record { result = Some (codes "a"); inst = sig_text (typed i1 "z") }
        ∷ record { result = None; inst = drv_text (typed (signal_type i1) "a") (codes "o") (codes "d") None }
        ∷ [];
  } ∷ [];
}) ∷ [])
    ≡ codes "entity @t () -> () {" ++ 10 ∷ codes "    %z = const i1 0" ++ 10 ∷ codes "    %o = const i1 1" ++ 10 ∷ codes "    %d = const time 1ns" ++ 10 ∷ codes "    %a = sig i1 %z" ++ 10
    ∷ codes "    drv i1$ %a, %o after %d" ++ 10 ∷ codes "}" ++ 10 ∷ []
unfolding digits
blink = refl
