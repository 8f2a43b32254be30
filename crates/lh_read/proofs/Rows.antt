-- Worked texts: what they read as, and their first faulty line.
use Rattle.std.proofs.Common.{ℕ, List, [], ◌∷◌, ◌++◌, Option, Some, None, refl}
use Rattle.std.specs.Prelude.{codes}
use Rattle.lh_types.specs.Types.{TypeTree, int_type, signal_type}
use Rattle.lh_types.specs.Values.{int_value}
use Rattle.lh_unit.specs.Contents.{ArgText, BlockText, ItemText, unit_text, declare_text, const_text, sig_text, br_text, wait_text, ret_text}
use Rattle.lh_unit.specs.Worded.{gives, does, input, output, block, body}
use Rattle.lh_unit.specs.Lexemes.{first_lexeme}
use Rattle.lh_unit.specs.Reads.{Reads, FirstBad, syntax, duplicate_name}
use Rattle.lh_unit.specs.declared.inst.UnitKind.{UnitKind}
use Rattle.lh_unit.specs.declared.inst.UnitKind.TheVariants as kind
use Rattle.lh_unit.specs.declared.inst.Declare.TheVariants as declare
use Rattle.lh_read_phrases.specs.Operations.{last_mark_at}
use Rattle.lh_read_lines.specs.Headers.{params_at, types_at, func_at, ports_at, unit_at, declare_func_at, declare_at, head_at}
use Rattle.lh_read_lines.specs.Insts.{const_at, last_typed_at, last_local_at, sig_at, br_at, wait_at, halt_at, ret_at, worded_at, inst_at}
use Rattle.lh_read_lines.specs.Items.{label_at, word_label_at, assigned_at, alone_at, close_at, item_at}
use Rattle.lh_read_phrases.specs.Operands.{typed_at, maybe_at, param_at}
use Rattle.lh_read_phrases.specs.Words.{head_of, form_of}
use Rattle.lh_read_pieces.specs.Numbers.{integer_at}
use Rattle.lh_read_pieces.specs.Pieces.{name_at}
use Rattle.lh_read_pieces.specs.Types.{data_at, base_at, suffix_at, type_at}
use Rattle.lh_read.specs.Steps.{step}
use Rattle.lh_read.proofs.Computed.{read_of-reads, read_of-bad}

-- lines, each ended
abbrev text_of : List (List ℕ) → List ℕ
text_of [] = []
text_of (l ∷ ls) = l ++ 10 ∷ text_of ls

abbrev unit : UnitKind → List ℕ → List ArgText → Option TypeTree → List BlockText → ItemText
unit k name args result blocks = unit_text (record { kind = k; name = record { sigil = 64; name = name }; args = args; result = result; blocks = blocks })

-- nothing at all
nothing : Reads ([]) ([])
unfolding first_lexeme step
nothing = read_of-reads ([]) ([]) refl

-- a constant and a signal from it, with a comment
an_entity : Reads (text_of (codes "entity @t(i1$ %c)->(i8$ %q){" ∷ codes "%z=const i8 -1 ; ones" ∷ codes "%a = sig i8 %z" ∷ codes "}" ∷ []))
    (unit kind.Entity (codes "t") (input (codes "c") (signal_type (int_type 1)) ∷ output (codes "q") (signal_type (int_type 8)) ∷ []) None
    (body (gives (codes "z") (const_text (int_value 8 255)) ∷ gives (codes "a") (sig_text (record { value = codes "z"; ty = Some (int_type 8) })) ∷ [])) ∷ [])
unfolding first_lexeme step params_at last_mark_at ports_at unit_at head_at const_at last_typed_at sig_at worded_at inst_at assigned_at close_at item_at typed_at param_at head_of form_of integer_at
    data_at base_at suffix_at type_at
an_entity = read_of-reads (text_of (codes "entity @t(i1$ %c)->(i8$ %q){" ∷ codes "%z=const i8 -1 ; ones" ∷ codes "%a = sig i8 %z" ∷ codes "}" ∷ []))
    (unit kind.Entity (codes "t") (input (codes "c") (signal_type (int_type 1)) ∷ output (codes "q") (signal_type (int_type 8)) ∷ []) None
    (body (gives (codes "z") (const_text (int_value 8 255)) ∷ gives (codes "a") (sig_text (record { value = codes "z"; ty = Some (int_type 8) })) ∷ [])) ∷ []) refl

-- a process, with a label that stands before its block
a_process : Reads (text_of (codes "proc @p () -> () {" ∷ codes "a:" ∷ codes "br %b" ∷ codes "%b:" ∷ codes "wait %a" ∷ codes "}" ∷ []))
    (unit kind.Proc (codes "p") [] None (block (codes "a") (does (br_text (codes "b")) ∷ []) ∷ block (codes "b") (does (wait_text (codes "a") None []) ∷ []) ∷ []) ∷ [])
unfolding first_lexeme step params_at last_mark_at ports_at unit_at head_at last_local_at br_at wait_at worded_at label_at word_label_at alone_at close_at item_at maybe_at head_of form_of name_at
a_process = read_of-reads (text_of (codes "proc @p () -> () {" ∷ codes "a:" ∷ codes "br %b" ∷ codes "%b:" ∷ codes "wait %a" ∷ codes "}" ∷ []))
    (unit kind.Proc (codes "p") [] None (block (codes "a") (does (br_text (codes "b")) ∷ []) ∷ block (codes "b") (does (wait_text (codes "a") None []) ∷ []) ∷ []) ∷ []) refl

-- a function with its result
a_function : Reads (text_of (codes "func @f (i8 %a) i8 {" ∷ codes "a:" ∷ codes "ret i8 %a" ∷ codes "}" ∷ []))
    (unit kind.Func (codes "f") (input (codes "a") (int_type 8) ∷ []) (Some (int_type 8)) (block (codes "a") (does (ret_text (Some (record { value = codes "a"; ty = Some (int_type 8) }))) ∷ []) ∷ [])
    ∷ [])
unfolding first_lexeme step params_at last_mark_at func_at head_at last_typed_at ret_at worded_at label_at word_label_at alone_at close_at item_at typed_at param_at head_of form_of name_at data_at base_at
    suffix_at type_at
a_function = read_of-reads (text_of (codes "func @f (i8 %a) i8 {" ∷ codes "a:" ∷ codes "ret i8 %a" ∷ codes "}" ∷ []))
    (unit kind.Func (codes "f") (input (codes "a") (int_type 8) ∷ []) (Some (int_type 8)) (block (codes "a") (does (ret_text (Some (record { value = codes "a"; ty = Some (int_type 8) }))) ∷ []) ∷ [])
    ∷ []) refl

-- a unit is declared as often as wanted
declared_twice : Reads (text_of (codes "declare @f (i8) i1" ∷ codes "declare @f (i8) i1" ∷ []))
    (declare_text (declare.Func (record { sigil = 64; name = codes "f" }) (int_type 8 ∷ []) (int_type 1))
    ∷ declare_text (declare.Func (record { sigil = 64; name = codes "f" }) (int_type 8 ∷ []) (int_type 1)) ∷ [])
unfolding first_lexeme step types_at declare_func_at declare_at head_at item_at head_of data_at base_at suffix_at type_at
declared_twice = read_of-reads (text_of (codes "declare @f (i8) i1" ∷ codes "declare @f (i8) i1" ∷ []))
    (declare_text (declare.Func (record { sigil = 64; name = codes "f" }) (int_type 8 ∷ []) (int_type 1))
    ∷ declare_text (declare.Func (record { sigil = 64; name = codes "f" }) (int_type 8 ∷ []) (int_type 1)) ∷ []) refl

-- 256 is no constant of 8 bits
past_the_width : FirstBad (text_of (codes "entity @t () -> () {" ∷ codes "%a = const i8 256" ∷ codes "}" ∷ [])) 2 syntax
unfolding first_lexeme step params_at last_mark_at ports_at unit_at head_at const_at worded_at inst_at assigned_at close_at item_at head_of form_of integer_at data_at base_at suffix_at type_at
past_the_width = read_of-bad (text_of (codes "entity @t () -> () {" ∷ codes "%a = const i8 256" ∷ codes "}" ∷ [])) 2 syntax refl

-- a unit that is open at the end is a fault of the line after the last
never_closed : FirstBad (text_of (codes "entity @t () -> () {" ∷ codes "%a = const i8 0" ∷ [])) 3 syntax
unfolding first_lexeme step params_at last_mark_at ports_at unit_at head_at const_at worded_at inst_at assigned_at item_at head_of form_of integer_at data_at base_at suffix_at type_at
never_closed = read_of-bad (text_of (codes "entity @t () -> () {" ∷ codes "%a = const i8 0" ∷ [])) 3 syntax refl

-- an instruction before the first label
before_labels : FirstBad (text_of (codes "proc @p () -> () {" ∷ codes "halt" ∷ codes "}" ∷ [])) 2 syntax
unfolding first_lexeme step params_at last_mark_at ports_at unit_at head_at halt_at worded_at alone_at close_at item_at head_of form_of
before_labels = read_of-bad (text_of (codes "proc @p () -> () {" ∷ codes "halt" ∷ codes "}" ∷ [])) 2 syntax refl

-- a block without an instruction
empty_block : FirstBad (text_of (codes "proc @p () -> () {" ∷ codes "a:" ∷ codes "}" ∷ [])) 3 syntax
unfolding first_lexeme step params_at last_mark_at ports_at unit_at head_at label_at word_label_at close_at item_at head_of name_at
empty_block = read_of-bad (text_of (codes "proc @p () -> () {" ∷ codes "a:" ∷ codes "}" ∷ [])) 3 syntax refl

-- a unit within a unit
nested : FirstBad (text_of (codes "entity @t () -> () {" ∷ codes "entity @u () -> () {" ∷ codes "}" ∷ codes "}" ∷ [])) 2 syntax
unfolding first_lexeme step params_at last_mark_at ports_at unit_at head_at close_at item_at head_of
nested = read_of-bad (text_of (codes "entity @t () -> () {" ∷ codes "entity @u () -> () {" ∷ codes "}" ∷ codes "}" ∷ [])) 2 syntax refl

-- a unit defined twice
unit_twice : FirstBad (text_of (codes "entity @t () -> () {" ∷ codes "}" ∷ codes "entity @t () -> () {" ∷ codes "}" ∷ [])) 3 duplicate_name
unfolding first_lexeme step params_at last_mark_at ports_at unit_at head_at close_at item_at head_of
unit_twice = read_of-bad (text_of (codes "entity @t () -> () {" ∷ codes "}" ∷ codes "entity @t () -> () {" ∷ codes "}" ∷ [])) 3 duplicate_name refl

-- an argument defined twice
argument_twice : FirstBad (text_of (codes "entity @t (i1$ %a) -> (i1$ %b, i2$ %a) {" ∷ codes "}" ∷ [])) 1 duplicate_name
unfolding first_lexeme step params_at last_mark_at ports_at unit_at head_at close_at item_at param_at head_of data_at base_at suffix_at type_at
argument_twice = read_of-bad (text_of (codes "entity @t (i1$ %a) -> (i1$ %b, i2$ %a) {" ∷ codes "}" ∷ [])) 1 duplicate_name refl

-- a value defined twice
value_twice : FirstBad (text_of (codes "entity @t (i1$ %a) -> () {" ∷ codes "%a = const i8 0" ∷ codes "}" ∷ [])) 2 duplicate_name
unfolding first_lexeme step params_at last_mark_at ports_at unit_at head_at const_at worded_at inst_at assigned_at close_at item_at param_at head_of form_of integer_at data_at base_at suffix_at type_at
value_twice = read_of-bad (text_of (codes "entity @t (i1$ %a) -> () {" ∷ codes "%a = const i8 0" ∷ codes "}" ∷ [])) 2 duplicate_name refl

-- a label defined twice
label_twice : FirstBad (text_of (codes "proc @p () -> () {" ∷ codes "a:" ∷ codes "halt" ∷ codes "a:" ∷ codes "halt" ∷ codes "}" ∷ [])) 4 duplicate_name
unfolding first_lexeme step params_at last_mark_at ports_at unit_at head_at halt_at worded_at label_at word_label_at alone_at close_at item_at head_of form_of name_at
label_twice = read_of-bad (text_of (codes "proc @p () -> () {" ∷ codes "a:" ∷ codes "halt" ∷ codes "a:" ∷ codes "halt" ∷ codes "}" ∷ [])) 4 duplicate_name refl

-- of two faults of a line the first is named: a label may not stand there
label_in_an_empty_block : FirstBad (text_of (codes "proc @p () -> () {" ∷ codes "a:" ∷ codes "a:" ∷ codes "halt" ∷ codes "}" ∷ [])) 3 syntax
unfolding first_lexeme step params_at last_mark_at ports_at unit_at head_at halt_at worded_at label_at word_label_at alone_at close_at item_at head_of form_of name_at
label_in_an_empty_block = read_of-bad (text_of (codes "proc @p () -> () {" ∷ codes "a:" ∷ codes "a:" ∷ codes "halt" ∷ codes "}" ∷ [])) 3 syntax refl

-- the name of the assertion is taken
assertion : FirstBad (text_of (codes "entity @llhd.assert () -> () {" ∷ codes "}" ∷ [])) 1 duplicate_name
unfolding first_lexeme step params_at last_mark_at ports_at unit_at head_at close_at item_at head_of
assertion = read_of-bad (text_of (codes "entity @llhd.assert () -> () {" ∷ codes "}" ∷ [])) 1 duplicate_name refl
