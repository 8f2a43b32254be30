-- A copy of a unit in a flat text: how its values and labels are named there, and how its instructions are written.
use Rattle.std.specs.Prelude.{ℕ, ◌+◌, List, [], ◌∷◌, ◌++◌, map, if◌then◌else◌, Option, None}
use Rattle.std.specs.Option.{option_map, option_map_or}
use Rattle.lh_unit.specs.Contents.{OperandText, EdgeText, InstText, const_text, pure_text, var_text, ld_text, st_text, sig_text, prb_text, drv_text, reg_text, child_text, call_text, phi_text, br_text, branch_text, wait_text, halt_text, ret_text, LineText, BlockText, ArgText, UnitText}
use Rattle.lh_unit_names.specs.Names.{same_name}
use Rattle.lh_unit.specs.Named.{block_of, function_named, label_or}
use Rattle.lh_unit_names.specs.UnitNames.{is_assert}

-- A copy of a unit: what stands before the names of its labels, and the name of each of its values.
pub record Copy : Type 0 where
  pub unit : UnitText
  pub path : List ℕ
  pub value : List ℕ → List ℕ

-- the process itself: its names stay as they are
abbrev pub top_copy : UnitText → Copy
top_copy u = record { unit = u; path = []; value = λ n. n }

-- The path of the call at line k of a block: the label of the block, and a mark. A mark is no byte, so that no two names in a flat text are alike by chance.
abbrev pub call_path : Copy → (label : List ℕ) → (k : ℕ) → List ℕ
call_path c label k = c.path ++ label ++ (256 + k) ∷ []

-- a parameter has the name of its argument, and what is no parameter this other name
abbrev pub argument_or : List ArgText → (args : List (List ℕ)) → (other n : List ℕ) → List ℕ
argument_or [] args other n = other
argument_or (p ∷ more) [] other n = other
argument_or (p ∷ more) (a ∷ args) other n = if same_name p.name n then a else argument_or more args other n

-- the copy of a function for a call with these arguments
abbrev pub copy_at : (path : List ℕ) → (args : List (List ℕ)) → UnitText → Copy
copy_at path args f = record { unit = f; path = path; value = λ n. argument_or f.args args (path ++ n) n }

-- the copy that an instruction is replaced by: of the function that it calls
abbrev pub opened : List UnitText → Copy → (path : List ℕ) → InstText → Option Copy
opened functions c path (call_text f result args) =
    if is_assert f then None else option_map (copy_at path (map (λ (o : OperandText). c.value o.value) args)) (function_named f functions)
opened functions c path _ = None

-- where a block of a copy begins
abbrev pub first_piece : Copy → (label : List ℕ) → List ℕ
first_piece c label = c.path ++ label

-- the label of the last piece of a block, if these lines from line k on are still to come
abbrev pub last_from : List UnitText → Copy → (label here : List ℕ) → (k : ℕ) → List LineText → List ℕ
last_from functions c label here k [] = here
last_from functions c label here k (l ∷ more) =
    last_from functions c label (option_map_or (λ (d : Copy). d.path) (opened functions c (call_path c label k) l.inst) here) (k + 1) more

-- the label of the last piece of a block: each call of a function cuts the block after it
abbrev pub last_piece : List UnitText → Copy → BlockText → List ℕ
last_piece functions c b = last_from functions c (label_or b.label) (first_piece c (label_or b.label)) 0 b.lines

-- the same for the block of a label
abbrev pub last_piece_of : List UnitText → Copy → (label : List ℕ) → List ℕ
last_piece_of functions c label = option_map_or (last_piece functions c) (block_of label c.unit.blocks) (first_piece c label)

abbrev pub copied_operand : Copy → OperandText → OperandText
copied_operand c o = record { value = c.value o.value; ty = o.ty }

-- a `phi` that names a block means its last piece
abbrev pub copied_edge : List UnitText → Copy → EdgeText → EdgeText
copied_edge functions c e = record { value = c.value e.value; block = last_piece_of functions c e.block }

-- An instruction in a copy. A branch or `wait` leads to the first piece of a block, and `ret` to the rest of the block that was cut after the call: its label is the copy's
-- path. `sig`, `reg` and `inst` stand in entities alone.
abbrev pub copied : List UnitText → Copy → InstText → InstText
copied functions c (const_text d) = const_text d
copied functions c (pure_text op args) = pure_text op (map (copied_operand c) args)
copied functions c (var_text a) = var_text (copied_operand c a)
copied functions c (ld_text p) = ld_text (copied_operand c p)
copied functions c (st_text to value) = st_text (copied_operand c to) (c.value value)
copied functions c (sig_text a) = sig_text a
copied functions c (prb_text s) = prb_text (copied_operand c s)
copied functions c (drv_text to value after cond) = drv_text (copied_operand c to) (c.value value) (c.value after) (option_map c.value cond)
copied functions c (reg_text to triggers) = reg_text to triggers
copied functions c (child_text u inputs outputs) = child_text u inputs outputs
copied functions c (call_text f result args) = call_text f result (map (copied_operand c) args)
copied functions c (phi_text ty edges) = phi_text ty (map (copied_edge functions c) edges)
copied functions c (br_text to) = br_text (first_piece c to)
copied functions c (branch_text cond zero one) = branch_text (c.value cond) (first_piece c zero) (first_piece c one)
copied functions c (wait_text to after signals) = wait_text (first_piece c to) (option_map c.value after) (map c.value signals)
copied functions c halt_text = halt_text
copied functions c (ret_text o) = br_text c.path

abbrev pub copied_line : List UnitText → Copy → LineText → LineText
copied_line functions c l = record { result = option_map c.value l.result; inst = copied functions c l.inst }
