-- What the lines of a file name, and that a module has no entry of another name.
use Rattle.std.specs.Prelude.{◌≡◌, ◌⊎◌, ℕ, ◌<◌, List, [], ◌∷◌, ◌++◌, Option, Some, None, Contains, flat_map}
use Rattle.lh_unit.specs.Contents.{OperandText, TriggerText, EdgeText, InstText, const_text, pure_text, var_text, ld_text, st_text, sig_text, prb_text, drv_text, reg_text, child_text, call_text, phi_text, br_text, branch_text, wait_text, halt_text, ret_text, LineText, BlockText, ArgText, UnitText, ItemText, unit_text, declare_text}
use Rattle.lh_unit.specs.Arena.{Arena, contents, unit_count, value_count, label_count, unit_name_at, value_name_at, label_name_at}
use Rattle.lh_unit_names.specs.declared.name.UnitName.{UnitName}

-- a name that stands in a line, and of what it is
pub data Mention : Type 0 where
  names_unit : UnitName → Mention
  names_value : List ℕ → Mention
  names_label : List ℕ → Mention

-- only this value, or only this label
abbrev pub one_value : List ℕ → List Mention
one_value n = names_value n ∷ []

abbrev pub one_label : List ℕ → List Mention
one_label n = names_label n ∷ []

-- a value, or a label, that may be absent
abbrev pub maybe_value : Option (List ℕ) → List Mention
maybe_value None = []
maybe_value (Some n) = one_value n

abbrev pub maybe_label : Option (List ℕ) → List Mention
maybe_label None = []
maybe_label (Some n) = one_label n

-- what the parts of an instruction name
abbrev pub operand_mentions : OperandText → List Mention
operand_mentions o = one_value o.value

abbrev pub operands_mention : List OperandText → List Mention
operands_mention os = flat_map operand_mentions os

abbrev pub trigger_mentions : TriggerText → List Mention
trigger_mentions t = one_value t.value ++ one_value t.trigger ++ maybe_value t.gate ++ maybe_value t.after

abbrev pub edge_mentions : EdgeText → List Mention
edge_mentions e = one_value e.value ++ one_label e.block

-- what an instruction names, in text order
abbrev pub inst_mentions : InstText → List Mention
inst_mentions (const_text d) = []
inst_mentions (pure_text op args) = operands_mention args
inst_mentions (var_text a) = operand_mentions a
inst_mentions (ld_text p) = operand_mentions p
inst_mentions (st_text to value) = operand_mentions to ++ one_value value
inst_mentions (sig_text a) = operand_mentions a
inst_mentions (prb_text s) = operand_mentions s
inst_mentions (drv_text to value after cond) = operand_mentions to ++ one_value value ++ one_value after ++ maybe_value cond
inst_mentions (reg_text to triggers) = operand_mentions to ++ flat_map trigger_mentions triggers
inst_mentions (child_text unit inputs outputs) = names_unit unit ∷ operands_mention inputs ++ operands_mention outputs
inst_mentions (call_text unit result args) = names_unit unit ∷ operands_mention args
inst_mentions (phi_text ty edges) = flat_map edge_mentions edges
inst_mentions (br_text to) = one_label to
inst_mentions (branch_text cond zero one) = one_value cond ++ one_label zero ++ one_label one
inst_mentions (wait_text to after signals) = one_label to ++ maybe_value after ++ flat_map one_value signals
inst_mentions halt_text = []
inst_mentions (ret_text None) = []
inst_mentions (ret_text (Some o)) = operand_mentions o

-- what a line names, with its result
abbrev pub line_mentions : LineText → List Mention
line_mentions l = maybe_value l.result ++ inst_mentions l.inst

-- what a block names, with its label
abbrev pub block_mentions : BlockText → List Mention
block_mentions b = maybe_label b.label ++ flat_map line_mentions b.lines

abbrev pub arg_mentions : ArgText → List Mention
arg_mentions a = one_value a.name

-- what the lines of a unit name, its header among them
abbrev pub unit_mentions : UnitText → List Mention
unit_mentions u = names_unit u.name ∷ flat_map arg_mentions u.args ++ flat_map block_mentions u.blocks

-- something holds of a unit that the file defines
abbrev pub SomeUnit : (UnitText → Type 0) → List ItemText → Type 0
SomeUnit P [] = ⊥
SomeUnit P (unit_text u ∷ more) = P u ⊎ SomeUnit P more
SomeUnit P (declare_text d ∷ more) = SomeUnit P more

-- some line of the file names this unit
abbrev pub IsMentioned : List ItemText → UnitName → Type 0
IsMentioned items n = SomeUnit (λ u. Contains (unit_mentions u) (names_unit n)) items

-- some line of the unit of this name names this value or this label
abbrev pub IsMentionedIn : List ItemText → UnitName → Mention → Type 0
IsMentionedIn items n m = SomeUnit (λ u. (u.name ≡ n) × Contains (unit_mentions u) m) items

-- each entry of a module is named by some line of what the module says; the entry of a value or a label by a line of its unit
pub record EachNamed (a : Arena) : Type 0 where
  pub units : (u : ℕ) → u < unit_count a → IsMentioned (contents a) (unit_name_at a u)
  pub values : (u v : ℕ) → v < value_count a u → IsMentionedIn (contents a) (unit_name_at a u) (names_value (value_name_at a u v))
  pub labels : (u b : ℕ) → b < label_count a u → IsMentionedIn (contents a) (unit_name_at a u) (names_label (label_name_at a u b))

-- each entry of new is one of old or is among these names; a value or a label is one of the unit u then
pub record EntersOnly (ms : List Mention) (old new : Arena) (u : ℕ) : Type 0 where
  pub units : (w : ℕ) → w < unit_count new → (w < unit_count old) ⊎ Contains ms (names_unit (unit_name_at new w))
  pub values : (w v : ℕ) → v < value_count new w → (v < value_count old w) ⊎ ((w ≡ u) × Contains ms (names_value (value_name_at new w v)))
  pub labels : (w b : ℕ) → b < label_count new w → (b < label_count old w) ⊎ ((w ≡ u) × Contains ms (names_label (label_name_at new w b)))
