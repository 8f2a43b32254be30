-- An entity that is added in the place of a process.
use Rattle.std.specs.Prelude.{◌≡◌, ℕ, ◌<◌, ◌≤◌, ◌^◌, false, List, [], length, Some, slice_get}
use Rattle.lh_unit.specs.Contents.{UnitText, LineText}
use Rattle.lh_unit.specs.Reads.{args_repeat}
use Rattle.lh_unit.specs.Within.{MaybeWithin}
use Rattle.lh_unit.specs.Naming.{arg_text}
use Rattle.lh_unit.specs.Arena.{Arena, InstPlaced, naming, sizes, args_at, value_count, value_name_at}
use Rattle.lh_unit.specs.Builders.{line_text_at}
use Rattle.lh_unit.specs.declared.inst.Arg.{Arg}
use Rattle.lh_text_laws.specs.Printable.{results_repeat}
use Rattle.lh_emit_body.specs.Bodies.{IsBody}
use Rattle.lh_emit_body.specs.declared.body.Body.{Body}
use Rattle.lh_emit_body.specs.declared.lines.BodyLine.{BodyLine}

-- The body is that of a unit with the arguments of t; no value of it is defined twice, and there are not too many instructions.
pub record CanPut (t : UnitText) (b : Body) : Type 0 where
  pub lines : List LineText
  pub is : IsBody t.args b lines
  pub few : length lines ≤ 65536
  pub new_args : args_repeat [] t.args ≡ false
  pub new_results : results_repeat t.args [] lines ≡ false

-- the first values of the unit u have the names of the arguments that the unit has in the other module
pub record ArgsNamed (a m : Arena) (u : ℕ) : Type 0 where
  pub long : length (args_at a u) ≤ value_count m u
  pub few : length (args_at a u) < 2 ^ 32
  pub named : (k : ℕ) (x : Arg) → slice_get (args_at a u) k ≡ Some x → value_name_at m u k ≡ (arg_text (naming a u) x).name

-- the text of a line of the unit u, whose ids are entries
abbrev pub body_line_at : Arena → ℕ → BodyLine → LineText
body_line_at m u l = line_text_at m u l.result l.inst

abbrev pub IsLineWithin : Arena → ℕ → BodyLine → Type 0
IsLineWithin m u l = MaybeWithin (sizes m u) l.result × InstPlaced m u l.inst
