-- The body of an entity by ids, and what it says.
use Rattle.std.specs.Prelude.{◌≡◌, ℕ, ◌<◌, ◌≤◌, List, [], length, map, Some, slice_get, slice_index_or}
use Rattle.lh_unit.specs.Contents.{LineText, ArgText}
use Rattle.lh_unit.specs.Within.{Each}
use Rattle.lh_emit_body.specs.Lines.{line_text, IsNamedLine}
use Rattle.lh_emit_body.specs.declared.body.Body.{Body}

-- the first values are the arguments
pub record ArgumentsFirst (args : List ArgText) (names : List (List ℕ)) : Type 0 where
  pub long : length args ≤ length names
  pub named : (k : ℕ) (a : ArgText) → slice_get args k ≡ Some a → slice_index_or names k [] ≡ a.name

-- no two values have one name
abbrev pub NamesDiffer : List (List ℕ) → Type 0
NamesDiffer names = (j k : ℕ) → j < length names → k < length names → slice_index_or names j [] ≡ slice_index_or names k [] → j ≡ k

-- the instructions are these; the first values are the arguments
pub record IsBody (args : List ArgText) (b : Body) (lines : List LineText) : Type 0 where
  pub says : map (line_text b.names) b.lines ≡ lines
  pub arguments : ArgumentsFirst args b.names
  pub apart : NamesDiffer b.names
  pub within : Each (IsNamedLine (length b.names)) b.lines
