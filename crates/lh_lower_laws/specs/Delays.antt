-- The delays of a shape that are constants can be written.
use Rattle.std.specs.Prelude.{ℕ}
use Rattle.lh_unit.specs.Arena.{Arena}
use Rattle.lh_unit.specs.Within.{Each}
use Rattle.lh_flat.specs.Flat.{FlatText}
use Rattle.lh_shape.specs.Shapes.{ShapeText, comb, edge, once, left, shape_of_text}
use Rattle.lh_emit_def.specs.Printed.{DriveIsWritable, RowIsWritable}
use Rattle.lh_entity_laws.specs.Stands.{IsFlattened}

-- each delay of the shape that is a constant is a time that can be written
abbrev pub ShapeIsWritable : ShapeText → Type 0
ShapeIsWritable (comb waited ds) = Each DriveIsWritable ds
ShapeIsWritable (edge rs) = Each RowIsWritable rs
ShapeIsWritable (once ds) = Each DriveIsWritable ds
ShapeIsWritable (left r) = Unit {0}

-- The delays of the shape of a process of a well-formed module can be written: each is a constant of the process, or of a function that it calls.
abbrev pub DelaysAreWritable : Type 0
DelaysAreWritable = (a : Arena) (u : ℕ) (t : FlatText) → IsFlattened a u t → ShapeIsWritable (shape_of_text t)
