-- One process of a module that is replaced by the entity of its shape: the trace is the same.
use Rattle.std.specs.Prelude.{◌≡◌, List, ◌∷◌, ◌++◌}
use Rattle.lh_unit.specs.declared.inst.UnitKind.TheVariants as kind
use Rattle.lh_unit.specs.Arena.{Arena, contents}
use Rattle.lh_unit.specs.Contents.{UnitText, ItemText, unit_text}
use Rattle.lh_unit.specs.Trace.{SameTrace}
use Rattle.lh_flat.specs.Flat.{FlatText, flattened, flat_of}
use Rattle.lh_shape.specs.Shapes.{shape_of_text}
use Rattle.lh_entity_laws.specs.Stands.{IsEmittedFor}
use Rattle.lh_lower_laws.specs.Same.{IsSourceModule}

-- The second module is the first with the entity of its shape, combinational, at edges or once, in the place of one process.
pub record IsOneReplaced (m m' : List ItemText) : Type 0 where
  pub before : List ItemText
  pub after : List ItemText
  pub process : UnitText
  pub entity : UnitText
  pub is_process : process.kind ≡ kind.Proc
  pub text : FlatText
  pub flat : flat_of m process ≡ flattened text
  pub emitted : IsEmittedFor process text (shape_of_text text) entity
  pub first : m ≡ before ++ unit_text process ∷ after
  pub second : m' ≡ before ++ unit_text entity ∷ after

-- It has the same trace, for every top and every number of frames.
abbrev pub OneReplacedSameTrace : Type 0
OneReplacedSameTrace = (a : Arena) (m' : List ItemText) → IsSourceModule a → IsOneReplaced (contents a) m' → SameTrace (contents a) m'
