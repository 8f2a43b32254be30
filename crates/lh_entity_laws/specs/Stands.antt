-- The entity that is emitted for the shape of a process may stand for the process.
use Rattle.std.specs.Prelude.{◌≡◌, ◌<◌, ◌≤◌, ◌+◌, ℕ, List, length, Some}
use Rattle.lh_unit.specs.declared.inst.UnitKind.TheVariants as kind
use Rattle.lh_unit.specs.Arena.{Arena, IsArena, contents, unit_count, kind_at, unit_text_at}
use Rattle.lh_unit.specs.Contents.{UnitText}
use Rattle.lh_unit.specs.Trace.{max_instructions}
use Rattle.lh_unit.specs.WellFormed.{IsWellFormed}
use Rattle.lh_unit.specs.World.{rules_of}
use Rattle.lh_trace_laws.specs.Replacing.{MayStand}
use Rattle.lh_flat.specs.Flat.{FlatText, flattened, flat_of, flat_unit}
use Rattle.lh_flat.specs.Marks.{UnitsAreNamed}
use Rattle.lh_term.specs.declared.part.Part.{Part}
use Rattle.lh_edge.specs.Triggers.{EdgeRowTree}
use Rattle.lh_region_def.specs.Rows.{Drive}
use Rattle.lh_region_def.specs.Laws.{max_steps}
use Rattle.lh_region_def.specs.Regions.{lines_at}
use Rattle.lh_shape.specs.Shapes.{ShapeText, comb, edge, once, left, shape_of_text}
use Rattle.lh_emit_def.specs.Entities.{emits, comb_emission, edge_emission, once_emission}
use Rattle.lh_emit_def.specs.Reached.{steps_in}

-- The entity y is emitted for a shape of a process u that has this flat text: it has the process's name and arguments, and reaches parts by the steps of the flat text. A
-- process that is left has no entity.
abbrev pub IsEmittedFor : (u : UnitText) → FlatText → ShapeText → (y : UnitText) → Type 0
IsEmittedFor u t (comb waited ds) y = comb_emission u (steps_in (flat_unit u.name t)) waited ds ≡ emits y
IsEmittedFor u t (edge rs) y = edge_emission u (steps_in (flat_unit u.name t)) rs ≡ emits y
IsEmittedFor u t (once ds) y = once_emission u (steps_in (flat_unit u.name t)) ds ≡ emits y
IsEmittedFor u t (left r) y = ⊥

-- the unit of a number is a process of a well-formed module, and has this flat text
pub record IsFlattened (a : Arena) (u : ℕ) (t : FlatText) : Type 0 where
  pub arena : IsArena a
  pub formed : IsWellFormed (contents a)
  pub named : UnitsAreNamed a
  pub within : u < unit_count a
  pub process : kind_at a u ≡ Some kind.Proc
  pub flat : flat_of (contents a) (unit_text_at a u) ≡ flattened t

-- An activation may execute as many instructions as the entry and two regions have.
abbrev pub IsEnough : (bound : ℕ) → FlatText → Type 0
IsEnough bound t = (max_steps + max_steps) + length (lines_at t.blocks 0) ≤ bound

-- The entity of a process that drives once may stand for it.
abbrev pub OnceStands : Type 0
OnceStands = (a : Arena) (u : ℕ) (t : FlatText) (y : UnitText) (bound : ℕ) (ds : List Drive) → IsFlattened a u t → shape_of_text t ≡ once ds → IsEmittedFor (unit_text_at a u) t (once ds) y
    → IsEnough bound t →
    MayStand (rules_of bound (contents a)) (unit_text_at a u) y

-- So may that of a combinational process.
abbrev pub CombStands : Type 0
CombStands = (a : Arena) (u : ℕ) (t : FlatText) (y : UnitText) (bound : ℕ) (waited : List Part) (ds : List Drive) → IsFlattened a u t → shape_of_text t ≡ comb waited ds
    → IsEmittedFor (unit_text_at a u) t (comb waited ds) y → IsEnough bound t →
    MayStand (rules_of bound (contents a)) (unit_text_at a u) y

-- And that of a process that reacts to edges.
abbrev pub EdgeStands : Type 0
EdgeStands = (a : Arena) (u : ℕ) (t : FlatText) (y : UnitText) (bound : ℕ) (rs : List EdgeRowTree) → IsFlattened a u t → shape_of_text t ≡ edge rs → IsEmittedFor (unit_text_at a u) t (edge rs) y
    → IsEnough bound t →
    MayStand (rules_of bound (contents a)) (unit_text_at a u) y

-- The entity of each process that has one may stand for it.
abbrev pub LoweredStands : Type 0
LoweredStands = (a : Arena) (u : ℕ) (t : FlatText) (y : UnitText) (bound : ℕ) → IsFlattened a u t → IsEmittedFor (unit_text_at a u) t (shape_of_text t) y → IsEnough bound t →
    MayStand (rules_of bound (contents a)) (unit_text_at a u) y

-- As many instructions as an activation may have are enough for any flat text.
abbrev pub MaxIsEnough : Type 0
MaxIsEnough = (a : Arena) (u : ℕ) (t : FlatText) → IsFlattened a u t → IsEnough max_instructions t
