-- What an entity is emitted from: the rows of a formed flat text are such as the laws of emitted entities ask for.
use Rattle.std.specs.Prelude.{◌≡◌, List, true}
use Rattle.lh_unit_names.specs.declared.name.UnitName.{UnitName}
use Rattle.lh_unit.specs.Within.{Each}
use Rattle.lh_flat_laws.specs.Formed.{IsFormed}
use Rattle.lh_flat.specs.Flat.{FlatText, flat_unit}
use Rattle.lh_term.specs.declared.part.Part.{Part}
use Rattle.lh_term_cover.specs.Bits.{covers}
use Rattle.lh_edge.specs.Triggers.{EdgeRowTree}
use Rattle.lh_region_def.specs.Rows.{Drive}
use Rattle.lh_shape.specs.Shapes.{comb, edge, once, shape_of_text}
use Rattle.lh_emit_def.specs.Emitted.{Source, source_of}
use Rattle.lh_emit_def.specs.Reached.{steps_in}
use Rattle.lh_emit_def.specs.Ways.{WaitIsGiven, DriveIsGiven, RowIsGiven}
use Rattle.lh_region_def.specs.Rows.{DriveReads}

-- ---- the shapes

-- the arguments of a flat text, and the steps to its parts
abbrev pub source_in : UnitName → FlatText → Source
source_in name t = source_of (flat_unit name t) (steps_in (flat_unit name t))

-- what the laws of the entity of drives on all values ask for
pub record CombGiven (s : Source) (waited : List Part) (ds : List Drive) : Type 0 where
  pub waits : Each (WaitIsGiven s) waited
  pub drives : Each (DriveIsGiven s) ds
  pub reads : Each (DriveReads (λ p. covers waited p ≡ true)) ds

-- Of a combinational flat text each part is reached, each term is typed, and the drives read only what is waited on.
abbrev pub CombIsGiven : Type 0
CombIsGiven = (name : UnitName) (t : FlatText) → IsFormed (flat_unit name t) → (waited : List Part) (ds : List Drive) → shape_of_text t ≡ comb waited ds → CombGiven (source_in name t) waited ds

-- Of a flat text that reacts to edges each part is reached, and each term is typed.
abbrev pub EdgeIsGiven : Type 0
EdgeIsGiven = (name : UnitName) (t : FlatText) → IsFormed (flat_unit name t) → (rs : List EdgeRowTree) → shape_of_text t ≡ edge rs → Each (RowIsGiven (source_in name t)) rs

-- Of a flat text that runs once the drives are typed, each part is reached, and they read nothing.
abbrev pub OnceIsGiven : Type 0
OnceIsGiven = (name : UnitName) (t : FlatText) → IsFormed (flat_unit name t) → (ds : List Drive) → shape_of_text t ≡ once ds → Each (DriveIsGiven (source_in name t)) ds × Each (DriveReads (λ p. ⊥)) ds
