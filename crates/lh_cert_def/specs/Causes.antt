-- Why an edited module is not certified: at the first place where there is a cause, the first cause.
use Rattle.std.specs.Prelude.{◌≡◌, ℕ, ◌+◌, List, [], ◌∷◌, map, Bool, true, false, not, ◌||◌, Option, Some, None}
use Rattle.lh_unit.specs.Contents.{LineText, UnitText, ItemText}
use Rattle.lh_unit.specs.Hierarchy.{lines_of}
use Rattle.lh_term_cover.specs.Bits.{same_bits}
use Rattle.lh_edge.specs.Triggers.{EdgeRowTree}
use Rattle.lh_region_def.specs.Rows.{Drive}
use Rattle.lh_trace_laws.specs.Replacing.{units_defined}
use Rattle.lh_shape.specs.Reasons.{is_empty, first_holding}
use Rattle.lh_shape.specs.Shapes.{ShapeText, comb, edge, once, left, shape_in}
use Rattle.lh_cert_rows.specs.Rows.{drives_in, registers_in}
use Rattle.lh_cert_rows.specs.Reading.{EntityText, read}
use Rattle.lh_cert_def.specs.KeptRows.{rebuilt_drive, kept_drives, register_of, kept_registers}
use Rattle.lh_cert_def.specs.RowsAgree.{drives_agree, registers_agree}
use Rattle.lh_cert_def.specs.Headers.{same_header, is_replaced, has_hierarchy, has_drive, has_register}
use Rattle.lh_cert_def.specs.declared.cause.Cause.{Cause}
use Rattle.lh_cert_def.specs.declared.cause.Cause.TheVariants as cause

-- ---- an entity in the place of a process

-- the drives of a process's shape, and those that an entity says
abbrev pub has_these_drives : List Drive → EntityText → Bool
has_these_drives ds e = drives_agree (kept_drives (map rebuilt_drive ds)) (kept_drives (drives_in e.rows))

-- the registers of a process's shape, and those that an entity says
abbrev pub has_these_registers : List EdgeRowTree → EntityText → Bool
has_these_registers rs e = registers_agree (kept_registers (map register_of rs)) (kept_registers (registers_in e.rows))

-- The causes that an entity of these lines, which say this, may have in the place of a process of this shape: in their order, each with whether
-- it holds.
abbrev pub entity_causes : ShapeText → List LineText → EntityText → List (Bool × Cause)
entity_causes (left r) ls e = (true, cause.HasReason) ∷ []
entity_causes (comb waited ds) ls e =
    (has_hierarchy ls || has_register ls, cause.Form)
    ∷ (not (same_bits waited e.probes), cause.Sensed)
    ∷ (not (has_these_drives ds e), cause.Drives)
    ∷ []
entity_causes (once ds) ls e =
    (has_hierarchy ls || has_register ls, cause.Form)
    ∷ (not (is_empty e.probes), cause.Sensed)
    ∷ (not (has_these_drives ds e), cause.Drives)
    ∷ []
entity_causes (edge rs) ls e =
    (has_hierarchy ls || has_drive ls, cause.Form)
    ∷ (not (has_these_registers rs e), cause.Registers)
    ∷ []

-- the first of them that holds
abbrev pub entity_cause : List ItemText → (x y : UnitText) → Option Cause
entity_cause items x y = first_holding (entity_causes (shape_in items x) (lines_of y.blocks) (read y))

-- ---- units and modules

-- The cause that a unit y has in the place of a unit x of a module, or none.
pub data CauseOf (items : List ItemText) (x y : UnitText) : Option Cause → Type 0 where
  other_header : same_header x y ≡ false → CauseOf items x y (Some cause.Units)
  kept : same_header x y ≡ true → is_replaced x y ≡ false → x ≡ y → CauseOf items x y None
  changed : same_header x y ≡ true → is_replaced x y ≡ false → (x ≡ y → ⊥) → CauseOf items x y (Some cause.Changed)
  replaced : (answer : Option Cause) → same_header x y ≡ true → is_replaced x y ≡ true → entity_cause items x y ≡ answer → CauseOf items x y answer

-- The first place from this one on at which there is a cause, with it; or none, where these units of a module and of the edited one have none.
-- Where one module has no unit more, it is the cause of other units.
pub data FirstCause (items : List ItemText) : (place : ℕ) → (units edited : List UnitText) → Option (ℕ × Cause) → Type 0 where
  none_left : (k : ℕ) → FirstCause items k [] [] None
  only_first : (k : ℕ) (x : UnitText) (xs : List UnitText) → FirstCause items k (x ∷ xs) [] (Some (k, cause.Units))
  only_second : (k : ℕ) (y : UnitText) (ys : List UnitText) → FirstCause items k [] (y ∷ ys) (Some (k, cause.Units))
  here : (k : ℕ) (x y : UnitText) (xs ys : List UnitText) (c : Cause) → CauseOf items x y (Some c) → FirstCause items k (x ∷ xs) (y ∷ ys) (Some (k, c))
  later : (k : ℕ) (x y : UnitText) (xs ys : List UnitText) (answer : Option (ℕ × Cause)) → CauseOf items x y None → FirstCause items (k + 1) xs ys answer →
      FirstCause items k (x ∷ xs) (y ∷ ys) answer

-- What certifying answers for a module and an edited one: none, or the first cause with its place. Places are counted from 0, in the file order
-- of the units that are defined.
abbrev pub IsCertifiedAs : (items edited : List ItemText) → Option (ℕ × Cause) → Type 0
IsCertifiedAs items edited answer = FirstCause items 0 (units_defined items) (units_defined edited) answer
