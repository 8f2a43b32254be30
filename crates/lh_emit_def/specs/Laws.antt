-- What an entity that was emitted does: the wish of its pass, what it remembers, and what it senses.
use Rattle.std.specs.Prelude.{◌≡◌, ◌<◌, ◌^◌, ℕ, List, [], ◌∷◌, ◌++◌, length, map, ◌≤◌, Bool, true, false, Option, Some, None}
use Rattle.std.specs.List.{flat_map}
use Rattle.lh_time.specs.declared.Instant.{Instant}
use Rattle.lh_types.specs.Types.{bit_count}
use Rattle.lh_types.specs.Wish.{no_wish}
use Rattle.lh_types.specs.declared.part.Range.{Range}
use Rattle.lh_unit.specs.Contents.{InstText, const_text, pure_text, prb_text, drv_text, reg_text, LineText, ArgText, UnitText, ItemText}
use Rattle.lh_unit.specs.Pass.{pass, probes}
use Rattle.lh_unit.specs.Places.{places}
use Rattle.lh_unit.specs.Reads.{args_repeat}
use Rattle.lh_unit.specs.WellFormed.{NoneHasFault}
use Rattle.lh_unit.specs.Within.{Each}
use Rattle.lh_unit.specs.Hierarchy.{lines_of}
use Rattle.lh_text_laws.specs.Printable.{results_repeat}
use Rattle.lh_term.specs.declared.part.Part.{Part}
use Rattle.lh_region_def.specs.Rows.{DriveReads}
use Rattle.lh_region_def.specs.Typed.{Among}
use Rattle.lh_emit_def.specs.Given.{Drive, TriggerTree, EdgeRowTree}
use Rattle.lh_emit_def.specs.Emitted.{PartStep, source_of}
use Rattle.lh_emit_def.specs.Entities.{emits, entity_with, comb_emission, edge_emission, once_emission}
use Rattle.lh_emit_def.specs.Reads.{range_in, reads, with_rows}
use Rattle.lh_emit_def.specs.Registers.{registers_wish, triggers_seen}
use Rattle.lh_emit_def.specs.Reached.{steps_in, IsReachedPartOf}
use Rattle.lh_emit_def.specs.Ways.{IsReached, WaitIsGiven, DriveIsGiven, RowIsGiven}

-- the arguments of a unit in an instance: few, no two of one name, each with as many bits as its type has
pub record ArgumentsFit (u : UnitText) (args : List Range) : Type 0 where
  pub few : length u.args < 2 ^ 32
  pub once : args_repeat [] u.args ≡ false
  pub wide : map (λ (r : Range). r.len) args ≡ map (λ (a : ArgText). bit_count a.ty) u.args

-- the entity senses exactly these parts: each of them has this property, and the ones asked for are there
pub record SensesParts (P : Part → Type 0) (asked : List Part) (y : UnitText) (args : List Range) : Type 0 where
  pub parts : List Part
  pub all_have : Each P parts
  pub all_there : Each (λ p. Among p parts) asked
  pub are_sensed : probes y args [] ≡ map (range_in args) parts

-- ---- drives

-- On all values a pass gives the wish of the drives.
abbrev pub CombPasses : Type 0
CombPasses = (u y : UnitText) (steps : Part → List PartStep) (waited : List Part) (ds : List Drive) (args : List Range) →
    comb_emission u steps waited ds ≡ emits y → ArgumentsFit u args → Each (WaitIsGiven (source_of u steps)) waited → Each (DriveIsGiven (source_of u steps)) ds →
    (now : List Bool) (memory : Option (List Bool)) (t : Instant) → (pass y args [] now memory t).wish ≡ with_rows (reads args now) (reads args now) args t no_wish ds

-- the part passes the test
abbrev pub PartPasses : (Part → Bool) → Part → Type 0
PartPasses test p = test p ≡ true

-- It senses the waited parts, and beyond them only what the drives read.
abbrev pub CombSenses : Type 0
CombSenses = (test : Part → Bool) (u y : UnitText) (steps : Part → List PartStep) (waited : List Part) (ds : List Drive) (args : List Range) →
    comb_emission u steps waited ds ≡ emits y → ArgumentsFit u args → Each (WaitIsGiven (source_of u steps)) waited → Each (DriveIsGiven (source_of u steps)) ds →
    Each (PartPasses test) waited → Each (DriveReads (PartPasses test)) ds → SensesParts (PartPasses test) waited y args

abbrev pub OncePasses : Type 0
OncePasses = (u y : UnitText) (steps : Part → List PartStep) (ds : List Drive) (args : List Range) →
    once_emission u steps ds ≡ emits y → ArgumentsFit u args → Each (DriveIsGiven (source_of u steps)) ds →
    (now : List Bool) (memory : Option (List Bool)) (t : Instant) → (pass y args [] now memory t).wish ≡ with_rows (reads args now) (reads args now) args t no_wish ds

-- Drives that read no part: the entity senses nothing.
abbrev pub OnceSenses : Type 0
OnceSenses = (u y : UnitText) (steps : Part → List PartStep) (ds : List Drive) (args : List Range) →
    once_emission u steps ds ≡ emits y → ArgumentsFit u args → Each (DriveIsGiven (source_of u steps)) ds → Each (DriveReads (λ p. ⊥)) ds → probes y args [] ≡ []

-- ---- registers

-- a pass of registers: at the first run it gives no wish; it remembers the value of each trigger's part; and where these had their values of
-- `past` at the previous run, it drives the rows of which a trigger fires
pub record RegistersPass (rs : List EdgeRowTree) (y : UnitText) (args : List Range) : Type 0 where
  pub first : (now : List Bool) (t : Instant) → (pass y args [] now None t).wish ≡ no_wish
  pub seen : (now : List Bool) (memory : Option (List Bool)) (t : Instant) → (pass y args [] now memory t).seen ≡ triggers_seen (reads args now) rs
  pub later : (past : List Bool) (now : List Bool) (t : Instant) →
      (pass y args [] now (Some (triggers_seen (reads args past) rs)) t).wish ≡ registers_wish (reads args past) (reads args now) args t rs

abbrev pub EdgePasses : Type 0
EdgePasses = (u y : UnitText) (steps : Part → List PartStep) (rs : List EdgeRowTree) (args : List Range) →
    edge_emission u steps rs ≡ emits y → ArgumentsFit u args → Each (RowIsGiven (source_of u steps)) rs → RegistersPass rs y args

-- the parts of the triggers
abbrev pub row_parts : EdgeRowTree → List Part
row_parts r = map (λ (g : TriggerTree). g.part) r.triggers

-- It senses the parts of the triggers of all rows.
abbrev pub EdgeSenses : Type 0
EdgeSenses = (u y : UnitText) (steps : Part → List PartStep) (rs : List EdgeRowTree) (args : List Range) →
    edge_emission u steps rs ≡ emits y → ArgumentsFit u args → Each (RowIsGiven (source_of u steps)) rs → SensesParts (λ p. Unit {0}) (flat_map row_parts rs) y args

-- ---- its instructions

-- a constant, an operation, a part, a probe, a drive or a register
abbrev pub IsEmittedKind : InstText → Type 0
IsEmittedKind (const_text d) = Unit {0}
IsEmittedKind (pure_text o args) = Unit {0}
IsEmittedKind (prb_text s) = Unit {0}
IsEmittedKind (drv_text to value after cond) = Unit {0}
IsEmittedKind (reg_text to triggers) = Unit {0}
IsEmittedKind _ = ⊥

-- the entity is the unit's, with its name and arguments, and has such instructions alone
pub record IsEntityOf (u y : UnitText) : Type 0 where
  pub lines : List LineText
  pub is : y ≡ entity_with u lines
  pub emitted : Each (λ (l : LineText). IsEmittedKind l.inst) lines
  pub short : length lines ≤ 65536

abbrev pub CombIsEntity : Type 0
CombIsEntity = (u y : UnitText) (steps : Part → List PartStep) (waited : List Part) (ds : List Drive) →
    comb_emission u steps waited ds ≡ emits y → Each (WaitIsGiven (source_of u steps)) waited → Each (DriveIsGiven (source_of u steps)) ds → IsEntityOf u y

abbrev pub EdgeIsEntity : Type 0
EdgeIsEntity = (u y : UnitText) (steps : Part → List PartStep) (rs : List EdgeRowTree) → edge_emission u steps rs ≡ emits y → Each (RowIsGiven (source_of u steps)) rs → IsEntityOf u y

abbrev pub OnceIsEntity : Type 0
OnceIsEntity = (u y : UnitText) (steps : Part → List PartStep) (ds : List Drive) → once_emission u steps ds ≡ emits y → Each (DriveIsGiven (source_of u steps)) ds → IsEntityOf u y

-- ---- steps to parts

-- Each part that a process names is reached by the steps that are found for it.
abbrev pub PartsAreReached : Type 0
PartsAreReached = (u : UnitText) (n : List ℕ) (p : Part) → IsReachedPartOf u n p → IsReached (source_of u (steps_in u)) p

-- a line gives the part: some number of steps leads to it under the line's result
abbrev pub NamesPart : UnitText → Part → LineText → Type 0
NamesPart u p l = (n : List ℕ) × (l.result ≡ Some n) × IsReachedPartOf u n p

-- the steps lead to the first line in text order that gives the part, and there are none where no line gives it
pub data AreFirstSteps (u : UnitText) (p : Part) (steps : List PartStep) : Type 0 where
  of_line : (before after : List LineText) (line : LineText) → lines_of u.blocks ≡ before ++ line ∷ after → Each (λ l. NamesPart u p l → ⊥) before
      → (named : NamesPart u p line) → steps ≡ named.2.way.steps → AreFirstSteps u p steps
  of_none : Each (λ l. NamesPart u p l → ⊥) (lines_of u.blocks) → steps ≡ [] → AreFirstSteps u p steps

-- Such are the steps that are found: however many steps a part needs, as many as there are lines are enough.
abbrev pub StepsAreFirst : Type 0
StepsAreFirst = (u : UnitText) (p : Part) → AreFirstSteps u p (steps_in u p)

-- ---- well-formedness

-- none of its instructions has a fault, in whatever module it stands
abbrev pub HasNoFault : UnitText → Type 0
HasNoFault y = (items : List ItemText) → NoneHasFault items (map (λ p. record { unit = y; place = p }) (places y))

-- no result of it has the name of an argument or of another result, and none of its instructions has a fault
pub record IsRightEntity (y : UnitText) : Type 0 where
  pub new_results : results_repeat y.args [] (lines_of y.blocks) ≡ false
  pub no_fault : HasNoFault y

-- a unit with few arguments, no two of one name
pub record HasApartArgs (u : UnitText) : Type 0 where
  pub few : length u.args < 2 ^ 32
  pub once : args_repeat [] u.args ≡ false

abbrev pub CombIsRight : Type 0
CombIsRight = (u y : UnitText) (steps : Part → List PartStep) (waited : List Part) (ds : List Drive) →
    comb_emission u steps waited ds ≡ emits y → HasApartArgs u → Each (WaitIsGiven (source_of u steps)) waited → Each (DriveIsGiven (source_of u steps)) ds → IsRightEntity y

abbrev pub EdgeIsRight : Type 0
EdgeIsRight = (u y : UnitText) (steps : Part → List PartStep) (rs : List EdgeRowTree) →
    edge_emission u steps rs ≡ emits y → HasApartArgs u → Each (RowIsGiven (source_of u steps)) rs → IsRightEntity y

abbrev pub OnceIsRight : Type 0
OnceIsRight = (u y : UnitText) (steps : Part → List PartStep) (ds : List Drive) →
    once_emission u steps ds ≡ emits y → HasApartArgs u → Each (DriveIsGiven (source_of u steps)) ds → IsRightEntity y
