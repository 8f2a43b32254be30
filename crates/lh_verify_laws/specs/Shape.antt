-- The shape of a unit: terminators, labels, `phi` and the kinds of units.
use Rattle.std.specs.Prelude.{◌≡◌, List, [], ◌∷◌, true, false, Some}
use Rattle.lh_unit.specs.Contents.{InstText, phi_text, LineText, BlockText, UnitText, ItemText, unit_text, declare_text}
use Rattle.lh_unit.specs.Named.{block_of, label_or}
use Rattle.lh_unit.specs.Places.{InstPlaceText, is_terminator, has_edge}
use Rattle.lh_unit.specs.Within.{Each}
use Rattle.lh_unit.specs.WellFormed.{Site, is_allowed, in_entity, is_phi, edges_naming, labels_named, IsFaultless}
use Rattle.lh_verify_laws.specs.Sites.{AtEachSite}

-- In a function or process an instruction is a terminator exactly where it is the last of its block.
pub record EndsRight (s : Site) : Type 0 where
  pub last_ends : s.place.after ≡ [] → is_terminator s.place.line.inst ≡ true
  pub ends_last : is_terminator s.place.line.inst ≡ true → s.place.after ≡ []

abbrev pub TerminatorsEnd : Type 0
TerminatorsEnd = AtEachSite (λ items s. in_entity s.unit.kind ≡ false → EndsRight s)

-- the last of these lines is a terminator, and no other is
abbrev pub EndsOnce : List LineText → Type 0
EndsOnce [] = Unit {0}
EndsOnce (l ∷ []) = is_terminator l.inst ≡ true
EndsOnce (l ∷ m ∷ more) = (is_terminator l.inst ≡ false) × EndsOnce (m ∷ more)

-- of each unit
abbrev pub EachUnit : (UnitText → Type 0) → List ItemText → Type 0
EachUnit P [] = Unit {0}
EachUnit P (unit_text u ∷ more) = P u × EachUnit P more
EachUnit P (declare_text d ∷ more) = EachUnit P more

-- In functions and processes each block that has instructions ends with its one terminator.
abbrev pub BlocksEndOnce : Type 0
BlocksEndOnce = (items : List ItemText) → IsFaultless items → EachUnit (λ u. in_entity u.kind ≡ false → Each (λ (b : BlockText). EndsOnce b.lines) u.blocks) items

-- The labels that an instruction names are those of blocks of its unit.
abbrev pub LabelsAreBlocks : Type 0
LabelsAreBlocks = AtEachSite (λ items s. Each (λ n. (b : BlockText) × (block_of n s.unit.blocks ≡ Some b)) (labels_named s.place.line.inst))

-- A `phi` stands behind other `phi` alone, not in the entry block, and names each block that has an edge to its own exactly once.
abbrev pub PhiIsRight : UnitText → InstPlaceText → InstText → Type 0
PhiIsRight u p (phi_text ty edges) =
    Each (λ (l : LineText). is_phi l.inst ≡ true) p.before
    × (p.in_entry ≡ false)
    × Each (λ (b : BlockText). has_edge b (label_or p.block.label) ≡ true → edges_naming (label_or b.label) edges ≡ 1) u.blocks
PhiIsRight u p _ = Unit {0}

abbrev pub PhisAreRight : Type 0
PhisAreRight = AtEachSite (λ items s. PhiIsRight s.unit s.place s.place.line.inst)

-- An instruction is allowed in units of the kind of its own.
abbrev pub AllAllowed : Type 0
AllAllowed = AtEachSite (λ items s. is_allowed s.unit.kind s.place.line.inst ≡ true)
