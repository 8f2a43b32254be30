-- Where control stands at an instruction, what it names has been given.
use Rattle.std.specs.Prelude.{◌≡◌, ◌⊎◌, ℕ, List, ◌∷◌, true, Some}
use Rattle.lh_unit.specs.declared.inst.UnitKind.{UnitKind}
use Rattle.lh_unit.specs.declared.inst.UnitKind.TheVariants as kind
use Rattle.lh_unit.specs.Contents.{EdgeText, InstText, phi_text, LineText, BlockText, UnitText, lines_define, blocks_define, args_define}
use Rattle.lh_unit.specs.Named.{block_of, label_or}
use Rattle.lh_unit.specs.Places.{InstPlaceText, has_edge, IsPath}
use Rattle.lh_unit.specs.Within.{Each}
use Rattle.lh_unit.specs.WellFormed.{values_named}
use Rattle.lh_verify_laws.specs.Sites.{AtEachSite}

-- on each path to a block, these lines of it or a block before it give the value
abbrev pub IsGiven : UnitText → BlockText → (before : List LineText) → List ℕ → Type 0
IsGiven u b before n = (earlier : List BlockText) → IsPath u (b ∷ earlier) → (lines_define n before ≡ true) ⊎ (blocks_define n earlier ≡ true)

-- an argument, or given on each path
abbrev pub IsThere : UnitText → BlockText → (before : List LineText) → List ℕ → Type 0
IsThere u b before n = (args_define n u.args ≡ true) ⊎ IsGiven u b before n

-- an operand of a `phi`: at the end of the block that its edge names
abbrev pub IsThereOnEdge : UnitText → (to : List ℕ) → EdgeText → Type 0
IsThereOnEdge u to e = (last : BlockText) → block_of e.block u.blocks ≡ Some last → has_edge last to ≡ true → IsThere u last last.lines e.value

-- in an entity: an argument, or given earlier in the text
abbrev pub IsEarlier : UnitText → (before : List LineText) → List ℕ → Type 0
IsEarlier u before n = (args_define n u.args ≡ true) ⊎ (lines_define n before ≡ true)

-- by the kind of the unit
abbrev pub OperandsThere : UnitKind → UnitText → InstPlaceText → InstText → Type 0
OperandsThere kind.Entity u p i = Each (IsEarlier u p.before) (values_named i)
OperandsThere _ u p (phi_text ty edges) = Each (IsThereOnEdge u (label_or p.block.label)) edges
OperandsThere _ u p i = Each (IsThere u p.block p.before) (values_named i)

abbrev pub AllThere : Type 0
AllThere = AtEachSite (λ items s. OperandsThere s.unit.kind s.unit s.place s.place.line.inst)
