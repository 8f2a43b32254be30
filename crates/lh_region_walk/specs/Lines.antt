-- What the lines of a place give, of whatever story is told so far.
use Rattle.std.specs.Prelude.{◌≡◌, ℕ, ◌+◌, ◌<◌, List, length, map, Bool, true, false, Option, Some, None}
use Rattle.std.specs.Option.{is_some}
use Rattle.lh_types.specs.declared.op.Op.{Op}
use Rattle.lh_unit.specs.declared.inst.Typed.{Typed}
use Rattle.lh_unit.specs.declared.inst.ValueId.{ValueId}
use Rattle.lh_unit.specs.declared.inst.Inst.{Inst}
use Rattle.lh_unit.specs.declared.inst.Inst.TheVariants as inst
use Rattle.lh_flat.specs.declared.flat.FlatInst.{FlatInst}
use Rattle.lh_term.specs.Tree.{Tree}
use Rattle.lh_term.specs.Make.{make_operation}
use Rattle.lh_term.specs.Arena.{StandsForTree}
use Rattle.lh_term.specs.declared.term.TermId.{TermId}
use Rattle.lh_term.specs.declared.term.TermNode.{TermNode}
use Rattle.lh_region_def.specs.Known.{Known, Knowledge}
use Rattle.lh_region_places.specs.declared.state.PlaceState.{PlaceState}
use Rattle.lh_region_places.specs.Asked.{KnownTerms, Tells}
use Rattle.lh_region.specs.Taken.{told_of, asks_at}
use Rattle.lh_region.specs.Branches.{CanTest, IsAnd}
use Rattle.lh_region.specs.Walking.{as_term, Story, TellsKnown}
use Rattle.lh_region.specs.Gives.{ValuesDiffer, TellsGiven}
use Rattle.lh_region_walk.specs.Walked.{leads_nowhere}

-- ---- instructions

abbrev pub IsProbeInst : Inst → Type 0
IsProbeInst (inst.Prb of) = Unit {0}
IsProbeInst _ = ⊥

abbrev pub IsDriveInst : Inst → Type 0
IsDriveInst (inst.Drv to value after cond) = Unit {0}
IsDriveInst _ = ⊥

-- it gives a value or nothing, and does no more
abbrev pub gives_alone : Inst → Bool
gives_alone (inst.St to value) = false
gives_alone (inst.Prb of) = false
gives_alone (inst.Drv to value after cond) = false
gives_alone (inst.Call unit result args) = false
gives_alone i = leads_nowhere i

-- the instruction that gives an operation to a value
abbrev pub operation_line : ValueId → Op → List Typed → FlatInst
operation_line v o xs = record { result = Some v; inst = inst.Pure o xs }

-- ---- what is given

-- this term
abbrev pub IsThat : Tree → Story → Tree → Type 0
IsThat y s x = x ≡ y

-- what is told of value v at a place
abbrev pub IsToldOf : (i v : ℕ) → Story → Tree → Type 0
IsToldOf i v s x = s.told i v ≡ Some x

-- the operation on what is told of the operands at a place
abbrev pub IsOperationOn : ℕ → Op → List Typed → Story → Tree → Type 0
IsOperationOn i o xs s x = (ys : List Tree) × (map (told_of s.told) (asks_at i xs) ≡ map Some ys) × (x ≡ make_operation o ys)

-- The last place gives a value the term that the story says, of whatever is told and known so far.
abbrev pub GivesWhere : (Story → Tree → Type 0) → List TermNode → List PlaceState → (i v : ℕ) → List TermNode → List PlaceState → Type 0
GivesWhere P ns ps i v ms qs =
    (s : Story) (k : Knowledge) (a : Known) (x : Tree) → Tells ns ps s.told → s.places ≡ length ps → i + 1 ≡ s.places → v < s.values → ValuesDiffer s → P s x → as_term a ≡ Some x → TellsKnown s i k
    → TellsGiven ms qs s i v k a x

-- ---- the condition of a drive

-- a condition is told of the value after `if`, where there is one
abbrev pub MayTest : List TermNode → List PlaceState → Option ValueId → (i : ℕ) → Type 0
MayTest ns ps None i = Unit {0}
MayTest ns ps (Some v) i = CanTest ns ps v.0 i

abbrev pub ConditionIsTold : KnownTerms → Option ValueId → (i : ℕ) → Type 0
ConditionIsTold told None i = Unit {0}
ConditionIsTold told (Some v) i = is_some (told i v.0) ≡ true

-- What was told before, of that value too, is still told.
abbrev pub StillTested : List TermNode → List PlaceState → List TermNode → List PlaceState → Option ValueId → (i : ℕ) → Type 0
StillTested ns ps ms qs v i = (told : KnownTerms) → Tells ns ps told → ConditionIsTold told v i → Tells ms qs told

-- The term is the condition c, and what is told of the value after `if`.
abbrev pub IsDriveCond : List TermNode → List PlaceState → List TermNode → Option ValueId → (i : ℕ) → Tree → TermId → Type 0
IsDriveCond ns ps ms None i c t = StandsForTree ms t c
IsDriveCond ns ps ms (Some v) i c t = IsAnd ns ps ms v.0 i c t
