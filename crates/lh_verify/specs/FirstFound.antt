-- The first fault of a list of instructions, of a unit, and of a module.
use Rattle.std.specs.Prelude.{◌≡◌, ◌+◌, ◌<◌, List, [], ◌∷◌, ◌++◌, map, Bool, true, false, nat_eq, Option, Some, None}
use Rattle.lh_unit.specs.Contents.{UnitText, ItemText}
use Rattle.lh_unit.specs.Within.{Each}
use Rattle.lh_unit.specs.Places.{InstPlaceText, places}
use Rattle.lh_unit.specs.WellFormed.{FaultKind, number_of, Site, HasFault, NoneHasFault, has_paths, LacksDefinition}
use Rattle.lh_unit.specs.declared.inst.InstId.{InstId}
use Rattle.lh_verify_values.specs.declared.scope.Scope.{Scope}
use Rattle.lh_verify.specs.declared.spots.Spot.{Spot}
use Rattle.lh_verify.specs.declared.unit.InstFault.{InstFault}
use Rattle.lh_verify.specs.Faults.{lowest}

-- the first faulty instruction of a list, and its lowest fault
pub record FirstIn (items : List ItemText) (all : List Site) (site : Site) (k : FaultKind) : Type 0 where
  pub before : List Site
  pub after : List Site
  pub split : all ≡ before ++ site ∷ after
  pub has : HasFault items site k
  pub lowest : (j : FaultKind) → number_of j < number_of k → ¬ HasFault items site j
  pub none_before : NoneHasFault items before

-- the instructions of a unit in file order
abbrev pub unit_sites : UnitText → List Site
unit_sites u = map (λ p. record { unit = u; place = p }) (places u)

-- what is found is the first faulty instruction of the unit, by its number from 0, and the number of its lowest fault
pub record FoundIn (items : List ItemText) (u : UnitText) (f : InstFault) : Type 0 where
  pub site : Site
  pub kind : FaultKind
  pub first : FirstIn items (unit_sites u) site kind
  pub of_unit : site.unit ≡ u
  pub at : site.place.number ≡ f.inst.0 + 1
  pub number : number_of kind ≡ f.number
  pub few : f.inst.0 < 65536

-- what is found in a unit, if there is a fault
abbrev pub FindsFault : List ItemText → UnitText → Option InstFault → Type 0
FindsFault items u None = NoneHasFault items (unit_sites u)
FindsFault items u (Some f) = FoundIn items u f

-- this instruction is the first of the unit that lacks a definition
pub record FirstLacks (u : UnitText) (i : InstId) : Type 0 where
  pub place : InstPlaceText
  pub before : List InstPlaceText
  pub after : List InstPlaceText
  pub split : places u ≡ before ++ place ∷ after
  pub holds : LacksDefinition u place
  pub none_before : Each (λ p. ¬ LacksDefinition u p) before
  pub at : place.number ≡ i.0 + 1

-- which instruction is the first that lacks a definition, if paths are asked for and there is one
abbrev pub LacksFirst : List ItemText → UnitText → Option InstId → Type 0
LacksFirst items u None = has_paths items u ≡ true → Each (λ p. ¬ LacksDefinition u p) (places u)
LacksFirst items u (Some i) = (has_paths items u ≡ true) × FirstLacks u i

-- whether this is the instruction
abbrev pub is_at : Option InstId → Spot → Bool
is_at None x = false
is_at (Some i) x = nat_eq i.0 x.inst.0

-- what is found at an instruction, or else in those behind it
abbrev pub found_or : Spot → Option FaultKind → Option InstFault → Option InstFault
found_or x None more = more
found_or x (Some k) more = Some (record { inst = x.inst; number = number_of k })

-- the first of these instructions that has a fault, where `lacks` is the first with fault 7
abbrev pub first_at : Scope → (lacks : Option InstId) → List Spot → Option InstFault
first_at s lacks [] = None
first_at s lacks (x ∷ more) = found_or x (lowest s x (is_at lacks x)) (first_at s lacks more)

-- what is found has a number that an instruction may have
abbrev pub IsFew : Option InstFault → Type 0
IsFew None = Unit {0}
IsFew (Some f) = f.inst.0 < 65536
