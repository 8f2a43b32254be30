-- What is said of a module that was verified.
use Rattle.std.specs.Prelude.{◌≡◌, ◌+◌, ◌<◌, Option, Some, None, IsSome, Result, Ok, Err}
use Rattle.lh_unit.specs.WellFormed.{FaultKind, number_of, Site, NoneHasFault, IsFirstFault, IsFaultless}
use Rattle.lh_unit.specs.Arena.{Arena, contents, unit_name_at, unit_text_at, unit_count, kind_at}
use Rattle.lh_unit.specs.declared.inst.UnitId.{UnitId}
use Rattle.lh_unit.specs.declared.inst.Item.{Item}
use Rattle.lh_unit.specs.declared.inst.Item.TheVariants as item
use Rattle.lh_verify.specs.declared.unit.InstFault.{InstFault}
use Rattle.lh_verify.specs.declared.verify.Fault.{Fault}
use Rattle.lh_verify.specs.declared.verify.VerifyCause.{VerifyCause}
use Rattle.lh_verify.specs.declared.verify.VerifyCause.TheVariants.{Invalid, OutOfMemory}
use Rattle.lh_verify.specs.declared.verify.VerifyFault.{VerifyFault}
use Rattle.lh_verify.specs.declared.verify.Verified.{Verified}
use Rattle.lh_verify.specs.FirstFound.{FirstIn, unit_sites}

-- the first fault of the module: its unit by its id, its number in the unit from 1, and the number of its lowest fault
pub record NamesFault (a : Arena) (f : Fault) : Type 0 where
  pub within : f.unit.0 < unit_count a
  pub kind : FaultKind
  pub number : number_of kind ≡ f.number
  pub first : IsFirstFault (contents a) (unit_name_at a f.unit.0) f.inst kind

-- what is said of a module, if there is a fault
abbrev pub FirstFaultOf : Arena → Option Fault → Type 0
FirstFaultOf a None = IsFaultless (contents a)
FirstFaultOf a (Some f) = NamesFault a f

-- the first fault of one of the module's units
pub record UnitFault (a : Arena) (u : UnitId) (f : Fault) : Type 0 where
  pub unit : f.unit ≡ u
  pub site : Site
  pub kind : FaultKind
  pub first : FirstIn (contents a) (unit_sites (unit_text_at a u.0)) site kind
  pub of_unit : site.unit ≡ unit_text_at a u.0
  pub at : site.place.number ≡ f.inst
  pub number : number_of kind ≡ f.number

-- what is said of a unit, and of an item, if there is a fault
abbrev pub FirstFaultOfUnit : Arena → UnitId → Option Fault → Type 0
FirstFaultOfUnit a u None = NoneHasFault (contents a) (unit_sites (unit_text_at a u.0))
FirstFaultOfUnit a u (Some f) = UnitFault a u f

abbrev pub FirstFaultOfItem : Arena → Item → Option Fault → Type 0
FirstFaultOfItem a (item.Unit u) f = FirstFaultOfUnit a u f
FirstFaultOfItem a (item.Declare d) f = f ≡ None

-- the unit of an item is begun
abbrev pub ItemBegun : Arena → Item → Type 0
ItemBegun a (item.Unit u) = IsSome (kind_at a u.0)
ItemBegun a (item.Declare d) = Unit {0}

-- what is found in a unit, as a fault of the module
abbrev pub named_fault : UnitId → Option InstFault → Option Fault
named_fault u None = None
named_fault u (Some f) = Some (record { unit = u; inst = f.inst.0 + 1; number = f.number })

-- why a module was not verified
abbrev pub HasCause : VerifyCause → Arena → Type 0
HasCause (Invalid f) a = NamesFault a f
HasCause OutOfMemory a = Unit {0}

-- what `verify` answers: the module without a fault, or the module as it was with its first fault
abbrev pub Verifies : Result Verified VerifyFault → Arena → Type 0
Verifies (Ok v) a = (v ≡ a) × IsFaultless (contents a)
Verifies (Err e) a = (e.«module» ≡ a) × HasCause e.cause a
