-- What is asked of the texts of units, so that copies of them keep apart. It holds in each well-formed module.
use Rattle.std.specs.Prelude.{◌≡◌, ◌<◌, ℕ, List, [], ◌∷◌, Bool, true, false, Option, Some, None}
use Rattle.lh_unit_names.specs.declared.name.UnitName.{UnitName}
use Rattle.lh_unit.specs.Contents.{EdgeText, InstText, call_text, phi_text, ret_text, LineText, BlockText, ArgText, UnitText, ItemText, args_define}
use Rattle.lh_unit.specs.Named.{function_named, label_or}
use Rattle.lh_unit_names.specs.UnitNames.{is_assert}
use Rattle.lh_unit.specs.Activation.{functions}
use Rattle.lh_unit.specs.Arena.{Arena, IsArena, contents, unit_count, kind_at, unit_text_at}
use Rattle.lh_unit.specs.WellFormed.{is_phi, IsWellFormed}
use Rattle.lh_unit.specs.declared.inst.UnitKind.TheVariants as kind
use Rattle.lh_unit.specs.Within.{Each}
use Rattle.lh_verify_laws.specs.Shape.{EndsOnce}
use Rattle.lh_flat.specs.Marks.{IsPlain}

-- the result of an instruction is a name of bytes, and no argument of its unit
abbrev pub ResultIsNew : UnitText → Option (List ℕ) → Type 0
ResultIsNew u None = Unit {0}
ResultIsNew u (Some n) = IsPlain n × (args_define n u.args ≡ false)

-- a `phi` names blocks by bytes
abbrev pub EdgesArePlain : InstText → Type 0
EdgesArePlain (phi_text ty edges) = Each (λ (e : EdgeText). IsPlain e.block) edges
EdgesArePlain _ = Unit {0}

-- each `ret` of a function gives a value
abbrev pub AlwaysGives : UnitText → Type 0
AlwaysGives f = Each (λ (b : BlockText). Each (λ (l : LineText). l.inst ≡ ret_text None → ⊥) b.lines) f.blocks

-- a call whose result has a name is of a function that always gives a value
abbrev pub CallGives : List UnitText → InstText → Option (List ℕ) → Type 0
CallGives functions (call_text f ty args) (Some n) = is_assert f ≡ false → (d : UnitText) → function_named f functions ≡ Some d → AlwaysGives d
CallGives functions _ _ = Unit {0}

pub record LineTidy (functions : List UnitText) (u : UnitText) (l : LineText) : Type 0 where
  pub result : ResultIsNew u l.result
  pub edges : EdgesArePlain l.inst
  pub gives : CallGives functions l.inst l.result

-- none of these lines is a `phi`
abbrev pub NoPhis : List LineText → Type 0
NoPhis lines = Each (λ (l : LineText). is_phi l.inst ≡ false) lines

-- the first, or else the second
abbrev pub Either : Bool → Type 0 → Type 0 → Type 0
Either true P Q = P
Either false P Q = Q

-- behind a line that is no `phi` stands none
abbrev pub PhisFirst : List LineText → Type 0
PhisFirst [] = Unit {0}
PhisFirst (l ∷ more) = Either (is_phi l.inst) (PhisFirst more) (NoPhis more)

pub record BlockTidy (functions : List UnitText) (u : UnitText) (b : BlockText) : Type 0 where
  pub labelled : label_or b.label ≡ [] → ⊥
  pub plain : IsPlain (label_or b.label)
  pub ends : EndsOnce b.lines
  pub phis : PhisFirst b.lines
  pub lines : Each (LineTidy functions u) b.lines

-- the arguments have names of bytes, none twice
abbrev pub ArgsOnce : List ArgText → Type 0
ArgsOnce [] = Unit {0}
ArgsOnce (a ∷ more) = IsPlain a.name × (args_define a.name more ≡ false) × ArgsOnce more

-- no `phi` stands in the entry block
abbrev pub EntryHasNoPhi : List BlockText → Type 0
EntryHasNoPhi [] = Unit {0}
EntryHasNoPhi (b ∷ more) = NoPhis b.lines

pub record UnitTidy (functions : List UnitText) (u : UnitText) : Type 0 where
  pub args : ArgsOnce u.args
  pub blocks : Each (BlockTidy functions u) u.blocks
  pub entry : EntryHasNoPhi u.blocks

abbrev pub FunctionsTidy : List UnitText → Type 0
FunctionsTidy functions = (n : UnitName) (f : UnitText) → function_named n functions ≡ Some f → UnitTidy functions f

-- The functions of a well-formed module are tidy.
abbrev pub FunctionsAreTidy : Type 0
FunctionsAreTidy = (items : List ItemText) → IsWellFormed items → FunctionsTidy (functions items)

-- So are its processes.
abbrev pub ProcessesAreTidy : Type 0
ProcessesAreTidy = (a : Arena) (u : ℕ) → IsArena a → IsWellFormed (contents a) → u < unit_count a → kind_at a u ≡ Some kind.Proc → UnitTidy (functions (contents a)) (unit_text_at a u)
