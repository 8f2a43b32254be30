-- What `inst` and `call` name, and their arguments.
use Rattle.std.specs.Prelude.{◌≡◌, ◌⊎◌, List, [], ◌∷◌, true, false, Some}
use Rattle.lh_types.specs.Types.{TypeTree, void_type}
use Rattle.lh_unit_names.specs.declared.name.UnitName.{UnitName}
use Rattle.lh_unit.specs.Contents.{OperandText, InstText, child_text, call_text, ArgText, UnitText, ItemText}
use Rattle.lh_unit.specs.Named.{unit_named, is_function}
use Rattle.lh_unit_names.specs.UnitNames.{is_assert}
use Rattle.lh_unit.specs.Typing.{value_type}
use Rattle.lh_unit.specs.WellFormed.{inputs_of, outputs_of, assert_args}
use Rattle.lh_verify_laws.specs.Sites.{AtEachSite}

-- operands and parameters are as many, and each operand has the type of its parameter
abbrev pub ArgumentsAre : UnitText → List OperandText → List ArgText → Type 0
ArgumentsAre u [] [] = Unit {0}
ArgumentsAre u (o ∷ os) (a ∷ more) = (value_type u o.value ≡ Some a.ty) × ArgumentsAre u os more
ArgumentsAre u _ _ = ⊥

-- `inst` names a process or an entity of the module
pub record InstanceIsRight (items : List ItemText) (u : UnitText) (name : UnitName) (inputs outputs : List OperandText) : Type 0 where
  pub of : UnitText
  pub named : unit_named name items ≡ Some of
  pub no_function : is_function of.kind ≡ false
  pub no_assert : is_assert name ≡ false
  pub inputs_are : ArgumentsAre u inputs (inputs_of of.args)
  pub outputs_are : ArgumentsAre u outputs (outputs_of of.args)

-- `call` names a function of the module, of which it writes the result
pub record FunctionIsRight (items : List ItemText) (u : UnitText) (name : UnitName) (result : TypeTree) (args : List OperandText) : Type 0 where
  pub of : UnitText
  pub named : unit_named name items ≡ Some of
  pub function : is_function of.kind ≡ true
  pub gives : (t : TypeTree) → of.result ≡ Some t → result ≡ t
  pub args_are : ArgumentsAre u args of.args

-- or it names `@llhd.assert`, of one truth value
pub record AssertIsRight (u : UnitText) (result : TypeTree) (args : List OperandText) : Type 0 where
  pub gives : result ≡ void_type
  pub args_are : ArgumentsAre u args assert_args

abbrev pub NamedIsRight : List ItemText → UnitText → InstText → Type 0
NamedIsRight items u (child_text name inputs outputs) = InstanceIsRight items u name inputs outputs
NamedIsRight items u (call_text name result args) =
    ((is_assert name ≡ true) × AssertIsRight u result args) ⊎ ((is_assert name ≡ false) × FunctionIsRight items u name result args)
NamedIsRight items u _ = Unit {0}

abbrev pub CallsAreRight : Type 0
CallsAreRight = AtEachSite (λ items s. NamedIsRight items s.unit s.place.line.inst)
