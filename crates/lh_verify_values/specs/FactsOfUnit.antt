-- What is known of the values of a unit after some of its arguments and instructions.
use Rattle.std.specs.Prelude.{◌≡◌, ℕ, List, length, Bool, true, false, ◌||◌, Option, Some, None, option_map, slice_get}
use Rattle.std.specs.Option.{option_and_then}
use Rattle.lh_types.specs.Types.{TypeTree}
use Rattle.lh_unit.specs.Naming.{Naming, inst_text}
use Rattle.lh_unit.specs.Table.{is_arg, is_made}
use Rattle.lh_unit.specs.ById.{arg_being, inst_making}
use Rattle.lh_unit.specs.Typing.{or_else, result_type}
use Rattle.lh_unit.specs.Kinds.{Kind, kind_of, result_kind}
use Rattle.lh_unit.specs.declared.inst.Arg.{Arg}
use Rattle.lh_unit.specs.declared.inst.Inst.{Inst}
use Rattle.lh_unit.specs.declared.table.TableLine.{TableLine}
use Rattle.lh_verify_values.specs.declared.scope.Fact.{Fact}
use Rattle.lh_verify_values.specs.Facts.{kind_as}
use Rattle.lh_verify_values.specs.Numbers.{IsNumberOf}

-- the kind and the type that an argument and an instruction give the value v
abbrev pub arg_kind : List Arg → ℕ → Option Kind
arg_kind args v = option_and_then (λ (a : Arg). kind_of a.ty) (arg_being args v)

abbrev pub arg_type : List Arg → ℕ → Option TypeTree
arg_type args v = option_map (λ (a : Arg). a.ty) (arg_being args v)

abbrev pub line_kind : Naming → List TableLine → ℕ → Option Kind
line_kind f lines v = option_and_then (λ (i : Inst). result_kind (inst_text f i)) (inst_making lines v)

abbrev pub line_type : Naming → List TableLine → ℕ → Option TypeTree
line_type f lines v = option_and_then (λ (i : Inst). result_type (inst_text f i)) (inst_making lines v)

-- what is known of the value v after these arguments and these lines
pub record FactAfter (types : List TypeTree) (f : Naming) (args : List Arg) (lines : List TableLine) (v : ℕ) (x : Fact) : Type 0 where
  pub defined : x.defined ≡ (is_arg args v || is_made lines v)
  pub kind : option_map kind_as x.kind ≡ or_else (arg_kind args v) (line_kind f lines v)
  pub ty : IsNumberOf types x.ty (or_else (arg_type args v) (line_type f lines v))

-- what is known of each of n values
pub record FactsAfter (types : List TypeTree) (n : ℕ) (f : Naming) (args : List Arg) (lines : List TableLine) (facts : List Fact) : Type 0 where
  pub long : length facts ≡ n
  pub known : (v : ℕ) (x : Fact) → slice_get facts v ≡ Some x → FactAfter types f args lines v x

-- what an instruction tells of its result, where nothing gave the value yet
pub record GivenBy (types : List TypeTree) (f : Naming) (i : Inst) (x : Fact) : Type 0 where
  pub defined : x.defined ≡ true
  pub kind : option_map kind_as x.kind ≡ result_kind (inst_text f i)
  pub ty : IsNumberOf types x.ty (result_type (inst_text f i))

-- what an instruction tells of its result; where the value was given already, nothing
abbrev pub FactOfInst : List TypeTree → (defined : Bool) → Naming → Inst → (old new : Fact) → Type 0
FactOfInst types true f i old new = new ≡ old
FactOfInst types false f i old new = GivenBy types f i new

-- what an argument tells of its value, over what an instruction told
pub record GivenArg (types : List TypeTree) (a : Arg) (old new : Fact) : Type 0 where
  pub defined : new.defined ≡ true
  pub kind : option_map kind_as new.kind ≡ or_else (kind_of a.ty) (option_map kind_as old.kind)
  pub ty : IsNumberOf types new.ty (Some a.ty)

-- what an argument tells of its value; where an argument was the value already, nothing
abbrev pub FactOfArg : List TypeTree → (seen : Bool) → Arg → (old new : Fact) → Type 0
FactOfArg types true a old new = new ≡ old
FactOfArg types false a old new = GivenArg types a old new

-- the marks say which values are arguments
pub record Marks (args : List Arg) (n : ℕ) (seen : List Bool) : Type 0 where
  pub long : length seen ≡ n
  pub marked : (v : ℕ) (b : Bool) → slice_get seen v ≡ Some b → b ≡ is_arg args v

-- nothing is known of a value
abbrev pub blank : Fact
blank = record { defined = false; kind = None; ty = None }
