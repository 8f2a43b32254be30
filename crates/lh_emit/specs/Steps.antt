-- The steps to a part, from a value of an entity under construction.
use Rattle.std.specs.Prelude.{◌≡◌, ℕ, ◌<◌, List, [], ◌∷◌, length}
use Rattle.lh_types.specs.Types.{signal_type, IsData}
use Rattle.lh_unit.specs.Contents.{pure_text}
use Rattle.lh_unit.specs.Naming.{value_text}
use Rattle.lh_unit.specs.Within.{Each}
use Rattle.lh_unit.specs.declared.inst.ValueId.{ValueId}
use Rattle.lh_emit_def.specs.Emitted.{PartStep, Source, Emitted, gives, next_name, typed}
use Rattle.lh_emit_body.specs.Lines.{naming, most_lines, LinesAreEmitted, LinesHaveRoom, NamesGrow}
use Rattle.lh_emit_source.specs.Origins.{AreStepsOf}
use Rattle.lh_emit_body.specs.declared.lines.Lines.{Lines}
use Rattle.lh_emit_body.specs.declared.lines.EmitFault.{EmitFault}
use Rattle.lh_emit_body.specs.declared.lines.EmitFault.TheVariants as fault
use Rattle.lh_emit_source.specs.declared.origin.RouteStep.{RouteStep}

-- the entity after steps from the value of this name
abbrev pub walk : Source → List ℕ → List PartStep → Emitted → Emitted
walk s n [] e = e
walk s n (st ∷ more) e = walk s (next_name s e) more (gives s (pure_text st.op (typed n (signal_type st.to.ty) ∷ [])) e)

-- the name of what the last one gives
abbrev pub walk_name : Source → List ℕ → List PartStep → Emitted → List ℕ
walk_name s n [] e = n
walk_name s n (st ∷ more) e = walk_name s (next_name s e) more (gives s (pure_text st.op (typed n (signal_type st.to.ty) ∷ [])) e)

abbrev pub AllData : List RouteStep → Type 0
AllData route = Each (λ (st : RouteStep). IsData st.ty) route

-- what is left of the steps gives what all of them give
pub record StillWalks (s : Source) (n : List ℕ) (xs : List PartStep) (e : Emitted) (now : Lines) (v : ValueId) (left : List RouteStep) : Type 0 where
  pub rest : List PartStep
  pub entity : Emitted
  pub says : LinesAreEmitted s.args now entity
  pub steps : AreStepsOf rest left
  pub same : walk s (value_text (naming now.names) v) rest entity ≡ walk s n xs e
  pub name : walk_name s (value_text (naming now.names) v) rest entity ≡ walk_name s n xs e

-- Steps were taken from a value on, the last of which gives v; these are left.
pub record Walks (all : List RouteStep) (old : Lines) (from : ValueId) (now : Lines) (v : ValueId) (left : List RouteStep) : Type 0 where
  pub room : LinesHaveRoom now
  pub within : v.0 < length now.names
  pub grows : NamesGrow old.names now.names
  pub walks : (s : Source) (e : Emitted) (xs : List PartStep) → LinesAreEmitted s.args old e → AreStepsOf xs all → StillWalks s (value_text (naming old.names) from) xs e now v left

-- A fault has its cause.
abbrev pub WalksNot : List RouteStep → Lines → ValueId → EmitFault → Type 0
WalksNot all old from fault.OutOfMemory = Unit {0}
WalksNot all old from fault.EntityTooLarge =
    (s : Source) (e : Emitted) (xs : List PartStep) → LinesAreEmitted s.args old e → AreStepsOf xs all → most_lines < length (walk s (value_text (naming old.names) from) xs e).lines
