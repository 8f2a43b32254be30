-- What becomes of a process, by ids.
use Rattle.std.specs.Prelude.{◌≡◌, ◌<◌, ◌≤◌, ◌^◌, ℕ, List, [], length, map, false, Result, Ok, Err}
use Rattle.lh_unit.specs.Arena.{Arena, contents, unit_text_at}
use Rattle.lh_unit.specs.Contents.{LineText, ArgText, UnitText}
use Rattle.lh_unit.specs.Naming.{Naming}
use Rattle.lh_unit.specs.Reads.{args_repeat}
use Rattle.lh_unit.specs.Within.{Each}
use Rattle.lh_text_laws.specs.Printable.{results_repeat}
use Rattle.lh_flat.specs.declared.flat.Flat.{Flat}
use Rattle.lh_flat.specs.Below.{IdsBelow}
use Rattle.lh_flat.specs.Flat.{flattened}
use Rattle.lh_flat.specs.Reads.{flat_text}
use Rattle.lh_term.specs.declared.term.TermNode.{TermNode}
use Rattle.lh_region.specs.Forms.{Names}
use Rattle.lh_shape.specs.Answers.{IsShape}
use Rattle.lh_shape.specs.Shapes.{ShapeText, comb, edge, once, left}
use Rattle.lh_shape.specs.declared.kinds.Shape.{Shape}
use Rattle.lh_shape.specs.declared.reason.Reason.TheVariants as reason
use Rattle.lh_emit_def.specs.Emitted.{Source}
use Rattle.lh_emit_def.specs.Entities.{entity_with}
use Rattle.lh_emit_def.specs.Ways.{WaitIsGiven, DriveIsGiven, RowIsGiven}
use Rattle.lh_emit_source.specs.Origins.{source_by}
use Rattle.lh_emit_body.specs.Bodies.{IsBody}
use Rattle.lh_emit_shapes.specs.Bodies.{IsFlatOf, steps_of}
use Rattle.lh_emit_source.specs.declared.origin.Origin.{Origin}
use Rattle.lh_emit_body.specs.declared.body.Body.{Body}
use Rattle.lh_emit_body.specs.declared.lines.EmitFault.{EmitFault}
use Rattle.lh_emit_body.specs.declared.lines.EmitFault.TheVariants as emit
use Rattle.lh_lower_def.specs.declared.report.Kind.{Kind}
use Rattle.lh_lower_def.specs.Lowering as text
use Rattle.lh_lower.specs.declared.outcome.ProcessOutcome.{ProcessOutcome}
use Rattle.lh_lower.specs.declared.outcome.ProcessOutcome.TheVariants as outcome

-- the body of an entity in the place of a process
pub record IsEntityBody (u : UnitText) (body : Body) (lines : List LineText) : Type 0 where
  pub is : IsBody u.args body lines
  pub short : length lines ≤ 65536
  pub once : args_repeat [] u.args ≡ false
  pub new_results : results_repeat u.args [] lines ≡ false

-- the outcome of a process is that one
abbrev pub IsOutcome : UnitText → text.Outcome → ProcessOutcome → Type 0
IsOutcome u x (outcome.Entity k body) = (lines : List LineText) × (x ≡ text.becomes k (entity_with u lines)) × IsEntityBody u body lines
IsOutcome u x (outcome.Left r) = x ≡ text.stays r

-- The outcome of the unit u of a module.
abbrev pub IsOutcomeAt : Arena → (u : ℕ) → ProcessOutcome → Type 0
IsOutcomeAt a u o = IsOutcome (unit_text_at a u) (text.outcome_in (contents a) (unit_text_at a u)) o

-- ---- what the calls compute on the way

-- what an answer of a body comes to, of an entity by this shape
abbrev pub IsOutcomeWith : Kind → Result Body EmitFault → ProcessOutcome → Type 0
IsOutcomeWith k (Ok b) o = o ≡ outcome.Entity k b
IsOutcomeWith k (Err emit.EntityTooLarge) o = o ≡ outcome.Left reason.EntityTooLarge
IsOutcomeWith k (Err emit.OutOfMemory) o = ⊥

-- a shape that may be emitted: its parts are reached, and its terms typed
abbrev pub IsShapeGiven : Source → ShapeText → Type 0
IsShapeGiven s (comb waited ds) = Each (WaitIsGiven s) waited × Each (DriveIsGiven s) ds
IsShapeGiven s (edge rs) = Each (RowIsGiven s) rs
IsShapeGiven s (once ds) = Each (DriveIsGiven s) ds
IsShapeGiven s (left r) = Unit {0}

-- a process of this flat text by some names, with this shape by ids
pub record ProcessHasShape (ns : List TermNode) (o : Origin) (shape : Shape) (u : UnitText) (f : Naming) (x : ShapeText) : Type 0 where
  pub flat : IsFlatOf u f o
  pub few : length u.args < 2 ^ 32
  pub is : IsShape ns shape x
  pub given : IsShapeGiven (source_by u.name f o.flat.now) x

pub record CanEmit (ns : List TermNode) (o : Origin) (shape : Shape) : Type 0 where
  pub unit : UnitText
  pub naming : Naming
  pub text : ShapeText
  pub has : ProcessHasShape ns o shape unit naming text

-- The outcome is that of the shape.
abbrev pub IsOutcomeOf : List TermNode → Origin → Shape → ProcessOutcome → Type 0
IsOutcomeOf ns o shape y = (u : UnitText) (f : Naming) (x : ShapeText) → ProcessHasShape ns o shape u f x → IsOutcome u (text.outcome_of_shape u (steps_of u f o) x) y

-- a flat text that is formed by some names, by which its arguments have these
pub record ArgsAreNamed (names : List (List ℕ)) (t : Flat) : Type 0 where
  pub below : IdsBelow t
  pub naming : Naming
  pub is : Names t naming
  pub named : names ≡ map (λ (a : ArgText). a.name) (flat_text naming t).args
  pub few : length t.args < 2 ^ 32

-- The outcome is that of the flat text, for a process whose arguments have these names.
abbrev pub IsOutcomeBy : List (List ℕ) → Flat → ProcessOutcome → Type 0
IsOutcomeBy names t y =
    (u : UnitText) (f : Naming) → Names t f → u.args ≡ (flat_text f t).args → args_repeat [] u.args ≡ false → length u.args < 2 ^ 32 → names ≡ map (λ (a : ArgText). a.name) u.args
    → IsOutcome u (text.outcome_of_text u (flattened (flat_text f t))) y
