-- The law of rows: what an activation of a process does is what the rows of its regions say.
use Rattle.std.specs.Prelude.{◌≡◌, ◌⊎◌, ◌≤◌, ◌+◌, ℕ, List, [], length, Bool, true, false, Option, Some, slice_get}
use Rattle.lh_time.specs.declared.Instant.{Instant}
use Rattle.lh_types.specs.Types.{IsData}
use Rattle.lh_types.specs.Wish.{Wish, no_wish}
use Rattle.lh_types.specs.declared.part.Range.{Range}
use Rattle.lh_unit_names.specs.declared.name.UnitName.{UnitName}
use Rattle.lh_unit.specs.Contents.{UnitText}
use Rattle.lh_unit.specs.Held.{Env}
use Rattle.lh_unit.specs.Within.{Each}
use Rattle.lh_unit.specs.Activation.{Scene, waits, ProcessState, Activated, activate}
use Rattle.lh_unit.specs.World.{begun}
use Rattle.lh_eval_laws.specs.Ranges.{RangesFit, arg_types}
use Rattle.lh_flat_laws.specs.Formed.{IsFormed}
use Rattle.lh_flat.specs.Flat.{FlatBlockText, FlatText, flat_unit}
use Rattle.lh_term.specs.Tree.{Tree, past_of}
use Rattle.lh_term.specs.Mean.{Valuation, IsFitting, mean}
use Rattle.lh_term.specs.declared.part.Part.{Part}
use Rattle.lh_region_def.specs.Rows as rows
use Rattle.lh_region_def.specs.Rows.{enters_head, RegionEnd, Rows}
use Rattle.lh_region_def.specs.Regions.{head_of, begins_with_phi, lines_at, known_first, Course, comes_to, max_insts, first_region, second_region, waits_for}
use Rattle.lh_region_def.specs.Typed.{Among, KnowsTyped, IsCondition, IsOfType}
use Rattle.lh_region_def.specs.Means.{reads, is_true, KnowledgeAgrees, with_rows}
use Rattle.lh_region_def.specs.Ending.{StandsAs}
use Rattle.lh_region_def.specs.Right.{DriveTyped}

-- a flat text that is formed, whose head begins with no `phi`, and an instance of it, the bits of whose arguments lie within the signals
pub record IsInstance (name : UnitName) (t : FlatText) (args : List Range) (bits : List Bool) : Type 0 where
  pub formed : IsFormed (flat_unit name t)
  pub plain : begins_with_phi (lines_at t.blocks (head_of t.blocks)) ≡ false
  pub ranges : RangesFit (length bits) args (arg_types t.args)

-- the terms of probes mean the values that parts have, where the signals have these bits
pub record Probes (probe : Part → Tree) (past now : Valuation) (args : List Range) (bits : List Bool) : Type 0 where
  pub past_fits : IsFitting past
  pub now_fits : IsFitting now
  pub typed : (p : Part) → IsData p.ty → IsOfType p.ty (probe p)
  pub means : (p : Part) → mean past now (probe p) ≡ reads args bits p

-- Exactly the condition of this one of the ends holds, and what is known there is held.
pub record CameTo (u : UnitText) (past now : Valuation) (args : List Range) (ends : List RegionEnd) (end : RegionEnd) (held : Env) : Type 0 where
  pub among : Among end ends
  pub holds : is_true past now end.cond ≡ true
  pub only : (x : RegionEnd) → Among x ends → is_true past now x.cond ≡ true → x ≡ end
  pub known : KnowledgeAgrees u past now args end.known held

-- An activation ends as the rows say, with this wish and these outcomes before them: its wish has the drives whose conditions hold, in order; it stands where the one end is whose condition holds.
pub record EndsAs (u : UnitText) (t : FlatText) (past now : Valuation) (args : List Range) (at : Instant) (before : Wish) (told : List Bool) (rows : Rows) (done : Activated) : Type 0 where
  pub end : RegionEnd
  pub came : CameTo u past now args rows.ends end done.state.held
  pub stands : StandsAs t.blocks args end.way end.from done.state.stand
  pub wish : done.wish ≡ with_rows past now args at before rows.drives
  pub outcomes : rows.asserts ≡ [] → done.outcomes ≡ told

-- a region executes at most this many instructions, a merge counted as one
abbrev pub max_steps : ℕ
max_steps = max_insts + max_insts

-- The first activation of an instance does what the rows of the first region say.
abbrev pub FirstActivation : Type 0
FirstActivation = (name : UnitName) (t : FlatText) (args : List Range) (s : Scene) → IsInstance name t args s.now → (probe : Part → Tree) (past now : Valuation) → Probes probe past now args s.now →
    (c : Course) → first_region t probe ≡ comes_to c → (bound : ℕ) → max_steps + length (lines_at t.blocks 0) ≤ bound →
    (done : Activated) × (activate bound s (flat_unit name t) (begun (flat_unit name t) args) ≡ Some done) × EndsAs (flat_unit name t) t past now args s.at no_wish [] c.rows done

-- a process waits for the head, and what the first region starts with is held
pub record WaitsForHead (u : UnitText) (t : FlatText) (past now : Valuation) (args : List Range) (p : ProcessState) : Type 0 where
  pub head : FlatBlockText
  pub is : slice_get t.blocks (head_of t.blocks) ≡ Some head
  pub from : List ℕ
  pub on : List Range
  pub wake : Option Instant
  pub stand : p.stand ≡ waits from head.label on wake
  pub known : KnowledgeAgrees u past now args (known_first t) p.held

-- So does each activation that begins where the process waits for the head.
abbrev pub AgainFromHead : Type 0
AgainFromHead = (name : UnitName) (t : FlatText) (args : List Range) (s : Scene) → IsInstance name t args s.now → (probe : Part → Tree) (past now : Valuation) → Probes probe past now args s.now →
    (c : Course) → first_region t probe ≡ comes_to c → (p : ProcessState) → WaitsForHead (flat_unit name t) t past now args p → (bound : ℕ) → max_steps ≤ bound →
    (done : Activated) × (activate bound s (flat_unit name t) p ≡ Some done) × EndsAs (flat_unit name t) t past now args s.at no_wish [] c.rows done

-- Where an end of the first region waits for the head, and what is known there is held, so is what the first region starts with, whatever the parts' values are.
abbrev pub HeadStaysKnown : Type 0
HeadStaysKnown = (name : UnitName) (t : FlatText) → IsFormed (flat_unit name t) → begins_with_phi (lines_at t.blocks (head_of t.blocks)) ≡ false → (probe : Part → Tree)
    → ((p : Part) → IsData p.ty → IsOfType p.ty (probe p)) →
    (c : Course) → first_region t probe ≡ comes_to c → (x : RegionEnd) → Among x c.rows.ends → (to_head : Bool) (parts : List Part) (timed : Bool)
    → x.way ≡ rows.waits (head_of t.blocks) to_head parts timed →
    (args : List Range) (past now past' now' : Valuation) (held : Env) → KnowledgeAgrees (flat_unit name t) past now args x.known held → KnowledgeAgrees (flat_unit name t) past' now' args (known_first t) held

-- A process waits where an end of the first region is, as its terms of the parts' values before say: exactly the condition of that end holds at those values.
pub record WaitsAfter (u : UnitText) (t : FlatText) (past now : Valuation) (args : List Range) (rows : Rows) (p : ProcessState) : Type 0 where
  pub end : RegionEnd
  pub came : CameTo u past now args rows.ends end p.held
  pub stands : StandsAs t.blocks args end.way end.from p.stand

-- The second region was gone through to an end of it, with this held there, and then the first one from the head, in one activation.
pub record ThenFirst (u : UnitText) (t : FlatText) (past now : Valuation) (second : Rows) (past' now' : Valuation) (first : Rows) (args : List Range) (at : Instant) (done : Activated) : Type 0 where
  pub end : RegionEnd
  pub way : end.way ≡ enters_head
  pub held : Env
  pub came : CameTo u past now args second.ends end held
  pub told : List Bool
  pub outcomes : second.asserts ≡ [] → told ≡ []
  pub ends : EndsAs u t past' now' args at (with_rows past now args at no_wish second.drives) told first done

-- Where each end of the first region waits for one block, without time, an activation that begins at its `wait` does what the rows of the second region say, and then, where
-- that ends by entering the head,
-- what those of the first one say.
abbrev pub SecondRegion : Type 0
SecondRegion = (name : UnitName) (t : FlatText) (args : List Range) (s : Scene) → IsInstance name t args s.now → (past : Valuation) → IsFitting past →
    (c : Course) → first_region t past_of ≡ comes_to c → (target : ℕ) → Each (λ (x : RegionEnd). waits_for x.way ≡ Some target) c.rows.ends → (second : Course)
    → second_region t target ≡ comes_to second →
    (p : ProcessState) → WaitsAfter (flat_unit name t) t past (reads args s.now) args c.rows p →
    (probe : Part → Tree) (past' now' : Valuation) → Probes probe past' now' args s.now → (first : Course) → first_region t probe ≡ comes_to first → (bound : ℕ) → max_steps + max_steps ≤ bound →
    (done : Activated) × (activate bound s (flat_unit name t) p ≡ Some done)
    × (EndsAs (flat_unit name t) t past (reads args s.now) args s.at no_wish [] second.rows done
    ⊎ ThenFirst (flat_unit name t) t past (reads args s.now) second.rows past' now' first.rows args s.at done)

-- an end of a region is typed
pub record EndTyped (u : UnitText) (x : RegionEnd) : Type 0 where
  pub cond : IsCondition x.cond
  pub known : KnowsTyped u x.known

-- Every term of the rows of the first region is typed.
abbrev pub RowsAreTyped : Type 0
RowsAreTyped = (name : UnitName) (t : FlatText) → IsFormed (flat_unit name t) → begins_with_phi (lines_at t.blocks (head_of t.blocks)) ≡ false → (probe : Part → Tree)
    → ((p : Part) → IsData p.ty → IsOfType p.ty (probe p)) →
    (c : Course) → first_region t probe ≡ comes_to c → Each DriveTyped c.rows.drives × Each (EndTyped (flat_unit name t)) c.rows.ends
