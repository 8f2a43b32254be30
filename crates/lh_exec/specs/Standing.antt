-- What an activation has come to, as the code keeps it and as the definition has it.
use Rattle.std.specs.Prelude.{◌≡◌, ◌<◌, List, [], ◌∷◌, map, drop, reverse, Bool, true, false, Option, Some, None, Result, IfOk}
use Rattle.std.specs.Option.{option_map}
use Rattle.lh_time.specs.declared.Instant.{Instant}
use Rattle.lh_time.specs.Due.{due_of}
use Rattle.lh_types.specs.declared.memory.NoMemory.{NoMemory}
use Rattle.lh_types.specs.declared.part.Range.{Range}
use Rattle.lh_unit.specs.Contents.{UnitText}
use Rattle.lh_unit.specs.Activation.{Scene, Stand, waits, halted, Control, Caller, Point, Activated, Next, goes, ends, no_step, functions}
use Rattle.lh_unit.specs.Held.{Held, datum_held, front}
use Rattle.lh_unit.specs.Hierarchy.{if_held}
use Rattle.lh_unit.specs.Table.{HasBlocks, is_block}
use Rattle.lh_unit.specs.Arena.{Arena, IsArena, naming, table_at, kind_at, blocks_at, block_insts_at, unit_count, label_count, label_name_at, unit_text_at, contents}
use Rattle.lh_unit.specs.ById.{inst_line_text}
use Rattle.lh_unit.specs.Naming.{maybe_text}
use Rattle.lh_unit.specs.declared.inst.ValueId.{ValueId}
use Rattle.lh_unit.specs.declared.inst.Typed.{Typed}
use Rattle.lh_eval.specs.Holding.{Holds, MaybeIn, datum_in, part_in, test_in, delay_in}
use Rattle.lh_exec.specs.declared.machine.UnitFrame.{UnitFrame}
use Rattle.lh_exec.specs.declared.machine.Call.{Call}
use Rattle.lh_exec.specs.declared.machine.Machine.{Machine}
use Rattle.lh_exec.specs.declared.machine.Flow.{Flow}
use Rattle.lh_exec.specs.declared.machine.Flow.TheVariants as flow

-- what an activation sees of a module
abbrev pub scene_of : Arena → (now : List Bool) → Instant → Scene
scene_of a now t = record { functions = functions (contents a); now = now; at = t }

-- A frame stands for a place of control: it is in a block of a function or a process, so many instructions of which are executed, and holds the same.
pub record FrameIs (a : Arena) (f : UnitFrame) (c : Control) : Type 0 where
  pub within : f.unit.0 < unit_count a
  pub has_blocks : HasBlocks (kind_at a f.unit.0)
  pub label : f.block.0 < label_count a f.unit.0
  pub stands : is_block (blocks_at a f.unit.0) f.block.0 ≡ true
  pub unit : c.unit ≡ unit_text_at a f.unit.0
  pub block : c.block ≡ label_name_at a f.unit.0 f.block.0
  pub rest : c.rest ≡ map (inst_line_text (naming a f.unit.0) (table_at a f.unit.0)) (drop f.next (block_insts_at a f.unit.0 f.block.0))
  pub held : Holds a f.unit.0 f.slots c.held

-- an open call stands for one
pub record CallIs (a : Arena) (c : Call) (d : Caller) : Type 0 where
  pub frame : FrameIs a c.frame d.control
  pub within : MaybeIn c.frame.slots c.result
  pub result : d.result ≡ maybe_text (naming a c.frame.unit.0) c.result

-- one by one, the last one first
abbrev pub CallsAre : Arena → List Call → List Caller → Type 0
CallsAre a [] [] = Unit {0}
CallsAre a (c ∷ cs) (d ∷ ds) = CallIs a c d × CallsAre a cs ds
CallsAre a _ _ = ⊥

-- The machine stands for a point of an activation.
pub record MachineIs (a : Arena) (m : Machine) (p : Point) : Type 0 where
  pub arena : IsArena a
  pub frame : FrameIs a m.frame p.control
  pub callers : CallsAre a (reverse m.callers.items) p.callers
  pub wish : m.wishes ≡ p.wish
  pub outcomes : m.outcomes ≡ p.outcomes

-- The machine stands for some point.
pub record HasPoint (m : Machine) : Type 0 where
  pub arena : Arena
  pub point : Point
  pub is : MachineIs arena m point

-- the unit v of the machine's frame stands in this way when the activation ends
pub record Ends (a : Arena) (m : Machine) (v : UnitText) (at : Stand) (done : Activated) : Type 0 where
  pub within : m.frame.unit.0 < unit_count a
  pub label : m.frame.block.0 < label_count a m.frame.unit.0
  pub unit : v ≡ unit_text_at a m.frame.unit.0
  pub stand : done.state.stand ≡ at
  pub held : Holds a m.frame.unit.0 m.frame.slots done.state.held
  pub wish : m.wishes ≡ done.wish
  pub outcomes : m.outcomes ≡ done.outcomes

-- What the code answers, and the machine after it, are what an instruction of the unit v leads to.
abbrev pub InstLeads : Arena → Machine → Flow → UnitText → Next → Type 0
InstLeads a m flow.Goes v (goes q) = MachineIs a m q
InstLeads a m (flow.Waits to on) v (ends done) =
    (to.0 < label_count a m.frame.unit.0) × Ends a m v (waits (label_name_at a m.frame.unit.0 m.frame.block.0) (label_name_at a m.frame.unit.0 to.0) on.parts on.wake) done
InstLeads a m flow.Halts v (ends done) = Ends a m v halted done
InstLeads a m flow.Lost v no_step = Unit {0}
InstLeads a m _ v _ = ⊥

-- at every point for which the machine stands
abbrev pub Does : Result Flow NoMemory → Arena → (old new : Machine) → (Point → Next) → Type 0
Does r a old new f = (p : Point) → MachineIs a old p → IfOk r (λ fl. InstLeads a new fl p.control.unit (f p))

-- a frame, where there is one, stands for a place of control
abbrev pub MaybeFrame : Arena → Option UnitFrame → Option Control → Type 0
MaybeFrame a None None = Unit {0}
MaybeFrame a (Some f) (Some c) = FrameIs a f c
MaybeFrame a _ _ = ⊥

-- whether the one argument of an assertion is not 0
abbrev pub asserted_in : List (Option Held) → List Typed → Option Bool
asserted_in slots (o ∷ []) = test_in slots o.value
asserted_in slots _ = None

-- what a `ret` gives: nothing, or the value of its operand
abbrev pub returned_in : List (Option Held) → Option Typed → Option (Option Held)
returned_in slots None = Some None
returned_in slots (Some o) = option_map (λ d. Some (datum_held d)) (datum_in slots o.value)

-- the last open call goes on with this held under the name of its result
abbrev pub back : Point → Option Held → List Caller → Next
back p h [] = no_step
back p h (c ∷ more) = goes (record p { control = record c.control { held = if_held c.control.held c.result h }; callers = more })

-- the parts that values hold, where each holds one
abbrev pub parts_in : List (Option Held) → List ValueId → Option (List Range)
parts_in slots [] = Some []
parts_in slots (v ∷ more) = front (part_in slots v) (parts_in slots more)

-- when a `wait` wakes by itself
abbrev pub wake_in : Instant → List (Option Held) → Option ValueId → Option (Option Instant)
wake_in t slots None = Some None
wake_in t slots (Some v) = option_map (due_of t) (delay_in slots v)

-- an instruction comes next
abbrev pub goes_on : Flow → Bool
goes_on flow.Goes = true
goes_on _ = false
