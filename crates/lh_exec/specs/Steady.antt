-- Nothing goes wrong in an activation: what each instruction looks for is there and fits, so that no default is ever met.
use Rattle.std.specs.Prelude.{◌≡◌, ◌⊎◌, ℕ, ◌<◌, ◌≤◌, List, [], ◌∷◌, length, Bool, true, false, Some, IsSome}
use Rattle.std.specs.Option.{option_and_then}
use Rattle.lh_time.specs.declared.Instant.{Instant}
use Rattle.lh_types.specs.Types.{TypeTree}
use Rattle.lh_types.specs.declared.part.Range.{Range}
use Rattle.lh_unit_names.specs.declared.name.UnitName.{UnitName}
use Rattle.lh_unit.specs.Contents.{OperandText, InstText, const_text, pure_text, var_text, ld_text, st_text, sig_text, prb_text, drv_text, reg_text, child_text, call_text, phi_text, br_text, branch_text, wait_text, halt_text, ret_text, LineText}
use Rattle.lh_unit.specs.Named.{function_named}
use Rattle.lh_unit_names.specs.UnitNames.{is_assert}
use Rattle.lh_unit.specs.Held.{datum_at, cell_at, data_at, parts_at, test_at}
use Rattle.lh_unit.specs.Effects.{operated, probed, driven}
use Rattle.lh_unit.specs.Activation.{Scene, halted, Caller, Point, Control, ProcessState, goes, no_step, step, asserted, called, entered, chosen, waiting, wake_at, given_back, control_at, start_point, max_calls}
use Rattle.lh_unit.specs.Arena.{Arena, IsArena, unit_count, kind_at, contents, unit_text_at}
use Rattle.lh_unit.specs.WellFormed.{IsWellFormed}
use Rattle.lh_unit.specs.declared.inst.UnitKind.TheVariants as kind
use Rattle.lh_eval.specs.Fitting.{Fits}
use Rattle.lh_eval_laws.specs.Ranges.{RangesFit, arg_types}
use Rattle.lh_exec.specs.declared.state.ProcState.{ProcState}
use Rattle.lh_exec.specs.Standing.{scene_of}
use Rattle.lh_exec.specs.States.{StandsForState, ProcStateFits}

-- An instruction finds what it looks for: its operands, the block to which it leads with the values of its `phi`, the function that it calls, and what it ends. Those of entities do not come.
abbrev pub FindsOperands : Scene → Point → InstText → Type 0
FindsOperands s p (const_text d) = Unit {0}
FindsOperands s p (pure_text o args) = IsSome (operated p.control.unit p.control.held o args)
FindsOperands s p (var_text a) = IsSome (datum_at p.control.held a.value)
FindsOperands s p (ld_text a) = IsSome (cell_at p.control.held a.value)
FindsOperands s p (st_text to value) = IsSome (cell_at p.control.held to.value) × IsSome (datum_at p.control.held value)
FindsOperands s p (prb_text a) = IsSome (probed s.now p.control.held a)
FindsOperands s p (drv_text to value after cond) = IsSome (driven s.at p.control.held p.wish to value after cond)
FindsOperands s p (call_text f ty args) =
    ((is_assert f ≡ true) × IsSome (asserted p.control.held args)) ⊎ ((is_assert f ≡ false) × IsSome (called (function_named f s.functions) (data_at p.control.held args)))
FindsOperands s p (phi_text ty edges) = Unit {0}
FindsOperands s p (br_text to) = IsSome (entered p.control.unit p.control.held p.control.block to)
FindsOperands s p (branch_text cond first second) = IsSome (option_and_then (entered p.control.unit p.control.held p.control.block) (chosen (test_at p.control.held cond) first second))
FindsOperands s p (wait_text to after signals) = (p.callers ≡ []) × IsSome (waiting p.control.block to (parts_at p.control.held signals) (wake_at s.at p.control.held after))
FindsOperands s p halt_text = p.callers ≡ []
FindsOperands s p (ret_text o) = (c : Caller) × (more : List Caller) × (p.callers ≡ c ∷ more) × IsSome (given_back p.control.held o c)
FindsOperands s p (sig_text a) = ⊥
FindsOperands s p (reg_text to triggers) = ⊥
FindsOperands s p (child_text v inputs outputs) = ⊥

-- an instruction comes next, and it finds what it looks for
abbrev pub FindsFirst : Scene → Point → List LineText → Type 0
FindsFirst s p [] = ⊥
FindsFirst s p (l ∷ rest) = FindsOperands s p l.inst

-- a call of a function comes next
abbrev pub CallsFirst : List LineText → Type 0
CallsFirst [] = ⊥
CallsFirst (l ∷ rest) = (f : UnitName) × (ty : TypeTree) × (args : List OperandText) × (l.inst ≡ call_text f ty args) × (is_assert f ≡ false)

-- A point of an activation where nothing goes wrong: what is held fits the types of its names, the next instruction finds what it looks for, and nothing but a call of a
-- function stops it, where as many as may be are open.
pub record IsSteady (s : Scene) (width : ℕ) (p : Point) : Type 0 where
  pub fits : Fits p.control.unit width p.control.held
  pub finds : FindsFirst s p p.control.rest
  pub stops : step s p ≡ no_step → CallsFirst p.control.rest × (max_calls ≤ length p.callers)

-- executed instructions lead from one point to another, by the points after each of them
abbrev pub InstructionsLead : Scene → Point → List Point → Point → Type 0
InstructionsLead s p [] q = p ≡ q
InstructionsLead s p (x ∷ more) q = (step s p ≡ goes x) × InstructionsLead s x more q

-- an activation of the process u of the module begins in this state, with arguments and signals that fit
pub record BeginsActivation (a : Arena) (u : ℕ) (args : List Range) (width : ℕ) (s : ProcState) (p : ProcessState) : Type 0 where
  pub arena : IsArena a
  pub within : u < unit_count a
  pub process : kind_at a u ≡ Some kind.Proc
  pub formed : IsWellFormed (contents a)
  pub ranges : RangesFit width args (arg_types (unit_text_at a u).args)
  pub fits : ProcStateFits a u width s
  pub stands : StandsForState a u args s p

-- Each activation has a place to begin, but that of a process that has halted.
abbrev pub ActivationsBegin : Type 0
ActivationsBegin = (a : Arena) (u : ℕ) (args : List Range) (width : ℕ) (s : ProcState) (p : ProcessState) → BeginsActivation a u args width s p → (p.stand ≡ halted → ⊥)
    → IsSome (control_at (unit_text_at a u) p)

-- At each point that it reaches nothing goes wrong, whatever the bits of the signals and the instant are.
abbrev pub ActivationsAreSteady : Type 0
ActivationsAreSteady = (a : Arena) (u : ℕ) (args : List Range) (now : List Bool) (t : Instant) (s : ProcState) (p : ProcessState) → BeginsActivation a u args (length now) s p → (c : Control)
    → control_at (unit_text_at a u) p ≡ Some c → (points : List Point) (q : Point)
    → InstructionsLead (scene_of a now t) (start_point c) points q → IsSteady (scene_of a now t) (length now) q
