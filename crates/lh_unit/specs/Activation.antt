-- Functions and processes: executing one instruction, and an activation.
use Rattle.std.specs.Prelude.{◌≡◌, ◌<◌, ℕ, zero, suc, nat_lt, List, [], ◌∷◌, ◌++◌, length, map, Bool, true, false, if◌then◌else◌, Option, Some, None}
use Rattle.std.specs.Option.{option_and_then, option_map}
use Rattle.lh_time.specs.declared.Instant.{Instant}
use Rattle.lh_time.specs.Due.{due_of}
use Rattle.lh_types.specs.Values.{Datum}
use Rattle.lh_types.specs.Wish.{Wish, no_wish}
use Rattle.lh_types.specs.declared.part.Range.{Range}
use Rattle.lh_unit.specs.Contents.{OperandText, EdgeText, InstText, const_text, pure_text, var_text, ld_text, st_text, sig_text, prb_text, drv_text, reg_text, child_text, call_text, phi_text, br_text, branch_text, wait_text, halt_text, ret_text, LineText, BlockText, UnitText, ItemText, unit_text, declare_text}
use Rattle.lh_unit_names.specs.Names.{same_name}
use Rattle.lh_unit.specs.Named.{block_of, function_named, is_function, label_or}
use Rattle.lh_unit_names.specs.UnitNames.{is_assert}
use Rattle.lh_unit.specs.Held.{Held, datum_held, cell_held, Env, nothing_held, with_held, with_result, with_args, data_at, datum_at, delay_at, cell_at, parts_at, test_at}
use Rattle.lh_unit.specs.Effects.{operated, probed, driven}

-- what an activation sees: the functions of the module, the bits of all signals, and the instant
pub record Scene : Type 0 where
  pub functions : List UnitText
  pub now : List Bool
  pub at : Instant

-- where a process stands between its activations: new, at the `wait` of a block, or halted
pub data Stand : Type 0 where
  is_new : Stand
  waits : (block to : List ℕ) → (on : List Range) → (wake : Option Instant) → Stand
  halted : Stand

-- a process between its activations; it keeps every value that it was given
pub record ProcessState : Type 0 where
  pub stand : Stand
  pub held : Env

-- a unit in execution: the block, the instructions of it that are still to come, and what is held
pub record Control : Type 0 where
  pub unit : UnitText
  pub block : List ℕ
  pub rest : List LineText
  pub held : Env

-- an open call: where it goes on, and the name of its result
pub record Caller : Type 0 where
  pub control : Control
  pub result : Option (List ℕ)

-- a point of an activation: the unit in execution, the open calls with the last one first, and what the activation has given so far
pub record Point : Type 0 where
  pub control : Control
  pub callers : List Caller
  pub wish : Wish
  pub outcomes : List Bool

-- what an activation gives: the state that it leaves, its wish, and whether each assertion passed
pub record Activated : Type 0 where
  pub state : ProcessState
  pub wish : Wish
  pub outcomes : List Bool

-- what executing one instruction leads to: the next point, the end of the activation, or nothing where no instruction can be executed
pub data Next : Type 0 where
  goes : Point → Next
  ends : Activated → Next
  no_step : Next

-- the operand that a `phi` names for an edge from this block
abbrev pub edge_from : List ℕ → List EdgeText → Option (List ℕ)
edge_from block [] = None
edge_from block (e ∷ more) = if same_name e.block block then Some e.value else edge_from block more

-- the value under the result's name, where each is there
abbrev pub result_put : Option (List ℕ) → Option Datum → Option Env → Option Env
result_put n (Some v) (Some e) = Some (with_result e n (datum_held v))
result_put n _ _ = None

-- the value of one `phi` for the edge from a block; other instructions take none
abbrev pub phi_taken : (from : List ℕ) → (before : Env) → InstText → Option (List ℕ) → Option Env → Option Env
phi_taken from before (phi_text ty edges) result e = result_put result (option_and_then (datum_at before) (edge_from from edges)) e
phi_taken from before _ result e = e

-- The `phi` instructions of a block take their values together, from what was held before the block, by the edge that was taken.
abbrev pub phis_taken : (from : List ℕ) → (before : Env) → List LineText → Option Env
phis_taken from before [] = Some before
phis_taken from before (l ∷ more) = phi_taken from before l.inst l.result (phis_taken from before more)

-- the edge from one block of a unit to another
abbrev pub entered : UnitText → Env → (from to : List ℕ) → Option Control
entered u e from to =
    option_and_then (λ b. option_map (λ e'. record { unit = u; block = to; rest = b.lines; held = e' }) (phis_taken from e b.lines)) (block_of to u.blocks)

-- the first of these blocks
abbrev pub at_first : UnitText → Env → List BlockText → Option Control
at_first u e [] = None
at_first u e (b ∷ more) = Some (record { unit = u; block = label_or b.label; rest = b.lines; held = e })

-- the entry block of a unit
abbrev pub entry : UnitText → Env → Option Control
entry u e = at_first u e u.blocks

-- at most this many calls are open at any time
abbrev pub max_calls : ℕ
max_calls = 256

-- the point goes on with this held under the result's name
abbrev pub gives : Point → Option (List ℕ) → Option Held → Next
gives p result None = no_step
gives p result (Some h) = goes (record p { control = record p.control { held = with_result p.control.held result h } })

-- the point goes on in another place of control
abbrev pub jumps : Point → Option Control → Next
jumps p None = no_step
jumps p (Some c) = goes (record p { control = c })

-- the point goes on with this wish
abbrev pub wishes : Point → Option Wish → Next
wishes p None = no_step
wishes p (Some w) = goes (record p { wish = w })

-- the point goes on with one more outcome
abbrev pub tells : Point → Option Bool → Next
tells p None = no_step
tells p (Some passed) = goes (record p { outcomes = p.outcomes ++ passed ∷ [] })

-- stores a value in the variable of this name
abbrev pub stores : Point → List ℕ → Option Datum → Option Datum → Next
stores p n (Some old) (Some v) = goes (record p { control = record p.control { held = with_held p.control.held n (cell_held v) } })
stores p n _ _ = no_step

-- opens a call, unless as many as may be are open
abbrev pub opens : Point → Option (List ℕ) → Option Control → Next
opens p result None = no_step
opens p result (Some c) =
    if nat_lt (length p.callers) max_calls
    then goes (record p { control = c; callers = record { control = p.control; result = result } ∷ p.callers })
    else no_step

-- whether the one argument of an assertion is not 0
abbrev pub asserted : Env → List OperandText → Option Bool
asserted e (a ∷ []) = test_at e a.value
asserted e _ = None

-- a function on these arguments
abbrev pub called : Option UnitText → Option (List Datum) → Option Control
called (Some f) (Some args) = entry f (with_args nothing_held f.args (map datum_held args))
called _ _ = None

-- what a caller holds after a `ret`: the value that is given stands under the name of the call's result
abbrev pub given_back : Env → Option OperandText → Caller → Option Env
given_back e None c = Some c.control.held
given_back e (Some a) c = option_map (λ v. with_result c.control.held c.result (datum_held v)) (datum_at e a.value)

-- the caller goes on with this held
abbrev pub goes_back : Point → Caller → List Caller → Option Env → Next
goes_back p c more None = no_step
goes_back p c more (Some e) = goes (record p { control = record c.control { held = e }; callers = more })

-- ends the last open call
abbrev pub returns : Point → Option OperandText → List Caller → Next
returns p o [] = no_step
returns p o (c ∷ more) = goes_back p c more (given_back p.control.held o c)

-- the label that a condition chooses: the first where it is 0
abbrev pub chosen : Option Bool → (first second : List ℕ) → Option (List ℕ)
chosen None first second = None
chosen (Some false) first second = Some first
chosen (Some true) first second = Some second

-- ends the activation, where no call is open
abbrev pub ends_at : Point → List Caller → Option Stand → Next
ends_at p [] (Some stand) = ends (record { state = record { stand = stand; held = p.control.held }; wish = p.wish; outcomes = p.outcomes })
ends_at p _ _ = no_step

-- the wake time of a `wait`: none where it has no time, or where the time is never due
abbrev pub wake_at : Instant → Env → Option (List ℕ) → Option (Option Instant)
wake_at t e None = Some None
wake_at t e (Some d) = option_map (due_of t) (delay_at e d)

-- waiting at a block for its target, where the parts and the time are there
abbrev pub waiting : (block to : List ℕ) → Option (List Range) → Option (Option Instant) → Option Stand
waiting block to (Some on) (Some wake) = Some (waits block to on wake)
waiting block to _ _ = None

-- Executing one instruction: a case for each. The point is already past it.
abbrev pub executes : Scene → InstText → Option (List ℕ) → Point → Next
executes s (const_text d) result p = gives p result (Some (datum_held d))
executes s (pure_text o args) result p = gives p result (operated p.control.unit p.control.held o args)
executes s (var_text a) result p = gives p result (option_map cell_held (datum_at p.control.held a.value))
executes s (ld_text a) result p = gives p result (option_map datum_held (cell_at p.control.held a.value))
executes s (st_text to value) result p = stores p to.value (cell_at p.control.held to.value) (datum_at p.control.held value)
executes s (prb_text a) result p = gives p result (probed s.now p.control.held a)
executes s (drv_text to value after cond) result p = wishes p (driven s.at p.control.held p.wish to value after cond)
executes s (call_text f ty args) result p =
    if is_assert f then tells p (asserted p.control.held args) else opens p result (called (function_named f s.functions) (data_at p.control.held args))
executes s (phi_text ty edges) result p = goes p
executes s (br_text to) result p = jumps p (entered p.control.unit p.control.held p.control.block to)
executes s (branch_text cond first second) result p =
    jumps p (option_and_then (entered p.control.unit p.control.held p.control.block) (chosen (test_at p.control.held cond) first second))
executes s (wait_text to after signals) result p =
    ends_at p p.callers (waiting p.control.block to (parts_at p.control.held signals) (wake_at s.at p.control.held after))
executes s halt_text result p = ends_at p p.callers (Some halted)
executes s (ret_text o) result p = returns p o p.callers
executes s (sig_text a) result p = no_step
executes s (reg_text to triggers) result p = no_step
executes s (child_text u inputs outputs) result p = no_step

-- executing the first of the instructions that are still to come
abbrev pub steps_by : Scene → Point → List LineText → Next
steps_by s p [] = no_step
steps_by s p (l ∷ rest) = executes s l.inst l.result (record p { control = record p.control { rest = rest } })

-- executing the instruction that comes next
abbrev pub step : Scene → Point → Next
step s p = steps_by s p p.control.rest

-- A list of executed instructions leads from a point to the end of the activation. The list names the points after each instruction but the last.
abbrev pub LeadsTo : Scene → Point → List Point → Activated → Type 0
LeadsTo s p [] done = step s p ≡ ends done
LeadsTo s p (q ∷ more) done = (step s p ≡ goes q) × LeadsTo s q more done

-- where a process begins an activation: in its entry block, or on the edge from the block of its `wait`
abbrev pub control_from : UnitText → Env → Stand → Option Control
control_from u e is_new = entry u e
control_from u e (waits block to on wake) = entered u e block to
control_from u e halted = None

-- where the next activation of a process begins
abbrev pub control_at : UnitText → ProcessState → Option Control
control_at u p = control_from u p.held p.stand

-- the point at which an activation begins
abbrev pub start_point : Control → Point
start_point c = record { control = c; callers = []; wish = no_wish; outcomes = [] }

-- The definition of an activation: at most `bound` executed instructions that end in `wait` or `halt`.
pub record IsActivation (bound : ℕ) (s : Scene) (u : UnitText) (p : ProcessState) (done : Activated) : Type 0 where
  pub control : Control
  pub begins : control_at u p ≡ Some control
  pub points : List Point
  pub within : length points < bound
  pub leads : LeadsTo s (start_point control) points done

-- The same, computed: none where there is no activation.
abbrev pub went : Next → (Point → Option Activated) → Option Activated
went (goes p) more = more p
went (ends done) more = Some done
went no_step more = None

-- the end to which at most this many executed instructions lead
abbrev pub run : ℕ → Scene → Point → Option Activated
run zero s p = None
run (suc n) s p = went (step s p) (run n s)

-- the activation of a process, where there is one
unfoldable pub activate : (bound : ℕ) → Scene → UnitText → ProcessState → Option Activated
activate bound s u p = option_and_then (λ c. run bound s (start_point c)) (control_at u p)

-- the functions of a module
abbrev pub functions : List ItemText → List UnitText
functions [] = []
functions (declare_text d ∷ more) = functions more
functions (unit_text u ∷ more) = if is_function u.kind then u ∷ functions more else functions more
