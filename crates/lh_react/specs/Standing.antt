-- What a run of an entity has come to, as the code keeps it and as a pass defines it.
use Rattle.std.specs.Prelude.{◌≡◌, ℕ, ◌+◌, List, [], ◌∷◌, length, map, Bool, Option, Some, None}
use Rattle.lh_time.specs.declared.Instant.{Instant}
use Rattle.lh_types.specs.Wish.{Wish}
use Rattle.lh_types.specs.declared.part.Range.{Range}
use Rattle.lh_unit.specs.Contents.{InstText, reg_text, LineText, UnitText}
use Rattle.lh_unit.specs.Held.{Held}
use Rattle.lh_unit.specs.Pass.{Passed, passes, pass_from}
use Rattle.lh_unit.specs.Hierarchy.{lines_of}
use Rattle.lh_unit.specs.Within.{Each}
use Rattle.lh_unit.specs.Arena.{Arena, naming, table_at, unit_text_at}
use Rattle.lh_unit.specs.ById.{inst_line_text}
use Rattle.lh_unit.specs.Naming.{inst_text, maybe_text}
use Rattle.lh_unit.specs.declared.inst.Inst.{Inst}
use Rattle.lh_unit.specs.declared.inst.InstId.{InstId}
use Rattle.lh_unit.specs.declared.inst.ValueId.{ValueId}
use Rattle.lh_eval.specs.Holding.{Holds, given}
use Rattle.lh_eval.specs.Wishing.{BitsWithin}
use Rattle.lh_eval.specs.Fitting.{Fits}
use Rattle.lh_eval.specs.WishOf.{writes_wish}
use Rattle.lh_eval.specs.Grouped.{IsGrouped}
use Rattle.lh_react.specs.declared.pass.PassRun.{PassRun}
use Rattle.lh_react.specs.declared.entity.EntAct.{EntAct}
use Rattle.lh_react.specs.State.{EntityState}
use Rattle.lh_react.specs.TriggerBits.{TriggersFit}

-- the text of an instruction of the unit u with its result
abbrev pub line_in : Arena → ℕ → InstId → LineText
line_in a u i = inst_line_text (naming a u) (table_at a u) i

-- the text of an instruction, the result of which has this name
abbrev pub named_line : Arena → ℕ → Option ValueId → Inst → LineText
named_line a u name i = record { result = maybe_text (naming a u) name; inst = inst_text (naming a u) i }

-- what a pass comes to by it
abbrev pub passed_by : Arena → ℕ → (now : List Bool) → (memory : Option (List Bool)) → Instant → Passed → Option ValueId → Inst → Passed
passed_by a u now memory t p name i = passes (unit_text_at a u) now memory t (inst_text (naming a u) i) (maybe_text (naming a u) name) p

-- what a pass comes to after these instructions
abbrev pub passed_all : Arena → ℕ → (now : List Bool) → (memory : Option (List Bool)) → Instant → Passed → List InstId → Passed
passed_all a u now memory t p is = pass_from (unit_text_at a u) now memory t p (map (line_in a u) is)

-- the code's run stands for what a pass has come to
pub record StandsForPass (a : Arena) (u : ℕ) (p : Passed) (r : PassRun) : Type 0 where
  pub holds : Holds a u r.slots p.held
  pub seen : r.seen ≡ p.seen
  pub wish : r.wishes ≡ p.wish

-- it stands for something in which what is held fits
pub record RunFits (a : Arena) (u : ℕ) (width : ℕ) (r : PassRun) : Type 0 where
  pub passed : Passed
  pub stands : StandsForPass a u passed r
  pub fits : Fits (unit_text_at a u) width passed.held

-- a run stands for something from which a pass comes to this after the rest
pub record ContinuesPass (a : Arena) (u : ℕ) (now : List Bool) (memory : Option (List Bool)) (t : Instant) (r : PassRun) (rest : List InstId) (to : Passed) : Type 0 where
  pub passed : Passed
  pub stands : StandsForPass a u passed r
  pub same : passed_all a u now memory t passed rest ≡ to

-- an instruction has given this, and nothing else has changed
pub record HasGiven (old : PassRun) (name : Option ValueId) (h : Option Held) (new : PassRun) : Type 0 where
  pub slots : new.slots ≡ given old.slots name h
  pub seen : new.seen ≡ old.seen
  pub wishes : new.wishes ≡ old.wishes

-- this is wished now, and nothing else has changed
pub record HasWished (old : PassRun) (w : Wish) (new : PassRun) : Type 0 where
  pub slots : new.slots ≡ old.slots
  pub seen : new.seen ≡ old.seen
  pub wishes : new.wishes ≡ w

-- how many triggers an instruction has
abbrev pub triggers_in : InstText → ℕ
triggers_in (reg_text to triggers) = length triggers
triggers_in _ = 0

-- how many the registers of these instructions have
abbrev pub trigger_count : List LineText → ℕ
trigger_count [] = 0
trigger_count (l ∷ more) = triggers_in l.inst + trigger_count more

-- a memory fits an entity where there is none yet, or one value for each trigger
abbrev pub MemoryFits : UnitText → Option (List Bool) → Type 0
MemoryFits u None = Unit {0}
MemoryFits u (Some values) = length values ≡ trigger_count (lines_of u.blocks)

-- so its memory does, and its triggers are those of the entity, whose arguments have these ranges
pub record EntityStateFits (u : UnitText) (args : List Range) (s : EntityState) : Type 0 where
  pub memory : MemoryFits u s.memory
  pub triggers : TriggersFit u args s.triggers

-- What a run of the unit u answers, whose arguments have these ranges, where the signals have so many bits: what the pass has seen is the next memory, and the next state fits; and
-- the writes have exactly the entries of its wish. Their instants strictly rise, none is empty and none names a bit twice, and each names only bits of the signals.
pub record Reacts (u : UnitText) (args : List Range) (width : ℕ) (p : Passed) (act : EntAct) : Type 0 where
  pub next : act.next.memory ≡ Some p.seen
  pub fits : EntityStateFits u args act.next
  pub wish : writes_wish act.wishes ≡ p.wish
  pub grouped : IsGrouped act.wishes
  pub within : Each (λ (d : Instant × List (ℕ × Bool)). BitsWithin width d.1) act.wishes
