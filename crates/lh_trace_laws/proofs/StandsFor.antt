-- Under which conditions an entity may stand for a process: where it gives the same on all values, at every edge, or once.
use Rattle.std.proofs.Common.{◌≡◌, ℕ, List, [], Bool, true, false, Option, Some, None}
use Rattle.std.specs.List.{list_any}
use Rattle.lh_time.specs.declared.Instant.{Instant}
use Rattle.lh_types.specs.Wish.{Wish, no_wish}
use Rattle.lh_types.specs.declared.part.Range.{Range}
use Rattle.lh_unit.specs.declared.inst.UnitKind.TheVariants as kind
use Rattle.lh_unit.specs.Contents.{UnitText}
use Rattle.lh_unit.specs.Held.{Env}
use Rattle.lh_unit.specs.Activation.{Scene, waits, halted, ProcessState, Activated, activate}
use Rattle.lh_unit.specs.Hierarchy.{Instance}
use Rattle.lh_unit.specs.Pass.{pass, probes}
use Rattle.lh_unit.specs.World.{bit_numbers, bit_differs, Rules, begun}
use Rattle.lh_trace_laws.proofs.BitSets.{SameSet, IsWithin, bits_read}

abbrev pub scene : Rules → (now : List Bool) → Instant → Scene
scene r now t = record { functions = r.functions; now = now; at = t }

-- a process before its first activation
abbrev pub fresh : UnitText → Instance → ProcessState
fresh x i = begun x i.args

-- a process that waits without time
abbrev pub waiting_at : (block to : List ℕ) → (on : List Range) → Env → ProcessState
waiting_at block to on e = record { stand = waits block to on None; held = e }

-- An activation that ends at a `wait` with this target, without time, on these bits. It gives this wish and no outcome, and what is held then has the property of the block of that `wait`.
pub record EndsAt (holds : (block : List ℕ) → Env → Type 0) (to : List ℕ) (on : List ℕ) (wish : Wish) (done : Option Activated) : Type 0 where
  pub block : List ℕ
  pub held : Env
  pub parts : List Range
  pub known : holds block held
  pub same_parts : SameSet (bit_numbers parts) on
  pub is : done ≡ Some (record { state = waiting_at block to parts held; wish = wish; outcomes = [] })

-- the bits that an entity senses
abbrev pub sensed : UnitText → Instance → List ℕ
sensed y i = bit_numbers (probes y i.args i.sigs)

-- The entity senses what the process waits for, and its pass gives on all values the wish that the process's activation gives, from whichever `wait` it begins.
-- `holds block e` says that the process may hold this where it waits in the block.
pub record CombFor (r : Rules) (x y : UnitText) (i : Instance) : Type 1 where
  pub is_process : x.kind ≡ kind.Proc
  pub is_entity : y.kind ≡ kind.Entity
  pub to : List ℕ
  pub holds : (block : List ℕ) → Env → Type 0
  pub first : (now : List Bool) (t : Instant) (memory : Option (List Bool)) →
      EndsAt holds to (sensed y i) (pass y i.args i.sigs now memory t).wish (activate r.bound (scene r now t) x (fresh x i))
  pub later : (now : List Bool) (t : Instant) (memory : Option (List Bool)) (block : List ℕ) (e : Env) (on : List Range) → holds block e →
      EndsAt holds to (sensed y i) (pass y i.args i.sigs now memory t).wish (activate r.bound (scene r now t) x (waiting_at block to on e))

-- Where one of the triggers' bits changes, the entity's registers give the wish that the process gives with the bits of its last activation, `past`, and the present ones;
-- at no other run do they give anything.
-- `stands past block e` says that the process holds in this block what an activation at `past` leaves; `remembers bits memory` says that the entity has this memory after a
-- run at which the triggers' bits are these. A trigger that can never fire may have any value in the memory.
pub record EdgeFor (r : Rules) (x y : UnitText) (i : Instance) : Type 1 where
  pub is_process : x.kind ≡ kind.Proc
  pub is_entity : y.kind ≡ kind.Entity
  pub to : List ℕ
  pub on : List ℕ
  pub triggers : List ℕ
  pub rows : (past now : List Bool) → Instant → Wish
  pub stands : (past : List Bool) → (block : List ℕ) → Env → Type 0
  pub remembers : (bits memory : List Bool) → Type 0
  -- the process
  pub first : (now : List Bool) (t : Instant) → EndsAt (stands now) to on no_wish (activate r.bound (scene r now t) x (fresh x i))
  pub later : (past now : List Bool) (t : Instant) (block : List ℕ) (e : Env) (parts : List Range) → stands past block e →
      EndsAt (stands now) to on (rows past now t) (activate r.bound (scene r now t) x (waiting_at block to parts e))
  -- the triggers
  pub waited : IsWithin triggers on
  pub probed : IsWithin triggers (sensed y i)
  pub rows_rest : (past now : List Bool) (t : Instant) → list_any (bit_differs past now) triggers ≡ false → rows past now t ≡ no_wish
  -- the entity
  pub keeps : (now : List Bool) (t : Instant) (memory : Option (List Bool)) → remembers (bits_read now triggers) (pass y i.args i.sigs now memory t).seen
  pub first_rests : (now : List Bool) (t : Instant) → (pass y i.args i.sigs now None t).wish ≡ no_wish
  pub fires : (past now memory : List Bool) (t : Instant) → remembers (bits_read past triggers) memory → list_any (bit_differs past now) triggers ≡ true →
      (pass y i.args i.sigs now (Some memory) t).wish ≡ rows past now t
  pub rests : (past now memory : List Bool) (t : Instant) → remembers (bits_read past triggers) memory → list_any (bit_differs past now) triggers ≡ false →
      (pass y i.args i.sigs now (Some memory) t).wish ≡ no_wish

-- An activation that ends at `halt`. It gives this wish and no outcome.
pub record Halts (wish : Wish) (done : Option Activated) : Type 0 where
  pub held : Env
  pub is : done ≡ Some (record { state = record { stand = halted; held = held }; wish = wish; outcomes = [] })

-- The process halts in its one activation, the entity senses nothing, and its one pass gives the wish of that activation, whatever the signals are.
pub record OnceFor (r : Rules) (x y : UnitText) (i : Instance) : Type 0 where
  pub is_process : x.kind ≡ kind.Proc
  pub is_entity : y.kind ≡ kind.Entity
  pub probes_nothing : sensed y i ≡ []
  pub once : (now : List Bool) (t : Instant) → Halts (pass y i.args i.sigs now None t).wish (activate r.bound (scene r now t) x (fresh x i))
