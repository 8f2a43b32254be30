-- What the values of an entity hold without any probe, for all its instances at once: parts as if each argument and `sig` began at bit 0.
use Rattle.std.specs.Prelude.{◌≡◌, ℕ, ◌+◌, ◌≤◌, List, [], ◌∷◌, length, Option, Some, slice_index_or, slice_set}
use Rattle.std.specs.Option.{option_map}
use Rattle.lh_types.specs.Types.{bit_count}
use Rattle.lh_types.specs.declared.part.Range.{Range}
use Rattle.lh_unit.specs.Held.{Held, datum_held, cell_held, part_held, Env}
use Rattle.lh_unit.specs.Hierarchy.{type_or_void}
use Rattle.lh_unit.specs.Table.{Table, line_at}
use Rattle.lh_unit.specs.Arena.{Arena, unit_text_at}
use Rattle.lh_unit.specs.declared.inst.Arg.{Arg}
use Rattle.lh_unit.specs.declared.inst.InstId.{InstId}
use Rattle.lh_unit.specs.declared.inst.ValueId.{ValueId}
use Rattle.lh_unit.specs.declared.inst.Inst.{Inst}
use Rattle.lh_unit.specs.declared.inst.Inst.TheVariants as inst
use Rattle.lh_unit.specs.declared.inst.Typed.{Typed}
use Rattle.lh_eval.specs.Holding.{Holds}
use Rattle.lh_eval.specs.Fitting.{Fits}
use Rattle.lh_elab_plan.specs.declared.statics.Base.{Base}
use Rattle.lh_elab_plan.specs.declared.statics.Base.TheVariants as base
use Rattle.lh_elab_plan.specs.declared.statics.Statics.{Statics}

-- what is held by the ids of values, and of what each part is a part
pub record StaticsById : Type 0 where
  pub slots : List (Option Held)
  pub bases : List Base

abbrev pub by_of : Statics → StaticsById
by_of s = record { slots = s.slots; bases = s.bases.items }

-- each value has a base
abbrev pub HasSlots : Statics → Type 0
HasSlots s = length s.bases.items ≡ length s.slots

-- with this held by a value
abbrev pub held_by : StaticsById → ValueId → Base → Held → StaticsById
held_by s v b h = record { slots = slice_set s.slots v.0 (Some h); bases = slice_set s.bases v.0 b }

-- with what an instruction gives held by its result, where both are there
abbrev pub given_by : StaticsById → Option ValueId → Base → Option Held → StaticsById
given_by s (Some v) b (Some h) = held_by s v b h
given_by s _ b _ = s

-- so many bits from bit 0 on
abbrev pub from_zero : ℕ → Held
from_zero len = part_held (record { lo = 0; len = len })

-- the arguments, the first of which has this number
abbrev pub args_begun : ℕ → List Arg → StaticsById → StaticsById
args_begun k [] s = s
args_begun k (x ∷ more) s = args_begun (k + 1) more (held_by s x.value (base.Arg k) (from_zero (bit_count x.ty)))

-- the result of an instruction; a `sig` takes the next number
abbrev pub sig_begun : Inst → Option ValueId → ℕ → StaticsById → (ℕ → StaticsById → StaticsById) → StaticsById
sig_begun (inst.Sig t) r k s others = others (k + 1) (given_by s r (base.Sig k) (Some (from_zero (bit_count (type_or_void t.ty)))))
sig_begun _ r k s others = others k s

-- the signals of these instructions, the first of which has this number
abbrev pub sigs_begun : Table → ℕ → List InstId → StaticsById → StaticsById
sigs_begun t k [] s = s
sigs_begun t k (i ∷ more) s = sig_begun (line_at t i.0).inst (line_at t i.0).result k s (λ j x. sigs_begun t j more x)

-- of what the first operand is a part
abbrev pub base_of : List Base → List Typed → Base
base_of bases [] = base.Arg 0
base_of bases (o ∷ more) = slice_index_or bases o.value.0 (base.Arg 0)

-- no bits
abbrev pub no_range : Range
no_range = record { lo = 0; len = 0 }

-- the lowest bit of an argument or a `sig` of an instance
abbrev pub base_lo : (args sigs : List Range) → Base → ℕ
base_lo args sigs (base.Arg k) = (slice_index_or args k no_range).lo
base_lo args sigs (base.Sig k) = (slice_index_or sigs k no_range).lo

-- what is held in an instance: a part lies above the lowest bit of its argument or `sig`
abbrev pub moved : (args sigs : List Range) → Base → Held → Held
moved args sigs b (datum_held d) = datum_held d
moved args sigs b (cell_held d) = cell_held d
moved args sigs b (part_held r) = part_held (record { lo = base_lo args sigs b + r.lo; len = r.len })

-- the same of each value
abbrev pub moved_slots : (args sigs : List Range) → List Base → List (Option Held) → List (Option Held)
moved_slots args sigs (b ∷ bs) (h ∷ hs) = option_map (moved args sigs b) h ∷ moved_slots args sigs bs hs
moved_slots args sigs _ _ = []

-- In an instance whose arguments and signals have these bits, what is held is what is held under the names.
pub record StaticsFollow (a : Arena) (u : ℕ) (args sigs : List Range) (s : StaticsById) (e : Env) : Type 0 where
  pub long : length s.bases ≡ length s.slots
  pub holds : Holds a u (moved_slots args sigs s.bases s.slots) e

-- each part that is held begins at most at this bit of its argument or `sig`
abbrev pub IsSmall : Env → Type 0
IsSmall e = (n : List ℕ) (r : Range) → e n ≡ Some (part_held r) → r.lo ≤ 65536

-- what is held is held under names whose types it fits
pub record FitsSomething (a : Arena) (u : ℕ) (s : Statics) : Type 0 where
  pub held : Env
  pub holds : Holds a u s.slots held
  pub fits : Fits (unit_text_at a u) 65536 held
  pub small : IsSmall held
