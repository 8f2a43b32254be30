-- How a part is reached in a process without calls: the steps of the first `extf` or `exts` in text order whose result is the part.
use Rattle.std.specs.Prelude.{◌≡◌, ℕ, zero, suc, List, [], ◌∷◌, ◌++◌, length, if◌then◌else◌, unwrap_or, Option, Some, None}
use Rattle.std.specs.Option.{option_and_then, option_map}
use Rattle.lh_types.specs.declared.op.Op.{Op}
use Rattle.lh_unit.specs.Contents.{InstText, pure_text, LineText, UnitText}
use Rattle.lh_unit.specs.Hierarchy.{lines_of}
use Rattle.lh_unit.specs.Typing.{or_else, inst_giving}
use Rattle.lh_term.specs.Same.{same_part}
use Rattle.lh_term.specs.declared.part.Part.{Part}
use Rattle.lh_region_def.specs.Known.{argument_part}
use Rattle.lh_emit_def.specs.Emitted.{PartStep}
use Rattle.lh_emit_def.specs.Ways.{part_by}

-- a part, and the steps that lead to it from its argument
pub record Reached : Type 0 where
  pub part : Part
  pub steps : List PartStep

abbrev pub as_argument : UnitText → List ℕ → Option Reached
as_argument u n = option_map (λ p. record { part = p; steps = [] }) (argument_part n 0 u.args)

-- the part to which an operation leads from another
abbrev pub stepped_by : Op → Reached → Option Reached
stepped_by o r = option_map (λ p. record { part = p; steps = r.steps ++ record { op = o; to = p } ∷ [] }) (part_by r.part o)

-- the part that an instruction gives, by those of other names
abbrev pub further : (List ℕ → Option Reached) → Option InstText → Option Reached
further f (Some (pure_text o (x ∷ []))) = option_and_then (stepped_by o) (f x.value)
further f _ = None

-- the part of this name, where at most k steps lead to it from an argument
abbrev pub reached : (k : ℕ) → UnitText → List ℕ → Option Reached
reached zero u n = as_argument u n
reached (suc k) u n = or_else (as_argument u n) (further (reached k u) (inst_giving n u.blocks))

-- the steps, where it is this part
abbrev pub steps_if : Part → Option Reached → Option (List PartStep)
steps_if p None = None
steps_if p (Some r) = if same_part r.part p then Some r.steps else None

-- the steps of the first of these lines whose result is the part
abbrev pub first_steps : (List ℕ → Option Reached) → Part → List LineText → Option (List PartStep)
first_steps f p [] = None
first_steps f p (l ∷ more) = or_else (steps_if p (option_and_then f l.result)) (first_steps f p more)

-- The steps that lead to a part. No more of them than there are lines lead to any part.
abbrev pub steps_in : UnitText → Part → List PartStep
steps_in u p = unwrap_or (first_steps (reached (length (lines_of u.blocks)) u) p (lines_of u.blocks)) []

-- some number of steps leads to this part under the name
pub record IsReachedPartOf (u : UnitText) (n : List ℕ) (p : Part) : Type 0 where
  pub count : ℕ
  pub way : Reached
  pub is_reached : reached count u n ≡ Some way
  pub is_part : way.part ≡ p
