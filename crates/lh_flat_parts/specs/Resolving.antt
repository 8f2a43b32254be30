-- How the table is made: steps by their results, arguments by their values, and parts by going back along steps to an argument.
use Rattle.std.specs.Prelude.{◌≡◌, ℕ, ◌+◌, ◌^◌, ◌<◌, List, [], ◌∷◌, length, Bool, true, false, ◌||◌, ◌⊎◌, nat_eq, Option, Some, None, slice_set, slice_index_or}
use Rattle.std.specs.Option.{option_and_then, option_map}
use Rattle.std.specs.List.{list_any}
use Rattle.lh_types.specs.Types.{IsData}
use Rattle.lh_types.specs.declared.part.Range.{Range}
use Rattle.lh_unit.specs.Typing.{carried}
use Rattle.lh_unit.specs.declared.inst.ValueId.{ValueId}
use Rattle.lh_unit.specs.declared.inst.Arg.{Arg}
use Rattle.lh_term.specs.declared.part.Part.{Part}
use Rattle.lh_flat.specs.declared.flat.FlatInst.{FlatInst}
use Rattle.lh_flat_parts.specs.declared.step.PartStep.{PartStep}
use Rattle.lh_flat_parts.specs.Steps.{step_in, range_by, stepped, IsFound, step_at, part_at}
use Rattle.lh_term.specs.Parts.{whole_argument}

-- ---- steps and arguments

-- with this step of the value, if both are there
abbrev pub with_step : List (Option PartStep) → Option ValueId → Option PartStep → List (Option PartStep)
with_step steps (Some v) (Some s) = slice_set steps v.0 (Some s)
with_step steps _ _ = steps

-- with the steps of these instructions, one after the other
abbrev pub with_steps : List (Option PartStep) → List FlatInst → List (Option PartStep)
with_steps steps [] = steps
with_steps steps (l ∷ more) = with_steps (with_step steps l.result (step_in l.inst)) more

-- with this part of the value, if it is there
abbrev pub with_part : List (Option Part) → ℕ → Option Part → List (Option Part)
with_part parts v (Some p) = slice_set parts v (Some p)
with_part parts v None = parts

-- with the arguments from argument k on
abbrev pub with_args : List (Option Part) → (k : ℕ) → List Arg → List (Option Part)
with_args parts k [] = parts
with_args parts k (a ∷ more) = with_args (with_part parts a.value.0 (option_map (whole_argument k) (carried a.ty))) (k + 1) more

-- each step leads to a part of a data type
abbrev pub StepsCarry : List (Option PartStep) → Type 0
StepsCarry steps = (v : ℕ) (s : PartStep) → step_at steps v ≡ Some s → IsData s.ty

-- each part is the whole of an argument of a data type
abbrev pub PartsCarry : List (Option Part) → Type 0
PartsCarry parts = (v : ℕ) (p : Part) → part_at parts v ≡ Some p → IsData p.ty × (p.lo ≡ 0)

-- ---- parts

-- the part to which the step of a value leads from the part of another
abbrev pub part_by_step : List (Option Part) → Option PartStep → Option Part
part_by_step parts None = None
part_by_step parts (Some s) = option_and_then (λ p. stepped p s) (part_at parts s.from.0)

-- each of these values has the part to which its step leads, the last one first
abbrev pub settled : List (Option PartStep) → List (Option Part) → (way : List ValueId) → List (Option Part)
settled steps parts [] = parts
settled steps parts (v ∷ more) = let rest = settled steps parts more in slice_set rest v.0 (part_by_step rest (step_at steps v.0))

abbrev pub is_met : List Bool → ℕ → Bool
is_met met v = slice_index_or met v false

-- the value from which a step comes, if there is a step and its result was not met
abbrev pub comes_from : Option PartStep → (met : Bool) → Option ValueId
comes_from s true = None
comes_from s false = option_map (λ (p : PartStep). p.from) s

-- the value is one of these
abbrev pub is_on : List ValueId → ℕ → Bool
is_on way v = list_any (λ (w : ValueId). nat_eq w.0 v) way

-- steps and parts are of as many values, and each step comes from one of these
pub record StepsAreInPlace (steps : List (Option PartStep)) (parts : List (Option Part)) : Type 0 where
  pub long : length parts ≡ length steps
  pub within : (v : ℕ) (s : PartStep) → step_at steps v ≡ Some s → s.from.0 < length steps

-- where a step leads from a part, the part is of a data type and the bits that the step takes have a number
abbrev pub StepsFrom : Option Part → PartStep → Type 0
StepsFrom None s = Unit {0}
StepsFrom (Some p) s = IsData p.ty × ((r : Range) → range_by p.ty s.op ≡ Some r → p.lo + r.lo < 2 ^ 32)

-- each step can be taken from the part that is found for the value from which it comes
abbrev pub CanStep : List (Option PartStep) → (base : List (Option Part)) → Type 0
CanStep steps base = (v : ℕ) (s : PartStep) (p : Part) → step_at steps v ≡ Some s → IsFound (step_at steps) (part_at base) s.from.0 p → StepsFrom (Some p) s

-- each part is found by steps from an argument
abbrev pub AreFound : List (Option PartStep) → (base parts : List (Option Part)) → Type 0
AreFound steps base parts = (v : ℕ) (p : Part) → part_at parts v ≡ Some p → IsFound (step_at steps) (part_at base) v p

-- from each part that is there, each step can be taken
pub record Steppable (steps : List (Option PartStep)) (parts : List (Option Part)) : Type 0 where
  pub base : List (Option Part)
  pub can_step : CanStep steps base
  pub found : AreFound steps base parts

-- steps lead from a value along these to another
abbrev pub StepsLeadAlong : List (Option PartStep) → (from : ℕ) → (way : List ValueId) → (to : ℕ) → Type 0
StepsLeadAlong steps v [] x = v ≡ x
StepsLeadAlong steps v (w ∷ more) x = (w.0 ≡ v) × ((s : PartStep) × (step_at steps v ≡ Some s) × StepsLeadAlong steps s.from.0 more x)

-- each is new: neither met before nor one of those after it
abbrev pub AreNew : List Bool → List ValueId → Type 0
AreNew met [] = Unit {0}
AreNew met (w ∷ more) = (is_met met w.0 ≡ false) × (is_on more w.0 ≡ false) × AreNew met more

-- no step gives an argument
abbrev pub AreSteps : List (Option PartStep) → (base : List (Option Part)) → Type 0
AreSteps steps base = (v : ℕ) (s : PartStep) → step_at steps v ≡ Some s → part_at base v ≡ None

-- the way back from a value, which ends where there is no step or one that was met
pub record GoesBack (steps : List (Option PartStep)) (old : List Bool) (from : ℕ) (new : List Bool) (way : List ValueId) : Type 0 where
  pub end : ℕ
  pub leads : StepsLeadAlong steps from way end
  pub new_ones : AreNew old way
  pub met : (v : ℕ) → is_met new v ≡ (is_met old v || is_on way v)
  pub stops : (step_at steps end ≡ None) ⊎ (is_met new end ≡ true)
  pub long : length new ≡ length old

-- each value has the part to which its step leads from the part of another, and without a step what it had
pub record IsResolved (steps : List (Option PartStep)) (base parts : List (Option Part)) : Type 0 where
  pub long : length parts ≡ length steps
  pub stepped : (v : ℕ) (s : PartStep) → v < length steps → step_at steps v ≡ Some s → part_at parts v ≡ part_by_step parts (Some s)
  pub others : (v : ℕ) → step_at steps v ≡ None → part_at parts v ≡ part_at base v
  pub found : AreFound steps base parts

-- what is right once the steps of some values were followed, and no way is open
pub record StepsAreSettled (steps : List (Option PartStep)) (base parts : List (Option Part)) (met : List Bool) : Type 0 where
  pub long : length parts ≡ length steps
  pub long_met : length met ≡ length steps
  pub closed : (v : ℕ) (s : PartStep) → step_at steps v ≡ Some s → is_met met v ≡ true → (step_at steps s.from.0 ≡ None) ⊎ (is_met met s.from.0 ≡ true)
  pub stepped : (v : ℕ) (s : PartStep) → step_at steps v ≡ Some s → is_met met v ≡ true → part_at parts v ≡ part_by_step parts (Some s)
  pub unmet : (v : ℕ) (s : PartStep) → step_at steps v ≡ Some s → is_met met v ≡ false → part_at parts v ≡ None
  pub others : (v : ℕ) → step_at steps v ≡ None → part_at parts v ≡ part_at base v
  pub found : AreFound steps base parts

-- the steps of a value are followed
abbrev pub StepsAreFollowed : List (Option PartStep) → (v : ℕ) → (old_parts new_parts : List (Option Part)) → (old_met new_met : List Bool) → Type 0
StepsAreFollowed steps v ps qs ms ns = (base : List (Option Part)) → StepsAreSettled steps base ps ms → StepsAreSettled steps base qs ns × ((step_at steps v ≡ None) ⊎ (is_met ns v ≡ true))
    × ((u : ℕ) → is_met ms u ≡ true → is_met ns u ≡ true)
