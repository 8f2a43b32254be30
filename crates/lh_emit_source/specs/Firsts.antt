-- The first results of steps to each part, by argument, lowest bit and extent; and the steps that lead to a value.
use Rattle.std.specs.Prelude.{◌≡◌, ℕ, List, [], ◌∷◌, ◌++◌, length, Bool, false, ◌&&◌, nat_eq, if◌then◌else◌, unwrap_or, Option, Some, None}
use Rattle.std.specs.HashMap.{HashMap, get}
use Rattle.lh_types.specs.Types.{TypeTree}
use Rattle.lh_types.specs.declared.op.Op.{Op}
use Rattle.lh_unit.specs.declared.inst.ValueId.{ValueId}
use Rattle.lh_term.specs.Same.{same_part}
use Rattle.lh_term.specs.Parts.{extent_of}
use Rattle.lh_term.specs.declared.part.Part.{Part}
use Rattle.lh_flat.specs.Below.{ValuesBelow}
use Rattle.lh_flat_parts.specs.Steps.{step_at, part_at}
use Rattle.lh_flat_parts.specs.Resolving.{StepsLeadAlong}
use Rattle.lh_flat_parts.specs.declared.step.PartStep.{PartStep}
use Rattle.lh_emit_source.specs.declared.origin.Origin.{Origin}

-- ---- first results

-- what is there is this part
abbrev pub is_the_part : Part → Option Part → Bool
is_the_part p None = false
is_the_part p (Some q) = same_part q p

-- the first of these values that is the part
abbrev pub first_result : List (Option Part) → List ValueId → Part → Option ValueId
first_result parts [] p = None
first_result parts (v ∷ more) p = if is_the_part p (part_at parts v.0) then Some v else first_result parts more p

abbrev pub same_key : ℕ × ℕ × ℕ → ℕ × ℕ × ℕ → Bool
same_key x y = (nat_eq x.0 y.0 && nat_eq x.1 y.1) && nat_eq x.2 y.2

-- what is kept at a key
abbrev pub kept_at : {S : Type 0} → HashMap (ℕ × ℕ × ℕ) (List ValueId) S → ℕ × ℕ × ℕ → List ValueId
kept_at firsts k = unwrap_or (get same_key firsts k) []

-- argument, lowest bit and extent
abbrev pub key_of : Part → ℕ × ℕ × ℕ
key_of p = (p.arg, p.lo, extent_of p.ty)

abbrev pub kept_for : {S : Type 0} → HashMap (ℕ × ℕ × ℕ) (List ValueId) S → Part → List ValueId
kept_for firsts p = kept_at firsts (key_of p)

-- what is kept are values, and the first one of each part is the first of these results
pub record KeepsFirsts {S : Type 0} (parts : List (Option Part)) (results : List ValueId) (firsts : HashMap (ℕ × ℕ × ℕ) (List ValueId) S) : Type 0 where
  pub within : (k : ℕ × ℕ × ℕ) → ValuesBelow (length parts) (kept_at firsts k)
  pub first : (p : Part) → first_result parts (kept_for firsts p) p ≡ first_result parts results p

-- one more value at a key
pub record AddsAt {S : Type 0} (key : ℕ × ℕ × ℕ) (v : ValueId) (old new : HashMap (ℕ × ℕ × ℕ) (List ValueId) S) : Type 0 where
  pub kept : (k : ℕ × ℕ × ℕ) → kept_at new k ≡ (if same_key key k then kept_at old key ++ v ∷ [] else kept_at old k)

-- what is kept are values
abbrev pub KeepValues : {S : Type 0} → ℕ → HashMap (ℕ × ℕ × ℕ) (List ValueId) S → Type 0
KeepValues n firsts = (k : ℕ × ℕ × ℕ) → ValuesBelow n (kept_at firsts k)

-- one more result is kept
abbrev pub KeepsOneMore : {S : Type 0} → List (Option Part) → ValueId → (old new : HashMap (ℕ × ℕ × ℕ) (List ValueId) S) → Type 0
KeepsOneMore parts v old new = (results : List ValueId) → KeepsFirsts parts results old → KeepsFirsts parts (results ++ v ∷ []) new

-- The first results of steps to each part are kept.
abbrev pub AreFirsts : Origin → Type 0
AreFirsts o = KeepsFirsts o.parts.now.parts.items o.parts.now.steps.results.items o.firsts

-- ---- steps

-- the operation of a step and the type of its part, if there is a step
abbrev pub step_texts : Option PartStep → List (Op × TypeTree)
step_texts None = []
step_texts (Some s) = (s.op, s.ty) ∷ []

-- those of the steps of these values, the last one first
abbrev pub texts_along : List (Option PartStep) → List ValueId → List (Op × TypeTree)
texts_along steps [] = []
texts_along steps (v ∷ more) = texts_along steps more ++ step_texts (step_at steps v.0)

-- the values on the way back along steps from a value, which ends where there is no step
pub record IsWayBack (steps : List (Option PartStep)) (from : ℕ) (way : List ValueId) : Type 0 where
  pub end : ℕ
  pub within : ValuesBelow (length steps) way
  pub leads : StepsLeadAlong steps from way end
  pub stops : step_at steps end ≡ None

-- the operations and types of the steps that lead to a value
abbrev pub IsRouteTo : List (Option PartStep) → ℕ → List (Op × TypeTree) → Type 0
IsRouteTo steps v texts = (way : List ValueId) × IsWayBack steps v way × (texts ≡ texts_along steps way)
