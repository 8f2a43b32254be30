-- Types by their numbers, which are their places in a list.
use Rattle.std.specs.Prelude.{◌≡◌, ℕ, List, length, Option, Some, option_map, slice_get}
use Rattle.std.specs.Option.{option_and_then}
use Rattle.lh_types.specs.Types.{TypeTree}
use Rattle.lh_unit.specs.Arena.{Arena, unit_count, args_at}
use Rattle.lh_unit.specs.declared.inst.Arg.{Arg}
use Rattle.lh_verify_values.specs.declared.numbers.Numbered.{Numbered}

-- each number still is that of its type
abbrev pub NumbersGrow : (old new : List TypeTree) → Type 0
NumbersGrow old new = (n : ℕ) (t : TypeTree) → slice_get old n ≡ Some t → slice_get new n ≡ Some t

-- the number of a type that may be absent
abbrev pub IsNumberOf : List TypeTree → Option ℕ → Option TypeTree → Type 0
IsNumberOf types n t = option_map (slice_get types) n ≡ option_map Some t

-- the number is that of the type beside it
abbrev pub IsNumbered : List TypeTree → Numbered → Type 0
IsNumbered types n = slice_get types n.number ≡ Some n.ty.now

-- the numbers of the types of these arguments
abbrev pub AreNumbersOf : List TypeTree → List Arg → List ℕ → Type 0
AreNumbersOf types args numbers = (k : ℕ) (a : Arg) → slice_get args k ≡ Some a → option_and_then (slice_get types) (slice_get numbers k) ≡ Some a.ty

-- by the ids of the units of a module, the numbers of the types of its arguments
pub record NumbersParams (types : List TypeTree) (a : Arena) (params : List (List ℕ)) : Type 0 where
  pub long : length params ≡ unit_count a
  pub numbers : (u : ℕ) (ns : List ℕ) → slice_get params u ≡ Some ns → AreNumbersOf types (args_at a u) ns
