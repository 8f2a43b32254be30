-- The functions that a unit calls, how deep their calls nest, and whether one calls itself.
use Rattle.std.specs.Prelude.{ℕ, zero, suc, List, [], ◌∷◌, Bool, true, if◌then◌else◌, Option, None}
use Rattle.std.specs.List.{list_any}
use Rattle.std.specs.Option.{option_map_or}
use Rattle.lh_unit_names.specs.declared.name.UnitName.{UnitName}
use Rattle.lh_unit.specs.Contents.{InstText, call_text, LineText, UnitText}
use Rattle.lh_unit.specs.Named.{function_named}
use Rattle.lh_unit_names.specs.UnitNames.{is_assert}
use Rattle.lh_unit.specs.Hierarchy.{lines_of}
use Rattle.lh_unit.specs.Design.{is_one_of, first_some, cycle_at}

-- one more function, where the instruction calls one; `@llhd.assert` is none
abbrev pub callee_if : InstText → List UnitName → List UnitName
callee_if (call_text f result args) more = if is_assert f then more else f ∷ more
callee_if _ more = more

-- the functions that these lines call, in text order
abbrev pub callees_in : List LineText → List UnitName
callees_in [] = []
callees_in (l ∷ more) = callee_if l.inst (callees_in more)

-- the functions that a unit calls, in code that no path reaches too
abbrev pub callees : UnitText → List UnitName
callees u = callees_in (lines_of u.blocks)

-- those that the function of this name calls
abbrev pub callees_of : List UnitText → UnitName → List UnitName
callees_of functions f = option_map_or callees (function_named f functions) []

-- the target of the first of these calls, depth first, that names an open function; at most `steps` calls nest on the way
abbrev pub recursion_from : (steps : ℕ) → List UnitText → (opened calls : List UnitName) → Option UnitName
recursion_from zero functions opened calls = None
recursion_from (suc k) functions opened calls =
    first_some (λ f. cycle_at (λ g. recursion_from k functions (g ∷ opened) (callees_of functions g)) (is_one_of opened f) f) calls

-- more than `limit` calls nest, these counted
abbrev pub nest_deeper : (limit : ℕ) → List UnitText → (calls : List UnitName) → Bool
nest_deeper zero functions calls = list_any (λ f. true) calls
nest_deeper (suc k) functions calls = list_any (λ f. nest_deeper k functions (callees_of functions f)) calls
