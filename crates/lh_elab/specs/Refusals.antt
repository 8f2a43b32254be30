-- The refusals of a top unit of a module, with units by their ids.
use Rattle.std.specs.Prelude.{◌≡◌, ℕ, ◌+◌, ◌<◌, min, nat_lt, sum_by, List, Option, Some, None, Result, Ok, Err, if◌then◌else◌, ◌⊎◌}
use Rattle.lh_types.specs.Types.{bit_count}
use Rattle.lh_unit.specs.Arena.{Arena, contents, unit_count, unit_name_at, unit_text_at}
use Rattle.lh_unit.specs.Hierarchy.{hierarchies, hierarchy_of}
use Rattle.lh_unit.specs.Design.{Refusal, top_is_function, inst_cycle, too_deep, too_many_instances, too_many_bits, refusal_of, arg_bits, bits_below, max_nesting}
use Rattle.lh_unit.specs.declared.inst.Arg.{Arg}
use Rattle.lh_unit_graph.specs.Measures.{Measures}
use Rattle.lh_unit_graph.specs.declared.fault.DescentFault.{DescentFault}
use Rattle.lh_unit_graph.specs.declared.fault.DescentFault.TheVariants as descent
use Rattle.lh_elab.specs.declared.fault.ElabFault.{ElabFault}
use Rattle.lh_elab.specs.declared.fault.ElabFault.TheVariants as fault
use Rattle.lh_elab.specs.declared.measure.HierarchyMeasure.{HierarchyMeasure}
use Rattle.lh_elab.specs.declared.graph.HierarchyNode.{HierarchyNode}
use Rattle.lh_elab.specs.Graph.{max_counted, IsGraph}
use Rattle.lh_elab.specs.Measures.{measuring}

-- the bits of arguments
abbrev pub arg_bits_of : List Arg → ℕ
arg_bits_of args = sum_by (λ (x : Arg). bit_count x.ty) args

-- the first limit that is passed; where none is, how many bits there are
abbrev pub limited : HierarchyMeasure → (arg_bits : ℕ) → Result ℕ ElabFault
limited m b =
    if nat_lt 64 m.depth then Err fault.TooDeep
    else (if nat_lt 65536 m.instances then Err fault.TooManyInstances
    else (if nat_lt 16777216 (min (b + m.bits) max_counted) then Err fault.TooManyBits
    else Ok (min (b + m.bits) max_counted)))

-- a refusal as the definition has it, with the unit's name; none when memory runs out
abbrev pub refusal_text : Arena → ElabFault → Option Refusal
refusal_text a fault.TopIsFunction = Some top_is_function
refusal_text a (fault.InstCycle v) = Some (inst_cycle (unit_name_at a v.0))
refusal_text a fault.TooDeep = Some too_deep
refusal_text a fault.TooManyInstances = Some too_many_instances
refusal_text a fault.TooManyBits = Some too_many_bits
refusal_text a fault.OutOfMemory = None

-- the unit that a refusal names is one of the module
abbrev pub FaultWithin : Arena → ElabFault → Type 0
FaultWithin a (fault.InstCycle v) = v.0 < unit_count a
FaultWithin a _ = Unit {0}

-- the first refusal of the unit `top`, if there is one
abbrev pub refusal_at : Arena → (top : ℕ) → Option Refusal
refusal_at a top = refusal_of (hierarchies (contents a)) (unit_name_at a top) (hierarchy_of (unit_text_at a top))

-- how many bits the signals of a design of the unit `top` have
abbrev pub bits_at : Arena → (top : ℕ) → ℕ
bits_at a top = arg_bits (unit_text_at a top).args + bits_below max_nesting (hierarchies (contents a)) (unit_name_at a top)

-- The answer is the first refusal of the definition; where there is none, how many bits the signals have.
abbrev pub Refuses : Arena → (top : ℕ) → Result ℕ ElabFault → Type 0
Refuses a top (Ok bits) = (refusal_at a top ≡ None) × (bits_at a top ≡ bits)
Refuses a top (Err fault.OutOfMemory) = Unit {0}
Refuses a top (Err e) = refusal_at a top ≡ refusal_text a e

-- the measure of the unit `top` in the graph of the module
abbrev pub MeasuresIn : Arena → (top : ℕ) → Result HierarchyMeasure DescentFault → Type 0
MeasuresIn a top r = ((g : List HierarchyNode) × IsGraph a g × Measures measuring g top r) ⊎ (r ≡ Err descent.OutOfMemory)
