-- The units of a module as a graph, by their ids: the bits of a unit's signals, and the units that it instantiates.
use Rattle.std.specs.Prelude.{◌≡◌, ℕ, ◌+◌, ◌<◌, min, List, [], ◌∷◌, ◌++◌, length, Option, Some, slice_index_or}
use Rattle.lh_types.specs.Types.{bit_count}
use Rattle.lh_unit.specs.Hierarchy.{type_or_void}
use Rattle.lh_unit.specs.Table.{Table, line_at, insts_at}
use Rattle.lh_unit.specs.Arena.{Arena, table_at, kind_at, unit_count}
use Rattle.lh_unit.specs.declared.inst.UnitId.{UnitId}
use Rattle.lh_unit.specs.declared.inst.InstId.{InstId}
use Rattle.lh_unit.specs.declared.inst.UnitKind.{UnitKind}
use Rattle.lh_unit.specs.declared.inst.UnitKind.TheVariants as kind
use Rattle.lh_unit.specs.declared.inst.Inst.{Inst}
use Rattle.lh_unit.specs.declared.inst.Inst.TheVariants as inst
use Rattle.lh_elab.specs.declared.graph.HierarchyNode.{HierarchyNode}

-- a number of bits saturates here, at one more than a design may have
abbrev pub max_counted : ℕ
max_counted = 16777217

-- a unit without signals and instances
abbrev pub no_node : HierarchyNode
no_node = record { bits = 0; targets = [] }

-- one more instruction: a `sig` adds the bits of its type, and an `inst` its unit
abbrev pub node_after : HierarchyNode → Inst → HierarchyNode
node_after n (inst.Sig t) = record { bits = min (n.bits + bit_count (type_or_void t.ty)) max_counted; targets = n.targets }
node_after n (inst.Child u inputs outputs) = record { bits = n.bits; targets = n.targets ++ u ∷ [] }
node_after n _ = n

-- these instructions, one after the other
abbrev pub node_from : Table → HierarchyNode → List InstId → HierarchyNode
node_from t n [] = n
node_from t n (i ∷ more) = node_from t (node_after n (line_at t i.0).inst) more

-- only an entity has signals and instances
abbrev pub node_by : Option UnitKind → Table → HierarchyNode
node_by (Some kind.Entity) t = node_from t no_node (insts_at t 0)
node_by _ t = no_node

-- what is counted of the unit u
abbrev pub node_of : Arena → ℕ → HierarchyNode
node_of a u = node_by (kind_at a u) (table_at a u)

-- the unit u of a graph
abbrev pub node_at : List HierarchyNode → ℕ → HierarchyNode
node_at g u = slice_index_or g u no_node

-- the units that the unit u instantiates
abbrev pub targets_at : List HierarchyNode → ℕ → List UnitId
targets_at g u = (node_at g u).targets

-- the graph of a module
pub record IsGraph (a : Arena) (g : List HierarchyNode) : Type 0 where
  pub long : length g ≡ unit_count a
  pub nodes : (u : ℕ) → u < unit_count a → node_at g u ≡ node_of a u
