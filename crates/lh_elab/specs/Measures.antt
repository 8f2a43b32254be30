-- What is counted of instances, over a graph of units: how deep they nest, how many there are, how many bits they have.
use Rattle.std.specs.Prelude.{ℕ, ◌+◌, min, max}
use Rattle.lh_unit_graph.specs.Measures.{Measuring}
use Rattle.lh_unit_graph.specs.declared.fault.DescentFault.{DescentFault}
use Rattle.lh_unit_graph.specs.declared.fault.DescentFault.TheVariants as descent
use Rattle.lh_elab.specs.declared.fault.ElabFault.{ElabFault}
use Rattle.lh_elab.specs.declared.fault.ElabFault.TheVariants as fault
use Rattle.lh_elab.specs.declared.graph.HierarchyNode.{HierarchyNode}
use Rattle.lh_elab.specs.declared.measure.HierarchyMeasure.{HierarchyMeasure}
use Rattle.lh_elab.specs.Graph.{no_node, max_counted}

-- the numbers saturate here, at one more than is allowed
abbrev pub depth_end : ℕ
depth_end = 65

abbrev pub instances_end : ℕ
instances_end = 65537

-- no instance
abbrev pub nothing : HierarchyMeasure
nothing = record { depth = 0; instances = 0; bits = 0 }

-- instances, and others beside them
abbrev pub beside : HierarchyMeasure → HierarchyMeasure → HierarchyMeasure
beside m n = record { depth = max m.depth n.depth; instances = min (m.instances + n.instances) instances_end; bits = min (m.bits + n.bits) max_counted }

-- an instance of a unit that has these in it
abbrev pub around : HierarchyMeasure → HierarchyNode → HierarchyMeasure
around m n = record { depth = min (1 + m.depth) depth_end; instances = min (1 + m.instances) instances_end; bits = min (n.bits + m.bits) max_counted }

-- so the search of the instances measures
abbrev pub measuring : Measuring HierarchyNode HierarchyMeasure
measuring = record { none = no_node; targets = λ n. n.targets; nothing = nothing; beside = beside; around = around }

-- a fault of the search
abbrev pub fault_of : DescentFault → ElabFault
fault_of (descent.Cycle u) = fault.InstCycle u
fault_of descent.OutOfMemory = fault.OutOfMemory
