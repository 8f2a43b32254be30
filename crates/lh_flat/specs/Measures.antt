-- What is counted of copies of units, over the graph of calls: how deep they nest, how many instructions and blocks they have.
use Rattle.std.specs.Prelude.{max}
use Rattle.lh_unit_graph.specs.Measures.{Measuring}
use Rattle.lh_unit_graph.specs.declared.fault.DescentFault.{DescentFault}
use Rattle.lh_unit_graph.specs.declared.fault.DescentFault.TheVariants as descent
use Rattle.lh_flat.specs.declared.fault.FlatFault.{FlatFault}
use Rattle.lh_flat.specs.declared.fault.FlatFault.TheVariants as fault
use Rattle.lh_flat.specs.declared.calls.CallNode.{CallNode}
use Rattle.lh_flat.specs.declared.measure.CallMeasure.{CallMeasure}
use Rattle.lh_flat.specs.Graph.{no_node, counted}

-- no copy
abbrev pub nothing : CallMeasure
nothing = record { depth = 0; insts = 0; blocks = 0 }

-- copies, and others beside them
abbrev pub beside : CallMeasure → CallMeasure → CallMeasure
beside m n = record { depth = max m.depth n.depth; insts = counted m.insts n.insts; blocks = counted m.blocks n.blocks }

-- a copy of a unit that has these in it
abbrev pub around : CallMeasure → CallNode → CallMeasure
around m n = record { depth = counted 1 m.depth; insts = counted n.insts m.insts; blocks = counted n.blocks m.blocks }

-- so the search of the calls measures
abbrev pub measuring : Measuring CallNode CallMeasure
measuring = record { none = no_node; targets = λ n. n.callees; nothing = nothing; beside = beside; around = around }

-- a fault of the search
abbrev pub fault_of : DescentFault → FlatFault
fault_of (descent.Cycle f) = fault.RecursiveCall f
fault_of descent.OutOfMemory = fault.OutOfMemory
