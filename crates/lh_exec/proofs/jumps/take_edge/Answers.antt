use Rattle.std.proofs.Common.{length, sym}
use Rattle.lh_exec.proofs.Lists.{edge-in-each}
use Rattle.lh_exec.proofs.jumps.take_edge.Goals as goal

pub datum_in-requires : goal.datum_in-requires
datum_in-requires c = edge-in-each (length c.args.frame.now.slots) c.args.frame.now.block c.args.edges.now c.in-Some.value c.requires.edges (sym c.in-Some.ensures)
