use Rattle.std.proofs.Common.{take}
use Rattle.lh_emit_source.specs.Firsts.{KeepsFirsts}
use Rattle.lh_emit_source.proofs.origin.firsts_among.Given as goal

abbrev pub invariant-loop-value : goal.invariant-loop-value
invariant-loop-value l = KeepsFirsts l.parts.parts.items (take l.value-index l.results) l.firsts
