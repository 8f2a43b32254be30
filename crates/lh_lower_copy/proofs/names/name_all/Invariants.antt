use Rattle.std.proofs.Common.{[], slice_index_or}
use Rattle.lh_lower_copy.specs.Named.{NamesValues}
use Rattle.lh_lower_copy.proofs.names.name_all.Given as goal

abbrev pub invariant-loop-name : goal.invariant-loop-name
invariant-loop-name l = NamesValues l.fn.m l.m l.unit.0 l.name-index (λ v. slice_index_or l.names v [])
