use Rattle.std.proofs.Common.{◌≡◌, ◌++◌, false, drop}
use Rattle.lh_unit.specs.Arena.{table_at}
use Rattle.lh_verify.specs.Spots.{spots_in}
use Rattle.lh_verify.proofs.spots.put_insts.Given as goal

abbrev pub invariant-loop-k : goal.invariant-loop-k
invariant-loop-k l = l.list ++ spots_in (table_at l.m l.unit.0) l.in_entry l.block l.after_other (drop l.k l.insts) ≡ l.initial.list
    ++ spots_in (table_at l.m l.unit.0) l.in_entry l.block false l.insts
