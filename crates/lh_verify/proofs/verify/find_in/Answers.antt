use Rattle.std.proofs.Common.{subst}
use Rattle.lh_verify.specs.Verifying.{ItemBegun}
use Rattle.lh_verify.proofs.ModuleFaults.{few-found}
use Rattle.lh_verify.proofs.verify.find_in.Goals as goal

pub first_fault-requires-clause-begun : goal.first_fault-requires-clause-begun
first_fault-requires-clause-begun c = subst (ItemBegun c.args.m.now) c.in-Unit.is c.requires.begun

pub fault_of-requires : goal.fault_of-requires
fault_of-requires c = few-found c.args.m.now c.in-Unit.unit c.in_ok-found-in-Unit.found c.in_ok-found-in-Unit.ensures.found
