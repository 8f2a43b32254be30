use Rattle.lh_verify_laws.proofs.PartsLaw.{parts_are_there, parts_have_ranges}
use Rattle.lh_verify_laws.proofs.WithinLaw.{parts_lie_within}
use Rattle.lh_verify_laws.proofs.part_law.Goals as goal

pub returns : goal.returns
returns c = record { there = parts_are_there; ranges = parts_have_ranges; within = parts_lie_within }
