use Rattle.std.proofs.Common.{◌≡◌, drop}
use Rattle.lh_region.specs.Targets.{ways_of}
use Rattle.lh_region.proofs.OneTarget.{all_alike, first_way}
use Rattle.lh_region.proofs.target.one_target.Given as goal

abbrev pub invariant-loop-end : goal.invariant-loop-end
invariant-loop-end l = all_alike l.target (first_way l.fn.rows.ends) (ways_of (drop l.end-index l.others)) ≡ all_alike l.target (first_way l.fn.rows.ends) (ways_of l.others)
