-- What the laws of activations and of missing bits give, as the assembling of entities asks for it.
use Rattle.std.proofs.Common.{◌+◌}
use Rattle.lh_flat_state_laws.specs.Padding.{PaddedRanges, reach}
use Rattle.lh_entity_laws.proofs.StandsForProcess.{ZerosReach}

pub reach-over : PaddedRanges → ZerosReach
reach-over ranges args xs now w = (reach args + 0, ranges args xs now 0 w)
