use Rattle.lh_region_laws.proofs.Regions.{regions-are-alike, refusals-are-alike, targets-are-alike}
use Rattle.lh_region_laws.proofs.regions_alike.Goals as goal

pub returns : goal.returns
returns c = record { rows = regions-are-alike; refusals = refusals-are-alike; targets = targets-are-alike }
