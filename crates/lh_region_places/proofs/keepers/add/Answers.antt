use Rattle.std.proofs.Common.{◌∙◌}
use Rattle.lh_region_places.proofs.LastKeeper.{stays}
use Rattle.lh_region_places.proofs.keepers.add.Goals as goal

pub returns-clause-still : goal.returns-clause-still
returns-clause-still c = λ k h. c.in_ok-insert.ensures.updates.0 k ∙ stays _ _ h
