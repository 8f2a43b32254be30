use Rattle.lh_flat_state_laws.specs.Lasting.{Lasting}
use Rattle.lh_entity_laws.proofs.StandsForProcess.{each-comb}
use Rattle.lh_entity_laws.proofs.Instances.{reach-over}
use Rattle.lh_entity_laws.proofs.laws.comb_stands_for.Goals as goal

pub returns : goal.returns
returns c =
    each-comb Lasting c.begins_law.ensures c.acts_law.ensures c.bits_law.ensures c.parts_law.ensures c.activations_law.ensures (reach-over c.ranges_law.ensures) c.formed_law.ensures
    c.merged_drives_law.ensures.wish
