-- The blocks to which an instruction may lead, as a list.
use Rattle.std.specs.Prelude.{List, [], ◌∷◌}
use Rattle.lh_unit.specs.declared.inst.BlockId.{BlockId}
use Rattle.lh_verify_operands.specs.declared.successors.Successors.{Successors}
use Rattle.lh_verify_operands.specs.declared.successors.Successors.TheVariants.{Nowhere, To, Either}

abbrev pub led_to : Successors → List BlockId
led_to Nowhere = []
led_to (To b) = b ∷ []
led_to (Either zero one) = zero ∷ one ∷ []
