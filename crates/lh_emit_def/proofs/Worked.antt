-- The entities of small processes are as computed.
use Rattle.std.proofs.Common.{refl}
use Rattle.std.specs.Fmt.{digits}
use Rattle.lh_emit_def.specs.Worked.{FlipFlopEmits, SumEmits, ResetFlipFlopEmits, ConstantEmits, ConstantWaits, ThreeDrivesEmit, SetsEmits, SteppedEmits, WorkedEntities}

flip_flop_emits : FlipFlopEmits
unfolding digits
flip_flop_emits = refl

sum_emits : SumEmits
unfolding digits
sum_emits = refl

reset_flip_flop_emits : ResetFlipFlopEmits
unfolding digits
reset_flip_flop_emits = refl

constant_emits : ConstantEmits
unfolding digits
constant_emits = refl

constant_waits : ConstantWaits
unfolding digits
constant_waits = refl

three_drives_emit : ThreeDrivesEmit
unfolding digits
three_drives_emit = refl

sets_emits : SetsEmits
unfolding digits
sets_emits = refl

stepped_emits : SteppedEmits
unfolding digits
stepped_emits = refl

pub worked : WorkedEntities
worked = record {
  flip_flop_emits = flip_flop_emits;
  sum_emits = sum_emits;
  reset_flip_flop_emits = reset_flip_flop_emits;
  constant_emits = constant_emits;
  constant_waits = constant_waits;
  three_drives_emit = three_drives_emit;
  sets_emits = sets_emits;
  stepped_emits = stepped_emits;
}
