use Rattle.lh_queue.proofs.KeptWishes.{later_within, later_names, later_apart}
use Rattle.lh_queue.proofs.laws.take_keeps.Goals as goal

pub returns : goal.returns
returns c = record { within = later_within; names = later_names; apart = later_apart }
