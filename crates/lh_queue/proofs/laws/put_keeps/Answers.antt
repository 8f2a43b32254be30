use Rattle.lh_queue.proofs.KeptWishes.{more_within, more_names, more_apart, more_due}
use Rattle.lh_queue.proofs.laws.put_keeps.Goals as goal

pub returns : goal.returns
returns c = record { within = more_within; names = more_names; apart = more_apart; due = more_due }
