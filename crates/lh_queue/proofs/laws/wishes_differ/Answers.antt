use Rattle.lh_queue.proofs.KeptWishes.{different_apart, sooner_due}
use Rattle.lh_queue.proofs.laws.wishes_differ.Goals as goal

pub returns : goal.returns
returns c = record { apart = different_apart; due = sooner_due }
