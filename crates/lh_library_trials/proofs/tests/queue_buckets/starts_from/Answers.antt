use Rattle.std.proofs.Common.{◌∙◌, sym}
use Rattle.lh_queue.proofs.KeptWishes.{sooner_due}
use Rattle.lh_library_trials.proofs.tests.queue_buckets.starts_from.Goals as goal

pub returns-in-Some : goal.returns-in-Some
returns-in-Some c = λ h. sooner_due c.args.at c.in-Some.due c.args.queue.now.held (sym c.is_upto.ensures ∙ h) c.in-Some.ensures.least.1
