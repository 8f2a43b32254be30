use Rattle.lh_emit.proofs.TaskStacks.{pushed}
use Rattle.lh_emit.proofs.tasks.push.Goals as goal

pub returns : goal.returns
returns c = pushed c.push.new.self.items c.args.tasks.now.items c.args.task c.in_ok-push.ensures.items
