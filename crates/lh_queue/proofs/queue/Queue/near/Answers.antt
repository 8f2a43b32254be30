use Rattle.std.proofs.Common.{◌∙◌, sym}
use Rattle.lh_queue.proofs.WishPlaces.{near_behind}
use Rattle.lh_queue.proofs.queue.Queue.near.Goals as goal

pub returns-then-is_near : goal.returns-then-is_near
returns-then-is_near c = near_behind c.args.self.now.held c.args.w.now c.in-Some.key c.requires.order (sym c.is_near.ensures ∙ c.if-is_near.true)
