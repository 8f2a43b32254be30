use Rattle.std.proofs.Common.{sym, IsSome, subst, Option}
use Rattle.lh_queue.specs.declared.wish.Wish.{Wish}
use Rattle.lh_queue.proofs.Storage.{stored, wish_by, next_by, some_map}
use Rattle.lh_queue.proofs.queue.Queue.next_key.Goals as goal

pub index-requires : goal.index-requires
index-requires c =
    let s = stored _ _ _ c.args.self.now c.self.invariant c.self.view_is in
    let P : Option Wish → Type 0 = λ o. IsSome o in
    some_map _ (subst P (sym (wish_by c.self.inside.links c.args.self.now.held c.args.key s.linked (s.vacant c.args.key))) c.requires)

pub returns : goal.returns
returns c =
    let s = stored _ _ _ c.args.self.now c.self.invariant c.self.view_is in
    next_by c.self.inside.links c.args.self.now.held c.args.key _ s.linked c.requires c.index.ensures
