use Rattle.std.proofs.Common.{◌≡◌, ◌∙◌, ap, sym, Some, None, option_map}
use Rattle.slab.specs.Slab.{get}
use Rattle.lh_queue.specs.declared.queue.Linked.{Linked}
use Rattle.lh_queue.proofs.Storage.{stored, wish_by}
use Rattle.lh_queue.proofs.queue.Queue.wish.Goals as goal

pub returns-in-Some : goal.returns-in-Some
returns-in-Some c =
    let s = stored _ _ _ c.args.self.now c.self.invariant c.self.view_is in
    let g : get c.self.inside.links c.args.key ≡ Some c.in-Some.linked.now = sym c.in-Some.ensures in
    ap (option_map (λ (l : Linked). l.wish)) (sym g) ∙ wish_by c.self.inside.links c.args.self.now.held c.args.key s.linked (s.vacant c.args.key)

pub returns-in-None : goal.returns-in-None
returns-in-None c =
    let s = stored _ _ _ c.args.self.now c.self.invariant c.self.view_is in
    let g : get c.self.inside.links c.args.key ≡ None = sym c.in-None.ensures in
    ap (option_map (λ (l : Linked). l.wish)) (sym g) ∙ wish_by c.self.inside.links c.args.self.now.held c.args.key s.linked (s.vacant c.args.key)
