use Rattle.std.proofs.Common.{sym, ◌∙◌}
use Rattle.lh_queue.proofs.WishPlaces.{goes_alone, goes_first, is_behind, starts_at_first}
use Rattle.lh_queue.proofs.queue.Queue.place.Goals as goal

pub near-near-requires-clause-starts : goal.near-near-requires-clause-starts
near-near-requires-clause-starts c =
    let e = c.first_from-k.ensures in
    let s = starts_at_first c.args.w.now.due.fs c.in-Some.first c.args.self.now.held c.first_from-k.result e.order e.number (sym c.in-Some.ensures) in
    is_behind c.args.self.now.held c.args.w.now e.order e.keys c.requires c.in-Some.first c.first_from-k.result s (sym c.comes_before.ensures ∙ c.if-comes_before.true)

pub returns-in-None : goal.returns-in-None
returns-in-None c =
    let e = c.first_from-k.ensures in
    goes_alone c.args.self.now.held c.args.w.now c.first_from-k.result e.order e.number (sym c.in-None.ensures)

pub returns-else-comes_before : goal.returns-else-comes_before
returns-else-comes_before c =
    let e = c.first_from-k.ensures in
    let s = starts_at_first c.args.w.now.due.fs c.in-Some.first c.args.self.now.held c.first_from-k.result e.order e.number (sym c.in-Some.ensures) in
    goes_first c.args.self.now.held c.args.w.now e.order e.keys c.requires c.in-Some.first c.first_from-k.result s (sym c.comes_before.ensures ∙ c.if-comes_before.false)
